use Rattle.std.proofs.Common.{◌≡◌, drop}
use Rattle.script.specs.Names.{meaning}
use Rattle.script.proofs.names.meaning_of.Given as goal

-- no name before this one is the word
abbrev pub invariant-loop-name : goal.invariant-loop-name
invariant-loop-name g l = meaning l.word (drop l.name-index l.table) ≡ meaning l.word l.table
