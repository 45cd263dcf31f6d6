use Rattle.std.proofs.Common.{◌≡◌}
use Rattle.script.specs.Readings.{ahead, all_signed}
use Rattle.text.specs.Taking.{to_come}
use Rattle.script.proofs.arguments.Arguments.all_signed.Given as goal

-- what is left gives the answer of the whole
abbrev pub invariant-loop-word : goal.invariant-loop-word
invariant-loop-word l = all_signed (to_come l.word-iterator) ≡ all_signed (ahead l.initial.self)
