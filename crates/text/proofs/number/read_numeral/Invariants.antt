use Rattle.std.proofs.Common.{◌≡◌, ◌-◌, ◌^◌, ◌≤◌, drop}
use Rattle.text.specs.Numbers.{numeral}
use Rattle.text.proofs.number.read_numeral.Given as goal
use Rattle.text.proofs.Reading.{read_after}

-- what is still to be read gives the number of the whole word
abbrev pub invariant-loop-byte : goal.invariant-loop-byte
invariant-loop-byte l = (l.number ≤ 2 ^ 64 - 1) × (read_after (2 ^ 64 - 1) l.number (drop l.byte-index l.word) ≡ numeral (2 ^ 64 - 1) l.word)
