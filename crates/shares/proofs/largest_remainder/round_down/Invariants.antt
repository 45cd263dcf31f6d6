use Rattle.std.proofs.Common.{◌≡◌, ◌++◌, map, take, drop, pos, nat_abs, sum_by}
use Rattle.shares.specs.LargestRemainder.{rounded_down, remainders}
use Rattle.shares.proofs.largest_remainder.round_down.Given as goal

abbrev pub invariant-loop-i : goal.invariant-loop-i
invariant-loop-i l =
    (l.sum ≡ sum_by (rounded_down (nat_abs l.division.amount) l.weights) (take l.i l.weights))
    × (l.places ≡ take l.i (map pos (remainders (nat_abs l.division.amount) l.weights)) ++ drop l.i l.initial.places)
