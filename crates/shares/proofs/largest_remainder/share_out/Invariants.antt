use Rattle.std.proofs.Common.{◌≡◌, nat_abs}
use Rattle.shares.specs.LargestRemainder.{remainders, remainder_size}
use Rattle.shares.proofs.Filling.{filled_to}
use Rattle.shares.specs.Ranks.{ties_before}
use Rattle.shares.proofs.largest_remainder.share_out.Given as goal

abbrev pub invariant-loop-i : goal.invariant-loop-i
invariant-loop-i l =
    (l.places ≡ filled_to remainder_size l.division.amount l.weights l.initial.places l.i)
    × (l.ties ≡ ties_before (remainders (nat_abs l.division.amount) l.weights) l.cents l.edge l.i)
