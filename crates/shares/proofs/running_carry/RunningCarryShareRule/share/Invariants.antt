use Rattle.std.proofs.Common.{◌≡◌}
use Rattle.shares.specs.RunningCarry.{carry_size}
use Rattle.shares.specs.CarryLaws.{carried_to}
use Rattle.shares.proofs.Filling.{filled_to}
use Rattle.shares.proofs.running_carry.RunningCarryShareRule.share.Given as goal

abbrev pub invariant-loop-i : goal.invariant-loop-i
invariant-loop-i l =
    (l.shares ≡ filled_to carry_size l.division.amount l.weights l.initial.shares l.i)
    × (l.carry ≡ carried_to l.division l.weights l.i)
