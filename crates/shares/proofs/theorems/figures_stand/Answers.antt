use Rattle.std.proofs.Common.{refl}
use Rattle.shares.specs.LargestRemainder.{largest_remainder}
use Rattle.shares.specs.Nearest.{nearest}
use Rattle.shares.specs.RunningCarry.{running_carry}
use Rattle.shares.proofs.theorems.figures_stand.Goals as goal

pub returns : goal.returns
unfolding nearest largest_remainder running_carry
returns c = record {
  demands_nearest = refl;
  demands_largest_remainder = refl;
  demands_running_carry = refl;
  cent_nearest = refl;
  cent_largest_remainder = refl;
  cent_running_carry = refl;
  paid_nearest = refl;
  paid_largest_remainder = refl;
  paid_running_carry = refl;
  dollar_nearest = refl;
  dollar_largest_remainder = refl;
  dollar_running_carry = refl;
  nothing_granted = refl;
  nothing_nearest = refl;
  nothing_largest_remainder = refl;
  nothing_running_carry = refl;
  something_refused = refl;
  most_granted = refl;
  most_nearest = refl;
  most_largest_remainder = refl;
  most_running_carry = refl;
  more_refused = refl;
  heaviest_granted = refl;
  heavier_refused = refl;
  negative_refused = refl;
}
