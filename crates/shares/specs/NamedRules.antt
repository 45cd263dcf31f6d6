-- The three rules by their names.
use Rattle.shares.specs.declared.named_rule.NamedRule.{NamedRule}
use Rattle.shares.specs.declared.named_rule.NamedRule.TheVariants.{Nearest, LargestRemainder, RunningCarry}
use Rattle.shares.specs.CarryLaws.{running_carry_fair}
use Rattle.shares.specs.LargestRemainder.{largest_remainder}
use Rattle.shares.specs.Laws.{Fair}
use Rattle.shares.specs.Nearest.{nearest}
use Rattle.shares.specs.NearestLaws.{nearest_fair}
use Rattle.shares.specs.RemainderLaws.{largest_remainder_fair}
use Rattle.shares.specs.RunningCarry.{running_carry}
use Rattle.shares.specs.Weights.{Split}

-- what the rule of a name makes of an amount and weights
abbrev pub split_named : NamedRule → Split
split_named Nearest = nearest
split_named LargestRemainder = largest_remainder
split_named RunningCarry = running_carry

-- each of the three is fair
pub fair_named : (rule : NamedRule) → Fair (split_named rule)
fair_named Nearest = nearest_fair
fair_named LargestRemainder = largest_remainder_fair
fair_named RunningCarry = running_carry_fair
