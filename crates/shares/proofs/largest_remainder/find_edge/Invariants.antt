use Rattle.std.proofs.Common.{◌-◌, ◌≤◌}
use Rattle.shares.specs.LargestRemainder.{above}
use Rattle.shares.specs.Workings.{held}
use Rattle.shares.specs.Ranks.{from}
use Rattle.shares.proofs.largest_remainder.find_edge.Given as goal

abbrev pub invariant-loop-low : goal.invariant-loop-low
invariant-loop-low l = (l.low ≤ l.high) × (l.high ≤ l.most) × (above l.high (held l.remainders) ≤ l.cents) × (l.cents ≤ from l.low (held l.remainders))

abbrev pub decreases-loop-low : goal.decreases-loop-low
decreases-loop-low l = l.high - l.low
