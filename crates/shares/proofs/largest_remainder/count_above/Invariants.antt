use Rattle.std.proofs.Common.{◌≡◌, ◌≤◌, take}
use Rattle.shares.specs.LargestRemainder.{above}
use Rattle.shares.specs.Workings.{held}
use Rattle.shares.proofs.largest_remainder.count_above.Given as goal

abbrev pub invariant-loop-remainder : goal.invariant-loop-remainder
invariant-loop-remainder l = (l.count ≡ above l.edge (take l.remainder-index (held l.remainders))) × (l.count ≤ l.remainder-index)
