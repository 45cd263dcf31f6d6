use Rattle.std.proofs.Common.{◌≡◌}
use Rattle.shares.specs.Nearest.{nearest_size}
use Rattle.shares.proofs.Filling.{filled_to}
use Rattle.shares.proofs.nearest.NearestShareRule.share.Given as goal

abbrev pub invariant-loop-i : goal.invariant-loop-i
invariant-loop-i l = l.shares ≡ filled_to nearest_size l.division.amount l.weights l.initial.shares l.i
