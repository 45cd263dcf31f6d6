use Rattle.std.proofs.Common.{◌≡◌, ℕ, ◌<◌, ◌≤◌, take, pos, ◌≤ℤ◌}
use Rattle.shares.specs.Weights.{weight_limit, at, total}
use Rattle.shares.proofs.weights.total_weight.Given as goal

abbrev pub invariant-loop-weight : goal.invariant-loop-weight
invariant-loop-weight l =
    ((k : ℕ) → k < l.weight-index → pos 0 ≤ℤ at l.weights k)
    × (pos l.total ≡ total (take l.weight-index l.weights))
    × (l.total ≤ weight_limit)
