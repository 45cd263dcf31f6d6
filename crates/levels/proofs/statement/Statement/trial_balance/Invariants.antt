use Rattle.std.proofs.Common.{◌≡◌, ℕ, ◌+◌, ◌*◌, ◌≤◌}
use Rattle.ledger.specs.Kinds.{balance}
use Rattle.ledger.specs.Layers.{layer}
use Rattle.ledger.specs.Totals.{members, span, sum}
use Rattle.levels.specs.Terms.{terms_of}
use Rattle.levels.proofs.Balancing.{sided}
use Rattle.levels.proofs.statement.Statement.trial_balance.Given as goal

abbrev pub invariant-loop-participant : goal.invariant-loop-participant
invariant-loop-participant g l =
    (before : ℕ)
    × (before + 1 ≡ l.participant)
    × (l.balance ≡ sum balance (sided (terms_of l.self.opening) (layer g.B.Book l.self.money.now)) (members (span 1 before)))
    × (balance.size l.balance ≤ before * 10_000_000_000_000_000)
