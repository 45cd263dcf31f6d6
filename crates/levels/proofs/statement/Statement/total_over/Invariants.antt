use Rattle.std.proofs.Common.{◌≡◌, ◌*◌, ◌≤◌, take, nat_abs}
use Rattle.ledger.specs.Kinds.{cents}
use Rattle.ledger.specs.Layers.{layer}
use Rattle.ledger.specs.Totals.{sum}
use Rattle.levels.specs.Scopes.{amounts_by}
use Rattle.levels.specs.Terms.{terms_of}
use Rattle.levels.specs.Workings.{found_in}
use Rattle.levels.proofs.statement.Statement.total_over.Given as goal

abbrev pub invariant-loop-entry : goal.invariant-loop-entry
invariant-loop-entry g l =
    (l.sum ≡ sum cents (found_in (terms_of l.self.opening) l.scope (amounts_by l.path (layer g.B.Book l.self.money.now))) (take l.entry-index l.entry-items))
    × (nat_abs l.sum.0 ≤ l.entry-index * 10_000_000_000_000_000)
