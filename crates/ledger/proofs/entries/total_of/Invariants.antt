use Rattle.std.proofs.Common.{◌≡◌, ◌≤◌, length, take}
use Rattle.ledger.specs.Books.{Within}
use Rattle.ledger.specs.Lines.{sum_where}
use Rattle.ledger.specs.Totals.{covers}
use Rattle.ledger.proofs.entries.total_of.Given as goal

abbrev pub invariant-loop-entry : goal.invariant-loop-entry
invariant-loop-entry g l =
    let kind = g.E.Amount.Amount.kind in
    (l.entry-index ≤ length l.entries)
    × Within kind l.entry-index l.sum
    × (l.sum ≡ sum_where kind g.E.Entry.entered (covers l.extent) (take l.entry-index l.entries))
