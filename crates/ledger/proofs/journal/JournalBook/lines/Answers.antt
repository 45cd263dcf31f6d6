use Rattle.ledger.specs.Journals.{journal_means}
use Rattle.ledger.proofs.Appending.{journal_bounded}
use Rattle.ledger.proofs.Bounds.{nought_unbacked}
use Rattle.ledger.proofs.journal.JournalBook.lines.Goals as goal

pub returns-clause-bound : goal.returns-clause-bound
returns-clause-bound g c = journal_bounded g.K.Amount.laws c.args.self.now.entries.now c.args.self.now.used

pub returns-clause-empty : goal.returns-clause-empty
returns-clause-empty g c =
    let s = c.args.self.now in
    let m = journal_means g.K.Amount.kind s.entries.now s.used in
    nought_unbacked g.K.Amount.laws m.amount m.lines (journal_bounded g.K.Amount.laws s.entries.now s.used)
