use Rattle.std.proofs.Common.{arith}
use Rattle.ledger.proofs.Appending.{journal_posted}
use Rattle.ledger.proofs.journal.Journal.append.Goals as goal

pub returns : goal.returns
returns g c =
    let s = c.args.self.now in
    let line = c.args.line in
    journal_posted g.K.Amount.laws s.entries.now s.used line.key line.amount (omega arith) (omega arith) c.requires.allowed
