use Rattle.ledger.proofs.Appending.{journal_unused}
use Rattle.ledger.proofs.journal.Journal.new.Goals as goal

pub returns : goal.returns
returns g c = journal_unused g.K.Amount.kind c.args.places.now
