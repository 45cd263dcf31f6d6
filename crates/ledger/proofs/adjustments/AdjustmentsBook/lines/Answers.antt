use Rattle.ledger.specs.Layers.{layer, layered}
use Rattle.ledger.specs.Lawful.{cents_laws}
use Rattle.ledger.proofs.Bounds.{nought_unbacked}
use Rattle.ledger.proofs.Layering.{layered_bounded}
use Rattle.ledger.proofs.adjustments.AdjustmentsBook.lines.Goals as goal

pub returns-clause-bound : goal.returns-clause-bound
returns-clause-bound g c = layered_bounded (layer g.B.Book c.args.self.now) c.lines.ensures.bound

pub returns-clause-empty : goal.returns-clause-empty
returns-clause-empty g c =
    let v = layer g.B.Book c.args.self.now in
    nought_unbacked cents_laws (layered v).amount (layered v).lines (layered_bounded v c.lines.ensures.bound)
