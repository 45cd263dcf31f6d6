-- Layering: what a layer of adjustments makes of the book below.
use Rattle.std.proofs.Common.{length}
use Rattle.ledger.specs.Books.{Bounded}
use Rattle.ledger.specs.Kinds.{cents}
use Rattle.ledger.specs.Lawful.{cents_laws}
use Rattle.ledger.specs.Layers.{Layer, own, layered, adjusted_line}
use Rattle.ledger.proofs.Bounds.{lines_backed, joined_backed}

-- the amounts of a layer are backed by its lines
pub layered_bounded : (v : Layer) → Bounded cents v.below → Bounded cents (layered v)
layered_bounded v b = joined_backed cents_laws v.below.amount (own v) v.below.lines (length v.held) b (lines_backed cents_laws adjusted_line v.held)
