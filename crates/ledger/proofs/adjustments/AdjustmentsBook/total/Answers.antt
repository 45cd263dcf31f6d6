use Rattle.std.proofs.Common.{◌≡◌, length, sym, ap, ◌∙◌, arith}
use Rattle.ledger.specs.Kinds.{cents}
use Rattle.ledger.specs.Lawful.{cents_laws}
use Rattle.ledger.specs.Layers.{layer, layer_limited, own}
use Rattle.ledger.specs.Totals.{total}
use Rattle.ledger.proofs.Bounds.{joins_fit, joined_within}
use Rattle.ledger.proofs.Totals.{total_joined}
use Rattle.ledger.proofs.adjustments.AdjustmentsBook.total.Goals as goal

pub returns : goal.returns
returns g c =
    let v = layer g.B.Book c.args.self.now in
    let x = c.path_total-system in
    let y = c.path_total-own in
    let joins : c.join.result ≡ cents.joined x.result y.result =
    c.join.ensures (joins_fit cents_laws v.below.lines (length v.held) x.result y.result x.ensures.size y.ensures.size) in
    record {
      sum =
          joins
          ∙ ap (λ z. cents.joined z y.result) x.ensures.sum
          ∙ ap (cents.joined (total cents v.below.amount c.args.extent)) y.ensures.sum
          ∙ sym (total_joined cents_laws c.args.extent v.below.amount (own v));
      size = joined_within cents_laws v.below.lines (length v.held) x.result y.result _ (omega (arith, layer_limited g.B.Book c.args.self.now)) x.ensures.size y.ensures.size joins;
    }
