use Rattle.std.proofs.Common.{ap, ◌∙◌}
use Rattle.ledger.specs.Lawful.{cents_laws}
use Rattle.ledger.specs.Layers.{layer, adjusted_at}
use Rattle.ledger.proofs.Adjusting.{own_adjusted, marked_pushed}
use Rattle.ledger.proofs.Totals.{total_alike, total_posted}
use Rattle.ledger.proofs.tests.adjust_then_ask.Goals as goal

pub returns : goal.returns
returns g c =
    let before = layer g.B.Book c.args.money.now in
    let after = layer g.B.Book c.adjust.new.self in
    let granted = c.in_ok-adjust.ensures in
    record {
      path =
          c.path_total.ensures.sum
          ∙ total_alike cents_laws c.args.extent _ _ (own_adjusted before after c.args.key c.args.amount _ granted.answer granted.after)
          ∙ total_posted cents_laws c.args.extent _ c.args.key c.args.amount;
      mark =
          c.adjusted_at.ensures
          ∙ ap (λ v. adjusted_at v.held c.args.asked) granted.after.holds
          ∙ marked_pushed before.held _ c.args.asked;
    }
