use Rattle.std.proofs.Common.{◌∙◌}
use Rattle.ledger.proofs.Totals.{total_alike, total_posted}
use Rattle.ledger.proofs.tests.post_then_total.Goals as goal

pub returns : goal.returns
returns g c =
    let laws = g.B.Amount.Amount.laws in
    let posted = c.in_ok-post.ensures.after.amounts in
    c.total.ensures.sum
    ∙ total_alike laws c.args.extent _ _ posted
    ∙ total_posted laws c.args.extent _ c.args.key c.args.amount
