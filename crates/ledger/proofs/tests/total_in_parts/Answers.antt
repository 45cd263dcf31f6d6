use Rattle.std.proofs.Common.{◌≡◌, suc, ◌+◌, sym, ap, ◌∙◌, arith}
use Rattle.ledger.specs.Totals.{extent, span, total}
use Rattle.ledger.proofs.Bounds.{joins_fit}
use Rattle.ledger.proofs.Totals.{total_split_pages}
use Rattle.ledger.proofs.tests.total_in_parts.Goals as goal

pub returns : goal.returns
returns g c =
    let kind = g.B.Amount.Amount.kind in
    let laws = g.B.Amount.Amount.laws in
    let m = g.B.Book.means c.args.book.now in
    let w = c.args.extent in
    let x = c.total-early in
    let y = c.total-late in
    let next : c.args.cut + 1 ≡ suc c.args.cut = omega arith in
    c.join.ensures (joins_fit laws m.lines m.lines x.result y.result x.ensures.size y.ensures.size)
    ∙ ap (λ z. kind.joined z y.result) x.ensures.sum
    ∙ ap (kind.joined _) (y.ensures.sum ∙ ap (λ n. total kind m.amount (extent w.code w.participants (span n w.pages.last) w.intervals)) next)
    ∙ sym (total_split_pages laws m.amount w.code w.participants w.pages w.intervals c.args.cut c.requires.0 (omega (arith, c.requires.1)))
