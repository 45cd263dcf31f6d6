use Rattle.std.proofs.Common.{◌≡◌, ◌≤◌, length, ap, ◌∙◌, subst, arith, rules}
use Rattle.std.proofs.lemmas.List.{take_all}
use Rattle.ledger.specs.Books.{Within}
use Rattle.ledger.specs.Lines.{put, sum_where}
use Rattle.ledger.specs.Totals.{sum, covers}
use Rattle.ledger.proofs.Bounds.{put_size, nought_within, summed_more}
use Rattle.ledger.proofs.Totals.{total_of_lines}
use Rattle.ledger.proofs.entries.total_of.Goals as goal

pub loop-entry-init : goal.loop-entry-init
unfolding sum
loop-entry-init g c = (omega arith, nought_within g.E.Amount.Amount.laws 0 _ (omega arith) c.nought-sum.ensures, c.nought-sum.ensures)

pub loop-entry-preserved : goal.loop-entry-preserved
loop-entry-preserved g c =
    let kind = g.E.Amount.Amount.kind in
    let laws = g.E.Amount.Amount.laws in
    let line = g.E.Entry.entered in
    let test = covers c.args.extent in
    let e = c.entry-item.result in
    let part : c.part_of.result ≡ put kind test (line e) = c.part_of.ensures ∙ ap (put kind test) c.line.ensures in
    let small : kind.size c.part_of.result ≤ kind.largest = omega (arith, ap kind.size part, put_size laws test (line e)) in
    let s = summed_more laws (λ e. put kind test (line e)) c.args.entries.now c.loop-entry.entry-index e c.loop-entry.sum c.part_of.result c.join-sum.result c.loop-entry-test.true (omega arith) (search rules) part small c.loop-entry.invariant.1 c.loop-entry.invariant.2 c.join-sum.ensures in
    (omega arith, s.0, s.1)

pub returns : goal.returns
returns g c =
    let kind = g.E.Amount.Amount.kind in
    let laws = g.E.Amount.Amount.laws in
    let line = g.E.Entry.entered in
    let test = covers c.args.extent in
    let end : c.loop-entry.entry-index ≡ length c.args.entries.now = omega arith in
    record {
      sum =
          c.loop-entry.invariant.2
          ∙ ap (sum_where kind line test) (take_all _ _ c.loop-entry-test.false)
          ∙ total_of_lines laws c.args.extent line c.args.entries.now;
      size = subst (λ n. Within kind n c.loop-entry.sum) end c.loop-entry.invariant.1;
    }
