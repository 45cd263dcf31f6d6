use Rattle.std.proofs.Common.{◌≡◌, ◌<◌, length, refl, ap, ◌∙◌, arith}
use Rattle.std.proofs.lemmas.List.{take_all}
use Rattle.ledger.specs.Kinds.{cents}
use Rattle.ledger.specs.Layers.{layer}
use Rattle.ledger.specs.Totals.{sum}
use Rattle.tariff.proofs.TariffSound.{tariff_sound}
use Rattle.levels.specs.Scopes.{amounts_by}
use Rattle.levels.specs.Terms.{terms_of}
use Rattle.levels.specs.Workings.{found_in}
use Rattle.levels.proofs.Finding.{found_all}
use Rattle.levels.proofs.Sums.{found_more}
use Rattle.levels.proofs.statement.Statement.total_over.Goals as goal

pub loop-entry-init : goal.loop-entry-init
unfolding sum
loop-entry-init g c = (refl, omega arith)

pub loop-entry-preserved : goal.loop-entry-preserved
loop-entry-preserved g c =
    let o = c.args.self.now.opening in
    let items = c.table-entry-items.result.now in
    let count : length items ≡ 127 = ap length c.table-entry-items.ensures ∙ (tariff_sound o.month.year o.month.month).count in
    let i = c.loop-entry.entry-index in
    let inv = c.loop-entry.invariant in
    let here : i < length items = omega arith in
    found_more
    (found_in (terms_of o) c.args.scope (amounts_by c.args.path (layer g.B.Book c.args.self.now.money.now)))
    items i (0, 0) c.loop-entry.sum c.entry_total.result c.join-sum.result here (omega arith) c.entry_total.ensures.sum c.entry_total.ensures.size inv.0 inv.1 c.join-sum.ensures

pub returns : goal.returns
returns g c =
    let o = c.args.self.now.opening in
    let items = c.table-entry-items.result.now in
    let count : length items ≡ 127 = ap length c.table-entry-items.ensures ∙ (tariff_sound o.month.year o.month.month).count in
    let inv = c.loop-entry.invariant in
    let f = found_in (terms_of o) c.args.scope (amounts_by c.args.path (layer g.B.Book c.args.self.now.money.now)) in
    record {
      sum =
          inv.0
          ∙ ap (sum cents f) (take_all c.loop-entry.entry-index items c.loop-entry-test.false ∙ c.table-entry-items.ensures)
          ∙ found_all (terms_of o) c.args.scope (amounts_by c.args.path (layer g.B.Book c.args.self.now.money.now));
      size = omega (arith, inv.1, count, c.loop-entry.auto);
    }
