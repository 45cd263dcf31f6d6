use Rattle.std.proofs.Common.{◌≡◌, ◌+◌, ◌<◌, ◌≤◌, ltb, length, get_or, pos, nat_abs, sym, ap, ◌∙◌, arith, w64, SFits, rules}
use Rattle.std.proofs.lemmas.List.{take_all, get_or-map, length-map}
use Rattle.std.proofs.lemmas.List.Sums.{count_by_more_yes, count_by_more_no}
use Rattle.std.proofs.lemmas.Bool.{lt-ltb, le-ltb}
use Rattle.shares.specs.LargestRemainder.{above}
use Rattle.shares.specs.Weights.{at}
use Rattle.shares.specs.Workings.{held}
use Rattle.shares.proofs.Filling.{part_at}
use Rattle.shares.proofs.largest_remainder.count_above.Goals as goal
use Rattle.shares.proofs.largest_remainder.count_above.Goals.{then-unsigned_abs-edge, else-unsigned_abs-edge}

pub loop-remainder-preserved : goal.loop-remainder-preserved
loop-remainder-preserved c =
    let xs = c.args.remainders.now in
    let i = c.loop-remainder.remainder-index in
    let edge = c.args.edge in
    let f : SFits w64 (at xs i) = search rules in
    let l : i < length (held xs) = omega (arith, length-map xs nat_abs) in
    let r : c.unsigned_abs.result ≡ get_or (held xs) i 0 = part_at xs i _ f c.unsigned_abs.ensures.value ∙ sym (get_or-map nat_abs xs i (pos 0) 0 c.loop-remainder-test.true) in
    elim c.if-unsigned_abs-edge.branch [
      | then-unsigned_abs-edge v ↦
          let h : edge < get_or (held xs) i 0 = omega (arith, v.if-unsigned_abs-edge.true) in
          (v.count-is ∙ ap (λ n. n + 1) c.loop-remainder.invariant.0 ∙ sym (count_by_more_yes (λ y. ltb edge y) (held xs) i 0 l (lt-ltb edge (get_or (held xs) i 0) h)), omega (arith, v.count-is))
      | else-unsigned_abs-edge v ↦
          let h : get_or (held xs) i 0 ≤ edge = omega (arith, v.if-unsigned_abs-edge.false) in
          (v.count-is ∙ c.loop-remainder.invariant.0 ∙ sym (count_by_more_no (λ y. ltb edge y) (held xs) i 0 l (le-ltb edge (get_or (held xs) i 0) h)), omega (arith, v.count-is))
    ]

pub returns : goal.returns
returns c =
    let xs = c.args.remainders.now in
    c.loop-remainder.invariant.0 ∙ ap (above c.args.edge) (take_all c.loop-remainder.remainder-index (held xs) (omega (arith, length-map xs nat_abs)))
