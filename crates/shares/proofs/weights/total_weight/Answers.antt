use Rattle.std.proofs.Common.{◌≡◌, cond, take, pos, nat_abs, ◌≤ℤ◌, Some, None, Err, sym, ap, ◌∙◌, arith, w64, SFits, rules, below_more}
use Rattle.std.proofs.lemmas.List.{take_all}
use Rattle.std.proofs.lemmas.Result.{err_from_is_err_and}
use Rattle.std.proofs.lemmas.Int.{ints, to_z-of_z}
use Rattle.shares.specs.declared.fault.RuleFault.TheVariants.{Weights}
use Rattle.shares.specs.Faults.{answered}
use Rattle.shares.specs.Sizes.{whole}
use Rattle.shares.specs.Weights.{weight_limit, at, total, NoneBelowZero}
use Rattle.shares.specs.Totals.{total_more}
use Rattle.shares.proofs.Verdicts.{inside, weight_taken, weight_refused}
use Rattle.shares.proofs.weights.total_weight.Goals as goal

pub returns-in_err-total-clause-total : goal.returns-in_err-total-clause-total
returns-in_err-total-clause-total c =
    let w = c.args.weights.now in
    let f : SFits w64 (at w c.loop-weight.weight-index) = search rules in
    let r = weight_refused w _ _ _ c.loop-weight-test.true c.loop-weight.invariant.1 (simp to_z-of_z at c.in_err-total.ensures) in
    let e = err_from_is_err_and c.from_residual.result c.from_residual.ensures.1 in
    e.1 ∙ ap Err (e.2 ∙ r.0) ∙ sym (ap (λ b. answered (cond b (Some Weights) None) (whole w)) r.1)

pub loop-weight-preserved : goal.loop-weight-preserved
loop-weight-preserved c =
    let w = c.args.weights.now in
    let f : SFits w64 (at w c.loop-weight.weight-index) = search rules in
    let t = weight_taken _ _ _ (simp to_z-of_z at c.in_ok-total.ensures) in (
      below_more _ _ c.loop-weight.invariant.0 t.0,
      ap pos t.1 ∙ total_more w _ _ c.loop-weight-test.true t.0 c.loop-weight.invariant.1,
      t.2,
    )

pub returns-clause-total : goal.returns-clause-total
returns-clause-total c =
    let w = c.args.weights.now in
    let all : take c.loop-weight.weight-index w ≡ w = take_all c.loop-weight.weight-index w c.loop-weight-test.false in
    let e : pos c.loop-weight.total ≡ total w = c.loop-weight.invariant.1 ∙ ap total all in
    let s : NoneBelowZero w = λ i l. c.loop-weight.invariant.0 i (omega arith) in
    let h : total w ≤ℤ pos weight_limit = omega (arith, ints) in
    sym (ap (λ b. answered (cond b (Some Weights) None) (whole w)) (inside w s h) ∙ ap (λ z. answered None (nat_abs z)) (sym e))
