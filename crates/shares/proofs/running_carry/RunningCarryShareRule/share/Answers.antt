use Rattle.std.proofs.Common.{◌≡◌, nat_abs, ◌+◌, length, take, ap, ◌∙◌, arith, w64, SFits, rules}
use Rattle.shares.specs.RunningCarry.{carry_size, running_carry}
use Rattle.shares.specs.Sizes.{whole}
use Rattle.shares.specs.Weights.{at}
use Rattle.shares.specs.Workings.{carried}
use Rattle.shares.specs.CarryLaws.{running_more, running_le, carried_to, carried_more}
use Rattle.shares.proofs.Filling.{Admitted, admitted, part_at, filled_more, filled_all, answered_all}
use Rattle.shares.specs.Totals.{whole_take_le}
use Rattle.shares.proofs.running_carry.RunningCarryShareRule.share.Goals as goal
use Rattle.shares.proofs.running_carry.RunningCarryShareRule.share.Goals.{In_ok-division, After-unsigned_abs}

known : (c : In_ok-division) → Admitted c.args.amount c.args.weights.now (length c.args.shares.now) c.in_ok-division.division
known c = admitted _ _ _ _ c.ranges.amount c.in_ok-division.ensures

-- what is carried on with the weight at hand
carried_is : (c : After-unsigned_abs) → carried c.in_ok-division.division c.loop-i.carry c.unsigned_abs.result ≡ carried_to c.in_ok-division.division c.args.weights.now (c.loop-i.i + 1)
carried_is c =
    let w = c.args.weights.now in
    let d = c.in_ok-division.division in
    let v = (known (goal.at.take_in-size-requires c).In_ok-division).divides in
    let f : SFits w64 (at w c.loop-i.i) = search rules in
    ap (λ k. carried d k c.unsigned_abs.result) c.loop-i.invariant.1
    ∙ carried_more d w c.loop-i.i c.unsigned_abs.result v c.loop-i-test.true (part_at w c.loop-i.i _ f c.unsigned_abs.ensures.value)

pub take_in-size-requires : goal.take_in-size-requires
take_in-size-requires c =
    let w = c.args.weights.now in
    let i = c.loop-i.i in
    let d = c.in_ok-division.division in
    let v = (known (goal.at.take_in-size-requires c).In_ok-division).divides in
    let e = carried_is c in
    let weighed : c.loop-i.carry.weighed + c.unsigned_abs.result ≡ whole (take (i + 1) w) = ap (λ k. k.weighed) e in
    record {
      within = omega (arith, v.by_total, whole_take_le w (i + 1) v.none_below_zero);
      grows = omega (arith, ap (λ k. k.running) e, ap (λ k. k.running) c.loop-i.invariant.1, running_more (nat_abs d.amount) w i v.none_below_zero c.loop-i-test.true);
    }

pub signed-requires : goal.signed-requires
signed-requires c =
    let d = c.in_ok-division.division in
    let v = (known (goal.at.signed-requires c).In_ok-division).divides in
    let e = ap (λ k. k.running) (carried_is (goal.at.signed-requires c).After-unsigned_abs) in
    omega (arith, c.take_in-size.ensures.growth, running_le (nat_abs d.amount) c.args.weights.now (c.loop-i.i + 1) v.none_below_zero, d.amount_within)

pub loop-i-preserved : goal.loop-i-preserved
loop-i-preserved c =
    let w = c.args.weights.now in
    let d = c.in_ok-division.division in
    let m = known (goal.at.loop-i-preserved c).In_ok-division in
    let g : SFits w64 c.signed.result = search rules in
    let after : c.take_in-size.new.self ≡ carried_to d w (c.loop-i.i + 1) = cc (carried_is (goal.at.loop-i-preserved c).After-unsigned_abs, c.take_in-size.ensures.after) in
    let n : c.take_in-size.result ≡ carry_size (nat_abs d.amount) w c.loop-i.i =
    omega (arith, c.take_in-size.ensures.growth, ap (λ k. k.running) (carried_is (goal.at.loop-i-preserved c).After-unsigned_abs), ap (λ k. k.running) c.loop-i.invariant.1) in (
      filled_more carry_size d.amount w c.args.shares.now c.loop-i.shares c.loop-i.i _ _ c.loop-i-test.true m.room c.loop-i.invariant.0 g c.signed.ensures n,
      after,
    )

pub returns : goal.returns
unfolding running_carry
returns c =
    let m = known (goal.at.returns c).In_ok-division in
    record {
      answer = answered_all _ _ _ _ m;
      places = filled_all carry_size _ _ _ _ _ _ m (omega arith) c.loop-i.invariant.0;
    }
