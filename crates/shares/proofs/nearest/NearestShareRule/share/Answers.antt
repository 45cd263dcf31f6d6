use Rattle.std.proofs.Common.{◌≡◌, ◌*◌, ◌≤◌, length, nat_abs, ap, ◌∙◌, arith, w64, SFits, rules}
use Rattle.shares.specs.Nearest.{rounded, nearest_size, nearest}
use Rattle.shares.specs.Sizes.{part}
use Rattle.shares.specs.Weights.{at}
use Rattle.shares.proofs.Filling.{Admitted, admitted, part_at, filled_more, filled_all, answered_all}
use Rattle.shares.specs.Quotients.{rounded_le}
use Rattle.shares.specs.Totals.{part_le}
use Rattle.shares.proofs.nearest.NearestShareRule.share.Goals as goal
use Rattle.shares.proofs.nearest.NearestShareRule.share.Goals.{In_ok-division, After-unsigned_abs}

known : (c : In_ok-division) → Admitted c.args.amount c.args.weights.now (length c.args.shares.now) c.in_ok-division.division
known c = admitted _ _ _ _ c.ranges.amount c.in_ok-division.ensures

part_within : (c : After-unsigned_abs) → c.unsigned_abs.result ≤ c.in_ok-division.division.total
part_within c =
    let w = c.args.weights.now in
    let v = (known (goal.at.nearest-size-requires c).In_ok-division).divides in
    let f : SFits w64 (at w c.loop-i.i) = search rules in
    let x = part_at w c.loop-i.i _ f c.unsigned_abs.ensures.value in
    omega (arith, v.by_total, part_le w c.loop-i.i v.none_below_zero c.loop-i-test.true)

pub nearest-size-requires : goal.nearest-size-requires
nearest-size-requires c = part_within c

pub signed-requires : goal.signed-requires
signed-requires c =
    let d = c.in_ok-division.division in
    omega (arith, c.nearest-size.ensures, rounded_le (nat_abs d.amount) c.unsigned_abs.result d.total (part_within (goal.at.signed-requires c).After-unsigned_abs), d.amount_within)

pub loop-i-preserved : goal.loop-i-preserved
loop-i-preserved c =
    let w = c.args.weights.now in
    let i = c.loop-i.i in
    let d = c.in_ok-division.division in
    let m = known (goal.at.loop-i-preserved c).In_ok-division in
    let f : SFits w64 (at w i) = search rules in
    let g : SFits w64 c.signed.result = search rules in
    let x : c.unsigned_abs.result ≡ part w i = part_at w i _ f c.unsigned_abs.ensures.value in
    let n : c.nearest-size.result ≡ nearest_size (nat_abs d.amount) w i =
    c.nearest-size.ensures ∙ ap (λ y. rounded (nat_abs d.amount * y) d.total) x ∙ ap (rounded (nat_abs d.amount * part w i)) m.divides.by_total in
    filled_more nearest_size d.amount w c.args.shares.now c.loop-i.shares i _ _ c.loop-i-test.true m.room c.loop-i.invariant g c.signed.ensures n

pub returns : goal.returns
unfolding nearest
returns c =
    let m = known (goal.at.returns c).In_ok-division in
    record {
      answer = answered_all _ _ _ _ m;
      places = filled_all nearest_size _ _ _ _ _ _ m (omega arith) c.loop-i.invariant;
    }
