use Rattle.std.proofs.Common.{◌≡◌, ◌+◌, ◌-◌, ◌*◌, ◌/◌, ◌<◌, ◌≤◌, length, get_or, pos, nat_abs, sym, ap, ◌∙◌, subst, arith, w64, SFits, rules}
use Rattle.std.proofs.lemmas.List.{get_or-map, length-map}
use Rattle.shares.specs.LargestRemainder.{rounded_down, remainder, remainders, missing, above, cent, remainder_size}
use Rattle.shares.specs.Sizes.{part, shares_by}
use Rattle.shares.specs.Weights.{at}
use Rattle.shares.specs.Workings.{dealt, Edge, held, ties_left}
use Rattle.shares.proofs.Filling.{part_at, unfilled_at, filled_more, filled_up}
use Rattle.shares.specs.Ranks as ranks
use Rattle.shares.specs.Sharing.{length_shares_by}
use Rattle.shares.specs.RemainderLaws.{rounded_down_sum_le, missing_le, none_above_whole, held_remainders}
use Rattle.shares.specs.Totals.{part_le}
use Rattle.shares.proofs.largest_remainder.share_out.Goals as goal
use Rattle.shares.proofs.largest_remainder.share_out.Goals.{After-round_down, After-unsigned_abs-in-loop-i}

pub overflow_sub-cents : goal.overflow_sub-cents
overflow_sub-cents c = omega (arith, c.round_down.ensures.sum, rounded_down_sum_le (nat_abs c.args.division.amount) c.args.weights.now c.requires.divides.none_below_zero)

-- the remainders that the places hold
held_is : (c : After-round_down) → held c.round_down.new.places ≡ remainders (nat_abs c.args.division.amount) c.args.weights.now
held_is c = ap held c.round_down.ensures.remainders ∙ held_remainders (remainders (nat_abs c.args.division.amount) c.args.weights.now)

pub find_edge-edge-requires : goal.find_edge-edge-requires
find_edge-edge-requires c =
    let w = c.args.weights.now in
    let d = c.args.division in
    let v = c.requires.divides in
    let rs = remainders (nat_abs d.amount) w in
    let e = c.round_down.ensures in
    record {
      few = omega (arith, missing_le (nat_abs d.amount) w v.none_below_zero v.some_weight, e.sum, ap length e.remainders, length-map rs pos, length-map w (remainder (nat_abs d.amount) w));
      none =
          ap (above d.total) (held_is (goal.at.find_edge-edge-requires c).After-round_down)
          ∙ ap (λ t. above t rs) v.by_total
          ∙ none_above_whole (nat_abs d.amount) w v.some_weight;
    }

-- the part at hand
part_is : (c : After-unsigned_abs-in-loop-i) → c.unsigned_abs-in-loop-i.result ≡ part c.args.weights.now c.loop-i.i
part_is c =
    let w = c.args.weights.now in
    let f : SFits w64 (at w c.loop-i.i) = search rules in
    part_at w c.loop-i.i _ f c.unsigned_abs-in-loop-i.ensures.value

pub rounded_down-requires : goal.rounded_down-requires
rounded_down-requires c =
    let w = c.args.weights.now in
    omega (arith, part_is c, c.requires.divides.by_total, part_le w c.loop-i.i c.requires.divides.none_below_zero c.loop-i-test.true)

pub loop-i-preserved : goal.loop-i-preserved
loop-i-preserved c =
    let w = c.args.weights.now in
    let d = c.args.division in
    let i = c.loop-i.i in
    let rs = remainders (nat_abs d.amount) w in
    let m = c.size.result - c.round_down.result in
    let t = c.find_edge-edge.result in
    let edge : Edge rs m t = subst (λ xs. Edge xs m t) (held_is (goal.at.loop-i-preserved c).After-round_down) c.find_edge-edge.ensures in
    let long : length rs ≡ length w = length-map w (remainder (nat_abs d.amount) w) in
    let l : i < length rs = omega arith in
    let f : SFits w64 (at c.loop-i.places i) = search rules in
    let g : SFits w64 c.signed.result = search rules in
    let r : c.unsigned_abs.result ≡ get_or rs i 0 =
    part_at c.loop-i.places i _ f c.unsigned_abs.ensures.value
    ∙ ap nat_abs (unfilled_at remainder_size d.amount w c.round_down.new.places c.loop-i.places i c.loop-i-test.true c.loop-i.invariant.0 ∙ ap (λ s. at s i) c.round_down.ensures.remainders ∙ get_or-map pos rs i 0 (pos 0) l) in
    let cent_is : c.deal-cent.result ≡ cent rs (missing (nat_abs d.amount) w) i =
    c.deal-cent.ensures.cent ∙ ap (dealt t c.loop-i.ties) r ∙ ap (λ k. dealt t k (get_or rs i 0)) c.loop-i.invariant.1
    ∙ sym (ranks.cent_dealt rs m t edge i l) ∙ ap (λ n. cent rs (n - c.round_down.result) i) c.size.ensures ∙ ap (λ s. cent rs (nat_abs d.amount - s) i) c.round_down.ensures.sum in
    let floor_is : c.rounded_down.result ≡ rounded_down (nat_abs d.amount) w (at w i) =
    c.rounded_down.ensures.value ∙ ap (λ x. (nat_abs d.amount) * x / d.total) (part_is (goal.at.loop-i-preserved c).After-unsigned_abs-in-loop-i) ∙ ap (λ k. (nat_abs d.amount) * part w i / k) c.requires.divides.by_total in
    let n : c.rounded_down.result + c.deal-cent.result ≡ remainder_size (nat_abs d.amount) w i = omega arith in
    let room : length w ≤ length c.round_down.new.places = omega (arith, ap length c.round_down.ensures.remainders, length-map rs pos) in (
      filled_more remainder_size d.amount w c.round_down.new.places c.loop-i.places i _ _ c.loop-i-test.true room c.loop-i.invariant.0 g c.signed.ensures n,
      c.deal-cent.ensures.left ∙ ap (ties_left t c.loop-i.ties) r ∙ ap (λ k. ties_left t k (get_or rs i 0)) c.loop-i.invariant.1 ∙ sym (ranks.ties_more rs m t edge i l),
    )

pub returns : goal.returns
returns c =
    let w = c.args.weights.now in
    let d = c.args.division in
    let rs = remainders (nat_abs d.amount) w in
    let room : length c.round_down.new.places ≤ c.loop-i.i = omega (arith, ap length c.round_down.ensures.remainders, length-map rs pos, length-map w (remainder (nat_abs d.amount) w)) in
    c.loop-i.invariant.0 ∙ filled_up (shares_by remainder_size d.amount w) c.round_down.new.places c.loop-i.i (omega (arith, length_shares_by remainder_size d.amount w)) room
