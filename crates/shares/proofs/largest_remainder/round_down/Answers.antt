use Rattle.std.proofs.Common.{◌≡◌, nat_abs, ◌≤◌, ◌+◌, ◌*◌, ◌/◌, ◌%◌, ◌<◌, map, length, take, set, pos, sum_by, sym, ap, ◌∙◌, arith, w64, SFits, to_z, rules}
use Rattle.std.proofs.lemmas.List.{get_or-map, length-map}
use Rattle.std.proofs.lemmas.Int.{to_z_pos}
use Rattle.std.proofs.lemmas.List.Sums.{sum_by_more, sum_by-take-le}
use Rattle.shares.specs.LargestRemainder.{rounded_down, remainder, remainders}
use Rattle.shares.specs.Sizes.{part}
use Rattle.shares.specs.Weights.{at}
use Rattle.shares.proofs.Filling.{part_at, fill_more}
use Rattle.shares.specs.RemainderLaws.{rounded_down_sum_le}
use Rattle.shares.specs.Totals.{part_le}
use Rattle.shares.proofs.largest_remainder.round_down.Goals as goal
use Rattle.shares.proofs.largest_remainder.round_down.Goals.{After-unsigned_abs-part, After-rounded_down-sum}

-- the part at hand
part_is : (c : After-unsigned_abs-part) → c.unsigned_abs-part.result ≡ part c.args.weights.now c.loop-i.i
part_is c =
    let w = c.args.weights.now in
    let f : SFits w64 (at w c.loop-i.i) = search rules in
    part_at w c.loop-i.i _ f c.unsigned_abs-part.ensures.value

part_within : (c : After-unsigned_abs-part) → c.unsigned_abs-part.result ≤ c.args.division.total
part_within c =
    let w = c.args.weights.now in
    omega (arith, part_is c, c.requires.divides.by_total, part_le w c.loop-i.i c.requires.divides.none_below_zero c.loop-i-test.true)

pub rounded_down-sum-requires : goal.rounded_down-sum-requires
rounded_down-sum-requires c = part_within c

pub remainder-requires : goal.remainder-requires
remainder-requires c = part_within (goal.at.remainder-requires c).After-unsigned_abs-part

-- the sum up to the next place
sum_is : (c : After-rounded_down-sum) → c.loop-i.sum + c.rounded_down-sum.result ≡ sum_by (rounded_down (nat_abs c.args.division.amount) c.args.weights.now) (take (c.loop-i.i + 1) c.args.weights.now)
sum_is c =
    let w = c.args.weights.now in
    let d = c.args.division in
    let r : c.rounded_down-sum.result ≡ rounded_down (nat_abs d.amount) w (at w c.loop-i.i) =
    c.rounded_down-sum.ensures.value ∙ ap (λ x. (nat_abs d.amount) * x / d.total) (part_is (goal.at.overflow_add-sum c).After-unsigned_abs-part) ∙ ap (λ t. (nat_abs d.amount) * part w c.loop-i.i / t) c.requires.divides.by_total in
    omega (arith, sum_by_more (rounded_down (nat_abs d.amount) w) w c.loop-i.i (pos 0) c.loop-i-test.true)

pub overflow_add-sum : goal.overflow_add-sum
overflow_add-sum c =
    let w = c.args.weights.now in
    let a = (nat_abs c.args.division.amount) in
    omega (arith, sum_is c, sum_by-take-le (rounded_down a w) w (c.loop-i.i + 1), rounded_down_sum_le a w c.requires.divides.none_below_zero, c.args.division.amount_within)

pub loop-i-preserved : goal.loop-i-preserved
loop-i-preserved c =
    let w = c.args.weights.now in
    let d = c.args.division in
    let i = c.loop-i.i in
    let rs = map pos (remainders (nat_abs d.amount) w) in
    let r : c.remainder.result ≡ remainder (nat_abs d.amount) w (at w i) =
    c.remainder.ensures.value ∙ ap (λ x. (nat_abs d.amount) * x % d.total) (part_is (goal.at.loop-i-preserved c).After-unsigned_abs-part) ∙ ap (λ t. (nat_abs d.amount) * part w i % t) c.requires.divides.by_total in
    let long : length rs ≡ length w = length-map (remainders (nat_abs d.amount) w) pos ∙ length-map w (remainder (nat_abs d.amount) w) in
    let m : i < length (remainders (nat_abs d.amount) w) = omega (arith, length-map w (remainder (nat_abs d.amount) w)) in
    let fits : c.remainder.result < 9223372036854775808 = omega (arith, c.remainder.ensures.within, c.args.division.total_within) in
    let x : to_z w64 c.remainder.result ≡ at rs i =
    to_z_pos w64 c.remainder.result fits ∙ ap pos (r ∙ sym (get_or-map (remainder (nat_abs d.amount) w) w i (pos 0) 0 c.loop-i-test.true)) ∙ sym (get_or-map pos (remainders (nat_abs d.amount) w) i 0 (pos 0) m) in (
      sum_is (goal.at.loop-i-preserved c).After-rounded_down-sum,
      ap (λ s. set s i (to_z w64 c.remainder.result)) c.loop-i.invariant.1 ∙ fill_more rs c.args.places.now i _ (omega arith) (omega (arith, c.requires.places)) x,
    )
