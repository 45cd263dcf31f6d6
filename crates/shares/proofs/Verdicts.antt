-- When weights, amounts and places are refused, in the subject's words.
use Rattle.std.proofs.Common.{◌≡◌, ℕ, ◌+◌, ◌<◌, ◌≤◌, Bool, true, false, cond, ◌||◌, ltb, ◌⊎◌, List, length, take, ℤ, pos, nat_abs, ◌≤ℤ◌, ◌<ℤ◌, Some, None, Ok, Err, Decides, refl, ap, inl, inr, ⊎_elim, arith}
use lib.Signed.{lt_z}
use Rattle.std.proofs.lemmas.List.{get_or_default}
use Rattle.std.proofs.lemmas.Int.{ints, by_lt_z}
use Rattle.std.proofs.lemmas.List.Sums.{sum_by-take-le}
use Rattle.std.proofs.lemmas.Bool.{cases_Bool, both_ways, ltb-false, ltb-true}
use Rattle.std.proofs.lemmas.Bool.Decides.{nat_tests, Decides-like, Decides-or, Decides-by_or}
use Rattle.shares.specs.declared.fault.RuleFault.{RuleFault}
use Rattle.shares.specs.declared.fault.RuleFault.TheVariants.{Weights}
use Rattle.shares.specs.Faults.{answered, refusal}
use Rattle.shares.specs.Laws.{Answers, RefusesRightly}
use Rattle.shares.specs.Sizes.{part}
use Rattle.shares.specs.Weights.{weight_limit, amount_limit, at, total, NoneBelowZero, SomeBelowZero, has_negative, weights_outside}
use Rattle.shares.specs.Workings.{weight_refusal}
use Rattle.shares.specs.Totals.{total_is, cases_total, none_below_take, total_more}

decides_ltZ : (x y : ℤ) → Decides (lt_z x y) (x <ℤ y)
decides_ltZ x y = (λ e. grind (arith, ints), λ h. grind (arith, ints))

decides_negative : (w : List ℤ) → Decides (has_negative w) (SomeBelowZero w)
decides_negative w =
    Decides-like (has_negative w) (λ r. (r.0, r.1, r.2 (pos 0))) (λ r. (r.0, r.1, λ d. rw (get_or_default w r.0 d (pos 0) r.1) r.2))
    (Decides-by_or (λ x. lt_z x (pos 0)) (λ x. x <ℤ pos 0) has_negative (λ x. decides_ltZ x (pos 0)) refl (λ _ _. refl) w)

-- weights are outside where one is below 0 or the total is above the limit, and nowhere else
pub decides_outside : (w : List ℤ) → Decides (weights_outside w) (SomeBelowZero w ⊎ (pos weight_limit <ℤ total w))
decides_outside w =
    Decides-or (has_negative w) (lt_z (pos weight_limit) (total w)) (decides_negative w) (decides_ltZ (pos weight_limit) (total w))

-- some weight is below 0, or none
cases_below_zero : (w : List ℤ) → SomeBelowZero w ⊎ NoneBelowZero w
cases_below_zero w = ⊎_elim (λ e. inl ((decides_negative w).0 e)) (λ e. inr (none e)) (cases_Bool (has_negative w)) where
  none : has_negative w ≡ false → NoneBelowZero w
  none e i l = by_lt_z (at w i) (pos 0) (λ h. absurd (both_ways (has_negative w) e ((decides_negative w).1 (i, l, h)))) (λ h. h)

-- a total that only grows: once it is above the limit, the weights are outside
pub outside_by_front : (w : List ℤ) (i t : ℕ) → pos t ≡ total (take i w) → weight_limit < t → weights_outside w ≡ true
outside_by_front w i t e h = (decides_outside w).1 (⊎_elim inl (λ s. inr (above s)) (cases_below_zero w)) where
  above : NoneBelowZero w → pos weight_limit <ℤ total w
  above s = omega (arith, ints, total_is (take i w) (none_below_take w i s), total_is w s, sum_by-take-le nat_abs w i)

pub inside : (w : List ℤ) → NoneBelowZero w → total w ≤ℤ pos weight_limit → weights_outside w ≡ false
inside w s h = ⊎_elim (λ e. absurd (⊎_elim below above ((decides_outside w).0 e))) (λ e. e) (cases_Bool (weights_outside w)) where
  below : SomeBelowZero w → ⊥
  below r = let a = s r.0 r.1 in let b = r.2 in omega (arith, ints)

  above : pos weight_limit <ℤ total w → ⊥
  above k = omega (arith, ints)

-- a weight that is taken is not below 0, and keeps the total within its limit
pub weight_taken : (t s : ℕ) (x : ℤ) → Ok s ≡ answered (weight_refusal t x) (t + nat_abs x) → (pos 0 ≤ℤ x) × (s ≡ t + nat_abs x) × (s ≤ weight_limit)
weight_taken t s x e = by (lt_z x (pos 0)) (ltb weight_limit (t + nat_abs x)) refl refl e where
  by : (b k : Bool) → lt_z x (pos 0) ≡ b → ltb weight_limit (t + nat_abs x) ≡ k → Ok s ≡ answered (cond (b || k) (Some Weights) None) (t + nat_abs x) → (pos 0 ≤ℤ x) × (s ≡ t + nat_abs x) × (s ≤ weight_limit)
  by true k p q e = let z : ◌≡◌ {A = ℕ} 0 1 = cc in absurd (omega arith)
  by false true p q e = let z : ◌≡◌ {A = ℕ} 0 1 = cc in absurd (omega arith)
  by false false p q e = let same : s ≡ t + nat_abs x = cc in (grind (arith, ints), same, omega (arith, ltb-false weight_limit (t + nat_abs x) q))

-- a weight that is refused after the first i puts them all outside
pub weight_refused : (w : List ℤ) (i t : ℕ) (f : RuleFault) → i < length w → pos t ≡ total (take i w) → Err f ≡ answered (weight_refusal t (at w i)) (t + part w i) → (f ≡ Weights) × (weights_outside w ≡ true)
weight_refused w i t f l e h = by (lt_z (at w i) (pos 0)) (ltb weight_limit (t + part w i)) refl refl h where
  by : (b k : Bool) → lt_z (at w i) (pos 0) ≡ b → ltb weight_limit (t + part w i) ≡ k → Err f ≡ answered (cond (b || k) (Some Weights) None) (t + part w i) → (f ≡ Weights) × (weights_outside w ≡ true)
  by true k p q h = (cc, (decides_outside w).1 (inl (i, l, (decides_ltZ (at w i) (pos 0)).0 p)))
  by false true p q h =
      let s : pos 0 ≤ℤ at w i = grind (arith, ints) in
      (cc, outside_by_front w (i + 1) (t + part w i) (total_more w i t l s e) (ltb-true weight_limit (t + part w i) q))
  by false false p q h = let z : ◌≡◌ {A = ℕ} 0 1 = cc in absurd (omega arith)

-- what each check of the table leaves, where all let pass
record Passed (a : ℤ) (w : List ℤ) (n : ℕ) : Type 0 where
  weights_inside : weights_outside w ≡ false
  amount_inside : nat_abs a ≤ amount_limit
  some_weight : nat_abs (total w) ≡ 0 → nat_abs a ≡ 0
  room : length w ≤ n

passed : (a : ℤ) (w : List ℤ) (n : ℕ) → refusal a w n ≡ None → Passed a w n
passed a w n e =
    record {
      weights_inside = grind (arith, nat_tests);
      amount_inside = grind (arith, nat_tests);
      some_weight = λ z. grind (arith, nat_tests);
      room = grind (arith, nat_tests);
    }

none_refused : (a : ℤ) (w : List ℤ) (n : ℕ) → Passed a w n → refusal a w n ≡ None
none_refused a w n p = grind (arith, nat_tests)

zero_size : (a : ℤ) → nat_abs a ≡ 0 → a ≡ pos 0
zero_size a e = omega (arith, ints)

-- a rule grants where it answers and has places enough, and nowhere else
pub granted : (a : ℤ) (w : List ℤ) (n : ℕ) → refusal a w n ≡ None → Answers a w × (length w ≤ n)
granted a w n e = (answers (cases_below_zero w), p.room) where
  p : Passed a w n
  p = passed a w n e

  light : total w ≤ℤ pos weight_limit
  light = by_lt_z (pos weight_limit) (total w) (λ h. absurd (both_ways (weights_outside w) p.weights_inside ((decides_outside w).1 (inr h)))) (λ h. h)

  answers : SomeBelowZero w ⊎ NoneBelowZero w → Answers a w
  answers (inl r) = absurd (both_ways (weights_outside w) p.weights_inside ((decides_outside w).1 (inl r)))
  answers (inr s) = record {
    none_below_zero = s;
    within_weight_limit = light;
    within_amount_limit = p.amount_inside;
    some_weight_or_nothing_to_share = ⊎_elim inl (λ z. inr (zero_size a (p.some_weight (ap nat_abs z)))) (cases_total w s);
  }

pub grants : (a : ℤ) (w : List ℤ) (n : ℕ) → Answers a w → length w ≤ n → refusal a w n ≡ None
grants a w n s room =
    none_refused a w n (record {
      weights_inside = inside w s.none_below_zero s.within_weight_limit;
      amount_inside = s.within_amount_limit;
      some_weight = λ z. ⊎_elim (λ (h : pos 0 <ℤ total w). absurd (omega (arith, ints))) (λ e. ap nat_abs e) s.some_weight_or_nothing_to_share;
      room = room;
    })

pub refuses_rightly : RefusesRightly
refuses_rightly = record { weights = decides_outside; granted = granted; grants = grants }
