-- What the laws say of the places that any fair rule has filled.
use Rattle.std.proofs.Common.{◌≡◌, ℕ, ◌+◌, ◌*◌, ◌<◌, ◌≤◌, List, ◌++◌, length, take, drop, ℤ, pos, ◌*ℤ◌, nat_abs, ◌<ℤ◌, None, ap, ◌∙◌, ⊎_elim, mul_comm, mul-le-mul_left, mul-one, mul-add, arith}
use mathlib.Core.Path.{subst⁻¹}
use native.Mathlib.Nat.{lt_of_mul-lt-mul_left}
use Rattle.std.proofs.lemmas.List.{get_or_append_left, take_at}
use Rattle.std.proofs.lemmas.Int.{ints, unsigned_abs-mul}
use Rattle.shares.specs.Faults.{refusal, filled, shared}
use Rattle.shares.specs.Laws.{Answers, Near, Lawful, Fair, Exact, SharedOut, FillsLawfully}
use Rattle.shares.specs.Weights.{Split, at, total}
use Rattle.shares.specs.Products.{abs_from}
use Rattle.shares.specs.Totals.{cases_total, part_le}
use Rattle.shares.proofs.Verdicts.{granted}

size_le : (t a s x : ℕ) → t * s < t + a * x → x ≤ t → s ≤ a
size_le t a s x h le =
    let p : t * s < t * (a + 1) = omega (arith, mul-le-mul_left a le, mul-add t a 1, mul-one t, mul_comm t a) in
    omega (arith, lt_of_mul-lt-mul_left t p)

-- a share that is near its part of an amount is no larger than the amount
near_no_larger : (t a x s : ℤ) → Near t a x s → nat_abs x ≤ nat_abs t → nat_abs s ≤ nat_abs a
near_no_larger t a x s h le =
    size_le (nat_abs t) (nat_abs a) (nat_abs s) (nat_abs x) (omega (arith, ints, abs_from (t *ℤ s) (a *ℤ x), unsigned_abs-mul t s, unsigned_abs-mul a x)) le

no_larger : (a : ℤ) (w s : List ℤ) → Answers a w → Lawful a w s → (i : ℕ) → i < length w → nat_abs (at s i) ≤ nat_abs a
no_larger a w s r law i l = ⊎_elim some none (cases_total w r.none_below_zero) where
  some : pos 0 <ℤ total w → nat_abs (at s i) ≤ nat_abs a
  some h = near_no_larger (total w) a (at w i) (at s i) (law.near h i l) (part_le w i r.none_below_zero l)

  none : total w ≡ pos 0 → nat_abs (at s i) ≤ nat_abs a
  none z = ⊎_elim (λ h. some h) (λ e. omega (arith, ap nat_abs (law.all_zero z e i l))) r.some_weight_or_nothing_to_share

-- the places that a granted call leaves
module _ (split : Split) (a : ℤ) (w places : List ℤ) (fair : Fair split) (none : refusal a w (length places) ≡ None) where
  answers : Answers a w
  answers = (granted a w (length places) none).0

  places_are : shared split a w places ≡ split a w ++ drop (length (split a w)) places
  places_are = ap (λ o. filled o (split a w) places) none

  front : take (length w) (shared split a w places) ≡ split a w
  front = ap (take (length w)) places_are ∙ take_at (split a w) _ (length w) (fair a w answers).one_each

  shared_out : SharedOut a w (shared split a w places)
  shared_out = record {
    answers = answers;
    lawful = subst⁻¹ (Lawful a w) front (fair a w answers);
    no_larger = λ i l.
        let e : at (shared split a w places) i ≡ at (split a w) i = ap (λ s. at s i) places_are ∙ get_or_append_left (split a w) _ (pos 0) i (omega (arith, (fair a w answers).one_each)) in
        rw e (no_larger a w (split a w) answers (fair a w answers) i l);
  }

  shared_exactly : Exact split → pos 0 <ℤ total w → total (take (length w) (shared split a w places)) ≡ a
  shared_exactly exact some = ap total front ∙ exact a w answers some

pub fills_lawfully : FillsLawfully
fills_lawfully = record { fair = shared_out; exact = λ split a w places f e none. shared_exactly split a w places f none e }
