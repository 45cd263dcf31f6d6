-- Running carry is fair and exact.
use Rattle.std.specs.Prelude.{◌≡◌, ℕ, ◌+◌, ◌-◌, ◌*◌, ◌/◌, ◌<◌, ◌≤◌, List, length, take, ℤ, ◌≢◌, unsigned_abs}
use Rattle.std.proofs.Common.{ap, ◌∙◌, ⊎_elim, arith, mul-add, mul-div_cancel, mul-le-mul_left, mul-zero}
use Rattle.std.proofs.Math.Nat.{div-zero, zero-div, lt-mul-div-succ, mul-div-le, mul-sub}
use Rattle.std.proofs.lemmas.Nat.{le-div}
use Rattle.std.proofs.lemmas.List.{take_all}
use Rattle.std.proofs.lemmas.Bool.{cases_eq}
use Rattle.shares.specs.declared.division.Division.{Division}
use Rattle.shares.specs.declared.running_carry.Carry.{Carry}
use Rattle.shares.specs.Laws.{Fair, Exact}
use Rattle.shares.specs.RunningCarry.{running, carry_size, running_carry}
use Rattle.shares.specs.Sizes.{part, whole}
use Rattle.shares.specs.Weights.{NoneBelowZero}
use Rattle.shares.specs.Workings.{carried, Divides}
use Rattle.shares.specs.Quotients.{quotient_le}
use Rattle.shares.specs.Sharing.{fair_by_sizes, exact_by_sizes}
use Rattle.shares.specs.Totals.{whole_more, whole_take_le}

div_mono : (m n k : ℕ) → m ≤ n → m / k ≤ n / k
div_mono m n k h = ⊎_elim none some (cases_eq k 0) where
  none : k ≡ 0 → m / k ≤ n / k
  none e = rw (e, div-zero m) (omega arith)

  some : (k ≢ 0) → m / k ≤ n / k
  some e = le-div (m / k) n k (omega arith) (omega (arith, mul-div-le m k))

-- the running total only grows: the one before and the carry make it up
pub running_more : (a : ℕ) (w : List ℤ) (i : ℕ) → NoneBelowZero w → i < length w → running a w (i + 1) ≡ running a w i + carry_size a w i
running_more a w i s l =
    let m : whole (take i w) ≤ whole (take (i + 1) w) = omega (arith, whole_more w i s l) in
    omega (arith, div_mono (a * whole (take i w)) (a * whole (take (i + 1) w)) (whole w) (mul-le-mul_left a m))

pub running_le : (a : ℕ) (w : List ℤ) (i : ℕ) → NoneBelowZero w → running a w i ≤ a
running_le a w i s = quotient_le a (whole (take i w)) (whole w) (whole_take_le w i s)

-- of p and x more, the rounded-down parts differ by about x's own
carry_low : (a t p x : ℕ) → 0 < t → t * (a * (p + x) / t - a * p / t) < a * x + t
carry_low a t p x h =
    omega (arith, mul-sub t (a * (p + x) / t) (a * p / t), mul-add a p x, mul-div-le (a * (p + x)) t, lt-mul-div-succ (a * p) h)

carry_high : (a t p x : ℕ) → 0 < t → a * x < t * (a * (p + x) / t - a * p / t) + t
carry_high a t p x h =
    omega (arith, mul-sub t (a * (p + x) / t) (a * p / t), mul-add a p x, mul-div-le (a * p) t, lt-mul-div-succ (a * (p + x)) h)

pub running_carry_fair : Fair running_carry
unfolding running_carry
running_carry_fair = fair_by_sizes carry_size (record {
  not_above = λ a w i s p l. rw (whole_more w i s l) (carry_low a (whole w) (whole (take i w)) (part w i) p);
  not_under = λ a w i s p l. rw (whole_more w i s l) (carry_high a (whole w) (whole (take i w)) (part w i) p);
  no_part_no_size = λ a w i s p l z.
      let e : whole (take (i + 1) w) ≡ whole (take i w) = omega (arith, whole_more w i s l) in
      rw e (omega arith);
  no_whole_no_size = λ w i s z l. rw (z, div-zero (0 * whole (take (i + 1) w)), div-zero (0 * whole (take i w)));
})

pub running_carry_exact : Exact running_carry
unfolding running_carry
running_carry_exact = exact_by_sizes carry_size (λ a w s p. record {
  sums = running a w;
  sums_none = ap (λ n. n / whole w) (mul-zero a) ∙ zero-div (whole w);
  sums_more = λ i l. running_more a w i s l;
  sums_all = ap (λ v. a * whole v / whole w) (take_all (length w) w (omega arith)) ∙ mul-div_cancel a p;
})

-- what is carried to place i
abbrev pub carried_to : Division → List ℤ → ℕ → Carry
carried_to d w i = record { weighed = whole (take i w); running = running (unsigned_abs d.amount) w i }

pub carried_more : (d : Division) (w : List ℤ) (i x : ℕ) → Divides d w → i < length w → x ≡ part w i → carried d (carried_to d w i) x ≡ carried_to d w (i + 1)
carried_more d w i x v l e =
    let m : whole (take i w) + x ≡ whole (take (i + 1) w) = omega (arith, whole_more w i v.none_below_zero l) in
    ap (λ p. record { weighed = p; running = unsigned_abs d.amount * p / d.total }) m
    ∙ ap (λ t. record { weighed = whole (take (i + 1) w); running = unsigned_abs d.amount * whole (take (i + 1) w) / t }) v.by_total
