-- Nearest is fair, and rounds to the nearest cent.
use Rattle.std.specs.Prelude.{◌≡◌, ℕ, ◌+◌, ◌*◌, ◌<◌, pos, ◌*ℤ◌, int_lt, unsigned_abs}
use Rattle.std.proofs.Common.{ap, ◌∙◌, arith, mul-zero, mul_assoc}
use Rattle.std.proofs.Math.Nat.{lt-mul-div-succ, mul-div-le, div-zero, div-eq_of_lt}
use Rattle.std.proofs.lemmas.Int.{ints, unsigned_abs-mul}
use Rattle.shares.specs.Laws.{Fair}
use Rattle.shares.specs.Nearest.{rounded, nearest_size, nearest, RoundsToNearest}
use Rattle.shares.specs.Sizes.{part, whole, shares_by}
use Rattle.shares.specs.Weights.{at, total}
use Rattle.shares.specs.Products.{abs_signed}
use Rattle.shares.specs.Sharing.{at_shares_by, off_share, fair_by_sizes}

-- a rounded quotient s of n and d: s - ½ ≤ n ÷ d < s + ½
pub rounded_low : (n d : ℕ) → 2 * (d * rounded n d) < 2 * n + d + 1
rounded_low n d = omega (arith, mul-div-le (2 * n + d) (2 * d), mul_assoc 2 d (rounded n d))

pub rounded_high : (n d : ℕ) → 0 < d → 2 * n + d < 2 * (d * rounded n d) + 2 * d
rounded_high n d h = let p : 0 < 2 * d = omega arith in omega (arith, lt-mul-div-succ (2 * n + d) p, mul_assoc 2 d (rounded n d))

pub nearest_fair : Fair nearest
unfolding nearest
nearest_fair = fair_by_sizes nearest_size (record {
  not_above = λ a w i s p l. omega (arith, rounded_low (a * part w i) (whole w));
  not_under = λ a w i s p l. omega (arith, rounded_high (a * part w i) (whole w) p);
  no_part_no_size = λ a w i s p l z.
      ap (λ n. rounded (a * n) (whole w)) z
      ∙ ap (λ n. rounded n (whole w)) (mul-zero a)
      ∙ (let h : 2 * 0 + whole w < 2 * whole w = omega arith in div-eq_of_lt h);
  no_whole_no_size = λ w i s z l. ap (rounded (0 * part w i)) z ∙ div-zero (2 * (0 * part w i) + 0);
})

pub rounds_to_nearest : RoundsToNearest
unfolding nearest
rounds_to_nearest = record {
  half_a_cent = λ a w i s p l.
      let n : ℕ = unsigned_abs a * part w i in
      let o = off_share nearest_size a w i s.none_below_zero l in
      let d : 0 < whole w = omega (arith, ints) in
      omega (arith, ints, rounded_low n (whole w), rounded_high n (whole w) d);
  halves_away = λ a w i s p l h.
      let n : ℕ = unsigned_abs a * part w i in
      let o = off_share nearest_size a w i s.none_below_zero l in
      let d : 0 < whole w = omega (arith, ints) in
      let e : unsigned_abs (total w *ℤ at (shares_by nearest_size a w) i) ≡ whole w * nearest_size (unsigned_abs a) w i =
      unsigned_abs-mul (total w) (at (shares_by nearest_size a w) i) ∙ ap (λ x. whole w * unsigned_abs x) (at_shares_by nearest_size a w i l) ∙ ap (λ x. whole w * x) (abs_signed (int_lt a (pos 0)) (nearest_size (unsigned_abs a) w i)) in
      omega (arith, ints, unsigned_abs-mul a (at w i), rounded_low n (whole w), rounded_high n (whole w) d);
}
