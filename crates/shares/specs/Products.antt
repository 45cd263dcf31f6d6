-- Sizes of products and differences, and how far a signed share is from its part.
use Rattle.std.specs.Prelude.{◌≡◌, ℕ, zero, suc, ◌+◌, ◌-◌, ◌*◌, ◌≤◌, Bool, true, false, ℤ, pos, negsuc, ◌-ℤ◌, neg_ℤ, ◌≤ℤ◌, int_lt, unsigned_abs, refl}
use Rattle.std.proofs.Common.{ap, ◌∙◌, arith, mul-zero}
use Rattle.std.proofs.lemmas.Int.{ints}
use Rattle.std.proofs.lemmas.Bool.{le-ltb}
use Rattle.shares.specs.Laws.{off}
use Rattle.shares.specs.Sizes.{signed}

abs_neg : (n : ℕ) → unsigned_abs (neg_ℤ (pos n)) ≡ n
abs_neg zero = refl
abs_neg (suc n) = refl

pub abs_from : (x y : ℤ) → unsigned_abs x ≤ unsigned_abs (x -ℤ y) + unsigned_abs y
abs_from x y = omega (arith, ints)

pub abs_signed : (b : Bool) (n : ℕ) → unsigned_abs (signed b n) ≡ n
abs_signed false n = refl
abs_signed true n = abs_neg n

-- the distance of two sizes
abbrev pub distance : ℕ → ℕ → ℕ
distance m n = (m - n) + (n - m)

abs_charged : (m n : ℕ) → unsigned_abs (pos m -ℤ pos n) ≡ distance m n
abs_charged m n = omega (arith, ints)

abs_paid : (m n : ℕ) → unsigned_abs (neg_ℤ (pos m) -ℤ neg_ℤ (pos n)) ≡ distance m n
abs_paid m n = omega (arith, ints)

-- a share is as far off its part as its size, with the sign put back
pub off_signed : (a x : ℤ) (t n : ℕ) → pos 0 ≤ℤ x → off (pos t) a x (signed (int_lt a (pos 0)) n) ≡ distance (t * n) (unsigned_abs a * unsigned_abs x)
off_signed (pos m) (pos k) t n h = rw (le-ltb m 0 (omega arith)) (abs_charged (t * n) (m * k))
off_signed (negsuc m) (pos k) t zero h = ap (λ z. unsigned_abs (z -ℤ neg_ℤ (pos (suc m * k)))) (zero_paid (t * 0) (mul-zero t)) ∙ abs_paid (t * 0) (suc m * k) where
  zero_paid : (z : ℕ) → z ≡ 0 → pos z ≡ neg_ℤ (pos z)
  zero_paid z e = omega (arith, ints)
off_signed (negsuc m) (pos k) t (suc n) h = abs_paid (t * suc n) (suc m * k)
off_signed a (negsuc k) t n h = let z : ⊥ = omega (arith, ints) in absurd z
