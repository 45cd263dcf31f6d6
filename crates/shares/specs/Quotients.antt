-- Quotients of a size and a part: how large they are, and how near to what they round.
use Rattle.std.specs.Prelude.{◌≡◌, ℕ, ◌+◌, ◌*◌, ◌/◌, ◌≤◌, ◌≢◌}
use Rattle.std.proofs.Common.{⊎_elim, arith, mul_comm, mul_assoc, mul-le-mul_left, add-mul}
use Rattle.std.proofs.Math.Nat.{div-zero, div-le_of_le-mul}
use Rattle.std.proofs.lemmas.Nat.{div_below, mul-le}
use Rattle.std.proofs.lemmas.Bool.{cases_eq}
use Rattle.shares.specs.Nearest.{rounded}
use Rattle.shares.specs.Weights.{weight_limit, amount_limit}

-- within the limits a product fits
pub product_small : (a x t : ℕ) → a ≤ amount_limit → x ≤ t → t ≤ weight_limit → a * x ≤ 4_000_000_000_000_000_000
product_small a x t h k l = mul-le a x amount_limit weight_limit h (omega arith)

-- a part of a size is no larger than the size
pub quotient_le : (a x t : ℕ) → x ≤ t → a * x / t ≤ a
quotient_le a x t h = div-le_of_le-mul t (omega (arith, mul-le-mul_left a h, mul_comm a t))

pub rounded_le : (a x t : ℕ) → x ≤ t → rounded (a * x) t ≤ a
rounded_le a x t h = ⊎_elim none some (cases_eq t 0) where
  none : t ≡ 0 → rounded (a * x) t ≤ a
  none e = rw (e, div-zero (2 * (a * x) + 0)) (omega arith)

  some : (t ≢ 0) → rounded (a * x) t ≤ a
  some e =
      let b = div_below (2 * (a * x) + t) (2 * t) (a + 1) (omega arith) (omega (arith, mul-le-mul_left a h, add-mul a 1 (2 * t), mul_comm a t, mul_comm a (2 * t), mul_assoc 2 t a)) in
      omega arith
