-- The rule nearest: each part is rounded to the nearest cent, halves away from zero.
use Rattle.std.specs.Prelude.{◌≡◌, ℕ, ◌+◌, ◌*◌, ◌/◌, ◌<◌, List, length, ℤ, pos, ◌*ℤ◌, ◌≤ℤ◌, ◌<ℤ◌, unsigned_abs}
use Rattle.shares.specs.Laws.{Answers, off}
use Rattle.shares.specs.Sizes.{Sizing, part, whole, shares_by}
use Rattle.shares.specs.Weights.{Split, at, total}

-- n ÷ d and a half, rounded down: the nearest whole number, halves up
abbrev pub rounded : ℕ → ℕ → ℕ
rounded n d = (2 * n + d) / (2 * d)

abbrev pub nearest_size : Sizing
nearest_size a w i = rounded (a * part w i) (whole w)

unfoldable pub nearest : Split
nearest = shares_by nearest_size

-- Nearest in the subject's words: no share is more than half a cent from the exact part, and halves go away from zero.
pub record RoundsToNearest : Type 0 where
  pub half_a_cent : (a : ℤ) (w : List ℤ) (i : ℕ) → Answers a w → pos 0 <ℤ total w → i < length w
      → pos (2 * off (total w) a (at w i) (at (nearest a w) i)) ≤ℤ total w
  pub halves_away : (a : ℤ) (w : List ℤ) (i : ℕ) → Answers a w → pos 0 <ℤ total w → i < length w
      → pos (2 * off (total w) a (at w i) (at (nearest a w) i)) ≡ total w
      → unsigned_abs (a *ℤ at w i) < unsigned_abs (total w *ℤ at (nearest a w) i)
