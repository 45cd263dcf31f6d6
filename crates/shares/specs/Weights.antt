-- Weights: what an amount is divided by, and which of them a rule takes.
use Rattle.std.specs.Prelude.{ℕ, ◌<◌, Bool, false, ◌||◌, List, [], ◌∷◌, length, ℤ, pos, ◌+ℤ◌, ◌≤ℤ◌, ◌<ℤ◌, int_lt, slice_index_or}

-- the largest total of weights
abbrev pub weight_limit : ℕ
weight_limit = 40_000_000_000

-- the largest size of an amount
abbrev pub amount_limit : ℕ
amount_limit = 100_000_000

-- what a rule makes of an amount and weights: one share for each weight
abbrev pub Split : Type 0
Split = ℤ → List ℤ → List ℤ

-- what stands at place i; the lowest participant has place 0
abbrev pub at : List ℤ → ℕ → ℤ
at xs i = slice_index_or xs i (pos 0)

-- the total of weights, or of shares
abbrev pub total : List ℤ → ℤ
total [] = pos 0
total (x ∷ xs) = x +ℤ total xs

-- no weight is below 0
abbrev pub NoneBelowZero : List ℤ → Type 0
NoneBelowZero w = (i : ℕ) → i < length w → pos 0 ≤ℤ at w i

-- some weight is below 0
abbrev pub SomeBelowZero : List ℤ → Type 0
SomeBelowZero w = (i : ℕ) × (i < length w) × (at w i <ℤ pos 0)

-- the same as a test
abbrev pub has_negative : List ℤ → Bool
has_negative [] = false
has_negative (x ∷ xs) = int_lt x (pos 0) || has_negative xs

-- weights that no rule takes: one is below 0, or their total is above the limit
abbrev pub weights_outside : List ℤ → Bool
weights_outside w = has_negative w || int_lt (pos weight_limit) (total w)
