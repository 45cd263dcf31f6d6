-- How a rule works on sizes: it divides the amount's size by the weights' total, and puts the sign back after.
use Rattle.std.specs.Prelude.{ℕ, Bool, true, false, List, map, length, ℤ, pos, neg_ℤ, int_lt, unsigned_abs}
use Rattle.std.specs.List.{range_with_len}
use Rattle.shares.specs.Weights.{at, total}

-- the size of the weight at place i
abbrev pub part : List ℤ → ℕ → ℕ
part w i = unsigned_abs (at w i)

-- the size of the weights' total
abbrev pub whole : List ℤ → ℕ
whole w = unsigned_abs (total w)

-- a size with its sign put back
abbrev pub signed : Bool → ℕ → ℤ
signed false n = pos n
signed true n = neg_ℤ (pos n)

-- how large the share at each place is, by the amount's size and the weights
abbrev pub Sizing : Type 0
Sizing = ℕ → List ℤ → ℕ → ℕ

-- the shares of a by w
abbrev pub shares_by : Sizing → ℤ → List ℤ → List ℤ
shares_by size a w = map (λ i. signed (int_lt a (pos 0)) (size (unsigned_abs a) w i)) (range_with_len 0 (length w))
