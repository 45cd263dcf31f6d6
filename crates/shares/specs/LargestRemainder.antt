-- The rule largest remainder: each part is rounded down, and the missing cents go to the largest remainders.
use Rattle.std.specs.Prelude.{ℕ, ◌+◌, ◌-◌, ◌*◌, ◌/◌, ◌%◌, cond, ltb, List, map, take, ℤ, sum_by, count_by, nat_eq, nat_lt, slice_index, unsigned_abs}
use Rattle.shares.specs.Weights.{Split, at}
use Rattle.shares.specs.Sizes.{Sizing, whole, shares_by}

-- the part of the weight x, rounded down
abbrev pub rounded_down : ℕ → List ℤ → ℤ → ℕ
rounded_down a w x = a * unsigned_abs x / whole w

-- what rounding down leaves of it
abbrev pub remainder : ℕ → List ℤ → ℤ → ℕ
remainder a w x = a * unsigned_abs x % whole w

abbrev pub remainders : ℕ → List ℤ → List ℕ
remainders a w = map (remainder a w) w

-- the cents that are missing once every part is rounded down
abbrev pub missing : ℕ → List ℤ → ℕ
missing a w = a - sum_by (rounded_down a w) w

-- how many remainders are larger than r
abbrev pub above : ℕ → List ℕ → ℕ
above r rs = count_by (λ x. ltb r x) rs

-- how many are the same
abbrev pub alike : ℕ → List ℕ → ℕ
alike r rs = count_by (λ x. nat_eq x r) rs

-- how many places come before place i: all with a larger remainder, and the lower ones with the same
abbrev pub rank : List ℕ → ℕ → ℕ
rank rs i = above (slice_index rs i) rs + alike (slice_index rs i) (take i rs)

-- of m cents, one for each place that fewer than m places come before
abbrev pub cent : List ℕ → ℕ → ℕ → ℕ
cent rs m i = cond (nat_lt (rank rs i) m) 1 0

abbrev pub remainder_size : Sizing
remainder_size a w i = rounded_down a w (at w i) + cent (remainders a w) (missing a w) i

unfoldable pub largest_remainder : Split
largest_remainder = shares_by remainder_size
