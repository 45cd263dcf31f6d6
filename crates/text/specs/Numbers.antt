-- The numbers that a script can write. Assumes nothing.
use Rattle.std.specs.Prelude.{ℕ, ◌+◌, ◌-◌, ◌*◌, ◌^◌, Bool, true, cond, ◌&&◌, List, [], ◌∷◌, length, drop, ℤ, pos, neg_ℤ, Some, None, Option, ◌==◌, nat_le, nat_lt, slice_index}
use Rattle.std.specs.Option.{option_map}

-- the bytes `0` to `9`
abbrev pub digit : ℕ → Bool
digit c = nat_le 48 c && nat_le c 57

abbrev pub all_digits : List ℕ → Bool
all_digits [] = true
all_digits (c ∷ cs) = digit c && all_digits cs

-- the number that digits write, after those that wrote n
abbrev pub value_after : ℕ → List ℕ → ℕ
value_after n [] = n
value_after n (c ∷ cs) = value_after (n * 10 + (c - 48)) cs

-- the number of a word of one or more digits, where it is at most the limit
abbrev pub numeral : ℕ → List ℕ → Option ℕ
numeral most w =
    cond (nat_lt 0 (length w) && (all_digits w && nat_le (value_after 0 w) most)) (Some (value_after 0 w)) None

-- a number from 0 to 4294967295
abbrev pub unsigned_number : List ℕ → Option ℕ
unsigned_number w = numeral (2 ^ 32 - 1) w

-- a number of 64 bits, with a `-` first where it is negative
abbrev pub signed_number : List ℕ → Option ℤ
signed_number w =
    cond (slice_index w 0 == 45) (option_map (λ n. neg_ℤ (pos n)) (numeral (2 ^ 63) (drop 1 w)))
    (option_map pos (numeral (2 ^ 63 - 1) w))
