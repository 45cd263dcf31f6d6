-- Reading digits from the left, with an early end once the limit is passed. Assumes nothing.
use Rattle.std.proofs.Common.{◌≡◌, ℕ, ◌+◌, ◌-◌, ◌*◌, ◌<◌, ◌≤◌, cond, ◌&&◌, leb, List, [], ◌∷◌, length, get_or, drop, Some, None, Option, refl, ap, arith}
use Rattle.std.proofs.lemmas.Grind.{common_steps}
use Rattle.std.proofs.lemmas.List.{drop_more, at_drop_all}
use Rattle.std.proofs.lemmas.Bool.{lt-ltb, le-leb}
use Rattle.text.specs.Numbers.{all_digits, value_after, numeral}

-- the number of the digits read after n, where it is at most the limit
abbrev pub read_after : ℕ → ℕ → List ℕ → Option ℕ
read_after most n cs = cond (all_digits cs && leb (value_after n cs) most) (Some (value_after n cs)) None

value_grows : (n : ℕ) (cs : List ℕ) → n ≤ value_after n cs
value_grows n [] = omega arith
value_grows n (c ∷ cs) = omega (arith, value_grows (n * 10 + (c - 48)) cs)

-- a word of one byte or more is read from its left end
pub read_first : (most : ℕ) (w : List ℕ) → 0 < length w → numeral most w ≡ read_after most 0 w
read_first most w some = rw (lt-ltb 0 (length w) some) refl

-- the byte at i is read next
pub read_next : (most n i : ℕ) (w : List ℕ) → i < length w → read_after most n (drop i w) ≡ read_after most n (get_or w i 0 ∷ drop (i + 1) w)
read_next most n i w h = ap (read_after most n) (drop_more w i 0 h)

-- with all read, the number stands
pub read_all : (most n i : ℕ) (w : List ℕ) → length w ≤ i → n ≤ most → read_after most n (drop i w) ≡ Some n
read_all most n i w h le = grind (arith, common_steps, at_drop_all (read_after most n) w i h, le-leb n most le)

-- past the limit there is no number, whatever follows
pub read_beyond : (most n c : ℕ) (cs : List ℕ) → most < n * 10 + (c - 48) → read_after most n (c ∷ cs) ≡ None
read_beyond most n c cs h = grind (arith, common_steps, value_grows (n * 10 + (c - 48)) cs)

pub ruleset reading = (read_first, read_next, read_all, read_beyond)
