-- Shares by their sizes: what of the sizes makes a rule fair, and what makes it exact.
use Rattle.std.specs.Prelude.{◌≡◌, ℕ, zero, suc, ◌+◌, ◌*◌, ◌<◌, Bool, true, false, List, map, length, ℤ, pos, negsuc, ◌+ℤ◌, ◌<ℤ◌, int_lt, unsigned_abs, refl}
use Rattle.std.proofs.Common.{sym, ap, ◌∙◌, arith, add-one}
use Rattle.std.specs.List.{range_with_len}
use Rattle.std.proofs.lemmas.List.FromFn.{length-map-range_with_len, get_or-map-range_with_len, map-range_with_len_more}
use Rattle.std.proofs.lemmas.Int.{ints}
use Rattle.std.proofs.lemmas.Bool.{le-ltb}
use Rattle.shares.specs.Laws.{off, Near, Fair, Exact}
use Rattle.shares.specs.Sizes.{Sizing, part, whole, signed, shares_by}
use Rattle.shares.specs.Weights.{at, total, NoneBelowZero}
use Rattle.shares.specs.Products.{distance, off_signed}
use Rattle.shares.specs.Totals.{total_push, total_whole}

pub length_shares_by : (size : Sizing) (a : ℤ) (w : List ℤ) → length (shares_by size a w) ≡ length w
length_shares_by size a w = length-map-range_with_len (λ i. signed (int_lt a (pos 0)) (size (unsigned_abs a) w i)) 0 (length w)

pub at_shares_by : (size : Sizing) (a : ℤ) (w : List ℤ) (i : ℕ) → i < length w → at (shares_by size a w) i ≡ signed (int_lt a (pos 0)) (size (unsigned_abs a) w i)
at_shares_by size a w i l = get_or-map-range_with_len (λ j. signed (int_lt a (pos 0)) (size (unsigned_abs a) w j)) 0 (length w) i i (pos 0) l (omega arith)

pub signed_zero : (b : Bool) → signed b 0 ≡ pos 0
signed_zero false = refl
signed_zero true = refl

-- an amount is its size with its sign put back
pub signed_own : (a : ℤ) → signed (int_lt a (pos 0)) (unsigned_abs a) ≡ a
signed_own (pos n) = ap (λ b. signed b n) (le-ltb n 0 (omega arith))
signed_own (negsuc n) = refl

signed_add : (b : Bool) (m n : ℕ) → signed b m +ℤ signed b n ≡ signed b (m + n)
signed_add false m n = refl
signed_add true m n = omega (arith, ints)

-- a share is as far off as its size
pub off_share : (size : Sizing) (a : ℤ) (w : List ℤ) (i : ℕ) → NoneBelowZero w → i < length w → off (total w) a (at w i) (at (shares_by size a w) i) ≡ distance (whole w * size (unsigned_abs a) w i) (unsigned_abs a * part w i)
off_share size a w i s l =
    ap (λ x. off (total w) a (at w i) x) (at_shares_by size a w i l)
    ∙ ap (λ t. off t a (at w i) (signed (int_lt a (pos 0)) (size (unsigned_abs a) w i))) (total_whole w s)
    ∙ off_signed a (at w i) (whole w) (size (unsigned_abs a) w i) (s i l)

-- what of the sizes makes a rule fair
pub record FairSizes (size : Sizing) : Type 0 where
  pub not_above : (a : ℕ) (w : List ℤ) (i : ℕ) → NoneBelowZero w → 0 < whole w → i < length w → whole w * size a w i < a * part w i + whole w
  pub not_under : (a : ℕ) (w : List ℤ) (i : ℕ) → NoneBelowZero w → 0 < whole w → i < length w → a * part w i < whole w * size a w i + whole w
  pub no_part_no_size : (a : ℕ) (w : List ℤ) (i : ℕ) → NoneBelowZero w → 0 < whole w → i < length w → part w i ≡ 0 → size a w i ≡ 0
  pub no_whole_no_size : (w : List ℤ) (i : ℕ) → NoneBelowZero w → whole w ≡ 0 → i < length w → size 0 w i ≡ 0

pub fair_by_sizes : (size : Sizing) → FairSizes size → Fair (shares_by size)
fair_by_sizes size f a w s = record {
  one_each = length_shares_by size a w;
  near = near;
  no_weight_no_share = λ some i l z.
      at_shares_by size a w i l ∙ no_size i (f.no_part_no_size (unsigned_abs a) w i s.none_below_zero (whole_above_zero some) l (ap unsigned_abs z));
  all_zero = λ none no_amount i l.
      at_shares_by size a w i l ∙ no_size i (ap (λ b. size (unsigned_abs b) w i) no_amount ∙ f.no_whole_no_size w i s.none_below_zero (ap unsigned_abs none) l);
} where
  whole_above_zero : pos 0 <ℤ total w → 0 < whole w
  whole_above_zero h = omega (arith, ints)

  no_size : (i : ℕ) → size (unsigned_abs a) w i ≡ 0 → signed (int_lt a (pos 0)) (size (unsigned_abs a) w i) ≡ pos 0
  no_size i e = ap (signed (int_lt a (pos 0))) e ∙ signed_zero (int_lt a (pos 0))

  near : pos 0 <ℤ total w → (i : ℕ) → i < length w → Near (total w) a (at w i) (at (shares_by size a w) i)
  near some i l =
      let p = whole_above_zero some in
      let n = s.none_below_zero in
      let o = off_share size a w i n l in
      omega (arith, ints, f.not_above (unsigned_abs a) w i n p l, f.not_under (unsigned_abs a) w i n p l)

-- n sizes add up to a: `sums` are the sums of the first ones
pub record AddsUp (size : ℕ → ℕ) (n a : ℕ) : Type 0 where
  pub sums : ℕ → ℕ
  pub sums_none : sums 0 ≡ 0
  pub sums_more : (i : ℕ) → i < n → sums (i + 1) ≡ sums i + size i
  pub sums_all : sums n ≡ a

total_shares : (b : Bool) (size sums : ℕ → ℕ) → sums 0 ≡ 0 → (n : ℕ) → ((i : ℕ) → i < n → sums (i + 1) ≡ sums i + size i) → total (map (λ i. signed b (size i)) (range_with_len 0 n)) ≡ signed b (sums n)
total_shares b size sums none zero more = sym (ap (signed b) none ∙ signed_zero b)
total_shares b size sums none (suc n) more =
    ap (λ k. total (map (λ i. signed b (size i)) (range_with_len 0 k))) (sym (add-one n))
    ∙ ap total (map-range_with_len_more (λ i. signed b (size i)) 0 n n (omega arith))
    ∙ total_push (map (λ i. signed b (size i)) (range_with_len 0 n)) (signed b (size n))
    ∙ ap (λ t. t +ℤ signed b (size n)) (total_shares b size sums none n (λ i h. more i (omega arith)))
    ∙ signed_add b (sums n) (size n)
    ∙ ap (signed b) (sym (more n (omega arith)))
    ∙ ap (λ k. signed b (sums k)) (add-one n)

pub exact_by_sizes : (size : Sizing) → ((a : ℕ) (w : List ℤ) → NoneBelowZero w → 0 < whole w → AddsUp (size a w) (length w) a) → Exact (shares_by size)
exact_by_sizes size adds a w s some =
    let p : 0 < whole w = omega (arith, ints) in
    let up = adds (unsigned_abs a) w s.none_below_zero p in
    total_shares (int_lt a (pos 0)) (size (unsigned_abs a) w) up.sums up.sums_none (length w) up.sums_more
    ∙ ap (signed (int_lt a (pos 0))) up.sums_all
    ∙ signed_own a
