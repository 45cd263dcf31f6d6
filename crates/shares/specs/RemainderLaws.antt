-- Largest remainder is fair and exact.
use Rattle.std.specs.Prelude.{◌≡◌, ℕ, ◌+◌, ◌*◌, ◌/◌, ◌%◌, ◌<◌, ◌≤◌, cond, ltb, List, [], ◌∷◌, map, length, take, ℤ, pos, sum_by, ◌≢◌, nat_le, nat_lt, slice_index, slice_index_or, unsigned_abs, refl}
use Rattle.std.proofs.Common.{sym, ap, ◌∙◌, ⊎_elim, arith, mul-add, mul_comm, mul-le-mul_left, mul-zero, zero-mul}
use Rattle.std.proofs.Math.Nat.{div-add-mod, div-zero, le_of_mul-le-mul_left, mul-sub, zero-div, zero-mod}
use Rattle.std.proofs.lemmas.Nat.{mod_below}
use Rattle.std.proofs.lemmas.List.{get_or-map, length-map, take_all}
use Rattle.std.proofs.lemmas.List.Sums.{count_by-le-length, sum_by-le-sum_by, sum_by_more}
use Rattle.std.proofs.lemmas.Bool.{cases_eq, cond_both, le-ltb, lt-leb, ltb-false}
use Rattle.shares.specs.LargestRemainder.{rounded_down, remainder, remainders, missing, above, rank, cent, remainder_size, largest_remainder}
use Rattle.shares.specs.Laws.{Fair, Exact}
use Rattle.shares.specs.Sizes.{part, whole}
use Rattle.shares.specs.Weights.{at, NoneBelowZero}
use Rattle.shares.specs.Workings.{Edge, held}
use Rattle.shares.specs.Counts.{sum_by_same, sum_by_both, sum_by_scale, sum_by_map, sum_by_none}
use Rattle.shares.specs.Ranks as ranks
use Rattle.shares.specs.Ranks.{from, edge_below}
use Rattle.shares.specs.Sharing.{fair_by_sizes, exact_by_sizes}
use Rattle.shares.specs.Totals.{whole_is}

le_from_mul : (k m n : ℕ) → 0 < k → k * m ≤ k * n → m ≤ n
le_from_mul k m n h p = le_of_mul-le-mul_left p h

module _ (a : ℕ) (w : List ℤ) (sound : NoneBelowZero w) (some : 0 < whole w) where
  -- the amount, by what is rounded down and what that leaves
  parts_and_remainders : whole w * sum_by (rounded_down a w) w + sum_by (remainder a w) w ≡ a * whole w
  parts_and_remainders =
      ap (λ n. n + sum_by (remainder a w) w) (sym (sum_by_scale (whole w) (rounded_down a w) w))
      ∙ sym (sum_by_both (λ x. whole w * rounded_down a w x) (remainder a w) w)
      ∙ sum_by_same (λ x. whole w * rounded_down a w x + remainder a w x) (λ x. a * unsigned_abs x) (λ x. div-add-mod (a * unsigned_abs x) (whole w)) w
      ∙ sum_by_scale a unsigned_abs w
      ∙ ap (λ n. a * n) (sym (whole_is w sound))

  rounded_down_le : sum_by (rounded_down a w) w ≤ a
  rounded_down_le = le_from_mul (whole w) (sum_by (rounded_down a w) w) a some (omega (arith, parts_and_remainders, mul_comm a (whole w)))

  missing_remainders : whole w * missing a w ≡ sum_by (remainder a w) w
  missing_remainders = omega (arith, parts_and_remainders, mul_comm a (whole w), mul-sub (whole w) a (sum_by (rounded_down a w) w))

  -- no more cents are missing than there are remainders above 0
  missing_le_above : missing a w ≤ above 0 (remainders a w)
  missing_le_above =
      let p : sum_by (remainder a w) w ≤ sum_by (λ x. whole w * cond (nat_lt 0 (remainder a w x)) 1 0) w =
      sum_by-le-sum_by (remainder a w) (λ x. whole w * cond (nat_lt 0 (remainder a w x)) 1 0) w (λ x. small (remainder a w x) (mod_below (a * unsigned_abs x) (whole w) some)) in
      le_from_mul (whole w) (missing a w) (above 0 (remainders a w)) some
      (rw (missing_remainders, sum_by_map (λ r. cond (nat_lt 0 r) 1 0) (remainder a w) w, ← sum_by_scale (whole w) (λ x. cond (nat_lt 0 (remainder a w x)) 1 0) w) p) where
        small : (r : ℕ) → r < whole w → r ≤ whole w * cond (nat_lt 0 r) 1 0
        small r h = cond_both (nat_lt 0 r) 1 0 (λ n. r ≤ whole w * n) (λ e. omega arith) (λ e. omega (arith, ltb-false 0 r e))

  none_from_whole : from (whole w) (remainders a w) ≡ 0
  none_from_whole =
      sum_by_map (λ r. cond (nat_le (whole w) r) 1 0) (remainder a w) w
      ∙ sum_by_none (λ x. cond (nat_le (whole w) (remainder a w x)) 1 0) (λ x. ap (λ b. cond {A = ℕ} b 1 0) (lt-leb (whole w) (remainder a w x) (mod_below (a * unsigned_abs x) (whole w) some))) w

  some_edge : (t : ℕ) × Edge (remainders a w) (missing a w) t
  some_edge = edge_below (remainders a w) (missing a w) (whole w) (omega (arith, none_from_whole)) (omega (arith, missing_le_above, count_by-le-length (λ r. ltb 0 r) (remainders a w)))

  -- a part that leaves nothing gets no cent
  cent_none : (i : ℕ) → i < length w → remainder a w (at w i) ≡ 0 → cent (remainders a w) (missing a w) i ≡ 0
  cent_none i l z =
      let r : slice_index_or (remainders a w) i 0 ≡ 0 = get_or-map (remainder a w) w i (pos 0) 0 l ∙ z in
      let k : above (slice_index (remainders a w) i) (remainders a w) ≡ above 0 (remainders a w) = ap (λ n. above n (remainders a w)) r in
      let high : missing a w ≤ rank (remainders a w) i = omega (arith, missing_le_above) in
      ap (λ b. cond b 1 0) (le-ltb (rank (remainders a w) i) (missing a w) high)

pub rounded_down_sum_le : (a : ℕ) (w : List ℤ) → NoneBelowZero w → sum_by (rounded_down a w) w ≤ a
rounded_down_sum_le a w s =
    ⊎_elim (λ z. omega (arith, sum_by_none (rounded_down a w) (λ x. ap (λ t. a * unsigned_abs x / t) z ∙ div-zero (a * unsigned_abs x)) w)) (λ n. rounded_down_le a w s (omega arith)) (cases_eq (whole w) 0)

-- at most one cent for each weight is missing
pub missing_le : (a : ℕ) (w : List ℤ) → NoneBelowZero w → (whole w ≡ 0 → a ≡ 0) → missing a w ≤ length w
missing_le a w s ok = ⊎_elim (λ z. omega (arith, ok z)) some (cases_eq (whole w) 0) where
  some : (whole w ≢ 0) → missing a w ≤ length w
  some n = omega (arith, missing_le_above a w s (omega arith), count_by-le-length (λ r. ltb 0 r) (remainders a w), length-map w (remainder a w))

-- no remainder is above the total
pub none_above_whole : (a : ℕ) (w : List ℤ) → (whole w ≡ 0 → a ≡ 0) → above (whole w) (remainders a w) ≡ 0
none_above_whole a w ok =
    sum_by_map (λ r. cond (nat_lt (whole w) r) 1 0) (remainder a w) w
    ∙ sum_by_none (λ x. cond (nat_lt (whole w) (remainder a w x)) 1 0) (λ x. ap (λ b. cond {A = ℕ} b 1 0) (le-ltb (whole w) (remainder a w x) (small x))) w where
      small : (x : ℤ) → remainder a w x ≤ whole w
      small x = ⊎_elim none some (cases_eq (whole w) 0) where
        none : whole w ≡ 0 → remainder a w x ≤ whole w
        none z = omega (arith, ap (λ n. n * unsigned_abs x % whole w) (ok z), ap (λ n. n % whole w) (zero-mul (unsigned_abs x)), zero-mod (whole w))

        some : (whole w ≢ 0) → remainder a w x ≤ whole w
        some n = omega (arith, mod_below (a * unsigned_abs x) (whole w) (omega arith))

-- the remainders as places hold them
pub held_remainders : (rs : List ℕ) → held (map pos rs) ≡ rs
held_remainders [] = refl
held_remainders (r ∷ rs) = ap (λ xs. r ∷ xs) (held_remainders rs)

cent_le_one : (rs : List ℕ) (m i : ℕ) → cent rs m i ≤ 1
cent_le_one rs m i = cond_both (nat_lt (rank rs i) m) 1 0 (λ n. n ≤ 1) (λ e. omega arith) (λ e. omega arith)

-- q and a cent c, of n = t × q + r, are less than t from n
near_above : (t q c r n : ℕ) → t * q + r ≡ n → r < t → c ≤ 1 → (r ≡ 0 → c ≡ 0) → t * (q + c) < n + t
near_above t q c r n p h s z = ⊎_elim none some (cases_eq r 0) where
  none : r ≡ 0 → t * (q + c) < n + t
  none k = let e = z k in rw e (omega (arith, mul-add t q 0))

  some : (r ≢ 0) → t * (q + c) < n + t
  some k = omega (arith, mul-add t q c, mul-le-mul_left t s)

near_under : (t q c r n : ℕ) → t * q + r ≡ n → r < t → n < t * (q + c) + t
near_under t q c r n p h = omega (arith, mul-add t q c)

pub largest_remainder_fair : Fair largest_remainder
unfolding largest_remainder
largest_remainder_fair = fair_by_sizes remainder_size (record {
  not_above = λ a w i s p l.
      near_above (whole w) (rounded_down a w (at w i)) (cent (remainders a w) (missing a w) i) (remainder a w (at w i)) (a * part w i)
      (div-add-mod (a * part w i) (whole w)) (mod_below (a * part w i) (whole w) p) (cent_le_one (remainders a w) (missing a w) i) (cent_none a w s p i l);
  not_under = λ a w i s p l.
      near_under (whole w) (rounded_down a w (at w i)) (cent (remainders a w) (missing a w) i) (remainder a w (at w i)) (a * part w i)
      (div-add-mod (a * part w i) (whole w)) (mod_below (a * part w i) (whole w) p);
  no_part_no_size = λ a w i s p l z.
      let n : a * part w i ≡ 0 = ap (λ x. a * x) z ∙ mul-zero a in
      let q : rounded_down a w (at w i) ≡ 0 = ap (λ x. x / whole w) n ∙ zero-div (whole w) in
      let r : remainder a w (at w i) ≡ 0 = ap (λ x. x % whole w) n ∙ zero-mod (whole w) in
      omega (arith, cent_none a w s p i l r);
  no_whole_no_size = λ w i s z l.
      let q : rounded_down 0 w (at w i) ≡ 0 = ap (λ t. 0 * part w i / t) z ∙ div-zero (0 * part w i) in
      let c : cent (remainders 0 w) (missing 0 w) i ≡ 0 = ap (λ b. cond b 1 0) (le-ltb (rank (remainders 0 w) i) (missing 0 w) (omega arith)) in
      omega arith;
})

pub largest_remainder_exact : Exact largest_remainder
unfolding largest_remainder
largest_remainder_exact = exact_by_sizes remainder_size (λ a w s p.
    let rs : List ℕ = remainders a w in
    let m : ℕ = missing a w in
    let t = some_edge a w s p in
    let long : length rs ≡ length w = length-map w (remainder a w) in
    let cents : ℕ → ℕ = ranks.cents rs m t.0 t.1 in
    record {
      sums = λ i. sum_by (rounded_down a w) (take i w) + cents i;
      sums_none = omega (arith, ranks.cents_none rs m t.0 t.1);
      sums_more = λ i l. omega (arith, sum_by_more (rounded_down a w) w i (pos 0) l, ranks.cents_more rs m t.0 t.1 i (omega arith));
      sums_all =
          ap (λ v. sum_by (rounded_down a w) v + cents (length w)) (take_all (length w) w (omega arith))
          ∙ ap (λ n. sum_by (rounded_down a w) w + cents n) (sym long)
          ∙ ap (λ n. sum_by (rounded_down a w) w + n) (ranks.cents_all rs m t.0 t.1)
          ∙ omega (arith, rounded_down_le a w s p);
    })
