-- Totals of weights none of which is below 0.
use Rattle.std.specs.Prelude.{◌≡◌, ℕ, suc, ◌+◌, ◌<◌, ◌≤◌, ◌⊎◌, List, [], ◌∷◌, ◌++◌, length, take, ℤ, pos, ◌+ℤ◌, ◌≤ℤ◌, ◌<ℤ◌, sum_by, unsigned_abs, refl}
use Rattle.std.proofs.Common.{sym, ap, ◌∙◌, inl, inr, ⊎_elim, arith}
use Rattle.std.proofs.lemmas.Int.{ints}
use Rattle.std.proofs.lemmas.List.{take_more, get_or-take, length-take}
use Rattle.std.proofs.lemmas.List.Sums.{sum_by-cons, sum_by_more, sum_by-take-le, get_or-le-sum_by}
use Rattle.std.proofs.lemmas.Bool.{cases_eq}
use Rattle.shares.specs.Weights.{at, total, NoneBelowZero}
use Rattle.shares.specs.Sizes.{part, whole}

pub total_push : (xs : List ℤ) (y : ℤ) → total (xs ++ y ∷ []) ≡ total xs +ℤ y
total_push [] y = omega (arith, ints)
total_push (x ∷ xs) y = let e = total_push xs y in omega (arith, ints)

-- of sound weights the total is the sum of the sizes
pub total_is : (w : List ℤ) → NoneBelowZero w → total w ≡ pos (sum_by unsigned_abs w)
total_is [] s = refl
total_is (x ∷ xs) s =
    let e = total_is xs (λ i l. s (suc i) (omega arith)) in
    let h : pos 0 ≤ℤ x = s 0 (omega arith) in
    let n = sum_by-cons unsigned_abs x xs in
    omega (arith, ints)

pub total_whole : (w : List ℤ) → NoneBelowZero w → total w ≡ pos (whole w)
total_whole w s = omega (arith, ints, total_is w s)

pub cases_total : (w : List ℤ) → NoneBelowZero w → (pos 0 <ℤ total w) ⊎ (total w ≡ pos 0)
cases_total w s = ⊎_elim (λ z. inr (total_is w s ∙ ap pos z)) (λ n. inl (omega (arith, ints, total_is w s))) (cases_eq (sum_by unsigned_abs w) 0)

pub whole_is : (w : List ℤ) → NoneBelowZero w → whole w ≡ sum_by unsigned_abs w
whole_is w s = ap unsigned_abs (total_is w s)

pub whole_within : (w : List ℤ) (k : ℕ) → NoneBelowZero w → total w ≤ℤ pos k → whole w ≤ k
whole_within w k s h = omega (arith, ints, total_is w s)

pub none_below_take : (w : List ℤ) (n : ℕ) → NoneBelowZero w → NoneBelowZero (take n w)
none_below_take w n s i l =
    let k = length-take n w in
    let e : at (take n w) i ≡ at w i = get_or-take n w i (pos 0) (omega arith) in
    rw e (s i (omega arith))

-- the total of the first places, one place on
pub whole_more : (w : List ℤ) (i : ℕ) → NoneBelowZero w → i < length w → whole (take (i + 1) w) ≡ whole (take i w) + part w i
whole_more w i s l =
    whole_is (take (i + 1) w) (none_below_take w (i + 1) s)
    ∙ sum_by_more unsigned_abs w i (pos 0) l
    ∙ ap (λ n. n + part w i) (sym (whole_is (take i w) (none_below_take w i s)))

pub whole_take_le : (w : List ℤ) (i : ℕ) → NoneBelowZero w → whole (take i w) ≤ whole w
whole_take_le w i s = omega (arith, whole_is (take i w) (none_below_take w i s), whole_is w s, sum_by-take-le unsigned_abs w i)

pub part_le : (w : List ℤ) (i : ℕ) → NoneBelowZero w → i < length w → part w i ≤ whole w
part_le w i s l = omega (arith, whole_is w s, get_or-le-sum_by unsigned_abs w i (pos 0) l)

-- the total of the first weights, one weight on
pub total_more : (w : List ℤ) (i t : ℕ) → i < length w → pos 0 ≤ℤ at w i → pos t ≡ total (take i w) → pos (t + part w i) ≡ total (take (i + 1) w)
total_more w i t l h p =
    let m : total (take (i + 1) w) ≡ total (take i w) +ℤ at w i = ap total (take_more w i (pos 0) l) ∙ total_push (take i w) (at w i) in
    omega (arith, ints)
