-- Of places ranked by their remainders, m come before fewer than m others: by an edge, and by count.
use Rattle.std.specs.Prelude.{◌≡◌, ℕ, zero, suc, ◌+◌, ◌-◌, ◌<◌, ◌≤◌, min, cond, ltb, leb, List, [], ◌∷◌, length, take, count_by, ◌==◌, ◌≢◌, nat_eq, nat_le, nat_lt, slice_index, slice_index_or, refl}
use Rattle.std.proofs.Common.{sym, ap, ◌∙◌}
use Rattle.std.proofs.Math.Logic.{⊎_elim}
use native.Mathlib.Omega.{arith}
use Rattle.std.proofs.lemmas.List.{take_all}
use Rattle.std.proofs.lemmas.List.Sums.{sum_by-cons, sum_by-le-sum_by, sum_by-take-le, count_by_more_yes, count_by_more_no}
use Rattle.std.proofs.lemmas.Bool.{cases_lt, cases_eq, cases_order, le-leb, lt-ltb, le-ltb, eq-eqb, ne_eqb}
use Rattle.std.proofs.lemmas.Bool.Decides.{nat_tests}
use Rattle.shares.specs.LargestRemainder.{above, alike, rank, cent}
use Rattle.shares.specs.Workings.{dealt, Edge, ties_left}
use Rattle.shares.specs.Counts.{sum_by_both_le, sum_by_le_both}

-- how many remainders are at the edge or above
abbrev pub from : ℕ → List ℕ → ℕ
from edge rs = count_by (λ x. leb edge x) rs

-- every remainder is 0 or more
pub all_from_zero : (rs : List ℕ) → length rs ≤ from 0 rs
all_from_zero [] = omega arith
all_from_zero (x ∷ xs) =
    omega (arith, sum_by-cons (λ r. cond (nat_le 0 r) 1 0) x xs, ap (λ b. cond {A = ℕ} b 1 0) (le-leb 0 x (omega arith)), all_from_zero xs)

-- there is an edge below k where at most m remainders are k or more
pub edge_below : (rs : List ℕ) (m k : ℕ) → from k rs ≤ m → m ≤ length rs → (t : ℕ) × Edge rs m t
edge_below rs m zero h l = (
  0,
  record {
    few_above = omega (arith, sum_by-le-sum_by (λ r. cond (nat_lt 0 r) 1 0) (λ r. cond (nat_le 0 r) 1 0) rs (λ r. grind (arith, nat_tests)));
    enough_from = omega (arith, all_from_zero rs);
  },
)
edge_below rs m (suc k) h l =
    ⊎_elim (λ (p : m < from k rs). (k, record { few_above = h; enough_from = omega arith })) (λ p. edge_below rs m k p l) (cases_lt m (from k rs))

-- the ties that are left before place i: the cents less those above the edge, and those at it so far
abbrev pub ties_before : List ℕ → ℕ → ℕ → ℕ → ℕ
ties_before rs m t i = m - above t rs - alike t (take i rs)

module _ (rs : List ℕ) (m t : ℕ) (edge : Edge rs m t) where
  cent_above : (i : ℕ) → i < length rs → t < slice_index rs i → cent rs m i ≡ 1
  cent_above i l h =
      let r : ℕ = slice_index_or rs i 0 in
      let one = count_by_more_yes (λ x. nat_eq x r) rs i 0 l (eq-eqb r r refl) in
      let le = sum_by-take-le (λ x. cond (x == r) 1 0) rs (i + 1) in
      let both = sum_by_both_le (λ x. cond (nat_lt r x) 1 0) (λ x. cond (x == r) 1 0) (λ x. cond (nat_lt t x) 1 0) (λ x. grind (arith, nat_tests)) rs in
      let low : rank rs i < m = omega (arith, edge.few_above) in
      ap (λ b. cond b 1 0) (lt-ltb (rank rs i) m low)

  cent_below : (i : ℕ) → i < length rs → slice_index rs i < t → cent rs m i ≡ 0
  cent_below i l h =
      let r : ℕ = slice_index_or rs i 0 in
      let le = sum_by-le-sum_by (λ x. cond (nat_le t x) 1 0) (λ x. cond (nat_lt r x) 1 0) rs (λ x. grind (arith, nat_tests)) in
      let high : m ≤ rank rs i = omega (arith, edge.enough_from) in
      ap (λ b. cond b 1 0) (le-ltb (rank rs i) m high)

  -- at the edge the first ones have a cent, as many as are left by those above
  cent_tie : (i : ℕ) → slice_index rs i ≡ t → cent rs m i ≡ cond (nat_lt (alike t (take i rs)) (m - above t rs)) 1 0
  cent_tie i e =
      ap (λ x. cond (nat_lt (above x rs + alike x (take i rs)) m) 1 0) e ∙ shift (above t rs) (alike t (take i rs)) where
        shift : (g k : ℕ) → cond {A = ℕ} (nat_lt (g + k) m) 1 0 ≡ cond (nat_lt k (m - g)) 1 0
        shift g k = grind (arith, nat_tests)

  -- a cent by rank is a cent as it is dealt
  pub cent_dealt : (i : ℕ) → i < length rs → cent rs m i ≡ dealt t (ties_before rs m t i) (slice_index rs i)
  cent_dealt i l = ⊎_elim tie (⊎_elim below over) (cases_order (slice_index rs i) t) where
    one : (k n : ℕ) → cond {A = ℕ} (nat_lt k n) 1 0 ≡ min (n - k) 1
    one k n = grind (arith, nat_tests)

    over : t < slice_index rs i → cent rs m i ≡ dealt t (ties_before rs m t i) (slice_index rs i)
    over h = cent_above i l h ∙ sym (simp (ne_eqb (slice_index rs i) t (λ z. omega arith), lt-ltb t (slice_index rs i) h))

    below : slice_index_or rs i 0 < t → cent rs m i ≡ dealt t (ties_before rs m t i) (slice_index rs i)
    below h = cent_below i l h ∙ sym (simp (ne_eqb (slice_index rs i) t (λ z. omega arith), le-ltb t (slice_index rs i) (omega arith)))

    tie : slice_index_or rs i 0 ≡ t → cent rs m i ≡ dealt t (ties_before rs m t i) (slice_index rs i)
    tie h = cent_tie i h ∙ one (alike t (take i rs)) (m - above t rs) ∙ sym (simp (eq-eqb (slice_index rs i) t h))

  pub ties_more : (i : ℕ) → i < length rs → ties_before rs m t (i + 1) ≡ ties_left t (ties_before rs m t i) (slice_index rs i)
  ties_more i l = ⊎_elim tie other (cases_eq (slice_index rs i) t) where
    tie : slice_index_or rs i 0 ≡ t → ties_before rs m t (i + 1) ≡ ties_left t (ties_before rs m t i) (slice_index rs i)
    tie h =
        let e : ties_before rs m t (i + 1) ≡ ties_before rs m t i - 1 = omega (arith, count_by_more_yes (λ x. nat_eq x t) rs i 0 l (eq-eqb (slice_index rs i) t h)) in
        e ∙ sym (simp (eq-eqb (slice_index rs i) t h))

    other : (slice_index rs i ≢ t) → ties_before rs m t (i + 1) ≡ ties_left t (ties_before rs m t i) (slice_index rs i)
    other h =
        let e : ties_before rs m t (i + 1) ≡ ties_before rs m t i = omega (arith, count_by_more_no (λ x. nat_eq x t) rs i 0 l (ne_eqb (slice_index rs i) t h)) in
        e ∙ sym (simp (ne_eqb (slice_index rs i) t h))

  -- the cents of the first i places
  pub cents : ℕ → ℕ
  cents i = above t (take i rs) + min (m - above t rs) (alike t (take i rs))

  pub cents_none : cents 0 ≡ 0
  unfolding cents
  cents_none = omega arith

  pub cents_more : (i : ℕ) → i < length rs → cents (i + 1) ≡ cents i + cent rs m i
  unfolding cents
  cents_more i l = ⊎_elim tie (⊎_elim below over) (cases_order (slice_index rs i) t) where
    over : t < slice_index rs i → cents (i + 1) ≡ cents i + cent rs m i
    over h =
        let e = cent_above i l h in
        let p = count_by_more_yes (λ r. ltb t r) rs i 0 l (lt-ltb t (slice_index rs i) h) in
        let q = count_by_more_no (λ r. nat_eq r t) rs i 0 l (ne_eqb (slice_index rs i) t (λ z. omega arith)) in
        omega arith

    below : slice_index_or rs i 0 < t → cents (i + 1) ≡ cents i + cent rs m i
    below h =
        let e = cent_below i l h in
        let p = count_by_more_no (λ r. ltb t r) rs i 0 l (le-ltb t (slice_index rs i) (omega arith)) in
        let q = count_by_more_no (λ r. nat_eq r t) rs i 0 l (ne_eqb (slice_index rs i) t (λ z. omega arith)) in
        omega arith

    step : (c k : ℕ) → min k (c + 1) ≡ min k c + cond (nat_lt c k) 1 0
    step c k = grind (arith, nat_tests)

    tie : slice_index_or rs i 0 ≡ t → cents (i + 1) ≡ cents i + cent rs m i
    tie h =
        let e = cent_tie i h in
        let p = count_by_more_no (λ r. ltb t r) rs i 0 l (le-ltb t (slice_index rs i) (omega arith)) in
        let q = count_by_more_yes (λ r. nat_eq r t) rs i 0 l (eq-eqb (slice_index rs i) t h) in
        omega (arith, step (alike t (take i rs)) (m - above t rs))

  pub cents_all : cents (length rs) ≡ m
  unfolding cents
  cents_all =
      let e = take_all (length rs) rs (omega arith) in
      let both = sum_by_le_both (λ x. cond (nat_le t x) 1 0) (λ x. cond (nat_lt t x) 1 0) (λ x. cond (x == t) 1 0) (λ x. grind (arith, nat_tests)) rs in
      rw e (omega (arith, edge.few_above, edge.enough_from))
