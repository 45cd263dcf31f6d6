-- Searching a table for a code: when its group is found, when there is none, and what a binary search of a table that
-- ascends says. Assumes nothing.
use Rattle.std.proofs.Common.{◌≡◌, ℕ, zero, suc, ◌<◌, ◌≤◌, List, [], ◌∷◌, length, get_or, Some, None, Result, Ok, Err, IfOk, IfErr, refl, sym, ap, ⊎_elim, suc-le-suc, zero-le, le_of_suc-le-suc, not-suc-le-zero, arith}
use Rattle.std.proofs.lemmas.Bool.{cases_lt, eq-eqb, ne_eqb}
use Rattle.std.proofs.lemmas.Bool.Decides.{nat_tests}
use Rattle.std.proofs.lemmas.Cmp.{ranked}
use Rattle.std.proofs.lemmas.List.Sorted.{IsNonDecreasingBy-from_default}
use Rattle.std.specs.List.Sorted.{IsBinarySearchResult, IsNonDecreasingBy, IsSearchInRange}
use Rattle.std.specs.Ordering.{nat_cmp, ordering_index}
use Rattle.std.specs.declared.cmp.Ordering.{Ordering}
use Rattle.tariff.specs.Charges.{Ascending, Entry, code_at, group_in}

-- the group at a place of the table
abbrev pub group_at : List Entry → ℕ → ℕ
group_at table k = (get_or table k (0, 0)).1

-- the code stands at none of the first places
abbrev Absent : List Entry → ℕ → ℕ → Type 0
Absent table code n = (k : ℕ) → k < n → code_at table k ≡ code → ⊥

module _ (code : ℕ) where
  found_first : (table : List Entry) (k : ℕ) → k < length table → code_at table k ≡ code → Absent table code k → group_in table code ≡ Some (group_at table k)
  found_first [] k lt here before = absurd (not-suc-le-zero lt)
  found_first (e ∷ es) zero lt here before = rw (eq-eqb e.0 code here)
  found_first (e ∷ es) (suc k) lt here before =
      rw (ne_eqb e.0 code (before 0 (suc-le-suc zero-le)))
      (found_first es k (le_of_suc-le-suc lt) here (λ i h. before (suc i) (suc-le-suc h)))

  not_found : (table : List Entry) → Absent table code (length table) → group_in table code ≡ None
  not_found [] absent = refl
  not_found (e ∷ es) absent =
      rw (ne_eqb e.0 code (absent 0 (suc-le-suc zero-le))) (not_found es (λ k lt. absent (suc k) (suc-le-suc lt)))

-- in a table that ascends, the group of each entry is found for its code
pub found_at : (table : List Entry) (code k : ℕ) → Ascending table → k < length table → code_at table k ≡ code → group_in table code ≡ Some (group_at table k)
found_at table code k up lt here = found_first code table k lt here (λ i before same. omega (arith, up i k before lt))

-- how the code of an entry stands to a code that is looked for
abbrev pub compared : ℕ → Entry → Ordering
compared code e = nat_cmp e.0 code

-- what a binary search by code says of a table that ascends
module _ (table : List Entry) (up : Ascending table) (code : ℕ) where
  rises : IsNonDecreasingBy (λ e. ordering_index (compared code e)) table
  rises =
      IsNonDecreasingBy-from_default (λ e. ordering_index (compared code e)) table (0, 0)
      (λ i j le lt.
      let codes : code_at table i ≤ code_at table j = grind (arith, up i j, λ (same : i ≡ j). ap (code_at table) same) in
      grind (arith, nat_tests))

  pub searched : (r : Result ℕ ℕ) → IsSearchInRange r (length table) → IsBinarySearchResult (compared code) table r → record { found : IfOk r (λ place. (place < length table) × (code_at table place ≡ code)); absent : IfErr r (λ _. group_in table code ≡ None) }
  searched (Ok place) lt equal = record { found = (lt, ranked _ code _ (sym (equal (0, 0)))); absent = tt }
  searched (Err end) _ parted = record { found = tt; absent = not_found code table nowhere }
    where
      nowhere : Absent table code (length table)
      nowhere k lt same =
          ⊎_elim
          (λ before. omega (arith, ranked _ code _ (sym ((parted rises).0 k (0, 0) zero-le before))))
          (λ from. omega (arith, ranked _ code _ (sym ((parted rises).1 k (0, 0) from lt))))
          (cases_lt k end)
