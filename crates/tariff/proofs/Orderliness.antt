-- The rule of a table, by one test over the whole of it: any table that passes is orderly, so a newer one needs only to
-- be put to the test. Assumes nothing.
use Rattle.std.proofs.Common.{◌≡◌, ℕ, zero, suc, ◌<◌, Bool, true, ◌&&◌, ltb, List, [], ◌∷◌, length, Some, refl, ⊎_elim, le_of_suc-le-suc, not-suc-le-zero, arith}
use Rattle.std.proofs.ByRecursion.{All-from_get_or}
use Rattle.std.proofs.lemmas.Bool.{and_parts, cases_order, ltb-true}
use Rattle.std.specs.List.{AllByRecursion}
use Rattle.tariff.proofs.Lookup.{found_at}
use Rattle.tariff.specs.Charges.{Ascending, Entry, Once, Orderly, code_at, group_in}

-- each code lies above the one before it, the first above `low`, and each group is one
abbrev pub in_order : (ℕ → Bool) → ℕ → List Entry → Bool
in_order is_group low [] = true
in_order is_group low (e ∷ es) = ltb low e.0 && (is_group e.1 && in_order is_group e.0 es)

module _ (is_group : ℕ → Bool) where
  -- what the test says of the first entry and of the rest
  record Parts (low : ℕ) (e : Entry) (es : List Entry) : Type 0 where
    above : low < e.0
    group : is_group e.1 ≡ true
    rest : in_order is_group e.0 es ≡ true

  parts : (low : ℕ) (e : Entry) (es : List Entry) → in_order is_group low (e ∷ es) ≡ true → Parts low e es
  parts low e es passed =
      let one = and_parts (ltb low e.0) (is_group e.1 && in_order is_group e.0 es) passed in
      let two = and_parts (is_group e.1) (in_order is_group e.0 es) one.1 in
      record { above = ltb-true low e.0 one.0; group = two.0; rest = two.1 }

  all_above : (low : ℕ) (es : List Entry) → in_order is_group low es ≡ true → (k : ℕ) → k < length es → low < code_at es k
  all_above low [] passed k lt = absurd (not-suc-le-zero lt)
  all_above low (e ∷ es) passed zero lt = (parts low e es passed).above
  all_above low (e ∷ es) passed (suc k) lt =
      let p = parts low e es passed in
      omega (arith, p.above, all_above e.0 es p.rest k (le_of_suc-le-suc lt))

  ascends : (low : ℕ) (es : List Entry) → in_order is_group low es ≡ true → Ascending es
  ascends low [] passed i j lt h = absurd (not-suc-le-zero h)
  ascends low (e ∷ es) passed i zero lt h = absurd (not-suc-le-zero lt)
  ascends low (e ∷ es) passed zero (suc j) lt h = all_above e.0 es (parts low e es passed).rest j (le_of_suc-le-suc h)
  ascends low (e ∷ es) passed (suc i) (suc j) lt h =
      ascends e.0 es (parts low e es passed).rest i j (le_of_suc-le-suc lt) (le_of_suc-le-suc h)

  all_grouped : (low : ℕ) (es : List Entry) → in_order is_group low es ≡ true → AllByRecursion (λ e. is_group e.1 ≡ true) es
  all_grouped low [] passed = tt
  all_grouped low (e ∷ es) passed = let p = parts low e es passed in (p.group, all_grouped e.0 es p.rest)

once : (table : List Entry) → Ascending table → Once table
once table up i j hi hj same =
    ⊎_elim (λ e. e) (⊎_elim (λ lt. absurd (omega (arith, up i j lt hj))) (λ gt. absurd (omega (arith, up j i gt hi)))) (cases_order i j)

each_found : (table : List Entry) → Ascending table → AllByRecursion (λ e. group_in table e.0 ≡ Some e.1) table
each_found table up =
    All-from_get_or (λ e. group_in table e.0 ≡ Some e.1) table (0, 0) (λ k lt. found_at table (code_at table k) k up lt refl)

-- the test gives the rule
pub orderly : (is_group : ℕ → Bool) (table : List Entry) → in_order is_group 0 table ≡ true → Orderly is_group table
orderly is_group table passed =
    let up = ascends is_group 0 table passed in
    record {
      ascending = up;
      once = once table up;
      found = each_found table up;
      grouped = all_grouped is_group 0 table passed;
    }
