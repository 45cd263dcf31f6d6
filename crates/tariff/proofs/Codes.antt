-- The codes that a table gives to a group: none where its entries are in groups and this number is none.
-- Assumes nothing.
use Rattle.std.proofs.Common.{◌≡◌, ℕ, Bool, true, false, List, [], ◌∷◌, sym, refl, ap, ◌∙◌}
use Rattle.std.proofs.lemmas.Bool.{both_ways, ne_eqb}
use Rattle.std.specs.List.{AllByRecursion}
use Rattle.tariff.specs.Charges.{Entry, codes_in}

module _ (is_group : ℕ → Bool) (group : ℕ) (outside : is_group group ≡ false) where
  pub no_codes : (table : List Entry) → AllByRecursion (λ e. is_group e.1 ≡ true) table → codes_in table group ≡ []
  no_codes [] grouped = refl
  no_codes (e ∷ es) grouped =
      rw (ne_eqb e.1 group (λ same. both_ways (is_group group) outside (sym (ap is_group same) ∙ grouped.0)))
      (no_codes es grouped.1)
