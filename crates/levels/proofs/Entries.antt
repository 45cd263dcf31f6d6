-- The entries of a table: each is found by its code, and no code stands twice.
use Rattle.std.proofs.Common.{◌≡◌, ℕ, suc, cond, eqb, List, [], ◌∷◌, map, Some, sym, ap, ◌∙◌, inl, inr, ⊎_elim, suc-le-suc, arith}
use Rattle.std.proofs.ByRecursion.{All-from_get_or, All-map}
use Rattle.std.proofs.lemmas.Bool.{cases_Bool, eqb-true}
use Rattle.tariff.specs.Charges.{Ascending, Entry, group_in}
use Rattle.levels.specs.Levels.{Has, Once}

entries_same : {a b c d : ℕ} → a ≡ b → c ≡ d → ◌≡◌ {A = Entry} (a, c) (b, d)
entries_same p q = cc

-- an entry is found by its code
pub found_entry : (es : List Entry) (code group : ℕ) → group_in es code ≡ Some group → Has es (code, group)
found_entry [] code group e = let z : ◌≡◌ {A = ℕ} 0 1 = cc in omega arith
found_entry (e ∷ es) code group h =
    ⊎_elim
    (λ yes.
    let s : Some e.1 ≡ Some group = sym (ap (λ b. cond b (Some e.1) (group_in es code)) yes) ∙ h in
    let g : e.1 ≡ group = cc in
    inl (entries_same (eqb-true e.0 code yes) g))
    (λ no. inr (found_entry es code group (sym (ap (λ b. cond b (Some e.1) (group_in es code)) no) ∙ h)))
    (cases_Bool (eqb e.0 code))

-- no code stands twice where codes ascend
pub once_ascending : (es : List Entry) → Ascending es → Once (map (λ e. e.0) es)
once_ascending [] up = tt
once_ascending (e ∷ es) up = (
  All-map (λ c. e.0 ≡ c → ⊥) (λ e. e.0) es (All-from_get_or (λ x. e.0 ≡ x.0 → ⊥) es (0, 0) (λ k lt same. omega (arith, up 0 (suc k) (omega arith) (suc-le-suc lt)))),
  once_ascending es (λ i j lt h. up (suc i) (suc j) (suc-le-suc lt) (suc-le-suc h)),
)
