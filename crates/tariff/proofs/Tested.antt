-- Tests that are computed once. Two functions that give one list agree at each element of it; two that agree below a
-- number and from it on agree at every number. Assumes nothing.
use Rattle.std.proofs.Common.{◌≡◌, ℕ, ◌<◌, ◌≤◌, List, [], ◌∷◌, map, get_or, sym, ap, ◌∙◌, ⊎_elim, zero-add}
use Rattle.std.proofs.lemmas.List.FromFn.{get_or-map-range_with_len}
use Rattle.std.proofs.lemmas.Bool.{cases_lt}
use Rattle.std.specs.List.{range_with_len, AllByRecursion}

pub at_each : {X Y : Type 0} (f g : X → Y) (xs : List X) → map f xs ≡ map g xs → AllByRecursion (λ x. f x ≡ g x) xs
at_each f g [] same = tt
at_each f g (x ∷ xs) same = (cc, at_each f g xs (cc))

module _ {Y : Type 0} (f g : ℕ → Y) (n : ℕ) (same : map f (range_with_len 0 n) ≡ map g (range_with_len 0 n)) where
  at_number : (k : ℕ) → k < n → f k ≡ g k
  at_number k lt =
      sym (get_or-map-range_with_len f 0 n k k (f 0) lt (zero-add k))
      ∙ (ap (λ ys. get_or ys k (f 0)) same ∙ get_or-map-range_with_len g 0 n k k (f 0) lt (zero-add k))

  pub at_every : ((k : ℕ) → n ≤ k → f k ≡ g k) → (k : ℕ) → f k ≡ g k
  at_every past k = ⊎_elim (at_number k) (past k) (cases_lt k n)
