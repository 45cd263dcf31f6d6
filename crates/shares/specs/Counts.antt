-- Sums over a list, place by place: two together, a multiple, and over a mapped list.
use Rattle.std.specs.Prelude.{◌≡◌, ℕ, ◌+◌, ◌*◌, ◌≤◌, List, [], ◌∷◌, map, sum_by, refl}
use Rattle.std.proofs.Common.{sym, ap, ◌∙◌, arith, mul-add}
use Rattle.std.proofs.Math.Path.{fun_ext}
use Rattle.std.proofs.lemmas.List.Sums.{sum_by-cons, sum_by-le-sum_by}

pub sum_by_same : {X : Type 0} (f h : X → ℕ) → ((x : X) → f x ≡ h x) → (xs : List X) → sum_by f xs ≡ sum_by h xs
sum_by_same f h p xs = ap (λ g. sum_by g xs) (fun_ext p)

pub sum_by_both : {X : Type 0} (f g : X → ℕ) (xs : List X) → sum_by (λ x. f x + g x) xs ≡ sum_by f xs + sum_by g xs
sum_by_both f g [] = refl
sum_by_both f g (x ∷ xs) = omega (arith, sum_by-cons f x xs, sum_by-cons g x xs, sum_by-cons (λ y. f y + g y) x xs, sum_by_both f g xs)

pub sum_by_both_le : {X : Type 0} (f g h : X → ℕ) → ((x : X) → f x + g x ≤ h x) → (xs : List X) → sum_by f xs + sum_by g xs ≤ sum_by h xs
sum_by_both_le f g h p xs = omega (arith, sum_by_both f g xs, sum_by-le-sum_by (λ x. f x + g x) h xs p)

pub sum_by_le_both : {X : Type 0} (h f g : X → ℕ) → ((x : X) → h x ≤ f x + g x) → (xs : List X) → sum_by h xs ≤ sum_by f xs + sum_by g xs
sum_by_le_both h f g p xs = omega (arith, sum_by_both f g xs, sum_by-le-sum_by h (λ x. f x + g x) xs p)

pub sum_by_scale : {X : Type 0} (k : ℕ) (f : X → ℕ) (xs : List X) → sum_by (λ x. k * f x) xs ≡ k * sum_by f xs
sum_by_scale k f [] = omega arith
sum_by_scale k f (x ∷ xs) = sum_by-cons (λ x. k * f x) x xs ∙ ap (λ n. k * f x + n) (sum_by_scale k f xs) ∙ sym (mul-add k (f x) (sum_by f xs)) ∙ ap (λ n. k * n) (sym (sum_by-cons f x xs))

pub sum_by_map : {X Y : Type 0} (g : Y → ℕ) (f : X → Y) (xs : List X) → sum_by g (map f xs) ≡ sum_by (λ x. g (f x)) xs
sum_by_map g f [] = refl
sum_by_map g f (x ∷ xs) = sum_by-cons g (f x) (map f xs) ∙ ap (λ n. g (f x) + n) (sum_by_map g f xs) ∙ sym (sum_by-cons (λ x. g (f x)) x xs)

pub sum_by_none : {X : Type 0} (f : X → ℕ) → ((x : X) → f x ≡ 0) → (xs : List X) → sum_by f xs ≡ 0
sum_by_none f p [] = refl
sum_by_none f p (x ∷ xs) = omega (arith, sum_by-cons f x xs, p x, sum_by_none f p xs)
