-- What stands in a list, and that nothing stands in it twice: of lists that are joined, mapped or counted.
use Rattle.std.proofs.Common.{◌≡◌, ℕ, zero, suc, ◌+◌, ◌-◌, ◌<◌, ◌≤◌, true, leb, List, [], ◌∷◌, ◌++◌, map, sym, refl, ap, ◌∙◌, subst, inl, inr, ⊎_elim, arith}
use Rattle.std.specs.List.{flat_map, AllByRecursion}
use Rattle.std.proofs.ByRecursion.{All-append, All-map, All-weaker}
use Rattle.std.proofs.lemmas.Bool.{and_from, and_parts, cases_eq, le-leb, leb-true}
use Rattle.ledger.specs.Totals.{count_up, has, members}
use Rattle.ledger.specs.declared.span.Span.{Span}
use Rattle.levels.specs.Levels.{Has, Once}

module _ {X : Type 0} where
  pub all_at : (P : X → Type 0) (xs : List X) (x : X) → AllByRecursion P xs → Has xs x → P x
  all_at P [] x h here = absurd here
  all_at P (y ∷ ys) x h (inl e) = subst P e h.0
  all_at P (y ∷ ys) x h (inr later) = all_at P ys x h.1 later

  pub all_each : (P : X → Type 0) (xs : List X) → ((x : X) → Has xs x → P x) → AllByRecursion P xs
  all_each P [] h = tt
  all_each P (y ∷ ys) h = (h y (inl refl), all_each P ys (λ x later. h x (inr later)))

  pub all_both : (P Q R : X → Type 0) → ((x : X) → P x → Q x → R x) → (xs : List X) → AllByRecursion P xs → AllByRecursion Q xs → AllByRecursion R xs
  all_both P Q R f [] p q = tt
  all_both P Q R f (x ∷ xs) p q = (f x p.0 q.0, all_both P Q R f xs p.1 q.1)

  has_left : (xs ys : List X) (x : X) → Has xs x → Has (xs ++ ys) x
  has_left [] ys x here = absurd here
  has_left (z ∷ xs) ys x (inl e) = inl e
  has_left (z ∷ xs) ys x (inr later) = inr (has_left xs ys x later)

  has_right : (xs ys : List X) (x : X) → Has ys x → Has (xs ++ ys) x
  has_right [] ys x here = here
  has_right (z ∷ xs) ys x here = inr (has_right xs ys x here)

  once_append : (xs ys : List X) → Once xs → Once ys → AllByRecursion (λ x. AllByRecursion (λ y. x ≡ y → ⊥) ys) xs → Once (xs ++ ys)
  once_append [] ys o p apart = p
  once_append (x ∷ xs) ys o p apart = (All-append (λ y. x ≡ y → ⊥) xs ys o.0 apart.0, once_append xs ys o.1 p apart.1)

module _ {Y Z : Type 0} (f : Y → Z) where
  pub has_map : (ys : List Y) (y : Y) → Has ys y → Has (map f ys) (f y)
  has_map [] y here = absurd here
  has_map (x ∷ ys) y (inl e) = inl (ap f e)
  has_map (x ∷ ys) y (inr later) = inr (has_map ys y later)

  pub all_mapped : (P : Z → Type 0) → ((y : Y) → P (f y)) → (ys : List Y) → AllByRecursion P (map f ys)
  all_mapped P h [] = tt
  all_mapped P h (y ∷ ys) = (h y, all_mapped P h ys)

  -- nothing stands twice among what can be told apart
  pub once_map : (from : Z → Y) → ((y : Y) → from (f y) ≡ y) → (ys : List Y) → Once ys → Once (map f ys)
  once_map from back [] o = tt
  once_map from back (y ∷ ys) o =
      (All-map (λ z. f y ≡ z → ⊥) f ys (All-weaker (λ x. y ≡ x → ⊥) (λ x. f y ≡ f x → ⊥) (λ x ne e. ne (sym (back y) ∙ ap from e ∙ back x)) ys o.0), once_map from back ys o.1)

module _ {Y Z : Type 0} (part : Y → List Z) where
  pub all_joined : (P : Z → Type 0) (ys : List Y) → ((y : Y) → Has ys y → AllByRecursion P (part y)) → AllByRecursion P (flat_map part ys)
  all_joined P [] h = tt
  all_joined P (y ∷ ys) h = All-append P (part y) (flat_map part ys) (h y (inl refl)) (all_joined P ys (λ x later. h x (inr later)))

  pub has_joined : (ys : List Y) (y : Y) (z : Z) → Has ys y → Has (part y) z → Has (flat_map part ys) z
  has_joined [] y z here there = absurd here
  has_joined (x ∷ ys) y z (inl e) there = has_left (part x) (flat_map part ys) z (subst (λ w. Has (part w) z) (sym e) there)
  has_joined (x ∷ ys) y z (inr later) there = has_right (part x) (flat_map part ys) z (has_joined ys y z later there)

  -- nothing stands twice where each element tells which part it came from
  module _ {W : Type 0} (name : Y → W) (from : Z → W) (told : (y : Y) → AllByRecursion (λ z. from z ≡ name y) (part y)) (each : (y : Y) → Once (part y)) where
    apart : (w : W) (ys : List Y) → AllByRecursion (λ v. w ≡ v → ⊥) (map name ys) → AllByRecursion (λ z. w ≡ from z → ⊥) (flat_map part ys)
    apart w [] h = tt
    apart w (y ∷ ys) h =
        All-append (λ z. w ≡ from z → ⊥) (part y) (flat_map part ys)
        (All-weaker (λ z. from z ≡ name y) (λ z. w ≡ from z → ⊥) (λ z e f. h.0 (f ∙ e)) (part y) (told y))
        (apart w ys h.1)

    pub once_joined : (ys : List Y) → Once (map name ys) → Once (flat_map part ys)
    once_joined [] o = tt
    once_joined (y ∷ ys) o =
        once_append (part y) (flat_map part ys) (each y) (once_joined ys o.1)
        (All-weaker (λ z. from z ≡ name y) (λ z. AllByRecursion (λ x. z ≡ x → ⊥) (flat_map part ys)) others (part y) (told y)) where
          others : (z : Z) → from z ≡ name y → AllByRecursion (λ x. z ≡ x → ⊥) (flat_map part ys)
          others z e = All-weaker (λ x. name y ≡ from x → ⊥) (λ x. z ≡ x → ⊥) (λ x ne s. ne (sym e ∙ ap from s)) (flat_map part ys) (apart (name y) ys o.0)

all_up : (P : ℕ → Type 0) (lo n : ℕ) → ((x : ℕ) → lo ≤ x → x < lo + n → P x) → AllByRecursion P (count_up lo n)
unfolding count_up
all_up P lo zero h = tt
all_up P lo (suc n) h = (h lo (omega arith) (omega arith), all_up P (suc lo) n (λ x low high. h x (omega arith) (omega arith)))

has_up : (lo n x : ℕ) → lo ≤ x → x < lo + n → Has (count_up lo n) x
unfolding count_up
has_up lo zero x low high = omega arith
has_up lo (suc n) x low high = ⊎_elim (λ e. inl e) (λ ne. inr (has_up (suc lo) n x (omega arith) (omega arith))) (cases_eq lo x)

once_up : (lo n : ℕ) → Once (count_up lo n)
unfolding count_up
once_up lo zero = tt
once_up lo (suc n) = (all_up (λ x. lo ≡ x → ⊥) (suc lo) n (λ x low high e. omega arith), once_up (suc lo) n)

pub all_members : (P : ℕ → Type 0) (s : Span) → ((x : ℕ) → has s x ≡ true → P x) → AllByRecursion P (members s)
unfolding members
all_members P s h =
    all_up P s.first (suc s.last - s.first) (λ x low high.
    h x (and_from (leb s.first x) (leb x s.last) (le-leb s.first x low) (le-leb x s.last (omega arith))))

pub has_members : (s : Span) (x : ℕ) → has s x ≡ true → Has (members s) x
unfolding members
has_members s x h =
    let p = and_parts (leb s.first x) (leb x s.last) h in
    let low = leb-true s.first x p.0 in
    let high = leb-true x s.last p.1 in
    has_up s.first (suc s.last - s.first) x low (omega arith)

pub member : (s : Span) (x : ℕ) → Has (members s) x → has s x ≡ true
member s x here = all_at (λ y. has s y ≡ true) (members s) x (all_members (λ y. has s y ≡ true) s (λ y e. e)) here

pub once_members : (s : Span) → Once (members s)
unfolding members
once_members s = once_up s.first (suc s.last - s.first)

-- nothing stands twice in a part for each number of a span
pub once_over : {Z : Type 0} (part : ℕ → List Z) (from : Z → ℕ) → ((n : ℕ) → AllByRecursion (λ z. from z ≡ n) (part n)) → ((n : ℕ) → Once (part n)) → (s : Span) → Once (flat_map part (members s))
once_over part from told each s =
    once_joined part (λ n. n) from told each (members s) (once_map (λ n. n) (λ n. n) (λ n. refl) (members s) (once_members s))
