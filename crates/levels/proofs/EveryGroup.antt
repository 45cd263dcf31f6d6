-- The groups of all parents: each number that is a group stands among them once, and no other does.
use Rattle.std.proofs.Common.{◌≡◌, ℕ, ◌+◌, ◌<◌, ◌≤◌, Bool, true, cond, eqb, List, [], ◌∷◌, length, is_some, Some, count_by, filter, sym, refl, ap, ◌∙◌, inl, inr, ⊎_elim, arith}
use Rattle.std.specs.List.{AllByRecursion}
use Rattle.std.proofs.ByRecursion.{All-append, All-weaker}
use Rattle.std.proofs.lemmas.List.{length-map}
use Rattle.std.proofs.lemmas.List.Sums.{sum_by-cons}
use Rattle.std.proofs.lemmas.Bool.{cases_Bool, cond-false, cond-true, eq-eqb, eqb-true, ltb-true}
use Rattle.tariff.proofs.TariffSound.{tariff_sound}
use Rattle.tariff.specs.Month.{groups_of, is_group, parent_of, table_of}
use Rattle.tariff.specs.Sound.{every_group}
use Rattle.tariff.specs.declared.parent.Parent.{Parent}
use Rattle.tariff.specs.declared.parent.Parent.TheVariants.{DailyRounded, DailyUnrounded, Monthly}
use Rattle.levels.specs.Levels.{Has, Once}

-- where a test keeps something, some element passes it
kept_some : {X : Type 0} (test : X → Bool) (P : X → Type 0) (xs : List X) → AllByRecursion P xs → 0 < length (filter test xs) → (x : X) × (test x ≡ true) × P x
kept_some test P [] h some = let z : ⊥ = omega arith in absurd z
kept_some test P (x ∷ xs) h some =
    ⊎_elim
    (λ met. (x, met, h.0))
    (λ missed. kept_some test P xs h.1 (omega (arith, some, ap length (cond-false (test x) (x ∷ filter test xs) (filter test xs) missed))))
    (cases_Bool (test x))

count_cons : (x y : ℕ) (ys : List ℕ) → count_by (eqb x) (y ∷ ys) ≡ cond (eqb x y) 1 0 + count_by (eqb x) ys
count_cons x y ys = sum_by-cons (λ z. cond (eqb x z) 1 0) y ys

-- what is counted stands there
has_counted : (x : ℕ) (xs : List ℕ) → 0 < count_by (eqb x) xs → Has xs x
has_counted x [] some = omega arith
has_counted x (y ∷ ys) some =
    ⊎_elim
    (λ met. inl (sym (eqb-true x y met)))
    (λ missed. inr (has_counted x ys (omega (arith, count_cons x y ys, cond-false {A = ℕ} (eqb x y) 1 0 missed))))
    (cases_Bool (eqb x y))

absent : (x : ℕ) (ys : List ℕ) → count_by (eqb x) ys ≤ 0 → AllByRecursion (λ y. x ≡ y → ⊥) ys
absent x [] none = tt
absent x (y ∷ ys) none =
    (λ e. omega (arith, none, count_cons x y ys, cond-true {A = ℕ} (eqb x y) 1 0 (eq-eqb x y e)), absent x ys (omega (arith, none, count_cons x y ys)))

-- what is counted once stands there once
once_counted : (xs : List ℕ) → AllByRecursion (λ x. count_by (eqb x) xs ≤ 1) xs → Once xs
once_counted [] h = tt
once_counted (x ∷ xs) h = (
  absent x xs (omega (arith, h.0, count_cons x x xs, cond-true {A = ℕ} (eqb x x) 1 0 (eq-eqb x x refl))),
  once_counted xs (All-weaker (λ y. count_by (eqb y) (x ∷ xs) ≤ 1) (λ y. count_by (eqb y) xs ≤ 1) (λ y few. omega (arith, few, count_cons y x xs)) xs h.1),
)

module _ (year month : ℕ) where
  counted : (g : ℕ) → is_group year month g ≡ true → count_by (eqb g) (every_group year month) ≡ 1
  counted g h =
      let s = tariff_sound year month in
      let kept = filter (λ e. eqb e.1 g) (table_of year month) in
      let some : 0 < length kept = omega (arith, ltb-true 0 _ (s.with_codes g ∙ h), length-map kept (λ e. e.0)) in
      let e = kept_some (λ e. eqb e.1 g) (λ e. count_by (eqb e.1) (every_group year month) ≡ 1) (table_of year month) s.one_parent some in
      sym (ap (λ n. count_by (eqb n) (every_group year month)) (eqb-true e.0.1 g e.1)) ∙ e.2

  pub has_group : (g : ℕ) → is_group year month g ≡ true → Has (every_group year month) g
  has_group g h = has_counted g (every_group year month) (omega (arith, counted g h))

  of_parent : (parent : Parent) → AllByRecursion (λ g. is_group year month g ≡ true) (groups_of year month parent)
  of_parent parent =
      let s = tariff_sound year month in
      All-weaker (λ g. parent_of year month g ≡ Some parent) (λ g. is_group year month g ≡ true) (λ g e. sym (s.with_parent g) ∙ ap is_some e) (groups_of year month parent) (s.listed parent)

  pub all_groups : AllByRecursion (λ g. is_group year month g ≡ true) (every_group year month)
  all_groups =
      All-append _ (groups_of year month DailyRounded) _ (of_parent DailyRounded) (
      All-append _ (groups_of year month Monthly) (groups_of year month DailyUnrounded) (of_parent Monthly) (of_parent DailyUnrounded))

  pub once_groups : Once (every_group year month)
  once_groups =
      once_counted (every_group year month)
      (All-weaker (λ g. is_group year month g ≡ true) (λ g. count_by (eqb g) (every_group year month) ≤ 1) (λ g h. omega (arith, counted g h)) (every_group year month) all_groups)
