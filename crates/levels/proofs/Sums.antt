-- Sums over joined lists and over spans, beyond what the ledger has.
use Rattle.std.proofs.Common.{◌≡◌, ℕ, zero, suc, ◌+◌, ◌-◌, ◌*◌, ◌^◌, ◌<◌, ◌≤◌, Bool, true, false, cond, ◌&&◌, eqb, leb, List, [], ◌∷◌, map, length, get_or, take, nat_abs, Some, None, Option, sym, refl, ap, ◌∙◌, inl, inr, ⊎_elim, arith}
use Rattle.std.specs.List.{flat_map, AllByRecursion}
use Rattle.std.proofs.ByRecursion.{All-weaker}
use Rattle.std.proofs.lemmas.List.{get_or_default}
use Rattle.std.proofs.lemmas.Bool.{and_from, cases_Bool, cases_eq, cond-false, cond-true, le-leb, ne_eqb}
use Rattle.ledger.specs.Amounts.{Kind, Laws, most_lines}
use Rattle.ledger.specs.Books.{Within}
use Rattle.ledger.specs.Kinds.{cents}
use Rattle.ledger.specs.Lawful.{cents_laws}
use Rattle.ledger.specs.Totals.{count_up, has, members, span, sum}
use Rattle.ledger.specs.declared.cents.Cents.{Cents}
use Rattle.ledger.specs.declared.span.Span.{Span}
use Rattle.ledger.proofs.Sums.{nought_right, sum_append, sum_more, sum_nought, sum_same}
use Rattle.ledger.proofs.Spans.{sum_at, sum_picked}
use Rattle.levels.specs.Levels.{Has, Once}
use Rattle.levels.specs.Scopes.{meets}
use Rattle.levels.specs.Workings.{narrowed}
use Rattle.levels.proofs.Lists.{all_at, all_both}

pub cond_and : {X : Type 0} (a b : Bool) (x y : X) → cond (a && b) x y ≡ cond a (cond b x y) y
cond_and true b x y = refl
cond_and false b x y = refl

members_none : members (span 1 0) ≡ []
unfolding members count_up
members_none = refl

module _ {X : Type 0} {kind : Kind X} (laws : Laws kind) where
  pub sum_each : {Y Z : Type 0} (f : Z → X) (g : Y → List Z) (ys : List Y) → sum kind f (flat_map g ys) ≡ sum kind (λ y. sum kind f (g y)) ys
  unfolding sum
  sum_each f g [] = refl
  sum_each f g (y ∷ ys) = sum_append laws f (g y) (flat_map g ys) ∙ ap (kind.joined (sum kind f (g y))) (sum_each f g ys)

  pub sum_map : {Y Z : Type 0} (f : Z → X) (g : Y → Z) (ys : List Y) → sum kind f (map g ys) ≡ sum kind (λ y. f (g y)) ys
  unfolding sum
  sum_map f g [] = refl
  sum_map f g (y ∷ ys) = ap (kind.joined (f (g y))) (sum_map f g ys)

  pub sum_when : {Y : Type 0} (b : Bool) (f : Y → X) (ys : List Y) → sum kind (λ y. cond b (f y) kind.nought) ys ≡ cond b (sum kind f ys) kind.nought
  sum_when true f ys = refl
  sum_when false f ys = sum_nought laws ys

  pub sum_same_all : {Y : Type 0} (f g : Y → X) (ys : List Y) → AllByRecursion (λ y. f y ≡ g y) ys → sum kind f ys ≡ sum kind g ys
  unfolding sum
  sum_same_all f g [] h = refl
  sum_same_all f g (y ∷ ys) h = ap (λ x. kind.joined x (sum kind f ys)) h.0 ∙ ap (kind.joined (g y)) (sum_same_all f g ys h.1)

  same_up : (f g : ℕ → X) (lo n : ℕ) → ((x : ℕ) → lo ≤ x → x < lo + n → f x ≡ g x) → sum kind f (count_up lo n) ≡ sum kind g (count_up lo n)
  unfolding sum count_up
  same_up f g lo zero h = refl
  same_up f g lo (suc n) h =
      ap (λ x. kind.joined x (sum kind f (count_up (suc lo) n))) (h lo (omega arith) (omega arith))
      ∙ ap (kind.joined (g lo)) (same_up f g (suc lo) n (λ x low high. h x (omega arith) (omega arith)))

  -- only what stands at the numbers of a span matters
  pub sum_same_members : (f g : ℕ → X) (s : Span) → ((x : ℕ) → has s x ≡ true → f x ≡ g x) → sum kind f (members s) ≡ sum kind g (members s)
  unfolding members
  sum_same_members f g s h =
      same_up f g s.first (suc s.last - s.first) (λ x low high.
      h x (and_from (leb s.first x) (leb x s.last) (le-leb s.first x low) (le-leb x s.last (omega arith))))

  -- a sum over a span of what meets a number, or over the span narrowed to it
  pub sum_narrowed : (o : Option ℕ) (f : ℕ → X) (s : Span) → sum kind (λ x. cond (meets o x) (f x) kind.nought) (members s) ≡ sum kind f (members (narrowed s o))
  unfolding sum
  sum_narrowed None f s = refl
  sum_narrowed (Some m) f s =
      sum_same laws (λ x. cond (eqb m x) (f x) kind.nought) (λ x. cond (eqb m x) (f m) kind.nought) at_m (members s)
      ∙ sum_picked laws s m (λ b. cond b (f m) kind.nought) refl
      ∙ by (has s m) where
        at_m : (x : ℕ) → cond (eqb m x) (f x) kind.nought ≡ cond (eqb m x) (f m) kind.nought
        at_m x = ⊎_elim (λ e. ap (λ y. cond (eqb m x) (f y) kind.nought) (sym e)) (λ ne. rw (ne_eqb m x ne) refl) (cases_eq m x)

        by : (b : Bool) → cond b (f m) kind.nought ≡ sum kind f (members (cond b (span m m) (span 1 0)))
        by true = sym (sum_at laws f m)
        by false = sym (ap (sum kind f) members_none)

  -- of a list, only one element counts
  module _ {Y : Type 0} (test : Y → Bool) (a : X) where
    pub sum_missed : (ys : List Y) → AllByRecursion (λ y. test y ≡ false) ys → sum kind (λ y. cond (test y) a kind.nought) ys ≡ kind.nought
    sum_missed ys h =
        sum_same_all (λ y. cond (test y) a kind.nought) (λ _. kind.nought) ys
        (All-weaker (λ y. test y ≡ false) (λ y. cond (test y) a kind.nought ≡ kind.nought) (λ y e. cond-false (test y) a kind.nought e) ys h)
        ∙ sum_nought laws ys

    pub sum_hit : (y : Y) (ys : List Y) → Once ys → Has ys y → test y ≡ true → AllByRecursion (λ x. test x ≡ true → y ≡ x) ys → sum kind (λ x. cond (test x) a kind.nought) ys ≡ a
    unfolding sum
    sum_hit y [] o here met only = absurd here
    sum_hit y (x ∷ ys) o (inl e) met only =
        let others : AllByRecursion (λ z. test z ≡ false) ys = all_both (λ z. x ≡ z → ⊥) (λ z. test z ≡ true → y ≡ z) (λ z. test z ≡ false) (λ z ne is. ⊎_elim (λ t. absurd (ne (e ∙ is t))) (λ f. f) (cases_Bool (test z))) ys o.0 only.1 in
        ap (λ z. kind.joined z (sum kind (λ x. cond (test x) a kind.nought) ys)) (cond-true (test x) a kind.nought (ap test e ∙ met))
        ∙ ap (kind.joined a) (sum_missed ys others)
        ∙ nought_right laws a
    sum_hit y (x ∷ ys) o (inr later) met only =
        let no' : test x ≡ false = ⊎_elim (λ t. absurd (all_at (λ z. x ≡ z → ⊥) ys y o.0 later (sym (only.0 t)))) (λ f. f) (cases_Bool (test x)) in
        ap (λ z. kind.joined z (sum kind (λ x. cond (test x) a kind.nought) ys)) (cond-false (test x) a kind.nought no')
        ∙ laws.left _
        ∙ sum_hit y ys o.1 later met only.1

-- the numbers of a narrowed span are numbers of the span
pub has_narrowed : (s : Span) (o : Option ℕ) (x : ℕ) → has (narrowed s o) x ≡ true → has s x ≡ true
has_narrowed s None x h = h
has_narrowed s (Some m) x h = by (has s m) refl h where
  by : (b : Bool) → has s m ≡ b → has (cond b (span m m) (span 1 0)) x ≡ true → has s x ≡ true
  by true e h = let same : m ≡ x = grind arith in ap (has s) (sym same) ∙ e
  by false e h = let z : ⊥ = grind arith in absurd z

-- a loop's step: what one code more adds, where none has more than a full book holds
pub found_more : {Y : Type 0} (f : Y → Cents) (ys : List Y) (i : ℕ) (d : Y) (s x r : Cents) → i < length ys → i < 127 → x ≡ f (get_or ys i d) → Within cents most_lines x → s ≡ sum cents f (take i ys) → nat_abs s.0 ≤ i * 10_000_000_000_000_000 → (nat_abs s.0 + nat_abs x.0 < 2 ^ 63 → r ≡ cents.joined s x) → (r ≡ sum cents f (take (i + 1) ys)) × (nat_abs r.0 ≤ (i + 1) * 10_000_000_000_000_000)
found_more f ys i d s x r here few part line sums small joins =
    let w = line.small in
    let e : r ≡ cents.joined s x = joins (omega arith) in (
      e
          ∙ ap (λ z. cents.joined z x) sums
          ∙ ap (cents.joined (sum cents f (take i ys))) part
          ∙ sym (sum_more cents_laws f ys i (get_or ys i d) here (get_or_default ys i d (get_or ys i d) here)),
      omega (arith, ap (λ z. nat_abs z.0) e, cents_laws.sizes s x, w),
    )
