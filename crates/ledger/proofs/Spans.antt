-- Spans: a sum over their numbers, picked out or split in two.
use Rattle.std.proofs.Common.{◌≡◌, ℕ, zero, suc, ◌+◌, ◌-◌, ◌≤◌, Bool, true, false, cond, ◌&&◌, eqb, ltb, leb, [], ◌∷◌, ◌++◌, sym, refl, ap, ◌∙◌, ⊎_elim, arith}
use Rattle.std.proofs.lemmas.Bool.{cases_eq, cases_lt, eq-eqb, ne_eqb, le-leb, lt-leb, lt-ltb, le-ltb, cond-false, and_left, and_right, and_from}
use Rattle.ledger.specs.Amounts.{Kind, Laws}
use Rattle.ledger.specs.Totals.{span, sum, count_up, members, has}
use Rattle.ledger.specs.declared.span.Span.{Span}
use Rattle.ledger.proofs.Sums.{nought_right, sum_same, sum_append, sum_one}

-- a span up to one of its numbers, and what comes after that number
abbrev pub upto : Span → ℕ → Span
upto s m = span s.first m

abbrev pub past : Span → ℕ → Span
past s m = span (suc m) s.last

-- k is one of the n numbers from first up
among : ℕ → ℕ → ℕ → Bool
among k first n = leb first k && ltb k (first + n)

among_none : (k first : ℕ) → among k first 0 ≡ false
unfolding among
among_none k first = ⊎_elim (λ h. and_left _ _ (lt-leb first k h)) (λ h. and_right (leb first k) (ltb k (first + 0)) (le-ltb k (first + 0) (omega arith))) (cases_lt k first)

among_first : (k first n : ℕ) → k ≡ first → (among k (suc first) n ≡ false) × (among k first (suc n) ≡ true)
unfolding among
among_first k first n e = (and_left _ _ (lt-leb (suc first) k (omega arith)), and_from _ _ (le-leb first k (omega arith)) (lt-ltb k (first + suc n) (omega arith)))

among_other : (k first n : ℕ) → (k ≡ first → ⊥) → among k (suc first) n ≡ among k first (suc n)
unfolding among
among_other k first n ne = grind arith

among_has : (s : Span) (k : ℕ) → among k s.first (suc s.last - s.first) ≡ has s k
unfolding among
among_has s k = grind arith

count_up_split : (first m n : ℕ) → count_up first (m + n) ≡ count_up first m ++ count_up (first + m) n
unfolding count_up
count_up_split first zero n = let a : 0 + n ≡ n = omega arith in let b : first ≡ first + 0 = omega arith in ap (count_up first) a ∙ ap (λ k. count_up k n) b
count_up_split first (suc m) n =
    let a : suc m + n ≡ suc (m + n) = omega arith in
    let b : suc first + m ≡ first + suc m = omega arith in
    ap (count_up first) a ∙ ap (λ ns. first ∷ ns) (count_up_split (suc first) m n ∙ ap (λ k. count_up (suc first) m ++ count_up k n) b)

-- a span cut after one of its numbers
pub members_split : (s : Span) (m : ℕ) → s.first ≤ m → m ≤ s.last → members s ≡ members (upto s m) ++ members (past s m)
unfolding members
members_split s m low high =
    let a : suc s.last - s.first ≡ (suc m - s.first) + (suc s.last - suc m) = omega arith in
    let b : s.first + (suc m - s.first) ≡ suc m = omega arith in
    ap (count_up s.first) a
    ∙ count_up_split s.first (suc m - s.first) (suc s.last - suc m)
    ∙ ap (λ k. count_up s.first (suc m - s.first) ++ count_up k (suc s.last - suc m)) b

pub members_only : (n : ℕ) → members (span n n) ≡ n ∷ []
unfolding members count_up
members_only n = let a : suc n - n ≡ 1 = omega arith in ap (count_up n) a

module _ {X : Type 0} {kind : Kind X} (laws : Laws kind) where
  pick_one : (k : ℕ) (a : X) (first n : ℕ) → sum kind (λ x. cond (eqb k x) a kind.nought) (count_up first n) ≡ cond (among k first n) a kind.nought
  unfolding sum count_up
  pick_one k a first zero = sym (cond-false (among k first 0) a kind.nought (among_none k first))
  pick_one k a first (suc n) =
      ap (kind.joined (cond (eqb k first) a kind.nought)) (pick_one k a (suc first) n)
      ∙ ⊎_elim
      (λ e. let f = among_first k first n e in rw (eq-eqb k first e, f.0, f.1) (nought_right laws a))
      (λ ne. rw (ne_eqb k first ne, among_other k first n ne) (laws.left _))
      (cases_eq k first)

  spread : (F : Bool → X) → F false ≡ kind.nought → (b : Bool) → F b ≡ cond b (F true) kind.nought
  spread F e true = refl
  spread F e false = e

  -- of the numbers of a span, only k counts
  pub sum_picked : (s : Span) (k : ℕ) (F : Bool → X) → F false ≡ kind.nought → sum kind (λ n. F (eqb k n)) (members s) ≡ F (has s k)
  unfolding members
  sum_picked s k F e =
      sum_same laws (λ n. F (eqb k n)) (λ n. cond (eqb k n) (F true) kind.nought) (λ n. spread F e (eqb k n)) (members s)
      ∙ pick_one k (F true) s.first (suc s.last - s.first)
      ∙ ap (λ b. cond b (F true) kind.nought) (among_has s k)
      ∙ sym (spread F e (has s k))

  pub sum_split : (f : ℕ → X) (s : Span) (m : ℕ) → s.first ≤ m → m ≤ s.last → sum kind f (members s) ≡ kind.joined (sum kind f (members (upto s m))) (sum kind f (members (past s m)))
  sum_split f s m low high = ap (sum kind f) (members_split s m low high) ∙ sum_append laws f _ _

  pub sum_at : (f : ℕ → X) (n : ℕ) → sum kind f (members (span n n)) ≡ f n
  sum_at f n = ap (sum kind f) (members_only n) ∙ sum_one laws f n
