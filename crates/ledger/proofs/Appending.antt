-- Appending: what one line more does to what lines mean.
use Rattle.std.proofs.Common.{◌≡◌, ℕ, ◌+◌, ◌-◌, ◌<◌, Bool, true, false, cond, List, [], ◌∷◌, ◌++◌, length, take, set, sym, ap, ◌∙◌, arith}
use Rattle.std.proofs.lemmas.List.{take_more_set, length-set, length-take-le}
use Rattle.std.proofs.lemmas.Bool.{cond-true}
use Rattle.faults.specs.declared.layer.Layer.TheVariants as tier
use Rattle.ledger.specs.Amounts.{Kind, Laws, most_lines}
use Rattle.ledger.specs.Books.{Meaning, posted, Posted, Bounded}
use Rattle.ledger.specs.Journals.{room, standing, journal_means, unused}
use Rattle.faults.specs.Keys.{same}
use Rattle.ledger.specs.Lines.{counted, put, amount_of}
use Rattle.ledger.specs.Totals.{sum}
use Rattle.faults.specs.declared.key.Key.{Key}
use Rattle.ledger.specs.declared.line.Line.{Line}
use Rattle.ledger.proofs.Bounds.{lines_backed}
use Rattle.ledger.proofs.Sums.{nought_right, sum_push}

module _ {X : Type 0} {kind : Kind X} (laws : Laws kind) where
  put_on : (b : Bool) (f x y : X) → y ≡ x → kind.joined f (cond b y kind.nought) ≡ cond b (kind.joined f x) f
  put_on true f x y e = ap (kind.joined f) e
  put_on false f x y e = nought_right laws f

  pub amount_pushed : {E : Type 0} (line : E → Line X) (es : List E) (e : E) → kind.allowed (line e).amount ≡ true → (q : Key) → amount_of kind line (es ++ (e ∷ [])) q ≡ posted kind (amount_of kind line es) (line e).key (line e).amount q
  amount_pushed line es e ok q =
      sum_push laws (λ e. put kind (λ k. same k q) (line e)) es e
      ∙ put_on (same (line e).key q) (amount_of kind line es q) (line e).amount (counted kind (line e).amount) (cond-true (kind.allowed (line e).amount) (line e).amount kind.nought ok)

  pub journal_posted : (places : List (Line X)) (used : ℕ) (k : Key) (x : X) → used < length places → used < most_lines → kind.allowed x ≡ true → Posted kind (journal_means kind places used) k x (journal_means kind (set places used (record { key = k; amount = x })) (used + 1))
  journal_posted places used k x here few ok =
      let l : Line X = record { key = k; amount = x } in
      let before : standing used (length places) ≡ used = omega arith in
      let after : standing (used + 1) (length (set places used l)) ≡ used + 1 = omega (arith, length-set places used l) in
      record {
        amounts = λ q.
            ap (λ n. amount_of kind (λ l. l) (take n (set places used l)) q) after
            ∙ ap (λ ls. amount_of kind (λ l. l) ls q) (take_more_set places used l here)
            ∙ amount_pushed (λ l. l) (take used places) l ok q
            ∙ ap (λ n. posted kind (amount_of kind (λ l. l) (take n places)) k x q) (sym before);
        longer = omega (arith, before, after);
        fewer = omega (arith, before, after, length-set places used l);
      }

  pub journal_bounded : (places : List (Line X)) (used : ℕ) → Bounded kind (journal_means kind places used)
  journal_bounded places used ks d =
      rw (length-take-le (standing used (length places)) places (omega arith)) at (lines_backed laws (λ l. l) (take (standing used (length places)) places) ks d)

pub journal_unused : {X : Type 0} (kind : Kind X) (places : List (Line X)) → journal_means kind places 0 ≡ unused kind (length places)
unfolding sum
journal_unused {X} kind places =
    let none : standing 0 (length places) ≡ 0 = omega arith in
    let all : room (length places) - 0 ≡ room (length places) = omega arith in
    let with_lines : ℕ → Meaning X = λ n. record { amount = amount_of kind (λ l. l) (take n places); lines = n; free = room (length places) - n; layer = tier.Book } in
    let with_free : ℕ → Meaning X = λ n. record { amount = λ _. kind.nought; lines = 0; free = n; layer = tier.Book } in
    ap with_lines none ∙ ap with_free all
