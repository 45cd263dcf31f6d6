-- Balancing: what one participant more adds to a trial balance, and that its sides stay small.
use Rattle.std.proofs.Common.{◌≡◌, ℕ, zero, suc, ◌+◌, ◌-◌, ◌*◌, ◌^◌, ◌<◌, ◌≤◌, [], ◌∷◌, ◌++◌, ℤ, pos, negsuc, nat_abs, sym, ap, ◌∙◌, mul-le-mul_right, arith}
use Rattle.ledger.specs.Amounts.{most_lines}
use Rattle.ledger.specs.Books.{Bounded}
use Rattle.ledger.specs.Kinds.{balance, cents}
use Rattle.ledger.specs.Lawful.{balance_laws}
use Rattle.ledger.specs.Layers.{Layer, layered}
use Rattle.ledger.specs.Totals.{count_up, members, span, sum}
use Rattle.ledger.specs.declared.balance.Balance.{Balance}
use Rattle.ledger.proofs.Sums.{sum_push}
use Rattle.levels.specs.Questions.{scope_asked, side_of, total}
use Rattle.levels.specs.Terms.{Terms}
use Rattle.levels.specs.declared.question.Question.TheVariants.{Month}
use Rattle.levels.proofs.OverScopes.{scope_within}

up_more : (lo n : ℕ) → count_up lo (suc n) ≡ count_up lo n ++ ((lo + n) ∷ [])
unfolding count_up
up_more lo zero = let e : lo ≡ lo + 0 = omega arith in ap (λ n. n ∷ []) e
up_more lo (suc n) =
    let e : suc lo + n ≡ lo + suc n = omega arith in
    ap (λ ns. lo ∷ ns) (up_more (suc lo) n ∙ ap (λ k. count_up (suc lo) n ++ (k ∷ [])) e)

-- the numbers from 1 up, and the next
span_more : (n : ℕ) → members (span 1 (n + 1)) ≡ members (span 1 n) ++ ((n + 1) ∷ [])
unfolding members
span_more n =
    let a : suc (n + 1) - 1 ≡ suc (suc n - 1) = omega arith in
    let b : 1 + (suc n - 1) ≡ n + 1 = omega arith in
    ap (count_up 1) a ∙ up_more 1 (suc n - 1) ∙ ap (λ k. count_up 1 (suc n - 1) ++ (k ∷ [])) b

-- a total is as large on its side
side_size : (z : ℤ) → balance.size (side_of z) ≡ nat_abs z
side_size (pos n) = omega arith
side_size (negsuc n) = omega arith

module _ (t : Terms) (v : Layer) where
  -- a participant's month total, on its side
  abbrev pub sided : ℕ → Balance
  sided p = side_of (total t v (Month p)).0

  sided_small : Bounded cents (layered v) → (layered v).lines ≤ most_lines → (p : ℕ) → balance.size (sided p) ≤ 10_000_000_000_000_000
  sided_small bounded few p =
      omega (arith, side_size (total t v (Month p)).0, scope_within t (scope_asked (Month p)) (layered v).amount (layered v).lines bounded, mul-le-mul_right 10_000_000_000 few)

  -- a loop's step
  pub balance_more : Bounded cents (layered v) → (layered v).lines ≤ most_lines → (n : ℕ) (b x r : Balance) → n < 32 → b ≡ sum balance sided (members (span 1 n)) → balance.size b ≤ n * 10_000_000_000_000_000 → x ≡ sided (n + 1) → (balance.size b + balance.size x < 2 ^ 63 → r ≡ balance.joined b x) → (r ≡ sum balance sided (members (span 1 (n + 1)))) × (balance.size r ≤ (n + 1) * 10_000_000_000_000_000)
  balance_more bounded few n b x r high sums small is joins =
      let line : balance.size x ≤ 10_000_000_000_000_000 = omega (arith, ap balance.size is, sided_small bounded few (n + 1)) in
      let e : r ≡ balance.joined b x = joins (omega (arith, small, line, high)) in (
        e
            ∙ ap (λ z. balance.joined z x) sums
            ∙ ap (balance.joined (sum balance sided (members (span 1 n)))) is
            ∙ sym (ap (sum balance sided) (span_more n) ∙ sum_push balance_laws sided (members (span 1 n)) (n + 1)),
        omega (arith, ap balance.size e, balance_laws.sizes b x, small, line),
      )
