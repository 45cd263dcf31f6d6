-- Bounds: lines back the amounts that they mean, and what is backed stays small.
use Rattle.std.proofs.Common.{◌≡◌, ℕ, suc, ◌+◌, ◌*◌, ◌^◌, ◌<◌, ◌≤◌, Bool, true, false, ◌&&◌, eqb, List, [], ◌∷◌, length, get_or, take, sum_by, sym, ap, ◌∙◌, ⊎_elim, mul-le-mul_right, add-mul, one-mul, arith}
use Rattle.std.specs.List.{AllByRecursion}
use Rattle.std.proofs.lemmas.List.Sums.{sum_by-cons}
use Rattle.std.proofs.lemmas.Bool.{cases_Bool, eqb-true, and_parts, cond-false, cond_both}
use Rattle.ledger.specs.Amounts.{Kind, Laws, most_lines}
use Rattle.ledger.specs.Books.{Within, Backed}
use Rattle.faults.specs.Keys.{key_of, same, distinct}
use Rattle.ledger.specs.Lines.{counted, put, amount_of}
use Rattle.ledger.specs.Totals.{sum}
use Rattle.faults.specs.declared.key.Key.{Key}
use Rattle.ledger.specs.declared.line.Line.{Line}
use Rattle.ledger.proofs.Sums.{sum_more}

keys_same : {a b c d a' b' c' d' : ℕ} → a ≡ a' → b ≡ b' → c ≡ c' → d ≡ d' → key_of a b c d ≡ key_of a' b' c' d'
keys_same p q r s = cc

pub same_key : (p q : Key) → same p q ≡ true → p ≡ q
same_key p q e =
    let a = and_parts (eqb p.code q.code) (eqb p.participant q.participant && (eqb p.page q.page && eqb p.interval q.interval)) e in
    let b = and_parts (eqb p.participant q.participant) (eqb p.page q.page && eqb p.interval q.interval) a.1 in
    let d = and_parts (eqb p.page q.page) (eqb p.interval q.interval) b.1 in
    keys_same (eqb-true p.code q.code a.0) (eqb-true p.participant q.participant b.0) (eqb-true p.page q.page d.0) (eqb-true p.interval q.interval d.1)

sum_by_le_both : {Y : Type 0} (f g h : Y → ℕ) → ((y : Y) → f y ≤ g y + h y) → (ys : List Y) → sum_by f ys ≤ sum_by g ys + sum_by h ys
sum_by_le_both f g h le [] = omega arith
sum_by_le_both f g h le (y ∷ ys) = omega (arith, le y, sum_by_le_both f g h le ys, sum_by-cons f y ys, sum_by-cons g y ys, sum_by-cons h y ys)

module _ {X : Type 0} {kind : Kind X} (laws : Laws kind) where
  counted_size : (x : X) → kind.size (counted kind x) ≤ kind.largest
  counted_size x = cond_both (kind.allowed x) x kind.nought (λ y. kind.size y ≤ kind.largest) (λ e. laws.line_size x e) (λ e. omega (arith, laws.empty))

  pub put_size : (test : Key → Bool) (l : Line X) → kind.size (put kind test l) ≤ kind.largest
  put_size test l = cond_both (test l.key) (counted kind l.amount) kind.nought (λ y. kind.size y ≤ kind.largest) (λ _. counted_size l.amount) (λ _. omega (arith, laws.empty))

  -- what two books can hold fits when it is joined
  pub joins_fit : (m n : ℕ) (x y : X) → Within kind m x → Within kind n y → kind.size x + kind.size y < 2 ^ 63
  joins_fit m n x y p q = omega (arith, mul-le-mul_right kind.largest p.few, mul-le-mul_right kind.largest q.few, laws.room)

  -- and is backed by the lines of both
  pub joined_within : (m n : ℕ) (x y r : X) → m + n ≤ most_lines → Within kind m x → Within kind n y → r ≡ kind.joined x y → Within kind (m + n) r
  joined_within m n x y r few p q e = record { few = few; small = omega (arith, p.small, q.small, ap kind.size e, laws.sizes x y, add-mul m n kind.largest) }

  pub nought_within : (n : ℕ) (x : X) → n ≤ most_lines → x ≡ kind.nought → Within kind n x
  nought_within n x few e = record { few = few; small = omega (arith, ap kind.size e, laws.empty) }

  -- a loop's step: one part more, no larger than a line
  pub summed_more : {Y : Type 0} (f : Y → X) (ys : List Y) (i : ℕ) (y : Y) (s x r : X) → i < length ys → i < most_lines → y ≡ get_or ys i y → x ≡ f y → kind.size x ≤ kind.largest → Within kind i s → s ≡ sum kind f (take i ys) → (kind.size s + kind.size x < 2 ^ 63 → r ≡ kind.joined s x) → Within kind (i + 1) r × (r ≡ sum kind f (take (i + 1) ys))
  summed_more f ys i y s x r here few is part line low sums joins =
      let one : Within kind 1 x = record { few = omega arith; small = omega (arith, one-mul kind.largest) } in
      let e : r ≡ kind.joined s x = joins (joins_fit i 1 s x low one) in (
        joined_within i 1 s x r (omega arith) low one e,
        e ∙ ap (λ z. kind.joined z x) sums ∙ ap (kind.joined (sum kind f (take i ys))) part ∙ sym (sum_more laws f ys i y here is),
      )

  nought_sizes : (ks : List Key) → sum_by (λ (k : Key). kind.size kind.nought) ks ≤ 0
  nought_sizes [] = omega arith
  nought_sizes (k ∷ ks) = omega (arith, sum_by-cons (λ (k : Key). kind.size kind.nought) k ks, nought_sizes ks, laws.empty)

  -- a line puts its amount at one key only
  module _ (l : Line X) where
    at_size : Key → ℕ
    at_size q = kind.size (put kind (λ k. same k q) l)

    elsewhere : (k : Key) → same l.key k ≡ true → (ks : List Key) → AllByRecursion (λ q. same k q ≡ false) ks → sum_by at_size ks ≤ 0
    unfolding at_size
    elsewhere k e [] a = omega arith
    elsewhere k e (q ∷ qs) a =
        let no' : same l.key q ≡ false = ap (λ p. same p q) (same_key l.key k e) ∙ a.0 in
        let z : at_size q ≡ 0 = ap kind.size (cond-false (same l.key q) (counted kind l.amount) kind.nought no') ∙ laws.empty in
        omega (arith, z, sum_by-cons at_size q qs, elsewhere k e qs a.1)

    once : (ks : List Key) → distinct ks → sum_by at_size ks ≤ kind.largest
    unfolding at_size
    once [] d = omega arith
    once (k ∷ ks) d =
        ⊎_elim
        (λ e. omega (arith, put_size (λ p. same p k) l, sum_by-cons at_size k ks, elsewhere k e ks d.0))
        (λ e.
        let z : at_size k ≡ 0 = ap kind.size (cond-false (same l.key k) (counted kind l.amount) kind.nought e) ∙ laws.empty in
        omega (arith, z, sum_by-cons at_size k ks, once ks d.1))
        (cases_Bool (same l.key k))

    line_backed : Backed kind (λ q. put kind (λ k. same k q) l) 1
    unfolding at_size
    line_backed ks d = omega (arith, once ks d, one-mul kind.largest)

  pub nought_backed : Backed kind (λ _. kind.nought) 0
  nought_backed ks d = omega (arith, nought_sizes ks)

  pub joined_backed : (f g : Key → X) (m n : ℕ) → Backed kind f m → Backed kind g n → Backed kind (λ q. kind.joined (f q) (g q)) (m + n)
  joined_backed f g m n bf bg ks d =
      omega (
        arith,
        add-mul m n kind.largest,
        bf ks d,
        bg ks d,
        sum_by_le_both (λ k. kind.size (kind.joined (f k) (g k))) (λ k. kind.size (f k)) (λ k. kind.size (g k)) (λ q. laws.sizes (f q) (g q)) ks,
      )

  pub lines_backed : {E : Type 0} (line : E → Line X) (es : List E) → Backed kind (amount_of kind line es) (length es)
  unfolding sum
  lines_backed line [] ks d = nought_backed ks d
  lines_backed line (e ∷ es) ks d =
      let n : 1 + length es ≡ suc (length es) = omega arith in
      rw n at (joined_backed (λ q. put kind (λ k. same k q) (line e)) (amount_of kind line es) 1 (length es) (line_backed (line e)) (lines_backed line es) ks d)

  -- with no lines every amount is nought
  pub nought_unbacked : (f : Key → X) (n : ℕ) → Backed kind f n → n ≡ 0 → (k : Key) → f k ≡ kind.nought
  nought_unbacked f n b e k =
      let z : n * kind.largest ≡ 0 = rw e (omega arith) in
      laws.nothing (f k) (omega (arith, z, b (k ∷ []) (tt, tt), sum_by-cons (λ q. kind.size (f q)) k []))
