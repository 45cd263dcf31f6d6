-- Totals over a scope and over all keys: of amounts that are alike, joined or posted to, and how large they are.
use Rattle.std.proofs.Common.{◌≡◌, ℕ, ◌*◌, ◌≤◌, Bool, true, false, cond, List, [], ◌∷◌, nat_abs, sum_by, sym, refl, ap, ◌∙◌, ⊎_elim, arith}
use Rattle.std.proofs.ByRecursion.{All-weaker}
use Rattle.std.proofs.lemmas.List.Sums.{sum_by-cons}
use Rattle.std.proofs.lemmas.Bool.{and_from, both_ways, cases_Bool, eq-eqb}
use Rattle.ledger.specs.Amounts.{Kind, Laws}
use Rattle.ledger.specs.Books.{Backed, posted}
use Rattle.faults.specs.Keys.{same}
use Rattle.ledger.specs.Kinds.{cents}
use Rattle.ledger.specs.Lawful.{cents_laws}
use Rattle.ledger.specs.Totals.{sum}
use Rattle.ledger.specs.declared.cents.Cents.{Cents}
use Rattle.faults.specs.declared.key.Key.{Key}
use Rattle.ledger.proofs.Bounds.{same_key}
use Rattle.ledger.proofs.Sums.{nought_right, sum_joined, sum_same}
use Rattle.levels.specs.Levels.{whole}
use Rattle.levels.specs.Scopes.{covers, total_over}
use Rattle.levels.specs.Terms.{Terms, holds, keys}
use Rattle.levels.specs.declared.scope.Scope.{Scope}
use Rattle.levels.proofs.Keys.{keys_distinct, keys_has, keys_hold, keys_once}
use Rattle.levels.proofs.Lists.{all_each}
use Rattle.levels.proofs.Sums.{sum_hit, sum_missed, sum_same_all}

same_itself : (k : Key) → same k k ≡ true
same_itself k =
    and_from _ _ (eq-eqb k.code k.code refl) (
    and_from _ _ (eq-eqb k.participant k.participant refl) (
    and_from _ _ (eq-eqb k.page k.page refl) (eq-eqb k.interval k.interval refl)))

module _ {X : Type 0} {kind : Kind X} (laws : Laws kind) where
  -- an amount at one key
  pub sum_at_key : (t : Terms) (k : Key) (a : X) → sum kind (λ q. cond (same k q) a kind.nought) (keys t) ≡ cond (holds t k) a kind.nought
  sum_at_key t k a = ⊎_elim in_month outside (cases_Bool (holds t k)) where
    in_month : holds t k ≡ true → sum kind (λ q. cond (same k q) a kind.nought) (keys t) ≡ cond (holds t k) a kind.nought
    in_month h =
        sum_hit laws (same k) a k (keys t) (keys_once t) (keys_has t k h) (same_itself k) (all_each (λ q. same k q ≡ true → k ≡ q) (keys t) (λ q _ e. same_key k q e))
        ∙ ap (λ b. cond b a kind.nought) (sym h)

    other : (q : Key) → holds t k ≡ false → holds t q ≡ true → same k q ≡ false
    other q out here = ⊎_elim (λ e. absurd (both_ways (holds t k) out (ap (holds t) (same_key k q e) ∙ here))) (λ e. e) (cases_Bool (same k q))

    outside : holds t k ≡ false → sum kind (λ q. cond (same k q) a kind.nought) (keys t) ≡ cond (holds t k) a kind.nought
    outside h =
        sum_missed laws (same k) a (keys t) (All-weaker (λ q. holds t q ≡ true) (λ q. same k q ≡ false) (λ q here. other q h here) (keys t) (keys_hold t))
        ∙ ap (λ b. cond b a kind.nought) (sym h)

as_join : (b : Bool) (f x : Cents) → cond b (cents.joined f x) f ≡ cents.joined f (cond b x cents.nought)
as_join true f x = refl
as_join false f x = sym (nought_right cents_laws f)

pub join_when : (b : Bool) (x y : Cents) → cond b (cents.joined x y) cents.nought ≡ cents.joined (cond b x cents.nought) (cond b y cents.nought)
join_when true x y = refl
join_when false x y = refl

module _ (t : Terms) where
  pub whole_alike : (f g : Key → Cents) → ((q : Key) → holds t q ≡ true → f q ≡ g q) → whole t f ≡ whole t g
  whole_alike f g h = sum_same_all cents_laws f g (keys t) (All-weaker (λ q. holds t q ≡ true) (λ q. f q ≡ g q) h (keys t) (keys_hold t))

  pub whole_joined : (f g : Key → Cents) → whole t (λ q. cents.joined (f q) (g q)) ≡ cents.joined (whole t f) (whole t g)
  whole_joined f g = sum_joined cents_laws f g (keys t)

  -- a post changes the whole by its amount, where its key is one of the month's
  pub whole_posted : (f : Key → Cents) (k : Key) (x : Cents) → whole t (posted cents f k x) ≡ cents.joined (whole t f) (cond (holds t k) x cents.nought)
  whole_posted f k x =
      sum_same cents_laws (posted cents f k x) (λ q. cents.joined (f q) (cond (same k q) x cents.nought)) (λ q. as_join (same k q) (f q) x) (keys t)
      ∙ whole_joined f (λ q. cond (same k q) x cents.nought)
      ∙ ap (cents.joined (whole t f)) (sum_at_key cents_laws t k x)

  module _ (s : Scope) where
    -- only what stands at the keys that the scope covers matters
    pub scope_alike : (f g : Key → Cents) → ((q : Key) → holds t q ≡ true → covers t s q ≡ true → f q ≡ g q) → total_over t s f ≡ total_over t s g
    unfolding total_over
    scope_alike f g h = whole_alike _ _ (λ q here. by q here (covers t s q) refl) where
      by : (q : Key) → holds t q ≡ true → (b : Bool) → covers t s q ≡ b → cond b (f q) cents.nought ≡ cond b (g q) cents.nought
      by q here true e = h q here e
      by q here false e = refl

    pub scope_joined : (f g : Key → Cents) → total_over t s (λ q. cents.joined (f q) (g q)) ≡ cents.joined (total_over t s f) (total_over t s g)
    unfolding total_over
    scope_joined f g =
        sum_same cents_laws _ _ (λ q. join_when (covers t s q) (f q) (g q)) (keys t)
        ∙ whole_joined (λ q. cond (covers t s q) (f q) cents.nought) (λ q. cond (covers t s q) (g q) cents.nought)

    scope_at_key : (k : Key) (x : Cents) → total_over t s (λ q. cond (same k q) x cents.nought) ≡ cond (holds t k) (cond (covers t s k) x cents.nought) cents.nought
    unfolding total_over
    scope_at_key k x =
        sum_same cents_laws _ (λ q. cond (same k q) (cond (covers t s k) x cents.nought) cents.nought) (λ q. by q (covers t s q) (same k q) refl refl) (keys t)
        ∙ sum_at_key cents_laws t k (cond (covers t s k) x cents.nought) where
          by : (q : Key) (c b : Bool) → covers t s q ≡ c → same k q ≡ b → cond c (cond b x cents.nought) cents.nought ≡ cond b (cond (covers t s k) x cents.nought) cents.nought
          by q c true ec eb = ap (λ z. cond z x cents.nought) (sym ec ∙ sym (ap (covers t s) (same_key k q eb)))
          by q true false ec eb = refl
          by q false false ec eb = refl

    -- a post changes a total by its amount, where its key is one of the month's and covered
    pub scope_posted : (f : Key → Cents) (k : Key) (x : Cents) → total_over t s (posted cents f k x) ≡ cents.joined (total_over t s f) (cond (holds t k) (cond (covers t s k) x cents.nought) cents.nought)
    scope_posted f k x =
        scope_alike (posted cents f k x) (λ q. cents.joined (f q) (cond (same k q) x cents.nought)) (λ q _ _. as_join (same k q) (f q) x)
        ∙ scope_joined f (λ q. cond (same k q) x cents.nought)
        ∙ ap (cents.joined (total_over t s f)) (scope_at_key k x)

    part_size : (b : Bool) (x : Cents) → nat_abs (cond b x cents.nought).0 ≤ nat_abs x.0
    part_size true x = omega arith
    part_size false x = omega arith

    parts_size : (f : Key → Cents) (ks : List Key) → nat_abs (sum cents (λ q. cond (covers t s q) (f q) cents.nought) ks).0 ≤ sum_by (λ k. cents.size (f k)) ks
    unfolding sum
    parts_size f [] = omega arith
    parts_size f (k ∷ ks) =
        let part = cond (covers t s k) (f k) cents.nought in
        omega (
          arith,
          cents_laws.sizes part (sum cents (λ q. cond (covers t s q) (f q) cents.nought) ks),
          part_size (covers t s k) (f k),
          sum_by-cons (λ k. cents.size (f k)) k ks,
          parts_size f ks,
        )

    -- no total is larger than so many lines at their largest, where they back the amounts
    pub scope_within : (f : Key → Cents) (n : ℕ) → Backed cents f n → nat_abs (total_over t s f).0 ≤ n * 10_000_000_000
    unfolding total_over
    scope_within f n backed = omega (arith, parts_size f (keys t), backed (keys t) (keys_distinct t))
