-- The keys of a month: each of them holds, each that holds is one of them, and none stands twice.
use Rattle.std.proofs.Common.{◌≡◌, ℕ, true, false, List, [], ◌∷◌, map, Some, None, Option, sym, refl, ap, ◌∙◌, subst, ⊎_elim, arith}
use Rattle.std.specs.Option.{option_flatten, option_map}
use Rattle.std.specs.List.{AllByRecursion}
use Rattle.std.proofs.ByRecursion.{All-map, All-weaker}
use Rattle.std.proofs.lemmas.Bool.{and_from, and_parts, cases_Bool}
use Rattle.faults.specs.Keys.{distinct, key_of, same}
use Rattle.ledger.specs.Totals.{has, members}
use Rattle.faults.specs.declared.key.Key.{Key}
use Rattle.ledger.proofs.Bounds.{same_key}
use Rattle.tariff.proofs.TariffSound.{tariff_sound}
use Rattle.tariff.specs.Charges.{Entry}
use Rattle.tariff.specs.Month.{group_of, is_interval, kind_of_code, kind_of_group, table_of}
use Rattle.tariff.specs.Pages.{kind_of_parent}
use Rattle.tariff.specs.declared.page_kind.PageKind.{PageKind}
use Rattle.tariff.specs.declared.page_kind.PageKind.TheVariants.{Day, Month}
use Rattle.levels.specs.Levels.{Has, Once}
use Rattle.levels.specs.Terms.{Terms, holds, intervals_on, keys, keys_on, on_kind, pages_of, participants_of, stands, takes_part}
use Rattle.levels.proofs.Entries.{found_entry, once_ascending}
use Rattle.levels.proofs.Held.{held}
use Rattle.levels.proofs.Lists.{all_at, all_joined, all_mapped, all_members, has_joined, has_map, has_members, member, once_joined, once_map, once_members, once_over}

-- a page and an interval of a kind are numbers of its spans
place_on : (t : Terms) (kind : PageKind) (d i : ℕ) → has (pages_of t kind) d ≡ true → has (intervals_on t kind d) i ≡ true → is_interval t.year t.month kind d i ≡ true
place_on t Month d i page interval = grind arith
place_on t Day d i page interval = and_from _ _ page interval

place_in : (t : Terms) (kind : PageKind) (d i : ℕ) → is_interval t.year t.month kind d i ≡ true → (has (pages_of t kind) d ≡ true) × (has (intervals_on t kind d) i ≡ true)
place_in t Month d i h = grind arith
place_in t Day d i h = and_parts _ _ h

module _ (t : Terms) where
  intervals_held : (code p d : ℕ) (kind : PageKind) → kind_of_code t.year t.month code ≡ Some kind → takes_part t p ≡ true → has (pages_of t kind) d ≡ true → AllByRecursion (λ k. holds t k ≡ true) (map (λ i. key_of code p d i) (members (intervals_on t kind d)))
  intervals_held code p d kind e takes page =
      All-map (λ k. holds t k ≡ true) (λ i. key_of code p d i) (members (intervals_on t kind d))
      (all_members (λ i. holds t (key_of code p d i) ≡ true) (intervals_on t kind d) (λ i interval.
      and_from (takes_part t p) (stands t code d i) takes (ap (λ o. on_kind o (λ x. is_interval t.year t.month x d i)) e ∙ place_on t kind d i page interval)))

  code_held : (code : ℕ) (o : Option PageKind) → kind_of_code t.year t.month code ≡ o → AllByRecursion (λ k. holds t k ≡ true) (keys_on t code o)
  code_held code None e = tt
  code_held code (Some kind) e =
      all_joined _ (λ k. holds t k ≡ true) (members (participants_of t)) (λ p takes.
      all_joined _ (λ k. holds t k ≡ true) (members (pages_of t kind)) (λ d page.
      intervals_held code p d kind e (member (participants_of t) p takes) (member (pages_of t kind) d page)))

  -- each of them holds
  pub keys_hold : AllByRecursion (λ k. holds t k ≡ true) (keys t)
  unfolding keys
  keys_hold =
      let table = table_of t.year t.month in
      let found = (tariff_sound t.year t.month).orderly.found in
      all_joined _ (λ k. holds t k ≡ true) table (λ e here.
      code_held e.0 (kind_of_group t.year t.month e.1)
      (ap (λ o. option_flatten (option_map (kind_of_group t.year t.month) o)) (all_at (λ e. group_of t.year t.month e.0 ≡ Some e.1) table e found here)))

  -- each that holds is one of them
  pub keys_has : (k : Key) → holds t k ≡ true → Has (keys t) k
  unfolding keys
  keys_has k h =
      let v = held t k h in
      let kind = kind_of_parent v.parent in
      let place = place_in t kind k.page k.interval v.placed in
      has_joined _ (table_of t.year t.month) (k.code, v.group) k
      (found_entry (table_of t.year t.month) k.code v.group v.grouped)
      (subst (λ o. Has (keys_on t k.code (option_map kind_of_parent o)) k) (sym v.under) (
      has_joined _ (members (participants_of t)) k.participant k (has_members (participants_of t) k.participant v.takes) (
      has_joined _ (members (pages_of t kind)) k.page k (has_members (pages_of t kind) k.page place.0) (
      has_map (λ i. key_of k.code k.participant k.page i) (members (intervals_on t kind k.page)) k.interval
      (has_members (intervals_on t kind k.page) k.interval place.1)))))

  code_once : (code : ℕ) (o : Option PageKind) → Once (keys_on t code o)
  code_once code None = tt
  code_once code (Some kind) =
      once_over _ (λ k. k.participant)
      (λ p. all_joined _ (λ k. k.participant ≡ p) (members (pages_of t kind)) (λ d _. all_mapped (λ i. key_of code p d i) _ (λ i. refl) (members (intervals_on t kind d))))
      (λ p.
      once_over _ (λ k. k.page)
      (λ d. all_mapped (λ i. key_of code p d i) _ (λ i. refl) (members (intervals_on t kind d)))
      (λ d. once_map (λ i. key_of code p d i) (λ k. k.interval) (λ i. refl) (members (intervals_on t kind d)) (once_members (intervals_on t kind d)))
      (pages_of t kind))
      (participants_of t)

  code_told : (code : ℕ) (o : Option PageKind) → AllByRecursion (λ k. k.code ≡ code) (keys_on t code o)
  code_told code None = tt
  code_told code (Some kind) =
      all_joined _ (λ k. k.code ≡ code) (members (participants_of t)) (λ p _.
      all_joined _ (λ k. k.code ≡ code) (members (pages_of t kind)) (λ d _.
      all_mapped (λ i. key_of code p d i) _ (λ i. refl) (members (intervals_on t kind d))))

  -- none stands twice
  pub keys_once : Once (keys t)
  unfolding keys
  keys_once =
      let kind : Entry → Option PageKind = λ e. kind_of_group t.year t.month e.1 in
      once_joined _ (λ e. e.0) (λ k. k.code) (λ e. code_told e.0 (kind e)) (λ e. code_once e.0 (kind e))
      (table_of t.year t.month) (once_ascending (table_of t.year t.month) (tariff_sound t.year t.month).orderly.ascending)

apart_keys : (k : Key) (ks : List Key) → AllByRecursion (λ q. k ≡ q → ⊥) ks → AllByRecursion (λ q. same k q ≡ false) ks
apart_keys k ks h = All-weaker (λ q. k ≡ q → ⊥) (λ q. same k q ≡ false) (λ q ne. ⊎_elim (λ e. absurd (ne (same_key k q e))) (λ e. e) (cases_Bool (same k q))) ks h

distinct_once : (ks : List Key) → Once ks → distinct ks
distinct_once [] o = tt
distinct_once (k ∷ ks) o = (apart_keys k ks o.0, distinct_once ks o.1)

-- no two are the same
pub keys_distinct : (t : Terms) → distinct (keys t)
keys_distinct t = distinct_once (keys t) (keys_once t)
