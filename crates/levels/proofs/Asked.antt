-- The question of each level about a key that holds: it is granted, it covers the key, and no other of its level does.
use Rattle.std.proofs.Common.{◌≡◌, ℕ, Bool, true, false, ◌&&◌, eqb, is_some, Some, None, Option, sym, refl, ap, ◌∙◌}
use Rattle.std.specs.Option.{option_flatten, option_map}
use Rattle.std.proofs.lemmas.Bool.{and_from, and_parts, eq-eqb, eqb-true, false≢true, or_left, or_right}
use Rattle.faults.specs.Keys.{key_of}
use Rattle.faults.specs.declared.key.Key.{Key}
use Rattle.ledger.specs.declared.path.Path.{Path}
use Rattle.ledger.specs.declared.path.Path.TheVariants.{System, Adjustment}
use Rattle.tariff.proofs.TariffSound.{tariff_sound}
use Rattle.tariff.specs.Groups.{parent_number, parent_numbered}
use Rattle.tariff.specs.Month.{group_of, is_interval, is_page, kind_of_code, kind_of_group, parent_of}
use Rattle.tariff.specs.Pages.{kind_of_parent}
use Rattle.tariff.specs.declared.page_kind.PageKind.{PageKind}
use Rattle.tariff.specs.declared.page_kind.PageKind.TheVariants.{Day, Month as MonthPage}
use Rattle.tariff.specs.declared.parent.Parent.{Parent}
use Rattle.tariff.specs.declared.parent.Parent.TheVariants.{DailyRounded, DailyUnrounded, Monthly}
use Rattle.levels.specs.Levels.{Level, subtotals, intervals, codes, groups, parents, settlements, months, level_of}
use Rattle.levels.specs.Questions.{has_page, key_scope, on_page, path_asked, question_refusal, scope_asked}
use Rattle.levels.specs.Scopes.{chooses, chosen, chosen_in, covers, is_numbered, meets}
use Rattle.levels.specs.Terms.{Terms, on_kind, stands}
use Rattle.levels.specs.declared.question.Question.{Question}
use Rattle.levels.specs.declared.question.Question.TheVariants.{Subtotal, Interval, Code, Group, Parent as UnderParent, Settlement, Month}
use Rattle.levels.specs.declared.scope.Codes.{Codes}
use Rattle.levels.specs.declared.scope.Codes.TheVariants as chosen_codes
use Rattle.levels.specs.declared.scope.Scope.{Scope}
use Rattle.levels.proofs.Granted.{granted_from}
use Rattle.levels.proofs.Held.{Held}

abbrev pub same_path : Path → Path → Bool
same_path System System = true
same_path System Adjustment = false
same_path Adjustment System = false
same_path Adjustment Adjustment = true

path_same : (p q : Path) → same_path p q ≡ true → p ≡ q
path_same System System e = refl
path_same System Adjustment e = absurd (false≢true e)
path_same Adjustment System e = absurd (false≢true e)
path_same Adjustment Adjustment e = refl

path_itself : (p : Path) → same_path p p ≡ true
path_itself System = refl
path_itself Adjustment = refl

-- whether a path is the one asked for; both are, where none is given
abbrev pub on_path : Path → Option Path → Bool
on_path path None = true
on_path path (Some asked) = same_path path asked

pub interval_page : (t : Terms) (kind : PageKind) (d i : ℕ) → is_interval t.year t.month kind d i ≡ true → is_page t.year t.month kind d ≡ true
interval_page t MonthPage d i h = (and_parts _ _ h).0
interval_page t Day d i h = (and_parts _ _ h).0

kind_page : (t : Terms) (kind : PageKind) (d : ℕ) → is_page t.year t.month kind d ≡ true → has_page t d ≡ true
kind_page t MonthPage d h = or_left _ _ h
kind_page t Day d h = or_right _ _ h

pub numbered_back : (p : Parent) → parent_numbered (parent_number p) ≡ Some p
numbered_back DailyRounded = refl
numbered_back Monthly = refl
numbered_back DailyUnrounded = refl

itself : (n : ℕ) → eqb n n ≡ true
itself n = eq-eqb n n refl

keys_same : {a b c d a' b' c' d' : ℕ} → a ≡ a' → b ≡ b' → c ≡ c' → d ≡ d' → key_of a b c d ≡ key_of a' b' c' d'
keys_same p q r s = cc

module _ {t : Terms} {k : Key} (v : Held t k) where
  pub asked : Path → Level → Question
  asked path subtotals = Subtotal path k
  asked path intervals = Interval k
  asked path codes = Code k.code k.participant k.page
  asked path groups = Group v.group k.participant k.page
  asked path parents = UnderParent (parent_number v.parent) k.participant k.page
  asked path settlements = Settlement k.participant k.page
  asked path months = Month k.participant

  pub asked_level : (path : Path) (level : Level) → level_of (asked path level) ≡ level
  unfolding asked
  asked_level path subtotals = refl
  asked_level path intervals = refl
  asked_level path codes = refl
  asked_level path groups = refl
  asked_level path parents = refl
  asked_level path settlements = refl
  asked_level path months = refl

  in_table : is_some (group_of t.year t.month k.code) ≡ true
  in_table = ap is_some v.grouped

  kind_of_key : kind_of_code t.year t.month k.code ≡ Some (kind_of_parent v.parent)
  kind_of_key = ap (λ o. option_flatten (option_map (kind_of_group t.year t.month) o)) v.grouped ∙ ap (option_map kind_of_parent) v.under

  placed : stands t k.code k.page k.interval ≡ true
  placed = ap (λ o. on_kind o (λ kind. is_interval t.year t.month kind k.page k.interval)) kind_of_key ∙ v.placed

  page : is_page t.year t.month (kind_of_parent v.parent) k.page ≡ true
  page = interval_page t (kind_of_parent v.parent) k.page k.interval v.placed

  pub key_granted : question_refusal t (Interval k) ≡ None
  key_granted = granted_from k in_table v.takes placed

  pub asked_granted : (path : Path) (level : Level) → question_refusal t (asked path level) ≡ None
  unfolding asked
  asked_granted path subtotals = key_granted
  asked_granted path intervals = key_granted
  asked_granted path codes = granted_from (key_of k.code k.participant k.page 0) in_table v.takes (ap (λ o. on_page t o k.page) kind_of_key ∙ page)
  asked_granted path groups =
      granted_from (key_of 0 k.participant k.page 0)
      (sym ((tariff_sound t.year t.month).with_parent v.group) ∙ ap is_some v.under)
      v.takes
      (ap (λ o. on_page t (option_map kind_of_parent o) k.page) v.under ∙ page)
  asked_granted path parents =
      let back = numbered_back v.parent in
      granted_from (key_of 0 k.participant k.page 0) (ap is_some back) v.takes (ap (λ o. on_page t (option_map kind_of_parent o) k.page) back ∙ page)
  asked_granted path settlements = granted_from (key_of 0 k.participant k.page 0) {a = true} refl v.takes (kind_page t (kind_of_parent v.parent) k.page page)
  asked_granted path months = granted_from (key_of 0 k.participant 0 0) {a = true} {c = true} refl v.takes refl

  chosen_by_group : (chosen' : Codes) → chooses t chosen' k.code ≡ chosen t chosen' (k.code, v.group)
  chosen_by_group chosen' = ap (chosen_in t chosen' k.code) v.grouped

  all_met : {a b c d : Bool} → a ≡ true → b ≡ true → c ≡ true → d ≡ true → (a && (b && (c && d))) ≡ true
  all_met p q r s = and_from _ _ p (and_from _ _ q (and_from _ _ r s))

  under_number : (n : ℕ) → is_numbered n (parent_of t.year t.month v.group) ≡ eqb (parent_number v.parent) n
  under_number n = ap (is_numbered n) v.under

  pub asked_covers : (path : Path) (level : Level) → (on_path path (path_asked (asked path level)) && covers t (scope_asked (asked path level)) k) ≡ true
  unfolding asked
  asked_covers path subtotals =
      and_from _ _ (path_itself path) (all_met (chosen_by_group (chosen_codes.Only k.code) ∙ itself k.code) (itself k.participant) (itself k.page) (itself k.interval))
  asked_covers path intervals =
      all_met (chosen_by_group (chosen_codes.Only k.code) ∙ itself k.code) (itself k.participant) (itself k.page) (itself k.interval)
  asked_covers path codes =
      all_met (chosen_by_group (chosen_codes.Only k.code) ∙ itself k.code) (itself k.participant) (itself k.page) refl
  asked_covers path groups =
      all_met (chosen_by_group (chosen_codes.Group v.group) ∙ itself v.group) (itself k.participant) (itself k.page) refl
  asked_covers path parents =
      let n = parent_number v.parent in
      all_met (chosen_by_group (chosen_codes.Parent n) ∙ under_number n ∙ itself n) (itself k.participant) (itself k.page) refl
  asked_covers path settlements = all_met (chosen_by_group chosen_codes.Every) (itself k.participant) (itself k.page) refl
  asked_covers path months = all_met (chosen_by_group chosen_codes.Every) (itself k.participant) refl refl

  record Covered (s : Scope) : Type 0 where
    code : chosen t s.codes (k.code, v.group) ≡ true
    participant : meets s.participant k.participant ≡ true
    page_met : meets s.page k.page ≡ true
    interval : meets s.interval k.interval ≡ true

  covered : (s : Scope) → covers t s k ≡ true → Covered s
  covered s h =
      let a = and_parts _ _ h in
      let b = and_parts _ _ a.1 in
      let c = and_parts _ _ b.1 in
      record { code = sym (chosen_by_group s.codes) ∙ a.0; participant = b.0; page_met = c.0; interval = c.1 }

  key_covered : (l : Key) → Covered (key_scope l) → k ≡ l
  key_covered l c =
      keys_same (eqb-true k.code l.code c.code)
      (sym (eqb-true l.participant k.participant c.participant))
      (sym (eqb-true l.page k.page c.page_met))
      (sym (eqb-true l.interval k.interval c.interval))

  covered_alone : (path : Path) (q : Question) → on_path path (path_asked q) ≡ true → Covered (scope_asked q) → asked path (level_of q) ≡ q
  unfolding asked
  covered_alone path (Subtotal other l) p c =
      let a = path_same path other p in
      let b = key_covered l c in
      cc
  covered_alone path (Interval l) p c = ap Interval (key_covered l c)
  covered_alone path (Code n b d) p c =
      let x = eqb-true k.code n c.code in
      let y = eqb-true b k.participant c.participant in
      let z = eqb-true d k.page c.page_met in
      cc
  covered_alone path (Group g b d) p c =
      let x = eqb-true v.group g c.code in
      let y = eqb-true b k.participant c.participant in
      let z = eqb-true d k.page c.page_met in
      cc
  covered_alone path (UnderParent r b d) p c =
      let x = eqb-true (parent_number v.parent) r (sym (under_number r) ∙ c.code) in
      let y = eqb-true b k.participant c.participant in
      let z = eqb-true d k.page c.page_met in
      cc
  covered_alone path (Settlement b d) p c =
      let y = eqb-true b k.participant c.participant in
      let z = eqb-true d k.page c.page_met in
      cc
  covered_alone path (Month b) p c = ap Month (sym (eqb-true b k.participant c.participant))

  pub asked_only : (path : Path) (q : Question) → (on_path path (path_asked q) && covers t (scope_asked q) k) ≡ true → asked path (level_of q) ≡ q
  asked_only path q h =
      let p = and_parts (on_path path (path_asked q)) (covers t (scope_asked q) k) h in
      covered_alone path q p.0 (covered (scope_asked q) p.1)
