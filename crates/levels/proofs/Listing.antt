-- The granted questions of a level can be listed: the list that is given has each of them, once, and no other.
use Rattle.std.proofs.Common.{◌≡◌, ℕ, Bool, true, cond, eqb, List, [], ◌∷◌, map, is_some, Some, None, Option, sym, refl, ap, ◌∙◌, subst, inl, inr, ⊎_elim, arith}
use Rattle.std.specs.List.{flat_map, AllByRecursion}
use Rattle.std.specs.Option.{option_flatten, option_map}
use Rattle.std.proofs.ByRecursion.{All-map, All-weaker}
use Rattle.std.proofs.lemmas.Bool.{and_from, cases_Bool, eqb-true, false≢true}
use Rattle.faults.specs.Keys.{key_of}
use Rattle.ledger.specs.Totals.{has, members, span}
use Rattle.faults.specs.declared.key.Key.{Key}
use Rattle.ledger.specs.declared.path.Path.{Path}
use Rattle.ledger.specs.declared.path.Path.TheVariants.{System, Adjustment}
use Rattle.ledger.specs.declared.span.Span.{Span}
use Rattle.tariff.proofs.TariffSound.{tariff_sound}
use Rattle.tariff.specs.Groups.{first_passing, parent_number, parent_numbered, parents as every_parent}
use Rattle.tariff.specs.Month.{days_of, group_of, is_group, is_page, kind_of_code, kind_of_group, table_of}
use Rattle.tariff.specs.Pages.{kind_of_parent}
use Rattle.tariff.specs.Sound.{every_group}
use Rattle.tariff.specs.declared.page_kind.PageKind.{PageKind}
use Rattle.tariff.specs.declared.page_kind.PageKind.TheVariants.{Day, Month as MonthPage}
use Rattle.tariff.specs.declared.parent.Parent.{Parent as Parent'}
use Rattle.tariff.specs.declared.parent.Parent.TheVariants.{DailyRounded, DailyUnrounded, Monthly}
use Rattle.levels.specs.Levels.{Every, Has, Level, Once, subtotals, intervals, codes, groups, parents, settlements, months, level_of, on_pages, questions}
use Rattle.levels.specs.Questions.{has_page, in_table, on_page, place_asked, question_refusal}
use Rattle.levels.specs.Terms.{Terms, holds, keys, pages_of, participants_of, stands, takes_part}
use Rattle.levels.specs.declared.question.Question.{Question}
use Rattle.levels.specs.declared.question.Question.TheVariants.{Subtotal, Interval, Code, Group, Parent, Settlement, Month}
use Rattle.levels.proofs.Asked.{key_granted, numbered_back}
use Rattle.levels.proofs.Entries.{found_entry, once_ascending}
use Rattle.levels.proofs.EveryGroup.{all_groups, has_group, once_groups}
use Rattle.levels.proofs.Granted.{granted_from, granted_had}
use Rattle.levels.proofs.Held.{held}
use Rattle.levels.proofs.Keys.{keys_has, keys_hold, keys_once}
use Rattle.levels.proofs.Lists.{all_at, all_joined, all_mapped, all_members, has_joined, has_map, has_members, member, once_joined, once_map, once_members, once_over}

some_of : {X : Type 0} (o : Option X) → is_some o ≡ true → (x : X) × (o ≡ Some x)
some_of None e = absurd (false≢true e)
some_of (Some x) e = (x, refl)

-- the pages of a kind are the numbers of their span
page_has : (t : Terms) (kind : PageKind) (d : ℕ) → has (pages_of t kind) d ≡ is_page t.year t.month kind d
page_has t MonthPage d = grind arith
page_has t Day d = refl

-- the pages of a month, likewise
month_has : (t : Terms) (d : ℕ) → has (span 0 (days_of t.year t.month)) d ≡ has_page t d
month_has t d = grind arith

-- a question for each participant and each page of a kind
module _ (t : Terms) (ask : ℕ → ℕ → Question) where
  all_on_pages : (P : Question → Type 0) (kind : Option PageKind) → ((p d : ℕ) → takes_part t p ≡ true → on_page t kind d ≡ true → P (ask p d)) → AllByRecursion P (on_pages t kind ask)
  all_on_pages P None h = tt
  all_on_pages P (Some kind) h =
      all_joined _ P (members (participants_of t)) (λ p takes.
      All-map P (ask p) (members (pages_of t kind)) (all_members (λ d. P (ask p d)) (pages_of t kind) (λ d page.
      h p d (member (participants_of t) p takes) (sym (page_has t kind d) ∙ page))))

  has_on_pages : (kind : Option PageKind) (p d : ℕ) → takes_part t p ≡ true → on_page t kind d ≡ true → Has (on_pages t kind ask) (ask p d)
  has_on_pages None p d takes page = absurd (false≢true page)
  has_on_pages (Some kind) p d takes page =
      has_joined _ (members (participants_of t)) p (ask p d) (has_members (participants_of t) p takes)
      (has_map (ask p) (members (pages_of t kind)) d (has_members (pages_of t kind) d (page_has t kind d ∙ page)))

  module _ (participant : (p d : ℕ) → (place_asked (ask p d)).participant ≡ p) (page : (p d : ℕ) → (place_asked (ask p d)).page ≡ d) where
    once_over_pages : (pages : Span) → Once (flat_map (λ p. map (ask p) (members pages)) (members (participants_of t)))
    once_over_pages pages =
        once_over _ (λ q. (place_asked q).participant) (λ p. all_mapped (ask p) _ (participant p) (members pages))
        (λ p. once_map (ask p) (λ q. (place_asked q).page) (page p) (members pages) (once_members pages))
        (participants_of t)

    once_on_pages : (kind : Option PageKind) → Once (on_pages t kind ask)
    once_on_pages None = tt
    once_on_pages (Some kind) = once_over_pages (pages_of t kind)

-- the group or the parent that a question names
number_asked : Question → ℕ
number_asked (Subtotal path k) = 0
number_asked (Interval k) = 0
number_asked (Code c p d) = 0
number_asked (Group g p d) = g
number_asked (Parent r p d) = r
number_asked (Settlement p d) = 0
number_asked (Month p) = 0

paths_apart : (k : Key) → Subtotal System k ≡ Subtotal Adjustment k → ⊥
paths_apart k e = let z : ◌≡◌ {A = ℕ} 0 1 = cc in omega arith

-- each parent is one of all, and one that is found passed the test
parent_listed : (r : Parent') → Has every_parent r
parent_listed DailyRounded = inl refl
parent_listed Monthly = inr (inl refl)
parent_listed DailyUnrounded = inr (inr (inl refl))

first_passed : (test : Parent' → Bool) (r : Parent') (rs : List Parent') → first_passing test rs ≡ Some r → test r ≡ true
first_passed test r [] e = let z : ◌≡◌ {A = ℕ} 0 1 = cc in absurd (omega arith)
first_passed test r (x ∷ rs) e =
    ⊎_elim
    (λ met. let s : Some x ≡ Some r = sym (ap (λ b. cond b (Some x) (first_passing test rs)) met) ∙ e in let is : x ≡ r = cc in sym (ap test is) ∙ met)
    (λ missed. first_passed test r rs (sym (ap (λ b. cond b (Some x) (first_passing test rs)) missed) ∙ e))
    (cases_Bool (test x))

once_numbers : Once (map parent_number every_parent)
once_numbers = ((λ e. omega arith, (λ e. omega arith, tt)), ((λ e. omega arith, tt), (tt, tt)))

module _ (t : Terms) where
  kind_found : (c g : ℕ) → group_of t.year t.month c ≡ Some g → kind_of_code t.year t.month c ≡ kind_of_group t.year t.month g
  kind_found c g e = ap (λ o. option_flatten (option_map (kind_of_group t.year t.month) o)) e

  list_once : (level : Level) → Once (questions t level)
  unfolding questions number_asked
  list_once subtotals =
      once_joined (λ k. Subtotal System k ∷ Subtotal Adjustment k ∷ []) (λ k. k) place_asked (λ k. (refl, (refl, tt))) (λ k. ((paths_apart k, tt), (tt, tt))) (keys t)
      (once_map (λ k. k) (λ k. k) (λ k. refl) (keys t) (keys_once t))
  list_once intervals = once_map Interval place_asked (λ k. refl) (keys t) (keys_once t)
  list_once codes =
      once_joined _ (λ e. e.0) (λ q. (place_asked q).code)
      (λ e. all_on_pages t (Code e.0) _ (kind_of_group t.year t.month e.1) (λ p d _ _. refl))
      (λ e. once_on_pages t (Code e.0) (λ p d. refl) (λ p d. refl) (kind_of_group t.year t.month e.1))
      (table_of t.year t.month) (once_ascending (table_of t.year t.month) (tariff_sound t.year t.month).orderly.ascending)
  list_once groups =
      once_joined _ (λ g. g) number_asked
      (λ g. all_on_pages t (Group g) _ (kind_of_group t.year t.month g) (λ p d _ _. refl))
      (λ g. once_on_pages t (Group g) (λ p d. refl) (λ p d. refl) (kind_of_group t.year t.month g))
      (every_group t.year t.month) (once_map (λ g. g) (λ g. g) (λ g. refl) (every_group t.year t.month) (once_groups t.year t.month))
  list_once parents =
      once_joined _ parent_number number_asked
      (λ r. all_on_pages t (Parent (parent_number r)) _ (Some (kind_of_parent r)) (λ p d _ _. refl))
      (λ r. once_on_pages t (Parent (parent_number r)) (λ p d. refl) (λ p d. refl) (Some (kind_of_parent r)))
      every_parent once_numbers
  list_once settlements = once_over_pages t Settlement (λ p d. refl) (λ p d. refl) (span 0 (days_of t.year t.month))
  list_once months = once_map Month (λ q. (place_asked q).participant) (λ p. refl) (members (participants_of t)) (once_members (participants_of t))

  key_listed : (k : Key) → question_refusal t (Interval k) ≡ None → Has (keys t) k
  key_listed k e =
      let p = granted_had k (in_table t k.code) (takes_part t k.participant) (stands t k.code k.page k.interval) e in
      keys_has t k (and_from (takes_part t k.participant) (stands t k.code k.page k.interval) p.1 p.2)

  list_granted : (level : Level) → AllByRecursion (λ q. (level_of q ≡ level) × (question_refusal t q ≡ None)) (questions t level)
  unfolding questions
  list_granted subtotals =
      all_joined (λ k. Subtotal System k ∷ Subtotal Adjustment k ∷ []) (λ q. (level_of q ≡ subtotals) × (question_refusal t q ≡ None)) (keys t) (λ k here.
      let h = held t k (all_at (λ k. holds t k ≡ true) (keys t) k (keys_hold t) here) in
      ((refl, key_granted h), ((refl, key_granted h), tt)))
  list_granted intervals =
      All-map (λ q. (level_of q ≡ intervals) × (question_refusal t q ≡ None)) Interval (keys t)
      (All-weaker (λ k. holds t k ≡ true) (λ k. (level_of (Interval k) ≡ intervals) × (question_refusal t (Interval k) ≡ None)) (λ k h. (refl, key_granted (held t k h))) (keys t) (keys_hold t))
  list_granted codes =
      all_joined _ _ (table_of t.year t.month) (λ e here.
      let found = all_at (λ e. group_of t.year t.month e.0 ≡ Some e.1) (table_of t.year t.month) e (tariff_sound t.year t.month).orderly.found here in
      all_on_pages t (Code e.0) (λ q. (level_of q ≡ codes) × (question_refusal t q ≡ None)) (kind_of_group t.year t.month e.1) (λ p d takes page.
      (refl, granted_from (key_of e.0 p d 0) (ap is_some found) takes (ap (λ o. on_page t o d) (kind_found e.0 e.1 found) ∙ page))))
  list_granted groups =
      all_joined _ _ (every_group t.year t.month) (λ g here.
      let is = all_at (λ g. is_group t.year t.month g ≡ true) (every_group t.year t.month) g (all_groups t.year t.month) here in
      all_on_pages t (Group g) (λ q. (level_of q ≡ groups) × (question_refusal t q ≡ None)) (kind_of_group t.year t.month g) (λ p d takes page.
      (refl, granted_from (key_of 0 p d 0) is takes page)))
  list_granted parents =
      all_joined _ _ every_parent (λ r _.
      all_on_pages t (Parent (parent_number r)) (λ q. (level_of q ≡ parents) × (question_refusal t q ≡ None)) (Some (kind_of_parent r)) (λ p d takes page.
      (refl, granted_from (key_of 0 p d 0) (ap is_some (numbered_back r)) takes (ap (λ o. on_page t (option_map kind_of_parent o) d) (numbered_back r) ∙ page))))
  list_granted settlements =
      all_joined _ _ (members (participants_of t)) (λ p takes.
      All-map (λ q. (level_of q ≡ settlements) × (question_refusal t q ≡ None)) (Settlement p) (members (span 0 (days_of t.year t.month)))
      (all_members (λ d. (level_of (Settlement p d) ≡ settlements) × (question_refusal t (Settlement p d) ≡ None)) (span 0 (days_of t.year t.month)) (λ d page.
      (refl, granted_from (key_of 0 p d 0) {a = true} refl (member (participants_of t) p takes) (sym (month_has t d) ∙ page)))))
  list_granted months =
      All-map (λ q. (level_of q ≡ months) × (question_refusal t q ≡ None)) Month (members (participants_of t))
      (all_members (λ p. (level_of (Month p) ≡ months) × (question_refusal t (Month p) ≡ None)) (participants_of t) (λ p takes.
      (refl, granted_from (key_of 0 p 0 0) {a = true} {c = true} refl takes refl)))

  list_has : (q : Question) → question_refusal t q ≡ None → Has (questions t (level_of q)) q
  unfolding questions
  list_has (Subtotal path k) e =
      has_joined (λ k. Subtotal System k ∷ Subtotal Adjustment k ∷ []) (keys t) k (Subtotal path k) (key_listed k e) (of path) where
        of : (path : Path) → Has (Subtotal System k ∷ Subtotal Adjustment k ∷ []) (Subtotal path k)
        of System = inl refl
        of Adjustment = inr (inl refl)
  list_has (Interval k) e = has_map Interval (keys t) k (key_listed k e)
  list_has (Code c p d) e =
      let table = table_of t.year t.month in
      let g = granted_had (key_of c p d 0) (in_table t c) (takes_part t p) (on_page t (kind_of_code t.year t.month c) d) e in
      let found = some_of (group_of t.year t.month c) g.0 in
      has_joined (λ e. on_pages t (kind_of_group t.year t.month e.1) (Code e.0)) table (c, found.0) (Code c p d) (found_entry table c found.0 found.1)
      (has_on_pages t (Code c) (kind_of_group t.year t.month found.0) p d g.1 (sym (ap (λ o. on_page t o d) (kind_found c found.0 found.1)) ∙ g.2))
  list_has (Group n p d) e =
      let kind = kind_of_group t.year t.month n in
      let g = granted_had (key_of 0 p d 0) (is_group t.year t.month n) (takes_part t p) (on_page t kind d) e in
      has_joined (λ g. on_pages t (kind_of_group t.year t.month g) (Group g)) (every_group t.year t.month) n (Group n p d) (has_group t.year t.month n g.0)
      (has_on_pages t (Group n) kind p d g.1 g.2)
  list_has (Parent n p d) e =
      let g = granted_had (key_of 0 p d 0) (is_some (parent_numbered n)) (takes_part t p) (on_page t (option_map kind_of_parent (parent_numbered n)) d) e in
      let found = some_of (parent_numbered n) g.0 in
      let number = eqb-true (parent_number found.0) n (first_passed (λ r. eqb (parent_number r) n) found.0 every_parent found.1) in
      subst (λ m. Has (questions t parents) (Parent m p d)) number
      (has_joined (λ r. on_pages t (Some (kind_of_parent r)) (Parent (parent_number r))) every_parent found.0 (Parent (parent_number found.0) p d) (parent_listed found.0)
      (has_on_pages t (Parent (parent_number found.0)) (Some (kind_of_parent found.0)) p d g.1 (sym (ap (λ o. on_page t (option_map kind_of_parent o) d) found.1) ∙ g.2)))
  list_has (Settlement p d) e =
      let g = granted_had (key_of 0 p d 0) true (takes_part t p) (has_page t d) e in
      let pages = span 0 (days_of t.year t.month) in
      has_joined (λ p. map (Settlement p) (members pages)) (members (participants_of t)) p (Settlement p d) (has_members (participants_of t) p g.1)
      (has_map (Settlement p) (members pages) d (has_members pages d (month_has t d ∙ g.2)))
  list_has (Month p) e =
      let g = granted_had (key_of 0 p 0 0) true (takes_part t p) true e in
      has_map Month (members (participants_of t)) p (has_members (participants_of t) p g.1)

  pub list_every : (level : Level) → Every t level (questions t level)
  list_every level = record {
    granted = list_granted level;
    each = λ q e granted. subst (λ l. Has (questions t l) q) e (list_has q granted);
    once = list_once level;
  }
