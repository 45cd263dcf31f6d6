-- Finding a total over a scope: code by code, each by one question.
use Rattle.std.proofs.Common.{◌≡◌, ℕ, Bool, true, false, cond, ◌&&◌, List, [], ◌∷◌, map, Some, None, Option, sym, refl, ap, ◌∙◌, arith}
use Rattle.std.specs.List.{flat_map, AllByRecursion}
use Rattle.faults.specs.Keys.{key_of}
use Rattle.ledger.specs.Kinds.{cents}
use Rattle.ledger.specs.Lawful.{cents_laws}
use Rattle.ledger.specs.Totals.{has, members, span, sum, total}
use Rattle.ledger.specs.declared.cents.Cents.{Cents}
use Rattle.faults.specs.declared.key.Key.{Key}
use Rattle.ledger.specs.declared.span.Span.{Span}
use Rattle.ledger.proofs.Sums.{sum_same}
use Rattle.tariff.proofs.TariffSound.{tariff_sound}
use Rattle.tariff.specs.Calendar.{intervals_on as day_intervals}
use Rattle.tariff.specs.Charges.{Entry}
use Rattle.tariff.specs.Month.{days_of, group_of, intervals_of, kind_of_group, table_of}
use Rattle.tariff.specs.Ranges.{within}
use Rattle.tariff.specs.declared.page_kind.PageKind.{PageKind}
use Rattle.tariff.specs.declared.page_kind.PageKind.TheVariants.{Day, Month}
use Rattle.levels.specs.Scopes.{chosen, chooses, chosen_in, covers, meets, total_over}
use Rattle.levels.specs.Terms.{Terms, code_keys, intervals_on, keys, keys_on, pages_of, participants_of}
use Rattle.levels.specs.Workings.{each_intervals, found_in, found_on, found_where, narrowed}
use Rattle.levels.specs.declared.scope.Scope.{Scope}
use Rattle.levels.proofs.Sums.{sum_each, sum_map, sum_narrowed, sum_same_all, sum_same_members, sum_when}

-- every day of the month has as many intervals as the first
pub alike_days : (t : Terms) (kind : PageKind) (d : ℕ) → has (pages_of t kind) d ≡ true → intervals_on t kind d ≡ each_intervals t kind
unfolding intervals_of
alike_days t Month d h = refl
alike_days t Day d h =
    let n = days_of t.year t.month in
    let first : within 1 n 1 ≡ true = grind arith in
    let count : Bool → Span = λ b. span 1 (cond b (day_intervals t.year t.month d) 0) in
    ap count h ∙ sym (ap count first)

-- four conditions, one inside the other
cond_four : {X : Type 0} (a b c d : Bool) (x y : X) → cond (a && (b && (c && d))) x y ≡ cond a (cond b (cond c (cond d x y) y) y) y
cond_four true true true d x y = refl
cond_four true true false d x y = refl
cond_four true false c d x y = refl
cond_four false b c d x y = refl

module _ (t : Terms) (s : Scope) (amount : Key → Cents) where
  -- what the scope has of a key
  had : Key → Cents
  had k = cond (covers t s k) (amount k) cents.nought

  -- the keys of one code
  found_code : (code : ℕ) (kind : PageKind) → sum cents had (code_keys t code kind) ≡ cond (chooses t s.codes code) (found_on t s amount code kind) cents.nought
  unfolding had total
  found_code code kind =
      sum_each cents_laws had _ (members (participants_of t))
      ∙ sum_same cents_laws _ (λ p. cond c (cond (meets s.participant p) (over_pages p) cents.nought) cents.nought) by_page (members (participants_of t))
      ∙ sum_when cents_laws c (λ p. cond (meets s.participant p) (over_pages p) cents.nought) (members (participants_of t))
      ∙ ap (λ x. cond c x cents.nought) (sum_narrowed cents_laws s.participant over_pages (participants_of t)) where
        c : Bool
        c = chooses t s.codes code

        at : ℕ → ℕ → ℕ → Cents
        at p d i = amount (key_of code p d i)

        intervals : Span
        intervals = narrowed (each_intervals t kind) s.interval

        pages : Span
        pages = narrowed (pages_of t kind) s.page

        over_intervals : ℕ → ℕ → Cents
        over_intervals p d = sum cents (at p d) (members intervals)

        over_pages : ℕ → Cents
        over_pages p = sum cents (over_intervals p) (members pages)

        by_interval : (p d : ℕ) → has (pages_of t kind) d ≡ true → sum cents had (map (λ i. key_of code p d i) (members (intervals_on t kind d))) ≡ cond c (cond (meets s.participant p) (cond (meets s.page d) (over_intervals p d) cents.nought) cents.nought) cents.nought
        by_interval p d h =
            let mp = meets s.participant p in
            let md = meets s.page d in
            let part : ℕ → Cents = λ i. cond (meets s.interval i) (at p d i) cents.nought in
            let all = members (each_intervals t kind) in
            ap (λ is. sum cents had (map (λ i. key_of code p d i) (members is))) (alike_days t kind d h)
            ∙ sum_map cents_laws had (λ i. key_of code p d i) all
            ∙ sum_same cents_laws _ (λ i. cond c (cond mp (cond md (part i) cents.nought) cents.nought) cents.nought) (λ i. cond_four c mp md (meets s.interval i) (at p d i) cents.nought) all
            ∙ sum_when cents_laws c (λ i. cond mp (cond md (part i) cents.nought) cents.nought) all
            ∙ ap (λ x. cond c x cents.nought) (
            sum_when cents_laws mp (λ i. cond md (part i) cents.nought) all
            ∙ ap (λ x. cond mp x cents.nought) (
            sum_when cents_laws md part all
            ∙ ap (λ x. cond md x cents.nought) (sum_narrowed cents_laws s.interval (at p d) (each_intervals t kind))))

        by_page : (p : ℕ) → sum cents had (flat_map (λ d. map (λ i. key_of code p d i) (members (intervals_on t kind d))) (members (pages_of t kind))) ≡ cond c (cond (meets s.participant p) (over_pages p) cents.nought) cents.nought
        by_page p =
            let mp = meets s.participant p in
            let part : ℕ → Cents = λ d. cond (meets s.page d) (over_intervals p d) cents.nought in
            let all = members (pages_of t kind) in
            sum_each cents_laws had (λ d. map (λ i. key_of code p d i) (members (intervals_on t kind d))) all
            ∙ sum_same_members cents_laws _ (λ d. cond c (cond mp (part d) cents.nought) cents.nought) (pages_of t kind) (by_interval p)
            ∙ sum_when cents_laws c (λ d. cond mp (part d) cents.nought) all
            ∙ ap (λ x. cond c x cents.nought) (
            sum_when cents_laws mp part all
            ∙ ap (λ x. cond mp x cents.nought) (sum_narrowed cents_laws s.page (over_intervals p) (pages_of t kind)))

  found_kind : (b : Bool) (code : ℕ) (kind : Option PageKind) → b ≡ chooses t s.codes code → sum cents had (keys_on t code kind) ≡ cond b (found_where t s amount code kind) cents.nought
  unfolding sum
  found_kind true code None e = refl
  found_kind false code None e = refl
  found_kind b code (Some kind) e = found_code code kind ∙ ap (λ x. cond x (found_on t s amount code kind) cents.nought) (sym e)

  -- of the table's own codes, those are chosen whose entries are
  chosen_entries : (es : List Entry) → AllByRecursion (λ e. group_of t.year t.month e.0 ≡ Some e.1) es → AllByRecursion (λ e. sum cents had (keys_on t e.0 (kind_of_group t.year t.month e.1)) ≡ found_in t s amount e) es
  chosen_entries [] h = tt
  chosen_entries (e ∷ es) h =
      (found_kind (chosen t s.codes e) e.0 (kind_of_group t.year t.month e.1) (sym (ap (chosen_in t s.codes e.0) h.0)), chosen_entries es h.1)

  -- the total is what is found code by code
  pub found_all : sum cents (found_in t s amount) (table_of t.year t.month) ≡ total_over t s amount
  unfolding total_over keys had
  found_all =
      let table = table_of t.year t.month in
      let found = (tariff_sound t.year t.month).orderly.found in
      sym (
      sum_each cents_laws had (λ e. keys_on t e.0 (kind_of_group t.year t.month e.1)) table
      ∙ sum_same_all cents_laws _ (found_in t s amount) table (chosen_entries table found))
