-- The seven levels of a statement: whatever level is read, its totals add up to all that stands in the month.
use Rattle.std.specs.Prelude.{◌≡◌, ℕ, ◌⊎◌, List, [], ◌∷◌, map, Some, None, Option, ◌≢◌}
use Rattle.std.specs.List.{flat_map, AllByRecursion}
use Rattle.ledger.specs.Kinds.{cents}
use Rattle.ledger.specs.Layers.{Layer, layered}
use Rattle.ledger.specs.Totals.{members, span, sum}
use Rattle.ledger.specs.declared.cents.Cents.{Cents}
use Rattle.faults.specs.declared.key.Key.{Key}
use Rattle.ledger.specs.declared.path.Path.TheVariants.{System, Adjustment}
use Rattle.tariff.specs.Groups.{parent_number, parents as every_parent}
use Rattle.tariff.specs.Month.{days_of, kind_of_group, table_of}
use Rattle.tariff.specs.Pages.{kind_of_parent}
use Rattle.tariff.specs.Sound.{every_group}
use Rattle.tariff.specs.declared.page_kind.PageKind.{PageKind}
use Rattle.levels.specs.Questions.{question_refusal, total}
use Rattle.levels.specs.Terms.{Terms, keys, pages_of, participants_of}
use Rattle.levels.specs.declared.question.Question.{Question}
use Rattle.levels.specs.declared.question.Question.TheVariants.{Subtotal, Interval, Code, Group, Parent, Settlement, Month}

pub data Level : Type 0 where
  subtotals : Level
  intervals : Level
  codes : Level
  groups : Level
  parents : Level
  settlements : Level
  months : Level

abbrev pub level_of : Question → Level
level_of (Subtotal path k) = subtotals
level_of (Interval k) = intervals
level_of (Code c p d) = codes
level_of (Group g p d) = groups
level_of (Parent r p d) = parents
level_of (Settlement p d) = settlements
level_of (Month p) = months

-- x stands in a list
abbrev pub Has : {X : Type 0} → List X → X → Type 0
Has [] x = ⊥
Has (y ∷ ys) x = (y ≡ x) ⊎ Has ys x

-- nothing stands in it twice
abbrev pub Once : {X : Type 0} → List X → Type 0
Once [] = Unit {0}
Once (y ∷ ys) = AllByRecursion (λ x. y ≢ x) ys × Once ys

-- a list has each granted question of a level, once, and no other
pub record Every (t : Terms) (level : Level) (qs : List Question) : Type 0 where
  pub granted : AllByRecursion (λ q. (level_of q ≡ level) × (question_refusal t q ≡ None)) qs
  pub each : (q : Question) → level_of q ≡ level → question_refusal t q ≡ None → Has qs q
  pub once : Once qs

-- a question for each participant and each page of a kind
abbrev pub on_pages : Terms → Option PageKind → (ℕ → ℕ → Question) → List Question
on_pages t None ask = []
on_pages t (Some kind) ask = flat_map (λ p. map (ask p) (members (pages_of t kind))) (members (participants_of t))

-- such a list for each level
unfoldable pub questions : Terms → Level → List Question
questions t subtotals = flat_map (λ k. Subtotal System k ∷ Subtotal Adjustment k ∷ []) (keys t)
questions t intervals = map Interval (keys t)
questions t codes = flat_map (λ e. on_pages t (kind_of_group t.year t.month e.1) (Code e.0)) (table_of t.year t.month)
questions t groups = flat_map (λ g. on_pages t (kind_of_group t.year t.month g) (Group g)) (every_group t.year t.month)
questions t parents = flat_map (λ r. on_pages t (Some (kind_of_parent r)) (Parent (parent_number r))) every_parent
questions t settlements = flat_map (λ p. map (Settlement p) (members (span 0 (days_of t.year t.month)))) (members (participants_of t))
questions t months = map Month (members (participants_of t))

-- all that stands at the keys of a month
abbrev pub whole : Terms → (Key → Cents) → Cents
whole t amount = sum cents amount (keys t)

pub record AddsUp (t : Terms) (level : Level) : Type 0 where
  -- the granted questions of a level can be listed
  pub listed : Every t level (questions t level)
  -- and however they are listed, their totals add up to all that stands in the month
  pub adds_up : (v : Layer) (qs : List Question) → Every t level qs → sum cents (total t v) qs ≡ whole t (layered v).amount

abbrev pub LevelsAddUp : Type 0
LevelsAddUp = (t : Terms) (level : Level) → AddsUp t level
