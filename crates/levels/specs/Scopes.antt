-- Scopes: which of a month's keys a total is over, and what it comes to.
use Rattle.std.specs.Prelude.{ℕ, ◌*◌, Bool, true, false, cond, not, ◌&&◌, Some, None, Option, ◌==◌}
use Rattle.ledger.specs.Kinds.{cents}
use Rattle.ledger.specs.Layers.{Layer, layered, path_amount}
use Rattle.ledger.specs.Totals.{sum}
use Rattle.ledger.specs.declared.cents.Cents.{Cents}
use Rattle.faults.specs.declared.key.Key.{Key}
use Rattle.ledger.specs.declared.path.Path.{Path}
use Rattle.tariff.specs.Charges.{Entry}
use Rattle.tariff.specs.Groups.{parent_number}
use Rattle.tariff.specs.Month.{group_of, is_neutral, parent_of}
use Rattle.tariff.specs.Pages.{allocation_code, allocation_group}
use Rattle.tariff.specs.declared.page_kind.PageKind.{PageKind}
use Rattle.tariff.specs.declared.page_kind.PageKind.TheVariants.{Day, Month}
use Rattle.tariff.specs.declared.parent.Parent.{Parent}
use Rattle.levels.specs.Terms.{Terms, keys}
use Rattle.levels.specs.declared.scope.Codes.{Codes}
use Rattle.levels.specs.declared.scope.Codes.TheVariants.{Every, Only, Group, Parent as Under, Neutral, Offset}
use Rattle.levels.specs.declared.scope.Scope.{Scope}

-- whether a parent has a number
abbrev pub is_numbered : ℕ → Option Parent → Bool
is_numbered n None = false
is_numbered n (Some p) = parent_number p == n

-- whether a code of the table, with its group, is one of those chosen
abbrev pub chosen : Terms → Codes → Entry → Bool
chosen t Every e = true
chosen t (Only code) e = e.0 == code
chosen t (Group group) e = e.1 == group
chosen t (Under parent) e = is_numbered parent (parent_of t.year t.month e.1)
chosen t (Neutral kind) e = is_neutral t.year t.month kind e.1
chosen t Offset e = e.1 == allocation_group && not (e.0 == allocation_code)

-- the same of a code, by its group; no code outside the table is chosen
abbrev pub chosen_in : Terms → Codes → ℕ → Option ℕ → Bool
chosen_in t codes code None = false
chosen_in t codes code (Some group) = chosen t codes (code, group)

abbrev pub chooses : Terms → Codes → ℕ → Bool
chooses t codes code = chosen_in t codes code (group_of t.year t.month code)

-- whether a number is the one that is given; any is, where none is given
abbrev pub meets : Option ℕ → ℕ → Bool
meets None n = true
meets (Some m) n = m == n

-- whether a scope covers a key
abbrev pub covers : Terms → Scope → Key → Bool
covers t s k =
    chooses t s.codes k.code
    && (meets s.participant k.participant && (meets s.page k.page && meets s.interval k.interval))

-- the total over a scope: what stands at each key of the month that it covers
unfoldable pub total_over : Terms → Scope → (Key → Cents) → Cents
total_over t s amount = sum cents (λ k. cond (covers t s k) (amount k) cents.nought) (keys t)

-- no total is larger: 127 codes, each with no more than a full book holds
abbrev pub most_total : ℕ
most_total = 127 * 10_000_000_000_000_000

-- the amounts that came by a path, or by both together
abbrev pub amounts_by : Option Path → Layer → Key → Cents
amounts_by None v = (layered v).amount
amounts_by (Some path) v = path_amount path v

-- the kind of a page, by its number
abbrev pub kind_of_page : ℕ → PageKind
kind_of_page page = cond (page == 0) Month Day

-- the neutral groups of a page
abbrev pub neutral_scope : ℕ → Scope
neutral_scope d = record { codes = Neutral (kind_of_page d); participant = None; page = Some d; interval = None }

-- the imbalance of a page: all that stands in its neutral groups
abbrev pub imbalance : Terms → Layer → ℕ → Cents
imbalance t v d = total_over t (neutral_scope d) (layered v).amount

-- some codes in an interval of a day, for all participants
abbrev pub in_interval : Codes → ℕ → ℕ → Scope
in_interval codes d i = record { codes = codes; participant = None; page = Some d; interval = Some i }
