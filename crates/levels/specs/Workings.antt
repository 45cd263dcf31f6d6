-- How a total over a scope is found: code by code, each by one question to the book. No rule stands here.
use Rattle.std.specs.Prelude.{ℕ, cond, Some, None, Option}
use Rattle.ledger.specs.Kinds.{cents}
use Rattle.ledger.specs.Totals.{extent, has, span, total}
use Rattle.ledger.specs.declared.cents.Cents.{Cents}
use Rattle.faults.specs.declared.key.Key.{Key}
use Rattle.ledger.specs.declared.extent.Extent.{Extent}
use Rattle.ledger.specs.declared.span.Span.{Span}
use Rattle.tariff.specs.Charges.{Entry}
use Rattle.tariff.specs.Month.{kind_of_group}
use Rattle.tariff.specs.declared.page_kind.PageKind.{PageKind}
use Rattle.levels.specs.Scopes.{chosen}
use Rattle.levels.specs.Terms.{Terms, intervals_on, pages_of, participants_of}
use Rattle.levels.specs.declared.scope.Scope.{Scope}

-- a span, or the one number of it that is given
abbrev pub narrowed : Span → Option ℕ → Span
narrowed s None = s
narrowed s (Some n) = cond (has s n) (span n n) (span 1 0)

-- the intervals of every page of a kind: those of the first
abbrev pub each_intervals : Terms → PageKind → Span
each_intervals t kind = intervals_on t kind 1

-- where one code stands in a scope, on pages of a kind
abbrev pub within_scope : Terms → Scope → ℕ → PageKind → Extent
within_scope t s code kind =
    extent code
    (narrowed (participants_of t) s.participant)
    (narrowed (pages_of t kind) s.page)
    (narrowed (each_intervals t kind) s.interval)

-- what it has there
abbrev pub found_on : Terms → Scope → (Key → Cents) → ℕ → PageKind → Cents
found_on t s amount code kind =
    total cents amount (within_scope t s code kind)

abbrev pub found_where : Terms → Scope → (Key → Cents) → ℕ → Option PageKind → Cents
found_where t s amount code None = cents.nought
found_where t s amount code (Some kind) = found_on t s amount code kind

-- what one code of the table adds to the total over a scope
abbrev pub found_in : Terms → Scope → (Key → Cents) → Entry → Cents
found_in t s amount e =
    cond (chosen t s.codes e) (found_where t s amount e.0 (kind_of_group t.year t.month e.1)) cents.nought
