-- Totals: the amounts at all keys of one code, over spans of participants, pages and intervals.
use Rattle.std.specs.Prelude.{ℕ, zero, suc, ◌-◌, Bool, ◌&&◌, List, [], ◌∷◌, ◌==◌, nat_le}
use Rattle.ledger.specs.Amounts.{Kind}
use Rattle.faults.specs.Keys.{key_of}
use Rattle.faults.specs.declared.key.Key.{Key}
use Rattle.ledger.specs.declared.extent.Extent.{Extent}
use Rattle.ledger.specs.declared.span.Span.{Span}

-- the numbers from a first to a last
abbrev pub span : ℕ → ℕ → Span
span lo hi = record { first = lo; last = hi }

-- amounts joined, one for each element of a list
unfoldable pub sum : {X Y : Type 0} → Kind X → (Y → X) → List Y → X
sum kind f [] = kind.nought
sum kind f (y ∷ ys) = kind.joined (f y) (sum kind f ys)

-- so many numbers in order, from a first one up
unfoldable pub count_up : ℕ → ℕ → List ℕ
count_up lo zero = []
count_up lo (suc n) = lo ∷ count_up (suc lo) n

-- the numbers of a span: none where its last is below its first
unfoldable pub members : Span → List ℕ
members s = count_up s.first (suc s.last - s.first)

-- whether a number is in a span
abbrev pub has : Span → ℕ → Bool
has s n = nat_le s.first n && nat_le n s.last

-- the keys of one code, in a span of participants, of pages and of intervals
abbrev pub extent : ℕ → Span → Span → Span → Extent
extent c p d i = record { code = c; participants = p; pages = d; intervals = i }

-- the total over an extent: the amount at each of its keys
unfoldable pub total : {X : Type 0} → Kind X → (Key → X) → Extent → X
total kind amount x =
    sum kind (λ p. sum kind (λ d. sum kind (λ i. amount (key_of x.code p d i)) (members x.intervals)) (members x.pages)) (members x.participants)

-- whether a key is one of those
abbrev pub covers : Extent → Key → Bool
covers x k =
    (k.code == x.code) && (has x.participants k.participant && (has x.pages k.page && has x.intervals k.interval))
