-- Books: what a book means, and what its calls do to its meaning.
use Rattle.std.specs.Prelude.{◌≡◌, ℕ, ◌+◌, ◌*◌, ◌≤◌, Bool, cond, not, List, [], ◌∷◌, sum_by, Option, ◌==◌}
use Rattle.ledger.specs.Amounts.{Kind, most_lines}
use Rattle.faults.specs.Faults.{first_met}
use Rattle.faults.specs.Keys.{same, known, distinct}
use Rattle.faults.specs.declared.cause.Cause.{Cause}
use Rattle.faults.specs.declared.cause.Cause.TheVariants.{UnknownParticipant, AmountBeyondLimit, NoFreeLine}
use Rattle.faults.specs.declared.key.Key.{Key}
use Rattle.faults.specs.declared.layer.Layer.{Layer}
use Rattle.faults.specs.declared.refusal.Refusal.{Refusal}

-- what a book means: an amount for every key, its lines, its free lines, and the layer that now turns posts down
pub record Meaning (X : Type 0) : Type 0 where
  pub amount : Key → X
  pub lines : ℕ
  pub free : ℕ
  pub layer : Layer

-- why a line is refused, first to last: an unknown participant, an amount that no line may hold, no room
abbrev pub line_refusals : {X : Type 0} → Kind X → Key → X → Bool → List (Bool × Cause)
line_refusals kind k x full =
    (not (known k.participant), UnknownParticipant) ∷ (not (kind.allowed x), AmountBeyondLimit) ∷ (full, NoFreeLine) ∷ []

-- a post is refused for want of room exactly when no line is free
abbrev pub post_refusal : {X : Type 0} → Kind X → Meaning X → Key → X → Option Refusal
post_refusal kind m k x = first_met m.layer k (line_refusals kind k x (m.free == 0))

-- amounts with one more at a key
abbrev pub posted : {X : Type 0} → Kind X → (Key → X) → Key → X → Key → X
posted kind amount k x q = cond (same k q) (kind.joined (amount q) x) (amount q)

-- a granted post adds its amount to its key, leaves the other keys, and takes a free line
pub record Posted {X : Type 0} (kind : Kind X) (before : Meaning X) (k : Key) (x : X) (after : Meaning X) : Type 0 where
  pub amounts : (q : Key) → after.amount q ≡ posted kind before.amount k x q
  pub longer : after.lines ≡ before.lines + 1
  pub fewer : after.free + 1 ≡ before.free

-- a refusal changes nothing
pub record Unchanged {X : Type 0} (before after : Meaning X) : Type 0 where
  pub amounts : (q : Key) → after.amount q ≡ before.amount q
  pub as_long : after.lines ≡ before.lines
  pub as_free : after.free ≡ before.free
  pub as_deep : after.layer ≡ before.layer

-- no book can ever come to have more lines than any book may
abbrev pub Limited : {X : Type 0} → Meaning X → Type 0
Limited m = m.lines + m.free ≤ most_lines

-- an amount is no larger than so many lines at their largest, and those are no more than a book can have
pub record Within {X : Type 0} (kind : Kind X) (n : ℕ) (x : X) : Type 0 where
  pub few : n ≤ most_lines
  pub small : kind.size x ≤ n * kind.largest

-- the sizes of amounts, at any keys, add up to no more than so many lines at their largest
abbrev pub Backed : {X : Type 0} → Kind X → (Key → X) → ℕ → Type 0
Backed kind amount n = (ks : List Key) → distinct ks → sum_by (λ k. kind.size (amount k)) ks ≤ n * kind.largest

-- a book's amounts are backed by its lines
abbrev pub Bounded : {X : Type 0} → Kind X → Meaning X → Type 0
Bounded kind m = Backed kind m.amount m.lines

-- with no lines every amount is nought
abbrev pub NoughtWhenEmpty : {X : Type 0} → Kind X → Meaning X → Type 0
NoughtWhenEmpty kind m = m.lines ≡ 0 → (k : Key) → m.amount k ≡ kind.nought
