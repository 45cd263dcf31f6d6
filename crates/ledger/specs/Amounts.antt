-- Amounts that join: what a kind of amount is, and the laws that every kind keeps.
use Rattle.std.specs.Prelude.{◌≡◌, ℕ, ◌+◌, ◌*◌, ◌^◌, ◌<◌, ◌≤◌, Bool, true}

-- no book has more lines than this
abbrev pub most_lines : ℕ
most_lines = 1_000_000

-- a kind of amount: nought, how two amounts join, how large one is, the largest line, and which amounts a line may hold
pub record Kind (X : Type 0) : Type 0 where
  pub nought : X
  pub joined : X → X → X
  pub size : X → ℕ
  pub largest : ℕ
  pub allowed : X → Bool

-- the laws that every kind keeps
pub record Laws {X : Type 0} (kind : Kind X) : Type 0 where
  -- nought changes nothing, and the order and the grouping of a join do not matter
  pub left : (x : X) → kind.joined kind.nought x ≡ x
  pub swap : (x y : X) → kind.joined x y ≡ kind.joined y x
  pub assoc : (x y z : X) → kind.joined (kind.joined x y) z ≡ kind.joined x (kind.joined y z)
  -- only nought has no size, and a join is no larger than its parts together
  pub empty : kind.size kind.nought ≡ 0
  pub nothing : (x : X) → kind.size x ≡ 0 → x ≡ kind.nought
  pub sizes : (x y : X) → kind.size (kind.joined x y) ≤ kind.size x + kind.size y
  -- a line is no larger than the largest, and two full books together fit the machine's numbers
  pub line_size : (x : X) → kind.allowed x ≡ true → kind.size x ≤ kind.largest
  pub room : kind.largest * most_lines < 2 ^ 62
