-- The journal: lines that were appended to lent places.
use Rattle.std.specs.Prelude.{ℕ, ◌+◌, ◌-◌, ◌≤◌, min, List, length, take}
use Rattle.std.proofs.Common.{arith}
use Rattle.faults.specs.declared.layer.Layer.TheVariants.{Book}
use Rattle.ledger.specs.Amounts.{Kind, most_lines}
use Rattle.ledger.specs.Books.{Meaning}
use Rattle.ledger.specs.Lines.{amount_of}
use Rattle.ledger.specs.declared.line.Line.{Line}

-- how many lines so many places can take
abbrev pub room : ℕ → ℕ
room places = min places most_lines

-- how many of the used lines stand there
abbrev pub standing : ℕ → ℕ → ℕ
standing used places = min used (room places)

-- what a journal means: its lines, joined key by key; its free lines are the places left; it is of the layer of books
abbrev pub journal_means : {X : Type 0} → Kind X → List (Line X) → ℕ → Meaning X
journal_means kind places used = record {
  amount = amount_of kind (λ l. l) (take (standing used (length places)) places);
  lines = standing used (length places);
  free = room (length places) - standing used (length places);
  layer = Book;
}

-- a journal that was not used yet
abbrev pub unused : {X : Type 0} → Kind X → ℕ → Meaning X
unused kind places = record { amount = λ _. kind.nought; lines = 0; free = room places; layer = Book }

-- lines and free lines are together no more than any book may have
pub journal_limited : (used places : ℕ) → standing used places + (room places - standing used places) ≤ most_lines
journal_limited used places = omega arith
