-- What taking the next word or line gives, and what it leaves. Assumes nothing.
use Rattle.std.specs.Prelude.{◌≡◌, ℕ, ◌+◌, ◌-◌, ◌^◌, min, List, Option, MatchOption}
use Rattle.std.specs.Borrow.{Bor}
use Rattle.std.specs.Option.{option_map}
use Rattle.text.specs.Words.{next_word, after_word, next_line, after_line}
use Rattle.text.specs.declared.word.Line.{Line}
use Rattle.text.specs.declared.word.Lines.{Lines}
use Rattle.text.specs.declared.word.Words.{Words}

-- the part of a line whose words are still to come
abbrev pub to_come : Words → List ℕ
to_come w = w.rest.now

pub record TakesWord (before : Words) (r : Option (Bor (List ℕ))) (after : Words) : Type 0 where
  pub word : option_map (λ x. x.now) r ≡ next_word (to_come before)
  pub rest : to_come after ≡ after_word (to_come before)

-- lines are numbered from 1 on, as far as 64 bits go
pub record TakesLine (before : Lines) (r : Option Line) (after : Lines) : Type 0 where
  pub line : option_map (λ l. l.text.now) r ≡ next_line before.rest.now
  pub rest : after.rest.now ≡ after_line before.rest.now
  pub number : MatchOption r (after.passed ≡ before.passed) (λ l. (l.number ≡ min (before.passed + 1) (2 ^ 64 - 1)) × (after.passed ≡ l.number))
