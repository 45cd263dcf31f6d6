-- What a word means by a table of names.
use Rattle.std.specs.Prelude.{ℕ, List, Option}
use Rattle.std.specs.Borrow.{Bor}
use Rattle.std.specs.List.{find}
use Rattle.std.specs.Option.{option_map}
use Rattle.std.specs.Str.{bytes_eq}

-- the value beside the first name that the word is spelt as
abbrev pub meaning : {T : Type 0} → List ℕ → List (Bor (List ℕ) × T) → Option T
meaning w table = option_map (λ e. e.1) (find (λ e. bytes_eq w e.0.now) table)
