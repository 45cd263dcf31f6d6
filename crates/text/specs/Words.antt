-- How a text falls into lines, and a line into words. Assumes nothing.
use Rattle.std.specs.Prelude.{ℕ, Bool, cond, not, ◌&&◌, ◌||◌, List, length, take, drop, Some, None, Option, ◌==◌}
use Rattle.std.specs.List.{prefix_len}

-- a space, a tab or a carriage return
abbrev pub blank : ℕ → Bool
blank c = c == 32 || (c == 9 || c == 13)

-- neither a blank nor the `#` that begins a comment
abbrev pub in_word : ℕ → Bool
in_word c = not (c == 35) && not (blank c)

-- no line feed
abbrev pub in_line : ℕ → Bool
in_line c = not (c == 10)

abbrev pub after_blanks : List ℕ → List ℕ
after_blanks t = drop (prefix_len blank t) t

abbrev pub word_length : List ℕ → ℕ
word_length t = prefix_len in_word (after_blanks t)

-- the next word, unless the line or its comment comes first
abbrev pub next_word : List ℕ → Option (List ℕ)
next_word t = cond (word_length t == 0) None (Some (take (word_length t) (after_blanks t)))

abbrev pub after_word : List ℕ → List ℕ
after_word t = drop (word_length t) (after_blanks t)

-- the next line, without its line feed; the last line needs none
abbrev pub next_line : List ℕ → Option (List ℕ)
next_line t = cond (length t == 0) None (Some (take (prefix_len in_line t) t))

abbrev pub after_line : List ℕ → List ℕ
after_line t = drop 1 (drop (prefix_len in_line t) t)
