-- What is left of a line gets shorter with each word that is taken. Assumes nothing.
use Rattle.std.proofs.Common.{◌≡◌, ℕ, ◌<◌, List, length, Some, arith}
use Rattle.std.proofs.lemmas.Grind.{common_steps}
use Rattle.std.proofs.lemmas.List.Sums.{prefix_len-le-length}
use Rattle.text.specs.Words.{blank, in_word, after_blanks, next_word, after_word}

pub after_word_shorter : (t w : List ℕ) → Some w ≡ next_word t → length (after_word t) < length t
after_word_shorter t w e =
    grind (arith, common_steps, prefix_len-le-length in_word (after_blanks t), prefix_len-le-length blank t)
