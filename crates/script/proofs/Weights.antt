-- Reading all words that are left, one by one. Assumes nothing.
use Rattle.std.proofs.Common.{◌≡◌, ℕ, zero, suc, ◌≤◌, cond, List, [], ◌∷◌, length, is_some, Some, None, Option, sym, refl, ap, ◌∙◌, arith}
use Rattle.text.proofs.Cutting.{after_word_shorter}
use Rattle.text.specs.Numbers.{signed_number}
use Rattle.text.specs.Words.{next_word, after_word}
use Rattle.script.specs.Readings.{given, signed_within, all_signed}

-- a word is read, and then those after it
abbrev word_then : Option (List ℕ) → Option (Unit {0}) → Option (Unit {0})
word_then o rest = cond (is_some o) (given (given o signed_number) (λ _. rest)) (Some tt)

-- a bound that the text's length keeps to does not matter
signed_enough : (m n : ℕ) (t : List ℕ) → length t ≤ m → length t ≤ n → signed_within m t ≡ signed_within n t
signed_enough zero zero t a b = refl
signed_enough zero (suc n) [] a b = refl
signed_enough zero (suc n) (c ∷ cs) a b = absurd (omega arith)
signed_enough (suc m) zero [] a b = refl
signed_enough (suc m) zero (c ∷ cs) a b = absurd (omega arith)
signed_enough (suc m) (suc n) t a b = by_word (next_word t) refl (λ p q. signed_enough m n (after_word t) p q)
  where
    by_word : (o : Option (List ℕ)) → o ≡ next_word t
        → (length (after_word t) ≤ m → length (after_word t) ≤ n → signed_within m (after_word t) ≡ signed_within n (after_word t))
        → word_then o (signed_within m (after_word t)) ≡ word_then o (signed_within n (after_word t))
    by_word None e rest = refl
    by_word (Some w) e rest =
        let shorter = after_word_shorter t w e in
        ap (λ x. given (signed_number w) (λ _. x)) (rest (omega arith) (omega arith))

one_more : (t : List ℕ) → all_signed t ≡ word_then (next_word t) (signed_within (length t) (after_word t))
one_more t = signed_enough (length t) (suc (length t)) t (omega arith) (omega arith)

-- a word is left
pub all_signed_word : (t w : List ℕ) → Some w ≡ next_word t → all_signed t ≡ given (signed_number w) (λ _. all_signed (after_word t))
all_signed_word t w e =
    let shorter = after_word_shorter t w e in
    one_more t
    ∙ (ap (λ o. word_then o (signed_within (length t) (after_word t))) (sym e)
    ∙ ap (λ x. given (signed_number w) (λ _. x)) (signed_enough (length t) (length (after_word t)) (after_word t) (omega arith) (omega arith)))
