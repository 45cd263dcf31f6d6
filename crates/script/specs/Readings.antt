-- What the words of a line give, each read from the text that is still to come.
use Rattle.std.specs.Prelude.{ℕ, zero, suc, cond, List, length, ℤ, is_some, Some, None, Option}
use Rattle.text.specs.Numbers.{unsigned_number, signed_number}
use Rattle.text.specs.Taking.{to_come}
use Rattle.text.specs.Words.{next_word, after_word}
use Rattle.script.specs.declared.arguments.Arguments.{Arguments}
use Rattle.script.specs.Verbs.{rule_named, path_named}
use Rattle.faults.specs.declared.key.Key.{Key}
use Rattle.ledger.specs.declared.path.Path.{Path}
use Rattle.shares.specs.declared.named_rule.NamedRule.{NamedRule}

-- the text whose words are still to come
abbrev pub ahead : Arguments → List ℕ
ahead a = to_come a.words

-- a reading, and what follows from its value
abbrev pub given : {X Y : Type 0} → Option X → (X → Option Y) → Option Y
given None f = None
given (Some x) f = f x

-- the text after some words
abbrev pub after_two : List ℕ → List ℕ
after_two t = after_word (after_word t)

abbrev pub after_three : List ℕ → List ℕ
after_three t = after_word (after_two t)

abbrev pub after_four : List ℕ → List ℕ
after_four t = after_word (after_three t)

abbrev pub after_five : List ℕ → List ℕ
after_five t = after_word (after_four t)

-- a number without a sign
abbrev pub unsigned : List ℕ → Option ℕ
unsigned t = given (next_word t) unsigned_number

-- the same, or a default where no word is left
abbrev pub unsigned_or : ℕ → List ℕ → Option ℕ
unsigned_or default t = cond (is_some (next_word t)) (unsigned t) (Some default)

-- a number with a sign
abbrev pub signed : List ℕ → Option ℤ
signed t = given (next_word t) signed_number

abbrev pub rule : List ℕ → Option NamedRule
rule t = given (next_word t) rule_named

abbrev pub path : List ℕ → Option Path
path t = given (next_word t) path_named

-- CODE PARTICIPANT PAGE INTERVAL
abbrev pub key : List ℕ → Option Key
key t =
    given (unsigned t) (λ c.
    given (unsigned (after_word t)) (λ p.
    given (unsigned (after_two t)) (λ g.
    given (unsigned (after_three t)) (λ i.
    Some (record { code = c; participant = p; page = g; interval = i })))))

-- no word is left
abbrev pub nothing : List ℕ → Option (Unit {0})
nothing t = cond (is_some (next_word t)) None (Some tt)

-- all words that are left are numbers, of at most so many
abbrev pub signed_within : ℕ → List ℕ → Option (Unit {0})
signed_within zero t = Some tt
signed_within (suc n) t = cond (is_some (next_word t)) (given (signed t) (λ _. signed_within n (after_word t))) (Some tt)

-- all words that are left are numbers; a text has no more words than bytes
abbrev pub all_signed : List ℕ → Option (Unit {0})
all_signed t = signed_within (length t) t
