-- The commands of a script, each by the words that it wants after its name.
use Rattle.std.specs.Prelude.{ℕ, cond, List, ℤ, is_some, Some, None, Option}
use Rattle.std.specs.Option.{option_map}
use Rattle.text.specs.Words.{next_word, after_word}
use Rattle.script.specs.Readings.{given, unsigned, unsigned_or, signed, rule, path, key, nothing, all_signed}
use Rattle.script.specs.Readings.{after_two, after_three, after_four, after_five}
use Rattle.script.specs.Verbs.{verb}
use Rattle.script.specs.declared.command.Call.{Call as Calls}
use Rattle.script.specs.declared.command.Call.TheVariants as call
use Rattle.script.specs.declared.command.Command.{Command}
use Rattle.script.specs.declared.command.Command.TheVariants.{Open, Call, Ask, Balance, Share}
use Rattle.faults.specs.declared.key.Key.{Key}
use Rattle.script.specs.declared.command.Opening.{Opening}
use Rattle.script.specs.declared.command.Places.{Places}
use Rattle.levels.specs.declared.question.Question.{Question}
use Rattle.levels.specs.declared.question.Question.TheVariants as question
use Rattle.script.specs.declared.command.Sharing.{Sharing}
use Rattle.script.specs.declared.verb.Verb.{Verb}
use Rattle.script.specs.declared.verb.Verb.TheVariants as verbs

-- [MONEY-LINES DEMAND-LINES], 1000000 each where they are left out
abbrev pub places : List ℕ → Option Places
places t =
    cond (is_some (next_word t))
    (given (unsigned t) (λ m. given (unsigned (after_word t)) (λ d. given (nothing (after_two t)) (λ _.
    Some (record { money = m; demand = d })))))
    (Some (record { money = 1_000_000; demand = 1_000_000 }))

-- YEAR MONTH PARTICIPANTS RULE [MONEY-LINES DEMAND-LINES]
abbrev pub opening : List ℕ → Option Opening
opening t =
    given (unsigned t) (λ y. given (unsigned (after_word t)) (λ m. given (unsigned (after_two t)) (λ n.
    given (rule (after_three t)) (λ r. given (places (after_four t)) (λ l.
    Some (record { year = y; month = m; participants = n; rule = r; places = l }))))))

-- the last argument of a line
abbrev pub last_unsigned : List ℕ → Option ℕ
last_unsigned t = given (unsigned t) (λ n. given (nothing (after_word t)) (λ _. Some n))

-- CODE PARTICIPANT PAGE INTERVAL CENTS
abbrev pub entry : List ℕ → Option (Key × ℤ)
entry t = given (key t) (λ k. given (signed (after_four t)) (λ x. given (nothing (after_five t)) (λ _. Some (k, x))))

abbrev pub post : List ℕ → Option Calls
post t = given (entry t) (λ e. Some (call.Post e.0 e.1))

abbrev pub adjust : List ℕ → Option Calls
adjust t = given (entry t) (λ e. Some (call.Adjust e.0 e.1))

-- PARTICIPANT PAGE INTERVAL KWH
abbrev pub meter : List ℕ → Option Calls
meter t =
    given (unsigned t) (λ p. given (unsigned (after_word t)) (λ g. given (unsigned (after_two t)) (λ i.
    given (signed (after_three t)) (λ x. given (nothing (after_four t)) (λ _. Some (call.Meter p g i x))))))

-- CODE PAGE INTERVAL [PLACES], 32 where they are left out
abbrev pub allocate : List ℕ → Option Calls
allocate t =
    given (unsigned t) (λ c. given (unsigned (after_word t)) (λ g. given (unsigned (after_two t)) (λ i.
    given (unsigned_or 32 (after_three t)) (λ n. given (nothing (after_four t)) (λ _. Some (call.Allocate c g i n))))))

-- PAGE
abbrev pub strike : List ℕ → Option Calls
strike t = given (last_unsigned t) (λ g. Some (call.Strike g))

-- PAGE [PLACES], 32 where they are left out
abbrev pub allot : List ℕ → Option Calls
allot t =
    given (unsigned t) (λ g. given (unsigned_or 32 (after_word t)) (λ n. given (nothing (after_two t)) (λ _.
    Some (call.Allot g n))))

-- PAGE
abbrev pub withdraw : List ℕ → Option Calls
withdraw t = given (last_unsigned t) (λ g. Some (call.Withdraw g))

-- system|adjustment CODE PARTICIPANT PAGE INTERVAL
abbrev pub subtotal : List ℕ → Option Question
subtotal t =
    given (path t) (λ s. given (key (after_word t)) (λ k. given (nothing (after_five t)) (λ _. Some (question.Subtotal s k))))

-- CODE PARTICIPANT PAGE INTERVAL
abbrev pub interval : List ℕ → Option Question
interval t = given (key t) (λ k. given (nothing (after_four t)) (λ _. Some (question.Interval k)))

-- PARTICIPANT PAGE
abbrev pub participant_and_page : List ℕ → Option (ℕ × ℕ)
participant_and_page t = given (unsigned t) (λ p. given (last_unsigned (after_word t)) (λ g. Some (p, g)))

-- what is asked about, then PARTICIPANT PAGE
abbrev pub on_page : List ℕ → Option (ℕ × (ℕ × ℕ))
on_page t = given (unsigned t) (λ n. given (participant_and_page (after_word t)) (λ e. Some (n, e)))

-- CODE PARTICIPANT PAGE
abbrev pub code : List ℕ → Option Question
code t = given (on_page t) (λ e. Some (question.Code e.0 e.1.0 e.1.1))

-- GROUP PARTICIPANT PAGE
abbrev pub group : List ℕ → Option Question
group t = given (on_page t) (λ e. Some (question.Group e.0 e.1.0 e.1.1))

-- PARENT PARTICIPANT PAGE
abbrev pub parent : List ℕ → Option Question
parent t = given (on_page t) (λ e. Some (question.Parent e.0 e.1.0 e.1.1))

-- PARTICIPANT PAGE
abbrev pub settlement : List ℕ → Option Question
settlement t = given (participant_and_page t) (λ e. Some (question.Settlement e.0 e.1))

-- PARTICIPANT
abbrev pub month : List ℕ → Option Question
month t = given (last_unsigned t) (λ p. Some (question.Month p))

abbrev pub balance : List ℕ → Option Command
balance t = given (nothing t) (λ _. Some Balance)

-- RULE AMOUNT WEIGHT...
abbrev pub share : List ℕ → Option Sharing
share t =
    given (rule t) (λ r. given (signed (after_word t)) (λ a. given (signed (after_two t)) (λ _.
    given (all_signed (after_three t)) (λ _. Some (record { rule = r; amount = a })))))

-- what a command wants after its name
abbrev pub arguments_of : Verb → List ℕ → Option Command
arguments_of verbs.Open t = option_map Open (opening t)
arguments_of verbs.Post t = option_map Call (post t)
arguments_of verbs.Meter t = option_map Call (meter t)
arguments_of verbs.Adjust t = option_map Call (adjust t)
arguments_of verbs.Allocate t = option_map Call (allocate t)
arguments_of verbs.Strike t = option_map Call (strike t)
arguments_of verbs.Allot t = option_map Call (allot t)
arguments_of verbs.Withdraw t = option_map Call (withdraw t)
arguments_of verbs.Subtotal t = option_map Ask (subtotal t)
arguments_of verbs.Interval t = option_map Ask (interval t)
arguments_of verbs.Code t = option_map Ask (code t)
arguments_of verbs.Group t = option_map Ask (group t)
arguments_of verbs.Parent t = option_map Ask (parent t)
arguments_of verbs.Settlement t = option_map Ask (settlement t)
arguments_of verbs.Month t = option_map Ask (month t)
arguments_of verbs.Balance t = balance t
arguments_of verbs.Share t = option_map Share (share t)

-- the command of a line that has a word
abbrev pub command : List ℕ → Option Command
command line = given (next_word line) (λ name. given (verb name) (λ v. arguments_of v (after_word line)))

-- a line is understood where it has no word, or is a command
abbrev pub understood : List ℕ → Option (Option Command)
understood line = cond (is_some (next_word line)) (option_map Some (command line)) (Some None)
