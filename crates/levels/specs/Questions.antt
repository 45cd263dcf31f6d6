-- Questions: which are answered, what each covers, and what its answer is.
use Rattle.std.specs.Prelude.{ℕ, suc, Bool, true, not, ◌||◌, List, [], ◌∷◌, ℤ, pos, negsuc, is_some, Some, None, Option, Result}
use Rattle.std.specs.Option.{option_map}
use Rattle.faults.specs.Faults.{as_told, first_met, refusal, unless}
use Rattle.faults.specs.declared.cause.Cause.{Cause}
use Rattle.faults.specs.declared.cause.Cause.TheVariants as cause
use Rattle.faults.specs.declared.layer.Layer.TheVariants as layer
use Rattle.faults.specs.Keys.{key_of}
use Rattle.ledger.specs.Kinds.{balance, sides}
use Rattle.ledger.specs.Layers.{Layer}
use Rattle.ledger.specs.Totals.{members, sum}
use Rattle.ledger.specs.declared.balance.Balance.{Balance}
use Rattle.ledger.specs.declared.cents.Cents.{Cents}
use Rattle.faults.specs.declared.key.Key.{Key}
use Rattle.ledger.specs.declared.path.Path.{Path}
use Rattle.faults.specs.declared.refusal.Refusal.{Refusal}
use Rattle.tariff.specs.Groups.{parent_numbered}
use Rattle.tariff.specs.Month.{group_of, is_group, is_page, kind_of_code, kind_of_group}
use Rattle.tariff.specs.Pages.{kind_of_parent}
use Rattle.tariff.specs.declared.page_kind.PageKind.{PageKind}
use Rattle.tariff.specs.declared.page_kind.PageKind.TheVariants.{Day, Month as MonthPage}
use Rattle.levels.specs.Scopes.{amounts_by, total_over}
use Rattle.levels.specs.Terms.{Terms, on_kind, participants_of, stands, takes_part}
use Rattle.levels.specs.declared.question.Question.{Question}
use Rattle.levels.specs.declared.question.Question.TheVariants.{Subtotal, Interval, Code, Group, Parent, Settlement, Month}
use Rattle.levels.specs.declared.question_fault.QuestionFault.{QuestionFault}
use Rattle.levels.specs.declared.question_fault.QuestionFault.TheVariants.{NotInTable, UnknownParticipant, OutsidePage}
use Rattle.levels.specs.declared.scope.Codes.{Codes}
use Rattle.levels.specs.declared.scope.Codes.TheVariants as codes
use Rattle.levels.specs.declared.scope.Scope.{Scope}

-- the faults of a question: all of the month's layer
abbrev pub question_told : QuestionFault → Refusal
question_told (NotInTable k) = refusal cause.NotInTable layer.Month k
question_told (UnknownParticipant k) = refusal cause.UnknownParticipant layer.Month k
question_told (OutsidePage k) = refusal cause.OutsidePage layer.Month k

-- the place that a question names, with 0 for what it does not give
abbrev pub place_asked : Question → Key
place_asked (Subtotal path k) = k
place_asked (Interval k) = k
place_asked (Code c p d) = key_of c p d 0
place_asked (Group g p d) = key_of 0 p d 0
place_asked (Parent r p d) = key_of 0 p d 0
place_asked (Settlement p d) = key_of 0 p d 0
place_asked (Month p) = key_of 0 p 0 0

-- whether a code is in the table
abbrev pub in_table : Terms → ℕ → Bool
in_table t code = is_some (group_of t.year t.month code)

-- whether a page is one of those that something stands on
abbrev pub on_page : Terms → Option PageKind → ℕ → Bool
on_page t kind d = on_kind kind (λ k. is_page t.year t.month k d)

-- whether the month has a page
abbrev pub has_page : Terms → ℕ → Bool
has_page t d = is_page t.year t.month MonthPage d || is_page t.year t.month Day d

-- whether the code, group or parent that a question names is in the table; one that names none misses none
abbrev pub names_known : Terms → Question → Bool
names_known t (Subtotal path k) = in_table t k.code
names_known t (Interval k) = in_table t k.code
names_known t (Code c p d) = in_table t c
names_known t (Group g p d) = is_group t.year t.month g
names_known t (Parent r p d) = is_some (parent_numbered r)
names_known t (Settlement p d) = true
names_known t (Month p) = true

-- whether its page, and its interval, are of the month and of what it names
abbrev pub page_known : Terms → Question → Bool
page_known t (Subtotal path k) = stands t k.code k.page k.interval
page_known t (Interval k) = stands t k.code k.page k.interval
page_known t (Code c p d) = on_page t (kind_of_code t.year t.month c) d
page_known t (Group g p d) = on_page t (kind_of_group t.year t.month g) d
page_known t (Parent r p d) = on_page t (option_map kind_of_parent (parent_numbered r)) d
page_known t (Settlement p d) = has_page t d
page_known t (Month p) = true

-- why a question is refused, first to last
abbrev pub question_refusals : Terms → Question → List (Bool × Cause)
question_refusals t q =
    (not (names_known t q), cause.NotInTable)
    ∷ (not (takes_part t (place_asked q).participant), cause.UnknownParticipant)
    ∷ (not (page_known t q), cause.OutsidePage)
    ∷ []

abbrev pub question_refusal : Terms → Question → Option Refusal
question_refusal t q = first_met layer.Month (place_asked q) (question_refusals t q)

-- the path that a question is about; but for a subtotal both together
abbrev pub path_asked : Question → Option Path
path_asked (Subtotal path k) = Some path
path_asked (Interval k) = None
path_asked (Code c p d) = None
path_asked (Group g p d) = None
path_asked (Parent r p d) = None
path_asked (Settlement p d) = None
path_asked (Month p) = None

-- what a participant has in some codes on a page
abbrev pub page_scope : Codes → ℕ → ℕ → Scope
page_scope chosen p d = record { codes = chosen; participant = Some p; page = Some d; interval = None }

-- one key alone
abbrev pub key_scope : Key → Scope
key_scope k = record { codes = codes.Only k.code; participant = Some k.participant; page = Some k.page; interval = Some k.interval }

-- the keys that a question is about
abbrev pub scope_asked : Question → Scope
scope_asked (Subtotal path k) = key_scope k
scope_asked (Interval k) = key_scope k
scope_asked (Code c p d) = page_scope (codes.Only c) p d
scope_asked (Group g p d) = page_scope (codes.Group g) p d
scope_asked (Parent r p d) = page_scope (codes.Parent r) p d
scope_asked (Settlement p d) = page_scope codes.Every p d
scope_asked (Month p) = record { codes = codes.Every; participant = Some p; page = None; interval = None }

-- a total joins the subtotals that its question covers
abbrev pub total : Terms → Layer → Question → Cents
total t v q = total_over t (scope_asked q) (amounts_by (path_asked q) v)

-- an answer with its refusal told
abbrev pub told_answer : Result Cents QuestionFault → Result Cents Refusal
told_answer r = as_told question_told r

-- what a question is answered with
abbrev pub total_answer : Terms → Layer → Question → Result Cents Refusal
total_answer t v q = unless (question_refusal t q) (total t v q)

-- a month total on its side: due from a debtor, or due to a creditor
abbrev pub side_of : ℤ → Balance
side_of (pos n) = sides (pos n) (pos 0)
side_of (negsuc n) = sides (pos 0) (pos (suc n))

-- the trial balance: the month totals of all participants, each on its side
unfoldable pub trial_balance : Terms → Layer → Balance
trial_balance t v = sum balance (λ p. side_of (total t v (Month p)).0) (members (participants_of t))
