-- The terms of a month: what its opening fixes, and the keys that its amounts may stand at.
use Rattle.std.specs.Prelude.{ℕ, Bool, false, not, ◌&&◌, List, [], ◌∷◌, map, Some, None, Option}
use Rattle.std.specs.List.{flat_map}
use Rattle.faults.specs.Faults.{first_met, refusal}
use Rattle.faults.specs.Keys.{key_of, nowhere}
use Rattle.faults.specs.declared.cause.Cause.TheVariants.{OpeningOutside}
use Rattle.faults.specs.declared.layer.Layer.TheVariants as layer
use Rattle.ledger.specs.Totals.{has, members, span}
use Rattle.faults.specs.declared.key.Key.{Key}
use Rattle.faults.specs.declared.refusal.Refusal.{Refusal}
use Rattle.ledger.specs.declared.span.Span.{Span}
use Rattle.tariff.specs.Calendar.{is_traded}
use Rattle.tariff.specs.Month.{days_of, intervals_of, is_interval, kind_of_code, kind_of_group, table_of}
use Rattle.tariff.specs.Ranges.{within}
use Rattle.tariff.specs.declared.page_kind.PageKind.{PageKind}
use Rattle.tariff.specs.declared.page_kind.PageKind.TheVariants.{Day, Month}
use Rattle.levels.specs.declared.admission.OpeningFault.{OpeningFault}
use Rattle.levels.specs.declared.admission.OpeningFault.TheVariants.{Outside}
use Rattle.levels.specs.declared.opening.Opening.{Opening}

-- what an opening fixes
pub record Terms : Type 0 where
  pub year : ℕ
  pub month : ℕ
  pub participants : ℕ

abbrev pub terms : ℕ → ℕ → ℕ → Terms
terms y m n = record { year = y; month = m; participants = n }

abbrev pub terms_of : Opening → Terms
terms_of o = terms o.month.year o.month.month o.participants

abbrev pub opening_told : OpeningFault → Refusal
opening_told Outside = refusal OpeningOutside layer.Month nowhere

-- an opening is refused where the month is not traded, or has no participant or more than 32
abbrev pub opening_refusal : ℕ → ℕ → ℕ → Option Refusal
opening_refusal year month participants = first_met layer.Month nowhere ((not (is_traded year month && within 1 32 participants), OpeningOutside) ∷ [])

-- its participants are numbered from 1
abbrev pub participants_of : Terms → Span
participants_of t = span 1 t.participants

-- its pages of a kind: page 0, or its days
abbrev pub pages_of : Terms → PageKind → Span
pages_of t Month = span 0 0
pages_of t Day = span 1 (days_of t.year t.month)

-- the intervals of such a page: interval 0, or those of the day
abbrev pub intervals_on : Terms → PageKind → ℕ → Span
intervals_on t Month page = span 0 0
intervals_on t Day page = span 1 (intervals_of t.year t.month page)

-- the keys of a code that stands on a kind of page
abbrev pub code_keys : Terms → ℕ → PageKind → List Key
code_keys t code kind =
    flat_map (λ p. flat_map (λ d. map (λ i. key_of code p d i) (members (intervals_on t kind d))) (members (pages_of t kind)))
    (members (participants_of t))

abbrev pub keys_on : Terms → ℕ → Option PageKind → List Key
keys_on t code None = []
keys_on t code (Some kind) = code_keys t code kind

-- all keys of the month, code by code
unfoldable pub keys : Terms → List Key
keys t = flat_map (λ e. keys_on t e.0 (kind_of_group t.year t.month e.1)) (table_of t.year t.month)

-- a test of the kind of page, failed where there is none
abbrev pub on_kind : Option PageKind → (PageKind → Bool) → Bool
on_kind None test = false
on_kind (Some kind) test = test kind

-- whether a code stands on a page in an interval
abbrev pub stands : Terms → ℕ → ℕ → ℕ → Bool
stands t code page interval =
    on_kind (kind_of_code t.year t.month code) (λ kind. is_interval t.year t.month kind page interval)

-- whether a participant takes part
abbrev pub takes_part : Terms → ℕ → Bool
takes_part t participant = has (participants_of t) participant

-- whether a key is one of the month's
abbrev pub holds : Terms → Key → Bool
holds t k = takes_part t k.participant && stands t k.code k.page k.interval
