-- What a refusal says to a reader.
use Rattle.std.specs.Prelude.{ℕ, List, ◌++◌, codes, decimal}
use Rattle.faults.specs.Causes.{cause_number, layer_number}
use Rattle.faults.specs.declared.cause.Cause.{Cause}
use Rattle.faults.specs.declared.cause.Cause.TheVariants.{
  OpeningOutside,
  NotInTable,
  NotForThisCall,
  UnknownParticipant,
  OutsidePage,
  AmountBeyondLimit,
  DemandOutside,
  NotOpen,
  DayNotAllotted,
  ShareBeyondLimit,
  NoWeight,
  NoFreeLine,
  TooFewPlaces,
}
use Rattle.faults.specs.declared.key.Key.{Key}
use Rattle.faults.specs.declared.refusal.Refusal.{Refusal}

-- what each cause means
abbrev pub cause_text : Cause → List ℕ
cause_text OpeningOutside = codes "year, month or number of participants outside, or a book with lines"
cause_text NotInTable = codes "code, group or parent not in the table"
cause_text NotForThisCall = codes "code not for this call"
cause_text UnknownParticipant = codes "participant outside"
cause_text OutsidePage = codes "page or interval outside, or not of this code"
cause_text AmountBeyondLimit = codes "amount or reading beyond its limit"
cause_text DemandOutside = codes "demand or weights outside their limits"
cause_text NotOpen = codes "page or interval not open for this call"
cause_text DayNotAllotted = codes "a day is not allotted"
cause_text ShareBeyondLimit = codes "amount to share beyond its limit"
cause_text NoWeight = codes "no weight for an amount other than 0"
cause_text NoFreeLine = codes "too few free lines"
cause_text TooFewPlaces = codes "fewer places than shares"

-- a key's four parts, with a blank between
abbrev pub key_text : Key → List ℕ
key_text k =
    decimal k.code ++ codes " " ++ decimal k.participant ++ codes " " ++ decimal k.page ++ codes " " ++ decimal k.interval

-- the number, the layer's number, the place, and what the cause means
abbrev pub refusal_text : Refusal → List ℕ
refusal_text r =
    decimal (cause_number r.cause)
    ++ codes " layer " ++ decimal (layer_number r.layer)
    ++ codes " at " ++ key_text r.place
    ++ codes ": " ++ cause_text r.cause
