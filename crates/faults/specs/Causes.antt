-- The numbers of the causes and of the layers.
use Rattle.std.specs.Prelude.{ℕ}
use Rattle.faults.specs.declared.cause.Cause.{Cause}
use Rattle.faults.specs.declared.cause.Cause.TheVariants.{
  OpeningOutside,
  NotInTable,
  NotForThisCall,
  UnknownParticipant,
  OutsidePage,
  AmountBeyondLimit,
  DemandOutside,
  NotOpen,
  DayNotAllotted,
  ShareBeyondLimit,
  NoWeight,
  NoFreeLine,
  TooFewPlaces,
}
use Rattle.faults.specs.declared.layer.Layer.{Layer}
use Rattle.faults.specs.declared.layer.Layer.TheVariants.{Month, Adjustments, Book, Rule}

-- the number by which the rules name each cause
abbrev pub cause_number : Cause → ℕ
cause_number OpeningOutside = 1
cause_number NotInTable = 2
cause_number NotForThisCall = 3
cause_number UnknownParticipant = 4
cause_number OutsidePage = 5
cause_number AmountBeyondLimit = 6
cause_number DemandOutside = 7
cause_number NotOpen = 8
cause_number DayNotAllotted = 9
cause_number ShareBeyondLimit = 10
cause_number NoWeight = 11
cause_number NoFreeLine = 12
cause_number TooFewPlaces = 13

-- and each layer
abbrev pub layer_number : Layer → ℕ
layer_number Month = 1
layer_number Adjustments = 2
layer_number Book = 3
layer_number Rule = 4
