-- Faults of books and of the layer of adjustments: what each tells.
use Rattle.faults.specs.Faults.{refusal}
use Rattle.faults.specs.declared.cause.Cause.TheVariants as cause
use Rattle.faults.specs.declared.layer.Layer.{Layer}
use Rattle.faults.specs.declared.layer.Layer.TheVariants.{Adjustments, Book}
use Rattle.faults.specs.declared.refusal.Refusal.{Refusal}
use Rattle.ledger.specs.declared.adjust_fault.AdjustFault.{AdjustFault}
use Rattle.ledger.specs.declared.adjust_fault.AdjustFault.TheVariants.{Line, Carried}
use Rattle.ledger.specs.declared.book_fault.BookFault.{BookFault}
use Rattle.ledger.specs.declared.line_fault.LineFault.{LineFault}
use Rattle.ledger.specs.declared.line_fault.LineFault.TheVariants.{UnknownParticipant, AmountBeyondLimit, NoFreeLine}

-- why a line is turned down, told by the layer that it was to stand in
abbrev pub line_told : Layer → LineFault → Refusal
line_told layer (UnknownParticipant k) = refusal cause.UnknownParticipant layer k
line_told layer (AmountBeyondLimit k) = refusal cause.AmountBeyondLimit layer k
line_told layer (NoFreeLine k) = refusal cause.NoFreeLine layer k

-- a book's faults
abbrev pub book_told : BookFault → Refusal
book_told f = line_told Book f.0

-- the adjustments' faults: a fault from below tells what it told there
abbrev pub adjust_told : {F : Type 0} → (F → Refusal) → AdjustFault F → Refusal
adjust_told told (Line f) = line_told Adjustments f
adjust_told told (Carried fault) = told fault
