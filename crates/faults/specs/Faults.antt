-- Faults: what each tells, and which of several causes is given.
use Rattle.std.specs.Prelude.{Bool, cond, List, [], ◌∷◌, Some, None, Ok, Err, Option, Result}
use Rattle.faults.specs.declared.cause.Cause.{Cause}
use Rattle.faults.specs.declared.key.Key.{Key}
use Rattle.faults.specs.declared.layer.Layer.{Layer}
use Rattle.faults.specs.declared.refusal.Refusal.{Refusal}

abbrev pub refusal : Cause → Layer → Key → Refusal
refusal c l k = record { cause = c; layer = l; place = k }

-- what an answer tells: nothing where the call is granted
abbrev pub answered : {X F : Type 0} → (F → Refusal) → Result X F → Option Refusal
answered told (Ok x) = None
answered told (Err e) = Some (told e)

-- an answer in which only what a fault tells is left of it
abbrev pub as_told : {X F : Type 0} → (F → Refusal) → Result X F → Result X Refusal
as_told told (Ok x) = Ok x
as_told told (Err e) = Err (told e)

-- a value, unless there is a refusal
abbrev pub unless : {X : Type 0} → Option Refusal → X → Result X Refusal
unless None x = Ok x
unless (Some r) x = Err r

-- the first cause that is met, of causes in the order of their numbers
abbrev pub first_met : Layer → Key → List (Bool × Cause) → Option Refusal
first_met layer place [] = None
first_met layer place (c ∷ cs) = cond c.0 (Some (refusal c.1 layer place)) (first_met layer place cs)
