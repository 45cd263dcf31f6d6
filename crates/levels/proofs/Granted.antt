-- A question is granted exactly where none of its causes to refuse is met.
use Rattle.std.proofs.Common.{◌≡◌, ℕ, Bool, true, false, not, [], ◌∷◌, Some, None, Option, refl, arith}
use Rattle.faults.specs.Faults.{first_met}
use Rattle.faults.specs.declared.cause.Cause.TheVariants.{NotInTable, UnknownParticipant, OutsidePage}
use Rattle.faults.specs.declared.key.Key.{Key}
use Rattle.faults.specs.declared.layer.Layer.TheVariants.{Month}
use Rattle.faults.specs.declared.refusal.Refusal.{Refusal}

-- the three causes of a question; where it has fewer, the others are never met
abbrev causes_met : Key → Bool → Bool → Bool → Option Refusal
causes_met place a b c = first_met Month place ((not a, NotInTable) ∷ (not b, UnknownParticipant) ∷ (not c, OutsidePage) ∷ [])

never : (r : Refusal) → Some r ≡ None → ⊥
never r e = let z : ◌≡◌ {A = ℕ} 0 1 = cc in omega arith

module _ (place : Key) where
  pub granted_had : (a b c : Bool) → causes_met place a b c ≡ None → (a ≡ true) × (b ≡ true) × (c ≡ true)
  granted_had true true true e = (refl, refl, refl)
  granted_had true true false e = absurd (never _ e)
  granted_had true false c e = absurd (never _ e)
  granted_had false b c e = absurd (never _ e)

  pub granted_from : {a b c : Bool} → a ≡ true → b ≡ true → c ≡ true → causes_met place a b c ≡ None
  granted_from p q r = rw (p, q, r) refl
