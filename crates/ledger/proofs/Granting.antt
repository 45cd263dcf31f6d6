-- Granting: a line is granted exactly where its participant is known, its amount is allowed and there is room.
use Rattle.std.proofs.Common.{◌≡◌, ℕ, Bool, true, false, cond, not, Some, None, refl, arith}
use Rattle.ledger.specs.Amounts.{Kind}
use Rattle.ledger.specs.Books.{line_refusals}
use Rattle.faults.specs.Faults.{first_met}
use Rattle.faults.specs.Keys.{known}
use Rattle.faults.specs.declared.key.Key.{Key}
use Rattle.faults.specs.declared.layer.Layer.{Layer}

pub record Granted {X : Type 0} (kind : Kind X) (k : Key) (x : X) (full : Bool) : Type 0 where
  pub participant : known k.participant ≡ true
  pub amount : kind.allowed x ≡ true
  pub room : full ≡ false

never : {R : Type 0} (r : R) → None ≡ Some r → ⊥
never r e = let z : ◌≡◌ {A = ℕ} 0 1 = cc in omega arith

none_met : {R : Type 0} (a b c : Bool) (r s t : R) → None ≡ cond (not a) (Some r) (cond (not b) (Some s) (cond c (Some t) None)) → (a ≡ true) × (b ≡ true) × (c ≡ false)
none_met true true false r s t e = (refl, refl, refl)
none_met true true true r s t e = absurd (never t e)
none_met true false c r s t e = absurd (never s e)
none_met false b c r s t e = absurd (never r e)

module _ {X : Type 0} (kind : Kind X) (layer : Layer) (k : Key) (x : X) (full : Bool) where
  pub granted_had : None ≡ first_met layer k (line_refusals kind k x full) → Granted kind k x full
  granted_had e =
      let p = none_met (known k.participant) (kind.allowed x) full _ _ _ e in
      record { participant = p.0; amount = p.1; room = p.2 }

  pub granted_from : Granted kind k x full → None ≡ first_met layer k (line_refusals kind k x full)
  granted_from g = rw (g.participant, g.amount, g.room) refl
