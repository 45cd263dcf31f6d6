-- Adjusting: what one adjustment more changes in a layer.
use Rattle.std.proofs.Common.{◌≡◌, ℕ, Bool, true, false, ◌||◌, List, [], ◌∷◌, ◌++◌, None, refl, ap, ◌∙◌}
use Rattle.faults.specs.declared.layer.Layer.TheVariants as tier
use Rattle.ledger.specs.Books.{posted}
use Rattle.faults.specs.Keys.{same}
use Rattle.ledger.specs.Kinds.{cents}
use Rattle.ledger.specs.Lawful.{cents_laws}
use Rattle.ledger.specs.Layers.{Layer, own, adjusted_line, adjusted_at, full, adjust_refusal, Adjusted}
use Rattle.ledger.specs.declared.adjustment.Adjustment.{Adjustment}
use Rattle.ledger.specs.declared.cents.Cents.{Cents}
use Rattle.faults.specs.declared.key.Key.{Key}
use Rattle.ledger.proofs.Appending.{amount_pushed}
use Rattle.ledger.proofs.Granting.{granted_had}

-- it adds to the layer's own amounts
pub own_adjusted : (before after : Layer) (k : Key) (x : Cents) (number : ℕ) → None ≡ adjust_refusal before k x → Adjusted before k x number after → (q : Key) → own after q ≡ posted cents (own before) k x q
own_adjusted before after k x number granted a q =
    let allowed = (granted_had cents tier.Adjustments k x (full before) granted).amount in
    ap (λ v. own v q) a.holds
    ∙ amount_pushed cents_laws adjusted_line before.held (record { key = k; amount = x; id = number }) allowed q

or_later : (a b c : Bool) → (a || (b || c)) ≡ ((a || b) || c)
or_later true b c = refl
or_later false b c = refl

or_nothing : (a : Bool) → (a || false) ≡ a
or_nothing true = refl
or_nothing false = refl

-- it marks its key
pub marked_pushed : (held : List Adjustment) (a : Adjustment) (q : Key) → adjusted_at (held ++ (a ∷ [])) q ≡ (adjusted_at held q || same a.key q)
marked_pushed [] a q = or_nothing (same a.key q)
marked_pushed (b ∷ held) a q = ap (λ t. same b.key q || t) (marked_pushed held a q) ∙ or_later (same b.key q) (adjusted_at held q) (same a.key q)
