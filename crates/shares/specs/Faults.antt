-- When a share rule refuses, what it answers, and what it leaves in the places for shares.
use Rattle.std.specs.Prelude.{ℕ, Bool, cond, not, ◌&&◌, List, [], ◌∷◌, ◌++◌, length, drop, ℤ, Some, None, Ok, Err, Option, Result, ◌==◌, nat_lt, unsigned_abs}
use Rattle.faults.specs.Faults.{refusal as refusal_of}
use Rattle.faults.specs.Keys.{nowhere}
use Rattle.faults.specs.declared.cause.Cause.{Cause}
use Rattle.faults.specs.declared.cause.Cause.TheVariants as cause
use Rattle.faults.specs.declared.layer.Layer.TheVariants.{Rule}
use Rattle.faults.specs.declared.refusal.Refusal.{Refusal}
use Rattle.shares.specs.declared.fault.RuleFault.{RuleFault}
use Rattle.shares.specs.declared.fault.RuleFault.TheVariants.{Weights, Amount, NoWeight, Places}
use Rattle.shares.specs.Weights.{Split, amount_limit, total, weights_outside}

-- a refusal by the layer of rules, at a place of zeros
abbrev pub by_rule : Cause → Refusal
by_rule c = refusal_of c Rule nowhere

-- what each fault tells
abbrev pub rule_told : RuleFault → Refusal
rule_told Weights = by_rule cause.DemandOutside
rule_told Amount = by_rule cause.ShareBeyondLimit
rule_told NoWeight = by_rule cause.NoWeight
rule_told Places = by_rule cause.TooFewPlaces

-- an integer is 0
abbrev pub is_zero : ℤ → Bool
is_zero z = unsigned_abs z == 0

-- what an amount, weights and a number of places can be refused for, first to last
abbrev pub refusals : ℤ → List ℤ → ℕ → List (Bool × RuleFault)
refusals a w n =
    (weights_outside w, Weights)
    ∷ (nat_lt amount_limit (unsigned_abs a), Amount)
    ∷ (is_zero (total w) && not (is_zero a), NoWeight)
    ∷ (nat_lt n (length w), Places)
    ∷ []

-- the first cause that is met
abbrev pub first_met : List (Bool × RuleFault) → Option RuleFault
first_met [] = None
first_met (c ∷ cs) = cond c.0 (Some c.1) (first_met cs)

-- why a rule refuses to share a by w into n places, if it does
abbrev pub refusal : ℤ → List ℤ → ℕ → Option RuleFault
refusal a w n = first_met (refusals a w n)

-- why the weights alone are refused, if they are
abbrev pub weights_refusal : List ℤ → Option RuleFault
weights_refusal w = cond (weights_outside w) (Some Weights) None

-- a refusal is answered by its fault; without one the answer is x
abbrev pub answered : {X : Type 0} → Option RuleFault → X → Result X RuleFault
answered (Some f) x = Err f
answered None x = Ok x

-- a refusal leaves all places; without one the shares come first, and later places stay
abbrev pub filled : Option RuleFault → List ℤ → List ℤ → List ℤ
filled (Some f) shares places = places
filled None shares places = shares ++ drop (length shares) places

-- what a rule answers that is to share a by w into these places
abbrev pub share_answer : ℤ → List ℤ → List ℤ → Result (Unit {0}) RuleFault
share_answer a w places = answered (refusal a w (length places)) tt

-- what these places hold afterwards
abbrev pub shared : Split → ℤ → List ℤ → List ℤ → List ℤ
shared split a w places = filled (refusal a w (length places)) (split a w) places
