-- What admitting an amount and weights answers, and what the rules' inner functions promise one another.
-- No rule stands here.
use Rattle.std.specs.Prelude.{◌≡◌, ℕ, ◌+◌, ◌-◌, ◌*◌, ◌/◌, ◌≤◌, min, cond, ◌||◌, List, map, ℤ, pos, Some, None, Ok, Err, count_by, Option, Result, ◌==◌, int_lt, nat_le, nat_lt, unsigned_abs}
use Rattle.shares.specs.declared.division.Division.{Division}
use Rattle.shares.specs.declared.fault.RuleFault.{RuleFault}
use Rattle.shares.specs.declared.fault.RuleFault.TheVariants.{Weights}
use Rattle.shares.specs.declared.running_carry.Carry.{Carry}
use Rattle.shares.specs.Faults.{refusal}
use Rattle.shares.specs.LargestRemainder.{above}
use Rattle.shares.specs.Sizes.{whole}
use Rattle.shares.specs.Weights.{weight_limit, NoneBelowZero}

-- why a weight x is refused after others of the total t, if it is
abbrev pub weight_refusal : ℕ → ℤ → Option RuleFault
weight_refusal t x = cond (int_lt x (pos 0) || nat_lt weight_limit (t + unsigned_abs x)) (Some Weights) None

-- sharing a by w into n places is admitted as the division of a by the total of w, unless it is refused
abbrev pub Admission : ℤ → List ℤ → ℕ → Result Division RuleFault → Type 0
Admission a w n (Ok d) = (refusal a w n ≡ None) × (d.amount ≡ a) × (d.total ≡ whole w)
Admission a w n (Err f) = refusal a w n ≡ Some f

-- a division by the weights w that a rule may work on
pub record Divides (d : Division) (w : List ℤ) : Type 0 where
  pub none_below_zero : NoneBelowZero w
  pub by_total : d.total ≡ whole w
  pub some_weight : whole w ≡ 0 → unsigned_abs d.amount ≡ 0

-- what is carried on once a division has taken in a further part x
abbrev pub carried : Division → Carry → ℕ → Carry
carried d c x = record { weighed = c.weighed + x; running = unsigned_abs d.amount * (c.weighed + x) / d.total }

-- an edge between the m largest remainders and the others: no more than m are above it, and m or more from it on
pub record Edge (rs : List ℕ) (m edge : ℕ) : Type 0 where
  pub few_above : above edge rs ≤ m
  pub enough_from : m ≤ count_by (λ x. nat_le edge x) rs

-- the cent of a remainder r while there are ties left for those at the edge
abbrev pub dealt : ℕ → ℕ → ℕ → ℕ
dealt edge ties r = cond (r == edge) (min ties 1) (cond (nat_lt edge r) 1 0)

-- the ties that are left then
abbrev pub ties_left : ℕ → ℕ → ℕ → ℕ
ties_left edge ties r = cond (r == edge) (ties - 1) ties

-- the remainders that places hold
abbrev pub held : List ℤ → List ℕ
held places = map unsigned_abs places
