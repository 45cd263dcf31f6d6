-- The rule running carry: what is lost by rounding down is carried to the next.
use Rattle.std.specs.Prelude.{ℕ, ◌+◌, ◌-◌, ◌*◌, ◌/◌, List, take, ℤ}
use Rattle.shares.specs.Weights.{Split}
use Rattle.shares.specs.Sizes.{Sizing, whole, shares_by}

-- the running total before place i: the part of the weights there together, rounded down
abbrev pub running : ℕ → List ℤ → ℕ → ℕ
running a w i = a * whole (take i w) / whole w

-- the running total less the one before
abbrev pub carry_size : Sizing
carry_size a w i = running a w (i + 1) - running a w i

unfoldable pub running_carry : Split
running_carry = shares_by carry_size
