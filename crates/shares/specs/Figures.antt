-- Worked figures of the three rules.
use Rattle.std.specs.Prelude.{◌≡◌, ℕ, List, [], ◌∷◌, length, ℤ, pos, negsuc, Some, None, Option}
use Rattle.faults.specs.Causes.{cause_number}
use Rattle.shares.specs.declared.fault.RuleFault.{RuleFault}
use Rattle.shares.specs.Faults.{rule_told, refusal}
use Rattle.shares.specs.Nearest.{nearest}
use Rattle.shares.specs.LargestRemainder.{largest_remainder}
use Rattle.shares.specs.RunningCarry.{running_carry}

-- the number of a refusal
abbrev pub numbered : Option RuleFault → Option ℕ
numbered (Some f) = Some (cause_number (rule_told f).cause)
numbered None = None

-- the number that sharing a by w is refused with, given places enough
abbrev pub refused : ℤ → List ℤ → Option ℕ
refused a w = numbered (refusal a w (length w))

-- four participants' demand in an interval
abbrev pub demands : List ℤ
demands = pos 265 ∷ pos 360 ∷ pos 385 ∷ pos 480 ∷ []

abbrev pub two_alike : List ℤ
two_alike = pos 1 ∷ pos 1 ∷ []

abbrev pub three_alike : List ℤ
three_alike = pos 1 ∷ pos 1 ∷ pos 1 ∷ []

abbrev pub no_demand : List ℤ
no_demand = pos 0 ∷ pos 0 ∷ []

abbrev pub alone : List ℤ
alone = pos 1 ∷ []

pub record Figures : Type 0 where
  -- 800,000 over four demands
  pub demands_nearest : nearest (pos 800000) demands
      ≡ pos 142282 ∷ pos 193289 ∷ pos 206711 ∷ pos 257718 ∷ []
  pub demands_largest_remainder : largest_remainder (pos 800000) demands
      ≡ pos 142282 ∷ pos 193289 ∷ pos 206711 ∷ pos 257718 ∷ []
  pub demands_running_carry : running_carry (pos 800000) demands
      ≡ pos 142281 ∷ pos 193289 ∷ pos 206711 ∷ pos 257719 ∷ []
  -- one cent over two alike: a half goes up, to the lower participant, and on to the next
  pub cent_nearest : nearest (pos 1) two_alike ≡ pos 1 ∷ pos 1 ∷ []
  pub cent_largest_remainder : largest_remainder (pos 1) two_alike ≡ pos 1 ∷ pos 0 ∷ []
  pub cent_running_carry : running_carry (pos 1) two_alike ≡ pos 0 ∷ pos 1 ∷ []
  -- one cent paid: the sign is put back after
  pub paid_nearest : nearest (negsuc 0) two_alike ≡ negsuc 0 ∷ negsuc 0 ∷ []
  pub paid_largest_remainder : largest_remainder (negsuc 0) two_alike ≡ negsuc 0 ∷ pos 0 ∷ []
  pub paid_running_carry : running_carry (negsuc 0) two_alike ≡ pos 0 ∷ negsuc 0 ∷ []
  -- a dollar over three alike: a cent lost, to the lowest, and to the last
  pub dollar_nearest : nearest (pos 100) three_alike ≡ pos 33 ∷ pos 33 ∷ pos 33 ∷ []
  pub dollar_largest_remainder : largest_remainder (pos 100) three_alike ≡ pos 34 ∷ pos 33 ∷ pos 33 ∷ []
  pub dollar_running_carry : running_carry (pos 100) three_alike ≡ pos 33 ∷ pos 33 ∷ pos 34 ∷ []
  -- nothing over no demand is shared, and a cent there is refused
  pub nothing_granted : refused (pos 0) no_demand ≡ None
  pub nothing_nearest : nearest (pos 0) no_demand ≡ no_demand
  pub nothing_largest_remainder : largest_remainder (pos 0) no_demand ≡ no_demand
  pub nothing_running_carry : running_carry (pos 0) no_demand ≡ no_demand
  pub something_refused : refused (pos 1) no_demand ≡ Some 11
  -- the largest amount is shared, and a cent more is refused
  pub most_granted : refused (pos 100000000) alone ≡ None
  pub most_nearest : nearest (pos 100000000) alone ≡ pos 100000000 ∷ []
  pub most_largest_remainder : largest_remainder (pos 100000000) alone ≡ pos 100000000 ∷ []
  pub most_running_carry : running_carry (pos 100000000) alone ≡ pos 100000000 ∷ []
  pub more_refused : refused (pos 100000001) alone ≡ Some 10
  -- the largest total is taken, one more is refused, and so is a weight below 0, even for too large an amount
  pub heaviest_granted : refused (pos 1) (pos 39999999999 ∷ pos 1 ∷ []) ≡ None
  pub heavier_refused : refused (pos 1) (pos 40000000000 ∷ pos 1 ∷ []) ≡ Some 7
  pub negative_refused : refused (pos 100000001) (pos 2 ∷ negsuc 0 ∷ []) ≡ Some 7
