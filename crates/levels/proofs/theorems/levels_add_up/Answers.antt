-- The theorem itself,
-- which is put together among the lemmas.
use Rattle.levels.proofs.AddingUp.{totals_add_up}
use Rattle.levels.proofs.Listing.{list_every}
use Rattle.levels.proofs.theorems.levels_add_up.Goals as goal

pub returns : goal.returns
returns c = λ t level. record { listed = list_every t level; adds_up = totals_add_up t level }
