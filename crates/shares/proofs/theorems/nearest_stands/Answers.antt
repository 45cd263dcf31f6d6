use Rattle.shares.specs.NearestLaws.{rounds_to_nearest}
use Rattle.shares.proofs.theorems.nearest_stands.Goals as goal

pub returns : goal.returns
returns c = rounds_to_nearest
