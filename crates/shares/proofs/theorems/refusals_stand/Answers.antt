use Rattle.shares.proofs.Verdicts.{refuses_rightly}
use Rattle.shares.proofs.theorems.refusals_stand.Goals as goal

pub returns : goal.returns
returns c = refuses_rightly
