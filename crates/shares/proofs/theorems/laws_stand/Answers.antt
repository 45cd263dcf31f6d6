use Rattle.shares.proofs.SharedOut.{fills_lawfully}
use Rattle.shares.proofs.theorems.laws_stand.Goals as goal

pub returns : goal.returns
returns c = fills_lawfully
