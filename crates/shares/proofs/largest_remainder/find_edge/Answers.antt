use Rattle.std.proofs.Common.{nat_abs, arith}
use Rattle.std.proofs.lemmas.List.{length-map}
use Rattle.shares.specs.Workings.{held}
use Rattle.shares.specs.Ranks.{all_from_zero}
use Rattle.shares.proofs.largest_remainder.find_edge.Goals as goal

pub loop-low-init : goal.loop-low-init
loop-low-init c =
    let xs = c.args.remainders.now in
    (omega arith, omega arith, omega (arith, c.requires.none), omega (arith, all_from_zero (held xs), length-map xs nat_abs))
