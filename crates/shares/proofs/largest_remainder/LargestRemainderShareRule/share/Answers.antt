use Rattle.std.proofs.Common.{◌-◌, length, ◌∙◌, arith}
use Rattle.std.proofs.lemmas.List.{length-take-le}
use Rattle.shares.specs.LargestRemainder.{remainder_size, largest_remainder}
use Rattle.shares.proofs.Filling.{Admitted, admitted, answered_all, shared_from}
use Rattle.shares.proofs.largest_remainder.LargestRemainderShareRule.share.Goals as goal
use Rattle.shares.proofs.largest_remainder.LargestRemainderShareRule.share.Goals.{In_ok-division}

known : (c : In_ok-division) → Admitted c.args.amount c.args.weights.now (length c.args.shares.now) c.in_ok-division.division
known c = admitted _ _ _ _ c.ranges.amount c.in_ok-division.ensures

pub share_out-requires : goal.share_out-requires
share_out-requires c =
    let m = known (goal.at.share_out-requires c).In_ok-division in
    record {
      divides = m.divides;
      places = length-take-le (length c.args.weights.now - 0) c.args.shares.now (omega (arith, m.room)) ∙ omega arith;
    }

pub returns : goal.returns
unfolding largest_remainder
returns c =
    let m = known (goal.at.returns c).In_ok-division in
    record {
      answer = answered_all _ _ _ _ m;
      places = shared_from remainder_size _ _ _ _ _ (length c.args.weights.now - 0) m (omega arith) c.share_out.ensures;
    }
