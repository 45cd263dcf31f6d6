use Rattle.std.proofs.Common.{take}
use Rattle.std.specs.Fmt.{HasWritten, IsPlainFormatter}
use Rattle.std.specs.List.{flat_map}
use Rattle.settle.specs.Answers.{share_text}
use Rattle.settle.proofs.answer.show_shares.Given as goal

-- what the shares so far have written
abbrev pub invariant-loop-share : goal.invariant-loop-share
invariant-loop-share g l =
    IsPlainFormatter l.initial.f → HasWritten g.W.Write.write_str_gives l.initial.f (flat_map share_text (take l.share-index l.shares)) l.f
