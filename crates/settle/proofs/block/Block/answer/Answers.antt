use Rattle.std.proofs.lemmas.Fmt.{contents_after_writes}
use Rattle.settle.specs.Answers.{answer_text}
use Rattle.settle.proofs.block.Block.answer.Goals as goal

-- each piece that the answer writes is put after what there is
pub returns-in-Ok : goal.returns-in-Ok
returns-in-Ok c =
    contents_after_writes _ (λ block. block.bytes.items) (λ before text after wrote. wrote)
    c.args.self.now (answer_text c.args.answer.now) c.write.new.self c.in-Ok.ensures.writes
