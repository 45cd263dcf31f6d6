use Rattle.std.proofs.Common.{sym, ap, ◌∙◌}
use Rattle.script.proofs.Weights.{all_signed_word}
use Rattle.script.specs.Readings.{given, all_signed}
use Rattle.text.specs.Taking.{to_come}
use Rattle.text.specs.Words.{after_word}
use Rattle.script.proofs.arguments.Arguments.all_signed.Goals as goal

pub loop-word-preserved : goal.loop-word-preserved
loop-word-preserved c =
    let t = to_come c.loop-word.word-iterator in
    let e = c.in-Some.ensures.steps in
    let read = c.in_ok-expect.ensures ∙ c.read_signed.ensures in
    let here = all_signed_word t c.in-Some.word.now e.word ∙ ap (λ o. given o (λ _. all_signed (after_word t))) (sym read) in
    ap all_signed e.rest ∙ (sym here ∙ c.loop-word.invariant)
