use Rattle.std.proofs.Common.{◌≡◌, ◌+◌, refl, sym, ap, ◌∙◌, arith}
use Rattle.ledger.specs.Kinds.{balance}
use Rattle.ledger.specs.Layers.{layer, layer_limited}
use Rattle.ledger.specs.Totals.{count_up, members, span, sum}
use Rattle.levels.specs.Questions.{trial_balance}
use Rattle.levels.specs.Terms.{terms_of}
use Rattle.levels.proofs.Balancing.{balance_more, sided}
use Rattle.levels.proofs.statement.Statement.trial_balance.Goals as goal

pub loop-participant-init : goal.loop-participant-init
unfolding sum members count_up
loop-participant-init g c = (0, refl, c.nought-balance.ensures, omega (arith, ap balance.size c.nought-balance.ensures))

pub loop-participant-preserved : goal.loop-participant-preserved
loop-participant-preserved g c =
    let s = c.args.self.now in
    let t = terms_of s.opening in
    let v = layer g.B.Book s.money.now in
    let inv = c.loop-participant.invariant in
    let next = inv.1 in
    let more =
    balance_more t v c.lines.ensures.bound (omega (arith, layer_limited g.B.Book s.money.now))
    inv.0 c.loop-participant.balance c.month_side.result c.join-balance.result (omega arith) inv.2 inv.3 (c.month_side.ensures ∙ ap (sided t v) (sym next)) c.join-balance.ensures in
    (inv.0 + 1, ap (λ n. n + 1) next, more.0, more.1)

pub returns-2 : goal.returns-2
unfolding trial_balance
returns-2 g c =
    let s = c.args.self.now in
    let t = terms_of s.opening in
    let v = layer g.B.Book s.money.now in
    let inv = c.loop-participant.invariant in
    let next = inv.1 in
    let more =
    balance_more t v c.lines.ensures.bound (omega (arith, layer_limited g.B.Book s.money.now))
    inv.0 c.loop-participant.balance c.month_side.result c.join-balance.result (omega arith) inv.2 inv.3 (c.month_side.ensures ∙ ap (sided t v) (sym next)) c.join-balance.ensures in
    let all : inv.0 + 1 ≡ s.opening.participants = omega arith in
    more.0 ∙ ap (λ n. sum balance (sided t v) (members (span 1 n))) all
