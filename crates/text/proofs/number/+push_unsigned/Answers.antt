use Rattle.std.proofs.Common.{◌≡◌, ◌+◌, ◌/◌, ◌%◌, ◌<◌, [], ◌∷◌, vec_items, decimal, append_assoc, mod-eq_of_lt, arith}
use Rattle.std.proofs.lemmas.Fmt.{decimal_digit, decimal_step}
use Rattle.text.proofs.number.+push_unsigned.Goals as goal
use Rattle.text.proofs.number.+push_unsigned.Goals.{then-number-ge10+in_ok-push_unsigned, else-number-ge10}

pub returns : goal.returns
returns t c =
    let n = c.args.number in
    let old = vec_items c.args.out.now in
    let items = c.in_ok-push.ensures.items in
    elim c.if-number-ge10.branch [
      | then-number-ge10+in_ok-push_unsigned w ↦
          (let step = decimal_step n w.if-number-ge10.true (omega arith) in
          let front = w.in_ok-push_unsigned.ensures in
          cc (append_assoc old (decimal (n / 10)) ((48 + n % 10) ∷ [])))
      | else-number-ge10 w ↦
          (let small : n < 10 = omega arith in
          let one = decimal_digit n small in
          let digit : n % 10 ≡ n = mod-eq_of_lt small in
          cc)
    ]
