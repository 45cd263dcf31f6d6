use Rattle.std.proofs.Common.{◌≡◌, [], ◌∷◌, ℤ, pos, negsuc, nat_abs, ◌≤ℤ◌, ◌<ℤ◌, vec_items, decimal, refl, append_assoc, arith, w64, SFits, rules}
use Rattle.std.proofs.lemmas.Int.{ints, to_z-of_z}
use Rattle.std.specs.Fmt.{signed_decimal}
use Rattle.std.proofs.lemmas.Result.{IfOk-weaker}
use Rattle.text.proofs.number.push_signed.Goals as goal
use Rattle.text.proofs.number.push_signed.Goals.{then-number-lt0+in_ok-push_minus, else-number-lt0}

-- a negative number is written as a `-` and its size
signed_below : (z : ℤ) → z <ℤ pos 0 → signed_decimal z ≡ 45 ∷ decimal (nat_abs z)
signed_below (pos n) h = absurd (omega (arith, ints))
signed_below (negsuc n) h = refl

signed_above : (z : ℤ) → pos 0 ≤ℤ z → signed_decimal z ≡ decimal (nat_abs z)
signed_above (pos n) h = refl
signed_above (negsuc n) h = absurd (omega (arith, ints))

pub returns : goal.returns
returns c =
    let z = c.args.number in
    let old = vec_items c.args.out.now in
    let f : SFits w64 z = search rules in
    let size : c.unsigned_abs.result ≡ nat_abs z = simp to_z-of_z at c.unsigned_abs.ensures.value in
    IfOk-weaker c.push_unsigned.result _ _
    (λ _ digits. elim c.if-number-lt0.branch [
      | then-number-lt0+in_ok-push_minus w ↦
          (let minus = w.in_ok-push_minus.ensures in
          let shown = signed_below z (omega (arith, ints)) in
          cc (append_assoc old (45 ∷ []) (decimal (nat_abs z))))
      | else-number-lt0 w ↦ (let shown = signed_above z (omega (arith, ints)) in cc)
    ])
    c.push_unsigned.ensures
