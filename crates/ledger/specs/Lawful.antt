-- The three kinds keep the laws of amounts. Ghost members cite these proofs, so they stand with the definitions.
use Rattle.std.specs.Prelude.{◌≡◌, ℕ, ◌+◌, ◌*◌, ◌^◌, ◌<◌, ◌≤◌, true, ℤ, pos, negsuc, ◌+ℤ◌, unsigned_abs, refl}
use Rattle.std.proofs.Common.{sym, ap, ◌∙◌, arith, lit<}
use Rattle.std.proofs.Math.IntN.{+ℤ_idl, +ℤ_comm, +ℤ_assoc}
use Rattle.std.proofs.lemmas.Int.{ints}
use Rattle.std.proofs.lemmas.Bool.{leb-true, and_parts, false≢true}
use Rattle.ledger.specs.Amounts.{Laws, most_lines}
use Rattle.ledger.specs.Kinds.{whole, cents_of, cents, kwh_of, kwh, side, sides, balance}

natAbs_sum : (x y : ℤ) → unsigned_abs (x +ℤ y) ≤ unsigned_abs x + unsigned_abs y
natAbs_sum x y = omega (arith, ints)

natAbs_nought : (z : ℤ) → unsigned_abs z ≡ 0 → z ≡ pos 0
natAbs_nought z e = omega (arith, ints)

-- what a wrapper of one number keeps, where nothing is lost on the way in or out
module _ {X : Type 0} (of : ℤ → X) (number : X → ℤ) (most : ℕ) where
  whole_laws : ((z : ℤ) → number (of z) ≡ z) → ((x : X) → of (number x) ≡ x) → most * most_lines < 2 ^ 62 → Laws (whole of number most)
  whole_laws out in' small = record {
    left = λ x. ap (λ z. of (z +ℤ number x)) (out (pos 0)) ∙ ap of (+ℤ_idl (number x)) ∙ in' x;
    swap = λ x y. ap of (+ℤ_comm (number x) (number y));
    assoc = λ x y z.
        ap (λ w. of (w +ℤ number z)) (out (number x +ℤ number y))
        ∙ ap of (+ℤ_assoc (number x) (number y) (number z))
        ∙ ap (λ w. of (number x +ℤ w)) (sym (out (number y +ℤ number z)));
    empty = ap unsigned_abs (out (pos 0));
    nothing = λ x e. sym (in' x) ∙ ap of (natAbs_nought (number x) e);
    sizes = λ x y. omega (arith, ap unsigned_abs (out (number x +ℤ number y)), natAbs_sum (number x) (number y));
    line_size = λ x e. leb-true (unsigned_abs (number x)) most e;
    room = small;
  }

pub cents_laws : Laws cents
cents_laws = whole_laws cents_of (λ x. x.0) 10_000_000_000 (λ z. refl) (λ x. refl) (lit< tt)

pub kwh_laws : Laws kwh
kwh_laws = whole_laws kwh_of (λ x. x.0) 100_000_000 (λ z. refl) (λ x. refl) (lit< tt)

sides_same : {a b c d : ℤ} → a ≡ b → c ≡ d → sides a c ≡ sides b d
sides_same p q = cc

side_size : (z : ℤ) → side z ≡ true → unsigned_abs z ≤ 10_000_000_000
side_size (pos n) e = leb-true n 10_000_000_000 e
side_size (negsuc n) e = absurd (false≢true e)

pub balance_laws : Laws balance
balance_laws = record {
  left = λ x. sides_same (+ℤ_idl x.debtors) (+ℤ_idl x.creditors);
  swap = λ x y. sides_same (+ℤ_comm x.debtors y.debtors) (+ℤ_comm x.creditors y.creditors);
  assoc = λ x y z. sides_same (+ℤ_assoc x.debtors y.debtors z.debtors) (+ℤ_assoc x.creditors y.creditors z.creditors);
  empty = refl;
  nothing = λ x e. sides_same (natAbs_nought x.debtors (omega arith)) (natAbs_nought x.creditors (omega arith));
  sizes = λ x y. omega (arith, natAbs_sum x.debtors y.debtors, natAbs_sum x.creditors y.creditors);
  line_size = λ x e.
      let p = and_parts (side x.debtors) (side x.creditors) e in
      omega (arith, side_size x.debtors p.0, side_size x.creditors p.1);
  room = lit< tt;
}
