-- The three kinds of amount: net cents, kWh, and the two sides of a balance.
use Rattle.std.specs.Prelude.{ℕ, max, Bool, false, ◌&&◌, ℤ, pos, negsuc, ◌+ℤ◌, nat_le, unsigned_abs}
use Rattle.ledger.specs.Amounts.{Kind}
use Rattle.ledger.specs.declared.balance.Balance.{Balance}
use Rattle.ledger.specs.declared.cents.Cents.{Cents}
use Rattle.ledger.specs.declared.kwh.Kwh.{Kwh}

-- a kind that is one whole number, joined by adding; a line holds at most so much, of either sign
abbrev pub whole : {X : Type 0} → (ℤ → X) → (X → ℤ) → ℕ → Kind X
whole of number most = record {
  nought = of (pos 0);
  joined = λ x y. of (number x +ℤ number y);
  size = λ x. unsigned_abs (number x);
  largest = most;
  allowed = λ x. nat_le (unsigned_abs (number x)) most;
}

abbrev pub cents_of : ℤ → Cents
cents_of z = record { 0 = z }

-- net cents, charged or paid
abbrev pub cents : Kind Cents
cents = whole cents_of (λ x. x.0) 10_000_000_000

abbrev pub kwh_of : ℤ → Kwh
kwh_of z = record { 0 = z }

-- readings and corrections in kWh
abbrev pub kwh : Kind Kwh
kwh = whole kwh_of (λ x. x.0) 100_000_000

-- one side of a line: not below 0, and no larger than a line of cents
abbrev pub side : ℤ → Bool
side (pos n) = nat_le n 10_000_000_000
side (negsuc n) = false

abbrev pub sides : ℤ → ℤ → Balance
sides due_from due_to = record { debtors = due_from; creditors = due_to }

-- a balance: its sides joined each to its own, as large as its larger side
abbrev pub balance : Kind Balance
balance = record {
  nought = sides (pos 0) (pos 0);
  joined = λ x y. sides (x.debtors +ℤ y.debtors) (x.creditors +ℤ y.creditors);
  size = λ x. max (unsigned_abs x.debtors) (unsigned_abs x.creditors);
  largest = 10_000_000_000;
  allowed = λ x. side x.debtors && side x.creditors;
}
