-- No month is longer than 31 days: the table of lengths is looked through once.
-- Assumes nothing.
use Rattle.std.proofs.Common.{◌≡◌, ℕ, ◌-◌, ◌<◌, ◌≤◌, true, cond, ◌&&◌, eqb, leb, get_or, refl, arith, lit≤}
use Rattle.std.proofs.ByRecursion.{All-get_or}
use Rattle.std.proofs.lemmas.Bool.{and_parts, cond_both, leb-true}
use Rattle.std.specs.List.{AllByRecursion}
use Rattle.tariff.proofs.Tested.{at_each}
use Rattle.tariff.specs.Calendar.{is_leap, lengths, month_length}
use Rattle.tariff.specs.Ranges.{within}

abbrev Short : ℕ → Type 0
Short days = days ≤ 31

each_short : AllByRecursion (λ d. leb d 31 ≡ true) lengths
each_short = at_each (λ d. leb d 31) (λ _. true) lengths refl

in_table : (k : ℕ) → k < 12 → Short (get_or lengths k 0)
in_table k lt = leb-true (get_or lengths k 0) 31 (All-get_or (λ d. leb d 31 ≡ true) lengths k 0 lt each_short)

by_table : (month : ℕ) → Short (cond (within 1 12 month) (get_or lengths (month - 1) 0) 0)
by_table month =
    cond_both (within 1 12 month) (get_or lengths (month - 1) 0) 0 Short
    (λ inside. in_table (month - 1) (omega (arith, leb-true month 12 (and_parts (leb 1 month) (leb month 12) inside).1)))
    (λ _. lit≤ tt)

pub at_most_31 : (year month : ℕ) → month_length year month ≤ 31
at_most_31 year month =
    cond_both (eqb month 2 && is_leap year) 29 (cond (within 1 12 month) (get_or lengths (month - 1) 0) 0) Short
    (λ _. lit≤ tt)
    (λ _. by_table month)
