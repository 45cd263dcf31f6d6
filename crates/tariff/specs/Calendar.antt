-- The calendar: which months are traded, how many days a month has, and how many ten-minute intervals a day has.
-- All of it on plain numbers, of any size.
use Rattle.std.specs.Prelude.{ℕ, ◌-◌, ◌*◌, ◌%◌, Bool, cond, not, ◌&&◌, ◌||◌, List, [], ◌∷◌, ◌==◌, slice_index}
use Rattle.tariff.specs.Ranges.{within}

-- months are traded from January 2009 to December 2099
abbrev pub is_traded : ℕ → ℕ → Bool
is_traded year month = within 2009 2099 year && within 1 12 month

-- a leap year of the Gregorian calendar: every fourth, of the centuries every fourth too
abbrev pub is_leap : ℕ → Bool
is_leap year = year % 4 == 0 && (not (year % 100 == 0) || year % 400 == 0)

-- the lengths of the twelve months
abbrev pub lengths : List ℕ
lengths = 31 ∷ 28 ∷ 31 ∷ 30 ∷ 31 ∷ 30 ∷ 31 ∷ 31 ∷ 30 ∷ 31 ∷ 30 ∷ 31 ∷ []

-- the length of a month: February has 29 days in leap years; 0 for a number that is no month
abbrev pub month_length : ℕ → ℕ → ℕ
month_length year month = cond (month == 2 && is_leap year) 29 (cond (within 1 12 month) (slice_index lengths (month - 1)) 0)

-- the hours of a day
abbrev pub hours_on : ℕ → ℕ → ℕ → ℕ
hours_on year month day = 24

-- the ten-minute intervals of a day
abbrev pub intervals_on : ℕ → ℕ → ℕ → ℕ
intervals_on year month day = 6 * hours_on year month day
