-- A range of numbers, with both its ends.
-- Most rules of the tariff are of this form.
use Rattle.std.specs.Prelude.{ℕ, Bool, ◌&&◌, nat_le}

abbrev pub within : ℕ → ℕ → ℕ → Bool
within first last n = nat_le first n && nat_le n last
