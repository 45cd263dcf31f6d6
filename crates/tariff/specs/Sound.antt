-- The tariff of a month fits together: its table, its groups, their parents, and the codes that have a part of their own.
-- Callers may lean on every part of it.
use Rattle.std.specs.Prelude.{◌≡◌, ℕ, false, List, ◌++◌, length, is_some, IsSomeAnd, Some, count_by, nat_eq, nat_lt}
use Rattle.std.specs.List.{AllByRecursion}
use Rattle.tariff.specs.Charges.{Orderly}
use Rattle.tariff.specs.Month.{codes_of, group_of, groups_of, is_group, is_neutral, kind_of_code, parent_of, table_of}
use Rattle.tariff.specs.Pages.{allocation_code, allocation_group, rounding_code}
use Rattle.tariff.specs.declared.page_kind.PageKind.{PageKind}
use Rattle.tariff.specs.declared.parent.Parent.{Parent}
use Rattle.tariff.specs.declared.parent.Parent.TheVariants.{DailyRounded, DailyUnrounded, Monthly}

-- the groups of all parents
abbrev pub every_group : ℕ → ℕ → List ℕ
every_group year month = groups_of year month DailyRounded ++ (groups_of year month Monthly ++ groups_of year month DailyUnrounded)

pub record Sound (year month : ℕ) : Type 0 where
  -- the table has 127 codes, ascending, each once, and each in a group
  pub count : length (table_of year month) ≡ 127
  pub orderly : Orderly (is_group year month) (table_of year month)
  -- just the groups have a parent
  pub with_parent : (group : ℕ) → is_some (parent_of year month group) ≡ is_group year month group
  -- the groups of a parent have that parent
  pub listed : (parent : Parent) → AllByRecursion (λ g. parent_of year month g ≡ Some parent) (groups_of year month parent)
  -- each code's group stands once among the groups of all parents
  pub one_parent : AllByRecursion (λ e. count_by (nat_eq e.1) (every_group year month) ≡ 1) (table_of year month)
  -- just the groups have codes
  pub with_codes : (group : ℕ) → nat_lt 0 (length (codes_of year month group)) ≡ is_group year month group
  -- a rounding code stands on the pages that it rounds, and in no neutral group
  pub rounding : (kind : PageKind) → kind_of_code year month (rounding_code kind) ≡ Some kind
  pub apart : (kind other : PageKind) → IsSomeAnd (group_of year month (rounding_code kind)) (λ g. is_neutral year month other g ≡ false)
  -- the allocation code stands in its group
  pub allocation : group_of year month allocation_code ≡ Some allocation_group

abbrev pub TariffSound : Type 0
TariffSound = (year month : ℕ) → Sound year month
