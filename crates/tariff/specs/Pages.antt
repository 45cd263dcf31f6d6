-- The two kinds of page: which groups stand on each, which of them are neutral there, and the codes that have a part of
-- their own.
use Rattle.std.specs.Prelude.{ℕ, Bool, ◌&&◌}
use Rattle.tariff.specs.Groups.{has_group}
use Rattle.tariff.specs.Ranges.{within}
use Rattle.tariff.specs.declared.page_kind.PageKind.{PageKind}
use Rattle.tariff.specs.declared.page_kind.PageKind.TheVariants.{Day, Month}
use Rattle.tariff.specs.declared.parent.Parent.{Parent}
use Rattle.tariff.specs.declared.parent.Parent.TheVariants.{DailyRounded, DailyUnrounded, Monthly}

-- the kind of page that a parent's groups stand on
abbrev pub kind_of_parent : Parent → PageKind
kind_of_parent DailyRounded = Day
kind_of_parent Monthly = Month
kind_of_parent DailyUnrounded = Day

-- the neutral groups of a kind of page, whose total is the page's imbalance
abbrev pub neutral : PageKind → ℕ → Bool
neutral Day group = within 1 25 group && has_group DailyRounded group
neutral Month group = within 27 34 group

-- the code that takes up a page's imbalance
abbrev pub rounding_code : PageKind → ℕ
rounding_code Day = 4989
rounding_code Month = 4999

-- the code that offsets the others of its group
abbrev pub allocation_code : ℕ
allocation_code = 6477

-- the group of that code
abbrev pub allocation_group : ℕ
allocation_group = 4
