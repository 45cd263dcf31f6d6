-- What holds in a trading month, by its year and month: these are the names that callers cite.
-- Each rule that may come to depend on the month is sealed, so that a change of it touches its definition here, its
-- promise and its proof, and no goal above.
use Rattle.std.specs.Prelude.{ℕ, Bool, cond, ◌&&◌, List, Option, ◌==◌}
use Rattle.std.specs.Option.{option_flatten, option_map}
use Rattle.tariff.specs.Calendar.{intervals_on, month_length}
use Rattle.tariff.specs.Charges.{Entry, codes_in, group_in}
use Rattle.tariff.specs.Groups.{groups_with, in_use, parent_with}
use Rattle.tariff.specs.Pages.{kind_of_parent, neutral}
use Rattle.tariff.specs.Ranges.{within}
use Rattle.tariff.specs.Table.{charges}
use Rattle.tariff.specs.declared.page_kind.PageKind.{PageKind}
use Rattle.tariff.specs.declared.page_kind.PageKind.TheVariants.{Day, Month}
use Rattle.tariff.specs.declared.parent.Parent.{Parent}

-- its days
unfoldable pub days_of : ℕ → ℕ → ℕ
days_of year month = month_length year month

-- the intervals of one of its days; none for a day outside it
unfoldable pub intervals_of : ℕ → ℕ → ℕ → ℕ
intervals_of year month day = cond (within 1 (days_of year month) day) (intervals_on year month day) 0

-- its table of charge codes: one for every month
unfoldable pub table_of : ℕ → ℕ → List Entry
table_of year month = charges

-- the group of a code
abbrev pub group_of : ℕ → ℕ → ℕ → Option ℕ
group_of year month code = group_in (table_of year month) code

-- the codes of a group, ascending
abbrev pub codes_of : ℕ → ℕ → ℕ → List ℕ
codes_of year month group = codes_in (table_of year month) group

-- the numbers that are groups
unfoldable pub is_group : ℕ → ℕ → ℕ → Bool
is_group year month group = in_use group

-- the parent of a group
unfoldable pub parent_of : ℕ → ℕ → ℕ → Option Parent
parent_of year month group = parent_with group

-- the groups of a parent, ascending
unfoldable pub groups_of : ℕ → ℕ → Parent → List ℕ
groups_of year month parent = groups_with parent

-- whether a group is neutral on a kind of page
unfoldable pub is_neutral : ℕ → ℕ → PageKind → ℕ → Bool
is_neutral year month kind group = neutral kind group

-- the kind of page that a group stands on
abbrev pub kind_of_group : ℕ → ℕ → ℕ → Option PageKind
kind_of_group year month group = option_map kind_of_parent (parent_of year month group)

-- the kind of page that a code stands on
abbrev pub kind_of_code : ℕ → ℕ → ℕ → Option PageKind
kind_of_code year month code = option_flatten (option_map (kind_of_group year month) (group_of year month code))

-- page 0 is the month's own, and pages from 1 on are its days
abbrev pub is_page : ℕ → ℕ → PageKind → ℕ → Bool
is_page year month Month page = page == 0
is_page year month Day page = within 1 (days_of year month) page

-- the month's own page has interval 0 alone, and a day's page the intervals of the day
abbrev pub is_interval : ℕ → ℕ → PageKind → ℕ → ℕ → Bool
is_interval year month Month page interval = is_page year month Month page && interval == 0
is_interval year month Day page interval = is_page year month Day page && within 1 (intervals_of year month page) interval
