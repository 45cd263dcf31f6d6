-- The groups of charge codes and their three parents: which numbers are groups, what number a parent has, and which
-- groups are whose.
use Rattle.std.specs.Prelude.{◌≡◌, ℕ, Result, IfErr, Bool, cond, not, ◌&&◌, ◌||◌, List, [], ◌∷◌, Some, None, filter, Option, ◌==◌, nat_eq}
use Rattle.std.specs.List.{range_with_len}
use Rattle.std.specs.Result.{result_ok}
use Rattle.tariff.specs.Ranges.{within}
use Rattle.tariff.specs.declared.parent.NoSuchParent.{NoSuchParent}
use Rattle.tariff.specs.declared.parent.Parent.{Parent}
use Rattle.tariff.specs.declared.parent.Parent.TheVariants.{DailyRounded, DailyUnrounded, Monthly}

-- the parents in the order of their numbers
abbrev pub parents : List Parent
parents = DailyRounded ∷ Monthly ∷ DailyUnrounded ∷ []

-- the first of some parents that passes a test
abbrev pub first_passing : (Parent → Bool) → List Parent → Option Parent
first_passing test [] = None
first_passing test (p ∷ ps) = cond (test p) (Some p) (first_passing test ps)

-- the number of a parent
abbrev pub parent_number : Parent → ℕ
parent_number DailyRounded = 1
parent_number Monthly = 2
parent_number DailyUnrounded = 3

-- the parent with a number
abbrev pub parent_numbered : ℕ → Option Parent
parent_numbered n = first_passing (λ p. nat_eq (parent_number p) n) parents

-- what a number is read as: the parent with it, or else an error that holds the number
abbrev pub NamesParent : ℕ → Result Parent NoSuchParent → Type 0
NamesParent n r = (result_ok r ≡ parent_numbered n) × IfErr r (λ e. e.0 ≡ n)

-- the highest number of a group
abbrev pub last_group : ℕ
last_group = 36

-- the numbers that are groups: 35 is unused
abbrev pub in_use : ℕ → Bool
in_use group = within 1 last_group group && not (group == 35)

-- the groups that stay out of rounding
abbrev pub unrounded : ℕ → Bool
unrounded group = group == 12 || (group == 13 || group == 15)

-- the groups that a parent has
abbrev pub has_group : Parent → ℕ → Bool
has_group DailyRounded group = within 1 26 group && not (unrounded group)
has_group Monthly group = within 27 34 group || group == 36
has_group DailyUnrounded group = unrounded group

-- the parent that has a group
abbrev pub parent_with : ℕ → Option Parent
parent_with group = first_passing (λ p. has_group p group) parents

-- the groups of a parent, ascending
abbrev pub groups_with : Parent → List ℕ
groups_with parent = filter (has_group parent) (range_with_len 1 last_group)
