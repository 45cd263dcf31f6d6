-- What a table of charge codes says, whatever table it is: the group of a code, the codes of a group, and the rule that
-- every table keeps.
use Rattle.std.specs.Prelude.{◌≡◌, ℕ, ◌<◌, Bool, true, cond, List, [], ◌∷◌, map, length, Some, None, filter, Option, ◌==◌, nat_eq, slice_index_or}
use Rattle.std.specs.List.{AllByRecursion}

-- an entry: a charge code and its group
abbrev pub Entry : Type 0
Entry = ℕ × ℕ

-- the group of a code: that of the first entry with the code
abbrev pub group_in : List Entry → ℕ → Option ℕ
group_in [] code = None
group_in (e ∷ es) code = cond (e.0 == code) (Some e.1) (group_in es code)

-- the codes of a group, in the table's order
abbrev pub codes_in : List Entry → ℕ → List ℕ
codes_in table group = map (λ e. e.0) (filter (λ e. nat_eq e.1 group) table)

-- the code at a place of the table
abbrev pub code_at : List Entry → ℕ → ℕ
code_at table k = (slice_index_or table k (0, 0)).0

-- each code lies below each later one
abbrev pub Ascending : List Entry → Type 0
Ascending table = (i j : ℕ) → i < j → j < length table → code_at table i < code_at table j

-- no code stands at two places
abbrev pub Once : List Entry → Type 0
Once table = (i j : ℕ) → i < length table → j < length table → code_at table i ≡ code_at table j → i ≡ j

-- the rule of a table, over the numbers that are groups
pub record Orderly (is_group : ℕ → Bool) (table : List Entry) : Type 0 where
  pub ascending : Ascending table
  pub once : Once table
  -- the group that is found for a code is that of its entry
  pub found : AllByRecursion (λ e. group_in table e.0 ≡ Some e.1) table
  pub grouped : AllByRecursion (λ e. is_group e.1 ≡ true) table
