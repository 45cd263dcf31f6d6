-- The tariff of every month fits together. Each part rests on a list that is computed over the whole table, or over all
-- numbers of groups. Assumes nothing.
use Rattle.std.proofs.Common.{◌≡◌, ℕ, false, eqb, ltb, length, is_some, IsSomeAnd, Some, count_by, sym, refl, ap, ◌∙◌, arith}
use Rattle.std.specs.List.{AllByRecursion}
use Rattle.tariff.proofs.Present.{charges_orderly, no_codes_past, no_group_past}
use Rattle.tariff.proofs.Tested.{at_each, at_every}
use Rattle.tariff.specs.Charges.{Orderly, codes_in, group_in}
use Rattle.tariff.specs.Groups.{groups_with, in_use, parent_with}
use Rattle.tariff.specs.Month.{groups_of, is_group, is_neutral, kind_of_code, parent_of, table_of}
use Rattle.tariff.specs.Pages.{neutral, rounding_code}
use Rattle.tariff.specs.Sound.{TariffSound, every_group}
use Rattle.tariff.specs.Table.{charges}
use Rattle.tariff.specs.declared.page_kind.PageKind.{PageKind}
use Rattle.tariff.specs.declared.page_kind.PageKind.TheVariants.{Day, Month}
use Rattle.tariff.specs.declared.parent.Parent.{Parent}
use Rattle.tariff.specs.declared.parent.Parent.TheVariants.{DailyRounded, DailyUnrounded, Monthly}

pub table_orderly : (year month : ℕ) → Orderly (is_group year month) (table_of year month)
unfolding is_group table_of
table_orderly year month = charges_orderly

with_parent : (group : ℕ) → is_some (parent_with group) ≡ in_use group
with_parent group = grind arith

with_codes : (group : ℕ) → ltb 0 (length (codes_in charges group)) ≡ in_use group
with_codes =
    at_every (λ g. ltb 0 (length (codes_in charges g))) in_use 37 refl
    (λ g past. ap (λ codes. ltb 0 (length codes)) (no_codes_past g past) ∙ sym (no_group_past g past))

listed : (parent : Parent) → AllByRecursion (λ g. parent_with g ≡ Some parent) (groups_with parent)
listed DailyRounded = at_each parent_with (λ _. Some DailyRounded) (groups_with DailyRounded) refl
listed Monthly = at_each parent_with (λ _. Some Monthly) (groups_with Monthly) refl
listed DailyUnrounded = at_each parent_with (λ _. Some DailyUnrounded) (groups_with DailyUnrounded) refl

rounding : (year month : ℕ) (kind : PageKind) → kind_of_code year month (rounding_code kind) ≡ Some kind
unfolding table_of parent_of
rounding year month Day = refl
rounding year month Month = refl

apart : (kind other : PageKind) → IsSomeAnd (group_in charges (rounding_code kind)) (λ g. neutral other g ≡ false)
apart Day Day = refl
apart Day Month = refl
apart Month Day = refl
apart Month Month = refl

pub tariff_sound : TariffSound
unfolding groups_of is_group is_neutral parent_of table_of
tariff_sound year month =
    record {
      count = refl;
      orderly = table_orderly year month;
      with_parent = with_parent;
      listed = listed;
      one_parent = at_each (λ e. count_by (eqb e.1) (every_group year month)) (λ _. 1) charges refl;
      with_codes = with_codes;
      rounding = rounding year month;
      apart = apart;
      allocation = refl;
    }
