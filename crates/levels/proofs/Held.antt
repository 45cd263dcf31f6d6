-- A key that holds: its group and its parent are known, and it stands on a page of the parent's kind.
use Rattle.std.proofs.Common.{◌≡◌, ℕ, Bool, true, is_some, Some, None, Option, refl}
use Rattle.std.specs.Option.{option_flatten, option_map}
use Rattle.std.proofs.lemmas.Bool.{and_parts, false≢true}
use Rattle.faults.specs.declared.key.Key.{Key}
use Rattle.tariff.proofs.TariffSound.{tariff_sound}
use Rattle.tariff.specs.Month.{group_of, is_group, is_interval, kind_of_group, parent_of}
use Rattle.tariff.specs.Pages.{kind_of_parent}
use Rattle.tariff.specs.declared.page_kind.PageKind.{PageKind}
use Rattle.tariff.specs.declared.parent.Parent.{Parent}
use Rattle.levels.specs.Terms.{Terms, holds, on_kind, stands, takes_part}

-- just the groups have a parent
pub grouped : (year month group : ℕ) → is_some (parent_of year month group) ≡ is_group year month group
grouped year month group = (tariff_sound year month).with_parent group

pub record Held (t : Terms) (k : Key) : Type 0 where
  pub group : ℕ
  pub parent : Parent
  pub grouped : group_of t.year t.month k.code ≡ Some group
  pub under : parent_of t.year t.month group ≡ Some parent
  pub takes : takes_part t k.participant ≡ true
  pub placed : is_interval t.year t.month (kind_of_parent parent) k.page k.interval ≡ true

module _ (t : Terms) (k : Key) where
  here : PageKind → Bool
  here kind = is_interval t.year t.month kind k.page k.interval

  by_parent : (g : ℕ) (o : Option Parent) → group_of t.year t.month k.code ≡ Some g → parent_of t.year t.month g ≡ o → takes_part t k.participant ≡ true → on_kind (option_map kind_of_parent o) here ≡ true → Held t k
  unfolding here
  by_parent g None e f takes h = absurd (false≢true h)
  by_parent g (Some p) e f takes h = record { group = g; parent = p; grouped = e; under = f; takes = takes; placed = h }

  by_group : (o : Option ℕ) → group_of t.year t.month k.code ≡ o → takes_part t k.participant ≡ true → on_kind (option_flatten (option_map (kind_of_group t.year t.month) o)) here ≡ true → Held t k
  by_group None e takes h = absurd (false≢true h)
  by_group (Some g) e takes h = by_parent g (parent_of t.year t.month g) e refl takes h

  pub held : holds t k ≡ true → Held t k
  unfolding here
  held h =
      let p = and_parts (takes_part t k.participant) (stands t k.code k.page k.interval) h in
      by_group (group_of t.year t.month k.code) refl p.0 p.1
