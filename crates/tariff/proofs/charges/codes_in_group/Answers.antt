-- The row at a group's number holds its codes.
-- Past the last group there is no row, and there are no codes.
use Rattle.std.proofs.Common.{◌≡◌, ℕ, List, [], map, get_or, le_refl, Bor, refl, Option, sym, ◌∙◌, arith}
use lib.ListN
use Rattle.std.proofs.Math.ListN.{get_or-eq_default}
use Rattle.std.specs.List.{range_with_len}
use Rattle.std.specs.Option.{unwrap_or}
use Rattle.tariff.proofs.Present.{no_codes_past}
use Rattle.tariff.proofs.Tested.{at_every}
use Rattle.tariff.proofs.charges.codes_in_group.Goals as goal
use Rattle.tariff.specs.Charges.{codes_in}
use Rattle.tariff.specs.Table.{charges}

abbrev rows : List (List ℕ)
rows = map (codes_in charges) (range_with_len 0 37)

row_of : (group : ℕ) → get_or rows group [] ≡ codes_in charges group
row_of =
    at_every (λ group. get_or rows group []) (codes_in charges) 37 refl
    (λ group past. get_or-eq_default rows [] past ∙ sym (no_codes_past group (omega arith)))

-- the row that is read, out of the table behind its references
module _ (held : List (Bor (List ℕ))) (same : map (λ x. x.now) held ≡ rows) (group : ℕ) (row none : Bor (List ℕ)) (got copied : Option (Bor (List ℕ))) where
  read : row ≡ unwrap_or copied none → none.now ≡ [] → copied ≡ got → ((d : Bor (List ℕ)) → unwrap_or got d ≡ get_or held group d) → row.now ≡ codes_in charges group
  read is empty copy looked_up =
      rw (is, copy, looked_up none, ← ListN.get_or-map (λ x. x.now) held group none, same, empty) (row_of group)

pub returns : goal.returns
returns c =
    read c.code_rows.result.now c.code_rows.ensures c.args.group _ _ _ _ c.unwrap_or.ensures refl c.copied.ensures
    (c.get.ensures.lookup.4 (le_refl c.args.group))
