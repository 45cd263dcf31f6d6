-- The present table: it passes the test of its rule, which is computed here, and gives nothing past the last group.
-- Assumes nothing.
use Rattle.std.proofs.Common.{◌≡◌, ℕ, ◌<◌, false, [], refl, arith}
use Rattle.tariff.proofs.Codes.{no_codes}
use Rattle.tariff.proofs.Orderliness.{orderly}
use Rattle.tariff.specs.Charges.{Orderly, codes_in}
use Rattle.tariff.specs.Groups.{in_use, last_group}
use Rattle.tariff.specs.Table.{charges}

pub charges_orderly : Orderly in_use charges
charges_orderly = orderly in_use charges refl

pub no_group_past : (group : ℕ) → last_group < group → in_use group ≡ false
no_group_past group past = grind arith

pub no_codes_past : (group : ℕ) → last_group < group → codes_in charges group ≡ []
no_codes_past group past = no_codes in_use group (no_group_past group past) charges charges_orderly.grouped
