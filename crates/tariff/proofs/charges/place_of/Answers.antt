-- The search ends at the code, or between the codes below it and those above.
-- Each entry gives its code to be compared.
use Rattle.std.proofs.Common.{rules}
use Rattle.std.proofs.lemmas.List.Sorted.{answers_always}
use Rattle.tariff.proofs.Lookup.{searched}
use Rattle.tariff.proofs.charges.place_of.Goals as goal

pub returns : goal.returns
returns c =
    let facts = c.binary_search_by_key.ensures in
    let by_code = facts.position (λ entry. entry.0) (answers_always _ _ _ (λ f a r g called. search rules)) in
    searched _ c.requires c.args.code _ facts.bound by_code
