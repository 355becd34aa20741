use Rattle.std.proofs.Common.{rules}
use Rattle.std.proofs.lemmas.List.Sorted.{IsNonDecreasingBy-from_sort, answers_always}
use Rattle.layout_lint.specs.declared.owners.Owned.{Owned}
use Rattle.layout_lint.proofs.owners.sort_by_place.Goals as goal

pub returns-clause-sorted : goal.returns-clause-sorted
returns-clause-sorted c = IsNonDecreasingBy-from_sort (λ (o : Owned). o.extent.place) _ (c.sort_unstable_by_key.ensures.sorted (λ (o : Owned). o.extent.place) (answers_always _ _ _ (λ f a r g h. search rules)))
