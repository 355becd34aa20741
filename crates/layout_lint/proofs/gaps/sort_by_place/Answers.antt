use Rattle.std.proofs.Common.{rules}
use Rattle.std.proofs.lemmas.List.Sorted.{IsNonDecreasingBy-from_sort, answers_always}
use Rattle.adf_format.specs.declared.types.Extent.{Extent}
use Rattle.layout_lint.proofs.gaps.sort_by_place.Goals as goal

pub returns-clause-sorted : goal.returns-clause-sorted
returns-clause-sorted c = IsNonDecreasingBy-from_sort (λ (e : Extent). e.place) _ (c.sort_unstable_by_key.ensures.sorted (λ (e : Extent). e.place) (answers_always _ _ _ (λ f a r g h. search rules)))
