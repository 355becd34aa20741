use Rattle.std.proofs.Common.{rules}
use Rattle.std.proofs.lemmas.List.Sorted.{IsNonDecreasingBy-from_sort, answers_always}
use Rattle.tree_deletes.specs.declared.doomed.Doomed.{Doomed}
use Rattle.tree_deletes.proofs.subtree.sort_by_serial.Goals as goal

pub returns-clause-sorted : goal.returns-clause-sorted
returns-clause-sorted c = IsNonDecreasingBy-from_sort (λ (d : Doomed). d.serial) _ (c.sort_unstable_by_key.ensures.sorted (λ (d : Doomed). d.serial) (answers_always _ _ _ (λ f a r g h. search rules)))
