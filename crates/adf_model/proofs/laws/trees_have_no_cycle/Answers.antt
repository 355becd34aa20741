use Rattle.adf_model.proofs.Writes.StayLaws.{no_root_child}
use Rattle.adf_model.proofs.Trees.AncestorLemmas.{parent_outside}
use Rattle.adf_model.proofs.laws.trees_have_no_cycle.Goals as goal

pub returns-clause-root : goal.returns-clause-root
returns-clause-root c = no_root_child

pub returns-clause-below : goal.returns-clause-below
returns-clause-below c tree parent child is h = parent_outside tree is parent child h
