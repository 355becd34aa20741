use Rattle.adf_format.proofs.FreshLaidOut.{fresh_is_tree, fresh_length, fresh_laid_out}
use Rattle.adf_format.proofs.laws.fresh_file.Goals as goal

pub returns-clause-tree : goal.returns-clause-tree
returns-clause-tree c = fresh_is_tree

pub returns-clause-long : goal.returns-clause-long
returns-clause-long c = fresh_length

pub returns-clause-laid_out : goal.returns-clause-laid_out
returns-clause-laid_out c = fresh_laid_out
