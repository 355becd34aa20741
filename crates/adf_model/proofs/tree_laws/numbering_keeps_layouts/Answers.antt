use Rattle.adf_model.proofs.Trees.NumberedLaidOut.{numbered_laid_out}
use Rattle.adf_model.proofs.tree_laws.numbering_keeps_layouts.Goals as goal

pub returns : goal.returns
returns c = numbered_laid_out
