use Rattle.std.proofs.Common.{refl, sym, ◌∙◌}
use Rattle.adf_format.proofs.laws.same_tree.Goals as goal

pub returns-clause-itself : goal.returns-clause-itself
returns-clause-itself c = λ t. refl

pub returns-clause-back : goal.returns-clause-back
returns-clause-back c = λ t u e. sym e

pub returns-clause-on : goal.returns-clause-on
returns-clause-on c = λ t u v e f. e ∙ f
