use Rattle.std.proofs.Common.{◌∙◌}
use Rattle.layout_lint.proofs.KeyLaws.{searched}
use Rattle.layout_lint.proofs.keys.is_in_row.Goals as goal

pub returns : goal.returns
returns g c = c.is_ok.ensures.value ∙ searched g.met.K.Ord.total c.args.row.now c.args.key.now c.binary_search.result c.requires c.binary_search.ensures.bound c.binary_search.ensures.position
