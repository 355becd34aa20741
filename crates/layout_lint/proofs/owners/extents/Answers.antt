use Rattle.std.proofs.Common.{◌∙◌, sym, ap, subst, map}
use Rattle.adf_format.specs.Verdict.{ListsExtents}
use Rattle.layout_lint.specs.Owners.{extent_of}
use Rattle.layout_lint.proofs.owners.extents.Goals as goal

pub returns-in-Ok-clause-all : goal.returns-in-Ok-clause-all
returns-in-Ok-clause-all g c = λ image told end format wide laid.
    subst (ListsExtents laid.tree.wide laid.placement) (sym (c.new.ensures ∙ c.in-Ok.ensures ∙ ap (map extent_of) c.items.ensures)) (c.in_ok-owned.ensures.all image told end format wide laid).lists
