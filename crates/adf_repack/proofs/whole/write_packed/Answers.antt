use Rattle.std.proofs.Common.{sym, subst, List}
use Rattle.layout_lint.specs.declared.verdict.NodePlace.{NodePlace}
use Rattle.adf_repack.specs.Given.{IsGiven}
use Rattle.adf_repack.proofs.whole.write_packed.Goals as goal

pub returns-in-Ok-clause-packed : goal.returns-in-Ok-clause-packed
returns-in-Ok-clause-packed g c image e tree given width =
    c.in-Ok.ensures.packed image e tree (subst (λ (l : List NodePlace). IsGiven image l tree) (sym c.items.ensures) given) width
