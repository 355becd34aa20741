use Rattle.std.proofs.Common.{◌∙◌, ap, ◌*◌, ◌-◌, ◌^◌, min, get_or}
use Rattle.adf_format.specs.Names.{element_size}
use Rattle.adf_model.proofs.CheckLemmas.{size_more}
use Rattle.adf_model.proofs.checks.size.Goals as goal

pub loop-dim-preserved : goal.loop-dim-preserved
loop-dim-preserved c =
    let next = size_more (element_size c.args.shape.now.kind) (2 ^ 64 - 1) c.loop-dim.dim-index c.dims_of-dim-items.result.now c.loop-dim-test.true in
    c.saturating_mul-bytes.ensures ∙ ap (λ n. min (n * get_or c.dims_of-dim-items.result.now c.loop-dim.dim-index 0) (2 ^ 64 - 1)) c.loop-dim.invariant ∙ next
