use Rattle.std.proofs.Common.{◌≡◌, ◌*◌, ◌-◌, ◌^◌, min, take}
use Rattle.adf_format.specs.Names.{element_size, product}
use Rattle.adf_model.proofs.checks.size.Given as goal

abbrev pub invariant-loop-dim : goal.invariant-loop-dim
invariant-loop-dim l = l.bytes ≡ min (element_size l.shape.kind * product (take l.dim-index l.dim-items)) (2 ^ 64 - 1)
