use Rattle.std.proofs.Common.{refl}
use Rattle.adf_model.specs.declared.tree.Edit.TheVariants.{SetDims}
use Rattle.adf_tree.proofs.DataAnswers.{contents_done, contents_refused, shape_cause}
use Rattle.adf_tree.proofs.contents.new_shape.Goals as goal

pub returns-in-Ok : goal.returns-in-Ok
returns-in-Ok g c =
    contents_done g.S.ReadBytes.is_sound g.S.ReadBytes.image g.S.ReadBytes.state g.S.ReadBytes.waiting (SetDims c.args.node c.args.shape.now) c.args.core.now c.set_dims.new.core c.args.space.now c.set_dims.new.space
    c.set_dims.ensures.sound c.set_dims.ensures.kept c.set_dims.ensures.near c.set_dims.ensures.effect refl c.in-Ok.ensures.done c.in-Ok.ensures.allowed.2.may.allowed c.in-Ok.ensures.costs c.in-Ok.ensures.reached

pub returns-in-Err : goal.returns-in-Err
returns-in-Err g c =
    contents_refused g.S.ReadBytes.is_sound g.S.ReadBytes.image g.S.ReadBytes.state g.S.ReadBytes.waiting (SetDims c.args.node c.args.shape.now) c.args.core.now c.set_dims.new.core c.args.space.now c.set_dims.new.space
    c.set_dims.ensures.sound c.set_dims.ensures.kept c.set_dims.ensures.near c.set_dims.ensures.effect c.in-Err.error c.in-Err.ensures.refused (shape_cause c.args.core.now c.args.node c.args.shape.now _ _ _ c.in-Err.error c.in-Err.ensures.cause)
