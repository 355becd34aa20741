use Rattle.std.proofs.Common.{refl}
use Rattle.adf_model.specs.declared.tree.Edit.TheVariants.{PutAll}
use Rattle.data_edits.specs.Puts.Part.{Whole}
use Rattle.adf_tree.proofs.DataAnswers.{contents_done, contents_refused, put_cause}
use Rattle.adf_tree.proofs.contents.new_data.Goals as goal

pub returns-in-Ok : goal.returns-in-Ok
returns-in-Ok g c =
    contents_done g.S.ReadBytes.is_sound g.S.ReadBytes.image g.S.ReadBytes.state g.S.ReadBytes.waiting (PutAll c.args.node c.args.bytes.now) c.args.core.now c.put_all.new.core c.args.space.now c.put_all.new.space
    c.put_all.ensures.sound c.put_all.ensures.kept c.put_all.ensures.near c.put_all.ensures.effect refl c.in-Ok.ensures.done c.in-Ok.ensures.allowed.2.put.may.allowed c.in-Ok.ensures.costs c.in-Ok.ensures.reached

pub returns-in-Err : goal.returns-in-Err
returns-in-Err g c =
    contents_refused g.S.ReadBytes.is_sound g.S.ReadBytes.image g.S.ReadBytes.state g.S.ReadBytes.waiting (PutAll c.args.node c.args.bytes.now) c.args.core.now c.put_all.new.core c.args.space.now c.put_all.new.space
    c.put_all.ensures.sound c.put_all.ensures.kept c.put_all.ensures.near c.put_all.ensures.effect c.in-Err.error c.in-Err.ensures.refused (put_cause c.args.core.now c.args.node Whole c.args.bytes.now _ _ _ c.in-Err.error c.in-Err.ensures.cause)
