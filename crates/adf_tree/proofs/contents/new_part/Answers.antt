use Rattle.std.proofs.Common.{refl}
use Rattle.adf_model.specs.declared.tree.Edit.TheVariants.{PutPart}
use Rattle.data_edits.specs.Puts.Part.{Chosen}
use Rattle.adf_tree.proofs.DataAnswers.{contents_done, contents_refused, put_cause}
use Rattle.adf_tree.proofs.contents.new_part.Goals as goal

pub returns-in-Ok : goal.returns-in-Ok
returns-in-Ok g c =
    contents_done g.S.ReadBytes.is_sound g.S.ReadBytes.image g.S.ReadBytes.state g.S.ReadBytes.waiting (PutPart c.args.node c.args.selection.now c.args.bytes.now) c.args.core.now c.put_part.new.core c.args.space.now c.put_part.new.space
    c.put_part.ensures.sound c.put_part.ensures.kept c.put_part.ensures.near c.put_part.ensures.effect refl c.in-Ok.ensures.done c.in-Ok.ensures.allowed.2.put.may.allowed c.in-Ok.ensures.costs c.in-Ok.ensures.reached

pub returns-in-Err : goal.returns-in-Err
returns-in-Err g c =
    contents_refused g.S.ReadBytes.is_sound g.S.ReadBytes.image g.S.ReadBytes.state g.S.ReadBytes.waiting (PutPart c.args.node c.args.selection.now c.args.bytes.now) c.args.core.now c.put_part.new.core c.args.space.now c.put_part.new.space
    c.put_part.ensures.sound c.put_part.ensures.kept c.put_part.ensures.near c.put_part.ensures.effect c.in-Err.error c.in-Err.ensures.refused (put_cause c.args.core.now c.args.node (Chosen c.args.selection.now) c.args.bytes.now _ _ _ c.in-Err.error c.in-Err.ensures.cause)
