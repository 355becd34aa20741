use Rattle.std.proofs.Common.{◌+◌, ◌*◌, ◌∷◌, [], arith, length, take}
use Rattle.adf_format.specs.declared.types.ExtentKind.{ExtentKind}
use Rattle.adf_format.specs.Parts.{dimension_digits, node_length}
use Rattle.adf_model.specs.Shapes.{dims_of}
use Rattle.cg_io.proofs.ReadLaws.{reads_more}
use Rattle.tree_laws.specs.DataSwitch.{shape_text}
use Rattle.data_edits.proofs.Shapes.{piece_blocks, put_once, shape_few, shape_fields_long, shape_near}
use Rattle.field_access.specs.Fields.{range}
use Rattle.field_access.proofs.WaitLaws.{waits_wider, within_range}
use Rattle.data_edits.proofs.Shapes.{shape_within}
use Rattle.data_edits.proofs.fields.write_shape.Goals as goal

pub write_field-requires-clause-within : goal.write_field-requires-clause-within
write_field-requires-clause-within g c = shape_near c.args.wide c.args.shape.now.rank c.put_shape-end.result c.requires.few c.put_shape-end.ensures.end c.args.place c.put_shape-end.new.into c.requires.header

pub returns-clause-written : goal.returns-clause-written
returns-clause-written g c =
    put_once c.write_field.result ExtentKind.Node (c.args.place + 96) (34 + length (dims_of c.args.shape.now) * dimension_digits c.args.wide) _ (shape_text c.args.wide c.args.shape.now.kind (dims_of c.args.shape.now))
    (g.S.ReadBytes.image c.args.space.now) (g.S.ReadBytes.image c.write_field.new.space) c.put_shape-end.ensures.text (shape_fields_long c.args.wide c.args.shape.now.kind (dims_of c.args.shape.now)) c.write_field.ensures.written c.write_field.ensures.bytes

pub returns-clause-writes : goal.returns-clause-writes
returns-clause-writes g c =
    let few = piece_blocks (c.args.place + 96) c.put_shape-end.result c.put_shape-end.new.into (shape_few c.args.wide c.args.shape.now.rank c.put_shape-end.result c.requires.few c.put_shape-end.ensures.end) in
    record {
      sound = c.write_field.ensures.writes.sound;
      waits = omega (arith, c.write_field.ensures.writes.waits, few);
      effect = reads_more _ 2 _ _ c.write_field.ensures.writes.effect few;
      cause = c.write_field.ensures.writes.cause;
    }

pub returns-clause-only : goal.returns-clause-only
returns-clause-only g c =
    waits_wider _ (range c.args.place (node_length c.args.wide) ∷ []) _ _
    (within_range ExtentKind.FreeChunk (c.args.place + 96) (length (take c.put_shape-end.result c.put_shape-end.new.into)) (range c.args.place (node_length c.args.wide)) (omega arith)
    (shape_within c.args.wide c.args.shape.now.rank c.put_shape-end.result c.requires.few c.put_shape-end.ensures.end c.args.place c.put_shape-end.new.into)) c.write_field.ensures.only
