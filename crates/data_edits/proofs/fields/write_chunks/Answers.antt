use Rattle.std.proofs.Common.{◌+◌, ◌++◌, ◌∙◌, ◌∷◌, [], ap, arith}
use Rattle.adf_format.specs.declared.fields.Field.{Field}
use Rattle.adf_format.specs.declared.types.ExtentKind.{ExtentKind}
use Rattle.adf_format.specs.Hex.{hex_text}
use Rattle.adf_format.specs.Parts.{chunk_count_at, node_length}
use Rattle.adf_format.specs.Pointer.{pointer_text}
use Rattle.disk_ptr.specs.View.{view}
use Rattle.tree_edits.proofs.WaitSteps.{waits_long}
use Rattle.data_edits.proofs.Shapes.{chunk_fields_long, chunks_put, put_at}
use Rattle.field_access.specs.Fields.{range}
use Rattle.field_access.proofs.WaitLaws.{waits_wider, within_range}
use Rattle.data_edits.proofs.fields.write_chunks.Goals as goal

pub returns-clause-written : goal.returns-clause-written
returns-clause-written g c =
    put_at c.write_field.result ExtentKind.Node (c.args.place + c.node_chunks.result.offset) (c.args.place + chunk_count_at c.args.wide) 16 c.put_pointer.new.into (hex_text 4 c.args.at.count ++ pointer_text (view c.args.at.pointer))
    (g.S.ReadBytes.image c.args.space.now) (g.S.ReadBytes.image c.write_field.new.space) (ap (λ (f : Field). c.args.place + f.offset) c.node_chunks.ensures)
    (chunks_put c.args.at.count c.from.result c.put_number-end.result c.put_pointer.result (pointer_text (view c.args.at.pointer)) c.put_number-end.new.into c.put_pointer.new.into c.from.ensures c.put_number-end.ensures.end c.put_number-end.ensures.text c.put_pointer.ensures.end
    (c.put_pointer.ensures.long ∙ c.put_number-end.ensures.long) c.put_pointer.ensures.text)
    (chunk_fields_long c.args.at.count (view c.args.at.pointer)) c.write_field.ensures.written c.write_field.ensures.bytes

pub returns-clause-only : goal.returns-clause-only
returns-clause-only g c =
    waits_wider (range (c.args.place + c.node_chunks.result.offset) 16 ∷ []) (range c.args.place (node_length c.args.wide) ∷ []) _ _
    (within_range ExtentKind.FreeChunk (c.args.place + c.node_chunks.result.offset) 16 (range c.args.place (node_length c.args.wide)) (omega arith)
    (let at = ap (λ (f : Field). f.offset) c.node_chunks.ensures in omega (arith, at)))
    (waits_long _ _ _ _ _ (c.put_pointer.ensures.long ∙ c.put_number-end.ensures.long) c.write_field.ensures.only)
