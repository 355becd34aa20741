use Rattle.std.proofs.Common.{◌+◌, ◌*◌, subst, suc, length, [], ◌∷◌}
use Rattle.std.specs.Prelude.{OnOk}
use Rattle.adf_format.specs.declared.types.ExtentKind.{ExtentKind}
use Rattle.adf_format.specs.Changes.{Writes}
use Rattle.adf_format.specs.HeapBytes.{ChangesOnly}
use Rattle.adf_format.specs.Hex.{hex_text}
use Rattle.cg_io.specs.Blocks.{Both}
use Rattle.field_access.specs.Fields.{range}
use Rattle.tree_edits.proofs.PutTwice.{put_twice, next}
use Rattle.tree_edits.proofs.Causes.{where_ok}
use Rattle.tree_edits.proofs.WaitSteps.{entry_waits, waits_part}
use Rattle.tree_edits.proofs.join.join_unused.Goals as goal

pub returns-clause-written : goal.returns-clause-written
returns-clause-written g c =
    let old = g.S.ReadBytes.image c.args.space.now in
    let mid = g.S.ReadBytes.image c.write_field.new.space in
    let new = g.S.ReadBytes.image c.write_number.new.space in
    put_twice c.write_number.result ExtentKind.SubNodes ExtentKind.Node (c.args.parent.table.place + 16 + 44 * c.args.parent.table.count) 44 (c.args.parent.row.place + 68) 8 c.args.entry.now (hex_text 8 (suc c.args.parent.table.count))
    old mid new c.told-entry
    (subst (λ k. Both (Writes k c.args.entry.now) old mid) c.entry.ensures c.in-Ok.ensures.written) (subst (λ k. Both (ChangesOnly (range k (length c.args.entry.now) ∷ [])) old mid) c.entry.ensures c.in-Ok.ensures.bytes)
    (subst (λ v. OnOk c.write_number.result (Both (Writes (c.args.parent.row.place + 68) (hex_text 8 v)) mid new)) (next c.from.result c.args.parent.table.count c.from.ensures) c.write_number.ensures.written) c.write_number.ensures.bytes

pub returns-clause-waits : goal.returns-clause-waits
returns-clause-waits g c =
    let table = c.args.parent.table in
    where_ok c.write_number.result _
    (entry_waits c.args.parent.row.place table table.count _ _ _ c.requires.unused
    (waits_part c.entry.result (table.place + 16 + 44 * table.count) (length c.args.entry.now) 44 _ _ c.entry.ensures c.told-entry c.in-Ok.ensures.only) c.write_number.ensures.only)
