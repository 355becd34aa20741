use Rattle.std.proofs.Common.{◌≡◌, ◌+◌, ◌*◌, ◌<◌, ◌∙◌, ap, sym, arith, ℕ, List, length}
use Rattle.layout_lint.specs.Nodes.{table_of}
use Rattle.adf_repack.specs.declared.places.NodeShape.{NodeShape}
use Rattle.adf_repack.specs.Families.{children_of}
use Rattle.adf_repack.specs.Places.{table_room}
use Rattle.adf_repack.specs.Copies.{BreaksNames}
use Rattle.adf_repack.specs.Plans.{shape_at, copied_table, copied_children}
use Rattle.adf_repack.proofs.PlanLaws.{some_room, some_children}
use Rattle.adf_repack.proofs.CopyingLaws.{copies_as}
use Rattle.adf_repack.proofs.tables.copy_children.Goals as goal

pub returns : goal.returns
returns g c =
    let kids : List ℕ = children_of c.args.nodes.now c.args.number in
    let table : ℕ = table_of c.args.header.now in
    let headers : List ℕ = c.args.plan.now.headers.items in
    let are : (shape_at c.args.plan.now c.args.number).children ≡ length kids = c.requires.plan.children c.args.number c.requires.number in
    let read : c.shape.result.children ≡ length kids = ap (λ (s : NodeShape). s.children) c.shape.ensures ∙ are in
    let some : 0 < length kids = omega (arith, read, c.if-shape-eq0.false) in
    copies_as g.B.Blocks.is_sound g.B.Blocks.state g.E.Device.state (BreaksNames table c.args.nodes.now kids) (20 + 44 * length kids) (table_room (shape_at c.args.plan.now c.args.number).children)
    (λ image. copied_table image table c.args.nodes.now headers kids c.args.place) (λ image. copied_children image table c.args.nodes.now headers kids c.args.place)
    c.args.blocks.now c.copy_table.new.blocks c.copy_table.new.page c.args.writer.now c.copy_table.new.writer c.copy_table.result
    (sym (some_room (length kids) some) ∙ ap table_room (sym are)) (λ image. some_children image table c.args.nodes.now headers c.args.place kids some) c.copy_table.ensures
