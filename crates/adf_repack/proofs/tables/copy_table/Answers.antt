use Rattle.std.proofs.Common.{◌≡◌, ◌∙◌, ◌+◌, ◌*◌, ◌<◌, ◌^◌, ◌++◌, ap, refl, subst, sym, arith, ℕ, List, length, get_or, Ok}
use Rattle.adf_format.specs.Pointer.{To}
use Rattle.adf_format.specs.Records.{SubNodes, head_text, end_tag}
use Rattle.layout_lint.specs.Nodes.{table_of}
use Rattle.adf_repack.specs.declared.places.NodeShape.{NodeShape}
use Rattle.adf_repack.specs.Families.{children_of}
use Rattle.adf_repack.specs.Copies.{Appends, Copies, BreaksNames, copied_entries}
use Rattle.adf_repack.specs.Plans.{copied_table}
use Rattle.adf_repack.proofs.PlanLaws.{header_near}
use Rattle.adf_repack.proofs.CopyingLaws.{copies_same, copies_then}
use Rattle.adf_repack.proofs.tables.copy_table.Goals as goal

pub copy_entries-requires-clause-near : goal.copy_entries-requires-clause-near
copy_entries-requires-clause-near g c k lt = subst (λ (l : List ℕ). get_or l k 0 < 2 ^ 44) (sym c.deref.ensures.value) (header_near c.args.nodes.now c.args.plan.now k c.requires.plan lt)

pub returns : goal.returns
returns g c =
    let kids : List ℕ = children_of c.args.nodes.now c.args.number in
    let table : ℕ = table_of c.args.header.now in
    let broken : ℕ → ℕ → Type 0 = BreaksNames table c.args.nodes.now kids in
    let are : c.shape-children.result.children ≡ length kids = ap (λ (s : NodeShape). s.children) c.shape-children.ensures ∙ c.requires.plan.children c.args.number c.requires.number in
    let head : ℕ → List ℕ = λ n. head_text SubNodes (To (c.args.place + 16 + 44 * n)) in
    let entries : List ℕ → List ℕ = λ image. copied_entries image table c.args.nodes.now c.args.plan.now.headers.items kids in
    let sum : 16 + (44 * length kids + 4) ≡ 20 + 44 * length kids = omega arith in
    let first = copies_same g.B.Blocks.is_sound g.B.Blocks.state g.E.Device.state broken (head (length kids)) 16 c.args.blocks.now c.args.page.now c.args.writer.now c.put_table_head.new.writer (Ok c.in-Ok.field-0)
    refl c.requires.ready (subst (λ (n : ℕ). Appends {E = g.row.E.Denot} g.E.Device.state (head n) c.args.writer.now c.put_table_head.new.writer (Ok c.in-Ok.field-0)) are c.in-Ok.ensures) in
    let second = subst (λ (l : List ℕ). Copies {B = g.row.B.Denot} {E = g.row.E.Denot} g.B.Blocks.is_sound g.B.Blocks.state g.E.Device.state broken (44 * length kids)
    (λ image. copied_entries image table c.args.nodes.now l kids) c.args.blocks.now c.copy_entries.new.blocks c.copy_entries.new.page c.put_table_head.new.writer c.copy_entries.new.writer (Ok c.in-Ok-copy_entries.field-0))
    c.deref.ensures.value c.in-Ok-copy_entries.ensures in
    let third = copies_same g.B.Blocks.is_sound g.B.Blocks.state g.E.Device.state broken (end_tag SubNodes) 4 c.copy_entries.new.blocks c.copy_entries.new.page c.copy_entries.new.writer c.put_table_end.new.writer c.put_table_end.result
    refl c.copy_entries.ensures.ready c.put_table_end.ensures in
    subst (λ (n : ℕ). Copies {B = g.row.B.Denot} {E = g.row.E.Denot} g.B.Blocks.is_sound g.B.Blocks.state g.E.Device.state broken n
    (λ image. copied_table image table c.args.nodes.now c.args.plan.now.headers.items kids c.args.place) c.args.blocks.now c.copy_entries.new.blocks c.copy_entries.new.page c.args.writer.now c.put_table_end.new.writer c.put_table_end.result) sum
    (copies_then g.B.Blocks.is_sound g.B.Blocks.state g.E.Device.state broken 16 (44 * length kids + 4) (λ image. head (length kids)) (λ image. entries image ++ end_tag SubNodes)
    c.args.blocks.now c.args.blocks.now c.args.page.now c.args.writer.now c.put_table_head.new.writer c.in-Ok.field-0 c.copy_entries.new.blocks c.copy_entries.new.page c.put_table_end.new.writer c.put_table_end.result first
    (copies_then g.B.Blocks.is_sound g.B.Blocks.state g.E.Device.state broken (44 * length kids) 4 entries (λ image. end_tag SubNodes)
    c.args.blocks.now c.copy_entries.new.blocks c.copy_entries.new.page c.put_table_head.new.writer c.copy_entries.new.writer c.in-Ok-copy_entries.field-0 c.copy_entries.new.blocks c.copy_entries.new.page c.put_table_end.new.writer c.put_table_end.result second third))
