use Rattle.std.proofs.Common.{◌≡◌, ◌+◌, ◌≤◌, ◌^◌, ◌++◌, ◌∙◌, ap, refl, sym, arith, inl, inr, rules, ℕ, List, length, Ok}
use Rattle.adf_format.specs.Parts.{node_length}
use Rattle.adf_format.specs.Records.{node_text}
use Rattle.adf_records.specs.View.{record_of}
use Rattle.layout_lint.specs.Nodes.{table_of}
use Rattle.adf_repack.specs.declared.places.NodeShape.{NodeShape}
use Rattle.adf_repack.specs.Families.{children_of}
use Rattle.adf_repack.specs.Places.{room_of, table_room, data_room}
use Rattle.adf_repack.specs.Copies.{BreaksNames}
use Rattle.adf_repack.specs.Payloads.{copied_data, BreaksContents}
use Rattle.adf_repack.specs.Plans.{shape_at, header_at, copied_children, copied_node, BreaksParts}
use Rattle.adf_repack.proofs.CopyLaws.{numbers_are}
use Rattle.adf_repack.proofs.SourceLaws.{reads_none}
use Rattle.adf_repack.proofs.PlanLaws.{fits}
use Rattle.adf_repack.proofs.CopyingLaws.{copies_same, copies_then, copies_wider, copies_as}
use Rattle.adf_repack.proofs.NodeLaws.{long_dimension, parts_are, contents_broken}
use Rattle.adf_repack.proofs.nodes.copy_parts.Goals as goal

pub returns-then-not-dimensions_fit : goal.returns-then-not-dimensions_fit
returns-then-not-dimensions_fit g c =
    let h = c.args.header.now in
    record {
      ready = c.requires.ready;
      reads = reads_none (g.B.Blocks.state c.args.blocks.now);
      sound = tt;
      appended = tt;
      count = tt;
      wrote = tt;
      effect = record { reads = refl; writes = omega arith };
      later = omega arith;
      lost = omega arith;
      cause = inr (inr (record {
        rule = 21;
        place = c.args.place;
        is = refl;
        so = inl (
          refl,
          refl,
          long_dimension c.args.plan.now.wide (record_of h) c.dimensions_within-values.result
              (rw (sym (numbers_are h)) c.dimensions_within-values.ensures) (c.dimensions_fit.ensures.long (search rules)),
        );
      }));
    }

pub packed_header-packed-requires-clause-near : goal.packed_header-packed-requires-clause-near
packed_header-packed-requires-clause-near g c =
    let plan = c.args.plan.now in
    let k = c.args.number in
    let h = fits c.args.nodes.now plan k c.requires.plan c.requires.number in
    let at : c.header-at.result ≡ header_at plan k = c.header-at.ensures ∙ c.requires.plan.places k c.requires.number in
    let room : room_of plan.wide c.shape-shape.result ≡ room_of plan.wide (shape_at plan k) = ap (room_of plan.wide) c.shape-shape.ensures in
    omega (arith, h, at, room)

pub put_header-requires-clause-within : goal.put_header-requires-clause-within
put_header-requires-clause-within g c =
    let plan = c.args.plan.now in
    let k = c.args.number in
    let h : header_at plan k + (node_length plan.wide + table_room (shape_at plan k).children + data_room (shape_at plan k).size) ≤ 2 ^ 44 = fits c.args.nodes.now plan k c.requires.plan c.requires.number in
    let long : node_length c.packed_header-packed.result.wide ≡ node_length plan.wide = ap node_length c.packed_header-packed.ensures.wide in
    omega (arith, h, long, c.requires.stands)

pub copy_children-requires-clause-near : goal.copy_children-requires-clause-near
copy_children-requires-clause-near g c =
    let plan = c.args.plan.now in
    let k = c.args.number in
    let h : header_at plan k + (node_length plan.wide + table_room (shape_at plan k).children + data_room (shape_at plan k).size) ≤ 2 ^ 44 = fits c.args.nodes.now plan k c.requires.plan c.requires.number in
    let at : c.header-at.result ≡ header_at plan k = c.header-at.ensures ∙ c.requires.plan.places k c.requires.number in
    let long : c.node_length.result ≡ node_length plan.wide = c.node_length.ensures in
    omega (arith, h, at, long)

pub copy_children-requires-clause-within : goal.copy_children-requires-clause-within
copy_children-requires-clause-within g c =
    let plan = c.args.plan.now in
    let k = c.args.number in
    let h : header_at plan k + (node_length plan.wide + table_room (shape_at plan k).children + data_room (shape_at plan k).size) ≤ 2 ^ 44 = fits c.args.nodes.now plan k c.requires.plan c.requires.number in
    let long : length (node_text (record_of c.packed_header-packed.result)) ≡ node_length plan.wide = c.in-Ok.ensures.long ∙ ap node_length c.packed_header-packed.ensures.wide in
    let count = c.in-Ok.ensures.appends.count in
    omega (arith, h, long, count, c.requires.stands)

pub copy_contents-requires-clause-chunk : goal.copy_contents-requires-clause-chunk
copy_contents-requires-clause-chunk g c =
    let plan = c.args.plan.now in
    let k = c.args.number in
    let h : header_at plan k + (node_length plan.wide + table_room (shape_at plan k).children + data_room (shape_at plan k).size) ≤ 2 ^ 44 = fits c.args.nodes.now plan k c.requires.plan c.requires.number in
    let at : c.header-at.result ≡ header_at plan k = c.header-at.ensures ∙ c.requires.plan.places k c.requires.number in
    let long : c.node_length.result ≡ node_length plan.wide = c.node_length.ensures in
    let room : table_room c.shape-shape.result.children ≡ table_room (shape_at plan k).children = ap (λ (s : NodeShape). table_room s.children) c.shape-shape.ensures in
    let bytes : data_room c.shape-shape.result.size ≡ data_room (shape_at plan k).size = ap (λ (s : NodeShape). data_room s.size) c.shape-shape.ensures in
    let table = c.table_room.ensures in
    omega (arith, h, at, long, room, bytes, table)

pub copy_contents-requires-clause-within : goal.copy_contents-requires-clause-within
copy_contents-requires-clause-within g c =
    let plan = c.args.plan.now in
    let k = c.args.number in
    let h : header_at plan k + (node_length plan.wide + table_room (shape_at plan k).children + data_room (shape_at plan k).size) ≤ 2 ^ 44 = fits c.args.nodes.now plan k c.requires.plan c.requires.number in
    let long : length (node_text (record_of c.packed_header-packed.result)) ≡ node_length plan.wide = c.in-Ok.ensures.long ∙ ap node_length c.packed_header-packed.ensures.wide in
    let bytes : data_room c.shape-shape.result.size ≡ data_room (shape_at plan k).size = ap (λ (s : NodeShape). data_room s.size) c.shape-shape.ensures in
    let count = c.in-Ok.ensures.appends.count in
    let more = c.in-Ok-copy_children.ensures.count in
    omega (arith, h, long, bytes, count, more, c.requires.stands)

pub returns : goal.returns
returns g c =
    let plan = c.args.plan.now in
    let k = c.args.number in
    let nodes = c.args.nodes.now in
    let r = record_of c.args.header.now in
    let wide = c.args.header.now.wide in
    let kids : List ℕ = children_of nodes k in
    let table : ℕ = table_of c.args.header.now in
    let shape = c.shape-shape.result in
    let held = (g.B.Blocks.state c.args.blocks.now).held in
    let again = (g.B.Blocks.state c.copy_children.new.blocks).held in
    let broken : ℕ → ℕ → Type 0 = BreaksParts held wide nodes plan k c.args.place r in
    let text : List ℕ = node_text (record_of c.packed_header-packed.result) in
    let place : ℕ = c.header-at.result + c.node_length.result in
    let chunk : ℕ = c.header-at.result + c.node_length.result + c.table_room.result in
    let tables : List ℕ → List ℕ = λ image. copied_children image table nodes plan.headers.items kids place in
    let bytes : List ℕ → List ℕ = λ image. copied_data image r shape.size chunk in
    let n : ℕ = node_length plan.wide in
    let m : ℕ = table_room (shape_at plan k).children in
    let o : ℕ = data_room shape.size in
    let at : c.header-at.result ≡ header_at plan k = c.header-at.ensures ∙ c.requires.plan.places k c.requires.number in
    let fit : header_at plan k + (node_length plan.wide + table_room (shape_at plan k).children + data_room (shape_at plan k).size) ≤ 2 ^ 44 = fits nodes plan k c.requires.plan c.requires.number in
    let same_room : table_room shape.children ≡ table_room (shape_at plan k).children = ap (λ (s : NodeShape). table_room s.children) c.shape-shape.ensures in
    let same_data : data_room shape.size ≡ data_room (shape_at plan k).size = ap (λ (s : NodeShape). data_room s.size) c.shape-shape.ensures in
    let limit = c.table_room.ensures in
    let room : c.table_room.result ≡ table_room shape.children = omega (arith, limit, fit, same_room) in
    let long : length text ≡ n = c.in-Ok.ensures.long ∙ ap node_length c.packed_header-packed.ensures.wide in
    let all : n + (m + o) ≡ room_of plan.wide (shape_at plan k) = ap (λ (d : ℕ). n + (m + d)) same_data ∙ omega arith in
    let first = copies_same g.B.Blocks.is_sound g.B.Blocks.state g.E.Device.state broken text n c.args.blocks.now c.args.page.now c.args.writer.now c.put_header.new.writer (Ok c.in-Ok.field-0)
    long c.requires.ready c.in-Ok.ensures.appends in
    let second = copies_wider g.B.Blocks.is_sound g.B.Blocks.state g.E.Device.state (BreaksNames table nodes kids) broken (λ rule place b. inr (inl b)) m tables
    c.args.blocks.now c.copy_children.new.blocks c.copy_children.new.page c.put_header.new.writer c.copy_children.new.writer (Ok c.in-Ok-copy_children.field-0) c.in-Ok-copy_children.ensures in
    let third = copies_wider g.B.Blocks.is_sound g.B.Blocks.state g.E.Device.state (BreaksContents again wide r c.args.place shape.size) broken
    (contents_broken held again wide nodes plan k c.args.place r shape c.copy_children.ensures.reads.held c.shape-shape.ensures) o bytes
    c.copy_children.new.blocks c.copy_contents.new.blocks c.copy_contents.new.page c.copy_children.new.writer c.copy_contents.new.writer c.copy_contents.result c.copy_contents.ensures.copies in
    copies_as g.B.Blocks.is_sound g.B.Blocks.state g.E.Device.state broken (n + (m + o)) (room_of plan.wide (shape_at plan k)) (λ image. text ++ (tables image ++ bytes image)) (λ image. copied_node image nodes plan k r)
    c.args.blocks.now c.copy_contents.new.blocks c.copy_contents.new.page c.args.writer.now c.copy_contents.new.writer c.copy_contents.result all
    (λ image. parts_are image nodes plan k r (record_of c.packed_header-packed.result) c.header-at.result c.node_length.result c.table_room.result shape c.packed_header-packed.ensures.says at c.shape-shape.ensures c.node_length.ensures room)
    (copies_then g.B.Blocks.is_sound g.B.Blocks.state g.E.Device.state broken n (m + o) (λ image. text) (λ image. tables image ++ bytes image)
    c.args.blocks.now c.args.blocks.now c.args.page.now c.args.writer.now c.put_header.new.writer c.in-Ok.field-0 c.copy_contents.new.blocks c.copy_contents.new.page c.copy_contents.new.writer c.copy_contents.result first
    (copies_then g.B.Blocks.is_sound g.B.Blocks.state g.E.Device.state broken m o tables bytes
    c.args.blocks.now c.copy_children.new.blocks c.copy_children.new.page c.put_header.new.writer c.copy_children.new.writer c.in-Ok-copy_children.field-0 c.copy_contents.new.blocks c.copy_contents.new.page c.copy_contents.new.writer c.copy_contents.result second third))
