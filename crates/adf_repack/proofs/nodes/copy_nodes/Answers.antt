use Rattle.std.proofs.Common.{◌≡◌, ◌+◌, ◌<◌, ◌++◌, sym, subst, arith, ℕ, List, Option, length, Ok}
use Rattle.std.proofs.lemmas.List.Sums.{sum_by_more}
use Rattle.adf_repack.specs.Places.{room_of}
use Rattle.adf_repack.specs.Plans.{shape_at, no_shape, copied_at, copied_until, room_until, BreaksNode, BreaksOne}
use Rattle.adf_repack.proofs.PayloadLaws.{flat_more}
use Rattle.adf_repack.proofs.CopyingLaws.{copies_then, copies_wider, copies_as}
use Rattle.adf_repack.proofs.nodes.copy_nodes.Goals as goal

pub loop-number-preserved : goal.loop-number-preserved
loop-number-preserved g c =
    let plan = c.args.plan.now in
    let nodes = c.args.nodes.now in
    let wide = c.args.wide in
    let n = c.loop-number.number in
    let held = (g.B.Blocks.state c.args.blocks.now).held in
    let again = (g.B.Blocks.state c.loop-number.blocks).held in
    let broken : ℕ → ℕ → Type 0 = BreaksOne held wide nodes plan in
    let same : again ≡ held = c.loop-number.invariant.reads.held in
    let room : ℕ = room_of plan.wide (shape_at plan n) in
    let within : n < length plan.shapes.items = omega (arith, c.loop-number-test.true, c.requires.plan.shapes) in
    copies_as g.B.Blocks.is_sound g.B.Blocks.state g.E.Device.state broken (room_until plan n + room) (room_until plan (n + 1)) (λ image. copied_until image wide nodes plan n ++ copied_at image wide nodes plan n)
    (λ image. copied_until image wide nodes plan (n + 1)) c.args.blocks.now c.copy_node.new.blocks c.copy_node.new.page c.args.writer.now c.copy_node.new.writer (Ok c.in-Ok.field-0)
    (sym (sum_by_more (room_of plan.wide) plan.shapes.items n no_shape within)) (λ image. sym (flat_more (λ k. copied_at image wide nodes plan k) n))
    (copies_then g.B.Blocks.is_sound g.B.Blocks.state g.E.Device.state broken (room_until plan n) room (λ image. copied_until image wide nodes plan n) (λ image. copied_at image wide nodes plan n)
    c.args.blocks.now c.loop-number.blocks c.loop-number.page c.args.writer.now c.loop-number.writer tt c.copy_node.new.blocks c.copy_node.new.page c.copy_node.new.writer (Ok c.in-Ok.field-0) c.loop-number.invariant
    (copies_wider g.B.Blocks.is_sound g.B.Blocks.state g.E.Device.state (BreaksNode again wide nodes plan n) broken
    (λ rule at b. record { number = n; within = omega (arith, c.loop-number-test.true); breaks = subst (λ (o : Option (List ℕ)). BreaksNode o wide nodes plan n rule at) same b }) room (λ image. copied_at image wide nodes plan n)
    c.loop-number.blocks c.copy_node.new.blocks c.copy_node.new.page c.loop-number.writer c.copy_node.new.writer (Ok c.in-Ok.field-0) c.in-Ok.ensures))
