use Rattle.std.proofs.Common.{◌∷◌, [], arith, subst}
use Rattle.adf_data.specs.Chunks.{Named}
use Rattle.adf_data.specs.Sizes.{MayGiveAll, Ungivable}
use Rattle.adf_format.specs.declared.types.ExtentKind.{ExtentKind}
use Rattle.adf_format.specs.HeapRule.{data_extents}
use Rattle.adf_format.specs.Placement.{NodeParts, extent}
use Rattle.adf_format.specs.RecordFields.{node_length}
use Rattle.cg_io.specs.Blocks.{Both}
use Rattle.cg_io.proofs.ReadLaws.{only_then, refused_for, refused_later}
use Rattle.tree_edits.specs.Joined.{extents_of_table}
use Rattle.tree_deletes.specs.declared.doomed.Doomed.{Doomed}
use Rattle.tree_deletes.specs.Given.{GivesTogether, NodeMayNot}
use Rattle.tree_deletes.proofs.Giving.{data_given, node_given}
use Rattle.tree_deletes.proofs.GiftRounds.{header_not, table_not, data_not}
use Rattle.field_access.specs.Fields.{range}
use Rattle.tree_deletes.proofs.GiftWaits.{node_waits}
use Rattle.tree_edits.specs.Waiting.{WaitsInRoom, IfTold}
use Rattle.tree_deletes.proofs.gifts.give_node.Goals as goal

pub returns-in-Err-clause-writes : goal.returns-in-Err-clause-writes
returns-in-Err-clause-writes g c =
    let d : Doomed = c.args.node in
    let w0 = c.args.heap.now.work in
    let told = g.S.ReadBytes.image c.args.space.now in
    record {
      sound = c.in-Err.ensures.writes.sound;
      waits = (let w = c.in-Err.ensures.writes.waits in omega (arith, w));
      effect = c.in-Err.ensures.writes.effect;
      cause = refused_for ((kind : ExtentKind) → Ungivable told (extent kind d.place c.node_length.result ∷ []) w0.heap) (NodeMayNot c.args.wide d w0.heap told) _ _ c.in-Err.error
          (λ u. header_not c.args.wide d w0 w0 w0 told (subst (λ n. Ungivable told (extent ExtentKind.Node d.place n ∷ []) w0.heap) c.node_length.ensures (u ExtentKind.Node))) c.in-Err.ensures.writes.cause;
    }

pub returns-in-Err-give_table-clause-writes : goal.returns-in-Err-give_table-clause-writes
returns-in-Err-give_table-clause-writes g c =
    let d : Doomed = c.args.node in
    let w0 = c.args.heap.now.work in
    let w1 = c.give_range.new.heap.work in
    let told = g.S.ReadBytes.image c.args.space.now in
    let first = g.S.ReadBytes.image c.give_range.new.space in
    let h : Both (GivesTogether (extent ExtentKind.Node d.place (node_length c.args.wide) ∷ []) w0 w1) told first =
    subst (λ n. Both (GivesTogether (extent ExtentKind.Node d.place n ∷ []) w0 w1) told first) c.node_length.ensures (c.in-Ok.ensures.given ExtentKind.Node) in
    record {
      sound = c.in-Err-give_table.ensures.writes.sound;
      waits = (let w = c.in-Ok.ensures.writes.waits in let v = c.in-Err-give_table.ensures.writes.waits in omega (arith, w, v));
      effect = only_then _ _ _ c.in-Ok.ensures.writes.effect c.in-Err-give_table.ensures.writes.effect;
      cause = refused_later (Ungivable first (extents_of_table d.table) w1.heap) (NodeMayNot c.args.wide d w0.heap told) _ _ _ c.in-Err-give_table.error c.in-Ok.ensures.writes.effect.faults
          (λ u. table_not c.args.wide d w0 w1 w1 told first h u) c.in-Err-give_table.ensures.writes.cause;
    }

pub returns-in-Err-release-clause-writes : goal.returns-in-Err-release-clause-writes
returns-in-Err-release-clause-writes g c =
    let d : Doomed = c.args.node in
    let w0 = c.args.heap.now.work in
    let w1 = c.give_range.new.heap.work in
    let told = g.S.ReadBytes.image c.args.space.now in
    let first = g.S.ReadBytes.image c.give_range.new.space in
    let w2 = c.give_table.new.heap.work in
    let last = g.S.ReadBytes.image c.give_table.new.space in
    let h : Both (GivesTogether (extent ExtentKind.Node d.place (node_length c.args.wide) ∷ []) w0 w1) told first =
    subst (λ n. Both (GivesTogether (extent ExtentKind.Node d.place n ∷ []) w0 w1) told first) c.node_length.ensures (c.in-Ok.ensures.given ExtentKind.Node) in
    record {
      sound = c.release.ensures.sound;
      waits = (let w = c.in-Ok.ensures.writes.waits in let v = c.in-Ok-give_table.ensures.writes.waits in let x = c.release.ensures.waits in omega (arith, w, v, x));
      effect = only_then _ _ _ (only_then _ _ _ c.in-Ok.ensures.writes.effect c.in-Ok-give_table.ensures.writes.effect) c.release.ensures.effect;
      cause = refused_later ((parts : NodeParts) → Named d.chunks parts last → MayGiveAll (data_extents parts) w2.heap → ⊥) (NodeMayNot c.args.wide d w0.heap told) _ _ _ c.in-Err-release.error
          (let e = c.in-Ok.ensures.writes.effect in let f = c.in-Ok-give_table.ensures.writes.effect in let x = e.faults in let y = f.faults in omega (arith, x, y))
          (λ u. data_not c.args.wide d w0 w1 w2 told first last h c.in-Ok-give_table.ensures.given u) c.in-Err-release.ensures.cause;
    }

pub returns-in-Ok-release-clause-given : goal.returns-in-Ok-release-clause-given
returns-in-Ok-release-clause-given g c =
    let d : Doomed = c.args.node in
    let w0 = c.args.heap.now.work in
    let w1 = c.give_range.new.heap.work in
    let told = g.S.ReadBytes.image c.args.space.now in
    let first = g.S.ReadBytes.image c.give_range.new.space in
    let w2 = c.give_table.new.heap.work in
    let w3 = c.release.new.heap.work in
    let last = g.S.ReadBytes.image c.give_table.new.space in
    let new = g.S.ReadBytes.image c.release.new.space in
    let h : Both (GivesTogether (extent ExtentKind.Node d.place (node_length c.args.wide) ∷ []) w0 w1) told first =
    subst (λ n. Both (GivesTogether (extent ExtentKind.Node d.place n ∷ []) w0 w1) told first) c.node_length.ensures (c.in-Ok.ensures.given ExtentKind.Node) in
    node_given c.args.wide d w0 w1 w2 w3 told first last new h c.in-Ok-give_table.ensures.given
    (data_given d.chunks w2 w3 last new c.in-Ok-release.ensures.gives c.in-Ok-release.ensures.threads c.release.ensures.bytes c.in-Ok-release.ensures.end c.in-Ok-release.ensures.fillers)

pub returns-in-Ok-release-clause-waits : goal.returns-in-Ok-release-clause-waits
returns-in-Ok-release-clause-waits g c =
    let d : Doomed = c.args.node in
    let w0 = c.args.heap.now.work in
    let w1 = c.give_range.new.heap.work in
    let w2 = c.give_table.new.heap.work in
    let w3 = c.release.new.heap.work in
    let told = g.S.ReadBytes.image c.args.space.now in
    let first = g.S.ReadBytes.image c.give_range.new.space in
    let last = g.S.ReadBytes.image c.give_table.new.space in
    let x = g.S.ReadBytes.waiting c.args.space.now in
    let y = g.S.ReadBytes.waiting c.give_range.new.space in
    let z = g.S.ReadBytes.waiting c.give_table.new.space in
    let u = g.S.ReadBytes.waiting c.release.new.space in
    node_waits c.args.wide d w0 w1 w2 w3 x y z u told first last
    (subst (λ n. Both (GivesTogether (extent ExtentKind.Node d.place n ∷ []) w0 w1) told first) c.node_length.ensures (c.in-Ok.ensures.given ExtentKind.Node)) c.in-Ok-give_table.ensures.given
    (subst (λ n. IfTold told (WaitsInRoom (range d.place n ∷ []) w0.heap w1.heap x y)) c.node_length.ensures c.in-Ok.ensures.waits) c.in-Ok-give_table.ensures.waits c.in-Ok-release.ensures.gives c.release.ensures.only
