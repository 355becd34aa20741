use Rattle.std.proofs.Common.{◌≡◌, ◌+◌, ◌*◌, arith, subst, [], ◌∷◌, ◌++◌}
use Rattle.adf_format.specs.HeapRule.{grown_entries}
use Rattle.adf_format.specs.RecordFields.{table_length}
use Rattle.cg_io.specs.Answers.{IsUntold}
use Rattle.cg_io.specs.Blocks.{Both}
use Rattle.cg_io.proofs.ReadLaws.{few_only, only_then}
use Rattle.tree_edits.specs.Linked.{longer_length}
use Rattle.tree_edits.specs.Taken.{Takes, LacksBytes, IsRoomless}
use Rattle.tree_edits.proofs.CreateDone.{told_both}
use Rattle.tree_edits.proofs.LinkPut.{refused_behind}
use Rattle.tree_edits.proofs.LongerDone.{may_replace_held, joins_held}
use Rattle.field_access.specs.Fields.{range}
use Rattle.tree_edits.proofs.WaitSteps.{told_both_then}
use Rattle.tree_edits.proofs.Waiting.{taken_then}
use Rattle.tree_edits.specs.Waiting.{WaitsInRoom, TakesInRoom, IfTold, parent_ranges}
use Rattle.tree_edits.proofs.longer.join_longer.Goals as goal

pub returns-in-Err-clause-writes : goal.returns-in-Err-clause-writes
returns-in-Err-clause-writes g c =
    let heap = c.args.heap.now in
    let long : 20 + 44 * c.from.result ≡ longer_length c.args.parent = omega (arith, c.from.ensures, c.grown.ensures) in
    record {
      sound = c.in-Err.ensures.writes.sound;
      waits = omega (arith, c.in-Err.ensures.writes.waits);
      effect = few_only 64 _ _ c.in-Err.ensures.writes.effect;
      cause = subst (λ n. IsRoomless (LacksBytes heap.limit n heap.work.heap) (IsUntold (g.S.ReadBytes.image c.args.space.now)) (g.S.ReadBytes.state c.args.space.now).faults (g.S.ReadBytes.state c.take_room.new.space).faults c.in-Err.error) long c.in-Err.ensures.writes.cause;
    }

pub replace_table-requires-clause-ready : goal.replace_table-requires-clause-ready
replace_table-requires-clause-ready g c =
    let heap = c.args.heap.now in
    let long : 20 + 44 * c.from.result ≡ longer_length c.args.parent = omega (arith, c.from.ensures, c.grown.ensures) in
    may_replace_held heap.limit c.in-Ok.place c.args.parent c.args.entry.now heap.work c.take_room.new.heap.work c.requires.full (g.S.ReadBytes.image c.args.space.now) (g.S.ReadBytes.image c.take_room.new.space) c.requires.ready c.requires.own
    (subst (λ n. Both (Takes heap.limit n c.in-Ok.place heap.work c.take_room.new.heap.work) (g.S.ReadBytes.image c.args.space.now) (g.S.ReadBytes.image c.take_room.new.space)) long c.in-Ok.ensures.takes)

pub returns-in-Ok-replace_table-clause-joined : goal.returns-in-Ok-replace_table-clause-joined
returns-in-Ok-replace_table-clause-joined g c =
    let heap = c.args.heap.now in
    let long : 20 + 44 * c.from.result ≡ longer_length c.args.parent = omega (arith, c.from.ensures, c.grown.ensures) in
    joins_held heap.limit c.in-Ok.place c.args.parent c.args.entry.now heap.work c.take_room.new.heap.work c.requires.full (g.S.ReadBytes.image c.args.space.now) (g.S.ReadBytes.image c.take_room.new.space) (g.S.ReadBytes.image c.replace_table.new.space) c.replace_table.new.heap.work c.requires.ready c.requires.own
    (subst (λ n. Both (Takes heap.limit n c.in-Ok.place heap.work c.take_room.new.heap.work) (g.S.ReadBytes.image c.args.space.now) (g.S.ReadBytes.image c.take_room.new.space)) long c.in-Ok.ensures.takes)
    (let near = c.in-Ok.ensures.near in omega (arith, near, long)) c.in-Ok-replace_table.ensures.replaced

pub returns-in-Ok-replace_table-clause-writes : goal.returns-in-Ok-replace_table-clause-writes
returns-in-Ok-replace_table-clause-writes g c = record {
  sound = c.in-Ok-replace_table.ensures.writes.sound;
  waits = omega (arith, c.in-Ok.ensures.writes.waits, c.in-Ok-replace_table.ensures.writes.waits);
  effect = only_then _ _ _ (few_only 64 _ _ c.in-Ok.ensures.writes.effect) c.in-Ok-replace_table.ensures.writes.effect;
  cause = tt;
}

pub returns-in-Err-replace_table-clause-writes : goal.returns-in-Err-replace_table-clause-writes
returns-in-Err-replace_table-clause-writes g c =
    let heap = c.args.heap.now in
    let one = few_only 64 _ _ c.in-Ok.ensures.writes.effect in
    record {
      sound = c.in-Err-replace_table.ensures.writes.sound;
      waits = omega (arith, c.in-Ok.ensures.writes.waits, c.in-Err-replace_table.ensures.writes.waits);
      effect = only_then _ _ _ one c.in-Err-replace_table.ensures.writes.effect;
      cause = refused_behind (LacksBytes heap.limit (table_length (grown_entries c.args.parent.table.count)) heap.work.heap) (IsUntold (g.S.ReadBytes.image c.take_room.new.space)) (IsUntold (g.S.ReadBytes.image c.args.space.now))
          (told_both (Takes heap.limit (20 + 44 * c.from.result) c.in-Ok.place heap.work c.take_room.new.heap.work) (g.S.ReadBytes.image c.args.space.now) (g.S.ReadBytes.image c.take_room.new.space) c.in-Ok.ensures.takes)
          _ (g.S.ReadBytes.state c.take_room.new.space).faults _ c.in-Err-replace_table.error one.faults c.in-Err-replace_table.ensures.writes.cause;
    }

pub returns-in-Ok-replace_table-clause-waits : goal.returns-in-Ok-replace_table-clause-waits
returns-in-Ok-replace_table-clause-waits g c =
    let parent = c.args.parent in
    let was = c.args.heap.now in
    let mid = c.take_room.new.heap in
    let now = c.replace_table.new.heap in
    let x = g.S.ReadBytes.waiting c.args.space.now in
    let y = g.S.ReadBytes.waiting c.take_room.new.space in
    let z = g.S.ReadBytes.waiting c.replace_table.new.space in
    let long : 20 + 44 * c.from.result ≡ longer_length parent = omega (arith, c.from.ensures, c.grown.ensures) in
    let room = range c.in-Ok.place (longer_length parent) ∷ [] in
    told_both_then (Takes was.limit (20 + 44 * c.from.result) c.in-Ok.place was.work mid.work) (g.S.ReadBytes.image c.args.space.now) (g.S.ReadBytes.image c.take_room.new.space)
    (TakesInRoom room was.work.heap mid.work.heap x y) (WaitsInRoom (room ++ parent_ranges parent) mid.work.heap now.work.heap y z) (WaitsInRoom (parent_ranges parent) was.work.heap now.work.heap x z)
    c.in-Ok.ensures.takes
    (λ t w. taken_then room (parent_ranges parent) was.work.heap mid.work.heap now.work.heap x y z t w)
    (subst (λ n. IfTold (g.S.ReadBytes.image c.args.space.now) (TakesInRoom (range c.in-Ok.place n ∷ []) was.work.heap mid.work.heap x y)) long c.in-Ok.ensures.waits)
    c.in-Ok-replace_table.ensures.waits
