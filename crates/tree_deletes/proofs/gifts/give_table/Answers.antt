use Rattle.std.proofs.Common.{subst, ◌∷◌, [], arith}
use Rattle.std.proofs.lemmas.Result.{on_ok_weaker}
use Rattle.adf_data.specs.Sizes.{Ungivable}
use Rattle.adf_format.specs.declared.types.ExtentKind.{ExtentKind}
use Rattle.adf_format.specs.Placement.{extent}
use Rattle.cg_io.specs.Blocks.{Both}
use Rattle.cg_io.proofs.ReadLaws.{all_refused_for}
use Rattle.tree_edits.specs.Joined.{extents_of_table}
use Rattle.tree_deletes.specs.Given.{GivesTogether}
use Rattle.tree_deletes.proofs.Giving.{none_given, no_table, one_table}
use Rattle.field_access.specs.Fields.{range}
use Rattle.tree_edits.proofs.WaitSteps.{told_always, told_then, some_of, part_of_table}
use Rattle.tree_edits.proofs.Waiting.{room_begins, more_own}
use Rattle.tree_edits.specs.Waiting.{WaitsInRoom}
use Rattle.tree_deletes.proofs.gifts.give_table.Goals as goal

pub returns-then-table-eq0-clause-given : goal.returns-then-table-eq0-clause-given
returns-then-table-eq0-clause-given g c = none_given (extents_of_table c.args.table) c.args.heap.now.work (g.S.ReadBytes.image c.args.space.now) (no_table c.args.table c.if-table-eq0.true) c.requires.threads

pub returns-clause-given : goal.returns-clause-given
returns-clause-given g c =
    on_ok_weaker c.give_range.result
    (λ h. subst (λ es. Both (GivesTogether es c.args.heap.now.work c.give_range.new.heap.work) (g.S.ReadBytes.image c.args.space.now) (g.S.ReadBytes.image c.give_range.new.space))
    (one_table c.args.table c.length.result c.if-table-eq0.false c.length.ensures) (h ExtentKind.SubNodes)) c.give_range.ensures.given

pub returns-clause-writes : goal.returns-clause-writes
returns-clause-writes g c = record {
  sound = c.give_range.ensures.writes.sound;
  waits = c.give_range.ensures.writes.waits;
  effect = c.give_range.ensures.writes.effect;
  cause = all_refused_for ((kind : ExtentKind) → Ungivable (g.S.ReadBytes.image c.args.space.now) (extent kind c.args.table.place c.length.result ∷ []) c.args.heap.now.work.heap) (Ungivable (g.S.ReadBytes.image c.args.space.now) (extents_of_table c.args.table) c.args.heap.now.work.heap) _ _ c.give_range.result
      (λ h. subst (λ es. Ungivable (g.S.ReadBytes.image c.args.space.now) es c.args.heap.now.work.heap) (one_table c.args.table c.length.result c.if-table-eq0.false c.length.ensures) (h ExtentKind.SubNodes)) c.give_range.ensures.writes.cause;
}

pub returns-then-table-eq0-clause-waits : goal.returns-then-table-eq0-clause-waits
returns-then-table-eq0-clause-waits g c =
    told_always (g.S.ReadBytes.image c.args.space.now) _ (room_begins (extents_of_table c.args.table) c.args.heap.now.work.heap (g.S.ReadBytes.waiting c.args.space.now))

pub returns-clause-waits : goal.returns-clause-waits
returns-clause-waits g c =
    let table = c.args.table in
    let was = c.args.heap.now.work.heap in
    let now = c.give_range.new.heap.work.heap in
    let x = g.S.ReadBytes.waiting c.args.space.now in
    let y = g.S.ReadBytes.waiting c.give_range.new.space in
    let given = range table.place c.length.result ∷ [] in
    let own = extents_of_table table in
    on_ok_weaker c.give_range.result
    (λ h. told_then (g.S.ReadBytes.image c.args.space.now) (WaitsInRoom given was now x y) (WaitsInRoom own was now x y)
    (λ w. more_own given own was now x y (part_of_table table table.place c.length.result (some_of table.entries c.if-table-eq0.false) (omega arith) (omega (arith, c.length.ensures))) w) h)
    c.give_range.ensures.waits
