use Rattle.std.proofs.Common.{◌≡◌, ◌+◌, ◌∙◌, List, length, sym, ap, subst, arith, inl, inr, refl, [], ◌∷◌, ℕ}
use Rattle.std.specs.Prelude.{OnOk, IfSome}
use Rattle.std.specs.List.{All}
use Rattle.std.proofs.lemmas.List.Elements.{All-weaker}
use Rattle.std.proofs.lemmas.Result.{on_ok_weaker}
use Rattle.cg_io.specs.Blocks.{Both}
use Rattle.cg_io.specs.Waits.{how_many}
use Rattle.cg_io.proofs.ReadLaws.{only_then, refused_for, all_refused_for}
use Rattle.tree_edits.specs.Left.{LeavesList, leave_cost, entry_place, length_behind}
use Rattle.tree_edits.specs.Undo.{RowsState}
use Rattle.tree_edits.proofs.Causes.{where_ok}
use Rattle.tree_deletes.specs.declared.doomed.Doomed.{Doomed}
use Rattle.tree_deletes.specs.Deleted.{MayDelete}
use Rattle.tree_deletes.specs.Doomed.{IsSane, MeansNone}
use Rattle.tree_deletes.specs.Erased.{serials_of, without_rows}
use Rattle.tree_deletes.specs.Given.{GivesNodes, MayNotGive, gift_cost, NodesWait}
use Rattle.tree_deletes.proofs.Erasing.{count_kept}
use Rattle.tree_deletes.proofs.Done.{fault_after, all_after, threads_then, none_given_up, done, near_left}
use Rattle.field_access.specs.Fields.{range}
use Rattle.tree_edits.proofs.WaitSteps.{waits_again}
use Rattle.tree_deletes.proofs.DeleteReached.{delete_reached}
use Rattle.tree_deletes.proofs.deletion.delete.Goals as goal

pub returns-in-Err-clause-writes : goal.returns-in-Err-clause-writes
returns-in-Err-clause-writes g c = (
  0,
  inl refl,
  record {
    sound = c.in-Err.ensures.reads.sound;
    waits = omega (arith, ap how_many c.in-Err.ensures.reads.waits);
    effect = c.in-Err.ensures.reads.effect;
    cause = c.in-Err.ensures.reads.cause;
  },
)

pub returns-in-Err-erase-clause-writes : goal.returns-in-Err-erase-clause-writes
returns-in-Err-erase-clause-writes g c = (
  0,
  inl refl,
  record {
    sound = c.in-Ok.ensures.reads.sound;
    waits = omega (arith, ap how_many c.in-Ok.ensures.reads.waits);
    effect = c.in-Ok.ensures.reads.effect;
    cause = c.in-Ok.ensures.deletion.may;
  },
)

pub returns-in-Err-leave_list-clause-refused : goal.returns-in-Err-leave_list-clause-refused
returns-in-Err-leave_list-clause-refused g c =
    let core = c.args.core.now in
    let d = c.in-Ok.found in
    let told = g.S.ReadBytes.image c.args.space.now in
    let ends = fault_after core c.args.node d.above d.listed d.nodes.items told c.in-Ok.ensures.deletion _ _ _ c.in-Err-leave_list.error c.in-Ok.ensures.reads.effect.faults
    (refused_for ⊥ (MeansNone core told) _ _ c.in-Err-leave_list.error (λ none. absurd none) c.in-Err-leave_list.ensures.writes.cause) in
    ends.0

pub returns-in-Err-leave_list-clause-writes : goal.returns-in-Err-leave_list-clause-writes
returns-in-Err-leave_list-clause-writes g c =
    let core = c.args.core.now in
    let d = c.in-Ok.found in
    let nodes : List Doomed = d.nodes.items in
    let told = g.S.ReadBytes.image c.args.space.now in
    let ends = fault_after core c.args.node d.above d.listed nodes told c.in-Ok.ensures.deletion _ _ _ c.in-Err-leave_list.error c.in-Ok.ensures.reads.effect.faults
    (refused_for ⊥ (MeansNone core told) _ _ c.in-Err-leave_list.error (λ none. absurd none) c.in-Err-leave_list.ensures.writes.cause) in
    let may : MayDelete core c.args.node told = record { above = d.above; listed = d.listed; nodes = nodes; is = c.in-Ok.ensures.deletion } in (
      leave_cost d.listed + gift_cost nodes,
      inr (may, refl),
      record {
        sound = c.in-Err-leave_list.ensures.writes.sound;
        waits = omega (arith, ap how_many c.in-Ok.ensures.reads.waits, c.in-Err-leave_list.ensures.writes.waits);
        effect = only_then _ _ _ c.in-Ok.ensures.reads.effect c.in-Err-leave_list.ensures.writes.effect;
        cause = ends.1;
      },
    )

pub give_nodes-requires-clause-sane : goal.give_nodes-requires-clause-sane
give_nodes-requires-clause-sane g c =
    let core = c.args.core.now in
    let long : length c.erase.new.rows.items ≡ length core.rows.items = ap length c.in-Ok-erase.ensures.gone ∙ count_kept core.rows.items (serials_of c.deref.result.now) in
    All-weaker (IsSane core) (IsSane (record core { rows = c.erase.new.rows })) (λ d s. record { offset = s.offset; table = s.table; header = s.header; drawn = (let k = s.drawn in omega (arith, k, long)) }) c.deref-2.result.now (subst (All (IsSane core)) (sym c.deref-2.ensures.value) c.in-Ok.ensures.sane)

pub give_nodes-requires-clause-threads : goal.give_nodes-requires-clause-threads
give_nodes-requires-clause-threads g c =
    let core = c.args.core.now in
    let d = c.in-Ok.found in
    let told = g.S.ReadBytes.image c.args.space.now in
    let mid = g.S.ReadBytes.image c.leave_list.new.space in
    threads_then core c.args.node d.above d.listed d.nodes.items told mid c.in-Ok.ensures.deletion c.requires.means (subst (λ x. Both (LeavesList d.above.place d.listed) x mid) c.in-Ok.ensures.reads.bytes c.in-Ok-leave_list.ensures.left)

pub returns-clause-done : goal.returns-clause-done
returns-clause-done g c =
    let core = c.args.core.now in
    let d = c.in-Ok.found in
    let nodes : List Doomed = d.nodes.items in
    let told = g.S.ReadBytes.image c.args.space.now in
    let mid = g.S.ReadBytes.image c.leave_list.new.space in
    let new = g.S.ReadBytes.image c.give_nodes.new.space in
    let left : Both (LeavesList d.above.place d.listed) told mid = subst (λ x. Both (LeavesList d.above.place d.listed) x mid) c.in-Ok.ensures.reads.bytes c.in-Ok-leave_list.ensures.left in
    let erased : c.erase.new.rows.items ≡ without_rows core.rows.items (serials_of nodes) = c.in-Ok-erase.ensures.gone ∙ ap (λ ds. without_rows core.rows.items (serials_of ds)) c.deref.ensures.value in
    let gives = subst (λ ds. OnOk c.give_nodes.result (Both (GivesNodes core.wide ds core.heap.work c.give_nodes.new.core.heap.work) mid new)) c.deref-2.ensures.value c.give_nodes.ensures.given in
    on_ok_weaker c.give_nodes.result
    (λ x. done core c.args.node d.above d.listed nodes told mid new c.give_nodes.new.core.heap.work c.give_nodes.new.core c.in-Ok.ensures.deletion left x c.give_nodes.ensures.wide (ap (λ (r : RowsState). r.items) c.give_nodes.ensures.rows ∙ erased) refl) gives

pub returns-clause-allowed : goal.returns-clause-allowed
returns-clause-allowed g c =
    let d = c.in-Ok.found in
    let may : MayDelete c.args.core.now c.args.node (g.S.ReadBytes.image c.args.space.now) = record { above = d.above; listed = d.listed; nodes = d.nodes.items; is = c.in-Ok.ensures.deletion } in
    where_ok c.give_nodes.result _ may

pub returns-clause-refused : goal.returns-clause-refused
returns-clause-refused g c =
    let core = c.args.core.now in
    let d = c.in-Ok.found in
    let nodes : List Doomed = d.nodes.items in
    let told = g.S.ReadBytes.image c.args.space.now in
    let mid = g.S.ReadBytes.image c.leave_list.new.space in
    let left : Both (LeavesList d.above.place d.listed) told mid = subst (λ x. Both (LeavesList d.above.place d.listed) x mid) c.in-Ok.ensures.reads.bytes c.in-Ok-leave_list.ensures.left in
    let cause = all_refused_for (MayNotGive core.wide c.deref-2.result.now core.heap.work.heap mid) (MeansNone core told) _ _ c.give_nodes.result
    (λ n. none_given_up core c.args.node d.above d.listed nodes told mid c.in-Ok.ensures.deletion left (subst (λ ds. MayNotGive core.wide ds core.heap.work.heap mid) c.deref-2.ensures.value n)) c.give_nodes.ensures.writes.cause in
    let ends = all_after core c.args.node d.above d.listed nodes c.give_nodes.result told c.in-Ok.ensures.deletion (g.S.ReadBytes.state c.args.space.now).faults (g.S.ReadBytes.state c.leave_list.new.space).faults (g.S.ReadBytes.state c.give_nodes.new.space).faults (omega (arith, c.in-Ok.ensures.reads.effect.faults, c.in-Ok-leave_list.ensures.writes.effect.faults)) cause in
    ends.0

pub returns-in-Err-erase-clause-near : goal.returns-in-Err-erase-clause-near
returns-in-Err-erase-clause-near g c = near_left c.args.core.now (record c.args.core.now { rows = c.erase.new.rows }) c.erase.new.rows.items c.requires.near c.in-Err-erase.ensures.each refl refl

pub returns-in-Err-leave_list-clause-near : goal.returns-in-Err-leave_list-clause-near
returns-in-Err-leave_list-clause-near g c = near_left c.args.core.now (record c.args.core.now { rows = c.erase.new.rows }) c.erase.new.rows.items c.requires.near c.in-Ok-erase.ensures.each refl refl

pub returns-clause-near : goal.returns-clause-near
returns-clause-near g c =
    near_left c.args.core.now c.give_nodes.new.core c.erase.new.rows.items c.requires.near c.in-Ok-erase.ensures.each (ap (λ (r : RowsState). r.items) c.give_nodes.ensures.rows) c.give_nodes.ensures.wide

pub returns-clause-writes : goal.returns-clause-writes
returns-clause-writes g c =
    let core = c.args.core.now in
    let d = c.in-Ok.found in
    let nodes : List Doomed = d.nodes.items in
    let told = g.S.ReadBytes.image c.args.space.now in
    let mid = g.S.ReadBytes.image c.leave_list.new.space in
    let left : Both (LeavesList d.above.place d.listed) told mid = subst (λ x. Both (LeavesList d.above.place d.listed) x mid) c.in-Ok.ensures.reads.bytes c.in-Ok-leave_list.ensures.left in
    let cause = all_refused_for (MayNotGive core.wide c.deref-2.result.now core.heap.work.heap mid) (MeansNone core told) _ _ c.give_nodes.result
    (λ n. none_given_up core c.args.node d.above d.listed nodes told mid c.in-Ok.ensures.deletion left (subst (λ ds. MayNotGive core.wide ds core.heap.work.heap mid) c.deref-2.ensures.value n)) c.give_nodes.ensures.writes.cause in
    let ends = all_after core c.args.node d.above d.listed nodes c.give_nodes.result told c.in-Ok.ensures.deletion (g.S.ReadBytes.state c.args.space.now).faults (g.S.ReadBytes.state c.leave_list.new.space).faults (g.S.ReadBytes.state c.give_nodes.new.space).faults (omega (arith, c.in-Ok.ensures.reads.effect.faults, c.in-Ok-leave_list.ensures.writes.effect.faults)) cause in
    let may : MayDelete core c.args.node told = record { above = d.above; listed = d.listed; nodes = nodes; is = c.in-Ok.ensures.deletion } in (
      leave_cost d.listed + gift_cost nodes,
      inr (may, refl),
      record {
        sound = c.give_nodes.ensures.writes.sound;
        waits = (let z = ap gift_cost c.deref-2.ensures.value in omega (arith, ap how_many c.in-Ok.ensures.reads.waits, c.in-Ok-leave_list.ensures.writes.waits, c.give_nodes.ensures.writes.waits, z));
        effect = only_then _ _ _ (only_then _ _ _ c.in-Ok.ensures.reads.effect c.in-Ok-leave_list.ensures.writes.effect) c.give_nodes.ensures.writes.effect;
        cause = ends.1;
      },
    )

pub returns-clause-reached : goal.returns-clause-reached
returns-clause-reached g c =
    let core = c.args.core.now in
    let now = c.give_nodes.new.core in
    let d = c.in-Ok.found in
    let nodes : List Doomed = d.nodes.items in
    let told = g.S.ReadBytes.image c.args.space.now in
    let mid = g.S.ReadBytes.image c.leave_list.new.space in
    let x = g.S.ReadBytes.waiting c.args.space.now in
    let y = g.S.ReadBytes.waiting c.leave_list.new.space in
    let z = g.S.ReadBytes.waiting c.give_nodes.new.space in
    let left : Both (LeavesList d.above.place d.listed) told mid = subst (λ o. Both (LeavesList d.above.place d.listed) o mid) c.in-Ok.ensures.reads.bytes c.in-Ok-leave_list.ensures.left in
    let moved = waits_again (range (entry_place d.listed) (length_behind d.listed) ∷ range (d.above.place + 68) 8 ∷ []) x (g.S.ReadBytes.waiting c.find_deletion.new.space) y c.in-Ok.ensures.reads.waits c.in-Ok-leave_list.ensures.waits in
    on_ok_weaker c.give_nodes.result (λ w. delete_reached core c.args.node d.above d.listed nodes now x y z told mid c.in-Ok.ensures.deletion left moved w)
    (subst (λ ds. OnOk c.give_nodes.result (IfSome mid (NodesWait core.wide ds core.heap.work.heap now.heap.work.heap y z))) c.deref-2.ensures.value c.give_nodes.ensures.waits)
