use Rattle.std.proofs.Common.{◌+◌, inl, inr, refl, sym, ap, subst, arith, List, ℕ, Option}
use Rattle.std.specs.Prelude.{IfSome}
use Rattle.std.proofs.lemmas.Result.{on_ok_weaker}
use Rattle.cg_io.specs.Waits.{how_many}
use Rattle.cg_io.proofs.ReadLaws.{only_then}
use Rattle.tree_edits.specs.declared.memory.Core.{Core}
use Rattle.tree_edits.specs.Taken.{IsReady}
use Rattle.tree_edits.proofs.Causes.{where_ok}
use Rattle.tree_edits.proofs.CreateDone.{made_in, means_ready_held}
use Rattle.tree_moves.specs.Relisted.{Relists, move_cost, move_ranges}
use Rattle.tree_moves.proofs.Calls.{near_row, near_again, fits_all, list_near, relist_cause, memory_causes, memory_refuses}
use Rattle.tree_moves.proofs.MoveDone.{done}
use Rattle.tree_moves.proofs.Owned.{owns_held}
use Rattle.tree_moves.proofs.Refused.{refuses_held, place_is_cause}
use Rattle.tree_edits.specs.Waiting.{WaitsInRoom, IfTold}
use Rattle.tree_moves.proofs.MoveWaits.{move_reached}
use Rattle.tree_moves.proofs.moving.move_to.Goals as goal

pub returns-in-Err-clause-refused : goal.returns-in-Err-clause-refused
returns-in-Err-clause-refused g c =
    refuses_held c.args.core.now c.args.node c.args.at (g.S.ReadBytes.image c.args.space.now) _ _ c.in-Err.error (place_is_cause c.args.core.now c.args.node c.args.at (g.S.ReadBytes.image c.args.space.now) _ _ c.in-Err.error c.in-Err.ensures.reads.cause)

pub returns-in-Err-clause-writes : goal.returns-in-Err-clause-writes
returns-in-Err-clause-writes g c = (
  0,
  inl refl,
  record {
    sound = c.in-Err.ensures.reads.sound;
    waits = omega (arith, ap how_many c.in-Err.ensures.reads.waits);
    effect = c.in-Err.ensures.reads.effect;
    cause = place_is_cause c.args.core.now c.args.node c.args.at (g.S.ReadBytes.image c.args.space.now) _ _ c.in-Err.error c.in-Err.ensures.reads.cause;
  },
)

pub relist-requires-clause-ready : goal.relist-requires-clause-ready
relist-requires-clause-ready g c =
    subst (λ held. IfSome held (IsReady c.args.core.now.heap.work)) (sym c.in-Ok.ensures.reads.bytes) (means_ready_held c.args.core.now (g.S.ReadBytes.image c.args.space.now) c.requires.means)

pub relist-requires-clause-own : goal.relist-requires-clause-own
relist-requires-clause-own g c =
    owns_held c.args.core.now c.args.node c.args.at c.in-Ok.its (g.S.ReadBytes.image c.args.space.now) (g.S.ReadBytes.image c.find_move.new.space) c.in-Ok.ensures.reads.bytes c.in-Ok.ensures.may c.requires.means

pub relist-requires-clause-here : goal.relist-requires-clause-here
relist-requires-clause-here g c = let h = near_row c.args.core.now.wide c.args.core.now.rows.items c.args.node.serial c.in-Ok.its.row c.requires.near c.in-Ok.ensures.may.looked.may.may.found in omega (arith, h)

pub relist-requires-clause-from : goal.relist-requires-clause-from
relist-requires-clause-from g c = near_row c.args.core.now.wide c.args.core.now.rows.items c.in-Ok.ensures.may.parent c.in-Ok.its.source.from c.requires.near c.in-Ok.ensures.may.looked.source_is.from

pub relist-requires-clause-to : goal.relist-requires-clause-to
relist-requires-clause-to g c = near_row c.args.core.now.wide c.args.core.now.rows.items c.args.at.serial c.in-Ok.its.to.row c.requires.near c.in-Ok.ensures.may.looked.may.may.target.node.found

pub relist-requires-clause-list : goal.relist-requires-clause-list
relist-requires-clause-list g c = list_near c.args.core.now c.args.node c.args.at (g.S.ReadBytes.image c.args.space.now) c.in-Ok.its c.in-Ok.ensures.may c.in-Ok.ensures.near

pub relist-requires-clause-few : goal.relist-requires-clause-few
relist-requires-clause-few g c = c.in-Ok.ensures.may.room.few

pub relist-requires-clause-same : goal.relist-requires-clause-same
relist-requires-clause-same g c = c.in-Ok.ensures.may.looked.same

pub returns-in-Err-relist-clause-refused : goal.returns-in-Err-relist-clause-refused
returns-in-Err-relist-clause-refused g c =
    refuses_held c.args.core.now c.args.node c.args.at (g.S.ReadBytes.image c.args.space.now) _ _ c.in-Err-relist.error
    (relist_cause c.args.core.now c.args.node c.args.at (g.S.ReadBytes.image c.args.space.now) c.in-Ok.its c.in-Ok.ensures.may (g.S.ReadBytes.image c.find_move.new.space) c.in-Ok.ensures.reads.bytes _ (g.S.ReadBytes.state c.find_move.new.space).faults _ c.in-Err-relist.error c.in-Ok.ensures.reads.effect.faults c.in-Err-relist.ensures.writes.cause)

pub returns-in-Err-relist-clause-writes : goal.returns-in-Err-relist-clause-writes
returns-in-Err-relist-clause-writes g c = (
  move_cost c.in-Ok.its,
  inr (c.in-Ok.its, c.in-Ok.ensures.may, refl),
  record {
    sound = c.in-Err-relist.ensures.writes.sound;
    waits = omega (arith, ap how_many c.in-Ok.ensures.reads.waits, c.in-Err-relist.ensures.writes.waits);
    effect = only_then _ _ _ c.in-Ok.ensures.reads.effect c.in-Err-relist.ensures.writes.effect;
    cause = relist_cause c.args.core.now c.args.node c.args.at (g.S.ReadBytes.image c.args.space.now) c.in-Ok.its c.in-Ok.ensures.may (g.S.ReadBytes.image c.find_move.new.space) c.in-Ok.ensures.reads.bytes _ (g.S.ReadBytes.state c.find_move.new.space).faults _ c.in-Err-relist.error c.in-Ok.ensures.reads.effect.faults c.in-Err-relist.ensures.writes.cause;
  },
)

pub overflow_add-depth : goal.overflow_add-depth
overflow_add-depth g c = let r = c.in-Ok.ensures.may.room in let f = r.fits in let l = r.is.least in omega (arith, f, l)

pub shift-requires-clause-top : goal.shift-requires-clause-top
shift-requires-clause-top g c = c.in-Ok.ensures.may.looked.may.may.found

pub shift-requires-clause-fits : goal.shift-requires-clause-fits
shift-requires-clause-fits g c = fits_all c.args.core.now c.args.node c.args.at (g.S.ReadBytes.image c.args.space.now) c.in-Ok.its c.in-Ok.ensures.may

pub returns-clause-done : goal.returns-clause-done
returns-clause-done g c =
    let is : Core = record { heap = c.relist.new.heap; rows = c.shift.new.rows; wide = c.args.core.now.wide; writable = c.args.core.now.writable } in
    on_ok_weaker c.shift.result (λ s. done c.args.core.now c.args.node c.args.at c.in-Ok.its is refl (c.in-Ok.its.to.row.depth + 1) refl s (g.S.ReadBytes.image c.args.space.now) (g.S.ReadBytes.image c.relist.new.space) c.in-Ok.ensures.may
    (made_in (Relists c.args.core.now.heap.limit c.in-Ok.its c.args.core.now.heap.work c.relist.new.heap.work) (g.S.ReadBytes.image c.args.space.now) (g.S.ReadBytes.image c.find_move.new.space) (g.S.ReadBytes.image c.relist.new.space) c.in-Ok.ensures.reads.bytes c.in-Ok-relist.ensures.listed))
    c.shift.ensures.shifts

pub returns-clause-allowed : goal.returns-clause-allowed
returns-clause-allowed g c = where_ok c.shift.result _ (c.in-Ok.its, c.in-Ok.ensures.may)

pub returns-clause-refused : goal.returns-clause-refused
returns-clause-refused g c = memory_refuses c.args.core.now c.args.node c.args.at (g.S.ReadBytes.image c.args.space.now) c.in-Ok.its c.in-Ok.ensures.may c.shift.result c.shift.ensures.cause

pub returns-clause-near : goal.returns-clause-near
returns-clause-near g c = near_again c.args.core.now.wide c.args.core.now.rows.items c.shift.new.rows.items c.shift.ensures.places c.requires.near

pub returns-clause-writes : goal.returns-clause-writes
returns-clause-writes g c = (
  move_cost c.in-Ok.its,
  inr (c.in-Ok.its, c.in-Ok.ensures.may, refl),
  record {
    sound = c.in-Ok-relist.ensures.writes.sound;
    waits = omega (arith, ap how_many c.in-Ok.ensures.reads.waits, c.in-Ok-relist.ensures.writes.waits);
    effect = only_then _ _ _ c.in-Ok.ensures.reads.effect c.in-Ok-relist.ensures.writes.effect;
    cause = memory_causes c.args.core.now c.args.node c.args.at (g.S.ReadBytes.image c.args.space.now) c.in-Ok.its c.in-Ok.ensures.may c.shift.result _ _ c.shift.ensures.cause;
  },
)

pub returns-clause-reached : goal.returns-clause-reached
returns-clause-reached g c =
    let core = c.args.core.now in
    let is : Core = record { heap = c.relist.new.heap; rows = c.shift.new.rows; wide = core.wide; writable = core.writable } in
    let its = c.in-Ok.its in
    let a = core.heap.work.heap in
    let d = c.relist.new.heap.work.heap in
    let z = g.S.ReadBytes.waiting c.relist.new.space in
    where_ok c.shift.result _
    (move_reached core c.args.node c.args.at its is (g.S.ReadBytes.image c.args.space.now) (g.S.ReadBytes.waiting c.args.space.now) z c.in-Ok.ensures.may
    (subst (λ (blocks : List ℕ). IfTold (g.S.ReadBytes.image c.args.space.now) (WaitsInRoom (move_ranges its) a d blocks z)) c.in-Ok.ensures.reads.waits
    (subst (λ (o : Option (List ℕ)). IfTold o (WaitsInRoom (move_ranges its) a d (g.S.ReadBytes.waiting c.find_move.new.space) z)) c.in-Ok.ensures.reads.bytes c.in-Ok-relist.ensures.waits)))
