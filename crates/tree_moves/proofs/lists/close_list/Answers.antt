use Rattle.std.proofs.Common.{◌≡◌, ℕ, arith, sym, subst, refl, Option}
use Rattle.std.specs.Prelude.{OnOk}
use Rattle.cg_io.specs.Blocks.{Both}
use Rattle.tree_moves.specs.Relisted.{ClosesIn, close_cost}
use Rattle.tree_moves.proofs.Relinked.{closes_none}
use Rattle.tree_edits.proofs.WaitSteps.{told_always}
use Rattle.tree_edits.proofs.Waiting.{room_begins}
use Rattle.tree_edits.specs.Joined.{extents_of_table}
use Rattle.tree_moves.proofs.lists.close_list.Goals as goal

pub returns-in-Some-clause-given : goal.returns-in-Some-clause-given
returns-in-Some-clause-given g c =
    subst (λ (o : Option ℕ). OnOk c.give_table.result (Both (ClosesIn c.args.table o c.args.heap.now.work c.give_table.new.heap.work) (g.S.ReadBytes.image c.args.space.now) (g.S.ReadBytes.image c.give_table.new.space))) (sym c.in-Some.is) c.give_table.ensures.given

pub returns-in-Some-clause-writes : goal.returns-in-Some-clause-writes
returns-in-Some-clause-writes g c =
    let w = c.give_table.ensures.writes in
    record { sound = w.sound; waits = (let n = w.waits in let k : close_cost c.args.room ≡ 12 = subst (λ (o : Option ℕ). close_cost o ≡ 12) (sym c.in-Some.is) refl in omega (arith, n, k)); effect = w.effect; cause = w.cause }

pub returns-in-None-clause-given : goal.returns-in-None-clause-given
returns-in-None-clause-given g c = closes_none c.args.table c.args.room c.args.heap.now.work (g.S.ReadBytes.image c.args.space.now) c.in-None.is

pub returns-in-None-clause-waits : goal.returns-in-None-clause-waits
returns-in-None-clause-waits g c =
    told_always (g.S.ReadBytes.image c.args.space.now) _ (room_begins (extents_of_table c.args.table) c.args.heap.now.work.heap (g.S.ReadBytes.waiting c.args.space.now))
