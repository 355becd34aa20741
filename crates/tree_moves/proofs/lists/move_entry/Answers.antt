use Rattle.std.proofs.Common.{arith, sym, subst, Bool, ◌+◌, [], ◌∷◌, ◌++◌}
use Rattle.std.specs.Prelude.{OnOk}
use Rattle.cg_io.specs.Blocks.{Both}
use Rattle.tree_moves.specs.Relisted.{MovesBy}
use Rattle.tree_moves.proofs.Relinked.{leaves_by, leaves_within}
use Rattle.std.proofs.lemmas.Result.{on_ok_weaker}
use Rattle.field_access.specs.Fields.{range}
use Rattle.field_access.proofs.WaitLaws.{within_later, within_self, within_then, within_right, waits_wider}
use Rattle.tree_edits.specs.Waiting.{list_ranges}
use Rattle.tree_edits.specs.Joined.{extents_of_table}
use Rattle.tree_moves.proofs.lists.move_entry.Goals as goal

pub move_last-requires-clause-list : goal.move_last-requires-clause-list
move_last-requires-clause-list g c =
    let s = c.requires.same c.if-its.true in let lt = c.requires.list.within in
    record { table = c.requires.table; within = omega (arith, s, lt); few = omega (arith, c.requires.unused) }

pub returns-then-its-clause-moved : goal.returns-then-its-clause-moved
returns-then-its-clause-moved g c =
    subst (λ (b : Bool). OnOk c.move_last.result (Both (MovesBy b c.args.its.now c.args.table c.args.entry.now) (g.S.ReadBytes.image c.args.space.now) (g.S.ReadBytes.image c.move_last.new.space))) (sym c.if-its.true) c.move_last.ensures.moved

pub returns-then-its-clause-writes : goal.returns-then-its-clause-writes
returns-then-its-clause-writes g c =
    let cost = leaves_within c.args.table c.args.its.now (c.requires.same c.if-its.true) in
    let w = c.move_last.ensures.writes in
    record { sound = w.sound; waits = (let n = w.waits in omega (arith, n, cost)); effect = w.effect; cause = w.cause }

pub returns-clause-moved : goal.returns-clause-moved
returns-clause-moved g c =
    subst (λ (b : Bool). OnOk c.move_over.result (Both (MovesBy b c.args.its.now c.args.table c.args.entry.now) (g.S.ReadBytes.image c.args.space.now) (g.S.ReadBytes.image c.move_over.new.space))) (sym c.if-its.false) c.move_over.ensures.moved

pub returns-clause-writes : goal.returns-clause-writes
returns-clause-writes g c =
    let cost = leaves_by c.args.its.now.source.listed in
    let w = c.move_over.ensures.writes in
    record { sound = w.sound; waits = (let n = w.waits in omega (arith, n, cost)); effect = w.effect; cause = w.cause }

pub returns-then-its-clause-waits : goal.returns-then-its-clause-waits
returns-then-its-clause-waits g c =
    let its = c.args.its.now in
    let from = list_ranges its.source.from.place its.source.listed.table in
    let to = list_ranges its.to.row.place c.args.table in
    let table = extents_of_table c.args.table in
    on_ok_weaker c.move_last.result
    (λ w. waits_wider table (from ++ to) _ _ (within_then table to (from ++ to) (within_later (range (its.to.row.place + 68) 28) table table (within_self table)) (within_right from to)) w)
    c.move_last.ensures.waits
