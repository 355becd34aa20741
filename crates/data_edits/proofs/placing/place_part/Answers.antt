use Rattle.std.proofs.Common.{refl, sym, replicate}
use Rattle.std.proofs.lemmas.List.{length-replicate}
use Rattle.std.proofs.lemmas.Result.{on_ok_weaker, IfOk-weaker}
use Rattle.strided.specs.RunLists.{spread}
use Rattle.adf_data.specs.Runs.{fresh_elements}
use Rattle.data_edits.specs.Becomes.{NoneOwned}
use Rattle.data_edits.specs.Puts.{LacksData, put_on}
use Rattle.data_edits.proofs.NewData.{new_become, new_full, new_pays, lacks_chunk, untold_none, takes_room, over_pays}
use Rattle.data_edits.proofs.Reshaping.{asks_no_room, never_full}
use Rattle.data_edits.proofs.ShapeDone.{where_ok}
use Rattle.data_edits.proofs.DataWaits.{new_wait}
use Rattle.data_edits.proofs.placing.place_part.Goals as goal

pub returns-then-header-eq0-clause-becomes : goal.returns-then-header-eq0-clause-becomes
returns-then-header-eq0-clause-becomes g c =
    IfOk-weaker c.put_part.result _ _
    (λ now x. new_become c.args.heap.now.limit (fresh_elements c.args.size c.args.element c.args.runs.now c.args.bytes.now) c.args.header.now c.if-header-eq0.true (put_on c.args.size c.args.element (spread c.args.runs.now) c.args.bytes.now) refl
    now c.args.heap.now.work.heap c.put_part.new.heap.work c.put_part.ensures.heap (g.S.ReadBytes.image c.args.space.now) (g.S.ReadBytes.image c.put_part.new.space) x c.put_part.ensures.changes)
    c.put_part.ensures.put

pub returns-then-header-eq0-clause-exact : goal.returns-then-header-eq0-clause-exact
returns-then-header-eq0-clause-exact g c = λ asked end is.
    new_full c.args.heap.now.limit (fresh_elements c.args.size c.args.element c.args.runs.now c.args.bytes.now) c.args.header.now c.if-header-eq0.true (put_on c.args.size c.args.element (spread c.args.runs.now) c.args.bytes.now) refl
    (g.S.ReadBytes.image c.args.space.now) c.args.heap.now.work.heap c.args.size _ (sym (c.requires.long (replicate c.args.size 0) (length-replicate c.args.size 0))) (c.put_part.ensures.full asked end is)

pub returns-then-header-eq0-clause-waits : goal.returns-then-header-eq0-clause-waits
returns-then-header-eq0-clause-waits g c =
    on_ok_weaker c.put_part.result (λ le. new_pays c.args.header.now c.args.size _ _ c.requires.size le) c.put_part.ensures.waits

pub returns-then-header-eq0-clause-cause : goal.returns-then-header-eq0-clause-cause
returns-then-header-eq0-clause-cause g c =
    takes_room (LacksData c.args.heap.now.limit c.args.header.now c.args.heap.now.work.heap) _ (NoneOwned c.args.header.now c.args.heap.now.work.heap (g.S.ReadBytes.image c.args.space.now)) c.put_part.result _ _
    (untold_none c.args.header.now c.args.heap.now.work.heap (g.S.ReadBytes.image c.args.space.now))
    (λ asked end is. lacks_chunk c.args.heap.now.limit c.args.size c.args.header.now c.args.heap.now.work.heap asked end c.if-header-eq0.true c.requires.size (c.put_part.ensures.full asked end is))
    c.put_part.ensures.cause

pub returns-clause-exact : goal.returns-clause-exact
returns-clause-exact g c = λ asked end is. absurd (never_full _ c.write_over.result _ _ c.write_over.ensures.cause asked end is)

pub returns-clause-waits : goal.returns-clause-waits
returns-clause-waits g c = where_ok c.write_over.result _ (over_pays c.args.header.now c.args.size _ _ c.requires.size c.write_over.ensures.waits)

pub returns-clause-cause : goal.returns-clause-cause
returns-clause-cause g c = asks_no_room (LacksData c.args.heap.now.limit c.args.header.now c.args.heap.now.work.heap) _ c.write_over.result _ _ c.write_over.ensures.cause

pub returns-then-header-eq0-clause-only : goal.returns-then-header-eq0-clause-only
returns-then-header-eq0-clause-only g c =
    where_ok c.put_part.result _ (new_wait c.args.header.now c.args.heap.now.work.heap c.put_part.new.heap.work.heap (g.S.ReadBytes.image c.args.space.now) _ _ c.put_part.ensures.only)
