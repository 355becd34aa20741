use Rattle.std.proofs.Common.{refl, length, Some}
use Rattle.std.proofs.lemmas.Result.{on_ok_weaker, IfOk-weaker}
use Rattle.strided.specs.RunLists.{spread}
use Rattle.data_edits.specs.Becomes.{NoneOwned}
use Rattle.data_edits.specs.Puts.{LacksData, put_on}
use Rattle.data_edits.proofs.NewData.{become_same, new_become, new_full, new_pays, lacks_chunk, untold_none, takes_room, over_pays}
use Rattle.data_edits.proofs.PutFacts.{all_ends, all_bytes, all_keeps, all_put}
use Rattle.data_edits.proofs.Reshaping.{asks_no_room, never_full}
use Rattle.data_edits.proofs.ShapeDone.{where_ok}
use Rattle.data_edits.proofs.DataWaits.{new_wait}
use Rattle.data_edits.proofs.placing.place_whole.Goals as goal

pub returns-then-header-eq0-clause-becomes : goal.returns-then-header-eq0-clause-becomes
returns-then-header-eq0-clause-becomes g c =
    IfOk-weaker c.put_whole.result _ _
    (λ now x. new_become c.args.heap.now.limit c.args.bytes.now c.args.header.now c.if-header-eq0.true (λ was. Some c.args.bytes.now) refl
    now c.args.heap.now.work.heap c.put_whole.new.heap.work c.put_whole.ensures.heap (g.S.ReadBytes.image c.args.space.now) (g.S.ReadBytes.image c.put_whole.new.space) x c.put_whole.ensures.bytes)
    c.put_whole.ensures.put

pub returns-then-header-eq0-clause-exact : goal.returns-then-header-eq0-clause-exact
returns-then-header-eq0-clause-exact g c = λ asked end is.
    new_full c.args.heap.now.limit c.args.bytes.now c.args.header.now c.if-header-eq0.true (λ was. Some c.args.bytes.now) refl
    (g.S.ReadBytes.image c.args.space.now) c.args.heap.now.work.heap (length c.args.bytes.now) _ refl (c.put_whole.ensures.full asked end is)

pub returns-then-header-eq0-clause-waits : goal.returns-then-header-eq0-clause-waits
returns-then-header-eq0-clause-waits g c =
    on_ok_weaker c.put_whole.result (λ le. new_pays c.args.header.now (length c.args.bytes.now) _ _ c.requires.size le) c.put_whole.ensures.waits

pub returns-then-header-eq0-clause-cause : goal.returns-then-header-eq0-clause-cause
returns-then-header-eq0-clause-cause g c =
    takes_room (LacksData c.args.heap.now.limit c.args.header.now c.args.heap.now.work.heap) _ (NoneOwned c.args.header.now c.args.heap.now.work.heap (g.S.ReadBytes.image c.args.space.now)) c.put_whole.result _ _
    (untold_none c.args.header.now c.args.heap.now.work.heap (g.S.ReadBytes.image c.args.space.now))
    (λ asked end is. lacks_chunk c.args.heap.now.limit (length c.args.bytes.now) c.args.header.now c.args.heap.now.work.heap asked end c.if-header-eq0.true c.requires.size (c.put_whole.ensures.full asked end is))
    c.put_whole.ensures.cause

pub write_over-requires-clause-ends : goal.write_over-requires-clause-ends
write_over-requires-clause-ends g c = all_ends (length c.args.bytes.now) c.args.bytes.now refl c.in-Ok.runs c.in-Ok.ensures.run

pub write_over-requires-clause-bytes : goal.write_over-requires-clause-bytes
write_over-requires-clause-bytes g c = all_bytes (length c.args.bytes.now) c.args.bytes.now refl c.in-Ok.runs c.in-Ok.ensures.run

pub write_over-requires-clause-long : goal.write_over-requires-clause-long
write_over-requires-clause-long g c = all_keeps (length c.args.bytes.now) c.args.bytes.now refl c.in-Ok.runs c.in-Ok.ensures.run

pub returns-clause-becomes : goal.returns-clause-becomes
returns-clause-becomes g c =
    IfOk-weaker c.write_over.result _ _
    (λ now x. become_same c.args.heap.now.limit (length c.args.bytes.now) (put_on (length c.args.bytes.now) 1 (spread c.in-Ok.runs) c.args.bytes.now) (λ was. Some c.args.bytes.now) c.args.header.now
    now c.args.heap.now.work.heap c.args.heap.now.work (g.S.ReadBytes.image c.args.space.now) (g.S.ReadBytes.image c.write_over.new.space) c.requires.size
    (all_put (length c.args.bytes.now) c.args.bytes.now refl c.in-Ok.runs c.in-Ok.ensures.run) x)
    c.write_over.ensures.becomes

pub returns-clause-exact : goal.returns-clause-exact
returns-clause-exact g c = λ asked end is. absurd (never_full _ c.write_over.result _ _ c.write_over.ensures.cause asked end is)

pub returns-clause-waits : goal.returns-clause-waits
returns-clause-waits g c = where_ok c.write_over.result _ (over_pays c.args.header.now (length c.args.bytes.now) _ _ c.requires.size c.write_over.ensures.waits)

pub returns-clause-cause : goal.returns-clause-cause
returns-clause-cause g c = asks_no_room (LacksData c.args.heap.now.limit c.args.header.now c.args.heap.now.work.heap) _ c.write_over.result _ _ c.write_over.ensures.cause

pub returns-then-header-eq0-clause-only : goal.returns-then-header-eq0-clause-only
returns-then-header-eq0-clause-only g c =
    where_ok c.put_whole.result _ (new_wait c.args.header.now c.args.heap.now.work.heap c.put_whole.new.heap.work.heap (g.S.ReadBytes.image c.args.space.now) _ _ c.put_whole.ensures.only)
