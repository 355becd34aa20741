use Rattle.cg_io.proofs.ReadLaws.{refused_for}
use Rattle.data_edits.proofs.Reshaping.{released_become, released_none}
use Rattle.data_edits.proofs.DataWaits.{given_wait}
use Rattle.data_edits.proofs.shape.release_data.Goals as goal

pub returns-in-Ok-clause-becomes : goal.returns-in-Ok-clause-becomes
returns-in-Ok-clause-becomes g c = λ shape gone.
    released_become c.args.heap.now.limit c.args.header.now shape gone c.release.new.at c.in-Ok.ensures.gone c.args.heap.now.work.heap c.release.new.heap.work c.in-Ok.ensures.heap
    (g.S.ReadBytes.image c.args.space.now) (g.S.ReadBytes.image c.release.new.space) c.in-Ok.ensures.gives c.in-Ok.ensures.bytes c.in-Ok.ensures.threads c.in-Ok.ensures.end c.in-Ok.ensures.fillers

pub returns-in-Err-clause-cause : goal.returns-in-Err-clause-cause
returns-in-Err-clause-cause g c = refused_for _ _ _ _ c.in-Err.error (released_none c.args.header.now (g.S.ReadBytes.image c.args.space.now) c.args.heap.now.work.heap) c.in-Err.ensures.cause

pub returns-in-Ok-clause-only : goal.returns-in-Ok-clause-only
returns-in-Ok-clause-only g c = given_wait c.args.header.now c.args.heap.now.work.heap c.release.new.heap.work.heap (g.S.ReadBytes.image c.args.space.now) _ _ c.release.ensures.only
