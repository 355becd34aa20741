use Rattle.cg_io.proofs.ReadLaws.{refused_for}
use Rattle.data_edits.proofs.NewData.{over_become, over_none, small_ends}
use Rattle.data_edits.proofs.DataWaits.{over_wait}
use Rattle.data_edits.proofs.placing.write_over.Goals as goal

pub write_runs-requires-clause-small : goal.write_runs-requires-clause-small
write_runs-requires-clause-small g c = small_ends c.args.element c.args.size c.args.runs.now c.requires.small c.requires.ends

pub returns-in-Ok-clause-becomes : goal.returns-in-Ok-clause-becomes
returns-in-Ok-clause-becomes g c =
    over_become c.args.heap.now.limit c.args.size c.args.element c.args.runs.now c.args.bytes.now c.args.header.now c.requires.there c.requires.size c.requires.some c.requires.ends c.requires.long c.args.heap.now.work c.requires.heap
    (g.S.ReadBytes.image c.args.space.now) (g.S.ReadBytes.image c.write_runs.new.space) c.requires.threads c.in-Ok.ensures.written c.in-Ok.ensures.alone

pub returns-in-Ok-clause-waits : goal.returns-in-Ok-clause-waits
returns-in-Ok-clause-waits g c = c.write_runs.ensures.waits c.args.size c.requires.ends

pub returns-in-Err-clause-waits : goal.returns-in-Err-clause-waits
returns-in-Err-clause-waits g c = c.write_runs.ensures.waits c.args.size c.requires.ends

pub returns-in-Err-clause-cause : goal.returns-in-Err-clause-cause
returns-in-Err-clause-cause g c =
    refused_for _ _ _ _ c.in-Err.error
    (over_none c.args.heap.now.limit c.args.size c.args.element c.args.runs.now c.args.bytes.now c.args.header.now c.requires.there c.requires.size c.requires.some c.requires.ends c.args.heap.now.work.heap (g.S.ReadBytes.image c.args.space.now))
    c.in-Err.ensures.cause

pub returns-in-Ok-clause-only : goal.returns-in-Ok-clause-only
returns-in-Ok-clause-only g c = over_wait c.args.header.now c.args.heap.now.work.heap (g.S.ReadBytes.image c.args.space.now) _ _ c.write_runs.ensures.only
