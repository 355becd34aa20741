use Rattle.std.proofs.Common.{◌∙◌, None}
use Rattle.cg_io.proofs.ReadLaws.{few_only, only_then}
use Rattle.tree_asks.proofs.Answered.{tells_free}
use Rattle.tree_asks.proofs.NodeData.{shape_refused}
use Rattle.tree_asks.proofs.DataReads.{all_made, all_small, all_refused, all_told, memory_wanting, read_cause}
use Rattle.tree_asks.proofs.data.all_of.Goals as goal

pub returns-in-Err-clause-told : goal.returns-in-Err-clause-told
returns-in-Err-clause-told g c = tells_free c.args.core.now (g.S.ReadBytes.image c.args.space.now) _ c.in-Err.error c.in-Err.ensures.free

pub returns-in-Err-data_shape-clause-told : goal.returns-in-Err-data_shape-clause-told
returns-in-Err-data_shape-clause-told g c =
    shape_refused c.args.core.now c.args.at c.args.row.place c.in-Ok.header all_made (g.S.ReadBytes.image c.args.space.now) c.in-Err-data_shape.error c.in-Ok.ensures.its c.in-Ok.ensures.small c.in-Err-data_shape.ensures.cause

pub returns-in-Err-one_run-clause-reads : goal.returns-in-Err-one_run-clause-reads
returns-in-Err-one_run-clause-reads g c = record {
  sound = c.in-Ok.ensures.reads.sound;
  bytes = c.in-Ok.ensures.reads.bytes;
  waits = c.in-Ok.ensures.reads.waits;
  effect = few_only 2 _ _ c.in-Ok.ensures.reads.effect;
  cause = memory_wanting c.args.core.now None (g.S.ReadBytes.image c.args.space.now) c.args.row.place c.in-Ok.header c.in-Ok.ensures.read c.in-Ok-data_shape.ensures.some c.in-Ok-data_shape.ensures.short _ _ c.in-Err-one_run.error c.in-Err-one_run.ensures.memory;
}

pub read_runs-requires-clause-small : goal.read_runs-requires-clause-small
read_runs-requires-clause-small g c =
    all_small c.args.core.now c.args.at c.args.row.place c.in-Ok.header c.in-Ok-data_shape.ensures.some c.in-Ok-data_shape.ensures.short c.data_place.result c.data_place.ensures.place c.in-Ok-one_run.runs
    (g.S.ReadBytes.image c.args.space.now) _ c.in-Ok.ensures.reads.bytes c.in-Ok.ensures.its c.size_in.result c.size_in.ensures c.in-Ok-one_run.ensures.run

pub returns-in-Ok-read_runs-clause-told : goal.returns-in-Ok-read_runs-clause-told
returns-in-Ok-read_runs-clause-told g c =
    all_told c.args.core.now c.args.at c.args.row.place c.in-Ok.header c.in-Ok-data_shape.ensures.some c.in-Ok-data_shape.ensures.short c.data_place.result c.data_place.ensures.place c.in-Ok-one_run.runs
    (g.S.ReadBytes.image c.args.space.now) _ c.in-Ok.ensures.reads.bytes c.in-Ok.ensures.its c.size_in.result c.size_in.ensures c.in-Ok-one_run.ensures.run c.in-Ok-read_runs.bytes c.in-Ok-read_runs.ensures.read

pub returns-clause-told : goal.returns-clause-told
returns-clause-told g c =
    all_refused c.args.core.now c.args.at c.args.row.place c.in-Ok.header c.in-Ok-data_shape.ensures.some c.in-Ok-data_shape.ensures.short c.data_place.result c.data_place.ensures.place c.in-Ok-one_run.runs
    (g.S.ReadBytes.image c.args.space.now) _ c.in-Ok.ensures.reads.bytes c.in-Ok.ensures.its c.size_in.result c.size_in.ensures c.in-Ok-one_run.ensures.run _ _ c.in-Err-read_runs.error c.in-Err-read_runs.ensures.cause

pub returns-clause-reads : goal.returns-clause-reads
returns-clause-reads g c = record {
  sound = c.in-Err-read_runs.ensures.sound;
  bytes = c.in-Err-read_runs.ensures.image ∙ c.in-Ok.ensures.reads.bytes;
  waits = c.in-Err-read_runs.ensures.waits ∙ c.in-Ok.ensures.reads.waits;
  effect = only_then _ _ _ (few_only 2 _ _ c.in-Ok.ensures.reads.effect) c.in-Err-read_runs.ensures.effect;
  cause = read_cause c.args.core.now None (g.S.ReadBytes.image c.args.space.now) c.args.row.place c.in-Ok.header c.in-Ok.ensures.read c.in-Ok-data_shape.ensures.some c.in-Ok-data_shape.ensures.short _ _ _ _ c.in-Err-read_runs.error
      c.in-Ok.ensures.reads.effect.faults c.in-Err-read_runs.ensures.cause;
}
