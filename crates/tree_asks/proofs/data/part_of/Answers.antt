use Rattle.std.proofs.Common.{◌∙◌, Some, Ok, Err, refl, []}
use Rattle.cg_io.proofs.ReadLaws.{few_only, only_then}
use Rattle.tree_asks.proofs.Answered.{tells_free}
use Rattle.tree_asks.proofs.NodeData.{shape_refused}
use Rattle.tree_asks.proofs.DataReads.{part_made, part_small, part_refused, part_told, runs_refused, runs_cause, read_cause, found_fits}
use Rattle.tree_asks.proofs.data.part_of.Goals as goal

pub returns-in-Err-clause-told : goal.returns-in-Err-clause-told
returns-in-Err-clause-told g c = tells_free c.args.core.now (g.S.ReadBytes.image c.args.space.now) _ c.in-Err.error c.in-Err.ensures.free

pub returns-in-Err-data_shape-clause-told : goal.returns-in-Err-data_shape-clause-told
returns-in-Err-data_shape-clause-told g c =
    shape_refused c.args.core.now c.args.at c.args.row.place c.in-Ok.header (part_made c.args.selection.now) (g.S.ReadBytes.image c.args.space.now) c.in-Err-data_shape.error c.in-Ok.ensures.its c.in-Ok.ensures.small c.in-Err-data_shape.ensures.cause

pub returns-in-Err-runs-clause-told : goal.returns-in-Err-runs-clause-told
returns-in-Err-runs-clause-told g c =
    runs_refused c.args.core.now c.args.at c.args.row.place c.in-Ok.header c.in-Ok-data_shape.ensures.some c.in-Ok-data_shape.ensures.short _ refl []
    (g.S.ReadBytes.image c.args.space.now) _ refl c.in-Ok.ensures.its c.args.selection.now c.in-Ok-data_shape.shape c.in-Ok-data_shape.ensures.shape (Err c.in-Err-runs.error) c.in-Err-runs.error refl c.in-Err-runs.ensures.refused c.in-Err-runs.ensures.range

pub returns-in-Err-runs-clause-reads : goal.returns-in-Err-runs-clause-reads
returns-in-Err-runs-clause-reads g c = record {
  sound = c.in-Ok.ensures.reads.sound;
  bytes = c.in-Ok.ensures.reads.bytes;
  waits = c.in-Ok.ensures.reads.waits;
  effect = few_only 2 _ _ c.in-Ok.ensures.reads.effect;
  cause = runs_cause c.args.core.now c.args.selection.now (g.S.ReadBytes.image c.args.space.now) c.args.row.place c.in-Ok.header c.in-Ok.ensures.read c.in-Ok-data_shape.ensures.some c.in-Ok-data_shape.ensures.short c.in-Ok-data_shape.shape c.in-Ok-data_shape.ensures.shape
      (Err c.in-Err-runs.error) _ _ c.in-Err-runs.error refl c.in-Err-runs.ensures.refused c.in-Err-runs.ensures.range;
}

pub read_runs-requires-clause-small : goal.read_runs-requires-clause-small
read_runs-requires-clause-small g c =
    part_small c.args.core.now c.args.at c.args.row.place c.in-Ok.header c.in-Ok-data_shape.ensures.some c.in-Ok-data_shape.ensures.short c.data_place.result c.data_place.ensures.place c.in-Ok-runs.runs
    (g.S.ReadBytes.image c.args.space.now) _ c.in-Ok.ensures.reads.bytes c.in-Ok.ensures.its c.args.selection.now c.in-Ok-data_shape.shape c.in-Ok-data_shape.ensures.shape c.element_size.result c.element_size.ensures c.in-Ok-runs.ensures.within

pub returns-in-Ok-read_runs-clause-told : goal.returns-in-Ok-read_runs-clause-told
returns-in-Ok-read_runs-clause-told g c =
    part_told c.args.core.now c.args.at c.args.row.place c.in-Ok.header c.in-Ok-data_shape.ensures.some c.in-Ok-data_shape.ensures.short c.data_place.result c.data_place.ensures.place c.in-Ok-runs.runs
    (g.S.ReadBytes.image c.args.space.now) _ c.in-Ok.ensures.reads.bytes c.in-Ok.ensures.its c.args.selection.now c.in-Ok-data_shape.shape c.in-Ok-data_shape.ensures.shape c.element_size.result c.element_size.ensures c.in-Ok-runs.ensures.within
    c.in-Ok-read_runs.bytes c.in-Ok-runs.ensures.elements (found_fits (Ok c.in-Ok-runs.runs) c.in-Ok-runs.runs _ c.in-Ok-runs.ensures.range refl) c.in-Ok-read_runs.ensures.read

pub returns-clause-told : goal.returns-clause-told
returns-clause-told g c =
    part_refused c.args.core.now c.args.at c.args.row.place c.in-Ok.header c.in-Ok-data_shape.ensures.some c.in-Ok-data_shape.ensures.short c.data_place.result c.data_place.ensures.place c.in-Ok-runs.runs
    (g.S.ReadBytes.image c.args.space.now) _ c.in-Ok.ensures.reads.bytes c.in-Ok.ensures.its c.args.selection.now c.in-Ok-data_shape.shape c.in-Ok-data_shape.ensures.shape c.element_size.result c.element_size.ensures c.in-Ok-runs.ensures.within
    _ _ c.in-Err-read_runs.error c.in-Err-read_runs.ensures.cause

pub returns-clause-reads : goal.returns-clause-reads
returns-clause-reads g c = record {
  sound = c.in-Err-read_runs.ensures.sound;
  bytes = c.in-Err-read_runs.ensures.image ∙ c.in-Ok.ensures.reads.bytes;
  waits = c.in-Err-read_runs.ensures.waits ∙ c.in-Ok.ensures.reads.waits;
  effect = only_then _ _ _ (few_only 2 _ _ c.in-Ok.ensures.reads.effect) c.in-Err-read_runs.ensures.effect;
  cause = read_cause c.args.core.now (Some c.args.selection.now) (g.S.ReadBytes.image c.args.space.now) c.args.row.place c.in-Ok.header c.in-Ok.ensures.read c.in-Ok-data_shape.ensures.some c.in-Ok-data_shape.ensures.short _ _ _ _ c.in-Err-read_runs.error
      c.in-Ok.ensures.reads.effect.faults c.in-Err-read_runs.ensures.cause;
}
