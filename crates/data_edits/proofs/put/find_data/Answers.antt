use Rattle.data_edits.proofs.PutDone.{each_put, node_cause, refused_data, data_cause}
use Rattle.data_edits.proofs.put.find_data.Goals as goal

pub returns-in-Err-clause-refused : goal.returns-in-Err-clause-refused
returns-in-Err-clause-refused g c = each_put c.args.core.now c.args.node (g.R.ReadBytes.image c.args.bytes.now) c.in-Err.error c.in-Err.ensures.refused

pub returns-in-Err-clause-reads : goal.returns-in-Err-clause-reads
returns-in-Err-clause-reads g c = record {
  sound = c.in-Err.ensures.reads.sound;
  bytes = c.in-Err.ensures.reads.bytes;
  waits = c.in-Err.ensures.reads.waits;
  effect = c.in-Err.ensures.reads.effect;
  cause = node_cause c.args.core.now c.args.node (g.R.ReadBytes.image c.args.bytes.now) _ _ c.in-Err.error c.in-Err.ensures.reads.cause;
}

pub returns-in-Err-shape_to_put-clause-refused : goal.returns-in-Err-shape_to_put-clause-refused
returns-in-Err-shape_to_put-clause-refused g c =
    refused_data c.args.core.now c.args.node c.in-Ok.found.row c.in-Ok.found.header (g.R.ReadBytes.image c.args.bytes.now) c.in-Ok.ensures.may c.in-Err-shape_to_put.error c.in-Err-shape_to_put.ensures.refused

pub returns-in-Err-shape_to_put-clause-reads : goal.returns-in-Err-shape_to_put-clause-reads
returns-in-Err-shape_to_put-clause-reads g c = record {
  sound = c.in-Ok.ensures.reads.sound;
  bytes = c.in-Ok.ensures.reads.bytes;
  waits = c.in-Ok.ensures.reads.waits;
  effect = c.in-Ok.ensures.reads.effect;
  cause = data_cause c.args.core.now c.args.node c.in-Ok.found.row c.in-Ok.found.header (g.R.ReadBytes.image c.args.bytes.now) c.in-Ok.ensures.may _ _ c.in-Err-shape_to_put.error c.in-Err-shape_to_put.ensures.refused;
}
