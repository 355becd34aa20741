use Rattle.std.proofs.Common.{sym}
use Rattle.cg_io.proofs.ReadLaws.{few_only}
use Rattle.tree_moves.proofs.place.is_taken.Goals as goal

pub returns-in-Ok-clause-taken : goal.returns-in-Ok-clause-taken
returns-in-Ok-clause-taken g c = record { entry = c.in-Ok.found; first = c.in-Ok.ensures.told; free = sym c.clashes.ensures }

pub returns-in-Ok-clause-reads : goal.returns-in-Ok-clause-reads
returns-in-Ok-clause-reads g c = record {
  sound = c.in-Ok.ensures.reads.sound;
  bytes = c.in-Ok.ensures.reads.bytes;
  waits = c.in-Ok.ensures.reads.waits;
  effect = few_only _ _ _ c.in-Ok.ensures.reads.effect;
  cause = tt;
}

pub returns-in-Err-clause-reads : goal.returns-in-Err-clause-reads
returns-in-Err-clause-reads g c = record {
  sound = c.in-Err.ensures.reads.sound;
  bytes = c.in-Err.ensures.reads.bytes;
  waits = c.in-Err.ensures.reads.waits;
  effect = few_only _ _ _ c.in-Err.ensures.reads.effect;
  cause = c.in-Err.ensures.reads.cause;
}
