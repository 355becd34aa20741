use Rattle.std.proofs.Common.{sym, subst, arith}
use Rattle.cg_io.specs.Answers.{IsRefusal}
use Rattle.cg_io.proofs.ReadLaws.{reads_more}
use Rattle.tree_deletes.specs.Doomed.{IsLost}
use Rattle.tree_deletes.proofs.Found.{child_found, child_unsaid, child_lost, entry_blocks}
use Rattle.tree_deletes.proofs.subtree.child_serial.Goals as goal

pub returns-in-Err-clause-reads : goal.returns-in-Err-clause-reads
returns-in-Err-clause-reads g c = record {
  sound = c.in-Err.ensures.reads.sound;
  bytes = c.in-Err.ensures.reads.bytes;
  waits = c.in-Err.ensures.reads.waits;
  effect = reads_more _ _ _ _ c.in-Err.ensures.reads.effect (entry_blocks _);
  cause = child_unsaid c.args.core.now (g.S.ReadBytes.image c.args.space.now) c.args.table c.args.position _ _ c.in-Err.error c.requires.listed c.in-Err.ensures.reads.cause;
}

pub returns-in-Some-clause-child : goal.returns-in-Some-clause-child
returns-in-Some-clause-child g c =
    child_found c.args.core.now (g.S.ReadBytes.image c.args.space.now) c.args.table c.args.position c.in-Ok.listed c.in-Some.serial c.requires.listed c.in-Ok.ensures.child c.in-Some.ensures

pub returns-in-None-clause-reads : goal.returns-in-None-clause-reads
returns-in-None-clause-reads g c = record {
  sound = c.in-Ok.ensures.reads.sound;
  bytes = c.in-Ok.ensures.reads.bytes;
  waits = c.in-Ok.ensures.reads.waits;
  effect = reads_more _ _ _ _ c.in-Ok.ensures.reads.effect (entry_blocks _);
  cause = subst (IsRefusal (IsLost c.args.core.now (g.S.ReadBytes.image c.args.space.now) c.args.table) _ _) (sym c.unlisted.ensures)
      ((omega arith, omega arith), child_lost c.args.core.now (g.S.ReadBytes.image c.args.space.now) c.args.table c.args.position c.in-Ok.listed c.requires.listed c.in-Ok.ensures.child c.in-None.ensures);
}
