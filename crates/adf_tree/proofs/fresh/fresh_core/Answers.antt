use Rattle.std.proofs.Common.{◌∙◌, ap, arith, refl, subst, sym, true}
use Rattle.cg_io.specs.Answers.{IsUntold}
use Rattle.cg_io.specs.Waits.{how_many}
use Rattle.cg_io.proofs.ReadLaws.{reads_more, reads_none, reads_then}
use Rattle.tree_edits.specs.Undo.{RowsState}
use Rattle.adf_tree.specs.Fresh.{IsFreshCause}
use Rattle.adf_tree.proofs.FreshFile.{fresh_core_is, fresh_means, fresh_threads, unlisted_cause, unwritten_cause}
use Rattle.adf_tree.proofs.fresh.fresh_core.Goals as goal

pub returns-in-Err-clause-writes : goal.returns-in-Err-clause-writes
returns-in-Err-clause-writes g c = record {
  sound = c.requires.sound;
  waits = omega arith;
  effect = reads_none 7 (g.S.ReadBytes.state c.args.space.now);
  cause = subst (IsFreshCause (IsUntold (g.S.ReadBytes.image c.args.space.now)) _ _) (sym c.in-Err.ensures.cause) tt;
}

pub returns-in-Err-write_fresh-clause-writes : goal.returns-in-Err-write_fresh-clause-writes
returns-in-Err-write_fresh-clause-writes g c = let w = c.in-Err-write_fresh.ensures.writes in record {
  sound = w.sound;
  waits = w.waits;
  effect = reads_more 1 7 _ _ w.effect (omega arith);
  cause = unwritten_cause (IsUntold (g.S.ReadBytes.image c.args.space.now)) _ _ c.in-Err-write_fresh.error w.cause;
}

pub fresh_heap-requires-clause-threads : goal.fresh_heap-requires-clause-threads
fresh_heap-requires-clause-threads g c =
    fresh_threads c.args.wide (g.S.ReadBytes.image c.args.space.now) (g.S.ReadBytes.image c.write_fresh.new.space) c.in-Ok-write_fresh.ensures.image

pub returns-in-Err-fresh_heap-clause-writes : goal.returns-in-Err-fresh_heap-clause-writes
returns-in-Err-fresh_heap-clause-writes g c =
    let w = c.in-Ok-write_fresh.ensures.writes in
    let r = c.in-Err-fresh_heap.ensures.reads in
    record {
      sound = r.sound;
      waits = omega (arith, w.waits, ap how_many r.waits);
      effect = reads_then 1 6 7 _ _ _ w.effect r.effect (omega arith);
      cause = unlisted_cause (g.S.ReadBytes.image c.args.space.now) (g.S.ReadBytes.image c.write_fresh.new.space) c.args.wide _ _ _ c.in-Err-fresh_heap.error c.in-Ok-write_fresh.ensures.image w.effect.faults r.cause;
    }

pub returns-in-Ok-fresh_heap-clause-core : goal.returns-in-Ok-fresh_heap-clause-core
returns-in-Ok-fresh_heap-clause-core g c =
    let heap = c.in-Ok-fresh_heap.ensures in
    let rows = c.in-Ok.ensures.rows in
    fresh_core_is c.args.wide c.args.limit _ refl refl heap.limit heap.accepted heap.heap (ap (λ (r : RowsState). r.items) rows) (ap (λ (r : RowsState). r.kept) rows)

pub returns-in-Ok-fresh_heap-clause-image : goal.returns-in-Ok-fresh_heap-clause-image
returns-in-Ok-fresh_heap-clause-image g c = c.in-Ok-fresh_heap.ensures.reads.bytes ∙ c.in-Ok-write_fresh.ensures.image

pub returns-in-Ok-fresh_heap-clause-means : goal.returns-in-Ok-fresh_heap-clause-means
returns-in-Ok-fresh_heap-clause-means g c =
    let heap = c.in-Ok-fresh_heap.ensures in
    fresh_means c.args.wide (record { heap = c.in-Ok-fresh_heap.heap; rows = c.in-Ok.rows; wide = c.args.wide; writable = true }) (g.S.ReadBytes.image c.args.space.now) (g.S.ReadBytes.image c.fresh_heap.new.space) (heap.reads.bytes ∙ c.in-Ok-write_fresh.ensures.image)
    refl (ap (λ (r : RowsState). r.items) c.in-Ok.ensures.rows) heap.heap heap.threads

pub returns-in-Ok-fresh_heap-clause-writes : goal.returns-in-Ok-fresh_heap-clause-writes
returns-in-Ok-fresh_heap-clause-writes g c =
    let w = c.in-Ok-write_fresh.ensures.writes in
    let r = c.in-Ok-fresh_heap.ensures.reads in
    record {
      sound = r.sound;
      waits = omega (arith, w.waits, ap how_many r.waits);
      effect = reads_then 1 6 7 _ _ _ w.effect r.effect (omega arith);
      cause = tt;
    }
