use Rattle.std.proofs.Common.{◌+◌, ◌*◌, ◌≤◌, ◌∙◌, length, arith, sym}
use Rattle.cg_io.proofs.ReadLaws.{reads_then, rose_later}
use Rattle.node_reads.proofs.EntryLaws.{at_edge, edge_after, piece_cost}
use Rattle.tree_asks.proofs.Pieces.{more_children, fails_in, listed_cause, last_cost}
use Rattle.tree_asks.proofs.children.listed_in.Goals as goal

pub loop-from-preserved : goal.loop-from-preserved
loop-from-preserved g c =
    let n = c.in-Ok.count in
    let from = c.loop-from.from in
    let held = g.R.ReadBytes.image c.args.bytes.now in
    let size = c.in-Ok.ensures.count in
    let edge = at_edge from c.args.table.count c.loop-from.invariant.edge c.loop-from-test.true in
    let fits : from + n ≤ c.args.table.count = omega (arith, size, c.loop-from-test.true) in
    let long : 44 * n ≤ length c.read_children.new.piece = omega (arith, size, c.loop-from.invariant.long, c.read_children.auto.piece) in
    record {
      sound = c.in-Ok.ensures.reads.sound;
      bytes = c.in-Ok.ensures.reads.bytes ∙ c.loop-from.invariant.bytes;
      waits = c.in-Ok.ensures.reads.waits ∙ c.loop-from.invariant.waits;
      reads = reads_then _ _ _ _ _ _ c.loop-from.invariant.reads c.in-Ok.ensures.reads.effect (piece_cost _ from n _ _ c.args.table.count edge c.loop-from-test.true c.loop-from.invariant.long size (sym size));
      edge = edge_after from n c.args.table.count _ edge c.loop-from-test.true c.loop-from.invariant.long size;
      within = fits;
      long = c.read_children.auto.piece ∙ c.loop-from.invariant.long;
      children = more_children c.args.core.now held c.args.table from n c.read_children.new.piece long (rw (← c.loop-from.invariant.bytes) c.in-Ok.ensures.told) c.args.file c.loop-from.children.items c.add_piece.new.children.items c.loop-from.invariant.children c.in-Ok-add_piece.ensures.added;
    }

-- a piece that is not read
pub returns-in-Err-clause-reads : goal.returns-in-Err-clause-reads
returns-in-Err-clause-reads g c =
    let edge = at_edge c.loop-from.from c.args.table.count c.loop-from.invariant.edge c.loop-from-test.true in
    record {
      sound = c.in-Err.ensures.reads.sound;
      bytes = c.in-Err.ensures.reads.bytes ∙ c.loop-from.invariant.bytes;
      waits = c.in-Err.ensures.reads.waits ∙ c.loop-from.invariant.waits;
      effect = reads_then _ _ _ _ _ _ c.loop-from.invariant.reads c.in-Err.ensures.reads.effect (last_cost _ c.loop-from.from _ c.args.table.count edge c.loop-from-test.true c.loop-from.invariant.long);
      cause = rose_later _ _ _ c.loop-from.invariant.reads.faults c.in-Err.ensures.reads.cause;
    }

-- an entry of a piece that is not answered
pub returns-in-Err-add_piece-clause-reads : goal.returns-in-Err-add_piece-clause-reads
returns-in-Err-add_piece-clause-reads g c =
    let n = c.in-Ok.count in
    let from = c.loop-from.from in
    let held = g.R.ReadBytes.image c.args.bytes.now in
    let size = c.in-Ok.ensures.count in
    let edge = at_edge from c.args.table.count c.loop-from.invariant.edge c.loop-from-test.true in
    let fits : from + n ≤ c.args.table.count = omega (arith, size, c.loop-from-test.true) in
    let long : 44 * n ≤ length c.read_children.new.piece = omega (arith, size, c.loop-from.invariant.long, c.read_children.auto.piece) in
    record {
      sound = c.in-Ok.ensures.reads.sound;
      bytes = c.in-Ok.ensures.reads.bytes ∙ c.loop-from.invariant.bytes;
      waits = c.in-Ok.ensures.reads.waits ∙ c.loop-from.invariant.waits;
      effect = reads_then _ _ _ _ _ _ c.loop-from.invariant.reads c.in-Ok.ensures.reads.effect (last_cost _ from _ c.args.table.count edge c.loop-from-test.true c.loop-from.invariant.long);
      cause = listed_cause c.args.core.now held c.args.table _ _ c.in-Err-add_piece.error (fails_in c.args.core.now held c.args.table from n c.read_children.new.piece long (rw (← c.loop-from.invariant.bytes) c.in-Ok.ensures.told) c.entry-at.result c.in-Err-add_piece.error c.entry-at.ensures fits c.in-Err-add_piece.ensures.fails);
    }
