use Rattle.std.proofs.Common.{◌+◌, ◌-◌, ◌*◌, ◌≤◌, ◌∙◌, length, arith, sym, None, Some}
use Rattle.cg_io.proofs.ReadLaws.{reads_then}
use Rattle.node_reads.proofs.EntryLaws.{found_until, first_of_all, gives_again, at_edge, edge_after, piece_cost}
use Rattle.node_reads.proofs.find.find_entry.Goals as goal

pub returns-in-Some-clause-told : goal.returns-in-Some-clause-told
returns-in-Some-clause-told g c =
    let n = c.in-Ok.count in
    let from = c.loop-from.from in
    let held = g.R.ReadBytes.image c.args.bytes.now in
    let fits : from + n ≤ c.args.table.count = omega (arith, c.in-Ok.ensures.count, c.loop-from-test.true) in
    let long : 44 * (from + n - from) ≤ length c.read_children.new.piece = omega (arith, c.in-Ok.ensures.count, c.loop-from.invariant.long, c.read_children.auto.piece) in
    first_of_all c.args.wanted.now held c.args.table.place c.args.table.count (from + n) c.in-Some.position fits
    (found_until c.args.wanted.now c.args.table.place c.args.table.count from (from + n) c.read_children.new.piece (omega arith) fits long held (Some c.in-Some.position)
    (gives_again held _ from n c.read_children.new.piece (rw (← c.loop-from.invariant.bytes) c.in-Ok.ensures.told)) c.in-Some.ensures c.loop-from.invariant.none)

pub loop-from-preserved : goal.loop-from-preserved
loop-from-preserved g c =
    let n = c.in-Ok.count in
    let from = c.loop-from.from in
    let held = g.R.ReadBytes.image c.args.bytes.now in
    let size = c.in-Ok.ensures.count in
    let edge = at_edge from c.args.table.count c.loop-from.invariant.edge c.loop-from-test.true in
    let fits : from + n ≤ c.args.table.count = omega (arith, size, c.loop-from-test.true) in
    let long : 44 * (from + n - from) ≤ length c.read_children.new.piece = omega (arith, size, c.loop-from.invariant.long, c.read_children.auto.piece) in
    record {
      sound = c.in-Ok.ensures.reads.sound;
      bytes = c.in-Ok.ensures.reads.bytes ∙ c.loop-from.invariant.bytes;
      waits = c.in-Ok.ensures.reads.waits ∙ c.loop-from.invariant.waits;
      reads = reads_then _ _ _ _ _ _ c.loop-from.invariant.reads c.in-Ok.ensures.reads.effect (piece_cost _ from n _ _ c.args.table.count edge c.loop-from-test.true c.loop-from.invariant.long size (sym size));
      edge = edge_after from n c.args.table.count _ edge c.loop-from-test.true c.loop-from.invariant.long size;
      within = fits;
      long = c.read_children.auto.piece ∙ c.loop-from.invariant.long;
      none = found_until c.args.wanted.now c.args.table.place c.args.table.count from (from + n) c.read_children.new.piece (omega arith) fits long held None
          (gives_again held _ from n c.read_children.new.piece (rw (← c.loop-from.invariant.bytes) c.in-Ok.ensures.told)) c.in_default.ensures c.loop-from.invariant.none;
    }
