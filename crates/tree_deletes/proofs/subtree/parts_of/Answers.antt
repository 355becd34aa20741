use Rattle.std.proofs.Common.{refl}
use Rattle.cg_io.proofs.ReadLaws.{reads_more}
use Rattle.tree_edits.proofs.Causes.{header_blocks}
use Rattle.tree_deletes.proofs.Parts.{doomed, header_unread, table_unread}
use Rattle.tree_deletes.proofs.subtree.parts_of.Goals as goal

pub returns-in-Err-clause-reads : goal.returns-in-Err-clause-reads
returns-in-Err-clause-reads g c = record {
  sound = c.in-Err.ensures.reads.sound;
  bytes = c.in-Err.ensures.reads.bytes;
  waits = c.in-Err.ensures.reads.waits;
  effect = reads_more _ _ _ _ c.in-Err.ensures.reads.effect (header_blocks c.args.core.now.wide c.args.row.place);
  cause = header_unread c.args.core.now c.args.serial c.args.row c.requires.row (g.S.ReadBytes.image c.args.space.now) _ _ c.in-Err.error c.in-Err.ensures.reads.cause;
}

pub returns-in-Err-child_table-clause-reads : goal.returns-in-Err-child_table-clause-reads
returns-in-Err-child_table-clause-reads g c = record {
  sound = c.in-Ok.ensures.reads.sound;
  bytes = c.in-Ok.ensures.reads.bytes;
  waits = c.in-Ok.ensures.reads.waits;
  effect = reads_more _ _ _ _ c.in-Ok.ensures.reads.effect (header_blocks c.args.core.now.wide c.args.row.place);
  cause = table_unread c.args.core.now c.args.serial c.args.row c.requires.row (g.S.ReadBytes.image c.args.space.now) _ _ c.in-Err-child_table.error c.in-Ok.header c.in-Ok.ensures.header c.in-Err-child_table.ensures.broken;
}

pub returns-clause-node : goal.returns-clause-node
returns-clause-node g c =
    doomed c.args.core.now c.args.serial c.args.row c.requires.row _ c.in-Ok.header refl refl c.in-Ok-child_table.ensures.table refl refl (g.S.ReadBytes.image c.args.space.now) c.in-Ok.ensures.header
