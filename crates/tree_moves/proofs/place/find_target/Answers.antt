use Rattle.std.proofs.Common.{◌∙◌, sym, true, false, Ok}
use Rattle.cg_io.proofs.ReadLaws.{reads_more}
use Rattle.tree_edits.proofs.Causes.{header_blocks}
use Rattle.tree_edits.proofs.NameCauses.{header_unread, table_unread, named_table}
use Rattle.tree_moves.proofs.Found.{target_cause, target_kind, is_target}
use Rattle.tree_moves.proofs.place.find_target.Goals as goal

pub returns-in-Err-clause-reads : goal.returns-in-Err-clause-reads
returns-in-Err-clause-reads g c =
    let held = g.S.ReadBytes.image c.args.space.now in
    record {
      sound = c.in-Err.ensures.reads.sound;
      bytes = c.in-Err.ensures.reads.bytes;
      waits = c.in-Err.ensures.reads.waits;
      effect = reads_more _ 2 _ _ c.in-Err.ensures.reads.effect (header_blocks c.args.core.now.wide c.in-Some.row.place);
      cause = target_cause c.args.core.now c.args.at held c.in-Some.row (sym c.get.ensures ∙ c.in-Some.is) _ _ c.in-Err.error (header_unread c.args.core.now.wide held c.in-Some.row.place _ _ c.in-Err.error c.in-Err.ensures.reads.cause);
    }

pub returns-then-is_link-clause-reads : goal.returns-then-is_link-clause-reads
returns-then-is_link-clause-reads g c = record {
  sound = c.in-Ok.ensures.reads.sound;
  bytes = c.in-Ok.ensures.reads.bytes;
  waits = c.in-Ok.ensures.reads.waits;
  effect = reads_more _ 2 _ _ c.in-Ok.ensures.reads.effect (header_blocks c.args.core.now.wide c.in-Some.row.place);
  cause = (c.in-Some.row, target_kind c.args.core.now c.args.at (g.S.ReadBytes.image c.args.space.now) c.in-Some.row (sym c.get.ensures ∙ c.in-Some.is) c.in-Ok.header c.in-Ok.ensures.header true (sym c.is_link.ensures ∙ c.if-is_link.true));
}

pub returns-then-not-core-clause-reads : goal.returns-then-not-core-clause-reads
returns-then-not-core-clause-reads g c = record {
  sound = c.in-Ok.ensures.reads.sound;
  bytes = c.in-Ok.ensures.reads.bytes;
  waits = c.in-Ok.ensures.reads.waits;
  effect = reads_more _ 2 _ _ c.in-Ok.ensures.reads.effect (header_blocks c.args.core.now.wide c.in-Some.row.place);
  cause = ((c.in-Some.row, target_kind c.args.core.now c.args.at (g.S.ReadBytes.image c.args.space.now) c.in-Some.row (sym c.get.ensures ∙ c.in-Some.is) c.in-Ok.header c.in-Ok.ensures.header false (sym c.is_link.ensures ∙ c.if-is_link.false)), c.if-not-core.true);
}

pub returns-in-Ok-child_table-clause-target : goal.returns-in-Ok-child_table-clause-target
returns-in-Ok-child_table-clause-target g c =
    let held = g.S.ReadBytes.image c.args.space.now in
    is_target c.args.core.now c.args.at held c.in-Some.row (sym c.get.ensures ∙ c.in-Some.is) c.in-Ok.header c.in-Ok.ensures.header (sym c.is_link.ensures ∙ c.if-is_link.false) c.if-not-core.false c.in-Ok-child_table.table
    (named_table c.args.core.now.wide held c.in-Some.row.place c.in-Ok.header c.in-Ok.ensures.header (Ok c.in-Ok-child_table.table) c.in-Ok-child_table.ensures.table c.in-Ok-child_table.ensures.kept)

pub returns-in-Ok-child_table-clause-reads : goal.returns-in-Ok-child_table-clause-reads
returns-in-Ok-child_table-clause-reads g c = record {
  sound = c.in-Ok.ensures.reads.sound;
  bytes = c.in-Ok.ensures.reads.bytes;
  waits = c.in-Ok.ensures.reads.waits;
  effect = reads_more _ 2 _ _ c.in-Ok.ensures.reads.effect (header_blocks c.args.core.now.wide c.in-Some.row.place);
  cause = tt;
}

pub returns-in-Err-child_table-clause-reads : goal.returns-in-Err-child_table-clause-reads
returns-in-Err-child_table-clause-reads g c =
    let held = g.S.ReadBytes.image c.args.space.now in
    record {
      sound = c.in-Ok.ensures.reads.sound;
      bytes = c.in-Ok.ensures.reads.bytes;
      waits = c.in-Ok.ensures.reads.waits;
      effect = reads_more _ 2 _ _ c.in-Ok.ensures.reads.effect (header_blocks c.args.core.now.wide c.in-Some.row.place);
      cause = target_cause c.args.core.now c.args.at held c.in-Some.row (sym c.get.ensures ∙ c.in-Some.is) _ _ c.in-Err-child_table.error
          (table_unread c.args.core.now.wide held c.in-Some.row.place _ _ c.in-Ok.header c.in-Ok.ensures.header c.in-Err-child_table.error c.in-Err-child_table.ensures.broken);
    }
