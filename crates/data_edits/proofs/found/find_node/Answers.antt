use Rattle.std.proofs.Common.{◌∙◌, sym}
use Rattle.cg_io.proofs.ReadLaws.{reads_more}
use Rattle.tree_edits.proofs.Causes.{header_blocks}
use Rattle.data_edits.proofs.Founds.{refused_none, refused_unread, refused_link, refused_read_only, unread_cause, reads, may_edit}
use Rattle.data_edits.proofs.found.find_node.Goals as goal

pub returns-in-None-clause-refused : goal.returns-in-None-clause-refused
returns-in-None-clause-refused g c = refused_none c.args.core.now c.args.node (g.R.ReadBytes.image c.args.bytes.now) (sym c.get.ensures ∙ c.in-None.is)

pub returns-in-Err-clause-refused : goal.returns-in-Err-clause-refused
returns-in-Err-clause-refused g c = refused_unread c.args.core.now c.args.node c.in-Some.row (sym c.get.ensures ∙ c.in-Some.is) (g.R.ReadBytes.image c.args.bytes.now) _ _ c.in-Err.error c.in-Err.ensures.reads.cause

pub returns-in-Err-clause-reads : goal.returns-in-Err-clause-reads
returns-in-Err-clause-reads g c = record {
  sound = c.in-Err.ensures.reads.sound;
  bytes = c.in-Err.ensures.reads.bytes;
  waits = c.in-Err.ensures.reads.waits;
  effect = reads_more _ 2 _ _ c.in-Err.ensures.reads.effect (header_blocks c.args.core.now.wide c.in-Some.row.place);
  cause = unread_cause c.args.core.now c.args.node c.in-Some.row (sym c.get.ensures ∙ c.in-Some.is) (g.R.ReadBytes.image c.args.bytes.now) _ _ c.in-Err.error c.in-Err.ensures.reads.cause;
}

pub returns-then-is_link-clause-refused : goal.returns-then-is_link-clause-refused
returns-then-is_link-clause-refused g c =
    refused_link c.args.core.now c.args.node c.in-Some.row (sym c.get.ensures ∙ c.in-Some.is) c.in-Ok.header (g.R.ReadBytes.image c.args.bytes.now) c.in-Ok.ensures.header (sym c.is_link.ensures ∙ c.if-is_link.true)

pub returns-then-is_link-clause-reads : goal.returns-then-is_link-clause-reads
returns-then-is_link-clause-reads g c = record {
  sound = c.in-Ok.ensures.reads.sound;
  bytes = c.in-Ok.ensures.reads.bytes;
  waits = c.in-Ok.ensures.reads.waits;
  effect = reads_more _ 2 _ _ c.in-Ok.ensures.reads.effect (header_blocks c.args.core.now.wide c.in-Some.row.place);
  cause = (c.in-Some.row, c.in-Ok.header, reads c.args.core.now c.args.node c.in-Some.row (sym c.get.ensures ∙ c.in-Some.is) c.in-Ok.header (g.R.ReadBytes.image c.args.bytes.now) c.in-Ok.ensures.header, sym c.is_link.ensures ∙ c.if-is_link.true);
}

pub returns-then-not-core-clause-refused : goal.returns-then-not-core-clause-refused
returns-then-not-core-clause-refused g c =
    refused_read_only c.args.core.now c.args.node c.in-Some.row (sym c.get.ensures ∙ c.in-Some.is) c.in-Ok.header (g.R.ReadBytes.image c.args.bytes.now) c.in-Ok.ensures.header (sym c.is_link.ensures ∙ c.if-is_link.false) c.if-not-core.true

pub returns-then-not-core-clause-reads : goal.returns-then-not-core-clause-reads
returns-then-not-core-clause-reads g c = record {
  sound = c.in-Ok.ensures.reads.sound;
  bytes = c.in-Ok.ensures.reads.bytes;
  waits = c.in-Ok.ensures.reads.waits;
  effect = reads_more _ 2 _ _ c.in-Ok.ensures.reads.effect (header_blocks c.args.core.now.wide c.in-Some.row.place);
  cause = ((c.in-Some.row, c.in-Ok.header, reads c.args.core.now c.args.node c.in-Some.row (sym c.get.ensures ∙ c.in-Some.is) c.in-Ok.header (g.R.ReadBytes.image c.args.bytes.now) c.in-Ok.ensures.header, sym c.is_link.ensures ∙ c.if-is_link.false), c.if-not-core.true);
}

pub returns-clause-may : goal.returns-clause-may
returns-clause-may g c =
    may_edit c.args.core.now c.args.node c.in-Some.row (sym c.get.ensures ∙ c.in-Some.is) c.in-Ok.header (g.R.ReadBytes.image c.args.bytes.now) c.in-Ok.ensures.header (sym c.is_link.ensures ∙ c.if-is_link.false) c.if-not-core.false

pub returns-clause-reads : goal.returns-clause-reads
returns-clause-reads g c = record {
  sound = c.in-Ok.ensures.reads.sound;
  bytes = c.in-Ok.ensures.reads.bytes;
  waits = c.in-Ok.ensures.reads.waits;
  effect = reads_more _ 2 _ _ c.in-Ok.ensures.reads.effect (header_blocks c.args.core.now.wide c.in-Some.row.place);
  cause = tt;
}
