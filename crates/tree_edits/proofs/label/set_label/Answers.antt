use Rattle.std.proofs.Common.{◌+◌, ◌∙◌, sym, arith, length, true, false, ap}
use Rattle.cg_io.proofs.ReadLaws.{reads_then, reads_more}
use Rattle.tree_edits.proofs.Labels.{refused_none, refused_unread, refused_link, refused_read_only, refused_label, refused_write, done}
use Rattle.tree_edits.proofs.Causes.{header_blocks, field_blocks, at_row, row_there, link_said, unread_cause, write_cause, where_ok, label_long}
use Rattle.tree_edits.specs.Causes.{SaysLink}
use Rattle.tree_edits.specs.declared.rows.Row.{Row}
use Rattle.cg_io.specs.Waits.{how_many}
use Rattle.tree_edits.proofs.Reaching.{label_reached}
use Rattle.tree_edits.proofs.label.set_label.Goals as goal

pub returns-in-None-clause-refused : goal.returns-in-None-clause-refused
returns-in-None-clause-refused g c = refused_none c.args.core.now c.args.node c.args.label.now (g.S.ReadBytes.image c.args.space.now) (sym c.get.ensures ∙ c.in-None.is)

pub returns-in-Err-clause-refused : goal.returns-in-Err-clause-refused
returns-in-Err-clause-refused g c = refused_unread c.args.core.now c.args.node c.args.label.now c.in-Some.row (sym c.get.ensures ∙ c.in-Some.is) (g.S.ReadBytes.image c.args.space.now) _ _ c.in-Err.error c.in-Err.ensures.reads.cause

pub returns-in-Err-clause-writes : goal.returns-in-Err-clause-writes
returns-in-Err-clause-writes g c = record {
  sound = c.in-Err.ensures.reads.sound;
  waits = omega (arith, ap how_many c.in-Err.ensures.reads.waits);
  effect = reads_more _ 4 _ _ c.in-Err.ensures.reads.effect (omega (arith, header_blocks c.args.core.now.wide c.in-Some.row.place));
  cause = unread_cause c.args.core.now c.args.node c.args.label.now (g.S.ReadBytes.image c.args.space.now) c.in-Some.row (sym c.get.ensures ∙ c.in-Some.is) _ _ c.in-Err.error c.in-Err.ensures.reads.cause;
}

pub returns-then-is_link-clause-refused : goal.returns-then-is_link-clause-refused
returns-then-is_link-clause-refused g c =
    refused_link c.args.core.now c.args.node c.args.label.now c.in-Some.row (sym c.get.ensures ∙ c.in-Some.is) c.in-Ok.header c.is_link.result c.is_link.ensures (g.S.ReadBytes.image c.args.space.now) c.in-Ok.ensures.header c.if-is_link.true

pub returns-then-is_link-clause-writes : goal.returns-then-is_link-clause-writes
returns-then-is_link-clause-writes g c = record {
  sound = c.in-Ok.ensures.reads.sound;
  waits = omega (arith, ap how_many c.in-Ok.ensures.reads.waits);
  effect = reads_more _ 4 _ _ c.in-Ok.ensures.reads.effect (omega (arith, header_blocks c.args.core.now.wide c.in-Some.row.place));
  cause = at_row _ c.in-Some.row (λ (row : Row). SaysLink true c.args.core.now.wide (g.S.ReadBytes.image c.args.space.now) row.place) (sym c.get.ensures ∙ c.in-Some.is)
      (link_said c.args.core.now.wide (g.S.ReadBytes.image c.args.space.now) c.in-Some.row.place c.in-Ok.header true c.in-Ok.ensures.header (sym c.is_link.ensures ∙ c.if-is_link.true));
}

pub returns-then-not-core-clause-refused : goal.returns-then-not-core-clause-refused
returns-then-not-core-clause-refused g c =
    refused_read_only c.args.core.now c.args.node c.args.label.now c.in-Some.row (sym c.get.ensures ∙ c.in-Some.is) c.in-Ok.header c.is_link.result c.is_link.ensures (g.S.ReadBytes.image c.args.space.now) c.in-Ok.ensures.header c.if-is_link.false c.if-not-core.true

pub returns-then-not-core-clause-writes : goal.returns-then-not-core-clause-writes
returns-then-not-core-clause-writes g c = record {
  sound = c.in-Ok.ensures.reads.sound;
  waits = omega (arith, ap how_many c.in-Ok.ensures.reads.waits);
  effect = reads_more _ 4 _ _ c.in-Ok.ensures.reads.effect (omega (arith, header_blocks c.args.core.now.wide c.in-Some.row.place));
  cause = (
    at_row _ c.in-Some.row (λ (row : Row). SaysLink false c.args.core.now.wide (g.S.ReadBytes.image c.args.space.now) row.place) (sym c.get.ensures ∙ c.in-Some.is)
        (link_said c.args.core.now.wide (g.S.ReadBytes.image c.args.space.now) c.in-Some.row.place c.in-Ok.header false c.in-Ok.ensures.header (sym c.is_link.ensures ∙ c.if-is_link.false)),
    c.if-not-core.true,
  );
}

pub returns-then-not-is_label-clause-refused : goal.returns-then-not-is_label-clause-refused
returns-then-not-is_label-clause-refused g c =
    refused_label c.args.core.now c.args.node c.args.label.now c.in-Some.row (sym c.get.ensures ∙ c.in-Some.is) c.in-Ok.header c.is_link.result c.is_link.ensures (g.S.ReadBytes.image c.args.space.now) c.in-Ok.ensures.header c.if-is_link.false c.if-not-core.false
    (sym c.is_label.ensures ∙ c.if-not-is_label.true)

pub returns-then-not-is_label-clause-writes : goal.returns-then-not-is_label-clause-writes
returns-then-not-is_label-clause-writes g c = record {
  sound = c.in-Ok.ensures.reads.sound;
  waits = omega (arith, ap how_many c.in-Ok.ensures.reads.waits);
  effect = reads_more _ 4 _ _ c.in-Ok.ensures.reads.effect (omega (arith, header_blocks c.args.core.now.wide c.in-Some.row.place));
  cause = (
    at_row _ c.in-Some.row (λ (row : Row). SaysLink false c.args.core.now.wide (g.S.ReadBytes.image c.args.space.now) row.place) (sym c.get.ensures ∙ c.in-Some.is)
        (link_said c.args.core.now.wide (g.S.ReadBytes.image c.args.space.now) c.in-Some.row.place c.in-Ok.header false c.in-Ok.ensures.header (sym c.is_link.ensures ∙ c.if-is_link.false)),
    c.if-not-core.false,
    sym c.is_label.ensures ∙ c.if-not-is_label.true,
  );
}

pub returns-clause-done : goal.returns-clause-done
returns-clause-done g c =
    done c.args.core.now c.args.node c.args.label.now c.in-Some.row (sym c.get.ensures ∙ c.in-Some.is) c.in-Ok.header c.is_link.result c.is_link.ensures c.write_field.result
    (g.S.ReadBytes.image c.args.space.now) (g.S.ReadBytes.image c.read_header.new.bytes) (g.S.ReadBytes.image c.write_field.new.space) c.name_field.result c.in-Ok.ensures.header c.if-is_link.false c.if-not-core.false
    (sym c.is_label.ensures ∙ c.if-not-is_label.false) c.name_field.ensures (label_long c.args.label.now c.name_field.result c.name_field.ensures (sym c.is_label.ensures ∙ c.if-not-is_label.false)) c.in-Ok.ensures.reads.bytes
    c.write_field.ensures.written c.write_field.ensures.bytes

pub returns-clause-allowed : goal.returns-clause-allowed
returns-clause-allowed g c = where_ok c.write_field.result _ (record {
  there = at_row _ c.in-Some.row (λ (row : Row). SaysLink false c.args.core.now.wide (g.S.ReadBytes.image c.args.space.now) row.place) (sym c.get.ensures ∙ c.in-Some.is)
      (link_said c.args.core.now.wide (g.S.ReadBytes.image c.args.space.now) c.in-Some.row.place c.in-Ok.header false c.in-Ok.ensures.header (sym c.is_link.ensures ∙ c.if-is_link.false));
  live = row_there _ c.in-Some.row (sym c.get.ensures ∙ c.in-Some.is);
  allowed = c.if-not-core.false;
  good = sym c.is_label.ensures ∙ c.if-not-is_label.false;
})

pub returns-clause-refused : goal.returns-clause-refused
returns-clause-refused g c =
    refused_write c.args.core.now c.args.node c.args.label.now c.in-Some.row (sym c.get.ensures ∙ c.in-Some.is) c.write_field.result (g.S.ReadBytes.image c.args.space.now) _ _ c.write_field.ensures.writes.cause

pub returns-clause-writes : goal.returns-clause-writes
returns-clause-writes g c =
    let long = label_long c.args.label.now c.name_field.result c.name_field.ensures (sym c.is_label.ensures ∙ c.if-not-is_label.false) in
    record {
      sound = c.write_field.ensures.writes.sound;
      waits = omega (arith, ap how_many c.in-Ok.ensures.reads.waits, c.write_field.ensures.writes.waits, field_blocks (c.in-Some.row.place + 36) (length c.name_field.result) long);
      effect = reads_then _ _ 4 _ _ _ c.in-Ok.ensures.reads.effect c.write_field.ensures.writes.effect
          (omega (arith, header_blocks c.args.core.now.wide c.in-Some.row.place, field_blocks (c.in-Some.row.place + 36) (length c.name_field.result) long));
      cause = write_cause c.args.core.now c.args.node c.args.label.now (g.S.ReadBytes.image c.args.space.now) c.in-Some.row (sym c.get.ensures ∙ c.in-Some.is) c.write_field.result _ _ _
          c.in-Ok.ensures.reads.effect.faults c.write_field.ensures.writes.cause;
    }

pub returns-clause-reached : goal.returns-clause-reached
returns-clause-reached g c =
    where_ok c.write_field.result _
    (label_reached c.args.core.now c.args.node c.args.label.now c.in-Some.row (sym c.get.ensures ∙ c.in-Some.is) (g.S.ReadBytes.image c.args.space.now)
    (g.S.ReadBytes.waiting c.args.space.now) (g.S.ReadBytes.waiting c.read_header.new.bytes) (g.S.ReadBytes.waiting c.write_field.new.space) (length c.name_field.result) c.in-Ok.ensures.reads.waits
    (label_long c.args.label.now c.name_field.result c.name_field.ensures (sym c.is_label.ensures ∙ c.if-not-is_label.false)) c.write_field.ensures.only)
