use Rattle.std.proofs.Common.{◌∙◌, sym, arith, true, false, ap}
use Rattle.cg_io.proofs.ReadLaws.{reads_then, reads_more}
use Rattle.tree_edits.proofs.Causes.{where_ok}
use Rattle.tree_edits.proofs.Renames.{refused_none, refused_read_only, refused_root, refused_name, refused_unlisted, refused_fault, refused_taken, refused_write, done}
use Rattle.tree_edits.proofs.NameCauses.{unlisted_cause, looked, write_cause, once_read, twice_read, first_held}
use Rattle.cg_io.specs.Waits.{how_many}
use Rattle.tree_edits.proofs.Reaching.{name_reached}
use Rattle.std.proofs.lemmas.Result.{on_ok_weaker}
use Rattle.tree_edits.proofs.KnownNames.{known_siblings, known_table}
use Rattle.tree_edits.proofs.name.rename.Goals as goal

pub returns-in-None-clause-refused : goal.returns-in-None-clause-refused
returns-in-None-clause-refused g c = refused_none c.args.core.now c.args.node c.args.name.now (g.S.ReadBytes.image c.args.space.now) (sym c.get.ensures ∙ c.in-None.is)

pub returns-then-not-core-clause-refused : goal.returns-then-not-core-clause-refused
returns-then-not-core-clause-refused g c = refused_read_only c.args.core.now c.args.node c.args.name.now c.in-Some.row (sym c.get.ensures ∙ c.in-Some.is) (g.S.ReadBytes.image c.args.space.now) c.if-not-core.true

pub returns-in-None-parent-clause-refused : goal.returns-in-None-parent-clause-refused
returns-in-None-parent-clause-refused g c =
    refused_root c.args.core.now c.args.node c.args.name.now c.in-Some.row (sym c.get.ensures ∙ c.in-Some.is) (g.S.ReadBytes.image c.args.space.now) c.if-not-core.false c.in-None-parent.is

pub returns-then-not-is_name-clause-refused : goal.returns-then-not-is_name-clause-refused
returns-then-not-is_name-clause-refused g c =
    refused_name c.args.core.now c.args.node c.args.name.now c.in-Some.row (sym c.get.ensures ∙ c.in-Some.is) c.in-Some-parent.parent c.in-Some-parent.is c.if-not-core.false (g.S.ReadBytes.image c.args.space.now)
    (sym c.is_name.ensures ∙ c.if-not-is_name.true)

pub returns-in-Err-clause-refused : goal.returns-in-Err-clause-refused
returns-in-Err-clause-refused g c =
    refused_unlisted c.args.core.now c.args.node c.args.name.now c.in-Some.row (sym c.get.ensures ∙ c.in-Some.is) c.in-Some-parent.parent c.in-Some-parent.is c.if-not-core.false (g.S.ReadBytes.image c.args.space.now) _ _ c.in-Err.error
    c.in-Err.ensures.reads.cause

pub returns-in-Err-clause-writes : goal.returns-in-Err-clause-writes
returns-in-Err-clause-writes g c =
    let held = g.S.ReadBytes.image c.args.space.now in
    let good = sym c.is_name.ensures ∙ c.if-not-is_name.false in
    record {
      sound = c.in-Err.ensures.reads.sound;
      waits = omega (arith, ap how_many c.in-Err.ensures.reads.waits);
      effect = once_read c.args.core.now c.args.node c.args.name.now held c.in-Some.row (sym c.get.ensures ∙ c.in-Some.is) c.in-Some-parent.parent c.in-Some-parent.is c.if-not-core.false good _ _ c.in-Err.ensures.reads.effect;
      cause = unlisted_cause c.args.core.now c.args.node c.args.name.now held c.in-Some.row (sym c.get.ensures ∙ c.in-Some.is) c.in-Some-parent.parent c.in-Some-parent.is c.if-not-core.false good _ _ c.in-Err.error c.in-Err.ensures.reads.cause;
    }

pub returns-in-Err-find_name-clause-refused : goal.returns-in-Err-find_name-clause-refused
returns-in-Err-find_name-clause-refused g c = refused_fault c.args.core.now c.args.node c.args.name.now c.in-Some.row (sym c.get.ensures ∙ c.in-Some.is) (g.S.ReadBytes.image c.args.space.now)

pub returns-then-is_another-clause-refused : goal.returns-then-is_another-clause-refused
returns-then-is_another-clause-refused g c =
    let held = g.S.ReadBytes.image c.args.space.now in
    refused_taken c.args.core.now c.args.node c.args.name.now c.in-Some.row (sym c.get.ensures ∙ c.in-Some.is) c.in-Some-parent.parent c.in-Some-parent.is c.if-not-core.false (sym c.is_name.ensures ∙ c.if-not-is_name.false) c.in-Ok.listed
    c.in-Ok-find_name.found held c.in-Ok.ensures.listed
    (first_held c.args.name.now c.name_field-field.result c.in-Ok.listed.table c.in-Ok-find_name.found held (g.S.ReadBytes.image c.find_listed.new.space) c.in-Ok.ensures.reads.bytes c.name_field-field.ensures c.in-Ok-find_name.ensures.told)
    (sym c.is_another.ensures ∙ c.if-is_another.true)

pub returns-then-is_another-clause-writes : goal.returns-then-is_another-clause-writes
returns-then-is_another-clause-writes g c =
    let held = g.S.ReadBytes.image c.args.space.now in
    let good = sym c.is_name.ensures ∙ c.if-not-is_name.false in
    record {
      sound = c.in-Ok-find_name.ensures.reads.sound;
      waits = omega (arith, ap how_many c.in-Ok.ensures.reads.waits, ap how_many c.in-Ok-find_name.ensures.reads.waits);
      effect = twice_read c.args.core.now c.args.node c.args.name.now held c.in-Some.row (sym c.get.ensures ∙ c.in-Some.is) c.in-Some-parent.parent c.in-Some-parent.is c.if-not-core.false good c.in-Ok.listed.table c.in-Ok.ensures.listed.table 0 (omega arith) _ _ _
          c.in-Ok.ensures.soon (reads_more _ _ _ _ c.in-Ok-find_name.ensures.reads.effect (omega arith));
      cause = looked c.args.core.now c.args.node c.args.name.now held c.in-Some.row (sym c.get.ensures ∙ c.in-Some.is) c.in-Some-parent.parent c.in-Some-parent.is c.if-not-core.false good c.in-Ok.listed c.in-Ok.ensures.listed c.in-Ok-find_name.found
          (first_held c.args.name.now c.name_field-field.result c.in-Ok.listed.table c.in-Ok-find_name.found held (g.S.ReadBytes.image c.find_listed.new.space) c.in-Ok.ensures.reads.bytes c.name_field-field.ensures c.in-Ok-find_name.ensures.told)
          true (sym c.is_another.ensures ∙ c.if-is_another.true);
    }

pub returns-clause-done : goal.returns-clause-done
returns-clause-done g c =
    let held = g.S.ReadBytes.image c.args.space.now in
    done c.args.core.now c.args.node c.args.name.now c.in-Some.row (sym c.get.ensures ∙ c.in-Some.is) c.in-Some-parent.parent c.in-Some-parent.is c.if-not-core.false (sym c.is_name.ensures ∙ c.if-not-is_name.false) c.in-Ok.listed
    c.in-Ok-find_name.found c.write_name.result held (g.S.ReadBytes.image c.find_name.new.bytes) (g.S.ReadBytes.image c.write_name.new.space) c.name_field-field.result c.entry.result c.in-Ok.ensures.listed
    (first_held c.args.name.now c.name_field-field.result c.in-Ok.listed.table c.in-Ok-find_name.found held (g.S.ReadBytes.image c.find_listed.new.space) c.in-Ok.ensures.reads.bytes c.name_field-field.ensures c.in-Ok-find_name.ensures.told)
    (sym c.is_another.ensures ∙ c.if-is_another.false) c.name_field-field.ensures c.entry.ensures (c.in-Ok-find_name.ensures.reads.bytes ∙ c.in-Ok.ensures.reads.bytes) c.write_name.ensures.written

pub returns-clause-allowed : goal.returns-clause-allowed
returns-clause-allowed g c =
    let held = g.S.ReadBytes.image c.args.space.now in
    where_ok c.write_name.result _
    (looked c.args.core.now c.args.node c.args.name.now held c.in-Some.row (sym c.get.ensures ∙ c.in-Some.is) c.in-Some-parent.parent c.in-Some-parent.is c.if-not-core.false (sym c.is_name.ensures ∙ c.if-not-is_name.false) c.in-Ok.listed
    c.in-Ok.ensures.listed c.in-Ok-find_name.found
    (first_held c.args.name.now c.name_field-field.result c.in-Ok.listed.table c.in-Ok-find_name.found held (g.S.ReadBytes.image c.find_listed.new.space) c.in-Ok.ensures.reads.bytes c.name_field-field.ensures c.in-Ok-find_name.ensures.told)
    false (sym c.is_another.ensures ∙ c.if-is_another.false))

pub returns-clause-refused : goal.returns-clause-refused
returns-clause-refused g c =
    refused_write c.args.core.now c.args.node c.args.name.now c.in-Some.row (sym c.get.ensures ∙ c.in-Some.is) c.write_name.result (g.S.ReadBytes.image c.args.space.now) _ _ c.write_name.ensures.writes.cause

pub returns-clause-writes : goal.returns-clause-writes
returns-clause-writes g c =
    let held = g.S.ReadBytes.image c.args.space.now in
    let good = sym c.is_name.ensures ∙ c.if-not-is_name.false in
    let found = sym c.get.ensures ∙ c.in-Some.is in
    record {
      sound = c.write_name.ensures.writes.sound;
      waits = omega (arith, ap how_many c.in-Ok.ensures.reads.waits, ap how_many c.in-Ok-find_name.ensures.reads.waits, c.write_name.ensures.writes.waits);
      effect = twice_read c.args.core.now c.args.node c.args.name.now held c.in-Some.row found c.in-Some-parent.parent c.in-Some-parent.is c.if-not-core.false good c.in-Ok.listed.table c.in-Ok.ensures.listed.table 4 (omega arith) _ _ _
          c.in-Ok.ensures.soon (reads_then _ 4 _ _ _ _ c.in-Ok-find_name.ensures.reads.effect c.write_name.ensures.writes.effect (omega arith));
      cause = write_cause c.args.core.now c.args.node c.args.name.now held c.in-Some.row found c.in-Some-parent.parent c.in-Some-parent.is c.if-not-core.false good c.in-Ok.listed c.in-Ok.ensures.listed c.in-Ok-find_name.found
          (first_held c.args.name.now c.name_field-field.result c.in-Ok.listed.table c.in-Ok-find_name.found held (g.S.ReadBytes.image c.find_listed.new.space) c.in-Ok.ensures.reads.bytes c.name_field-field.ensures c.in-Ok-find_name.ensures.told)
          c.write_name.result (sym c.is_another.ensures ∙ c.if-is_another.false) _ _ _ (omega (arith, c.in-Ok.ensures.soon.faults, c.in-Ok-find_name.ensures.reads.effect.faults)) c.write_name.ensures.writes.cause;
    }

pub returns-clause-reached : goal.returns-clause-reached
returns-clause-reached g c =
    on_ok_weaker c.write_name.result
    (λ w. name_reached c.args.core.now c.args.node c.args.name.now c.in-Some.row (sym c.get.ensures ∙ c.in-Some.is) c.in-Some-parent.parent c.in-Some-parent.is c.in-Ok.listed (g.S.ReadBytes.image c.args.space.now) c.in-Ok.ensures.listed
    (g.S.ReadBytes.waiting c.args.space.now) (g.S.ReadBytes.waiting c.find_name.new.bytes) (g.S.ReadBytes.waiting c.write_name.new.space) c.entry.result (c.in-Ok-find_name.ensures.reads.waits ∙ c.in-Ok.ensures.reads.waits) c.entry.ensures w)
    c.write_name.ensures.waits

pub find_name-requires-clause-known : goal.find_name-requires-clause-known
find_name-requires-clause-known g c =
    let core = c.args.core.now in
    let held = g.S.ReadBytes.image c.args.space.now in
    known_table (λ list. list.now) core held _ c.in-Some-parent.parent c.in-Ok.listed.table c.in-Ok.ensures.listed.table c.in-Ok.ensures.reads.bytes c.args.known
    (known_siblings (λ list. list.now) core held c.args.node.serial c.in-Some.row c.in-Some-parent.parent (sym c.get.ensures ∙ c.in-Some.is) c.in-Some-parent.is c.args.known c.requires.known)
