use Rattle.std.proofs.Common.{◌∙◌, refl, sym, subst, true, false, None, Some, Ok}
use Rattle.adf_format.specs.Fields.{text_field}
use Rattle.cg_io.proofs.ReadLaws.{reads_more, rose_later}
use Rattle.node_reads.specs.declared.find.Wanted.TheVariants.{Name}
use Rattle.tree_edits.specs.Listed.{FindsFirst}
use Rattle.tree_edits.specs.Room.{HasRoom, IsRoomRefusal}
use Rattle.tree_edits.proofs.Causes.{row_there, header_blocks}
use Rattle.tree_edits.proofs.NameCauses.{header_unread, table_unread, named_table, first_held}
use Rattle.tree_edits.proofs.Rooms.{refused_none, refused_fault, refused_unread, refused_link, refused_read_only, refused_name, refused_label, refused_taken, refused_room}
use Rattle.tree_edits.proofs.KnownNames.{known_table, known_soon}
use Rattle.tree_edits.proofs.RoomCauses.{table_cause, table_is, header_read, table_read, soon, says_kind, asked, room_cause}
use Rattle.tree_edits.proofs.room.find_room.Goals as goal

pub returns-in-None-clause-refused : goal.returns-in-None-clause-refused
returns-in-None-clause-refused g c = refused_none c.args.core.now c.args.at c.args.name.now c.args.label.now (g.S.ReadBytes.image c.args.space.now) (sym c.get.ensures ∙ c.in-None.is)

pub returns-in-Err-clause-refused : goal.returns-in-Err-clause-refused
returns-in-Err-clause-refused g c =
    let held = g.S.ReadBytes.image c.args.space.now in
    refused_unread c.args.core.now c.args.at c.args.name.now c.args.label.now c.in-Some.row (sym c.get.ensures ∙ c.in-Some.is) held _ _ c.in-Err.error
    (header_unread c.args.core.now.wide held c.in-Some.row.place _ _ c.in-Err.error c.in-Err.ensures.reads.cause)

pub returns-in-Err-clause-reads : goal.returns-in-Err-clause-reads
returns-in-Err-clause-reads g c =
    let held = g.S.ReadBytes.image c.args.space.now in
    let found = sym c.get.ensures ∙ c.in-Some.is in
    record {
      sound = c.in-Err.ensures.reads.sound;
      bytes = c.in-Err.ensures.reads.bytes;
      waits = c.in-Err.ensures.reads.waits;
      effect = header_read c.args.core.now c.args.at c.args.name.now c.args.label.now held c.in-Some.row found _ _ c.in-Err.ensures.reads.effect;
      cause = table_cause c.args.core.now c.args.at c.args.name.now c.args.label.now held c.in-Some.row found _ _ c.in-Err.error (header_unread c.args.core.now.wide held c.in-Some.row.place _ _ c.in-Err.error c.in-Err.ensures.reads.cause);
    }

pub returns-then-is_link-clause-refused : goal.returns-then-is_link-clause-refused
returns-then-is_link-clause-refused g c =
    refused_link c.args.core.now c.args.at c.args.name.now c.args.label.now c.in-Some.row (sym c.get.ensures ∙ c.in-Some.is) c.in-Ok.header true (sym c.is_link.ensures ∙ c.if-is_link.true) (g.S.ReadBytes.image c.args.space.now) c.in-Ok.ensures.header refl

pub returns-then-is_link-clause-reads : goal.returns-then-is_link-clause-reads
returns-then-is_link-clause-reads g c =
    let held = g.S.ReadBytes.image c.args.space.now in
    let found = sym c.get.ensures ∙ c.in-Some.is in
    record {
      sound = c.in-Ok.ensures.reads.sound;
      bytes = c.in-Ok.ensures.reads.bytes;
      waits = c.in-Ok.ensures.reads.waits;
      effect = header_read c.args.core.now c.args.at c.args.name.now c.args.label.now held c.in-Some.row found _ _ c.in-Ok.ensures.reads.effect;
      cause = (c.in-Some.row, says_kind c.args.core.now c.args.at c.args.name.now c.args.label.now held c.in-Some.row found c.in-Ok.header c.in-Ok.ensures.header true (sym c.is_link.ensures ∙ c.if-is_link.true));
    }

pub returns-then-not-core-clause-refused : goal.returns-then-not-core-clause-refused
returns-then-not-core-clause-refused g c =
    refused_read_only c.args.core.now c.args.at c.args.name.now c.args.label.now c.in-Some.row (sym c.get.ensures ∙ c.in-Some.is) c.in-Ok.header false (sym c.is_link.ensures ∙ c.if-is_link.false) (g.S.ReadBytes.image c.args.space.now) c.in-Ok.ensures.header refl c.if-not-core.true

pub returns-then-not-core-clause-reads : goal.returns-then-not-core-clause-reads
returns-then-not-core-clause-reads g c =
    let held = g.S.ReadBytes.image c.args.space.now in
    let found = sym c.get.ensures ∙ c.in-Some.is in
    record {
      sound = c.in-Ok.ensures.reads.sound;
      bytes = c.in-Ok.ensures.reads.bytes;
      waits = c.in-Ok.ensures.reads.waits;
      effect = header_read c.args.core.now c.args.at c.args.name.now c.args.label.now held c.in-Some.row found _ _ c.in-Ok.ensures.reads.effect;
      cause = ((c.in-Some.row, says_kind c.args.core.now c.args.at c.args.name.now c.args.label.now held c.in-Some.row found c.in-Ok.header c.in-Ok.ensures.header false (sym c.is_link.ensures ∙ c.if-is_link.false)), c.if-not-core.true);
    }

pub returns-then-not-is_name-clause-refused : goal.returns-then-not-is_name-clause-refused
returns-then-not-is_name-clause-refused g c =
    refused_name c.args.core.now c.args.at c.args.name.now c.args.label.now c.in-Some.row (sym c.get.ensures ∙ c.in-Some.is) c.in-Ok.header false (sym c.is_link.ensures ∙ c.if-is_link.false) refl c.if-not-core.false (g.S.ReadBytes.image c.args.space.now)
    c.in-Ok.ensures.header (sym c.is_name.ensures ∙ c.if-not-is_name.true)

pub returns-then-not-is_name-clause-reads : goal.returns-then-not-is_name-clause-reads
returns-then-not-is_name-clause-reads g c =
    let held = g.S.ReadBytes.image c.args.space.now in
    let found = sym c.get.ensures ∙ c.in-Some.is in
    record {
      sound = c.in-Ok.ensures.reads.sound;
      bytes = c.in-Ok.ensures.reads.bytes;
      waits = c.in-Ok.ensures.reads.waits;
      effect = header_read c.args.core.now c.args.at c.args.name.now c.args.label.now held c.in-Some.row found _ _ c.in-Ok.ensures.reads.effect;
      cause = (
        (c.in-Some.row, says_kind c.args.core.now c.args.at c.args.name.now c.args.label.now held c.in-Some.row found c.in-Ok.header c.in-Ok.ensures.header false (sym c.is_link.ensures ∙ c.if-is_link.false)),
        c.if-not-core.false,
        sym c.is_name.ensures ∙ c.if-not-is_name.true,
      );
    }

pub returns-then-not-is_label-clause-refused : goal.returns-then-not-is_label-clause-refused
returns-then-not-is_label-clause-refused g c =
    refused_label c.args.core.now c.args.at c.args.name.now c.args.label.now c.in-Some.row (sym c.get.ensures ∙ c.in-Some.is) c.in-Ok.header false (sym c.is_link.ensures ∙ c.if-is_link.false) refl c.if-not-core.false (sym c.is_name.ensures ∙ c.if-not-is_name.false)
    (g.S.ReadBytes.image c.args.space.now) c.in-Ok.ensures.header (sym c.is_label.ensures ∙ c.if-not-is_label.true)

pub returns-then-not-is_label-clause-reads : goal.returns-then-not-is_label-clause-reads
returns-then-not-is_label-clause-reads g c =
    let held = g.S.ReadBytes.image c.args.space.now in
    let found = sym c.get.ensures ∙ c.in-Some.is in
    record {
      sound = c.in-Ok.ensures.reads.sound;
      bytes = c.in-Ok.ensures.reads.bytes;
      waits = c.in-Ok.ensures.reads.waits;
      effect = header_read c.args.core.now c.args.at c.args.name.now c.args.label.now held c.in-Some.row found _ _ c.in-Ok.ensures.reads.effect;
      cause = (
        (c.in-Some.row, says_kind c.args.core.now c.args.at c.args.name.now c.args.label.now held c.in-Some.row found c.in-Ok.header c.in-Ok.ensures.header false (sym c.is_link.ensures ∙ c.if-is_link.false)),
        c.if-not-core.false,
        sym c.is_name.ensures ∙ c.if-not-is_name.false,
        sym c.is_label.ensures ∙ c.if-not-is_label.true,
      );
    }

pub returns-in-Err-child_table-clause-refused : goal.returns-in-Err-child_table-clause-refused
returns-in-Err-child_table-clause-refused g c =
    let held = g.S.ReadBytes.image c.args.space.now in
    let found = sym c.get.ensures ∙ c.in-Some.is in
    let header = c.in-Ok.ensures.header in
    refused_unread c.args.core.now c.args.at c.args.name.now c.args.label.now c.in-Some.row found held 0 0 c.in-Err-child_table.error
    (table_unread c.args.core.now.wide held c.in-Some.row.place 0 0 c.in-Ok.header header c.in-Err-child_table.error c.in-Err-child_table.ensures.broken)

pub returns-in-Err-child_table-clause-reads : goal.returns-in-Err-child_table-clause-reads
returns-in-Err-child_table-clause-reads g c =
    let held = g.S.ReadBytes.image c.args.space.now in
    let found = sym c.get.ensures ∙ c.in-Some.is in
    let header = c.in-Ok.ensures.header in
    record {
      sound = c.in-Ok.ensures.reads.sound;
      bytes = c.in-Ok.ensures.reads.bytes;
      waits = c.in-Ok.ensures.reads.waits;
      effect = header_read c.args.core.now c.args.at c.args.name.now c.args.label.now held c.in-Some.row found _ _ c.in-Ok.ensures.reads.effect;
      cause = table_cause c.args.core.now c.args.at c.args.name.now c.args.label.now held c.in-Some.row found _ _ c.in-Err-child_table.error
          (table_unread c.args.core.now.wide held c.in-Some.row.place _ _ c.in-Ok.header header c.in-Err-child_table.error c.in-Err-child_table.ensures.broken);
    }

pub returns-in-Err-find_name-clause-refused : goal.returns-in-Err-find_name-clause-refused
returns-in-Err-find_name-clause-refused g c = refused_fault c.args.core.now c.args.at c.args.name.now c.args.label.now c.in-Some.row (sym c.get.ensures ∙ c.in-Some.is) (g.S.ReadBytes.image c.args.space.now)

pub returns-in-Err-find_name-clause-reads : goal.returns-in-Err-find_name-clause-reads
returns-in-Err-find_name-clause-reads g c =
    let held = g.S.ReadBytes.image c.args.space.now in
    let found = sym c.get.ensures ∙ c.in-Some.is in
    let header = c.in-Ok.ensures.header in
    let named_by = (named_table c.args.core.now.wide held c.in-Some.row.place c.in-Ok.header header (Ok c.in-Ok-child_table.table) c.in-Ok-child_table.ensures.table c.in-Ok-child_table.ensures.kept) in
    record {
      sound = c.in-Err-find_name.ensures.reads.sound;
      bytes = c.in-Err-find_name.ensures.reads.bytes ∙ c.in-Ok.ensures.reads.bytes;
      waits = c.in-Err-find_name.ensures.reads.waits ∙ c.in-Ok.ensures.reads.waits;
      effect = table_read c.args.core.now c.args.at c.args.name.now c.args.label.now held c.in-Some.row found c.in-Ok-child_table.table named_by _ _ _ c.in-Ok.ensures.reads.effect c.in-Err-find_name.ensures.reads.effect;
      cause = (row_there _ c.in-Some.row found, rose_later _ _ _ c.in-Ok.ensures.reads.effect.faults c.in-Err-find_name.ensures.reads.cause);
    }

pub returns-in-Ok-Some-clause-refused : goal.returns-in-Ok-Some-clause-refused
returns-in-Ok-Some-clause-refused g c =
    let held = g.S.ReadBytes.image c.args.space.now in
    let found = sym c.get.ensures ∙ c.in-Some.is in
    let header = c.in-Ok.ensures.header in
    let named_by = (named_table c.args.core.now.wide held c.in-Some.row.place c.in-Ok.header header (Ok c.in-Ok-child_table.table) c.in-Ok-child_table.ensures.table c.in-Ok-child_table.ensures.kept) in
    refused_taken c.args.core.now c.args.at c.args.name.now c.args.label.now c.in-Some.row found c.in-Ok.header false (sym c.is_link.ensures ∙ c.if-is_link.false) refl c.if-not-core.false (sym c.is_name.ensures ∙ c.if-not-is_name.false) (sym c.is_label.ensures ∙ c.if-not-is_label.false) c.in-Ok-child_table.table held header named_by c.in-Ok-Some.field-0-0
    (subst (FindsFirst held c.in-Ok-child_table.table (Name (text_field 32 c.args.name.now))) c.in-Ok-Some.field-0-is (first_held c.args.name.now c.name_field.result c.in-Ok-child_table.table c.in-Ok-Some.field-0 held (g.S.ReadBytes.image c.read_header.new.bytes) c.in-Ok.ensures.reads.bytes c.name_field.ensures c.in-Ok-Some.ensures.told))

pub returns-in-Ok-Some-clause-reads : goal.returns-in-Ok-Some-clause-reads
returns-in-Ok-Some-clause-reads g c =
    let held = g.S.ReadBytes.image c.args.space.now in
    let found = sym c.get.ensures ∙ c.in-Some.is in
    let header = c.in-Ok.ensures.header in
    let named_by = (named_table c.args.core.now.wide held c.in-Some.row.place c.in-Ok.header header (Ok c.in-Ok-child_table.table) c.in-Ok-child_table.ensures.table c.in-Ok-child_table.ensures.kept) in
    let node = (says_kind c.args.core.now c.args.at c.args.name.now c.args.label.now held c.in-Some.row found c.in-Ok.header header false (sym c.is_link.ensures ∙ c.if-is_link.false)) in
    record {
      sound = c.in-Ok-Some.ensures.reads.sound;
      bytes = c.in-Ok-Some.ensures.reads.bytes ∙ c.in-Ok.ensures.reads.bytes;
      waits = c.in-Ok-Some.ensures.reads.waits ∙ c.in-Ok.ensures.reads.waits;
      effect = table_read c.args.core.now c.args.at c.args.name.now c.args.label.now held c.in-Some.row found c.in-Ok-child_table.table named_by _ _ _ c.in-Ok.ensures.reads.effect c.in-Ok-Some.ensures.reads.effect;
      cause = (c.in-Some.row, c.in-Ok-child_table.table, c.in-Ok-Some.field-0-0, asked c.args.core.now c.args.at c.args.name.now c.args.label.now held c.in-Some.row found node c.if-not-core.false (sym c.is_name.ensures ∙ c.if-not-is_name.false) (sym c.is_label.ensures ∙ c.if-not-is_label.false) c.in-Ok-child_table.table named_by (Some c.in-Ok-Some.field-0-0) (subst (FindsFirst held c.in-Ok-child_table.table (Name (text_field 32 c.args.name.now))) c.in-Ok-Some.field-0-is (first_held c.args.name.now c.name_field.result c.in-Ok-child_table.table c.in-Ok-Some.field-0 held (g.S.ReadBytes.image c.read_header.new.bytes) c.in-Ok.ensures.reads.bytes c.name_field.ensures c.in-Ok-Some.ensures.told)));
    }

pub returns-in-Err-room_for-clause-refused : goal.returns-in-Err-room_for-clause-refused
returns-in-Err-room_for-clause-refused g c =
    let held = g.S.ReadBytes.image c.args.space.now in
    let found = sym c.get.ensures ∙ c.in-Some.is in
    let header = c.in-Ok.ensures.header in
    let named_by = (named_table c.args.core.now.wide held c.in-Some.row.place c.in-Ok.header header (Ok c.in-Ok-child_table.table) c.in-Ok-child_table.ensures.table c.in-Ok-child_table.ensures.kept) in
    refused_room c.args.core.now c.args.at c.args.name.now c.args.label.now c.in-Some.row found c.in-Ok.header false (sym c.is_link.ensures ∙ c.if-is_link.false) refl c.if-not-core.false (sym c.is_name.ensures ∙ c.if-not-is_name.false) (sym c.is_label.ensures ∙ c.if-not-is_label.false) c.in-Ok-child_table.table held header named_by
    (subst (FindsFirst held c.in-Ok-child_table.table (Name (text_field 32 c.args.name.now))) c.in-Ok-None.field-0-is (first_held c.args.name.now c.name_field.result c.in-Ok-child_table.table c.in-Ok-None.field-0 held (g.S.ReadBytes.image c.read_header.new.bytes) c.in-Ok.ensures.reads.bytes c.name_field.ensures c.in-Ok-None.ensures.told)) c.in-Err-room_for.error
    (subst (λ n. IsRoomRefusal c.in-Ok-child_table.table.count c.in-Some.row.depth n c.in-Err-room_for.error) c.count.ensures c.in-Err-room_for.ensures.err)

pub returns-in-Err-room_for-clause-reads : goal.returns-in-Err-room_for-clause-reads
returns-in-Err-room_for-clause-reads g c =
    let held = g.S.ReadBytes.image c.args.space.now in
    let found = sym c.get.ensures ∙ c.in-Some.is in
    let header = c.in-Ok.ensures.header in
    let named_by = (named_table c.args.core.now.wide held c.in-Some.row.place c.in-Ok.header header (Ok c.in-Ok-child_table.table) c.in-Ok-child_table.ensures.table c.in-Ok-child_table.ensures.kept) in
    let node = (says_kind c.args.core.now c.args.at c.args.name.now c.args.label.now held c.in-Some.row found c.in-Ok.header header false (sym c.is_link.ensures ∙ c.if-is_link.false)) in
    record {
      sound = c.in-Ok-None.ensures.reads.sound;
      bytes = c.in-Ok-None.ensures.reads.bytes ∙ c.in-Ok.ensures.reads.bytes;
      waits = c.in-Ok-None.ensures.reads.waits ∙ c.in-Ok.ensures.reads.waits;
      effect = table_read c.args.core.now c.args.at c.args.name.now c.args.label.now held c.in-Some.row found c.in-Ok-child_table.table named_by _ _ _ c.in-Ok.ensures.reads.effect c.in-Ok-None.ensures.reads.effect;
      cause = room_cause c.args.core.now c.args.at c.args.name.now c.args.label.now held c.in-Some.row found node c.if-not-core.false (sym c.is_name.ensures ∙ c.if-not-is_name.false) (sym c.is_label.ensures ∙ c.if-not-is_label.false) c.in-Ok-child_table.table named_by _ _ (subst (FindsFirst held c.in-Ok-child_table.table (Name (text_field 32 c.args.name.now))) c.in-Ok-None.field-0-is (first_held c.args.name.now c.name_field.result c.in-Ok-child_table.table c.in-Ok-None.field-0 held (g.S.ReadBytes.image c.read_header.new.bytes) c.in-Ok.ensures.reads.bytes c.name_field.ensures c.in-Ok-None.ensures.told)) c.in-Err-room_for.error (subst (λ n. IsRoomRefusal c.in-Ok-child_table.table.count c.in-Some.row.depth n c.in-Err-room_for.error) c.count.ensures c.in-Err-room_for.ensures.err);
    }

pub returns-in-Ok-room_for-clause-room : goal.returns-in-Ok-room_for-clause-room
returns-in-Ok-room_for-clause-room g c =
    let held = g.S.ReadBytes.image c.args.space.now in
    let found = sym c.get.ensures ∙ c.in-Some.is in
    let header = c.in-Ok.ensures.header in
    let named_by = (named_table c.args.core.now.wide held c.in-Some.row.place c.in-Ok.header header (Ok c.in-Ok-child_table.table) c.in-Ok-child_table.ensures.table c.in-Ok-child_table.ensures.kept) in
    let node = (says_kind c.args.core.now c.args.at c.args.name.now c.args.label.now held c.in-Some.row found c.in-Ok.header header false (sym c.is_link.ensures ∙ c.if-is_link.false)) in
    record {
      asked = asked c.args.core.now c.args.at c.args.name.now c.args.label.now held c.in-Some.row found node c.if-not-core.false (sym c.is_name.ensures ∙ c.if-not-is_name.false) (sym c.is_label.ensures ∙ c.if-not-is_label.false) c.in-Ok-child_table.table named_by None (subst (FindsFirst held c.in-Ok-child_table.table (Name (text_field 32 c.args.name.now))) c.in-Ok-None.field-0-is (first_held c.args.name.now c.name_field.result c.in-Ok-child_table.table c.in-Ok-None.field-0 held (g.S.ReadBytes.image c.read_header.new.bytes) c.in-Ok.ensures.reads.bytes c.name_field.ensures c.in-Ok-None.ensures.told));
      room = (subst (λ n. HasRoom c.in-Ok-child_table.table.count c.in-Some.row.depth n) c.count.ensures c.in-Ok-room_for.ensures.ok);
    }

pub returns-in-Ok-room_for-clause-soon : goal.returns-in-Ok-room_for-clause-soon
returns-in-Ok-room_for-clause-soon g c =
    soon c.args.core.now c.args.at c.args.name.now c.args.label.now (g.S.ReadBytes.image c.args.space.now) c.in-Some.row (sym c.get.ensures ∙ c.in-Some.is) c.in-Ok-child_table.table _ _ _ c.in-Ok.ensures.reads.effect c.in-Ok-None.ensures.reads.effect

pub returns-in-Ok-room_for-clause-reads : goal.returns-in-Ok-room_for-clause-reads
returns-in-Ok-room_for-clause-reads g c =
    let held = g.S.ReadBytes.image c.args.space.now in
    let found = sym c.get.ensures ∙ c.in-Some.is in
    let header = c.in-Ok.ensures.header in
    let named_by = (named_table c.args.core.now.wide held c.in-Some.row.place c.in-Ok.header header (Ok c.in-Ok-child_table.table) c.in-Ok-child_table.ensures.table c.in-Ok-child_table.ensures.kept) in
    record {
      sound = c.in-Ok-None.ensures.reads.sound;
      bytes = c.in-Ok-None.ensures.reads.bytes ∙ c.in-Ok.ensures.reads.bytes;
      waits = c.in-Ok-None.ensures.reads.waits ∙ c.in-Ok.ensures.reads.waits;
      effect = table_read c.args.core.now c.args.at c.args.name.now c.args.label.now held c.in-Some.row found c.in-Ok-child_table.table named_by _ _ _ c.in-Ok.ensures.reads.effect c.in-Ok-None.ensures.reads.effect;
      cause = tt;
    }

pub find_name-requires-clause-known : goal.find_name-requires-clause-known
find_name-requires-clause-known g c =
    let held = g.S.ReadBytes.image c.args.space.now in
    let found = sym c.get.ensures ∙ c.in-Some.is in
    let header = c.in-Ok.ensures.header in
    let named_by = (named_table c.args.core.now.wide held c.in-Some.row.place c.in-Ok.header header (Ok c.in-Ok-child_table.table) c.in-Ok-child_table.ensures.table c.in-Ok-child_table.ensures.kept) in
    known_table (λ list. list.now) c.args.core.now held _ c.args.at.serial c.in-Ok-child_table.table (table_is c.args.core.now c.args.at c.args.name.now c.args.label.now held c.in-Some.row found c.in-Ok-child_table.table named_by)
    c.in-Ok.ensures.reads.bytes c.args.known c.requires.known

pub returns-in-Ok-room_for-clause-still : goal.returns-in-Ok-room_for-clause-still
returns-in-Ok-room_for-clause-still g c =
    known_soon (λ list. list.now) g.S.ReadBytes.state c.args.space.now c.read_header.new.bytes c.find_name.new.bytes 2 c.in-Ok-child_table.table.count c.args.known
    (reads_more _ 2 _ _ c.in-Ok.ensures.reads.effect (header_blocks c.args.core.now.wide c.in-Some.row.place)) c.in-Ok-None.ensures.still
