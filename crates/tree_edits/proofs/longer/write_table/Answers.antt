use Rattle.std.proofs.Common.{◌+◌, ◌*◌, ap, arith, length, [], ◌∷◌}
use Rattle.cg_io.proofs.ReadLaws.{few_only, only_then, refused_later, all_refused_later}
use Rattle.tree_edits.proofs.TableWritten.{written_held, head_again, head_long, few_blocks, two_blocks, waits_three, waits_four}
use Rattle.field_access.specs.Fields.{range}
use Rattle.field_access.proofs.WaitLaws.{waits_none}
use Rattle.tree_edits.proofs.Causes.{where_ok}
use Rattle.tree_edits.proofs.WaitSteps.{part_waits}
use Rattle.adf_format.specs.HeapRule.{grown_entries}
use Rattle.adf_format.specs.RecordFields.{table_length}
use Rattle.tree_edits.proofs.longer.write_table.Goals as goal

pub returns-in-Err-write_field-clause-writes : goal.returns-in-Err-write_field-clause-writes
returns-in-Err-write_field-clause-writes g c =
    let effect = only_then _ _ _ (few_only _ _ _ c.in-Ok.ensures.writes.effect) c.in-Ok-copy_bytes.ensures.writes.effect in
    let entries = c.grown-entries.ensures in
    let end = c.args.place + 16 + 44 * c.from.result in
    let is_head = head_again c.encode_head-head.result _ c.from_place.result c.encode_head-head.ensures c.from_place.ensures in
    let head = two_blocks c.args.place (length c.encode_head-head.result) (let l = head_long c.encode_head-head.result _ is_head in omega (arith, l)) in
    let entry = two_blocks _ (length c.args.entry.now) (omega (arith, c.told-entry)) in
    record {
      sound = c.in-Err-write_field.ensures.writes.sound;
      waits = waits_three _ _ _ _ _ _ _ _ _ c.in-Ok.ensures.writes.waits c.in-Ok-copy_bytes.ensures.writes.waits c.in-Err-write_field.ensures.writes.waits head (few_blocks _ _) entry (omega (arith, c.from-used.ensures));
      effect = only_then _ _ _ effect (few_only _ _ _ c.in-Err-write_field.ensures.writes.effect);
      cause = refused_later ⊥ ⊥ _ (g.S.ReadBytes.state c.copy_bytes.new.space).faults _ c.in-Err-write_field.error effect.faults (λ x. x) c.in-Err-write_field.ensures.writes.cause;
    }

pub returns-in-Err-clear_bytes-clause-writes : goal.returns-in-Err-clear_bytes-clause-writes
returns-in-Err-clear_bytes-clause-writes g c =
    let effect = only_then _ _ _ (only_then _ _ _ (few_only _ _ _ c.in-Ok.ensures.writes.effect) c.in-Ok-copy_bytes.ensures.writes.effect) (few_only _ _ _ c.in-Ok-write_field.ensures.writes.effect) in
    let entries = c.grown-entries.ensures in
    let end = c.args.place + 16 + 44 * c.from.result in
    let is_head = head_again c.encode_head-head.result _ c.from_place.result c.encode_head-head.ensures c.from_place.ensures in
    let head = two_blocks c.args.place (length c.encode_head-head.result) (let l = head_long c.encode_head-head.result _ is_head in omega (arith, l)) in
    let entry = two_blocks _ (length c.args.entry.now) (omega (arith, c.told-entry)) in
    let four = waits_four _ _ _ _ _ _ _ _ _ _ _ (44 * c.from.result) c.in-Ok.ensures.writes.waits c.in-Ok-copy_bytes.ensures.writes.waits c.in-Ok-write_field.ensures.writes.waits c.in-Err-clear_bytes.ensures.writes.waits head (few_blocks _ _) entry (few_blocks _ _)
    (omega (arith, c.from-used.ensures, c.from.ensures, entries)) in
    record {
      sound = c.in-Err-clear_bytes.ensures.writes.sound;
      waits = omega (arith, four, c.from.ensures, entries);
      effect = only_then _ _ _ effect c.in-Err-clear_bytes.ensures.writes.effect;
      cause = refused_later ⊥ ⊥ _ (g.S.ReadBytes.state c.write_field-2.new.space).faults _ c.in-Err-clear_bytes.error effect.faults (λ x. x) c.in-Err-clear_bytes.ensures.writes.cause;
    }

pub returns-clause-written : goal.returns-clause-written
returns-clause-written g c =
    let entries = c.grown-entries.ensures in
    let is_head = head_again c.encode_head-head.result _ c.from_place.result c.encode_head-head.ensures c.from_place.ensures in
    written_held c.write_field-3.result c.args.old c.args.place c.args.entry.now _ _ _ _ (omega (arith, c.from-used.ensures)) (omega (arith, c.from-used.ensures)) (omega (arith, c.from-used.ensures, c.from.ensures, entries)) (omega (arith, c.from.ensures, entries)) c.told-entry
    c.encode_head-head.result c.tail.result is_head c.tail.ensures
    (g.S.ReadBytes.image c.args.space.now) (g.S.ReadBytes.image c.write_field.new.space) (g.S.ReadBytes.image c.copy_bytes.new.space) (g.S.ReadBytes.image c.write_field-2.new.space) (g.S.ReadBytes.image c.clear_bytes.new.space) (g.S.ReadBytes.image c.write_field-3.new.space)
    c.in-Ok.ensures.written c.in-Ok.ensures.bytes c.in-Ok-copy_bytes.ensures.copied c.in-Ok-write_field.ensures.written c.in-Ok-write_field.ensures.bytes c.in-Ok-clear_bytes.ensures.cleared c.write_field-3.ensures.written c.write_field-3.ensures.bytes

pub returns-clause-writes : goal.returns-clause-writes
returns-clause-writes g c =
    let effect = only_then _ _ _ (only_then _ _ _ (only_then _ _ _ (few_only _ _ _ c.in-Ok.ensures.writes.effect) c.in-Ok-copy_bytes.ensures.writes.effect) (few_only _ _ _ c.in-Ok-write_field.ensures.writes.effect)) c.in-Ok-clear_bytes.ensures.writes.effect in
    let entries = c.grown-entries.ensures in
    let end = c.args.place + 16 + 44 * c.from.result in
    let is_head = head_again c.encode_head-head.result _ c.from_place.result c.encode_head-head.ensures c.from_place.ensures in
    let head = two_blocks c.args.place (length c.encode_head-head.result) (let l = head_long c.encode_head-head.result _ is_head in omega (arith, l)) in
    let entry = two_blocks _ (length c.args.entry.now) (omega (arith, c.told-entry)) in
    let four = waits_four _ _ _ _ _ _ _ _ _ _ _ (44 * c.from.result) c.in-Ok.ensures.writes.waits c.in-Ok-copy_bytes.ensures.writes.waits c.in-Ok-write_field.ensures.writes.waits c.in-Ok-clear_bytes.ensures.writes.waits head (few_blocks _ _) entry (few_blocks _ _)
    (omega (arith, c.from-used.ensures, c.from.ensures, entries)) in
    let last = two_blocks end (length c.tail.result) (let l = ap length c.tail.ensures in omega (arith, l)) in
    record {
      sound = c.write_field-3.ensures.writes.sound;
      waits = omega (arith, four, last, c.write_field-3.ensures.writes.waits, c.from.ensures, entries);
      effect = only_then _ _ _ effect (few_only _ _ _ c.write_field-3.ensures.writes.effect);
      cause = all_refused_later ⊥ ⊥ _ (g.S.ReadBytes.state c.clear_bytes.new.space).faults _ c.write_field-3.result effect.faults (λ x. x) c.write_field-3.ensures.writes.cause;
    }

pub returns-clause-waits : goal.returns-clause-waits
returns-clause-waits g c =
    let place = c.args.place in
    let all = table_length (grown_entries c.args.old.count) in
    let entries = c.grown-entries.ensures in
    let is_head = head_again c.encode_head-head.result _ c.from_place.result c.encode_head-head.ensures c.from_place.ensures in
    let head = head_long c.encode_head-head.result _ is_head in
    let last = ap length c.tail.ensures in
    where_ok c.write_field-3.result _
    (part_waits place all _ _ _ _ _
    (part_waits place all _ _ _ _ _
    (part_waits place all _ _ _ _ _
    (part_waits place all _ _ _ _ _
    (part_waits place all _ _ _ _ _ (waits_none (range place all ∷ []) (g.S.ReadBytes.waiting c.args.space.now)) c.in-Ok.ensures.only (omega arith) (omega (arith, head)))
    c.in-Ok-copy_bytes.ensures.waits (omega arith) (omega (arith, c.from-used.ensures, entries)))
    c.in-Ok-write_field.ensures.only (omega arith) (omega (arith, c.told-entry, c.from-used.ensures, entries)))
    c.in-Ok-clear_bytes.ensures.waits (omega arith) (omega (arith, c.from-used.ensures, c.from.ensures, entries)))
    c.write_field-3.ensures.only (omega arith) (omega (arith, last, c.from.ensures, entries)))
