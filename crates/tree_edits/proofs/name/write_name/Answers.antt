use Rattle.tree_edits.proofs.NameWritten.{both_written, entry_again, text_long}
use Rattle.std.proofs.Common.{◌+◌, [], ◌∷◌, length}
use Rattle.field_access.specs.Fields.{range}
use Rattle.tree_edits.proofs.Causes.{where_ok}
use Rattle.tree_edits.proofs.WaitSteps.{waits_both, waits_long}
use Rattle.tree_edits.proofs.name.write_name.Goals as goal

pub returns-clause-written : goal.returns-clause-written
returns-clause-written g c =
    both_written c.write_field-2.result c.args.place c.args.entry c.args.name.now c.encode_entry-text.result _ _ _ c.told-name
    (entry_again c.args.name.now c.encode_entry-text.result c.args.place c.from_place.result c.encode_entry-text.ensures c.from_place.ensures)
    c.in-Ok.ensures.written c.in-Ok.ensures.bytes c.write_field-2.ensures.written c.write_field-2.ensures.bytes

pub returns-clause-waits : goal.returns-clause-waits
returns-clause-waits g c =
    where_ok c.write_field-2.result _
    (waits_both (range (c.args.place + 4) 32 ∷ []) (range c.args.entry 44 ∷ []) _ _ _
    (waits_long (c.args.place + 4) (length c.args.name.now) 32 _ _ c.told-name c.in-Ok.ensures.only)
    (waits_long c.args.entry (length c.encode_entry-text.result) 44 _ _
    (text_long c.args.name.now c.encode_entry-text.result c.args.place c.told-name (entry_again c.args.name.now c.encode_entry-text.result c.args.place c.from_place.result c.encode_entry-text.ensures c.from_place.ensures))
    c.write_field-2.ensures.only))
