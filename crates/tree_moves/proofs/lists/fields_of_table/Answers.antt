use Rattle.std.proofs.Common.{◌∙◌}
use Rattle.tree_moves.proofs.ListTexts.{kept_are}
use Rattle.tree_moves.proofs.lists.fields_of_table.Goals as goal

pub returns : goal.returns
returns c =
    kept_are c.args.count c.args.place c.from-2.result c.from.result c.put_number-next.result c.put_number-next-2.result c.put_pointer.result c.from_place.result c.put_number-next.new.into c.put_number-next-2.new.into c.put_pointer.new.into
    c.put_number-next.ensures.end c.put_number-next.ensures.text c.put_number-next-2.ensures.end c.put_number-next-2.ensures.text c.put_pointer.ensures.end c.put_pointer.ensures.text
    (c.put_pointer.ensures.long ∙ c.put_number-next-2.ensures.long ∙ c.put_number-next.ensures.long) c.from.ensures (c.from-2.ensures ∙ c.grown.ensures) c.from_place.ensures
