use Rattle.std.proofs.lemmas.Bool.Decides.{not_from_Decides}
use Rattle.sids_tables.proofs.Tables.{listed_behind}
use Rattle.sids_tables.proofs.labels.allowed.Goals as goal

pub returns-else-is_among : goal.returns-else-is_among
returns-else-is_among c =
    let none = not_from_Decides _ c.is_among.ensures c.if-is_among.false in
    listed_behind _ _ _ _ _ c.children_row.ensures none c.is_among-else-is_among.ensures
