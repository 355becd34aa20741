use Rattle.std.proofs.Common.{sym, subst, IfSome}
use Rattle.tree_edits.specs.Known.{ListsTable}
use Rattle.tree_edits.proofs.KnownNames.{first_known}
use Rattle.tree_edits.proofs.known.find_name.Goals as goal

pub returns-then-len-table-clause-told : goal.returns-then-len-table-clause-told
returns-then-len-table-clause-told g c =
    let held = g.R.ReadBytes.image c.args.bytes.now in
    first_known held c.args.table c.in-Some.list.now c.args.name.now c.position_in.result
    (subst (λ known. IfSome known (λ list. ListsTable held c.args.table list.now)) c.in-Some.is c.requires.known)
    (sym c.position_in.ensures.value)
