use Rattle.std.proofs.Common.{sym, subst}
use Rattle.kept_names.specs.Kept.{AreKept}
use Rattle.kept_names.proofs.names.Names.accept.Goals as goal

pub returns-else-self-clause-tied : goal.returns-else-self-clause-tied
returns-else-self-clause-tied c = λ now was are.
    let inside = subst (λ n. AreKept n now was) (sym c.self.view_is) are in
    record { work = λ q k at. inside.work q k at; undo = λ q k at less. inside.work q k at }
