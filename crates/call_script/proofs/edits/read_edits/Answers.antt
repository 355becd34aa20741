use Rattle.std.proofs.Common.{◌≡◌, ◌≢◌, ◌++◌, ◌∷◌, [], sym, ◌∙◌, ap, Err, rules}
use Rattle.std.specs.Prelude.{codes}
use Rattle.call_script.proofs.Reading.{ended_by}
use Rattle.call_script.proofs.CallLaws.{edits_none, edits_other, edits_on, err_same}
use Rattle.call_script.proofs.edits.read_edits.Goals as goal

pub returns-in_err-edit-clause-none : goal.returns-in_err-edit-clause-none
returns-in_err-edit-clause-none c = λ is edits h. edits_none _ _ _ c.edits.invariant (c.in_err-edit.ensures.none (ap Err (err_same _ _ (sym (ended_by _ _ c.from_residual.ensures.1) ∙ is)))) edits h

pub returns-then-ne-clause-none : goal.returns-then-ne-clause-none
returns-then-ne-clause-none c = λ _ edits h.
    let other : c.in-Some.token.now ≢ codes ";" = search rules in
    edits_other _ _ _ _ _ _ _ c.edits.invariant c.in_ok-edit.ensures.found c.in-Some.ensures other edits h

pub edits-preserved : goal.edits-preserved
edits-preserved c =
    let pushed : c.push.new.self.items ≡ c.edits.edits.items ++ c.in_ok-edit.edit ∷ [] = search rules in
    let parted : c.in-Some.token.now ≡ codes ";" = search rules in
    edits_on _ _ _ _ _ _ _ _ c.edits.invariant c.in_ok-edit.ensures.found c.in-Some.ensures parted pushed
