use Rattle.std.proofs.Common.{◌∙◌, refl, sym, ap, subst, arith}
use Rattle.std.specs.Prelude.{IsSome}
use Rattle.adf_format.specs.Links.{file_part, path_part}
use Rattle.adf_model.specs.Slots.{Files, open_at}
use Rattle.adf_model.proofs.Answering.AskLaws.{asks_more}
use Rattle.adf_follow.proofs.Found.{text_fails, no_link, too_many, file_fails, path_fails, path_leads, follow_fails, child_fails, child_missing, child_taken, opened_on}
use Rattle.adf_follow.proofs.walks.+following.Goals as goal

pub follow-returns-in-Ok-None-clause-found : goal.follow-returns-in-Ok-None-clause-found
follow-returns-in-Ok-None-clause-found g t c =
    let found = rw c.in-Ok-None.field-0-is at c.in-Ok-None.ensures.found in
    no_link _ _ c.args.node c.args.left c.requires.few found _ refl

pub follow-returns-in-Err-clause-found : goal.follow-returns-in-Err-clause-found
follow-returns-in-Err-clause-found g t c = text_fails _ _ c.args.node c.args.left c.requires.few _ c.in-Err.error c.in-Err.ensures.found

pub follow-returns-then-left-eq0-clause-found : goal.follow-returns-then-left-eq0-clause-found
follow-returns-then-left-eq0-clause-found g t c =
    let found = rw c.in-Ok-Some.field-0-is at c.in-Ok-Some.ensures.found in
    too_many _ _ c.args.node c.args.left c.requires.few _ _ c.link_text.ensures.leaves 0 _ _ _ found refl refl (omega arith)

pub follow-returns-in-Err-linked_file-clause-found : goal.follow-returns-in-Err-linked_file-clause-found
follow-returns-in-Err-linked_file-clause-found g t c =
    let found = rw c.in-Ok-Some.field-0-is at c.in-Ok-Some.ensures.found in
    file_fails _ _ c.args.node c.args.left c.requires.few _ _ c.link_text.ensures.leaves 0 _ _ _ found (c.file_in.ensures ∙ ap file_part c.items.ensures) refl (omega arith)
    c.in-Err-linked_file.error c.in-Err-linked_file.ensures

pub follow-returns-in-Err-walk-clause-found : goal.follow-returns-in-Err-walk-clause-found
follow-returns-in-Err-walk-clause-found g t c =
    let found = rw c.in-Ok-Some.field-0-is at c.in-Ok-Some.ensures.found in
    path_fails _ _ c.args.node c.args.left c.requires.few _ _ c.link_text.ensures.leaves c.in-Ok.file _ _ _ found (c.file_in.ensures ∙ ap file_part c.items.ensures) (c.path_in.ensures ∙ ap path_part c.items-2.ensures) (omega arith)
    c.in-Ok.ensures _ c.in-Err-walk.error c.in-Err-walk.ensures.found

pub follow-returns-clause-found : goal.follow-returns-clause-found
follow-returns-clause-found g t c =
    let found = rw c.in-Ok-Some.field-0-is at c.in-Ok-Some.ensures.found in
    path_leads _ _ c.args.node c.args.left c.requires.few _ _ c.link_text.ensures.leaves c.in-Ok.file _ _ _ found (c.file_in.ensures ∙ ap file_part c.items.ensures) (c.path_in.ensures ∙ ap path_part c.items-2.ensures) (omega arith)
    c.in-Ok.ensures c.in-Ok-walk.last _ _ _ c.follow.result c.walk.ensures.leaves c.in-Ok-walk.ensures.found c.follow.ensures.found

pub follow-returns-clause-opens : goal.follow-returns-clause-opens
follow-returns-clause-opens g t c =
    opened_on _ _ _ _ _ _ c.args.node c.in-Ok.file _ c.in-Ok-walk.last c.follow.result c.link_text.ensures.leaves c.walk.ensures.leaves c.in-Ok.ensures c.in-Ok-walk.ensures.opens c.follow.ensures.opens

pub walk-returns-in-Err-follow-clause-found : goal.walk-returns-in-Err-follow-clause-found
walk-returns-in-Err-follow-clause-found g t c =
    let inv = c.names.invariant in
    follow_fails _ _ _ _ inv.leaves c.args.missing _ c.args.path.now c.items-range-items.result.now c.names.range-index (record { start = 0; end = 0 }) (omega arith) c.names.reached inv.along _ c.in-Err-follow.error c.in-Err-follow.ensures.found

pub walk-returns-in-Ok-None-clause-found : goal.walk-returns-in-Ok-None-clause-found
walk-returns-in-Ok-None-clause-found g t c =
    let inv = c.names.invariant in
    let found = rw c.in-Ok-None.field-0-is at c.in-Ok-None.ensures.found in
    child_missing _ _ _ _ inv.leaves c.args.missing _ c.args.path.now c.items-range-items.result.now c.names.range-index (record { start = 0; end = 0 }) (omega arith) c.names.reached inv.along
    c.in-Ok-follow.here _ _ c.follow.ensures.leaves c.in-Ok-follow.ensures.found _ c.requires.missing found

pub walk-returns-in-Err-child-clause-found : goal.walk-returns-in-Err-child-clause-found
walk-returns-in-Err-child-clause-found g t c =
    let inv = c.names.invariant in
    child_fails _ _ _ _ inv.leaves c.args.missing _ c.args.path.now c.items-range-items.result.now c.names.range-index (record { start = 0; end = 0 }) (omega arith) c.names.reached inv.along
    c.in-Ok-follow.here _ _ c.follow.ensures.leaves c.in-Ok-follow.ensures.found _ c.in-Err-child.error c.in-Err-child.ensures.found

pub walk-names-preserved : goal.walk-names-preserved
walk-names-preserved g t c =
    let inv = c.names.invariant in
    let found = rw c.in-Ok-Some.field-0-is at c.in-Ok-Some.ensures.found in
    record {
      ready = c.child.ensures.ready;
      pending = c.child.ensures.pending ∙ c.follow.ensures.pending ∙ inv.pending;
      leaves = asks_more _ _ _ _ _ _ inv.leaves (asks_more _ _ _ _ _ _ c.follow.ensures.leaves c.child.ensures.leaves);
      few = omega (arith, c.in-Ok-follow.ensures.spends, inv.few);
      within = inv.within;
      opens = λ there. subst (λ (f : Files). IsSome (open_at f c.in-Ok-follow.here.node.file)) inv.leaves.files_stay
          (c.in-Ok-follow.ensures.opens (subst (λ (f : Files). IsSome (open_at f c.names.reached.node.file)) (sym inv.leaves.files_stay) (inv.opens there)));
      along = child_taken _ _ _ _ inv.leaves c.args.missing _ c.args.path.now c.items-range-items.result.now c.names.range-index (record { start = 0; end = 0 }) (omega arith) c.names.reached inv.along
          c.in-Ok-follow.here _ _ c.follow.ensures.leaves c.in-Ok-follow.ensures.found c.in-Ok-Some.serial found;
    }
