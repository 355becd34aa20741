use Rattle.std.proofs.Common.{◌≡◌, ◌∙◌, sym, ap, true, not}
use Rattle.std.specs.Prelude.{is_ok, Some, None, Option}
use Rattle.std.proofs.lemmas.Bool.{cond-true}
use Rattle.std.proofs.lemmas.List.{append-nil}
use Rattle.sids_views.specs.declared.child.SeenChild.{SeenChild}
use Rattle.sids_views.specs.Views.{seen_child}
use Rattle.sids_views.proofs.Gathered.{asks-trans, told_after, gathered_more}
use Rattle.sids_views.proofs.children.see_all.Goals as goal

pub loop-entry-preserved-else-is_err : goal.loop-entry-preserved-else-is_err
loop-entry-preserved-else-is_err g c =
    let files = g.C.TreeCalls.files c.args.calls.now in
    let only = c.loop-entry.invariant.only in
    let done : is_ok c.push.result ≡ true = c.is_err.ensures.negation ∙ ap not c.if-is_err.false in
    record {
      ready = c.see.ensures.ready;
      only = asks-trans _ _ _ _ _ _ only c.see.ensures.only;
      found = λ told.
          (c.push.ensures.items ∙ cond-true _ _ _ done)
          ∙ gathered_more (seen_child files) c.loop-entry.yielded c.in-Some.entry c.loop-entry.seen.items (Some c.in-Ok-Some.child) (c.loop-entry.invariant.found told)
          (sym c.in-Ok-Some.field-0-is ∙ c.in-Ok-Some.ensures.value (told_after _ _ _ _ only told) ∙ ap (λ fs. seen_child fs c.in-Some.entry) only.files_stay);
    }

pub loop-entry-preserved : goal.loop-entry-preserved
loop-entry-preserved g c =
    let files = g.C.TreeCalls.files c.args.calls.now in
    let only = c.loop-entry.invariant.only in
    let none : Option SeenChild = None in
    record {
      ready = c.see.ensures.ready;
      only = asks-trans _ _ _ _ _ _ only c.see.ensures.only;
      found = λ told.
          sym (append-nil c.loop-entry.seen.items)
          ∙ gathered_more (seen_child files) c.loop-entry.yielded c.in-Some.entry c.loop-entry.seen.items none (c.loop-entry.invariant.found told)
          (sym c.in-Ok-None.field-0-is ∙ c.in-Ok-None.ensures.value (told_after _ _ _ _ only told) ∙ ap (λ fs. seen_child fs c.in-Some.entry) only.files_stay);
    }
