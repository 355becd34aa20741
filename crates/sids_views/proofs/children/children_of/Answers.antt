use Rattle.std.proofs.Common.{sym, subst}
use Rattle.std.specs.Prelude.{filter_map}
use Rattle.sids_views.specs.Views.{seen_child}
use Rattle.sids_views.proofs.Gathered.{told_after}
use Rattle.sids_views.proofs.ChildrenPlain.{ArePlain, seen_plain, answered_children}
use Rattle.sids_views.proofs.children.children_of.Goals as goal

pub returns-in-Ok-clause-plain : goal.returns-in-Ok-clause-plain
returns-in-Ok-clause-plain g c told =
    let files = g.C.TreeCalls.files c.args.calls.now in
    let only = c.entries_of.ensures.only in
    let plain = seen_plain files (c.entries_of.ensures.trees told) c.in-Ok.entries (c.in-Ok.ensures.there told) in
    answered_children files _ (subst (λ fs. ArePlain files (filter_map (seen_child fs) c.in-Ok.entries)) (sym only.files_stay) plain) c.see_all.result (c.see_all.ensures.value (told_after _ _ _ _ only told))
