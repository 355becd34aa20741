use Rattle.std.proofs.Common.{◌≡◌, ◌∙◌, sym, subst, []}
use Rattle.std.specs.Prelude.{Some, IfSome}
use Rattle.sids_views.specs.Asks.{IsPlain}
use Rattle.sids_views.specs.Views.{target_of}
use Rattle.sids_views.proofs.Plain.{told_before}
use Rattle.sids_rules.specs.SeenNodes.{IsSeen}
use Rattle.cgns_check.specs.Levels.{visit_at}
use Rattle.cgns_check.proofs.LookLaws.{lost}
use Rattle.cgns_check.proofs.look.look.Goals as goal

pub look_at-requires-clause-seen : goal.look_at-requires-clause-seen
look_at-requires-clause-seen g c told =
    let only = c.target_of.ensures.only in
    subst (λ fs. IsSeen fs (visit_at fs [] c.args.stop).seen) (sym only.files_stay) (c.requires.seen (told_before _ _ _ _ only told))

pub look_at-requires-clause-target : goal.look_at-requires-clause-target
look_at-requires-clause-target g c told =
    let only = c.target_of.ensures.only in
    subst (λ fs. target_of fs c.args.stop.node ≡ Some c.in-Ok-Some.at) (sym only.files_stay)
    (sym (c.in-Ok-Some.ensures.value (told_before _ _ _ _ only told)) ∙ c.in-Ok-Some.field-0-is)

pub look_at-requires-clause-plain : goal.look_at-requires-clause-plain
look_at-requires-clause-plain g c told =
    let files = g.C.TreeCalls.files c.args.calls.now in
    let only = c.target_of.ensures.only in
    subst (λ fs. IsPlain fs c.in-Ok-Some.at) (sym only.files_stay)
    (subst (λ o. IfSome o (IsPlain files)) c.in-Ok-Some.field-0-is (c.in-Ok-Some.ensures.plain (told_before _ _ _ _ only told)))

pub returns-in-Ok-None-clause-look : goal.returns-in-Ok-None-clause-look
returns-in-Ok-None-clause-look g c told =
    lost (g.C.TreeCalls.files c.args.calls.now) c.args.stop (c.requires.seen told).there
    (sym c.in-Ok-None.field-0-is ∙ c.in-Ok-None.ensures.value told)
    c.look_alone.result c.look_alone.ensures.seen c.look_alone.ensures.note c.look_alone.ensures.below
