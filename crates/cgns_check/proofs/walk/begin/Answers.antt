use Rattle.std.proofs.Common.{◌∙◌, sym, ap, subst, List, [], reverse}
use Rattle.std.specs.Prelude.{Ok}
use Rattle.adf_model.specs.Slots.{Files}
use Rattle.sids_views.proofs.Plain.{told_before}
use Rattle.sids_views.proofs.Gathered.{told_after}
use Rattle.sids_rules.specs.SeenNodes.{IsSeen}
use Rattle.cgns_check.specs.declared.frame.Stop.{Stop}
use Rattle.cgns_check.specs.Level.{Level}
use Rattle.cgns_check.specs.Levels.{visit_at, root_stop, after_giving}
use Rattle.cgns_check.specs.Looks.{IsSeenAs}
use Rattle.cgns_check.specs.Checked.{IsBegun}
use Rattle.cgns_check.proofs.MeetLaws.{root_seen}
use Rattle.cgns_check.proofs.WalkLaws.{begins_with}
use Rattle.cgns_check.proofs.walk.begin.Goals as goal

pub look-requires-clause-seen : goal.look-requires-clause-seen
look-requires-clause-seen g c told =
    let files = g.C.TreeCalls.files c.args.calls.now in
    let asked = g.C.TreeCalls.files c.meet.new.calls in
    let only = c.meet.ensures.only in
    let before = told_before _ _ _ _ only told in
    let stands = c.requires.stands before in
    let seen = root_seen files c.args.file (c.meet.ensures.trees before) stands.0 stands.1 in
    subst (λ (stop : Stop). IsSeen asked (visit_at asked [] stop).seen) (sym c.root_stop.ensures)
    (subst (λ (fs : Files). IsSeen fs (visit_at fs [] (root_stop c.args.file)).seen) (sym only.files_stay) seen)

pub returns-in-Ok-give-clause-begun : goal.returns-in-Ok-give-clause-begun
returns-in-Ok-give-clause-begun g c told =
    let files = g.C.TreeCalls.files c.args.calls.now in
    let asked = g.C.TreeCalls.files c.meet.new.calls in
    let only = c.meet.ensures.only in
    let stands = c.requires.stands told in
    let seen = subst (λ (fs : Files). IsSeen fs (visit_at fs [] (root_stop c.args.file)).seen) (sym only.files_stay) (root_seen files c.args.file (c.meet.ensures.trees told) stands.0 stands.1) in
    let look = c.in-Ok-look.look in
    let path = c.in-Ok-root_path.path in
    let is = subst (λ (stop : Stop). IsSeenAs asked stop look) c.root_stop.ensures (c.in-Ok-look.ensures.look (told_after _ _ _ _ only told)) in
    let given = c.in-Ok-give.ensures.given ∙ ap (λ (fs : List Level). after_giving look.below (reverse fs)) c.new-frames.ensures.items in
    subst (λ (fs : Files). IsBegun fs c.args.file (Ok (record { item = record { seen = look.seen; path = path; note = look.note }; frames = c.give.new.frames }))) only.files_stay
    (begins_with asked c.args.file seen look is path c.in-Ok-root_path.ensures.path c.give.new.frames.items given)
