use Rattle.std.proofs.Common.{◌≤◌, ◌∙◌, sym, ap, subst, refl, List, reverse, length}
use Rattle.std.specs.Prelude.{Some, None, Ok, Err}
use Rattle.sids_rules.specs.SeenNodes.{IsSeen}
use Rattle.cgns_check.specs.Level.{Level}
use Rattle.cgns_check.specs.Levels.{Goes, waiting_at}
use Rattle.cgns_check.specs.Nexts.{IsNextOf}
use Rattle.cgns_check.specs.Checked.{IsNext, still_to_come}
use Rattle.cgns_check.proofs.WalkLaws.{AllSeen, may_look, gone_on, stands, ends, none_comes, few_back, left_few, sight_refused, item_of}
use Rattle.cgns_check.proofs.walk.step.Goals as goal

pub returns-in-Ok-None-clause-next : goal.returns-in-Ok-None-clause-next
returns-in-Ok-None-clause-next g c told =
    let files = g.C.TreeCalls.files c.args.calls.now in
    let frames = c.args.frames.now.items in
    let next : IsNextOf (reverse frames) None = subst (IsNextOf (reverse frames)) c.in-Ok-None.field-0-is (subst (λ (fs : List Level). IsNextOf (reverse fs) c.in-Ok-None.field-0) c.deref.ensures.value c.in-Ok-None.ensures.next) in
    let none = ap (λ (ls : List Level). still_to_come files (Goes ls)) (ends (reverse frames) c.requires.waits next) ∙ none_comes files in
    (none, none)

pub returns-in-Err-clause-next : goal.returns-in-Err-clause-next
returns-in-Err-clause-next g c told =
    let files = g.C.TreeCalls.files c.args.calls.now in
    let before = still_to_come files (Goes (reverse c.args.frames.now.items)) in
    subst (λ e. IsNext files before (Err e) before) (sym c.in-Err.ensures.want) refl

pub look-requires-clause-seen : goal.look-requires-clause-seen
look-requires-clause-seen g c told =
    let files = g.C.TreeCalls.files c.args.calls.now in
    let frames = c.args.frames.now.items in
    let next : IsNextOf (reverse frames) (Some c.in-Ok-Some.next) = subst (IsNextOf (reverse frames)) c.in-Ok-Some.field-0-is (subst (λ (fs : List Level). IsNextOf (reverse fs) c.in-Ok-Some.field-0) c.deref.ensures.value c.in-Ok-Some.ensures.next) in
    may_look files (reverse frames) c.in-Ok-Some.next next (c.requires.stands told)

pub returns-in-Err-look-clause-next : goal.returns-in-Err-look-clause-next
returns-in-Err-look-clause-next g c told =
    let files = g.C.TreeCalls.files c.args.calls.now in
    sight_refused files c.in-Ok-Some.next.stop (still_to_come files (Goes (reverse c.args.frames.now.items))) c.in-Err-look.error (c.in-Err-look.ensures.look told)

pub returns-in-Ok-give-clause-shallow : goal.returns-in-Ok-give-clause-shallow
returns-in-Ok-give-clause-shallow g c = left_few c.args.frames.now.items _ c.in-Ok.look.below c.in-Ok-give.ensures.given c.requires.shallow

pub returns-in-Ok-give-clause-stands : goal.returns-in-Ok-give-clause-stands
returns-in-Ok-give-clause-stands g c told =
    let files = g.C.TreeCalls.files c.args.calls.now in
    let frames = c.args.frames.now.items in
    let next : IsNextOf (reverse frames) (Some c.in-Ok-Some.next) = subst (IsNextOf (reverse frames)) c.in-Ok-Some.field-0-is (subst (λ (fs : List Level). IsNextOf (reverse fs) c.in-Ok-Some.field-0) c.deref.ensures.value c.in-Ok-Some.ensures.next) in
    subst (λ (ls : List Level). AllSeen files (waiting_at files ls)) (sym c.in-Ok-give.ensures.given)
    (stands files (reverse frames) c.in-Ok-Some.next next (c.requires.stands told) c.in-Ok.look (c.in-Ok.ensures.look told))

pub returns-in-Ok-give-clause-next : goal.returns-in-Ok-give-clause-next
returns-in-Ok-give-clause-next g c told =
    let files = g.C.TreeCalls.files c.args.calls.now in
    let frames = c.args.frames.now.items in
    let next : IsNextOf (reverse frames) (Some c.in-Ok-Some.next) = subst (IsNextOf (reverse frames)) c.in-Ok-Some.field-0-is (subst (λ (fs : List Level). IsNextOf (reverse fs) c.in-Ok-Some.field-0) c.deref.ensures.value c.in-Ok-Some.ensures.next) in
    subst (λ (ls : List Level). IsNext files (still_to_come files (Goes (reverse frames))) (Ok (Some (item_of c.in-Ok.look c.in-Ok-Some.next.path))) (still_to_come files (Goes ls))) (sym c.in-Ok-give.ensures.given)
    (gone_on files (reverse frames) c.in-Ok-Some.next next (few_back frames c.requires.shallow) c.in-Ok.look (c.in-Ok.ensures.look told))

pub returns-in-Ok-give-clause-item : goal.returns-in-Ok-give-clause-item
returns-in-Ok-give-clause-item g c told =
    let files = g.C.TreeCalls.files c.args.calls.now in
    let frames = c.args.frames.now.items in
    let next : IsNextOf (reverse frames) (Some c.in-Ok-Some.next) = subst (IsNextOf (reverse frames)) c.in-Ok-Some.field-0-is (subst (λ (fs : List Level). IsNextOf (reverse fs) c.in-Ok-Some.field-0) c.deref.ensures.value c.in-Ok-Some.ensures.next) in
    let is = c.in-Ok.ensures.look told in
    subst (IsSeen files) (sym is.seen) (may_look files (reverse frames) c.in-Ok-Some.next next (c.requires.stands told))

pub returns-in-Err-give-clause-shallow : goal.returns-in-Err-give-clause-shallow
returns-in-Err-give-clause-shallow g c = subst (λ (fs : List Level). length fs ≤ 510) (sym c.in-Err-give.ensures.refused) c.requires.shallow

pub returns-in-Err-give-clause-stands : goal.returns-in-Err-give-clause-stands
returns-in-Err-give-clause-stands g c told =
    let files = g.C.TreeCalls.files c.args.calls.now in
    subst (λ (fs : List Level). AllSeen files (waiting_at files (reverse fs))) (sym {A = List Level} c.in-Err-give.ensures.refused) (c.requires.stands told)

pub returns-in-Err-give-clause-next : goal.returns-in-Err-give-clause-next
returns-in-Err-give-clause-next g c told =
    let files = g.C.TreeCalls.files c.args.calls.now in
    let frames = c.args.frames.now.items in
    let left = still_to_come files (Goes (reverse c.give.new.frames.items)) in
    subst (λ e. IsNext files (still_to_come files (Goes (reverse frames))) (Err e) left) (sym c.in-Err-give.ensures.want)
    (ap (λ (fs : List Level). still_to_come files (Goes (reverse fs))) c.in-Err-give.ensures.refused)
