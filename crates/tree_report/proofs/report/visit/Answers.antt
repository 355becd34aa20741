use Rattle.std.proofs.Common.{sym, subst, reverse}
use Rattle.std.specs.Prelude.{Err}
use Rattle.tree_report.specs.declared.fault.TreeFault.{TreeFault}
use Rattle.tree_report.specs.Sights.{node_in, sight_of}
use Rattle.tree_report.proofs.LevelLaws.{few_back}
use Rattle.tree_report.proofs.ReportLaws.{Told, unseen, not_said, not_kept, was_said}
use Rattle.tree_report.proofs.report.visit.Goals as goal

pub look-requires-clause-there : goal.look-requires-clause-there
look-requires-clause-there g c told trees = (c.requires.stands told trees).0

pub returns-in-Err-clause-visits : goal.returns-in-Err-clause-visits
returns-in-Err-clause-visits g c told =
    let files = g.C.TreeCalls.files c.args.calls.now in
    let taken = g.O.Sink.taken c.args.sink.now in
    let before = reverse c.args.frames.now.items in
    subst (λ (r : TreeFault). Told files c.args.file c.args.stop before (Err r) before taken taken) (sym c.fault_of.ensures)
    (unseen files c.args.file c.args.stop before before c.in-Err.error (sight_of files (node_in c.args.file c.args.stop.serial)) (c.in-Err.ensures.value told) taken)

pub returns-in-Err-say-clause-visits : goal.returns-in-Err-say-clause-visits
returns-in-Err-say-clause-visits g c told =
    let files = g.C.TreeCalls.files c.args.calls.now in
    let frames = c.args.frames.now.items in
    let sight = c.in-Ok.sight in
    not_said files c.args.file c.args.stop (reverse frames) (few_back frames c.requires.few) sight.fields sight.below (c.in-Ok.ensures.value told) (reverse frames) c.in-Err-say.fault
    c.items.result.now c.items.ensures _ _ _ _ c.in-Err-say.ensures.said

pub returns-in-Ok-wait-clause-visits : goal.returns-in-Ok-wait-clause-visits
returns-in-Ok-wait-clause-visits g c told =
    let files = g.C.TreeCalls.files c.args.calls.now in
    let frames = c.args.frames.now.items in
    let sight = c.in-Ok.sight in
    was_said files c.args.file c.args.stop (reverse frames) (few_back frames c.requires.few) sight.fields sight.below (c.in-Ok.ensures.value told)
    (c.requires.stands told (c.look.ensures.trees told)).1 (c.in-Ok.ensures.there told) c.new.result c.new.ensures.way c.new.ensures.rest
    (reverse c.wait.new.frames.items) c.in-Ok-wait.ensures.below c.items.result.now c.items.ensures _ _ c.in-Ok-say.ensures.said

pub returns-in-Err-wait-clause-visits : goal.returns-in-Err-wait-clause-visits
returns-in-Err-wait-clause-visits g c told =
    let files = g.C.TreeCalls.files c.args.calls.now in
    let frames = c.args.frames.now.items in
    let sight = c.in-Ok.sight in
    not_kept files c.args.file c.args.stop (reverse frames) (few_back frames c.requires.few) sight.fields sight.below (c.in-Ok.ensures.value told) (reverse c.wait.new.frames.items)
    c.items.result.now c.items.ensures _ _ c.in-Ok-say.ensures.said
