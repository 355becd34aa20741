use Rattle.std.proofs.Common.{inl}
use Rattle.std.specs.Prelude.{Err}
use Rattle.adf_model.specs.declared.tree.Query.{Query}
use Rattle.adf_model.specs.declared.tree.Reply.{Reply}
use Rattle.sids_views.proofs.Causes.{query_cause}
use Rattle.cgns_check.proofs.MeetLaws.{root_met, same_cause}
use Rattle.cgns_check.proofs.walk.meet.Goals as goal

pub returns-clause-met : goal.returns-clause-met
returns-clause-met g c told =
    let stands = c.requires.stands told in
    root_met (g.C.TreeCalls.files c.args.calls.now) c.args.file (c.in-Err.ensures.trees told) stands.0 stands.1 c.in-Err.error (c.in-Err.ensures.asked.step (inl told)).0

pub returns-clause-cause : goal.returns-clause-cause
returns-clause-cause g c =
    let files = g.C.TreeCalls.files c.args.calls.now in
    let before = g.C.TreeCalls.devices c.args.calls.now in
    let now = g.C.TreeCalls.devices c.ask.new.self in
    let anyway = c.in-Err.ensures.asked.anyway in
    same_cause Reply Unit files before now c.in-Err.error
    (query_cause {A = Reply} files before now (Query.Name (record { file = c.args.file; serial = 0 })) (Err c.in-Err.error) anyway.entry.refused anyway.cause)
