use Rattle.std.proofs.Common.{sym, subst, inl}
use Rattle.adf_model.specs.declared.tree.Query.{Query}
use Rattle.sids_views.specs.Asks.{IsValueOr, HasAskCause}
use Rattle.sids_views.specs.Views.{node_there}
use Rattle.sids_views.proofs.Causes.{query_cause}
use Rattle.tree_report.specs.Fields.{link_of}
use Rattle.tree_report.proofs.FieldLaws.{link_value, link_cause}
use Rattle.tree_report.proofs.fields.link_of.Goals as goal

pub returns-clause-value : goal.returns-clause-value
returns-clause-value g c told =
    let files = g.C.TreeCalls.files c.args.calls.now in
    subst (IsValueOr (link_of (node_there files c.args.node))) (sym c.as_link.ensures)
    (link_value files c.args.node (c.requires.there told (c.ask.ensures.trees told)) c.ask.result (c.ask.ensures.asked.step (inl told)).0)

pub returns-clause-cause : goal.returns-clause-cause
returns-clause-cause g c =
    let anyway = c.ask.ensures.asked.anyway in
    let files = g.C.TreeCalls.files c.args.calls.now in
    let before = g.C.TreeCalls.devices c.args.calls.now in
    let now = g.C.TreeCalls.devices c.ask.new.self in
    subst (λ r. HasAskCause files before now r) (sym c.as_link.ensures)
    (link_cause files before now c.ask.result anyway.kind (query_cause files before now (Query.LinkText c.args.node) c.ask.result anyway.entry.refused anyway.cause))
