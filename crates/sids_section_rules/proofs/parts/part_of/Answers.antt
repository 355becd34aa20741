use Rattle.std.proofs.Common.{◌≡◌, ◌∙◌, refl, ap, sym, subst, true, ◌+◌, ◌≤◌, []}
use Rattle.std.specs.Prelude.{Ok, unwrap_or}
use Rattle.adf_model.specs.declared.tree.Query.{Query}
use Rattle.adf_model.specs.Edits.{size_of, size_limit}
use Rattle.sids_views.specs.Asks.{IsValueOr}
use Rattle.sids_views.specs.Views.{node_there}
use Rattle.sids_views.specs.Replies.{as_bytes}
use Rattle.sids_views.proofs.Asked.{plain_value}
use Rattle.sids_views.proofs.Data.{answered_size}
use Rattle.sids_rules.specs.Rules.{first_dimension}
use Rattle.sids_section_rules.specs.Parts.{part_bytes}
use Rattle.sids_readings.specs.Reading.{is_list, is_wide}
use Rattle.sids_section_rules.proofs.PartLaws.{part_data, part_sized, has_bytes}
use Rattle.sids_section_rules.proofs.parts.part_of.Goals as goal

pub returns-clause-value : goal.returns-clause-value
returns-clause-value g c told =
    let files = g.C.TreeCalls.files c.args.calls.now in
    let node = node_there files c.args.at in
    let first = c.args.first in
    let count = c.args.count in
    let wanted = part_bytes (is_wide node) first count (unwrap_or node.bytes []) in
    subst (IsValueOr wanted) (sym c.as_bytes.ensures)
    (plain_value as_bytes files (Query.ReadPart c.args.at c.part.result) refl (c.requires.plain told) wanted
    (λ f is.
    part_data f.node c.part.result first count c.part.ensures
    (subst (λ n. is_list n ≡ true) is (c.requires.list told))
    (subst (λ n. size_of n ≤ size_limit) is (c.requires.small told))
    (subst (λ n. first + count ≤ first_dimension n.dims) is (c.requires.within told))
    ∙ ap (λ n. Ok (part_bytes (is_wide n) first count (unwrap_or n.bytes []))) (sym is))
    c.ask.result (c.ask.ensures.answer told))

pub returns-clause-size : goal.returns-clause-size
returns-clause-size g c told =
    let files = g.C.TreeCalls.files c.args.calls.now in
    let node = node_there files c.args.at in
    let there = has_bytes node (c.requires.list told) in
    let whole = answered_size files (c.ask.ensures.trees told) c.args.at (c.requires.plain told).there there (Ok (unwrap_or node.bytes [])) refl in
    part_sized node c.args.first c.args.count (c.requires.list told) whole (c.requires.within told) c.as_bytes.result (returns-clause-value g c told)
