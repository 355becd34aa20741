use Rattle.std.proofs.Common.{◌≡◌, ◌∙◌, sym, ap, subst, true, length}
use Rattle.sids_views.specs.Asks.{IsValueOr}
use Rattle.sids_rules.specs.Values.{ints_there}
use Rattle.sids_rules.specs.OffsetRules.{are_offsets}
use Rattle.sids_offset_rules.specs.Pieces.{fault_with}
use Rattle.sids_offset_rules.proofs.PieceLaws.{good_offsets, good_fault}
use Rattle.sids_offset_rules.proofs.pieces.piece_fault.Goals as goal

pub fault_with-requires-clause-offsets : goal.fault_with-requires-clause-offsets
fault_with-requires-clause-offsets g c told =
    let files = g.C.TreeCalls.files c.args.calls.now in
    let section = c.args.section.now in
    subst (λ offsets. are_offsets offsets (length (ints_there files section.connectivity)) ≡ true) (sym c.items.ensures)
    (good_offsets files section c.in-Good.offsets (c.requires.section told).entries (sym c.in-Good.is ∙ c.requires.state told))

pub returns-in-Good-clause-value : goal.returns-in-Good-clause-value
returns-in-Good-clause-value g c told =
    let files = g.C.TreeCalls.files c.args.calls.now in
    let section = c.args.section.now in
    subst (λ found. IsValueOr found c.fault_with.result)
    (ap (λ offsets. fault_with files section offsets c.args.limit) c.items.ensures ∙ good_fault files section c.args.limit c.in-Good.offsets (sym c.in-Good.is ∙ c.requires.state told))
    (c.fault_with.ensures.value told)
