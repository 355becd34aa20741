use Rattle.std.proofs.Common.{◌≡◌, sym, subst, true}
use Rattle.std.specs.Prelude.{IfSome}
use Rattle.sids_views.specs.Views.{node_there}
use Rattle.sids_readings.specs.Reading.{is_list}
use Rattle.sids_readings.proofs.Keeping.{kept}
use Rattle.sids_offset_rules.proofs.ListedLaws.{passes}
use Rattle.sids_offset_rules.proofs.offset_section_rules.with_offset_rules.Goals as goal

pub with_list_rules-requires-clause-list : goal.with_list_rules-requires-clause-list
with_list_rules-requires-clause-list g c =
    let files = g.C.TreeCalls.files c.children_of.new.calls in
    kept (λ fs. IfSome c.in-Ok-offsets_in.offsets (λ at. is_list (node_there fs at) ≡ true)) _ _ _ _ c.offsets_in.ensures.only (λ told.
    subst (λ o. IfSome o (λ at. is_list (node_there files at) ≡ true)) (sym (c.in-Ok-offsets_in.ensures.value told)) (passes (λ at. is_list (node_there files at)) _))
