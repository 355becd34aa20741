use Rattle.std.proofs.Common.{ap, subst, pos}
use Rattle.std.specs.Prelude.{◌||◌, not}
use Rattle.std.specs.Ordering.{int_eq}
use Rattle.sids_views.specs.Asks.{IsValueOr}
use Rattle.sids_rules.specs.Values.{ints_there}
use Rattle.sids_rules.specs.OffsetRules.{is_no_face}
use Rattle.sids_section_rules.specs.Entries.{is_no_number}
use Rattle.sids_section_rules.proofs.SpanLaws.{any_alike}
use Rattle.sids_offset_rules.proofs.pieces.some_is_no_face.Goals as goal

pub returns-in-Ok-clause-value : goal.returns-in-Ok-clause-value
returns-in-Ok-clause-value g c told =
    let numbers = ints_there (g.C.TreeCalls.files c.args.calls.now) c.args.at in
    subst (λ b. IsValueOr b c.has_failing_entry.result)
    (any_alike (is_no_number c.in-Ok.faces) (is_no_face c.args.faces.now) (λ n. ap (λ b. int_eq n (pos 0) || not b) (c.in-Ok.ensures.numbers n)) numbers)
    (c.has_failing_entry.ensures.value told)
