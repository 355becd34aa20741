use Rattle.std.proofs.Common.{ap, subst}
use Rattle.std.specs.Prelude.{List}
use Rattle.sids_rules.specs.Rules.{Rule}
use Rattle.sids_readings.specs.RuleSets.{rules_of}
use Rattle.cgns_check.specs.Checked.{Checks}
use Rattle.cgns_check.proofs.KeptLaws.{all_worded, recalls_first}
use Rattle.cgns_check.proofs.checks.check4.Goals as goal

pub check_by-requires-clause-worded : goal.check_by-requires-clause-worded
check_by-requires-clause-worded g c = all_worded c.new-finder.result.set

pub check_by-requires-clause-recalls : goal.check_by-requires-clause-recalls
check_by-requires-clause-recalls g c told =
    let new = c.new-finder.ensures in
    recalls_first _ c.new-finder.result new.base new.zone new.no_base new.no_zone new.no_notes new.holder new.no_dims

pub returns-clause-checks : goal.returns-clause-checks
returns-clause-checks g c told =
    let files = g.C.TreeCalls.files c.args.calls.now in
    let taken = g.O.Sink.taken c.args.sink.now in
    let now = g.O.Sink.taken c.check_by.new.sink in
    subst (λ (rules : List Rule). Checks rules files c.args.file c.check_by.result taken now) (ap rules_of c.new-finder.ensures.set) (c.check_by.ensures.checks told)
