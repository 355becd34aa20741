use Rattle.std.proofs.Common.{◌∙◌, sym, ap}
use Rattle.sids_readings.specs.Around.{base_around}
use Rattle.cgns_check.proofs.KeptLaws.{same_place}
use Rattle.cgns_check.proofs.rule_finder.keep_base.Goals as goal

pub returns-then-is_same_place-clause-kept : goal.returns-then-is_same_place-clause-kept
returns-then-is_same_place-clause-kept g c told =
    let same = same_place _ _ (sym c.is_same_place.ensures ∙ c.if-is_same_place.true) in
    (c.requires.recalls told).base ∙ ap (base_around (g.C.TreeCalls.files c.args.calls.now)) same
