use Rattle.std.proofs.Common.{◌∙◌, sym, ap}
use Rattle.std.specs.Prelude.{option_map}
use Rattle.sids_readings.specs.Around.{zone_numbers}
use Rattle.cgns_check.specs.Kept.{note_around}
use Rattle.cgns_check.proofs.KeptLaws.{same_place}
use Rattle.cgns_check.proofs.rule_finder.keep_zone.Goals as goal

pub returns-then-is_same_place-clause-kept : goal.returns-then-is_same_place-clause-kept
returns-then-is_same_place-clause-kept g c told =
    let files = g.C.TreeCalls.files c.args.calls.now in
    let recalls = c.requires.recalls told in
    let same = same_place _ _ (sym c.is_same_place.ensures ∙ c.if-is_same_place.true) in
    record {
      numbers = recalls.zone ∙ ap (option_map (zone_numbers files)) same;
      notes = λ q. recalls.notes q ∙ ap (λ z. note_around files z q) same;
    }
