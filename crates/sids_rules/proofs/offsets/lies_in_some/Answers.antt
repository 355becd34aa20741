use Rattle.std.proofs.Common.{ℤ, pos, List, slice_index_or, rules, tests}
use Rattle.std.proofs.lemmas.Iterator.{cases_from_any, YieldsList-from_slice}
use Rattle.sids_rules.specs.Offsets.{LiesIn}
use Rattle.sids_rules.proofs.Passes.{any_found}
use Rattle.sids_rules.proofs.offsets.lies_in_some.Goals as goal

pub returns : goal.returns
returns c =
    let P : List ℤ → Type 0 = λ range. LiesIn c.args.number (slice_index_or range 0 (pos 0)) (slice_index_or range 1 (pos 0)) in
    any_found P _ _ (cases_from_any c.any.new.self _ _ P (λ range. ¬ P range) c.any.ensures.ran (YieldsList-from_slice c.args.faces.now (cc)) (λ x q k. search (rules, tests)) (λ x q k. search (rules, tests)))
