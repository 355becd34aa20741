use Rattle.std.proofs.Common.{◌∙◌, sym, ap, arith, [], ◌+◌, ◌*◌, ◌≤◌, drop}
use Rattle.std.specs.Prelude.{unwrap_or}
use Rattle.std.specs.List.{list_any}
use Rattle.adf_model.specs.Slots.{Files}
use Rattle.sids_views.specs.Views.{node_there}
use Rattle.sids_views.proofs.Gathered.{asks-trans, told_after}
use Rattle.sids_readings.specs.Reading.{bytes_of, numbers_of}
use Rattle.sids_section_rules.specs.Entries.{fails}
use Rattle.sids_section_rules.proofs.PartLaws.{one_part, found_part, no_part}
use Rattle.sids_section_rules.proofs.entries.has_failing_part.Goals as goal

pub loop-first-preserved : goal.loop-first-preserved
loop-first-preserved g c =
    let files = g.C.TreeCalls.files c.args.calls.now in
    let p = fails c.args.test.now in
    let first = c.loop-first.first in
    let count = c.min-count.result in
    let only = c.loop-first.invariant.only in
    let fits : first + count ≤ c.args.entries = omega (arith, c.min-count.ensures, c.loop-first-test.true) in
    record {
      ready = c.part_fails.ensures.ready;
      only = asks-trans _ _ _ _ _ _ only c.part_fails.ensures.only;
      within = fits;
      rest = λ told.
          one_part p c.args.format c.args.wide first count c.args.entries (unwrap_or (node_there files c.args.at).bytes []) _ fits (c.loop-first.invariant.rest told)
          (sym (c.in-Ok-false.ensures.value (told_after _ _ _ _ only told)
          ∙ ap (λ (fs : Files). list_any p (numbers_of c.args.format c.args.wide count (drop (first * bytes_of c.args.wide) (unwrap_or (node_there fs c.args.at).bytes [])))) only.files_stay)
          ∙ c.in-Ok-false.field-0-test);
    }

pub returns-in-Ok-true-clause-value : goal.returns-in-Ok-true-clause-value
returns-in-Ok-true-clause-value g c told =
    let files = g.C.TreeCalls.files c.args.calls.now in
    let p = fails c.args.test.now in
    let first = c.loop-first.first in
    let count = c.min-count.result in
    let only = c.loop-first.invariant.only in
    let fits : first + count ≤ c.args.entries = omega (arith, c.min-count.ensures, c.loop-first-test.true) in
    found_part p c.args.format c.args.wide first count c.args.entries (unwrap_or (node_there files c.args.at).bytes []) _ fits (c.loop-first.invariant.rest told)
    (sym (c.in-Ok-true.ensures.value (told_after _ _ _ _ only told)
    ∙ ap (λ (fs : Files). list_any p (numbers_of c.args.format c.args.wide count (drop (first * bytes_of c.args.wide) (unwrap_or (node_there fs c.args.at).bytes [])))) only.files_stay)
    ∙ c.in-Ok-true.field-0-test)

pub returns-clause-value : goal.returns-clause-value
returns-clause-value g c told =
    let files = g.C.TreeCalls.files c.args.calls.now in
    let first = c.loop-first.first in
    no_part (fails c.args.test.now) c.args.format c.args.wide first c.args.entries (drop (first * bytes_of c.args.wide) (unwrap_or (node_there files c.args.at).bytes [])) _
    c.loop-first-test.false (c.loop-first.invariant.rest told)
