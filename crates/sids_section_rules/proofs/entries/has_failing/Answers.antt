use Rattle.std.proofs.Common.{◌≡◌, ◌∙◌, sym, ap, subst, ◌≤◌, ◌*◌, ◌-◌, length, drop, true, false, rules}
use Rattle.std.specs.Int.{w64}
use Rattle.std.specs.List.{list_any}
use Rattle.std.proofs.lemmas.Int.{to_z-of_z}
use Rattle.sids_readings.specs.Reading.{bytes_of, numbers_of, first_number}
use Rattle.sids_section_rules.specs.Entries.{fails}
use Rattle.sids_readings.proofs.NumberLaws.{others_fit}
use Rattle.sids_section_rules.proofs.EntryLaws.{found_first, not_first}
use Rattle.sids_section_rules.proofs.entries.has_failing.Goals as goal

pub returns-then-fails : goal.returns-then-fails
returns-then-fails c =
    let p = fails c.args.test.now in
    let number = to_z-of_z w64 c.first_number.result (search rules) ∙ c.first_number.ensures in
    found_first p c.args.format c.args.wide c.loop-left.left c.loop-left.rest.now _ c.loop-left-test.true c.loop-left.invariant.rest
    (sym (ap p number) ∙ sym c.fails.ensures ∙ c.if-fails.true)

pub loop-left-preserved : goal.loop-left-preserved
loop-left-preserved c =
    let p = fails c.args.test.now in
    let left = c.loop-left.left in
    let rest = c.loop-left.rest.now in
    let kept = c.loop-left.invariant in
    let number = to_z-of_z w64 c.first_number.result (search rules) ∙ c.first_number.ensures in
    let behind : c.split_at.result.1.now ≡ drop (bytes_of c.args.wide) rest = c.split_at.ensures.back ∙ ap (λ n. drop n rest) c.bytes_of-width.ensures in
    record {
      fits = subst (λ xs. bytes_of c.args.wide * (left - 1) ≤ length xs) (sym behind) (others_fit c.args.wide left rest c.loop-left-test.true kept.fits);
      rest =
          ap (λ xs. list_any p (numbers_of c.args.format c.args.wide (left - 1) xs)) behind
          ∙ not_first p c.args.format c.args.wide left rest _ c.loop-left-test.true kept.rest (sym (ap p number) ∙ sym c.fails.ensures ∙ c.if-fails.false);
    }
