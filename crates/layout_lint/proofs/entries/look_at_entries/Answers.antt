use Rattle.std.proofs.Common.{sym, ◌∙◌, arith}
use Rattle.cg_io.proofs.ReadLaws.{reads_then, reads_none}
use Rattle.layout_lint.proofs.EntryLaws.{rows_start, names_more, entry_said, bad_entry, same_entry, good_entry}
use Rattle.layout_lint.proofs.RowSteps.{no_value, some_value}
use Rattle.layout_lint.proofs.entries.look_at_entries.Goals as goal

pub loop-position-init : goal.loop-position-init
loop-position-init g c = record {
  ready = c.requires.ready;
  effect = reads_none 0 _;
  rest = λ image told within. rows_start image c.args.table.place c.args.children;
  names = λ image told within q. rw c.new-names.ensures;
}

pub returns-in-None-clause-rows : goal.returns-in-None-clause-rows
returns-in-None-clause-rows g c = λ image told within.
    let t = c.args.table.place in
    let i = c.loop-position.position in
    let bytes = c.in_ok-bytes.ensures.told image (c.loop-position.invariant.effect.held ∙ told) (omega arith) in
    let said = entry_said image t i c.entry-at.result c.in_ok-bytes.bytes c.entry-at.ensures bytes in
    rw (c.halt_at.ensures, c.entry-at.ensures) (bad_entry image t i c.args.children c.loop-position-test.true _ (c.loop-position.invariant.rest image told within) (no_value _ _ _ (c.name_in.ensures ∙ said) c.in-None.is))

pub returns-then-contains-clause-rows : goal.returns-then-contains-clause-rows
returns-then-contains-clause-rows g c = λ image told within.
    let t = c.args.table.place in
    let i = c.loop-position.position in
    let bytes = c.in_ok-bytes.ensures.told image (c.loop-position.invariant.effect.held ∙ told) (omega arith) in
    let said = entry_said image t i c.entry-at.result c.in_ok-bytes.bytes c.entry-at.ensures bytes in
    let some = some_value _ _ c.in-Some.name _ (c.name_in.ensures ∙ said) c.in-Some.is in
    rw (c.halt_at-then-contains.ensures, c.entry-at.ensures) (same_entry image t i c.args.children c.loop-position-test.true _ (c.loop-position.invariant.rest image told within)
    (rw (← some.1) (sym (c.loop-position.invariant.names image told within c.in-Some.name) ∙ sym c.contains.ensures ∙ c.if-contains.true)))

pub loop-position-preserved : goal.loop-position-preserved
loop-position-preserved g c = record {
  ready = c.field_at.ensures.ready;
  effect = reads_then _ _ _ _ _ _ c.loop-position.invariant.effect c.field_at.ensures.effect (omega arith);
  rest = λ image told within.
      let t = c.args.table.place in
      let i = c.loop-position.position in
      let bytes = c.in_ok-bytes.ensures.told image (c.loop-position.invariant.effect.held ∙ told) (omega arith) in
      let said = entry_said image t i c.entry-at.result c.in_ok-bytes.bytes c.entry-at.ensures bytes in
      let some = some_value _ _ c.in-Some.name _ (c.name_in.ensures ∙ said) c.in-Some.is in
      good_entry image t i c.args.children c.loop-position-test.true _ (c.loop-position.invariant.rest image told within) some.0
      (rw (← some.1) (sym (c.loop-position.invariant.names image told within c.in-Some.name) ∙ sym c.contains.ensures ∙ c.if-contains.false));
  names = λ image told within.
      let t = c.args.table.place in
      let i = c.loop-position.position in
      let bytes = c.in_ok-bytes.ensures.told image (c.loop-position.invariant.effect.held ∙ told) (omega arith) in
      let said = entry_said image t i c.entry-at.result c.in_ok-bytes.bytes c.entry-at.ensures bytes in
      let some = some_value _ _ c.in-Some.name _ (c.name_in.ensures ∙ said) c.in-Some.is in
      names_more image t i c.in-Some.name c.loop-position.names c.insert.new.self some.1 (c.loop-position.invariant.names image told within) c.in-Ok.ensures;
}
