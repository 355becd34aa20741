use Rattle.std.proofs.Common.{◌∙◌, sym, ap, subst, refl, take, drop, length, []}
use Rattle.std.specs.Prelude.{List, Option}
use Rattle.std.proofs.lemmas.List.{drop_all}
use Rattle.adf_model.proofs.Answering.AskLaws.{asks_none}
use Rattle.element_ranges.specs.declared.overlaps.OverlapNotes.{OverlapNotes}
use Rattle.sids_views.specs.declared.child.SeenChild.{SeenChild}
use Rattle.sids_views.proofs.Gathered.{asks-trans, told_after, later_cause}
use Rattle.sids_rules.specs.Terms.{Range}
use Rattle.sids_section_rules.specs.Noted.{good_section}
use Rattle.sids_section_rules.proofs.NoteLaws.{SoFar, begins, goes_on, ends}
use Rattle.sids_section_rules.proofs.notes.notes_of.Goals as goal

pub loop-child-init : goal.loop-child-init
loop-child-init g c = record {
  ready = c.requires.ready;
  only = asks_none _ _;
  found = λ told. begins (g.C.TreeCalls.files c.args.calls.now) _ c.args.children.now c.new-notes.ensures.notes c.new-notes.ensures.ranges;
}

pub loop-child-preserved : goal.loop-child-preserved
loop-child-preserved g c =
    let files = g.C.TreeCalls.files c.args.calls.now in
    let only = c.loop-child.invariant.only in
    let all = c.args.children.now in
    let k = c.loop-child.child-index in
    record {
      ready = c.good_section.ensures.ready;
      only = asks-trans _ _ _ _ _ _ only c.good_section.ensures.only;
      found = λ told.
          goes_on files c.loop-child.notes c.add_note.new.notes c.child-item.result c.in-Ok.range
          (c.in-Ok.ensures.value (told_after _ _ _ _ only told) ∙ ap (λ fs. good_section fs c.child-item.result) only.files_stay)
          c.in-Ok-add_note.ensures.notes c.in-Ok-add_note.ensures.ranges all k c.loop-child-test.true c.child-item.is (c.loop-child.invariant.found told);
    }

pub returns-in-Err-clause-cause : goal.returns-in-Err-clause-cause
returns-in-Err-clause-cause g c = later_cause (Option Range) OverlapNotes _ _ _ _ _ c.in-Err.error c.loop-child.invariant.only c.in-Err.ensures.cause

pub returns-clause-notes : goal.returns-clause-notes
returns-clause-notes g c told =
    let files = g.C.TreeCalls.files c.args.calls.now in
    let all = c.args.children.now in
    ends files c.loop-child.notes (take c.loop-child.child-index all) all
    (subst (λ (left : List SeenChild). SoFar files c.loop-child.notes (take c.loop-child.child-index all) left all) (drop_all c.loop-child.child-index all c.loop-child-test.false) (c.loop-child.invariant.found told))
