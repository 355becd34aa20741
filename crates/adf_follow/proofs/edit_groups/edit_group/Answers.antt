use Rattle.std.proofs.Common.{◌≡◌, ◌∙◌, refl, sym, length, arith}
use Rattle.std.specs.Prelude.{Some, slice_get}
use Rattle.std.proofs.lemmas.Option.{slice_get_read}
use Rattle.adf_model.specs.Slots.{Slot}
use Rattle.adf_follow.proofs.Dropped.{as_it_is}
use Rattle.adf_follow.proofs.Going.{going_begins, group_is_open}
use Rattle.adf_follow.proofs.GoingTold.{told_begins}
use Rattle.adf_follow.proofs.GoingMakes.{goes_further, told_further, going_end, told_end, waits_end, stops_make, none_make, waits_committed, done_make, break_make}
use Rattle.adf_follow.proofs.edit_groups.edit_group.Goals as goal

-- ---- the loop

pub loop-at-init : goal.loop-at-init
loop-at-init g c = record {
  ready = c.requires.ready;
  kept = sym c.requires.rest.others;
  waiting = c.requires.rest;
  going = going_begins _ _ c.args.edits.now;
  told = λ known. rw c.new-created.ensures.items (told_begins _ _ c.args.edits.now _ (λ n. c.requires.rest.rest n (λ e. cc)));
}

pub edit_next-requires-clause-own : goal.edit_next-requires-clause-own
edit_next-requires-clause-own g c = group_is_open _ _ _ _ c.args.edits.now c.loop-at.at c.loop-at.group c.loop-at.invariant.going

pub loop-at-preserved : goal.loop-at-preserved
loop-at-preserved g c =
    let is : slice_get c.args.edits.now c.loop-at.at ≡ Some c.index-edits-at.result = slice_get_read c.args.edits.now (length c.args.edits.now) c.loop-at.at c.index-edits-at.result refl c.loop-at-test.true c.index-edits-at.is in
    let now = c.loop-at.invariant in
    record {
      ready = c.edit_next.ensures.ready;
      kept = c.edit_next.ensures.kept ∙ now.kept;
      waiting = c.in-Ok.ensures.waiting;
      going = goes_further _ _ _ _ _ _ c.args.edits.now c.loop-at.at c.loop-at.group _ _ c.index-edits-at.result c.in-Ok.number now.going is c.edit_next.ensures.waits c.in-Ok.ensures.anyway;
      told = told_further _ _ _ _ _ c.args.edits.now c.loop-at.at c.loop-at.group _ _ _ _ c.index-edits-at.result c.in-Ok.number c.requires.laid_out now.going now.told is c.in-Ok.ensures.done;
    }

-- ---- an edit is refused

pub returns-in-Err-clause-edited : goal.returns-in-Err-clause-edited
returns-in-Err-clause-edited g c =
    let is : slice_get c.args.edits.now c.loop-at.at ≡ Some c.index-edits-at.result = slice_get_read c.args.edits.now (length c.args.edits.now) c.loop-at.at c.index-edits-at.result refl c.loop-at-test.true c.index-edits-at.is in
    let now = c.loop-at.invariant in
    stops_make _ _ _ _ _ _ c.args.edits.now c.loop-at.at c.loop-at.group c.loop-at.created.items _ c.index-edits-at.result c.in-Err.error c.requires.laid_out now.going now.told is c.edit_next.ensures.waits c.in-Err.ensures.refused c.in-Err.ensures.cause
    (c.in-Err.ensures.dropped.others ∙ c.edit_next.ensures.kept ∙ now.kept)

-- ---- without edits

pub returns-in-None-clause-edited : goal.returns-in-None-clause-edited
returns-in-None-clause-edited g c =
    let ended : c.loop-at.at ≡ length c.args.edits.now = omega (arith, c.loop-at-test.false, c.loop-at.auto.at-end) in
    let now = c.loop-at.invariant in
    rw c.new.ensures (
    none_make _ _ _ _ c.args.edits.now c.loop-at.created.items _ (going_end _ _ _ _ c.args.edits.now c.loop-at.at _ c.loop-at.group _ ended c.in-None.is now.going)
    (told_end _ _ _ c.args.edits.now c.loop-at.at _ c.loop-at.group _ c.loop-at.created.items _ ended c.in-None.is now.told) ((waits_end _ _ _ c.loop-at.group _ c.in-None.is now.waiting).others ∙ now.kept))

-- ---- the commit

pub commit-requires-clause-opened : goal.commit-requires-clause-opened
commit-requires-clause-opened g c = group_is_open _ _ _ _ c.args.edits.now c.loop-at.at c.loop-at.group c.loop-at.invariant.going c.in-Some.number c.in-Some.is

pub returns-in-Ok-commit-clause-rest : goal.returns-in-Ok-commit-clause-rest
returns-in-Ok-commit-clause-rest g c =
    let made = c.in-Ok-commit.ensures.done in
    waits_committed _ _ _ _ _ _ c.in-Some.number _ (waits_end _ _ _ c.loop-at.group _ c.in-Some.is c.loop-at.invariant.waiting) (made.0 ∙ sym (as_it_is _ c.in-Some.number)) made.1 c.commit.ensures.others c.commit.ensures.rest c.commit.ensures.placed

pub returns-in-Err-commit-clause-rest : goal.returns-in-Err-commit-clause-rest
returns-in-Err-commit-clause-rest g c =
    let made = c.in-Err-commit.ensures.broken in
    waits_committed _ _ _ _ _ _ c.in-Some.number Slot.Broken (waits_end _ _ _ c.loop-at.group _ c.in-Some.is c.loop-at.invariant.waiting) made.0 made.1 c.commit.ensures.others c.commit.ensures.rest c.commit.ensures.placed

pub returns-in-Ok-commit-clause-edited : goal.returns-in-Ok-commit-clause-edited
returns-in-Ok-commit-clause-edited g c =
    let ended : c.loop-at.at ≡ length c.args.edits.now = omega (arith, c.loop-at-test.false, c.loop-at.auto.at-end) in
    let now = c.loop-at.invariant in
    let e = c.in-Ok-commit.ensures in
    let made = e.done in
    let rest = waits_committed _ _ _ _ _ _ c.in-Some.number _ (waits_end _ _ _ c.loop-at.group _ c.in-Some.is now.waiting) (made.0 ∙ sym (as_it_is _ c.in-Some.number)) made.1 e.others e.rest e.placed in
    rw c.new-in-Ok-commit.ensures (
    done_make _ _ _ _ _ _ c.args.edits.now c.in-Some.number c.loop-at.created.items _ _ _ _ c.requires.laid_out (going_end _ _ _ _ c.args.edits.now c.loop-at.at _ c.loop-at.group _ ended c.in-Some.is now.going)
    (told_end _ _ _ c.args.edits.now c.loop-at.at _ c.loop-at.group _ c.loop-at.created.items _ ended c.in-Some.is now.told) now.kept rest.others made.1 e.devices e.placed e.layouts e.told made.0 e.committed)

pub returns-in-Err-commit-clause-edited : goal.returns-in-Err-commit-clause-edited
returns-in-Err-commit-clause-edited g c =
    let ended : c.loop-at.at ≡ length c.args.edits.now = omega (arith, c.loop-at-test.false, c.loop-at.auto.at-end) in
    let now = c.loop-at.invariant in
    let e = c.in-Err-commit.ensures in
    let made = e.broken in
    let rest = waits_committed _ _ _ _ _ _ c.in-Some.number Slot.Broken (waits_end _ _ _ c.loop-at.group _ c.in-Some.is now.waiting) made.0 made.1 e.others e.rest e.placed in
    break_make _ _ _ _ _ _ c.args.edits.now c.in-Some.number c.loop-at.created.items _ _ _ _ c.requires.laid_out (going_end _ _ _ _ c.args.edits.now c.loop-at.at _ c.loop-at.group _ ended c.in-Some.is now.going)
    (told_end _ _ _ c.args.edits.now c.loop-at.at _ c.loop-at.group _ c.loop-at.created.items _ ended c.in-Some.is now.told) now.kept rest.others made.1 e.devices e.placed e.layouts e.told c.in-Err-commit.error e.fault refl made.0 e.failed e.torn
