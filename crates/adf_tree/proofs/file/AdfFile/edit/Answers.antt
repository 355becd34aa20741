use Rattle.std.proofs.Common.{◌≡◌, ◌∙◌, refl, subst, arith, length, ℕ}
use Rattle.std.proofs.lemmas.Option.{slice_get_read}
use Rattle.std.specs.Prelude.{Some, Ok, Err, slice_get}
use Rattle.adf_tree.specs.Files.{device_of, state_of}
use Rattle.adf_tree.specs.Groups.{GroupRefused, IsGroupOf, IsOfKind}
use Rattle.adf_tree.proofs.Grouping.{way_begins, way_goes_on, next_none, next_told, next_leaves, next_anyway, next_kind, of_told, done_there, ends_told, ends_kind, is_none, is_some_edit, nothing_told}
use Rattle.adf_tree.proofs.Starting.{idle_state}
use Rattle.adf_tree.proofs.file.AdfFile.edit.Goals as goal

pub loop-at-init : goal.loop-at-init
loop-at-init g c = record {
  sound = c.requires.sound.working;
  way = way_begins c.args.edits.now _ (state_of g.D.Device.state c.args.self.now) c.new-created.ensures.items c.requires.sound.none (c.requires.sound.working.idle c.requires.sound.none).core;
}

pub loop-at-preserved : goal.loop-at-preserved
loop-at-preserved g c =
    let is : slice_get c.args.edits.now c.loop-at.at ≡ Some c.index-edits-at.result = slice_get_read c.args.edits.now (length c.args.edits.now) c.loop-at.at c.index-edits-at.result refl c.loop-at-test.true c.index-edits-at.is in
    let now = c.loop-at.invariant in
    let ends = c.in-Ok.ensures.ends in
    record {
      sound = c.next_step.ensures.sound;
      way = way_goes_on c.args.edits.now c.loop-at.at c.loop-at.created.items _ _ now.way (now.sound.work ends.1.live) c.index-edits-at.result is ends.0 _ ends.1 _ ends.2 _ (omega arith);
    }

-- ---- an edit is refused

pub returns-in-Err-clause-sound : goal.returns-in-Err-clause-sound
returns-in-Err-clause-sound g c =
    let is : slice_get c.args.edits.now c.loop-at.at ≡ Some c.index-edits-at.result = slice_get_read c.args.edits.now (length c.args.edits.now) c.loop-at.at c.index-edits-at.result refl c.loop-at-test.true c.index-edits-at.is in
    let now = c.loop-at.invariant in
    let rest = c.requires.sound in
    record {
      working = c.next_step.ensures.sound;
      none = next_none c.args.edits.now c.loop-at.at c.loop-at.created.items _ _ _ now.way now.sound.work (rest.working.idle rest.none).core (idle_state g.D.Device.state c.args.self.now rest) c.index-edits-at.result is _ c.in-Err.error c.in-Err.ensures.ends rest.none;
    }

pub returns-in-Err-clause-told : goal.returns-in-Err-clause-told
returns-in-Err-clause-told g c = λ live.
    let is : slice_get c.args.edits.now c.loop-at.at ≡ Some c.index-edits-at.result = slice_get_read c.args.edits.now (length c.args.edits.now) c.loop-at.at c.index-edits-at.result refl c.loop-at-test.true c.index-edits-at.is in
    let now = c.loop-at.invariant in
    let rest = c.requires.sound in
    of_told (IsGroupOf c.args.edits.now (Err (record { at = c.loop-at.at; error = c.in-Err.error })) (state_of g.D.Device.state c.args.self.now) (state_of g.D.Device.state c.next_step.new.self)) (device_of g.D.Device.state c.args.self.now).held
    (next_told c.args.edits.now c.loop-at.at c.loop-at.created.items _ _ _ now.way now.sound.work (rest.working.idle rest.none).core (idle_state g.D.Device.state c.args.self.now rest) c.index-edits-at.result is _ c.in-Err.error c.in-Err.ensures.ends live)

pub returns-in-Err-clause-leaves : goal.returns-in-Err-clause-leaves
returns-in-Err-clause-leaves g c =
    let is : slice_get c.args.edits.now c.loop-at.at ≡ Some c.index-edits-at.result = slice_get_read c.args.edits.now (length c.args.edits.now) c.loop-at.at c.index-edits-at.result refl c.loop-at-test.true c.index-edits-at.is in
    let now = c.loop-at.invariant in
    let rest = c.requires.sound in
    next_leaves c.args.edits.now c.loop-at.at c.loop-at.created.items _ _ _ now.way now.sound.work (rest.working.idle rest.none).core (idle_state g.D.Device.state c.args.self.now rest) c.index-edits-at.result is _ c.in-Err.error c.in-Err.ensures.ends

pub returns-in-Err-clause-anyway : goal.returns-in-Err-clause-anyway
returns-in-Err-clause-anyway g c =
    let is : slice_get c.args.edits.now c.loop-at.at ≡ Some c.index-edits-at.result = slice_get_read c.args.edits.now (length c.args.edits.now) c.loop-at.at c.index-edits-at.result refl c.loop-at-test.true c.index-edits-at.is in
    let now = c.loop-at.invariant in
    let rest = c.requires.sound in
    next_anyway c.args.edits.now c.loop-at.at c.loop-at.created.items _ _ _ now.way now.sound.work (rest.working.idle rest.none).core (idle_state g.D.Device.state c.args.self.now rest) c.index-edits-at.result is _ c.in-Err.error c.in-Err.ensures.ends

pub returns-in-Err-clause-kind : goal.returns-in-Err-clause-kind
returns-in-Err-clause-kind g c =
    let is : slice_get c.args.edits.now c.loop-at.at ≡ Some c.index-edits-at.result = slice_get_read c.args.edits.now (length c.args.edits.now) c.loop-at.at c.index-edits-at.result refl c.loop-at-test.true c.index-edits-at.is in
    let now = c.loop-at.invariant in
    let rest = c.requires.sound in
    next_kind c.args.edits.now c.loop-at.at c.loop-at.created.items _ _ _ now.way now.sound.work (rest.working.idle rest.none).core (idle_state g.D.Device.state c.args.self.now rest) c.index-edits-at.result is _ c.in-Err.error c.in-Err.ensures.ends

-- ---- without edits

pub returns-then-is_empty-clause-told : goal.returns-then-is_empty-clause-told
returns-then-is_empty-clause-told g c = λ live.
    nothing_told c.args.edits.now _ (state_of g.D.Device.state c.args.self.now) (is_none c.args.edits.now _ c.is_empty.ensures c.if-is_empty.true) (c.new.ensures ∙ c.new-created.ensures.items)

-- ---- the commit

pub returns-in-Ok-commit-clause-told : goal.returns-in-Ok-commit-clause-told
returns-in-Ok-commit-clause-told g c = λ live.
    let ended : c.loop-at.at ≡ length c.args.edits.now = omega (arith, c.loop-at-test.false, c.loop-at.auto.at-end) in
    let now = c.loop-at.invariant in
    let ends = c.in-Ok-commit.ensures.ends in
    let old = state_of g.D.Device.state c.args.self.now in
    rw c.new-in-Ok-commit.ensures (
    of_told (IsGroupOf c.args.edits.now (Ok c.loop-at.created.items) old (state_of g.D.Device.state c.commit.new.self)) (device_of g.D.Device.state c.args.self.now).held
    (done_there c.args.edits.now c.loop-at.at c.loop-at.created.items old _ now.way (now.sound.work ends.live) ended _ ends))

pub returns-in-Err-commit-clause-told : goal.returns-in-Err-commit-clause-told
returns-in-Err-commit-clause-told g c = λ live.
    let ended : c.loop-at.at ≡ length c.args.edits.now = omega (arith, c.loop-at-test.false, c.loop-at.auto.at-end) in
    let now = c.loop-at.invariant in
    let some = is_some_edit c.args.edits.now _ c.is_empty.ensures c.if-is_empty.false in
    let old = state_of g.D.Device.state c.args.self.now in
    let new = state_of g.D.Device.state c.commit.new.self in
    of_told (IsGroupOf c.args.edits.now (Err (record { at = length c.args.edits.now; error = c.in-Err-commit.error })) old new) (device_of g.D.Device.state c.args.self.now).held
    (λ image told tree p m. subst (λ (k : ℕ). GroupRefused c.args.edits.now k c.in-Err-commit.error tree p old new) ended
    (ends_told c.args.edits.now c.loop-at.at c.loop-at.created.items old _ now.way now.sound.work ended some new c.in-Err-commit.error c.in-Err-commit.ensures.ends image told tree p m))

pub returns-in-Err-commit-clause-kind : goal.returns-in-Err-commit-clause-kind
returns-in-Err-commit-clause-kind g c =
    let ended : c.loop-at.at ≡ length c.args.edits.now = omega (arith, c.loop-at-test.false, c.loop-at.auto.at-end) in
    let now = c.loop-at.invariant in
    let some = is_some_edit c.args.edits.now _ c.is_empty.ensures c.if-is_empty.false in
    subst (λ (k : ℕ). IsOfKind c.args.edits.now (record { at = k; error = c.in-Err-commit.error })) ended
    (ends_kind c.args.edits.now c.loop-at.at c.loop-at.created.items (state_of g.D.Device.state c.args.self.now) _ now.way now.sound.work ended some (state_of g.D.Device.state c.commit.new.self) c.in-Err-commit.error c.in-Err-commit.ensures.ends)
