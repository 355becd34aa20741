use Rattle.std.proofs.Common.{◌∙◌, ap, refl, sym, subst}
use Rattle.block_cache.specs.Cache.{IsCache, device_in}
use Rattle.block_draft.specs.Draft.{blocks_below, changes_in}
use Rattle.adf_tree.specs.Files.{state_of}
use Rattle.adf_tree.proofs.Committing.{breaks}
use Rattle.adf_tree.proofs.Starting.{image_settled, no_changes, no_steps}
use Rattle.adf_tree.proofs.Stepping.{committed_file}
use Rattle.adf_tree.proofs.file.AdfFile.commit.Goals as goal

pub returns-then-changed-eq0-clause-sound : goal.returns-then-changed-eq0-clause-sound
returns-then-changed-eq0-clause-sound g c =
    let state = g.D.Device.state in
    let file = c.args.self.now in
    let none = no_changes (changes_in file.draft) (sym c.changed.ensures ∙ c.if-changed-eq0.true) in
    let same = c.accept.ensures.draft in
    committed_file state file c.accept.new.self c.requires c.if-self.false c.accept.ensures.core (ap changes_in same ∙ none) c.accept.ensures.steps
    (subst (λ draft. IsCache state (blocks_below draft)) (sym same) c.requires.cache)
    (ap (λ draft. (state (device_in (blocks_below draft))).held) same ∙ sym (image_settled (state (device_in (blocks_below file.draft))).held (changes_in file.draft) none)) c.accept.ensures.names

pub returns-in-Ok-clause-sound : goal.returns-in-Ok-clause-sound
returns-in-Ok-clause-sound g c =
    let state = g.D.Device.state in
    let same = c.accept-in-Ok.ensures.draft in
    committed_file state c.args.self.now c.accept-in-Ok.new.self c.requires c.if-self.false c.accept-in-Ok.ensures.core (ap changes_in same ∙ c.commit.ensures.empty) c.accept-in-Ok.ensures.steps
    (subst (λ draft. IsCache state (blocks_below draft)) (sym same) c.commit.ensures.sound)
    (ap (λ draft. (state (device_in (blocks_below draft))).held) same ∙ c.in-Ok.ensures.written) c.accept-in-Ok.ensures.names

pub returns-in-Err-clause-ends : goal.returns-in-Err-clause-ends
returns-in-Err-clause-ends g c =
    let state = g.D.Device.state in
    let new = c.drop_steps.new.self in
    breaks (state_of state c.args.self.now) (state_of state (record new { broken = _ })) (state (device_in (blocks_below c.commit.new.self))) (changes_in c.args.self.now.draft)
    c.if-self.false refl c.drop_steps.ensures.core (no_steps _ c.drop_steps.ensures.steps) (ap (λ draft. state (device_in (blocks_below draft))) c.drop_steps.ensures.draft)
    (c.requires.work c.if-self.false) (λ none. (c.requires.idle none).changes) refl refl
    c.commit.ensures.ascend c.in-Err.ensures.torn c.commit.ensures.few c.commit.ensures.reads
    c.commit.ensures.cause.later c.in-Err.ensures.cause.failed c.commit.ensures.lost.later c.in-Err.ensures.lost.failed
