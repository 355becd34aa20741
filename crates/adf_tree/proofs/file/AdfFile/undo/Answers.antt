use Rattle.std.proofs.Common.{◌∙◌, ap, sym, subst}
use Rattle.block_cache.specs.Cache.{IsCache, device_in}
use Rattle.block_draft.specs.Draft.{blocks_below, changes_in}
use Rattle.adf_tree.proofs.Stepping.{dropped_file}
use Rattle.adf_tree.proofs.file.AdfFile.undo.Goals as goal

pub returns-clause-sound : goal.returns-clause-sound
returns-clause-sound g c =
    let state = g.D.Device.state in
    let blocks = ap blocks_below c.drop_steps.ensures.draft ∙ c.abandon.ensures.blocks in
    dropped_file state c.args.self.now c.drop_steps.new.self c.requires c.drop_steps.ensures.core (ap changes_in c.drop_steps.ensures.draft ∙ c.abandon.ensures.empty) c.drop_steps.ensures.steps
    (subst (IsCache state) (sym blocks) c.requires.cache) (ap (λ cache. (state (device_in cache)).held) blocks) c.drop_steps.ensures.broken c.drop_steps.ensures.names
