use Rattle.std.proofs.Common.{◌+◌, ◌^◌, ◌<◌, ◌≤◌, ◌∙◌, refl, sym, subst, inl, inr, ℕ, List, length}
use Rattle.adf_format.specs.Parts.{node_length}
use Rattle.layout_lint.specs.declared.verdict.NodePlace.{NodePlace}
use Rattle.adf_repack.specs.Families.{AreParents}
use Rattle.adf_repack.specs.Given.{IsGiven}
use Rattle.adf_repack.specs.Plans.{old_place}
use Rattle.adf_repack.specs.Repacks.{not_laid_out}
use Rattle.adf_repack.proofs.SourceLaws.{reads_none}
use Rattle.adf_repack.proofs.VerdictLaws.{headers_near, parents_there, repacked_so, refused_so, licensed_after, failed_first}
use Rattle.adf_repack.proofs.whole.repack.Goals as goal

-- ---- the nodes of the verdict

pub write_nodes-requires-clause-near : goal.write_nodes-requires-clause-near
write_nodes-requires-clause-near g c =
    subst (λ (l : List NodePlace). (k : ℕ) → k < length l → old_place l k + node_length c.in-Ok-Sound.wide ≤ 2 ^ 44) (sym c.items.ensures)
    (headers_near c.in-Ok-Sound.nodes _ _ c.in-Ok-Sound.wide (rw c.in-Ok-Sound.field-0-is at c.in-Ok-Sound.ensures.shape))

pub write_nodes-requires-clause-parents : goal.write_nodes-requires-clause-parents
write_nodes-requires-clause-parents g c =
    subst AreParents (sym c.items.ensures) (parents_there c.in-Ok-Sound.nodes _ _ c.in-Ok-Sound.wide (rw c.in-Ok-Sound.field-0-is at c.in-Ok-Sound.ensures.shape))

-- ---- a copy

pub returns-in-Ok-clause-packed : goal.returns-in-Ok-clause-packed
returns-in-Ok-clause-packed g c image e =
    repacked_so image c.in-Ok-Sound.nodes _ _ _ c.in-Ok-Sound.wide ((rw c.in-Ok-Sound.field-0-is at c.in-Ok-Sound.ensures.verdict) image e) c.args.target c.width_of-to.result
    (g.E.Device.state c.in-Ok.packed.device).held c.in-Ok.packed.end c.width_of-to.ensures
    (λ tree given width. c.in-Ok.ensures.packed image (c.lint.ensures.effect.held ∙ e) tree (subst (λ (l : List NodePlace). IsGiven image l tree) (sym c.items.ensures) given) width)

-- ---- refusals

pub returns-in-Ok-Sound-clause-licensed : goal.returns-in-Ok-Sound-clause-licensed
returns-in-Ok-Sound-clause-licensed g c =
    licensed_after (g.B.Blocks.state c.args.blocks.now) (g.B.Blocks.state c.lint.new.blocks) (g.B.Blocks.state c.write_nodes.new.blocks) (g.E.Device.state c.args.device) _ _ c.lint.ensures.effect.faults
    c.in-Err-write_nodes.ensures.licensed

pub returns-in-Ok-Sound-clause-refused : goal.returns-in-Ok-Sound-clause-refused
returns-in-Ok-Sound-clause-refused g c image e =
    inr (inr (refused_so image c.in-Ok-Sound.nodes _ _ _ c.in-Ok-Sound.wide ((rw c.in-Ok-Sound.field-0-is at c.in-Ok-Sound.ensures.verdict) image e) c.args.target c.width_of-to.result
    c.in-Err-write_nodes.refused.0 c.width_of-to.ensures
    (λ tree given width. c.in-Err-write_nodes.ensures.refused image (c.lint.ensures.effect.held ∙ e) tree (subst (λ (l : List NodePlace). IsGiven image l tree) (sym c.items.ensures) given) width)))

pub returns-in-Ok-Unsound-clause-refused : goal.returns-in-Ok-Unsound-clause-refused
returns-in-Ok-Unsound-clause-refused g c image e =
    inr (inl (record {
      rule = c.in-Ok-Unsound.rule;
      place = c.in-Ok-Unsound.place;
      is = refl;
      fault = (rw c.in-Ok-Unsound.field-0-is at c.in-Ok-Unsound.ensures.verdict) image e;
      left = reads_none (g.E.Device.state c.args.device);
    }))

pub returns-in-Ok-Unsound-clause-licensed : goal.returns-in-Ok-Unsound-clause-licensed
returns-in-Ok-Unsound-clause-licensed g c = not_laid_out c.in-Ok-Unsound.rule c.in-Ok-Unsound.place (rw c.in-Ok-Unsound.field-0-is at c.in-Ok-Unsound.ensures.rule)

pub returns-clause-licensed : goal.returns-clause-licensed
returns-clause-licensed g c =
    (failed_first (g.B.Blocks.state c.args.blocks.now) (g.B.Blocks.state c.lint.new.blocks) (g.E.Device.state c.args.device) c.in-Err.error c.in-Err.ensures.cause).0
