use Rattle.std.proofs.Common.{◌+◌, ◌∙◌, ap, subst, sym, arith, inr, ℕ, List, length}
use Rattle.adf_repack.specs.declared.places.NodeShape.{NodeShape}
use Rattle.adf_repack.specs.Families.{children_of}
use Rattle.adf_repack.specs.Measures.{size_in, AreMeasured}
use Rattle.adf_repack.specs.Plans.{HasLong, old_place, record_at}
use Rattle.adf_repack.proofs.MeasureLaws.{measured_more, fit_more, unmeasured_later}
use Rattle.adf_repack.proofs.SourceLaws.{reads_then}
use Rattle.adf_repack.proofs.measuring.measure.Goals as goal

pub returns-in-Err-clause-cause : goal.returns-in-Err-clause-cause
returns-in-Err-clause-cause g c =
    let nodes = c.args.nodes.now in
    let n = c.loop-number.number in
    inr (record {
      number = n;
      within = c.loop-number-test.true;
      why = unmeasured_later (g.B.Blocks.state c.args.blocks.now).held (g.B.Blocks.state c.loop-number.blocks).held c.args.wide c.args.to (old_place nodes n) c.old_place-place.result (length (children_of nodes n)) _
          (g.B.Blocks.state c.args.blocks.now).faults (g.B.Blocks.state c.loop-number.blocks).faults (g.B.Blocks.state c.measure_node.new.blocks).faults c.in-Err.error
          c.loop-number.invariant.reads.held c.old_place-place.ensures (c.requires.counts n c.loop-number-test.true) c.loop-number.invariant.reads.faults c.in-Err.ensures.cause;
    })

pub loop-number-preserved : goal.loop-number-preserved
loop-number-preserved g c =
    let held = (g.B.Blocks.state c.args.blocks.now).held in
    let same = c.loop-number.invariant.reads.held in
    let nodes = c.args.nodes.now in
    let wide = c.args.wide in
    let n = c.loop-number.number in
    let at = c.old_place-place.ensures in
    record {
      ready = c.measure_node.ensures.ready;
      reads = reads_then _ _ _ c.loop-number.invariant.reads c.measure_node.ensures.reads;
      shapes = subst (λ (l : List NodeShape). AreMeasured held wide nodes (n + 1) l) (sym c.in-Ok-push.ensures.items)
          (measured_more held wide c.args.to nodes n c.loop-number.shapes.items c.in-Ok.shape c.loop-number.invariant.shapes (c.in-Ok.ensures.children ∙ c.requires.counts n c.loop-number-test.true) c.in-Ok.ensures.few
          (λ image e. c.in-Ok.ensures.size image (same ∙ e) ∙ ap (λ (q : ℕ). size_in (record_at image wide q)) at));
      fit = fit_more held wide c.args.to nodes n c.loop-number.invariant.fit
          (λ image e. subst (λ (q : ℕ). HasLong c.args.to (record_at image wide q) → ⊥) at (c.in-Ok.ensures.fits image (same ∙ e)));
    }

pub returns-clause-fit : goal.returns-clause-fit
returns-clause-fit g c image e k lt = c.loop-number.invariant.fit image e k (let all = c.loop-number-test.false in omega (arith, lt, all))
