use Rattle.std.proofs.Common.{◌-◌, ◌≤◌, ◌∙◌, ap, length-take, arith, rules, List, ℕ, length, take, drop, Option}
use Rattle.std.proofs.lemmas.List.{take-take}
use Rattle.adf_repack.specs.Writers.{with_more, appended_in}
use Rattle.adf_repack.proofs.WriterLaws.{more_of, writes_then}
use Rattle.adf_repack.proofs.writer.BlockWriter.append.Goals as goal

pub loop-done-preserved : goal.loop-done-preserved
loop-done-preserved g c =
    let rest : List ℕ = drop c.loop-done.done c.args.bytes.now in
    let left : ℕ = length c.args.bytes.now - c.loop-done.done in
    let fits : c.in-Ok.count ≤ left = omega (arith, c.in-Ok.ensures.some.1, length-take left rest) in
    record {
      inside = omega (arith, fits, c.loop-done.invariant.inside);
      sound = c.in-Ok.ensures.sound;
      appended = c.in-Ok.ensures.appended ∙ ap (with_more (appended_in g.E.Device.state c.loop-done.self)) (take-take c.in-Ok.count left rest fits)
          ∙ ap (λ (b : Option (List ℕ)). with_more b (take c.in-Ok.count rest)) c.loop-done.invariant.appended ∙ more_of (appended_in g.E.Device.state c.args.self.now) c.args.bytes.now c.loop-done.done c.in-Ok.count;
      count = c.in-Ok.ensures.count ∙ omega (arith, c.loop-done.invariant.count);
      wrote = writes_then _ _ _ _ _ _ c.loop-done.invariant.wrote c.in-Ok.ensures.wrote;
      effect = search rules;
      faults = omega (arith, c.loop-done.invariant.faults, c.append_some.ensures.cause.later);
      lost = omega (arith, c.loop-done.invariant.lost, c.append_some.ensures.lost.later);
    }
