use Rattle.std.proofs.Common.{◌<◌, ℕ, length, refl, sym, subst, arith}
use Rattle.std.specs.List.{All}
use Rattle.std.proofs.lemmas.List.Elements.{All-push}
use Rattle.std.proofs.lemmas.Option.{slice_get-get_or}
use Rattle.layout_lint.proofs.PathLaws.{climb_root, climb_step, parent_before}
use Rattle.layout_lint.proofs.paths.numbers_up.Goals as goal

pub loop-at-preserved : goal.loop-at-preserved
loop-at-preserved c =
    let here = slice_get-get_or c.args.nodes.now c.loop-at.at (record { place = 0; parent = 0; position = 0; depth = 0 }) c.loop-at.invariant.inside in
    record {
      inside = omega (arith, parent_before c.args.nodes.now c.requires.linked c.loop-at.at _ c.loop-at-test.true here, c.loop-at.invariant.inside);
      there =
          let P : ℕ → Type 0 = λ k. k < length c.args.nodes.now in
          subst (All P) (sym c.in-Ok.ensures.items) (All-push P c.loop-at.up.items c.loop-at.at c.loop-at.invariant.there c.loop-at.invariant.inside);
      climbed = λ tree p is in_order listed.
          climb_step tree is in_order p c.args.nodes.now listed c.args.number c.loop-at.at _ c.loop-at.up.items c.push.new.self.items _ (c.loop-at.invariant.climbed tree p is in_order listed) c.loop-at-test.true here refl c.in-Ok.ensures.items;
    }

pub loop-at-smaller : goal.loop-at-smaller
loop-at-smaller c =
    parent_before c.args.nodes.now c.requires.linked c.loop-at.at _ c.loop-at-test.true (slice_get-get_or c.args.nodes.now c.loop-at.at (record { place = 0; parent = 0; position = 0; depth = 0 }) c.loop-at.invariant.inside)

pub returns-clause-up : goal.returns-clause-up
returns-clause-up c = λ tree p is in_order listed.
    climb_root tree c.args.number c.loop-at.at c.loop-at.up.items (c.loop-at.invariant.climbed tree p is in_order listed) c.loop-at-test.false
