use Rattle.std.proofs.Common.{sym, refl, arith, ◌+◌, Some}
use Rattle.std.proofs.lemmas.List.Sorted.{All-permutation}
use Rattle.layout_lint.specs.Gaps.{IsSolid}
use Rattle.cg_io.proofs.ReadLaws.{reads_then, reads_none}
use Rattle.layout_lint.proofs.SetLaws.{blanks, told_blank, plainly, long, set_of}
use Rattle.layout_lint.proofs.TilingLaws.{at_start, solid_here, next_here, stop_here, at_end, at_hole}
use Rattle.layout_lint.proofs.gaps.look_at_tiling.Goals as goal

pub loop-k-init : goal.loop-k-init
loop-k-init g c = record {
  ready = c.requires.ready;
  effect = reads_none 0 _;
  near = omega arith;
  at = λ image told within. rw c.new-gaps.ensures.items (at_start image c.sort_by_place.new.extents.items);
  plain = rw c.new-gaps.ensures.items (at_start _ c.sort_by_place.new.extents.items);
}

pub pass-requires-clause-end : goal.pass-requires-clause-end
pass-requires-clause-end g c =
    let solid = solid_here _ c.args.span.end c.sort_by_place.new.extents.items c.sort_by_place.ensures.sorted (All-permutation (IsSolid c.args.span.end) _ _ c.sort_by_place.ensures.same c.requires.solid) c.loop-k.k c.loop-k.reach c.loop-k.gaps.items c.loop-k.invariant.at (omega arith) c.index.result.now c.index.result.now (sym c.index.ensures) in
    omega (arith, solid.inside)

pub returns-in-Err-clause-bad : goal.returns-in-Err-clause-bad
returns-in-Err-clause-bad g c =
    stop_here _ c.args.span.end c.sort_by_place.new.extents.items c.sort_by_place.ensures.sorted (All-permutation (IsSolid c.args.span.end) _ _ c.sort_by_place.ensures.same c.requires.solid) c.loop-k.k c.loop-k.reach c.loop-k.gaps.items c.loop-k.invariant.at (omega arith) c.index.result.now c.index.result.now (sym c.index.ensures)
    c.args.extents.items c.in-Err.halt c.sort_by_place.ensures.same (rw c.loop-k.invariant.effect.held at c.in-Err.ensures.stops)

pub loop-k-preserved : goal.loop-k-preserved
loop-k-preserved g c =
    let solids = All-permutation (IsSolid c.args.span.end) _ _ c.sort_by_place.ensures.same c.requires.solid in
    let solid = solid_here _ c.args.span.end c.sort_by_place.new.extents.items c.sort_by_place.ensures.sorted solids c.loop-k.k c.loop-k.reach c.loop-k.gaps.items c.loop-k.invariant.at (omega arith) c.index.result.now c.index.result.now (sym c.index.ensures) in
    record {
      ready = c.pass.ensures.ready;
      effect = reads_then _ _ _ _ _ _ c.loop-k.invariant.effect c.pass.ensures.effect (omega (arith, c.in-Ok.ensures.ends));
      near = omega (arith, solid.inside, c.in-Ok.ensures.ends.0);
      at = next_here _ c.args.span.end c.sort_by_place.new.extents.items c.sort_by_place.ensures.sorted solids c.loop-k.k c.loop-k.reach c.loop-k.gaps.items c.loop-k.invariant.at (omega arith) c.index.result.now c.index.result.now (sym c.index.ensures)
          c.in-Ok.end c.pass.new.gaps.items c.in-Ok.ensures.ends.0 c.in-Ok.ensures.ends.1 (rw c.loop-k.invariant.effect.held at c.in-Ok.ensures.blank) c.in-Ok.ensures.gaps;
      plain = next_here (Some (blanks (c.args.span.end + 1))) c.args.span.end c.sort_by_place.new.extents.items c.sort_by_place.ensures.sorted solids c.loop-k.k c.loop-k.reach c.loop-k.gaps.items (plainly _ _ _ _ _ _ c.loop-k.invariant.plain) (omega arith) c.index.result.now c.index.result.now (sym c.index.ensures)
          c.in-Ok.end c.pass.new.gaps.items c.in-Ok.ensures.ends.0 c.in-Ok.ensures.ends.1 (told_blank (c.args.span.end + 1) c.loop-k.reach c.index.result.now.place) c.in-Ok.ensures.gaps _ refl (long c.args.span.end);
    }

pub returns-in-Ok-fill-clause-tiled : goal.returns-in-Ok-fill-clause-tiled
returns-in-Ok-fill-clause-tiled g c =
    at_end _ c.args.span.end c.sort_by_place.new.extents.items c.sort_by_place.ensures.sorted c.loop-k.k c.loop-k.reach c.loop-k.gaps.items c.loop-k.invariant.at c.args.extents.items c.sort_by_place.ensures.same (omega arith) c.loop-k.invariant.near
    c.fill.new.gaps.items (rw c.loop-k.invariant.effect.held at c.in-Ok-fill.ensures.blank) c.in-Ok-fill.ensures.gaps

pub returns-clause-bad : goal.returns-clause-bad
returns-clause-bad g c =
    at_hole _ c.args.span.end c.sort_by_place.new.extents.items c.sort_by_place.ensures.sorted c.loop-k.k c.loop-k.reach c.loop-k.gaps.items c.loop-k.invariant.at c.args.extents.items c.sort_by_place.ensures.same (omega arith) c.loop-k.invariant.near
    c.in-Err-fill.halt (rw c.loop-k.invariant.effect.held at c.in-Err-fill.ensures.hole)

pub returns-in-Ok-fill-clause-set : goal.returns-in-Ok-fill-clause-set
returns-in-Ok-fill-clause-set g c =
    set_of (blanks (c.args.span.end + 1)) c.args.extents.items c.args.span.end c.fill.new.gaps.items
    (at_end (Some (blanks (c.args.span.end + 1))) c.args.span.end c.sort_by_place.new.extents.items c.sort_by_place.ensures.sorted c.loop-k.k c.loop-k.reach c.loop-k.gaps.items (plainly _ _ _ _ _ _ c.loop-k.invariant.plain) c.args.extents.items
    c.sort_by_place.ensures.same (omega arith) c.loop-k.invariant.near c.fill.new.gaps.items (told_blank (c.args.span.end + 1) c.loop-k.reach (c.args.span.end + 1)) c.in-Ok-fill.ensures.gaps _ refl (long (c.args.span.end)))
