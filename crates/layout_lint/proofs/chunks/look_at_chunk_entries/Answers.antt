use Rattle.std.proofs.Common.{◌∙◌, ◌+◌, ◌*◌, ◌∷◌, [], ap, sym, subst, arith, map, length, length-append}
use Rattle.std.specs.List.{All}
use Rattle.std.proofs.lemmas.List.Elements.{All-push}
use Rattle.adf_format.specs.FirstFault.{count_up}
use Rattle.layout_lint.specs.Chunks.{chunk_entry_row, IsNear}
use Rattle.cg_io.proofs.ReadLaws.{reads_then}
use Rattle.layout_lint.proofs.RowSteps.{this_breaks, this_kept, ended_by}
use Rattle.layout_lint.proofs.ChunkListLaws.{one_more_listed}
use Rattle.layout_lint.proofs.chunks.look_at_chunk_entries.Goals as goal

pub returns-in_err-listed-clause-rows : goal.returns-in_err-listed-clause-rows
returns-in_err-listed-clause-rows g c = λ image told within. rw (ended_by _ _ c.from_residual.ensures.1)
    (this_breaks (λ i. chunk_entry_row image (c.args.chunks.place + 16 + 24 * i)) c.loop-position.position c.args.chunks.count (map (λ i. chunk_entry_row image (c.args.chunks.place + 16 + 24 * i)) (count_up c.args.chunks.count)) c.in_err-listed.field-0.0 c.loop-position-test.true (c.loop-position.invariant.rest image told within)
    (rw c.entry.ensures at (c.in_err-listed.ensures.rows image (c.loop-position.invariant.effect.held ∙ told) (omega arith))))

pub loop-position-preserved : goal.loop-position-preserved
loop-position-preserved g c = record {
  ready = c.look_at_chunk_entry.ensures.ready;
  effect = reads_then _ _ _ _ _ _ c.loop-position.invariant.effect c.look_at_chunk_entry.ensures.effect (omega arith);
  rest = λ image told within.
      this_kept (λ i. chunk_entry_row image (c.args.chunks.place + 16 + 24 * i)) c.loop-position.position c.args.chunks.count _ c.loop-position-test.true (c.loop-position.invariant.rest image told within)
      (rw c.entry.ensures at (c.in_ok-listed.ensures.rows image (c.loop-position.invariant.effect.held ∙ told) (omega arith)));
  said = λ image told within.
      one_more_listed image c.args.chunks.place c.loop-position.position c.loop-position.list.items c.push.new.self.items c.in_ok-listed.listed c.in-Ok.ensures.items
      (rw c.entry.ensures at (c.in_ok-listed.ensures.says image (c.loop-position.invariant.effect.held ∙ told) (omega arith))) (c.loop-position.invariant.said image told within);
  count = ap length c.in-Ok.ensures.items ∙ omega (arith, length-append c.loop-position.list.items (c.in_ok-listed.listed ∷ []), c.loop-position.invariant.count);
  near = subst (All IsNear) (sym c.in-Ok.ensures.items) (All-push IsNear c.loop-position.list.items c.in_ok-listed.listed c.loop-position.invariant.near c.in_ok-listed.ensures.bound);
}
