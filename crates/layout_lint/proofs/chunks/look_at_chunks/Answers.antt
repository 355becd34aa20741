use Rattle.std.proofs.Common.{◌≡◌, ◌∙◌, ◌-◌, ap, subst, refl, arith, ℕ, map}
use Rattle.std.specs.Prelude.{None}
use Rattle.std.specs.List.{range_with_len}
use Rattle.adf_format.specs.Checks.{first_broken}
use Rattle.adf_format.specs.FirstFault.{ChunkVisit, chunk_rows, chunk_length, one_chunk_rows}
use Rattle.layout_lint.specs.Halts.{Breaks}
use Rattle.layout_lint.specs.Chunks.{visit_of, chunk_visit, chunk_list}
use Rattle.cg_io.proofs.ReadLaws.{reads_then}
use Rattle.layout_lint.proofs.ChunkListLaws.{breaks_here, kept_here, used_here, payload_here, extents_here, adds_one, none_left, no_chunks, same_extent, breaks_like}
use Rattle.layout_lint.proofs.RowSteps.{ended_by}
use Rattle.layout_lint.proofs.chunks.look_at_chunks.Goals as goal

pub loop-position-preserved : goal.loop-position-preserved
loop-position-preserved g c = record {
  ready = c.look_at_chunk.ensures.ready;
  effect = reads_then _ _ _ _ _ _ c.loop-position.invariant.effect c.look_at_chunk.ensures.effect (omega arith);
  low = omega (arith, c.in_ok-length.ensures.fits);
  room = omega (arith, c.in_ok-length.ensures.fits);
  adds = adds_one _ _ _ _ _ _ c.loop-position.invariant.adds c.in_ok-add_extent.ensures.added (record { long = omega (arith, c.in_ok-length.ensures.fits); inside = omega (arith, c.in_ok-length.ensures.fits) }) refl;
  rest = λ image told long are.
      let f : ℕ → ChunkVisit = chunk_visit image c.args.chunks.place c.args.chunks.count in
      let told_now = c.loop-position.invariant.effect.held ∙ told in
      let is : visit_of c.chunk_at-chunk.result ≡ f c.loop-position.position = c.chunk_at-chunk.ensures.says image are in
      let size : c.in_ok-length.length ≡ chunk_length image (f c.loop-position.position).place = c.in_ok-length.ensures.says image told_now long ∙ ap (λ (v : ChunkVisit). chunk_length image v.place) is in
      kept_here image c.args.span.end f c.loop-position.position c.args.chunks.count c.loop-position-test.true c.loop-position.sums.used c.in_ok-length.length _ size
      (subst (λ v. first_broken (one_chunk_rows image c.args.span.end c.loop-position.sums.used v) ≡ None) is (c.in_ok-length.ensures.rows image told_now long)) (c.loop-position.invariant.rest image told long are);
  all = λ image told long are.
      let f : ℕ → ChunkVisit = chunk_visit image c.args.chunks.place c.args.chunks.count in
      let told_now = c.loop-position.invariant.effect.held ∙ told in
      let is : visit_of c.chunk_at-chunk.result ≡ f c.loop-position.position = c.chunk_at-chunk.ensures.says image are in
      let size : c.in_ok-length.length ≡ chunk_length image (f c.loop-position.position).place = c.in_ok-length.ensures.says image told_now long ∙ ap (λ (v : ChunkVisit). chunk_length image v.place) is in
      used_here image c.args.span.end f c.loop-position.position c.args.chunks.count c.loop-position-test.true _ c.loop-position.sums.used c.in_ok-length.length size (c.loop-position.invariant.all image told long are);
  payload = λ image told long are.
      let f : ℕ → ChunkVisit = chunk_visit image c.args.chunks.place c.args.chunks.count in
      let told_now = c.loop-position.invariant.effect.held ∙ told in
      let is : visit_of c.chunk_at-chunk.result ≡ f c.loop-position.position = c.chunk_at-chunk.ensures.says image are in
      let size : c.in_ok-length.length ≡ chunk_length image (f c.loop-position.position).place = c.in_ok-length.ensures.says image told_now long ∙ ap (λ (v : ChunkVisit). chunk_length image v.place) is in
      payload_here image c.args.span.end f c.loop-position.position c.args.chunks.count c.loop-position-test.true _ c.loop-position.sums.payload c.in_ok-length.length size (c.loop-position.invariant.payload image told long are);
  extents = λ image told long are.
      let f : ℕ → ChunkVisit = chunk_visit image c.args.chunks.place c.args.chunks.count in
      let told_now = c.loop-position.invariant.effect.held ∙ told in
      let is : visit_of c.chunk_at-chunk.result ≡ f c.loop-position.position = c.chunk_at-chunk.ensures.says image are in
      let size : c.in_ok-length.length ≡ chunk_length image (f c.loop-position.position).place = c.in_ok-length.ensures.says image told_now long ∙ ap (λ (v : ChunkVisit). chunk_length image v.place) is in
      extents_here image c.args.span.end f c.loop-position.position c.args.chunks.count c.loop-position-test.true _ c.loop-position.extents.items c.add_extent.new.extents.items _ c.in_ok-add_extent.ensures.added
      (same_extent image c.chunk_at-chunk.result.place c.in_ok-length.length (f c.loop-position.position) (ap (λ (v : ChunkVisit). v.place) is) size) (c.loop-position.invariant.extents image told long are);
}

pub returns-in_err-length-clause-rows : goal.returns-in_err-length-clause-rows
returns-in_err-length-clause-rows g c = λ image told long are. rw (ended_by _ _ c.from_residual.ensures.1)
    (let f : ℕ → ChunkVisit = chunk_visit image c.args.chunks.place c.args.chunks.count in
    let told_now = c.loop-position.invariant.effect.held ∙ told in
    let is : visit_of c.chunk_at-chunk.result ≡ f c.loop-position.position = c.chunk_at-chunk.ensures.says image are in
    breaks_like (chunk_rows image c.args.span.end c.args.used (chunk_list image c.args.chunks.place c.args.chunks.count)) (chunk_rows image c.args.span.end c.loop-position.sums.used (map f (range_with_len c.loop-position.position (c.args.chunks.count - c.loop-position.position)))) c.in_err-length.field-0.0 (c.loop-position.invariant.rest image told long are)
    (breaks_here image c.args.span.end f c.loop-position.position c.args.chunks.count c.loop-position-test.true c.loop-position.sums.used c.in_err-length.field-0.0
    (subst (λ v. Breaks (one_chunk_rows image c.args.span.end c.loop-position.sums.used v) c.in_err-length.field-0.0) is (c.in_err-length.ensures.rows image told_now long))))

pub returns-clause-rows : goal.returns-clause-rows
returns-clause-rows g c = λ image told long are.
    let none = none_left (chunk_visit image c.args.chunks.place c.args.chunks.count) c.loop-position.position c.args.chunks.count (omega arith) in
    c.loop-position.invariant.rest image told long are ∙ ap (λ vs. first_broken (chunk_rows image c.args.span.end c.loop-position.sums.used vs)) none ∙ no_chunks image c.args.span.end c.loop-position.sums.used
