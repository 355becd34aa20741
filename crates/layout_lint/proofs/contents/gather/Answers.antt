use Rattle.std.proofs.Common.{◌≡◌, ◌∙◌, refl, arith, length, get_or}
use Rattle.std.proofs.lemmas.List.Elements.{All-get_or}
use Rattle.adf_format.specs.declared.types.Extent.{Extent}
use Rattle.adf_format.specs.declared.types.ExtentKind.{ExtentKind}
use Rattle.layout_lint.specs.Chunks.{IsChunk}
use Rattle.cg_io.proofs.ReadLaws.{reads_then}
use Rattle.layout_lint.proofs.ContentLaws.{gather_step, gather_end}
use Rattle.layout_lint.proofs.contents.gather.Goals as goal

abbrev none : Extent
none = record { place = 0; length = 0; kind = ExtentKind.Header }

pub loop-chunk-preserved : goal.loop-chunk-preserved
loop-chunk-preserved g c = let same : length c.read_part.new.into ≡ length c.loop-chunk.into = c.read_part.auto.into in
    record {
      inside = omega arith;
      ready = c.read_part.ensures.ready;
      effect = reads_then _ _ _ _ _ _ c.loop-chunk.invariant.effect c.read_part.ensures.effect (omega arith);
      taken = λ image told end visits long sound are.
          let e : Extent = get_or c.args.chunks.now c.loop-chunk.chunk-index none in
          let chunk : IsChunk end e = All-get_or (IsChunk end) c.args.chunks.now c.loop-chunk.chunk-index none c.loop-chunk-test.true sound in
          gather_step image end long c.args.chunks.now visits c.loop-chunk.chunk-index e none c.loop-chunk.done c.min-count.result (length c.args.into.now) _ c.loop-chunk.into c.read_part.new.into are c.loop-chunk-test.true refl chunk
          c.loop-chunk.auto.into c.min-count.ensures (c.in_ok-read_part.ensures.told image (c.loop-chunk.invariant.effect.held ∙ told) (let l = chunk.long in let i = chunk.inside in omega arith)) (c.loop-chunk.invariant.taken image told end visits long sound are);
    }

pub returns-clause-told : goal.returns-clause-told
returns-clause-told g c = λ image told end visits long sound are enough.
    gather_end image end long c.args.chunks.now visits c.loop-chunk.chunk-index c.loop-chunk.done (length c.args.into.now) c.loop-chunk.into are sound c.loop-chunk-test.false c.loop-chunk.auto.into (omega arith) enough
    (c.loop-chunk.invariant.taken image told end visits long sound are)
