use Rattle.std.proofs.Common.{◌≡◌, arith, refl, ap}
use Rattle.adf_format.specs.Placement.{ChunkPart}
use Rattle.adf_data.specs.Chunks.{part_at, parts_of}
use Rattle.adf_data.proofs.Spots.{spot_spans}
use Rattle.adf_data.proofs.ranges.span_at.Goals as goal

pub returns-then-left-most-clause-span : goal.returns-then-left-most-clause-span
returns-then-left-most-clause-span c =
    let p = c.seek-here.ensures in
    let e : c.chunk_of-chunk.result.length ≡ (part_at (parts_of c.args.chunks.now) c.seek-here.result.number).length = ap (λ (q : ChunkPart). q.length) c.chunk_of-chunk.ensures.part in
    spot_spans c.args.chunks.now c.seek-here.result c.args.k c.args.most _ _ c.chunk_of-chunk.result p.there p.spot p.first p.holds c.chunk_of-chunk.ensures.part c.chunk_of-chunk.ensures.sane c.requires.some refl (let q = p.holds in let f = p.first in omega (arith, e, q, f)) (let t = c.if-left-most.true in omega (arith, t)) (omega arith)

pub returns-else-left-most-clause-span : goal.returns-else-left-most-clause-span
returns-else-left-most-clause-span c =
    let p = c.seek-here.ensures in
    spot_spans c.args.chunks.now c.seek-here.result c.args.k c.args.most _ _ c.chunk_of-chunk.result p.there p.spot p.first p.holds c.chunk_of-chunk.ensures.part c.chunk_of-chunk.ensures.sane c.requires.some refl c.requires.some (omega arith) c.if-left-most.false
