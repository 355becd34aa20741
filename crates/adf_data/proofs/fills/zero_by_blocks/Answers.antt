use Rattle.std.proofs.Common.{◌≡◌, ◌+◌, ◌≤◌, length, take, arith, subst}
use Rattle.cg_io.specs.Blocks.{Both}
use Rattle.cg_io.proofs.ReadLaws.{only_then}
use Rattle.adf_data.specs.Chunks.{parts_of}
use Rattle.cg_io.specs.Waits.{WaitsOnly}
use Rattle.adf_data.specs.Ranges.{ChangesBytes, HasByte}
use Rattle.adf_data.proofs.BlockLaws.{part_waits}
use Rattle.adf_data.proofs.FillLaws.{part_long, part_zero, zeroes_then, refused_zeroes}
use Rattle.adf_data.proofs.fills.zero_by_blocks.Goals as goal

pub returns-in-Err-clause-bytes : goal.returns-in-Err-clause-bytes
returns-in-Err-clause-bytes g c =
    let small : c.loop-done.done + c.block_part-part.result ≤ c.args.count = (let f = c.block_part-part.ensures.few in let t = c.loop-done-test.true in omega (arith, f, t)) in
    let long : length (take c.block_part-part.result c.args.block.now) ≡ c.block_part-part.result = part_long c.block_part-part.result 4096 c.args.block.now c.told-block c.block_part-part.ensures.block in
    refused_zeroes (parts_of c.args.chunks.now) c.args.first c.loop-done.done c.block_part-part.result c.args.count (g.S.ReadBytes.image c.args.space.now) (g.S.ReadBytes.image c.loop-done.space) (g.S.ReadBytes.image c.write_range.new.space) small c.loop-done.invariant.zeroed
    (subst (λ n. Both (ChangesBytes (parts_of c.args.chunks.now) (c.args.first + c.loop-done.done) n) (g.S.ReadBytes.image c.loop-done.space) (g.S.ReadBytes.image c.write_range.new.space)) long c.write_range.ensures.bytes)

pub returns-in-Err-clause-only : goal.returns-in-Err-clause-only
returns-in-Err-clause-only g c =
    let small : c.loop-done.done + c.block_part-part.result ≤ c.args.count = (let f = c.block_part-part.ensures.few in let t = c.loop-done-test.true in omega (arith, f, t)) in
    let long : length (take c.block_part-part.result c.args.block.now) ≡ c.block_part-part.result = part_long c.block_part-part.result 4096 c.args.block.now c.told-block c.block_part-part.ensures.block in
    part_waits (parts_of c.args.chunks.now) (c.args.first + c.loop-done.done) c.block_part-part.result c.args.first c.args.count _ _ _ (omega arith) (omega (arith, small)) c.loop-done.invariant.waits (subst (λ n. WaitsOnly (HasByte (parts_of c.args.chunks.now) (c.args.first + c.loop-done.done) n) (g.S.ReadBytes.waiting c.loop-done.space) (g.S.ReadBytes.waiting c.write_range.new.space)) long c.write_range.ensures.only)

pub loop-done-preserved : goal.loop-done-preserved
loop-done-preserved g c =
    let small : c.loop-done.done + c.block_part-part.result ≤ c.args.count = (let f = c.block_part-part.ensures.few in let t = c.loop-done-test.true in omega (arith, f, t)) in
    let long : length (take c.block_part-part.result c.args.block.now) ≡ c.block_part-part.result = part_long c.block_part-part.result 4096 c.args.block.now c.told-block c.block_part-part.ensures.block in
    record {
      inside = small;
      sound = c.write_range.ensures.sound;
      looks = only_then (g.S.ReadBytes.state c.args.space.now) (g.S.ReadBytes.state c.loop-done.space) (g.S.ReadBytes.state c.write_range.new.space) c.loop-done.invariant.looks c.write_range.ensures.effect;
      spot = c.write_range.ensures.spot;
      zeroed = zeroes_then (parts_of c.args.chunks.now) c.args.first c.loop-done.done c.block_part-part.result (take c.block_part-part.result c.args.block.now) (g.S.ReadBytes.image c.args.space.now) (g.S.ReadBytes.image c.loop-done.space) (g.S.ReadBytes.image c.write_range.new.space)
          (let w = c.requires.within in omega (arith, w, small)) c.loop-done.invariant.zeroed c.in-Ok.ensures.written long (part_zero c.block_part-part.result c.args.block.now c.requires.zero);
      waits = part_waits (parts_of c.args.chunks.now) (c.args.first + c.loop-done.done) c.block_part-part.result c.args.first c.args.count _ _ _ (omega arith) (omega (arith, small)) c.loop-done.invariant.waits (subst (λ n. WaitsOnly (HasByte (parts_of c.args.chunks.now) (c.args.first + c.loop-done.done) n) (g.S.ReadBytes.waiting c.loop-done.space) (g.S.ReadBytes.waiting c.write_range.new.space)) long c.write_range.ensures.only);
    }
