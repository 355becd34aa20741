use Rattle.std.proofs.Common.{◌+◌, ◌≤◌, arith, refl}
use Rattle.cg_io.proofs.ReadLaws.{only_then}
use Rattle.adf_data.specs.Chunks.{parts_of}
use Rattle.adf_data.proofs.BlockLaws.{range_waits}
use Rattle.adf_data.proofs.FillLaws.{copies_then, refused_copy}
use Rattle.adf_data.proofs.fills.copy_out.Goals as goal

pub returns-in-Err-clause-bytes : goal.returns-in-Err-clause-bytes
returns-in-Err-clause-bytes g c =
    refused_copy (parts_of c.args.chunks.now) c.args.count c.args.to c.loop-done.done c.block_part-part.result (g.S.ReadBytes.image c.args.space.now) (g.S.ReadBytes.image c.loop-done.space) (g.S.ReadBytes.image c.copy_part.new.space)
    (let f = c.block_part-part.ensures.few in let t = c.loop-done-test.true in omega (arith, f, t)) c.loop-done.invariant.copied c.copy_part.ensures.bytes

pub returns-in-Err-clause-only : goal.returns-in-Err-clause-only
returns-in-Err-clause-only g c = range_waits c.args.to c.args.count (c.args.to + c.loop-done.done) c.block_part-part.result _ _ _ _ (omega arith) (let f = c.block_part-part.ensures.few in let t = c.loop-done-test.true in omega (arith, f, t)) refl c.loop-done.invariant.waits c.copy_part.ensures.only

pub loop-done-preserved : goal.loop-done-preserved
loop-done-preserved g c =
    let small : c.loop-done.done + c.block_part-part.result ≤ c.args.count = (let f = c.block_part-part.ensures.few in let t = c.loop-done-test.true in omega (arith, f, t)) in
    record {
      inside = small;
      sound = c.copy_part.ensures.sound;
      looks = only_then (g.S.ReadBytes.state c.args.space.now) (g.S.ReadBytes.state c.loop-done.space) (g.S.ReadBytes.state c.copy_part.new.space) c.loop-done.invariant.looks c.copy_part.ensures.effect;
      spot = c.copy_part.ensures.spot;
      copied = copies_then (parts_of c.args.chunks.now) c.args.count c.args.to c.loop-done.done c.block_part-part.result (g.S.ReadBytes.image c.args.space.now) (g.S.ReadBytes.image c.loop-done.space) (g.S.ReadBytes.image c.copy_part.new.space)
          small c.requires.within c.loop-done.invariant.copied c.in-Ok.ensures.copied;
      waits = range_waits c.args.to c.args.count (c.args.to + c.loop-done.done) c.block_part-part.result _ _ _ _ (omega arith) (let f = c.block_part-part.ensures.few in let t = c.loop-done-test.true in omega (arith, f, t)) refl c.loop-done.invariant.waits c.copy_part.ensures.only;
    }
