use Rattle.std.proofs.Common.{◌+◌, arith, refl}
use Rattle.cg_io.proofs.ReadLaws.{only_then}
use Rattle.adf_data.proofs.BlockLaws.{range_waits}
use Rattle.adf_data.proofs.FillLaws.{fills_then, refused_fill}
use Rattle.adf_data.proofs.fills.fill.Goals as goal

pub returns-in-Err-clause-bytes : goal.returns-in-Err-clause-bytes
returns-in-Err-clause-bytes g c =
    refused_fill c.args.place c.loop-done.done c.block_part-part.result c.args.count (g.S.ReadBytes.image c.args.space.now) (g.S.ReadBytes.image c.loop-done.space) (g.S.ReadBytes.image c.fill_part.new.space)
    (let f = c.block_part-part.ensures.few in let t = c.loop-done-test.true in omega (arith, f, t)) c.loop-done.invariant.filled c.fill_part.ensures.bytes

pub returns-in-Err-clause-only : goal.returns-in-Err-clause-only
returns-in-Err-clause-only g c = range_waits c.args.place c.args.count (c.args.place + c.loop-done.done) c.block_part-part.result _ _ _ _ (omega arith) (let f = c.block_part-part.ensures.few in let t = c.loop-done-test.true in omega (arith, f, t)) refl c.loop-done.invariant.waits c.fill_part.ensures.only

pub loop-done-preserved : goal.loop-done-preserved
loop-done-preserved g c = record {
  inside = (let f = c.block_part-part.ensures.few in let t = c.loop-done-test.true in omega (arith, f, t));
  sound = c.fill_part.ensures.sound;
  looks = only_then (g.S.ReadBytes.state c.args.space.now) (g.S.ReadBytes.state c.loop-done.space) (g.S.ReadBytes.state c.fill_part.new.space) c.loop-done.invariant.looks c.fill_part.ensures.effect;
  filled = fills_then c.args.place c.loop-done.done c.block_part-part.result (g.S.ReadBytes.image c.args.space.now) (g.S.ReadBytes.image c.loop-done.space) (g.S.ReadBytes.image c.fill_part.new.space) c.loop-done.invariant.filled c.in-Ok.ensures.filled;
  waits = range_waits c.args.place c.args.count (c.args.place + c.loop-done.done) c.block_part-part.result _ _ _ _ (omega arith) (let f = c.block_part-part.ensures.few in let t = c.loop-done-test.true in omega (arith, f, t)) refl c.loop-done.invariant.waits c.fill_part.ensures.only;
}
