use Rattle.std.proofs.Common.{◌+◌, ◌≤◌, length, arith, subst}
use Rattle.cg_io.specs.Blocks.{Both}
use Rattle.adf_format.specs.HeapRule.{payload_length}
use Rattle.adf_data.specs.Chunks.{parts_of}
use Rattle.cg_io.specs.Waits.{WaitsOnly}
use Rattle.adf_data.specs.Ranges.{ChangesBytes, HasByte}
use Rattle.cg_io.proofs.ReadLaws.{only_then}
use Rattle.adf_data.proofs.BlockLaws.{part_waits}
use Rattle.adf_data.proofs.SpanLaws.{span_taken}
use Rattle.adf_data.proofs.WriteLaws.{runs_written, refused_changes}
use Rattle.adf_data.proofs.runs.write_each.Goals as goal

pub returns-in-Err-clause-bytes : goal.returns-in-Err-clause-bytes
returns-in-Err-clause-bytes g c =
    let s = c.stretch_at-stretch.ensures in
    let small : c.loop-i.done + c.stretch_at-stretch.result.count ≤ length c.args.from.now = (let r = s.room in let d = c.loop-i.invariant.done in let m = c.requires.room in omega (arith, r, d, m)) in
    refused_changes (parts_of c.args.chunks.now) c.args.element _ c.args.from.now c.stretch_at-stretch.result.first c.stretch_at-stretch.result.count (g.S.ReadBytes.image c.args.space.now) (g.S.ReadBytes.image c.loop-i.space) (g.S.ReadBytes.image c.write_range.new.space)
    c.loop-i.invariant.written
    (subst (λ n. Both (ChangesBytes (parts_of c.args.chunks.now) c.stretch_at-stretch.result.first n) (g.S.ReadBytes.image c.loop-i.space) (g.S.ReadBytes.image c.write_range.new.space)) (span_taken c.loop-i.done c.stretch_at-stretch.result.count c.args.from.now small).1 c.write_range.ensures.bytes)
    (s.ends (payload_length (parts_of c.args.chunks.now)) c.requires.within)

pub loop-i-preserved : goal.loop-i-preserved
loop-i-preserved g c =
    let s = c.stretch_at-stretch.ensures in
    let small : c.loop-i.done + c.stretch_at-stretch.result.count ≤ length c.args.from.now = (let r = s.room in let d = c.loop-i.invariant.done in let m = c.requires.room in omega (arith, r, d, m)) in
    let taken = span_taken c.loop-i.done c.stretch_at-stretch.result.count c.args.from.now small in
    record {
      done = (let d = c.loop-i.invariant.done in let m = s.more in omega (arith, d, m));
      sound = c.write_range.ensures.sound;
      looks = only_then (g.S.ReadBytes.state c.args.space.now) (g.S.ReadBytes.state c.loop-i.space) (g.S.ReadBytes.state c.write_range.new.space) c.loop-i.invariant.looks c.write_range.ensures.effect;
      spot = c.write_range.ensures.spot;
      written = runs_written (parts_of c.args.chunks.now) c.args.element c.args.runs.now c.loop-i.i c.args.from.now _ c.stretch_at-stretch.result.first c.loop-i.done c.stretch_at-stretch.result.count (g.S.ReadBytes.image c.args.space.now) (g.S.ReadBytes.image c.loop-i.space) (g.S.ReadBytes.image c.write_range.new.space)
          c.loop-i-test.true c.loop-i.invariant.written c.in-Ok.ensures.written s.first s.count taken.0 taken.1 c.loop-i.invariant.done small (s.ends (payload_length (parts_of c.args.chunks.now)) c.requires.within);
      waits = λ limit ends. part_waits (parts_of c.args.chunks.now) c.stretch_at-stretch.result.first c.stretch_at-stretch.result.count 0 limit _ _ _ (omega arith) (let e = s.ends limit ends in omega (arith, e)) (c.loop-i.invariant.waits limit ends) (subst (λ n. WaitsOnly (HasByte (parts_of c.args.chunks.now) c.stretch_at-stretch.result.first n) (g.S.ReadBytes.waiting c.loop-i.space) (g.S.ReadBytes.waiting c.write_range.new.space)) taken.1 c.write_range.ensures.only);
    }

pub returns-in-Err-clause-only : goal.returns-in-Err-clause-only
returns-in-Err-clause-only g c = λ limit ends.
    let s = c.stretch_at-stretch.ensures in
    let small : c.loop-i.done + c.stretch_at-stretch.result.count ≤ length c.args.from.now = (let r = s.room in let d = c.loop-i.invariant.done in let m = c.requires.room in omega (arith, r, d, m)) in
    let taken = span_taken c.loop-i.done c.stretch_at-stretch.result.count c.args.from.now small in
    part_waits (parts_of c.args.chunks.now) c.stretch_at-stretch.result.first c.stretch_at-stretch.result.count 0 limit _ _ _ (omega arith) (let e = s.ends limit ends in omega (arith, e)) (c.loop-i.invariant.waits limit ends) (subst (λ n. WaitsOnly (HasByte (parts_of c.args.chunks.now) c.stretch_at-stretch.result.first n) (g.S.ReadBytes.waiting c.loop-i.space) (g.S.ReadBytes.waiting c.write_range.new.space)) taken.1 c.write_range.ensures.only)
