use Rattle.std.proofs.Common.{◌+◌, ◌≤◌, length, arith, subst}
use Rattle.cg_io.specs.Blocks.{Both, KeepsOutside}
use Rattle.adf_data.specs.Chunks.{parts_of}
use Rattle.adf_data.proofs.BlockLaws.{span_waits}
use Rattle.adf_data.proofs.SpanLaws.{written_more, refused_more, span_taken}
use Rattle.cg_io.proofs.ReadLaws.{only_then}
use Rattle.adf_data.proofs.ranges.write_range.Goals as goal

pub returns-in_err-store-clause-bytes : goal.returns-in_err-store-clause-bytes
returns-in_err-store-clause-bytes g c =
    let small : c.loop-done.done + c.span_at-span.result.length ≤ length c.args.from.now = (let f = c.span_at-span.ensures.span.few in let t = c.loop-done-test.true in omega (arith, f, t)) in
    let taken = span_taken c.loop-done.done c.span_at-span.result.length c.args.from.now small in
    refused_more (parts_of c.args.chunks.now) c.args.first c.loop-done.done c.span_at-span.result.length (length c.args.from.now) c.span_at-span.result.place c.args.from.now (g.S.ReadBytes.image c.args.space.now) (g.S.ReadBytes.image c.loop-done.space) (g.S.ReadBytes.image c.store.new.space)
    c.loop-done.invariant.written (subst (λ n. Both (KeepsOutside c.span_at-span.result.place n) (g.S.ReadBytes.image c.loop-done.space) (g.S.ReadBytes.image c.store.new.space)) taken.1 c.store.ensures.bytes) small c.span_at-span.ensures.span.stands

pub loop-done-preserved : goal.loop-done-preserved
loop-done-preserved g c =
    let small : c.loop-done.done + c.span_at-span.result.length ≤ length c.args.from.now = (let f = c.span_at-span.ensures.span.few in let t = c.loop-done-test.true in omega (arith, f, t)) in
    let taken = span_taken c.loop-done.done c.span_at-span.result.length c.args.from.now small in
    record {
      inside = small;
      sound = c.store.ensures.sound;
      looks = only_then (g.S.ReadBytes.state c.args.space.now) (g.S.ReadBytes.state c.loop-done.space) (g.S.ReadBytes.state c.store.new.space) c.loop-done.invariant.looks c.store.ensures.effect;
      spot = c.span_at-span.ensures.spot;
      written = written_more (parts_of c.args.chunks.now) c.args.first c.loop-done.done c.span_at-span.result.length c.span_at-span.result.place c.args.from.now _ (g.S.ReadBytes.image c.args.space.now) (g.S.ReadBytes.image c.loop-done.space) (g.S.ReadBytes.image c.store.new.space)
          c.loop-done.invariant.written c.in_ok-store.ensures.written taken.1 taken.0 (let w = c.requires.within in omega (arith, w, small)) c.span_at-span.ensures.span.stands;
      waits = span_waits (parts_of c.args.chunks.now) c.args.first c.loop-done.done c.span_at-span.result.length (length c.args.from.now) c.span_at-span.result.place _ _ _ _ small c.requires.within c.span_at-span.ensures.span.stands taken.1 c.loop-done.invariant.waits c.store.ensures.only;
    }

pub returns-in_err-store-clause-only : goal.returns-in_err-store-clause-only
returns-in_err-store-clause-only g c =
    let small : c.loop-done.done + c.span_at-span.result.length ≤ length c.args.from.now = (let f = c.span_at-span.ensures.span.few in let t = c.loop-done-test.true in omega (arith, f, t)) in
    let taken = span_taken c.loop-done.done c.span_at-span.result.length c.args.from.now small in
    span_waits (parts_of c.args.chunks.now) c.args.first c.loop-done.done c.span_at-span.result.length (length c.args.from.now) c.span_at-span.result.place _ _ _ _ small c.requires.within c.span_at-span.ensures.span.stands taken.1 c.loop-done.invariant.waits c.store.ensures.only
