use Rattle.std.proofs.Common.{◌≡◌, ℕ, ◌+◌, ◌-◌, ◌≤◌, List, length, arith, ◌∙◌, subst, sym}
use Rattle.std.specs.Prelude.{Option}
use Rattle.cg_io.specs.Pages.{IsPage}
use Rattle.adf_format.specs.HeapRule.{payload_length}
use Rattle.adf_data.specs.Chunks.{parts_of}
use Rattle.adf_data.specs.Ranges.{IsRead}
use borrow.Rule.Slice.PartMut.{put_mid}
use Rattle.adf_data.proofs.SpanLaws.{length-put, span_taken}
use Rattle.adf_data.proofs.RunLaws.{runs_more}
use Rattle.cg_io.proofs.ReadLaws.{only_then}
use Rattle.adf_data.proofs.runs.read_each.Goals as goal

pub loop-i-preserved : goal.loop-i-preserved
loop-i-preserved g c =
    let s = c.stretch_at-stretch.ensures in
    let small : c.loop-i.done + c.stretch_at-stretch.result.count ≤ length c.loop-i.into = (let r = s.room in let d = c.loop-i.invariant.done in let l = c.loop-i.invariant.long in let m = c.requires.room in omega (arith, r, d, l, m)) in
    let piece : length c.read_range.new.into ≡ c.stretch_at-stretch.result.count = c.read_range.auto.into ∙ (span_taken c.loop-i.done c.stretch_at-stretch.result.count c.loop-i.into small).1 in
    let long : length (put_mid c.loop-i.done (c.loop-i.done + c.stretch_at-stretch.result.count - c.loop-i.done) c.loop-i.into c.read_range.new.into) ≡ length c.loop-i.into = length-put c.loop-i.done c.stretch_at-stretch.result.count c.loop-i.into c.read_range.new.into piece small in
    record {
      done = (let d = c.loop-i.invariant.done in let m = s.more in omega (arith, d, m));
      long = long ∙ c.loop-i.invariant.long;
      sound = c.read_range.ensures.sound;
      image = c.read_range.ensures.image ∙ c.loop-i.invariant.image;
      waits = c.read_range.ensures.waits ∙ c.loop-i.invariant.waits;
      looks = only_then (g.S.ReadBytes.state c.args.space.now) (g.S.ReadBytes.state c.loop-i.space) (g.S.ReadBytes.state c.read_range.new.space) c.loop-i.invariant.looks c.read_range.ensures.effect;
      page = (let w = c.read_range.ensures.page in let e = c.loop-i.invariant.image in subst (λ (i : Option (List ℕ)). IsPage i c.read_range.new.page) e w);
      spot = c.read_range.ensures.spot;
      read = runs_more (parts_of c.args.chunks.now) c.args.element c.args.runs.now c.loop-i.i c.loop-i.done c.stretch_at-stretch.result.count _ c.loop-i.into c.read_range.new.into (g.S.ReadBytes.image c.args.space.now) (g.S.ReadBytes.image c.loop-i.space)
          c.loop-i.invariant.image c.loop-i-test.true c.loop-i.invariant.read
          (subst (λ f. IsRead (parts_of c.args.chunks.now) f c.stretch_at-stretch.result.count c.read_range.new.into (g.S.ReadBytes.image c.loop-i.space)) s.first
          (subst (λ n. IsRead (parts_of c.args.chunks.now) c.stretch_at-stretch.result.first n c.read_range.new.into (g.S.ReadBytes.image c.loop-i.space)) (span_taken c.loop-i.done c.stretch_at-stretch.result.count c.loop-i.into small).1 c.in_ok-read_range.ensures.read))
          piece s.count (let e = s.ends (payload_length (parts_of c.args.chunks.now)) c.requires.within in let f = s.first in omega (arith, e, f)) small;
    }

pub read_range-requires-clause-page : goal.read_range-requires-clause-page
read_range-requires-clause-page g c = subst (λ (i : Option (List ℕ)). IsPage i c.loop-i.page) (sym c.loop-i.invariant.image) c.loop-i.invariant.page
