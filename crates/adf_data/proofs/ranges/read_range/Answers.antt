use Rattle.std.proofs.Common.{◌≡◌, ℕ, ◌+◌, ◌≤◌, ◌-◌, List, length, arith, ◌∙◌, subst, sym}
use Rattle.std.specs.Prelude.{Option}
use Rattle.cg_io.specs.Pages.{IsPage}
use Rattle.adf_data.specs.Chunks.{parts_of}
use borrow.Rule.Slice.PartMut.{put_mid}
use Rattle.adf_data.proofs.SpanLaws.{read_more, length-put, span_taken}
use Rattle.cg_io.proofs.ReadLaws.{only_then}
use Rattle.adf_data.proofs.ranges.read_range.Goals as goal

pub loop-done-preserved : goal.loop-done-preserved
loop-done-preserved g c =
    let small : c.loop-done.done + c.piece_length-count.result ≤ length c.loop-done.into = (let f = c.span_at-span.ensures.span.few in let p = c.piece_length-count.ensures.few in let t = c.loop-done-test.true in omega (arith, f, p, t)) in
    let piece : length c.load_piece.new.into ≡ c.piece_length-count.result = c.load_piece.auto.into ∙ (span_taken c.loop-done.done c.piece_length-count.result c.loop-done.into small).1 in
    let long : length (put_mid c.loop-done.done (c.loop-done.done + c.piece_length-count.result - c.loop-done.done) c.loop-done.into c.load_piece.new.into) ≡ length c.loop-done.into = length-put c.loop-done.done c.piece_length-count.result c.loop-done.into c.load_piece.new.into piece small in
    record {
      inside = (let l = long in omega (arith, l, small));
      long = long ∙ c.loop-done.invariant.long;
      sound = c.load_piece.ensures.sound;
      image = c.load_piece.ensures.image ∙ c.loop-done.invariant.image;
      waits = c.load_piece.ensures.waits ∙ c.loop-done.invariant.waits;
      looks = only_then (g.S.ReadBytes.state c.args.space.now) (g.S.ReadBytes.state c.loop-done.space) (g.S.ReadBytes.state c.load_piece.new.space) c.loop-done.invariant.looks c.load_piece.ensures.effect;
      page = (let w = c.load_piece.ensures.page in let e = c.loop-done.invariant.image in subst (λ (i : Option (List ℕ)). IsPage i c.load_piece.new.page) e w);
      spot = c.span_at-span.ensures.spot;
      read = read_more (parts_of c.args.chunks.now) c.args.first c.loop-done.done c.piece_length-count.result _ c.span_at-span.result.place c.loop-done.into c.load_piece.new.into (g.S.ReadBytes.image c.args.space.now) (g.S.ReadBytes.image c.loop-done.space)
          c.loop-done.invariant.image c.loop-done.invariant.read c.in_ok-load_piece.ensures.told piece small (λ j lt. c.span_at-span.ensures.span.stands j (let p = c.piece_length-count.ensures.few in omega (arith, p, lt)));
    }

pub load_piece-requires-clause-page : goal.load_piece-requires-clause-page
load_piece-requires-clause-page g c = subst (λ (i : Option (List ℕ)). IsPage i c.loop-done.page) (sym c.loop-done.invariant.image) c.loop-done.invariant.page

pub load_piece-requires-clause-some : goal.load_piece-requires-clause-some
load_piece-requires-clause-some g c =
    let small : c.loop-done.done + c.piece_length-count.result ≤ length c.loop-done.into = (let f = c.span_at-span.ensures.span.few in let p = c.piece_length-count.ensures.few in let t = c.loop-done-test.true in omega (arith, f, p, t)) in
    let taken = (span_taken c.loop-done.done c.piece_length-count.result c.loop-done.into small).1 in let s = c.piece_length-count.ensures.some in omega (arith, taken, s)
