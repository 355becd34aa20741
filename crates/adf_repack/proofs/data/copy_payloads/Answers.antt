use Rattle.std.proofs.Common.{◌≡◌, ◌∙◌, ◌<◌, ◌+◌, ap, refl, sym, Some, arith, subst, Option, IfSome, List, inl, inr, ℕ, length, take}
use Rattle.cg_io.specs.Device.{bytes_at}
use Rattle.adf_records.specs.View.{record_of}
use Rattle.adf_repack.specs.Payloads.{payloads_until, payloads_of, payload_length, chunk_at}
use Rattle.adf_repack.specs.Writers.{appended_in, with_more}
use Rattle.adf_repack.proofs.WriterLaws.{writes_then}
use Rattle.adf_repack.proofs.AppendLaws.{only_then}
use Rattle.adf_repack.proofs.SourceLaws.{reads_then}
use Rattle.adf_repack.proofs.PayloadLaws.{told_of, payload_step, rest_step, some_from, unread_then, broken_chunk}
use Rattle.adf_repack.proofs.data.copy_payloads.Goals as goal

-- where the chunk stands, by the bytes that are told after it is read
chunk_again : (held again : Option (List ℕ)) (P : List ℕ → Type 0) → again ≡ held → IfSome held P → IfSome again P
chunk_again held again P same told = subst (λ o. IfSome o P) (sym same) told

pub returns-in-Err-read_payload-clause-copies : goal.returns-in-Err-read_payload-clause-copies
returns-in-Err-read_payload-clause-copies g c =
    let before = c.loop-number.invariant in
    let read = c.read_chunk.ensures.reads in
    record {
      ready = c.read_payload.ensures.ready;
      reads = reads_then _ _ _ (reads_then _ _ _ before.reads read) c.read_payload.ensures.reads;
      sound = tt;
      appended = tt;
      count = tt;
      wrote = tt;
      effect = before.effect;
      later = before.later;
      lost = before.lost;
      cause = elim c.in-Err-read_payload.ensures.cause [
        | inl unread ↦ inl (unread_then (g.B.Blocks.state c.args.blocks.now) (g.B.Blocks.state c.read_chunk.new.blocks) (g.B.Blocks.state c.read_payload.new.blocks) c.in-Err-read_payload.error (reads_then _ _ _ before.reads read) unread)
        | inr broken ↦ inr (inr (broken_chunk (g.B.Blocks.state c.args.blocks.now).held (g.B.Blocks.state c.read_chunk.new.blocks).held c.args.header.now.wide (record_of c.args.header.now) c.loop-number.number c.in-Ok.chunk c.args.place c.args.size
            c.in-Err-read_payload.error (read.held ∙ before.reads.held) (omega (arith, c.loop-number-test.true)) (chunk_again (g.B.Blocks.state c.loop-number.blocks).held (g.B.Blocks.state c.read_chunk.new.blocks).held (λ image. c.in-Ok.chunk ≡ chunk_at image (record_of c.args.header.now) c.loop-number.number) read.held c.in-Ok.ensures.told) broken))
      ];
    }

pub loop-number-preserved : goal.loop-number-preserved
loop-number-preserved g c =
    let before = c.loop-number.invariant in
    let read = reads_then _ _ _ before.reads c.read_chunk.ensures.reads in
    let all = reads_then _ _ _ read c.read_payload.ensures.reads in
    let put = c.in-Ok-copy_range.ensures in
    let h = record_of c.args.header.now in
    let n = c.loop-number.number in
    let at : (image : List ℕ) → (g.B.Blocks.state c.args.blocks.now).held ≡ Some image → c.in-Ok.chunk ≡ chunk_at image h n
    = λ image e. told_of (g.B.Blocks.state c.loop-number.blocks).held image (λ i. c.in-Ok.chunk ≡ chunk_at i h n) (before.reads.held ∙ e) c.in-Ok.ensures.told in
    let long : (image : List ℕ) → (g.B.Blocks.state c.args.blocks.now).held ≡ Some image → c.in-Ok-read_payload.payload.length ≡ payload_length image c.in-Ok.chunk
    = λ image e. told_of (g.B.Blocks.state c.read_chunk.new.blocks).held image (λ i. c.in-Ok-read_payload.payload.length ≡ payload_length i c.in-Ok.chunk) (read.held ∙ e) c.in-Ok-read_payload.ensures.told in
    record {
      inside = omega (arith, before.inside);
      ready = put.ready;
      reads = reads_then _ _ _ all put.reads;
      sound = put.sound;
      appended = λ image e. payload_step image h n c.in-Ok.chunk c.in-Ok-read_payload.payload.length c.loop-number.left c.args.size c.min-count.result (at image e) (long image e) c.min-count.ensures (before.rest image e)
          (appended_in g.E.Device.state c.args.writer.now) (appended_in g.E.Device.state c.loop-number.writer) (appended_in g.E.Device.state c.copy_range.new.writer) (before.appended image e)
          (put.appended image (all.held ∙ e) ∙ ap (λ p. with_more (appended_in g.E.Device.state c.loop-number.writer) (bytes_at image p c.min-count.result)) c.in-Ok-read_payload.ensures.place);
      rest = λ image e. rest_step image h n c.in-Ok.chunk c.in-Ok-read_payload.payload.length c.loop-number.left c.args.size c.min-count.result (at image e) (long image e) c.min-count.ensures (before.rest image e);
      count = omega (arith, put.count, before.count, c.min-count.ensures);
      wrote = writes_then _ _ _ _ _ _ before.wrote put.wrote;
      effect = only_then _ _ _ before.effect put.effect;
      later = omega (arith, before.later, put.later);
      lost = omega (arith, before.lost, put.lost);
    }

pub returns-then-left-gt0-clause-copies : goal.returns-then-left-gt0-clause-copies
returns-then-left-gt0-clause-copies g c =
    let before = c.loop-number.invariant in
    let end : c.loop-number.number ≡ c.args.header.now.chunks = omega (arith, c.loop-number-test.false, c.loop-number.auto.number-end) in
    record {
      ready = before.ready;
      reads = before.reads;
      sound = tt;
      appended = tt;
      count = tt;
      wrote = tt;
      effect = before.effect;
      later = before.later;
      lost = before.lost;
      cause = inr (inr (record {
        rule = 27;
        place = c.args.place + c.chunk_count_field.result;
        is = refl;
        so = inr (inr (record {
          is = refl;
          stands = ap (λ n. c.args.place + n) c.chunk_count_field.ensures;
          short = some_from (g.B.Blocks.state c.args.blocks.now).held (λ image. length (payloads_of image (record_of c.args.header.now)) < c.args.size)
              (λ image e. let rest = before.rest image e in let all : length (payloads_until image (record_of c.args.header.now) c.loop-number.number) ≡ length (payloads_of image (record_of c.args.header.now)) = ap (λ n. length (payloads_until image (record_of c.args.header.now) n)) end in
              omega (arith, rest, all, c.if-left-gt0.true));
        }));
      }));
    }

pub returns-clause-copies : goal.returns-clause-copies
returns-clause-copies g c =
    let before = c.loop-number.invariant in
    let end : c.loop-number.number ≡ c.args.header.now.chunks = omega (arith, c.loop-number-test.false, c.loop-number.auto.number-end) in
    record {
      ready = before.ready;
      reads = before.reads;
      sound = before.sound;
      appended = λ image e. before.appended image e ∙ ap (λ n. with_more (appended_in g.E.Device.state c.args.writer.now) (take c.args.size (payloads_until image (record_of c.args.header.now) n))) end;
      count = omega (arith, before.count, c.if-left-gt0.false);
      wrote = before.wrote;
      effect = before.effect;
      later = before.later;
      lost = before.lost;
      cause = tt;
    }
