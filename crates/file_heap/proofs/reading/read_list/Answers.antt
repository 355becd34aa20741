use Rattle.std.proofs.Common.{◌∙◌, ◌+◌, ◌-◌, ◌*◌, arith}
use Rattle.std.specs.Prelude.{Some}
use Rattle.gap_tree.specs.Slots.{gaps_of}
use Rattle.cg_io.proofs.ReadLaws.{reads_then}
use Rattle.file_heap.proofs.ReadLaws.{walk_step}
use Rattle.file_heap.proofs.SlotLaws.{moved_gaps}
use Rattle.file_heap.proofs.reading.read_list.Goals as goal

pub loop-chunks-preserved : goal.loop-chunks-preserved
loop-chunks-preserved g c = record {
  sound = c.read_link.ensures.sound;
  image = c.read_link.ensures.image ∙ c.loop-chunks.invariant.image;
  waits = c.read_link.ensures.waiting ∙ c.loop-chunks.invariant.waits;
  more = (let le = c.loop-chunks.invariant.more in omega (arith, le));
  effect = reads_then (2 * (c.loop-chunks.chunks - c.args.read.now.chunks)) 2 (2 * (c.loop-chunks.chunks + 1 - c.args.read.now.chunks)) (g.S.ReadBytes.state c.args.space.now) (g.S.ReadBytes.state c.loop-chunks.space) (g.S.ReadBytes.state c.read_link.new.space)
      c.loop-chunks.invariant.effect c.read_link.ensures.effect (let le = c.loop-chunks.invariant.more in omega (arith, le));
  head = omega (arith, c.if-next-gt-LAST_HEAD.false);
  gaps = moved_gaps (Some c.in-Some.next) (record { list = c.args.list; front = c.loop-chunks.front }) c.loop-chunks.slots.value c.in_ok-slots-2.slots.value c.in_ok-slots-2.ensures.moves ∙ c.loop-chunks.invariant.gaps;
  walked = walk_step c.args.list (gaps_of c.args.read.now.slots.value) c.loop-chunks.front c.loop-chunks.chunks (g.S.ReadBytes.image c.args.space.now) (g.S.ReadBytes.image c.loop-chunks.space) c.loop-chunks.slots.value c.in_ok-slots-2.slots.value
      c.link_at.result c.in_ok-next.field-0 c.in-Some.next c.loop-chunks.invariant.image c.link_at.ensures.place c.in-Some.is c.loop-chunks.invariant.gaps c.requires.gaps c.loop-chunks.invariant.walked c.in_ok-next.ensures.told c.in_ok-slots-2.ensures.moves;
}
