use Rattle.std.proofs.Common.{◌≡◌, ◌<◌, ◌∙◌, ap, arith, inl, inr, ℕ, List, length, get_or}
use Rattle.layout_lint.specs.Nodes.{table_of}
use Rattle.adf_format.specs.Pointer.{To}
use Rattle.adf_format.specs.Records.{entry_text}
use Rattle.adf_repack.specs.Families.{children_of}
use Rattle.adf_repack.specs.Writers.{appended_in}
use Rattle.adf_repack.proofs.WriterLaws.{writes_then}
use Rattle.adf_repack.proofs.AppendLaws.{only_then}
use Rattle.adf_repack.proofs.SourceLaws.{reads_then}
use Rattle.adf_repack.proofs.PayloadLaws.{unread_then}
use Rattle.adf_repack.proofs.EntryLaws.{broken_name, more, here, inside, on, entry_is, entries_then, entry_size}
use Rattle.adf_repack.proofs.copies.copy_entries.Goals as goal

pub position_of-position-requires : goal.position_of-position-requires
position_of-position-requires g c = inside c.args.nodes.now c.args.number c.loop-done.done c.number_at-done-end.result c.loop-done.child c.args.families.now.next.items c.args.families.now.count.items c.requires.number
    (c.number_at-done-end.ensures ∙ ap (λ (l : List ℕ). get_or l c.args.number 0) c.deref-2.ensures.value) c.requires.children c.loop-done-test.true c.loop-done.invariant.list

pub number_at-requires : goal.number_at-requires
number_at-requires g c =
    let within : c.loop-done.child < length c.args.nodes.now = inside c.args.nodes.now c.args.number c.loop-done.done c.number_at-done-end.result c.loop-done.child c.args.families.now.next.items c.args.families.now.count.items c.requires.number
    (c.number_at-done-end.ensures ∙ ap (λ (l : List ℕ). get_or l c.args.number 0) c.deref-2.ensures.value) c.requires.children c.loop-done-test.true c.loop-done.invariant.list in
    omega (arith, within, c.requires.headers)

pub number_at-child-requires-in-loop-done : goal.number_at-child-requires-in-loop-done
number_at-child-requires-in-loop-done g c =
    let within : c.loop-done.child < length c.args.nodes.now = inside c.args.nodes.now c.args.number c.loop-done.done c.number_at-done-end.result c.loop-done.child c.args.families.now.next.items c.args.families.now.count.items c.requires.number
    (c.number_at-done-end.ensures ∙ ap (λ (l : List ℕ). get_or l c.args.number 0) c.deref-2.ensures.value) c.requires.children c.loop-done-test.true c.loop-done.invariant.list in
    let long : length c.deref-in-loop-done.result.now ≡ length c.args.families.now.next.items = ap length c.deref-in-loop-done.ensures.value in
    omega (arith, within, long, c.requires.next)

pub loop-done-preserved : goal.loop-done-preserved
loop-done-preserved g c =
    let put = c.in-Ok-put_entry.ensures in
    let size = entry_size c.in-Ok.name c.number_at.result c.in-Ok.ensures.long in
    record {
      ready = c.read_name.ensures.ready;
      reads = reads_then _ _ _ c.loop-done.invariant.reads c.read_name.ensures.reads;
      sound = put.sound;
      list = on c.args.nodes.now c.args.number c.loop-done.done c.number_at-done-end.result c.loop-done.child c.args.families.now.next.items c.args.families.now.count.items c.requires.number
          (c.number_at-done-end.ensures ∙ ap (λ (l : List ℕ). get_or l c.args.number 0) c.deref-2.ensures.value) c.requires.children c.loop-done-test.true c.loop-done.invariant.list
          c.number_at-child-in-loop-done.result (c.number_at-child-in-loop-done.ensures ∙ ap (λ (l : List ℕ). get_or l c.loop-done.child 0) c.deref-in-loop-done.ensures.value);
      appended = λ image e. entries_then (appended_in g.E.Device.state c.args.writer.now) (appended_in g.E.Device.state c.loop-done.writer) (appended_in g.E.Device.state c.put_entry.new.writer) image
          (entry_text c.in-Ok.name (To c.number_at.result)) (table_of c.args.header.now) c.loop-done.done c.loop-done.child c.args.nodes.now c.args.headers.now (children_of c.args.nodes.now c.args.number)
          (more c.args.nodes.now c.args.number c.loop-done.done c.number_at-done-end.result c.loop-done.child c.args.families.now.next.items c.args.families.now.count.items c.requires.number
          (c.number_at-done-end.ensures ∙ ap (λ (l : List ℕ). get_or l c.args.number 0) c.deref-2.ensures.value) c.requires.children c.loop-done-test.true c.loop-done.invariant.list) (here c.args.nodes.now c.args.number c.loop-done.done c.number_at-done-end.result c.loop-done.child c.args.families.now.next.items c.args.families.now.count.items c.requires.number
          (c.number_at-done-end.ensures ∙ ap (λ (l : List ℕ). get_or l c.args.number 0) c.deref-2.ensures.value) c.requires.children c.loop-done-test.true c.loop-done.invariant.list) (c.loop-done.invariant.appended image e) put.appended
          (entry_is (g.B.Blocks.state c.loop-done.blocks).held image c.in-Ok.name (table_of c.args.header.now) c.position_of-position.result c.loop-done.child c.number_at.result c.args.nodes.now c.args.headers.now
          (c.loop-done.invariant.reads.held ∙ e) c.in-Ok.ensures.told c.in-Ok.ensures.long c.position_of-position.ensures c.number_at.ensures);
      count = put.count ∙ omega (arith, c.loop-done.invariant.count, size);
      wrote = writes_then _ _ _ _ _ _ c.loop-done.invariant.wrote put.wrote;
      effect = only_then _ _ _ c.loop-done.invariant.effect put.effect;
      later = omega (arith, c.loop-done.invariant.later, put.later);
      lost = omega (arith, c.loop-done.invariant.lost, put.lost);
    }

pub returns-in-Err : goal.returns-in-Err
returns-in-Err g c =
    let before = c.loop-done.invariant in
    record {
      ready = c.read_name.ensures.ready;
      reads = reads_then _ _ _ before.reads c.read_name.ensures.reads;
      sound = tt;
      appended = tt;
      count = tt;
      wrote = tt;
      effect = before.effect;
      later = before.later;
      lost = before.lost;
      cause = elim c.in-Err.ensures.cause [
        | inl unread ↦ inl (unread_then (g.B.Blocks.state c.args.blocks.now) (g.B.Blocks.state c.loop-done.blocks) (g.B.Blocks.state c.read_name.new.blocks) c.in-Err.error before.reads unread)
        | inr broken ↦ inr (inr (broken_name c.args.nodes.now c.args.number c.loop-done.done c.number_at-done-end.result c.loop-done.child c.args.families.now.next.items c.args.families.now.count.items c.requires.number
            (c.number_at-done-end.ensures ∙ ap (λ (l : List ℕ). get_or l c.args.number 0) c.deref-2.ensures.value) c.requires.children c.loop-done-test.true before.list
            (table_of c.args.header.now) c.position_of-position.result c.in-Err.error c.position_of-position.ensures broken))
      ];
    }
