use Rattle.gap_tree.specs.Slots.{gaps_of}
use Rattle.file_heap.proofs.Effects.{if_both, or_made}
use Rattle.file_heap.proofs.CutSteps.{cut_becomes, whole_becomes}
use Rattle.file_heap.proofs.JoinSteps.{rest_are}
use Rattle.file_heap.proofs.SpaceLaws.{cut_changes, cut_waits}
use Rattle.file_heap.proofs.take.cut_front.Goals as goal

pub returns-clause-taken : goal.returns-clause-taken
returns-clause-taken g c =
    or_made _ c.join_at.result c.or_memory.result c.or_memory.ensures.made
    (if_both c.join_at.result
    (λ joined e chunks. cut_becomes c.args.n c.args.i c.gap_of-gap.result c.args.slots.now.value c.in_ok-rest.rest.value c.requires.gaps c.requires.fit (rw c.deref.ensures at c.gap_of-gap.ensures) c.in_ok-rest.ensures.gaps c.if-gap-n.false c.requires.some
    c.in_ok-more.more.value c.in_ok-more.ensures.given.are joined.value (g.S.ReadBytes.image c.args.space.now) (g.S.ReadBytes.image c.absorb.new.space) (g.S.ReadBytes.image c.give_alone.new.space) c.absorb.ensures.bytes c.in_ok-more.ensures.given e chunks)
    c.join_at.ensures.gaps c.join_at.ensures.chunks)

pub returns-then-gap-n-clause-taken : goal.returns-then-gap-n-clause-taken
returns-then-gap-n-clause-taken g c =
    whole_becomes c.args.n c.args.i c.gap_of-gap.result c.args.slots.now.value c.in_ok-rest.rest.value (g.S.ReadBytes.image c.args.space.now) (g.S.ReadBytes.image c.absorb.new.space) c.requires.gaps c.requires.fit
    (rw c.deref.ensures at c.gap_of-gap.ensures) c.in_ok-rest.ensures.gaps c.if-gap-n.true c.in_ok-rest.ensures.threads c.absorb.ensures.bytes

pub give_alone-requires-clause-gaps : goal.give_alone-requires-clause-gaps
give_alone-requires-clause-gaps g c = rest_are c.args.i (gaps_of c.args.slots.now.value) (gaps_of c.in_ok-rest.rest.value) c.requires.gaps c.in_ok-rest.ensures.gaps

pub returns-in_err-more-clause-bytes : goal.returns-in_err-more-clause-bytes
returns-in_err-more-clause-bytes g c =
    cut_changes (gaps_of c.args.slots.now.value) c.args.i c.args.n c.gap_of-gap.result (g.S.ReadBytes.image c.args.space.now) (g.S.ReadBytes.image c.absorb.new.space) (g.S.ReadBytes.image c.give_alone.new.space)
    (rw c.deref.ensures at c.gap_of-gap.ensures) c.requires.gaps c.requires.fit c.absorb.ensures.bytes c.give_alone.ensures.bytes

pub returns-clause-bytes : goal.returns-clause-bytes
returns-clause-bytes g c =
    cut_changes (gaps_of c.args.slots.now.value) c.args.i c.args.n c.gap_of-gap.result (g.S.ReadBytes.image c.args.space.now) (g.S.ReadBytes.image c.absorb.new.space) (g.S.ReadBytes.image c.give_alone.new.space)
    (rw c.deref.ensures at c.gap_of-gap.ensures) c.requires.gaps c.requires.fit c.absorb.ensures.bytes c.give_alone.ensures.bytes

pub returns-in_err-more-clause-only : goal.returns-in_err-more-clause-only
returns-in_err-more-clause-only g c =
    cut_waits (g.S.ReadBytes.image c.args.space.now) (gaps_of c.args.slots.now.value) c.args.i c.args.n c.gap_of-gap.result (g.S.ReadBytes.waiting c.args.space.now) (g.S.ReadBytes.waiting c.absorb.new.space) (g.S.ReadBytes.waiting c.give_alone.new.space)
    (rw c.deref.ensures at c.gap_of-gap.ensures) c.requires.gaps c.requires.fit c.absorb.ensures.only c.give_alone.ensures.only

pub returns-clause-only : goal.returns-clause-only
returns-clause-only g c =
    cut_waits (g.S.ReadBytes.image c.args.space.now) (gaps_of c.args.slots.now.value) c.args.i c.args.n c.gap_of-gap.result (g.S.ReadBytes.waiting c.args.space.now) (g.S.ReadBytes.waiting c.absorb.new.space) (g.S.ReadBytes.waiting c.give_alone.new.space)
    (rw c.deref.ensures at c.gap_of-gap.ensures) c.requires.gaps c.requires.fit c.absorb.ensures.only c.give_alone.ensures.only
