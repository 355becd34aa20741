use Rattle.std.proofs.Common.{◌+◌}
use Rattle.adf_format.specs.HeapRule.{new_gap}
use Rattle.gap_tree.specs.Slots.{gaps_of}
use Rattle.file_heap.specs.Gaps.{put_by_place, give_right}
use Rattle.file_heap.proofs.Effects.{if_ok}
use Rattle.file_heap.proofs.JoinLaws.{none_right}
use Rattle.file_heap.proofs.JoinSteps.{rest_are, renamed, right_clear, right_changes, right_waits, right_given}
use Rattle.file_heap.proofs.SpaceLaws.{alone_changes, left_changes, left_waits}
use Rattle.file_heap.proofs.give.give_right.Goals as goal

pub returns-in_default-clause-given : goal.returns-in_default-clause-given
returns-in_default-clause-given g c =
    if_ok c.give_alone.result
    (λ more h. renamed (put_by_place (new_gap c.args.place c.args.n) (gaps_of c.args.slots.now.value)) (give_right c.args.place c.args.n (gaps_of c.args.slots.now.value)) c.args.slots.now.value more.value (g.S.ReadBytes.image c.args.space.now)
    (g.S.ReadBytes.image c.give_alone.new.space) (none_right c.args.place c.args.n (gaps_of c.args.slots.now.value) (rw c.deref.ensures at c.in_default.ensures)) h) c.give_alone.ensures.given

pub returns-in_err-rest-clause-bytes : goal.returns-in_err-rest-clause-bytes
returns-in_err-rest-clause-bytes g c = left_changes c.args.place c.args.n (gaps_of c.args.slots.now.value) (g.S.ReadBytes.image c.args.space.now) (g.S.ReadBytes.image c.absorb.new.space) c.absorb.ensures.bytes

pub give_alone-requires-2-clause-gaps : goal.give_alone-requires-2-clause-gaps
give_alone-requires-2-clause-gaps g c = rest_are c.in-Some.i (gaps_of c.args.slots.now.value) (gaps_of c.in_ok-rest.rest.value) c.requires.gaps c.in_ok-rest.ensures.gaps

pub give_alone-requires-2-clause-apart : goal.give_alone-requires-2-clause-apart
give_alone-requires-2-clause-apart g c =
    right_clear c.args.place c.args.n c.in-Some.i c.gap_of-length.result c.args.slots.now.value c.in_ok-rest.rest.value c.requires.gaps c.requires.some c.requires.apart (rw c.deref-2.ensures at c.gap_of-length.ensures) c.in_ok-rest.ensures.gaps
    (rw c.deref.ensures at c.in-Some.ensures)

pub returns-clause-given : goal.returns-clause-given
returns-clause-given g c =
    if_ok c.give_alone-2.result
    (λ more h. right_given c.args.place c.args.n c.in-Some.i c.gap_of-length.result c.args.slots.now.value c.in_ok-rest.rest.value c.requires.gaps c.requires.some c.requires.apart (rw c.deref-2.ensures at c.gap_of-length.ensures) c.in_ok-rest.ensures.gaps
    more.value (g.S.ReadBytes.image c.args.space.now) (g.S.ReadBytes.image c.absorb.new.space) (g.S.ReadBytes.image c.give_alone-2.new.space) (rw c.deref.ensures at c.in-Some.ensures) c.absorb.ensures.bytes h) c.give_alone-2.ensures.given

pub returns-clause-bytes : goal.returns-clause-bytes
returns-clause-bytes g c =
    right_changes c.args.place c.args.n c.in-Some.i c.gap_of-length.result c.args.slots.now.value c.in_ok-rest.rest.value c.requires.gaps c.requires.some c.requires.apart (rw c.deref-2.ensures at c.gap_of-length.ensures) c.in_ok-rest.ensures.gaps
    (g.S.ReadBytes.image c.args.space.now) (g.S.ReadBytes.image c.absorb.new.space) (g.S.ReadBytes.image c.give_alone-2.new.space) (rw c.deref.ensures at c.in-Some.ensures) c.absorb.ensures.bytes
    (alone_changes c.args.place (c.args.n + c.gap_of-length.result.length) (gaps_of c.in_ok-rest.rest.value) (g.S.ReadBytes.image c.absorb.new.space) (g.S.ReadBytes.image c.give_alone-2.new.space) c.give_alone-2.ensures.bytes)

pub returns-in_err-rest-clause-only : goal.returns-in_err-rest-clause-only
returns-in_err-rest-clause-only g c =
    left_waits (g.S.ReadBytes.image c.args.space.now) c.args.place c.args.n (gaps_of c.args.slots.now.value) (g.S.ReadBytes.waiting c.args.space.now) (g.S.ReadBytes.waiting c.absorb.new.space) c.absorb.ensures.only

pub returns-clause-only : goal.returns-clause-only
returns-clause-only g c =
    right_waits c.args.place c.args.n c.in-Some.i c.gap_of-length.result c.args.slots.now.value c.in_ok-rest.rest.value c.requires.gaps c.requires.some c.requires.apart (rw c.deref-2.ensures at c.gap_of-length.ensures) c.in_ok-rest.ensures.gaps
    (g.S.ReadBytes.image c.args.space.now) (g.S.ReadBytes.waiting c.args.space.now) (g.S.ReadBytes.waiting c.absorb.new.space) (g.S.ReadBytes.waiting c.give_alone-2.new.space) (rw c.deref.ensures at c.in-Some.ensures) c.absorb.ensures.only c.give_alone-2.ensures.only
