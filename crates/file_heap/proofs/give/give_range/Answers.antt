use Rattle.std.proofs.Common.{◌∷◌, ◌+◌, filter}
use Rattle.adf_format.specs.Tiles.{is_free}
use Rattle.adf_format.specs.HeapRule.{give_joined}
use Rattle.gap_tree.specs.Slots.{gaps_of}
use Rattle.field_access.specs.Fields.{ChangesOnly}
use Rattle.field_access.proofs.WaitLaws.{told_before}
use Rattle.file_heap.specs.Gaps.{give_right}
use Rattle.file_heap.specs.Links.{free_table, range}
use Rattle.file_heap.proofs.Effects.{if_ok}
use Rattle.file_heap.proofs.JoinLaws.{none_left}
use Rattle.file_heap.proofs.JoinSteps.{rest_are, renamed, left_clear, left_changed, left_waited, left_given}
use Rattle.file_heap.proofs.SpaceLaws.{left_changes, left_waits}
use Rattle.file_heap.proofs.give.give_range.Goals as goal

pub returns-in_default-clause-given : goal.returns-in_default-clause-given
returns-in_default-clause-given g c =
    if_ok c.give_right.result
    (λ more h. renamed (give_right c.args.place c.args.n (gaps_of c.args.slots.now.value)) (give_joined c.args.place c.args.n (gaps_of c.args.slots.now.value)) c.args.slots.now.value more.value (g.S.ReadBytes.image c.args.space.now)
    (g.S.ReadBytes.image c.give_right.new.space) (none_left c.args.place c.args.n (gaps_of c.args.slots.now.value) (rw c.deref.ensures at c.in_default.ensures)) h) c.give_right.ensures.given

pub returns-in_err-rest-clause-bytes : goal.returns-in_err-rest-clause-bytes
returns-in_err-rest-clause-bytes g c = left_changes c.args.place c.args.n (gaps_of c.args.slots.now.value) (g.S.ReadBytes.image c.args.space.now) (g.S.ReadBytes.image c.absorb.new.space) c.absorb.ensures.bytes

pub give_right-requires-2-clause-gaps : goal.give_right-requires-2-clause-gaps
give_right-requires-2-clause-gaps g c = rest_are c.in-Some.i (gaps_of c.args.slots.now.value) (gaps_of c.in_ok-rest.rest.value) c.requires.gaps c.in_ok-rest.ensures.gaps

pub give_right-requires-2-clause-apart : goal.give_right-requires-2-clause-apart
give_right-requires-2-clause-apart g c =
    left_clear c.args.place c.args.n c.in-Some.i c.gap_of-gap.result c.args.slots.now.value c.in_ok-rest.rest.value c.requires.gaps c.requires.some c.requires.apart (rw c.deref-2.ensures at c.gap_of-gap.ensures) c.in_ok-rest.ensures.gaps
    (rw c.deref.ensures at c.in-Some.ensures)

pub returns-clause-given : goal.returns-clause-given
returns-clause-given g c =
    if_ok c.give_right-2.result
    (λ more h. left_given c.args.place c.args.n c.in-Some.i c.gap_of-gap.result c.args.slots.now.value c.in_ok-rest.rest.value c.requires.gaps c.requires.some c.requires.apart (rw c.deref-2.ensures at c.gap_of-gap.ensures) c.in_ok-rest.ensures.gaps
    more.value (g.S.ReadBytes.image c.args.space.now) (g.S.ReadBytes.image c.absorb.new.space) (g.S.ReadBytes.image c.give_right-2.new.space) (rw c.deref.ensures at c.in-Some.ensures) c.absorb.ensures.bytes h) c.give_right-2.ensures.given

pub returns-clause-bytes : goal.returns-clause-bytes
returns-clause-bytes g c =
    left_changed c.args.place c.args.n c.in-Some.i c.gap_of-gap.result c.args.slots.now.value c.in_ok-rest.rest.value c.requires.gaps c.requires.some c.requires.apart (rw c.deref-2.ensures at c.gap_of-gap.ensures) c.in_ok-rest.ensures.gaps
    (g.S.ReadBytes.image c.args.space.now) (g.S.ReadBytes.image c.absorb.new.space) (g.S.ReadBytes.image c.give_right-2.new.space) (rw c.deref.ensures at c.in-Some.ensures) c.absorb.ensures.bytes c.give_right-2.ensures.bytes

pub returns-in_err-rest-clause-only : goal.returns-in_err-rest-clause-only
returns-in_err-rest-clause-only g c =
    left_waits (g.S.ReadBytes.image c.args.space.now) c.args.place c.args.n (gaps_of c.args.slots.now.value) (g.S.ReadBytes.waiting c.args.space.now) (g.S.ReadBytes.waiting c.absorb.new.space) c.absorb.ensures.only

pub returns-clause-only : goal.returns-clause-only
returns-clause-only g c =
    left_waited c.args.place c.args.n c.in-Some.i c.gap_of-gap.result c.args.slots.now.value c.in_ok-rest.rest.value c.requires.gaps c.requires.some c.requires.apart (rw c.deref-2.ensures at c.gap_of-gap.ensures) c.in_ok-rest.ensures.gaps
    (g.S.ReadBytes.image c.args.space.now) (g.S.ReadBytes.waiting c.args.space.now) (g.S.ReadBytes.waiting c.absorb.new.space) (g.S.ReadBytes.waiting c.give_right-2.new.space) (rw c.deref.ensures at c.in-Some.ensures) c.absorb.ensures.only
    (told_before (ChangesOnly (free_table ∷ filter is_free (gaps_of c.args.slots.now.value))) (g.S.ReadBytes.image c.args.space.now) (g.S.ReadBytes.image c.absorb.new.space) (free_table ∷ range c.gap_of-gap.result.place (c.gap_of-gap.result.length + c.args.n) ∷ gaps_of c.in_ok-rest.rest.value)
    (g.S.ReadBytes.waiting c.absorb.new.space) (g.S.ReadBytes.waiting c.give_right-2.new.space) c.absorb.ensures.bytes c.give_right-2.ensures.only)
