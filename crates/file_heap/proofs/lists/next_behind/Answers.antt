use Rattle.std.proofs.Common.{ap, subst, ◌+◌}
use Rattle.adf_format.specs.declared.types.Extent.{Extent}
use Rattle.file_heap.specs.Links.{PointsNowhere, Follows}
use Rattle.cg_io.specs.Answers.{IsUntold}
use Rattle.file_heap.proofs.Effects.{all_refused_for, if_ok}
use Rattle.file_heap.proofs.SpotLaws.{next_begins, reads_pointer}
use Rattle.file_heap.proofs.lists.next_behind.Goals as goal

pub returns-clause-begins : goal.returns-clause-begins
returns-clause-begins g c =
    if_ok c.read_link.result
    (λ next follows. next_begins c.args.slots.now c.args.i c.args._spot c.requires.gaps c.requires.inside c.requires.free c.requires.spot (g.S.ReadBytes.image c.args.space.now) next c.requires.threads
    (subst (λ (x : Extent). Follows (g.S.ReadBytes.image c.args.space.now) (x.place + 16) next) c.gap_of.ensures follows)) c.read_link.ensures.told

pub returns-clause-cause : goal.returns-clause-cause
returns-clause-cause g c =
    all_refused_for (PointsNowhere (g.S.ReadBytes.image c.args.space.now) (c.gap_of.result.place + 16)) (IsUntold (g.S.ReadBytes.image c.args.space.now)) (g.S.ReadBytes.state c.args.space.now).faults (g.S.ReadBytes.state c.read_link.new.space).faults c.read_link.result
    (reads_pointer c.args.slots.now c.args.i c.args._spot c.requires.gaps c.requires.inside c.requires.free c.requires.spot (g.S.ReadBytes.image c.args.space.now) c.gap_of.result.place (ap (λ (x : Extent). x.place) c.gap_of.ensures) c.requires.threads) c.read_link.ensures.cause
