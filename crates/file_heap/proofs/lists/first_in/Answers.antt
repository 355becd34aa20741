use Rattle.std.proofs.Common.{subst}
use Rattle.file_heap.specs.Links.{PointsNowhere, ThreadsNone, number_of}
use Rattle.file_heap.proofs.Effects.{all_refused_for}
use Rattle.file_heap.proofs.PushLaws.{nowhere_threads}
use Rattle.file_heap.proofs.SpotLaws.{number_few}
use Rattle.file_heap.proofs.lists.first_in.Goals as goal

pub returns-clause-cause : goal.returns-clause-cause
returns-clause-cause g c =
    all_refused_for (PointsNowhere (g.S.ReadBytes.image c.args.space.now) c.first_at.result) (ThreadsNone (g.S.ReadBytes.image c.args.space.now)) (g.S.ReadBytes.state c.args.space.now).faults (g.S.ReadBytes.state c.read_link.new.space).faults c.read_link.result
    (λ nowhere. nowhere_threads (g.S.ReadBytes.image c.args.space.now) (number_of c.args.list) (number_few c.args.list) (subst (PointsNowhere (g.S.ReadBytes.image c.args.space.now)) c.first_at.ensures.place nowhere)) c.read_link.ensures.cause
