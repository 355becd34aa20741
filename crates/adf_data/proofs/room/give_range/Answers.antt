use Rattle.std.proofs.Common.{◌⊎◌, inl}
use Rattle.cg_io.specs.Answers.{IsUntold}
use Rattle.cg_io.proofs.ReadLaws.{all_refused_for}
use Rattle.file_heap.specs.Heap.{MayGive}
use Rattle.adf_data.proofs.room.give_range.Goals as goal

pub returns-clause-cause : goal.returns-clause-cause
returns-clause-cause g c =
    all_refused_for (IsUntold (g.S.ReadBytes.image c.args.space.now)) (IsUntold (g.S.ReadBytes.image c.args.space.now) ⊎ (MayGive c.args.place c.args.n c.args.heap.now.work.heap → ⊥)) (g.S.ReadBytes.state c.args.space.now).faults (g.S.ReadBytes.state c.give.new.space).faults c.give.result
    (λ u. inl u) c.give.ensures.changes.calls.cause
