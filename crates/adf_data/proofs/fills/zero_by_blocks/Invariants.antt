use Rattle.std.proofs.Common.{◌≤◌, ◌-◌}
use Rattle.cg_io.specs.Blocks.{Both}
use Rattle.cg_io.specs.Answers.{OnlyReads}
use Rattle.adf_data.specs.Chunks.{parts_of}
use Rattle.cg_io.specs.Waits.{WaitsOnly}
use Rattle.adf_data.specs.Ranges.{IsSpot, HasByte}
use Rattle.adf_data.specs.Fills.{ZeroesBytes}
use Rattle.adf_data.proofs.fills.zero_by_blocks.Given as goal

abbrev pub invariant-loop-done : goal.invariant-loop-done
invariant-loop-done g l = record {
  inside : l.done ≤ l.count;
  sound : g.S.ReadBytes.is_sound l.space;
  looks : OnlyReads (g.S.ReadBytes.state l.fn.space) (g.S.ReadBytes.state l.space);
  spot : IsSpot (parts_of l.chunks) l.spot;
  zeroed : Both (ZeroesBytes (parts_of l.chunks) l.first l.done) (g.S.ReadBytes.image l.fn.space) (g.S.ReadBytes.image l.space);
  waits : WaitsOnly (HasByte (parts_of l.chunks) l.first l.count) (g.S.ReadBytes.waiting l.fn.space) (g.S.ReadBytes.waiting l.space);
}

abbrev pub decreases-loop-done : goal.decreases-loop-done
decreases-loop-done g l = l.count - l.done
