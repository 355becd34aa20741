use Rattle.std.proofs.Common.{◌≡◌, ◌≤◌, ◌-◌, length}
use Rattle.cg_io.specs.Answers.{OnlyReads}
use Rattle.adf_data.specs.Chunks.{parts_of}
use Rattle.cg_io.specs.Pages.{IsPage}
use Rattle.adf_data.specs.Ranges.{IsSpot, IsRead}
use Rattle.adf_data.proofs.ranges.read_range.Given as goal

abbrev pub invariant-loop-done : goal.invariant-loop-done
invariant-loop-done g l = record {
  inside : l.done ≤ length l.into;
  long : length l.into ≡ length l.fn.into;
  sound : g.S.ReadBytes.is_sound l.space;
  image : g.S.ReadBytes.image l.space ≡ g.S.ReadBytes.image l.fn.space;
  waits : g.S.ReadBytes.waiting l.space ≡ g.S.ReadBytes.waiting l.fn.space;
  looks : OnlyReads (g.S.ReadBytes.state l.fn.space) (g.S.ReadBytes.state l.space);
  page : IsPage (g.S.ReadBytes.image l.fn.space) l.page;
  spot : IsSpot (parts_of l.chunks) l.spot;
  read : IsRead (parts_of l.chunks) l.first l.done l.into (g.S.ReadBytes.image l.fn.space);
}

abbrev pub decreases-loop-done : goal.decreases-loop-done
decreases-loop-done g l = length l.into - l.done
