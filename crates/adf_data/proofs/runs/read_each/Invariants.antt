use Rattle.std.proofs.Common.{◌≡◌, take, length}
use Rattle.cg_io.specs.Answers.{OnlyReads}
use Rattle.adf_data.specs.Chunks.{parts_of}
use Rattle.cg_io.specs.Pages.{IsPage}
use Rattle.adf_data.specs.Ranges.{IsSpot}
use Rattle.adf_data.specs.Runs.{run_bytes, RunsRead}
use Rattle.adf_data.proofs.runs.read_each.Given as goal

abbrev pub invariant-loop-i : goal.invariant-loop-i
invariant-loop-i g l = record {
  done : l.done ≡ run_bytes l.element (take l.i l.runs);
  long : length l.into ≡ length l.fn.into;
  sound : g.S.ReadBytes.is_sound l.space;
  image : g.S.ReadBytes.image l.space ≡ g.S.ReadBytes.image l.fn.space;
  waits : g.S.ReadBytes.waiting l.space ≡ g.S.ReadBytes.waiting l.fn.space;
  looks : OnlyReads (g.S.ReadBytes.state l.fn.space) (g.S.ReadBytes.state l.space);
  page : IsPage (g.S.ReadBytes.image l.fn.space) l.page;
  spot : IsSpot (parts_of l.chunks) l.spot;
  read : RunsRead (parts_of l.chunks) l.element (take l.i l.runs) (take l.done l.into) (g.S.ReadBytes.image l.fn.space);
}
