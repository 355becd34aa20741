use Rattle.std.proofs.Common.{◌≡◌, ℕ, take}
use Rattle.std.specs.List.{All}
use Rattle.cg_io.specs.Waits.{WaitsOnly}
use Rattle.cg_io.specs.Blocks.{Both}
use Rattle.cg_io.specs.Answers.{OnlyReads}
use Rattle.adf_data.specs.Chunks.{parts_of}
use Rattle.adf_data.specs.Ranges.{IsSpot, HasByte}
use Rattle.adf_data.specs.Runs.{EndsIn, run_bytes, WritesRuns}
use Rattle.adf_data.proofs.runs.write_each.Given as goal

abbrev pub invariant-loop-i : goal.invariant-loop-i
invariant-loop-i g l = record {
  done : l.done ≡ run_bytes l.element (take l.i l.runs);
  sound : g.S.ReadBytes.is_sound l.space;
  looks : OnlyReads (g.S.ReadBytes.state l.fn.space) (g.S.ReadBytes.state l.space);
  spot : IsSpot (parts_of l.chunks) l.spot;
  written : Both (WritesRuns (parts_of l.chunks) l.element (take l.i l.runs) l.from) (g.S.ReadBytes.image l.fn.space) (g.S.ReadBytes.image l.space);
  waits : (limit : ℕ) → All (EndsIn l.element limit) l.runs → WaitsOnly (HasByte (parts_of l.chunks) 0 limit) (g.S.ReadBytes.waiting l.fn.space) (g.S.ReadBytes.waiting l.space);
}
