use Rattle.std.proofs.Common.{◌≡◌, take, length}
use Rattle.std.specs.List.{All}
use Rattle.adf_format.specs.Placement.{NodeParts}
use Rattle.cg_io.specs.Answers.{OnlyReads}
use Rattle.adf_data.specs.Chunks.{parts_of, IsSane, Named}
use Rattle.adf_data.proofs.chunks.list_several.Given as goal

abbrev pub invariant-loop-number : goal.invariant-loop-number
invariant-loop-number g l = record {
  sound : g.S.ReadBytes.is_sound l.space;
  image : g.S.ReadBytes.image l.space ≡ g.S.ReadBytes.image l.fn.space;
  waits : g.S.ReadBytes.waiting l.space ≡ g.S.ReadBytes.waiting l.fn.space;
  looks : OnlyReads (g.S.ReadBytes.state l.fn.space) (g.S.ReadBytes.state l.space);
  says : (parts : NodeParts) → Named l.at parts (g.S.ReadBytes.image l.fn.space) → parts_of l.chunks.items ≡ take l.number parts.chunks;
  long : length l.chunks.items ≡ l.number;
  sane : All IsSane l.chunks.items;
}
