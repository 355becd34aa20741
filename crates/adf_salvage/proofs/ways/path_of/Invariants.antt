use Rattle.std.proofs.Common.{◌≡◌, map, take}
use Rattle.adf_format.specs.Fields.{trimmed}
use Rattle.adf_salvage.specs.LeftOut.{way_text}
use Rattle.adf_salvage.proofs.ways.path_of.Given as goal

abbrev pub invariant-loop-k : goal.invariant-loop-k
invariant-loop-k l = record {
  text : l.text.items ≡ way_text (map trimmed (take l.k l.above));
}
