use Rattle.std.proofs.Common.{◌≡◌, ◌^◌, take}
use Rattle.std.specs.List.{All, flat_map}
use Rattle.strided.specs.RunLists.{spread, AreMaximal, EndsWithin}
use Rattle.strided.specs.Axes.{row_of}
use Rattle.strided.proofs.selected.runs_of_rows.Given as goal

abbrev pub invariant-loop-run : goal.invariant-loop-run
invariant-loop-run l = record {
  spread : spread l.found.items ≡ flat_map (row_of l.axis) (spread (take l.run-index l.rows));
  maximal : AreMaximal l.found.items;
  within : All (EndsWithin (2 ^ 30)) l.found.items;
}
