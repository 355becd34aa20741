use Rattle.std.proofs.Common.{◌≡◌, ◌-◌, ◌^◌, ◌++◌}
use Rattle.std.specs.List.{All, flat_map, range_with_len}
use Rattle.strided.specs.RunLists.{spread, AreMaximal, EndsWithin}
use Rattle.strided.specs.Axes.{row_of}
use Rattle.strided.proofs.rows.push_rows.Given as goal

abbrev pub invariant-loop-row : goal.invariant-loop-row
invariant-loop-row l = record {
  spread : spread l.runs.items ≡ spread l.initial.runs.items ++ flat_map (row_of l.axis) (range_with_len l.fn.rows.first (l.row - l.fn.rows.first));
  maximal : AreMaximal l.runs.items;
  within : All (EndsWithin (2 ^ 30)) l.runs.items;
}
