use Rattle.std.proofs.Common.{◌≡◌, ◌-◌, ◌+◌, ◌*◌, ◌^◌, ◌++◌, map}
use Rattle.std.specs.List.{All}
use Rattle.adf_model.specs.Selection.{spaced}
use Rattle.strided.specs.RunLists.{spread, AreMaximal, EndsWithin}
use Rattle.strided.proofs.rows.push_row.Given as goal

abbrev pub invariant-loop-step : goal.invariant-loop-step
invariant-loop-step l = record {
  spread : spread l.runs.items ≡ spread l.initial.runs.items ++ map (λ index. (index - 1) + l.axis.dim * l.row) (spaced l.axis.start l.axis.stride l.step);
  maximal : AreMaximal l.runs.items;
  within : All (EndsWithin (2 ^ 30)) l.runs.items;
}
