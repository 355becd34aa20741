use Rattle.std.proofs.Common.{◌+◌}
use Rattle.tool_commands.proofs.OpeningLaws.{IsOnWay}
use Rattle.tool_commands.proofs.checks.open_files.Given as goal

-- the openings so far
abbrev pub invariant-loop-file : goal.invariant-loop-file
invariant-loop-file g l = record {
  ready : g.C.TreeCalls.is_ready l.calls;
  way : IsOnWay l.files (l.file-index + 1) l.outcomes.items (g.C.TreeCalls.files l.fn.calls) (g.C.TreeCalls.devices l.fn.calls) (g.C.TreeCalls.devices l.calls) (g.C.TreeCalls.files l.calls);
}
