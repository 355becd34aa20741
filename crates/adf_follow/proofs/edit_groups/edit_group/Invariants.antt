use Rattle.std.proofs.Common.{◌≡◌}
use Rattle.adf_follow.specs.Groups.{WaitsIn}
use Rattle.adf_follow.proofs.Going.{IsGoing}
use Rattle.adf_follow.proofs.GoingTold.{IsGoingTold, IsGroupTold}
use Rattle.adf_follow.proofs.edit_groups.edit_group.Given as goal

-- the edits so far are done, and wait
abbrev pub invariant-loop-at : goal.invariant-loop-at
invariant-loop-at g l = record {
  ready : g.F.OpenFiles.is_ready l.files;
  kept : (g.F.OpenFiles.pending l.files).kept ≡ g.F.OpenFiles.files l.fn.files;
  waiting : WaitsIn l.group (g.F.OpenFiles.files l.files) (g.F.OpenFiles.devices l.files) (g.F.OpenFiles.pending l.files);
  going : IsGoing (g.F.OpenFiles.files l.fn.files) (g.F.OpenFiles.devices l.fn.files) l.edits l.at l.group (g.F.OpenFiles.devices l.files) (g.F.OpenFiles.files l.files);
  told : IsGroupTold (g.F.OpenFiles.files l.fn.files) (g.F.OpenFiles.devices l.fn.files) l.edits
      → IsGoingTold (g.F.OpenFiles.files l.fn.files) (g.F.OpenFiles.devices l.fn.files) l.edits l.at l.group l.created.items (g.F.OpenFiles.pending l.files).work (g.F.OpenFiles.files l.files);
}
