use Rattle.std.proofs.Common.{◌≡◌, ◌≤◌, ◌+◌, ◌*◌, map, drop, length}
use Rattle.std.specs.Prelude.{IsSome}
use Rattle.std.specs.List.{All}
use Rattle.adf_format.specs.Links.{components}
use Rattle.adf_links.specs.Components.{IsWithin, text_at}
use Rattle.adf_model.specs.Slots.{IsTold, open_at}
use Rattle.adf_model.specs.Follow.{walk, follow, child_in}
use Rattle.adf_model.specs.Causes.{OnlyAsks}
use Rattle.adf_follow.specs.Looking.{spot_of}
use Rattle.adf_follow.proofs.walks.+following.Given as goal

abbrev pub decreases-follow : goal.decreases-follow
decreases-follow g l = 2 * l.left

abbrev pub decreases-walk : goal.decreases-walk
decreases-walk g l = 2 * l.start.left + 1

-- what is left of the path leads where the whole leads
abbrev pub invariant-walk-names : goal.invariant-walk-names
invariant-walk-names g l = record {
  ready : g.F.OpenFiles.is_ready l.files;
  pending : g.F.OpenFiles.pending l.files ≡ g.F.OpenFiles.pending l.fn.files;
  leaves : OnlyAsks (g.F.OpenFiles.files l.fn.files) (g.F.OpenFiles.devices l.fn.files) (g.F.OpenFiles.devices l.files) (g.F.OpenFiles.files l.files);
  few : l.reached.left ≤ l.fn.start.left;
  within : All (IsWithin (length l.path)) l.range-items;
  opens : IsSome (open_at (g.F.OpenFiles.files l.fn.files) l.fn.start.node.file) → IsSome (open_at (g.F.OpenFiles.files l.fn.files) l.reached.node.file);
  along : IsTold (g.F.OpenFiles.files l.fn.files) (g.F.OpenFiles.devices l.fn.files)
      → walk (follow (g.F.OpenFiles.files l.fn.files)) (child_in (g.F.OpenFiles.files l.fn.files)) l.missing (components l.path) (spot_of l.fn.start)
      ≡ walk (follow (g.F.OpenFiles.files l.fn.files)) (child_in (g.F.OpenFiles.files l.fn.files)) l.missing (map (text_at l.path) (drop l.range-index l.range-items)) (spot_of l.reached);
}
