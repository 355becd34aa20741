use Rattle.std.proofs.Common.{◌+◌, ◌-◌, ◌^◌, ◌≤◌, ◌<◌, ℕ, List}
use Rattle.std.specs.Prelude.{IfSome}
use Rattle.std.specs.List.{All}
use Rattle.cg_io.specs.Blocks.{ReadsFew}
use Rattle.adf_format.specs.declared.types.Extent.{Extent}
use Rattle.adf_format.specs.FirstFault.{Visit, FreeVisit}
use Rattle.cg_io.specs.Answers.{Told}
use Rattle.cg_io.specs.Pages.{IsReady}
use Rattle.layout_lint.specs.Gaps.{IsSolid}
use Rattle.layout_lint.specs.Shapes.{Adds}
use Rattle.layout_lint.specs.Heads.{IsSpan}
use Rattle.layout_lint.specs.Lists.{IsListAt, HasCome, first_of}
use Rattle.layout_lint.proofs.lists.look_at_list.Given as goal

abbrev pub invariant-loop-next : goal.invariant-loop-next
invariant-loop-next g l = record {
  ready : IsReady (g.B.Blocks.is_sound l.blocks) (g.B.Blocks.state l.blocks).held l.page;
  effect : ReadsFew (l.frees.used - l.initial.frees.used) (g.B.Blocks.state l.initial.blocks) (g.B.Blocks.state l.blocks);
  low : l.initial.frees.used ≤ l.frees.used;
  room : l.frees.used ≤ l.span.end + 1;
  bound : IfSome l.next (λ place. place < 2 ^ 44);
  solid : All (IsSolid l.span.end) l.initial.frees.extents.items → All (IsSolid l.span.end) l.frees.extents.items;
  adds : Adds l.initial.frees.extents.items l.frees.extents.items;
  come : Told (g.B.Blocks.state l.initial.blocks).held (λ image. (nodes : List Visit) (base : List Extent) (number : ℕ) (later : List FreeVisit) → IsSpan image l.span → IsListAt image number l.list
      → HasCome image nodes base number (first_of l.list) later l.initial.frees → HasCome image nodes base number l.next later l.frees);
}

abbrev pub decreases-loop-next : goal.decreases-loop-next
decreases-loop-next g l = l.span.end + 1 - l.frees.used
