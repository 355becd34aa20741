use Rattle.std.proofs.Common.{◌≡◌, ◌<◌, ◌≤◌, ◌+◌, ◌-◌, ◌++◌, map, length, take, drop}
use Rattle.cg_io.specs.Blocks.{ReadsFew}
use Rattle.std.specs.List.{All}
use Rattle.cg_io.specs.Answers.{Told}
use Rattle.cg_io.specs.Pages.{IsReady}
use Rattle.layout_lint.specs.Owners.{owned_from, IsThere, name_of, KeepRules}
use Rattle.layout_lint.proofs.owners.add_nodes.Given as goal

abbrev pub invariant-loop-k : goal.invariant-loop-k
invariant-loop-k g l = record {
  ready : IsReady (g.B.Blocks.is_sound l.blocks) (g.B.Blocks.state l.blocks).held l.page;
  effect : ReadsFew (l.used - 266) (g.B.Blocks.state l.initial.blocks) (g.B.Blocks.state l.blocks);
  low : 266 ≤ l.used;
  room : l.used ≤ l.span.end + 1 + 266;
  there : All (IsThere (length l.places)) l.initial.parts.owned.items → All (IsThere (length l.places)) l.parts.owned.items;
  added : Told (g.B.Blocks.state l.initial.blocks).held (λ image. l.span.end < length image
      → l.initial.parts.owned.items ++ owned_from image l.span.wide 0 l.places ≡ l.parts.owned.items ++ owned_from image l.span.wide l.k (drop l.k l.places));
  named : Told (g.B.Blocks.state l.initial.blocks).held (λ image. l.span.end < length image → l.parts.names.items ≡ l.initial.parts.names.items ++ map (name_of image) (take l.k l.places));
  count : length l.parts.names.items ≡ length l.initial.parts.names.items + l.k;
  keeps : Told (g.B.Blocks.state l.initial.blocks).held (λ image. l.span.end < length image
      → KeepRules image l.span.wide l.span.end 266 l.places → KeepRules image l.span.wide l.span.end l.used (drop l.k l.places));
}
