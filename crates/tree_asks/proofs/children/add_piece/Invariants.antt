use Rattle.tree_asks.specs.Entries.{AddsChildren}
use Rattle.tree_asks.proofs.children.add_piece.Given as goal

abbrev pub invariant-loop-i : goal.invariant-loop-i
invariant-loop-i l = AddsChildren l.core l.file l.piece l.i l.initial.children.items l.children.items
