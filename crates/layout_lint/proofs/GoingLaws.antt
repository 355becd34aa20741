-- Between two turns of a walk: what holds once a child is taken.
use Rattle.std.proofs.Common.{◌≡◌, ℕ, ◌+◌, ◌*◌, ◌<◌, ◌≤◌, Bool, map, length, ◌∙◌, arith}
use Rattle.std.specs.List.{All}
use Rattle.std.proofs.lemmas.List.{length-map}
use Rattle.layout_lint.specs.declared.node.Met.{Met}
use Rattle.layout_lint.specs.declared.stack.Family.{Family}
use Rattle.layout_lint.specs.declared.walk.Search.{Search}
use Rattle.layout_lint.specs.Walks.{node_place, TakesFrom, IsOpen, AreStepped, left_in, spare}
use Rattle.layout_lint.specs.Shapes.{IsChildIn, IsFamilyOf, MayFollow, met_place, IsSteady, IsGoing}
use Rattle.layout_lint.proofs.StackLaws.{of_taken, of_rest, open_further, stepped_taken, deep_taken, one_less}
use Rattle.layout_lint.proofs.ShapeLaws.{child_follows}

module _ (wide : Bool) (end : ℕ) (s t : Search) (family : Family) (going : IsGoing wide end s) (takes : TakesFrom family s.families.items t.families.items) where
  pub taken_open : IsOpen end family
  taken_open = of_taken (IsOpen end) family s.families.items t.families.items takes going.readable

  pub taken_shallow : family.depth < 255
  taken_shallow = let waits = takes.waits in taken_open.shallow (omega (arith, waits))

  pub taken_within : family.table.place + 16 + 44 * family.next + 44 ≤ end + 1
  taken_within = let waits = takes.waits in let within = taken_open.within (omega (arith, waits)) in omega (arith, waits, within)

  pub rest_open : All (IsOpen end) t.families.items
  rest_open = of_rest (IsOpen end) family s.families.items t.families.items takes (open_further end family) going.readable

  pub rest_stepped : AreStepped t.families.items
  rest_stepped = stepped_taken family s.families.items t.families.items takes going.stepped

  pub rest_deep : (m : Met) → IsChildIn family m → m.depth ≡ length t.families.items
  rest_deep m child = child.step ∙ deep_taken family s.families.items t.families.items takes going.stepped

  pub rest_steady : t.nodes ≡ s.nodes → t.extents ≡ s.extents → IsSteady wide end t
  rest_steady nodes extents = record {
    rooted = rw (nodes, extents) going.steady.rooted;
    families = rw nodes (of_rest (IsFamilyOf (map node_place s.nodes.items)) family s.families.items t.families.items takes (λ is. record { parent = is.parent; stands = is.stands; depth = is.depth }) going.steady.families);
  }

  pub rest_follows : (m : Met) → t.nodes ≡ s.nodes → IsChildIn family m → MayFollow (map node_place t.nodes.items) (met_place m)
  rest_follows m nodes child = rw nodes (child_follows (map node_place s.nodes.items) family m some (of_taken (IsFamilyOf (map node_place s.nodes.items)) family s.families.items t.families.items takes going.steady.families) child)
    where
      some : 0 < length (map node_place s.nodes.items)
      some = let count = length-map s.nodes.items node_place in let nodes = going.some in omega (arith, count, nodes)

  pub rest_left : t.used ≡ s.used → 2 * left_in t.families.items ≤ t.used
  rest_left used = let left = going.left in let less = one_less family s.families.items t.families.items takes in omega (arith, left, less, used)

  -- two more are to spare
  pub rest_spare : t.used ≡ s.used → spare t ≡ spare s + 2
  rest_spare used = let left = going.left in let less = one_less family s.families.items t.families.items takes in omega (arith, left, less, used)
