-- Where a walk over the nodes stands.
use Rattle.std.specs.Prelude.{[], ◌∷◌, ◌==◌, cond, true, ◌≡◌, ◌≤◌, ◌<◌, ℕ, ◌+◌, ◌-◌, ◌*◌, List, ◌++◌, map, reverse, slice_get, Option, Some, None, Ok, Err}
use Rattle.std.specs.List.{All, range_with_len, sum_by, flat_map}
use Rattle.std.specs.Ordering.{nat_cmp}
use Rattle.layout_lint.specs.Keys.{contains}
use Rattle.adf_format.specs.Verdict.{NodePlace}
use Rattle.adf_format.specs.Tiles.{total_length}
use Rattle.adf_format.specs.Placement.{head_extents}
use Rattle.adf_format.specs.FirstFault.{Visit, NodeWalk, is_wide, root_visit}
use Rattle.layout_laws.specs.NodePass.{Waiting, IsUnderway, AreMet, is_known, met_extents, named_node, waiting_child}
use Rattle.layout_lint.specs.declared.node.Met.{Met}
use Rattle.layout_lint.specs.declared.stack.Family.{Family}
use Rattle.layout_lint.specs.declared.verdict.NodePlace as code
use Rattle.layout_lint.specs.declared.verdict.Halt.{Halt}
use Rattle.layout_lint.specs.declared.verdict.Halt.TheVariants as halt
use Rattle.layout_lint.specs.declared.walk.Search.{Search}
use Rattle.layout_lint.specs.declared.walk.FoundNodes.{FoundNodes}
use Rattle.layout_lint.specs.Halts.{fault}

-- a node that waits, as the passes have it
abbrev pub waiting_of : Met → Waiting
waiting_of m = record { place = m.place; entry = m.entry; parent = m.parent; position = m.position; depth = m.depth }

-- the place of a node, as the definitions have it
abbrev pub node_place : code.NodePlace → NodePlace
node_place n = record { place = n.place; parent = n.parent; position = n.position; depth = n.depth }

-- ---- families of which children wait

-- all children of a family were looked at
abbrev pub IsDone : Family → Type 0
IsDone f = f.children ≤ f.next

-- the next child of a family is taken, and the families above it, of which none waits, are given up
pub record TakesFrom (family : Family) (old new : List Family) : Type 0 where
  pub base : List Family
  pub done : List Family
  pub was : old ≡ base ++ family ∷ done
  pub now : new ≡ base ++ record { number = family.number; depth = family.depth; table = family.table; children = family.children; next = family.next + 1 } ∷ []
  pub waits : family.next < family.children
  pub all_done : All IsDone done

-- a child is taken, or none waits and all families are given up
abbrev pub TakesNext : List Family → List Family → Option Family → Type 0
TakesNext old new None = All IsDone old × (new ≡ [])
TakesNext old new (Some family) = TakesFrom family old new

-- the children of a family that wait, the next one last
abbrev pub family_waiting : List ℕ → Family → List Waiting
family_waiting image f = reverse (map (waiting_child image f.table.place f.number (f.depth + 1)) (range_with_len f.next (f.children - f.next)))

abbrev pub waiting_in : List ℕ → List Family → List Waiting
waiting_in image families = flat_map (family_waiting image) families

-- how many wait
abbrev pub left_of : Family → ℕ
left_of f = f.children - f.next

abbrev pub left_in : List Family → ℕ
left_in families = sum_by left_of families

-- the entries of its children can be read
pub record IsOpen (end : ℕ) (f : Family) : Type 0 where
  pub shallow : 0 < f.children → f.depth < 255
  pub within : 0 < f.children → f.table.place + 16 + 44 * f.children ≤ end + 1

-- A family stands above as many others as its node lies deep: there are at most 256.
abbrev pub AreStepped : List Family → Type 0
AreStepped families = (k : ℕ) (f : Family) → slice_get families k ≡ Some f → f.depth ≡ k

-- the bytes of all extents found so far, without two for each child that waits
abbrev pub spare : Search → ℕ
spare search = search.used - 2 * left_in search.families.items

-- the root, as it waits
abbrev pub root_waiting : List ℕ → Waiting
root_waiting image = record { place = (root_visit image).place; entry = None; parent = 0; position = 0; depth = 0 }

-- ---- the walk

-- The nodes met so far, with their places, their extents and the bytes of these; the walk goes on with these nodes, the next one last.
pub record IsSearch (image : List ℕ) (stack : List Waiting) (search : Search) : Type 0 where
  pub met : List Waiting
  pub underway : IsUnderway image stack met
  pub named : map node_place search.nodes.items ≡ map named_node met
  pub places : (q : ℕ) → contains nat_cmp search.places q ≡ is_known met q
  pub extents : search.extents.items ≡ head_extents ++ met_extents image (is_wide image) met
  pub used : search.used ≡ 266 + total_length (met_extents image (is_wide image) met)

-- The walk met these nodes, and has ended.
pub record IsFound (image : List ℕ) (found : FoundNodes) : Type 0 where
  pub met : List Waiting
  pub seen : List Visit
  pub walk : NodeWalk image (Ok seen)
  pub are : AreMet seen met seen
  pub named : map node_place found.nodes.items ≡ map named_node met
  pub extents : found.extents.items ≡ head_extents ++ met_extents image (is_wide image) met
  pub used : found.used ≡ 266 + total_length (met_extents image (is_wide image) met)

-- a broken rule is the image's first among its nodes
abbrev pub EndsWalk : List ℕ → Halt → Type 0
EndsWalk image (halt.Broken b) = NodeWalk image (Err (fault b))
EndsWalk image halt.Memory = Unit {0}
EndsWalk image halt.Read = Unit {0}

-- A node is put behind those that were looked at, with its place.
pub record KeepsNode (m : Met) (old new : Search) : Type 0 where
  pub nodes : map node_place new.nodes.items ≡ map node_place old.nodes.items ++ record { place = m.place; parent = m.parent; position = m.position; depth = m.depth } ∷ []
  pub places : (q : ℕ) → contains nat_cmp new.places q ≡ cond (m.place == q) true (contains nat_cmp old.places q)
  pub families : new.families ≡ old.families
  pub extents : new.extents ≡ old.extents
  pub used : new.used ≡ old.used
