-- The walk over the nodes, step by step, with a stack of those that wait.
use Rattle.std.specs.Prelude.{◌≡◌, ◌⊎◌, ℕ, ◌+◌, Bool, ◌==◌, List, [], ◌∷◌, ◌++◌, length, map, reverse, slice_get, Option, Some, None, Result, ⊤}
use Rattle.std.specs.List.{list_any, flat_map}
use Rattle.adf_format.specs.declared.types.Extent.{Extent}
use Rattle.adf_format.specs.Verdict.{NodePlace}
use Rattle.adf_format.specs.Pointer.{place_of}
use Rattle.adf_format.specs.Checks.{Fault, Walk}
use Rattle.adf_format.specs.FirstFault.{Visit, NodeWalk, child_visits, visit_rows, visit_extents, entry_name, entry_pointer, count_up, is_wide, end_in}

-- A node that waits: its place, the name field of its entry, its parent's number, its position there, and its depth.
pub record Waiting : Type 0 where
  pub place : ℕ
  pub entry : Option (List ℕ)
  pub parent : ℕ
  pub position : ℕ
  pub depth : ℕ

-- whether a place is among those of some nodes
abbrev pub is_known : List Waiting → ℕ → Bool
is_known nodes place = list_any (λ (m : Waiting). m.place == place) nodes

-- the extents of some nodes, as the image names them
abbrev pub met_extents : List ℕ → Bool → List Waiting → List Extent
met_extents image wide nodes = flat_map (λ (m : Waiting). visit_extents image wide (record { place = m.place; entry = None; path = [] })) nodes

-- the place of a node, as a verdict names it
abbrev pub named_node : Waiting → NodePlace
named_node m = record { place = m.place; parent = m.parent; position = m.position; depth = m.depth }

-- a node that waits is this visit, and its parent is among those seen
pub record IsMet (seen : List Visit) (m : Waiting) (v : Visit) : Type 0 where
  pub place : m.place ≡ v.place
  pub entry : m.entry ≡ v.entry
  pub depth : m.depth ≡ length v.path
  pub linked : ((v.path ≡ []) × (m.parent ≡ 0) × (m.position ≡ 0)) ⊎ ((u : Visit) × (slice_get seen m.parent ≡ Some u) × (v.path ≡ u.path ++ m.position ∷ []))

abbrev pub AreMet : List Visit → List Waiting → List Visit → Type 0
AreMet seen [] [] = ⊤
AreMet seen (m ∷ ms) (v ∷ vs) = IsMet seen m v × AreMet seen ms vs
AreMet seen [] (v ∷ vs) = ⊥
AreMet seen (m ∷ ms) [] = ⊥

-- the children of a node, as they wait, where it has this number and its children this depth
abbrev pub waiting_child : List ℕ → ℕ → ℕ → ℕ → ℕ → Waiting
waiting_child image table number depth i = record { place = place_of (entry_pointer image table i); entry = Some (entry_name image table i); parent = number; position = i; depth = depth }

abbrev pub waiting_children : List ℕ → ℕ → ℕ → ℕ → ℕ → List Waiting
waiting_children image table number depth n = map (waiting_child image table number depth) (count_up n)

-- Some nodes were met, and those of the stack wait, the next one last: how the walk goes on from here is how it ends.
pub record IsUnderway (image : List ℕ) (stack : List Waiting) (nodes : List Waiting) : Type 0 where
  pub seen : List Visit
  pub next : List Visit
  pub waits : AreMet seen (reverse stack) next
  pub found : AreMet seen nodes seen
  pub goes_on : (outcome : Result (List Visit) Fault) → Walk (visit_rows image (is_wide image) (end_in image)) (child_visits image) next seen outcome → NodeWalk image outcome
