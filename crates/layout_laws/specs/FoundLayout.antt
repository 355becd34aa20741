-- The placement that the visits of an image name, and the gaps that they leave.
use Rattle.std.specs.Prelude.{◌≡◌, ◌⊎◌, ℕ, Bool, cond, ◌==◌, nat_lt, List, [], ◌∷◌, ◌++◌, length, map, filter, slice_get, Option, Some, None}
use Rattle.adf_format.specs.declared.types.Extent.{Extent}
use Rattle.adf_format.specs.Tiles.{Tiles, is_free}
use Rattle.adf_format.specs.Tree.{Tree, tree_order, IsSameTree}
use Rattle.adf_format.specs.Placement.{Placement, NodeParts, TablePart, ChunkPart, head_extents, parts_of}
use Rattle.adf_format.specs.LaysOut.{AreGapsInOrder, HasSameRanges}
use Rattle.adf_format.specs.Verdict.{NodePlace}
use Rattle.adf_format.specs.FirstFault.{Visit, ChunkVisit, FreeVisit, entries_in, table_in, chunk_count, chunk_in, chunks_in, chunk_length, found_extents, free_extent, is_wide, end_in}

abbrev pub table_part : ℕ → ℕ → Option TablePart
table_part place entries = cond (entries == 0) None (Some (record { place = place; entries = entries }))

abbrev pub chunk_part : List ℕ → ChunkVisit → ChunkPart
chunk_part image c = record { place = c.place; length = chunk_length image c.place }

abbrev pub chunk_table_part : ℕ → ℕ → Option ℕ
chunk_table_part place count = cond (nat_lt count 2) None (Some place)

-- the parts of the node whose header stands at a place, as the image names them
abbrev pub parts_at : List ℕ → Bool → ℕ → NodeParts
parts_at image wide p = record {
  header = p;
  table = table_part (table_in image p) (entries_in image p);
  chunks = map (chunk_part image) (chunks_in image wide p);
  chunk_table = chunk_table_part (chunk_in image wide p) (chunk_count image wide p);
}

-- the parts of the visits, in their order, and some gaps
abbrev pub placement_of : List ℕ → List Visit → List Extent → Placement
placement_of image nodes gaps = record { parts = map (λ (v : Visit). Some (parts_at image (is_wide image) v.place)) nodes; heap = record { gaps = gaps; end = end_in image } }

-- Gaps in order are all that the nodes leave, and their free chunks are those of the lists.
pub record FillGaps (image : List ℕ) (nodes : List Visit) (frees : List FreeVisit) (gaps : List Extent) : Type 0 where
  pub in_order : AreGapsInOrder gaps
  pub tiles : Tiles (head_extents ++ found_extents image (is_wide image) nodes ++ gaps) (end_in image)
  pub same_frees : HasSameRanges (map (free_extent image) frees) (filter is_free gaps)

-- Two layouts are one up to the numbering of the tree: the same tree, in tree order the same parts, and the same heap.
pub record IsSameLayout (t : Tree) (p : Placement) (u : Tree) (q : Placement) : Type 0 where
  pub tree : IsSameTree t u
  pub parts : map (parts_of p) (tree_order t) ≡ map (parts_of q) (tree_order u)
  pub heap : p.heap ≡ q.heap

-- The places of visits as a verdict names them: the parent by its number, the position at the end of the path, the depth by its length.
pub record ListsVisits (visits : List Visit) (nodes : List NodePlace) : Type 0 where
  pub count : length nodes ≡ length visits
  pub each : (k : ℕ) (v : Visit) (n : NodePlace) → slice_get visits k ≡ Some v → slice_get nodes k ≡ Some n → (n.place ≡ v.place) × (n.depth ≡ length v.path)
  pub root : (n : NodePlace) → slice_get nodes 0 ≡ Some n → (n.parent ≡ 0) × (n.position ≡ 0)
  pub others : (j k i : ℕ) (u v : Visit) (n : NodePlace) → slice_get visits j ≡ Some u → slice_get visits k ≡ Some v → slice_get nodes k ≡ Some n → v.path ≡ u.path ++ i ∷ [] → (n.parent ≡ j) × (n.position ≡ i)

-- A place names its visit: the root with zeros, and any other by its parent's number and its position there.
pub record NamesVisit (visits : List Visit) (v : Visit) (n : NodePlace) : Type 0 where
  pub place : n.place ≡ v.place
  pub depth : n.depth ≡ length v.path
  pub linked : ((v.path ≡ []) × (n.parent ≡ 0) × (n.position ≡ 0)) ⊎ ((u : Visit) × (slice_get visits n.parent ≡ Some u) × (v.path ≡ u.path ++ n.position ∷ []))
