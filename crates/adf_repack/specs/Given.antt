-- The tree that some nodes of a file make, of which the places are given: it is that of the whole file, or a part of it.
use Rattle.std.specs.Prelude.{◌≡◌, ◌≢◌, ℕ, ◌+◌, ◌-◌, ◌*◌, ◌^◌, ◌<◌, ◌≤◌, Bool, true, List, length, map, take, slice_get, Option, None, Some}
use Rattle.std.specs.List.{Contains}
use Rattle.adf_format.specs.declared.fields.TheConstants.{CHUNK_START}
use Rattle.adf_format.specs.declared.types.Extent.{Extent}
use Rattle.adf_format.specs.declared.types.Format.{Format}
use Rattle.adf_format.specs.Checks.{first_broken}
use Rattle.adf_format.specs.Fields.{text_field}
use Rattle.adf_format.specs.FirstFault.{is_wide, header_rows as file_rows}
use Rattle.adf_format.specs.Packed.{packed_length}
use Rattle.adf_format.specs.Parts.{node_length}
use Rattle.adf_format.specs.Pointer.{is_place}
use Rattle.adf_format.specs.RecordFields.{field_in}
use Rattle.adf_format.specs.Records.{NodeRecord}
use Rattle.adf_format.specs.SoundPart.{format_in}
use Rattle.adf_format.specs.Tree.{Tree, Node, IsTree, node_at, name_at}
use Rattle.adf_format.specs.Verdict.{IsLaidOutAs}
use Rattle.cg_io.specs.Device.{bytes_at}
use Rattle.node_reads.specs.Entries.{chunk_head_rows}
use Rattle.node_reads.specs.Headers.{header_rows}
use Rattle.layout_lint.specs.declared.verdict.NodePlace.{NodePlace}
use Rattle.layout_lint.specs.Walks.{node_place}
use Rattle.adf_repack.specs.Copies.{IsHeaderOf, position_in}
use Rattle.adf_repack.specs.Families.{children_of}
use Rattle.adf_repack.specs.Payloads.{entry_at, chunk_at, payloads_of}
use Rattle.adf_repack.specs.Plans.{table_in, record_at, old_place}

-- the tree in a version
abbrev pub in_version : Bool → Tree → Tree
in_version wide tree = record tree { wide = wide }

-- ---- one node

-- the entry at a place has this name, and ends by the last place
pub record HasName (image : List ℕ) (entry : ℕ) (name : List ℕ) : Type 0 where
  pub near : entry + 32 ≤ 2 ^ 44
  pub says : bytes_at image entry 32 ≡ text_field 32 name

-- one of the chunks of a node: its entry, where the chunks are listed in a table, and its head
pub record HasChunk (image : List ℕ) (r : NodeRecord) (i : ℕ) : Type 0 where
  pub entry_near : r.chunks ≢ 1 → entry_at r i + 24 ≤ 2 ^ 44
  pub entry : r.chunks ≢ 1 → is_place (field_in (bytes_at image (entry_at r i) 24) CHUNK_START) ≡ true
  pub near : chunk_at image r i + 16 ≤ 2 ^ 44
  pub head : first_broken (chunk_head_rows (chunk_at image r i) (bytes_at image (chunk_at image r i) 16)) ≡ None

-- the chunks begin with the data; without data there is no chunk
abbrev pub HoldsData : List ℕ → NodeRecord → Option (List ℕ) → Type 0
HoldsData image r None = r.chunks ≡ 0
HoldsData image r (Some bytes) = (r.chunks ≢ 0) × (take (length bytes) (payloads_of image r) ≡ bytes)

-- The k-th of the given nodes is this one: what its header, the entries of its children and its chunks say. Its children are those among the nodes that
-- are given.
pub record IsGivenNode (image : List ℕ) (nodes : List NodePlace) (tree : Tree) (k : ℕ) (place : ℕ) (node : Node) : Type 0 where
  pub live : node_at tree k ≡ Some node
  pub kept : first_broken (header_rows tree.wide place None (bytes_at image place (node_length tree.wide))) ≡ None
  pub says : IsHeaderOf (record_at image tree.wide place) node
  pub children : node.children ≡ children_of nodes k
  pub names : (child : ℕ) → Contains (children_of nodes k) child
      → HasName image (table_in (record_at image tree.wide place) + 16 + 44 * position_in (slice_get nodes child)) (name_at tree child)
  pub chunks : (i : ℕ) → i < (record_at image tree.wide place).chunks → HasChunk image (record_at image tree.wide place) i
  pub holds : HoldsData image (record_at image tree.wide place) node.bytes

-- ---- all of them

-- The given nodes of a file make this tree, numbered in their order.
pub record IsGiven (image : List ℕ) (nodes : List NodePlace) (tree : Tree) : Type 0 where
  pub is_tree : IsTree tree
  pub head : first_broken (file_rows (bytes_at image 0 186)) ≡ None
  pub width : tree.wide ≡ is_wide image
  pub format : tree.format ≡ format_in (bytes_at image 0 186)
  pub count : length tree.nodes ≡ length nodes
  pub each : (k : ℕ) → k < length nodes → (node : Node) × IsGivenNode image nodes tree k (old_place nodes k) node
  pub short : packed_length (in_version true tree) < 2 ^ 64 - 1

-- the nodes that the linter names of a file make the tree that the file lays out
abbrev pub FoundNodesAreGiven : Type 0
FoundNodesAreGiven =
    (image : List ℕ) (nodes : List NodePlace) (gaps : List Extent) (end : ℕ) (format : Format) (wide : Bool)
    (laid : IsLaidOutAs image (map node_place nodes) gaps end format wide) → IsGiven image nodes laid.tree
