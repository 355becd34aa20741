-- Where the rule of the heap puts the data of an edit, and the whole edit of a link.
use Rattle.std.specs.Prelude.{◌≡◌, ℕ, suc, ◌+◌, ◌-◌, ◌*◌, ◌^◌, ◌<◌, ◌≤◌, List, [], ◌∷◌, ◌++◌, length, take, Some, None, Ok}
use Rattle.adf_format.specs.declared.types.Extent.{Extent}
use Rattle.adf_format.specs.declared.types.ExtentKind.{ExtentKind}
use Rattle.adf_format.specs.Hex.{hex_text}
use Rattle.adf_format.specs.Pointer.{To, pointer_text}
use Rattle.adf_format.specs.Fields.{field, text_field}
use Rattle.adf_format.specs.Links.{link_text}
use Rattle.adf_format.specs.Tree.{Tree, Node, node_at}
use Rattle.adf_format.specs.Parts.{node_length, table_length}
use Rattle.adf_format.specs.Placement.{Placement, NodeParts, TablePart, Heap, extent, parts_of, table_extents}
use Rattle.adf_format.specs.LaysOut.{entry_count}
use Rattle.adf_format.specs.Changes.{Writes}
use Rattle.adf_format.specs.HeapRule.{Placed, heap_take, chunk_length_for, payload_length, grown_entries, in_one_chunk, in_one_more, release, place_edit}
use Rattle.adf_format.specs.Records.{SubNodes, Data, node_text, entry_text}
use Rattle.adf_format.specs.Spelled.{framed_text}
use Rattle.adf_model.specs.declared.tree.Edit.{Edit}
use Rattle.adf_model.specs.declared.tree.NodeId.{NodeId}
use Rattle.adf_model.specs.Edits.{IsReached, apply, with_node}
use Rattle.adf_model.specs.Creation.{used_entries, unused_entries}
use Rattle.tree_laws.specs.Holding.{Holds}
use Rattle.tree_laws.specs.Gifts.{GivesEach}
use Rattle.tree_laws.specs.NodeJoin.{link_record}

-- the data of a node are released, put in one new chunk, kept, or get one chunk more
abbrev pub PlacesData : Type 0
PlacesData =
    (limit : ℕ) (tree : Tree) (p : Placement) (s : ℕ) (node now : Node) (from : NodeParts)
    → node_at tree s ≡ Some node → parts_of p s ≡ Some from
    → (now.bytes ≡ None → place_edit limit tree (with_node tree s now) (Placed.Data s) p ≡ Ok (release p s))
    × ((bytes : List ℕ) → now.bytes ≡ Some bytes → from.chunks ≡ [] → place_edit limit tree (with_node tree s now) (Placed.Data s) p ≡ in_one_chunk limit p s (length bytes))
    × ((bytes : List ℕ) → now.bytes ≡ Some bytes → 0 < length from.chunks → length bytes ≤ payload_length from.chunks → place_edit limit tree (with_node tree s now) (Placed.Data s) p ≡ Ok p)
    × ((bytes : List ℕ) → now.bytes ≡ Some bytes → 0 < length from.chunks → payload_length from.chunks < length bytes → length from.chunks < 64
    → place_edit limit tree (with_node tree s now) (Placed.Data s) p ≡ in_one_more limit p s (length bytes - payload_length from.chunks))
    × ((bytes : List ℕ) → now.bytes ≡ Some bytes → 0 < length from.chunks → payload_length from.chunks < length bytes → 64 ≤ length from.chunks
    → place_edit limit tree (with_node tree s now) (Placed.Data s) p ≡ in_one_chunk limit p s (length bytes))

-- ---- a link: what was taken has its header and its chunk, with the text of the link and more or none behind it

pub record LinkStands (image : List ℕ) (tree : Tree) (name text : List ℕ) (header place : ℕ) : Type 0 where
  pub body : List ℕ
  pub long : 20 + length body ≡ chunk_length_for (length text)
  pub begins : take (length text) body ≡ text
  pub near : (header < 2 ^ 44) × (place + chunk_length_for (length text) ≤ 2 ^ 44)
  pub spelled : field image header (node_length tree.wide) ≡ node_text (link_record tree.wide name (length text) place)
  pub chunk : field image place (20 + length body) ≡ framed_text Data place body

-- with an unused entry
abbrev pub LinkEnds : Type 0
LinkEnds =
    (limit : ℕ) (old middle new : List ℕ) (tree after : Tree) (p : Placement) (between heap : Heap)
    (taken : List Extent) (hk ck : ExtentKind) (at : NodeId) (name file path : List ℕ) (header place : ℕ)
    (parent : Node) (from : NodeParts) (t : TablePart)
    → IsReached tree (Edit.Link at name file path) → apply tree (Edit.Link at name file path) ≡ Ok after
    → length name ≤ 32
    → heap_take limit (node_length tree.wide) p.heap ≡ Ok (header, between)
    → heap_take limit (chunk_length_for (length (link_text file path))) between ≡ Ok (place, heap)
    → Holds old tree (record p { heap = heap }) (extent ck place (chunk_length_for (length (link_text file path))) ∷ extent hk header (node_length tree.wide) ∷ taken)
    → LinkStands old tree name (link_text file path) header place
    → node_at tree at.serial ≡ Some parent → parts_of p at.serial ≡ Some from → from.table ≡ Some t
    → length parent.children < t.entries
    → Writes (t.place + 16 + 44 * length parent.children) (entry_text (text_field 32 name) (To header)) old middle
    → Writes (from.header + 68) (hex_text 8 (suc (length parent.children))) middle new
    → (q : Placement) × (place_edit limit tree after (Placed.Link at.serial) p ≡ Ok q)
    × Holds new after q taken

-- with a longer table, which is taken between the two; the old table is given
abbrev pub LinkEndsFull : Type 0
LinkEndsFull =
    (limit : ℕ) (old written new : List ℕ) (tree after : Tree) (p : Placement) (between again heap : Heap)
    (taken : List Extent) (hk tk ck : ExtentKind) (at : NodeId) (name file path : List ℕ)
    (header table place entries : ℕ) (parent : Node) (from : NodeParts)
    → IsReached tree (Edit.Link at name file path) → apply tree (Edit.Link at name file path) ≡ Ok after
    → length name ≤ 32 → entries ≡ grown_entries (length parent.children)
    → heap_take limit (node_length tree.wide) p.heap ≡ Ok (header, between)
    → heap_take limit (table_length entries) between ≡ Ok (table, again)
    → heap_take limit (chunk_length_for (length (link_text file path))) again ≡ Ok (place, heap)
    → Holds old tree (record p { heap = heap }) (extent ck place (chunk_length_for (length (link_text file path))) ∷ extent tk table (table_length entries) ∷ extent hk header (node_length tree.wide) ∷ taken)
    → LinkStands old tree name (link_text file path) header place
    → node_at tree at.serial ≡ Some parent → parts_of p at.serial ≡ Some from
    → entry_count from.table ≡ length parent.children → table + table_length entries ≤ 2 ^ 44
    → field old table (table_length entries) ≡ framed_text SubNodes table (used_entries old from.table (length parent.children) ++ entry_text (text_field 32 name) (To header) ++ unused_entries (entries - suc (length parent.children)))
    → Writes (from.header + 68) (hex_text 8 (suc (length parent.children)) ++ hex_text 8 entries ++ pointer_text (To table)) old written
    → GivesEach (table_extents from.table) heap written new
    → (q : Placement) × (place_edit limit tree after (Placed.Link at.serial) p ≡ Ok q)
    × Holds new after q taken
