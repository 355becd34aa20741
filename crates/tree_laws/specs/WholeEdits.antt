-- Edits whole: from their tests and their writes to what the file then holds, where the rule of the heap puts it, and what is left.
use Rattle.std.specs.Prelude.{◌≡◌, ◌≢◌, ℕ, suc, ◌+◌, ◌-◌, ◌*◌, ◌^◌, ◌<◌, ◌≤◌, Bool, List, [], ◌∷◌, ◌++◌, length, slice_get, slice_set, Some, Ok}
use Rattle.adf_format.specs.declared.types.ExtentKind.{ExtentKind}
use Rattle.adf_format.specs.declared.types.Extent.{Extent}
use Rattle.adf_format.specs.Hex.{hex_text}
use Rattle.adf_format.specs.Links.{link_text}
use Rattle.adf_format.specs.Pointer.{To, pointer_text}
use Rattle.adf_format.specs.Fields.{field, text_field}
use Rattle.adf_format.specs.Records.{SubNodes, node_text, entry_text}
use Rattle.adf_format.specs.Spelled.{framed_text}
use Rattle.adf_format.specs.Tree.{Tree, children_at, name_at, parent_of}
use Rattle.adf_format.specs.Parts.{node_length, table_length}
use Rattle.adf_format.specs.Placement.{Placement, NodeParts, TablePart, Heap, extent, parts_of, table_extents}
use Rattle.adf_format.specs.LaysOut.{LaysOut, entry_count}
use Rattle.adf_format.specs.HeapRule.{heap_take, chunk_length_for, grown_entries, with_new_parts, after_gives}
use Rattle.adf_model.specs.Creation.{empty_node, used_entries, unused_entries}
use Rattle.adf_model.specs.declared.tree.Edit.{Edit}
use Rattle.adf_model.specs.declared.tree.NodeId.{NodeId}
use Rattle.adf_model.specs.Edits.{file_step}
use Rattle.adf_format.specs.HeapBytes.{ChangesOnly}
use Rattle.tree_laws.specs.Moving.{IsReplaced, with_longer}
use Rattle.tree_laws.specs.MidEdit.{IsMidEdit, Puts, GivesAll}
use Rattle.tree_laws.specs.EditsPlaced.{LinkStands}
use Rattle.tree_laws.specs.NodeJoin.{with_parts_of_new, link_parts}
use Rattle.tree_laws.specs.Plans.{plan_deleted}
use Rattle.tree_laws.specs.Spared.{IsEditWhole}

-- a label is written in the node's header
abbrev pub LabelIsWhole : Type 0
LabelIsWhole =
    (limit : ℕ) (writable : Bool) (old new : List ℕ) (tree after : Tree) (p : Placement) (node : NodeId)
    (label : List ℕ) (its : NodeParts)
    → LaysOut old tree p → file_step writable tree (Edit.SetLabel node label) ≡ Ok after
    → parts_of p node.serial ≡ Some its
    → Puts ExtentKind.Node (its.header + 36) 32 (text_field 32 label) old new
    → IsEditWhole limit writable (Edit.SetLabel node label) tree p after p old new

-- a name is written in the node's header, and in its entry of the parent's table
abbrev pub RenameIsWhole : Type 0
RenameIsWhole =
    (limit : ℕ) (writable : Bool) (old middle new : List ℕ) (tree after : Tree) (p : Placement) (node : NodeId)
    (name : List ℕ) (parent i : ℕ) (its at : NodeParts) (t : TablePart)
    → LaysOut old tree p → file_step writable tree (Edit.Rename node name) ≡ Ok after
    → parent_of tree node.serial ≡ Some parent → slice_get (children_at tree parent) i ≡ Some node.serial
    → parts_of p node.serial ≡ Some its → parts_of p parent ≡ Some at → at.table ≡ Some t
    → Puts ExtentKind.Node (its.header + 4) 32 (text_field 32 name) old middle
    → Puts ExtentKind.SubNodes (t.place + 16 + 44 * i) 44 (entry_text (text_field 32 name) (To its.header)) middle new
    → IsEditWhole limit writable (Edit.Rename node name) tree p after p old new

-- ---- a child is added

-- the ranges of a new child: its parent's count and one entry, or the fields of the table and the old table
abbrev pub entry_ranges : NodeParts → TablePart → ℕ → List Extent
entry_ranges from t count =
    extent ExtentKind.Node (from.header + 68) 8 ∷ extent ExtentKind.SubNodes (t.place + 16 + 44 * count) 44 ∷ []

abbrev pub longer_ranges : NodeParts → List Extent
longer_ranges from = extent ExtentKind.Node (from.header + 68) 28 ∷ table_extents from.table

-- a node whose header stands where the heap gave room joins its parent, in an unused entry
abbrev pub CreateIsWhole : Type 0
CreateIsWhole =
    (limit : ℕ) (writable : Bool) (old a middle new : List ℕ) (tree after : Tree) (p : Placement) (heap : Heap)
    (kind : ExtentKind) (at : NodeId) (name label : List ℕ) (header : ℕ) (from : NodeParts) (t : TablePart)
    → LaysOut old tree p → file_step writable tree (Edit.Create at name label) ≡ Ok after
    → heap_take limit (node_length tree.wide) p.heap ≡ Ok (header, heap) → header < 2 ^ 44
    → IsMidEdit (entry_ranges from t (length (children_at tree at.serial))) p old tree (record p { heap = heap })
    (extent kind header (node_length tree.wide) ∷ []) a
    → field a header (node_length tree.wide) ≡ node_text (empty_node tree.wide name label)
    → parts_of p at.serial ≡ Some from → from.table ≡ Some t → length (children_at tree at.serial) < t.entries
    → Puts ExtentKind.SubNodes (t.place + 16 + 44 * length (children_at tree at.serial)) 44
    (entry_text (text_field 32 name) (To header)) a middle
    → Puts ExtentKind.Node (from.header + 68) 8 (hex_text 8 (suc (length (children_at tree at.serial)))) middle new
    → IsEditWhole limit writable (Edit.Create at name label) tree p after
    (with_new_parts (record p { heap = heap }) header) old new

-- the parts of a parent with a longer table
abbrev pub with_longer_table : NodeParts → ℕ → ℕ → NodeParts
with_longer_table from table entries = record from { table = Some (record { place = table; entries = entries }) }

-- or with a longer table, which the heap gave room for too; the old table is given
abbrev pub CreateIsWholeFull : Type 0
CreateIsWholeFull =
    (limit : ℕ) (writable : Bool) (old a middle new : List ℕ) (tree after : Tree) (p : Placement)
    (between heap : Heap) (kind other : ExtentKind) (at : NodeId) (name label : List ℕ) (header table entries : ℕ)
    (from : NodeParts)
    → LaysOut old tree p → file_step writable tree (Edit.Create at name label) ≡ Ok after
    → entry_count from.table ≡ length (children_at tree at.serial)
    → entries ≡ grown_entries (length (children_at tree at.serial))
    → heap_take limit (node_length tree.wide) p.heap ≡ Ok (header, between) → header < 2 ^ 44
    → heap_take limit (table_length entries) between ≡ Ok (table, heap) → table + table_length entries ≤ 2 ^ 44
    → IsMidEdit (longer_ranges from) p old tree (record p { heap = heap })
    (extent other table (table_length entries) ∷ extent kind header (node_length tree.wide) ∷ []) a
    → field a header (node_length tree.wide) ≡ node_text (empty_node tree.wide name label)
    → parts_of p at.serial ≡ Some from
    → field a table (table_length entries)
    ≡ framed_text SubNodes table (used_entries a from.table (length (children_at tree at.serial))
    ++ entry_text (text_field 32 name) (To header)
    ++ unused_entries (entries - suc (length (children_at tree at.serial))))
    → Puts ExtentKind.Node (from.header + 68) 28
    (hex_text 8 (suc (length (children_at tree at.serial))) ++ hex_text 8 entries ++ pointer_text (To table)) a middle
    → GivesAll (table_extents from.table) heap middle new
    → IsEditWhole limit writable (Edit.Create at name label) tree p after
    (after_gives (with_new_parts (record {
      parts = slice_set p.parts at.serial
          (Some (with_longer_table from table entries));
      heap = heap;
    }) header) (table_extents from.table)) old new

-- ---- a node and all below it are deleted

abbrev pub closing_ranges : NodeParts → TablePart → ℕ → ℕ → List Extent
closing_ranges from t count i =
    extent ExtentKind.Node (from.header + 68) 8 ∷ extent ExtentKind.SubNodes (t.place + 16 + 44 * i) (44 * (count - suc i)) ∷ []

-- the entries behind a node's own move up, the count falls, and the parts of all that are gone are given, by serial
abbrev pub DeleteIsWhole : Type 0
DeleteIsWhole =
    (limit : ℕ) (writable : Bool) (old a middle new : List ℕ) (tree after : Tree) (p : Placement) (node : NodeId)
    (parent i : ℕ) (at : NodeParts) (t : TablePart)
    → LaysOut old tree p → file_step writable tree (Edit.Delete node) ≡ Ok after
    → parent_of tree node.serial ≡ Some parent → slice_get (children_at tree parent) i ≡ Some node.serial
    → parts_of p parent ≡ Some at → at.table ≡ Some t
    → Puts ExtentKind.SubNodes (t.place + 16 + 44 * i) (44 * (length (children_at tree parent) - suc i))
    (field old (t.place + 16 + 44 * (i + 1)) (44 * (length (children_at tree parent) - suc i))) old a
    → Puts ExtentKind.Node (at.header + 68) 8 (hex_text 8 (length (children_at tree parent) - 1)) a middle
    → GivesAll (plan_deleted after p).given p.heap middle new
    → IsEditWhole limit writable (Edit.Delete node) tree p after
    (after_gives (plan_deleted after p).placed (plan_deleted after p).given) old new

-- ---- a node moves

-- to another parent with an unused entry: its entry leaves one table, which is closed up, and joins the other
abbrev pub MoveIsWhole : Type 0
MoveIsWhole =
    (limit : ℕ) (writable : Bool) (old a b c new : List ℕ) (tree after : Tree) (p : Placement) (node to : NodeId)
    (parent i : ℕ) (from its other : NodeParts) (t u : TablePart)
    → LaysOut old tree p → file_step writable tree (Edit.Move node to) ≡ Ok after
    → parent_of tree node.serial ≡ Some parent → parent ≢ to.serial
    → slice_get (children_at tree parent) i ≡ Some node.serial
    → parts_of p parent ≡ Some from → from.table ≡ Some t → parts_of p node.serial ≡ Some its
    → parts_of p to.serial ≡ Some other → other.table ≡ Some u → length (children_at tree to.serial) < u.entries
    → Puts ExtentKind.SubNodes (t.place + 16 + 44 * i) (44 * (length (children_at tree parent) - suc i))
    (field old (t.place + 16 + 44 * (i + 1)) (44 * (length (children_at tree parent) - suc i))) old a
    → Puts ExtentKind.Node (from.header + 68) 8 (hex_text 8 (length (children_at tree parent) - 1)) a b
    → Puts ExtentKind.SubNodes (u.place + 16 + 44 * length (children_at tree to.serial)) 44
    (entry_text (text_field 32 (name_at tree node.serial)) (To its.header)) b c
    → Puts ExtentKind.Node (other.header + 68) 8 (hex_text 8 (suc (length (children_at tree to.serial)))) c new
    → IsEditWhole limit writable (Edit.Move node to) tree p after p old new

-- to the end of its own list: the entries behind it move up, and its own is written last
abbrev pub MoveLastIsWhole : Type 0
MoveLastIsWhole =
    (limit : ℕ) (writable : Bool) (old new : List ℕ) (tree after : Tree) (p : Placement) (node to : NodeId)
    (i : ℕ) (from its : NodeParts) (t : TablePart)
    → LaysOut old tree p → file_step writable tree (Edit.Move node to) ≡ Ok after
    → parent_of tree node.serial ≡ Some to.serial
    → slice_get (children_at tree to.serial) i ≡ Some node.serial
    → parts_of p to.serial ≡ Some from → parts_of p node.serial ≡ Some its → from.table ≡ Some t
    → length (children_at tree to.serial) < t.entries
    → Puts ExtentKind.SubNodes (t.place + 16 + 44 * i) (44 * (length (children_at tree to.serial) - i))
    (field old (t.place + 16 + 44 * (i + 1)) (44 * (length (children_at tree to.serial) - suc i))
    ++ entry_text (text_field 32 (name_at tree node.serial)) (To its.header)) old new
    → IsEditWhole limit writable (Edit.Move node to) tree p after p old new

-- the same two where the table of the new parent was full, and a longer one, which the heap gave room for, replaced it first
abbrev pub MoveIsWholeFull : Type 0
MoveIsWholeFull =
    (limit : ℕ) (writable : Bool) (old start grown a b c middle new : List ℕ) (tree after : Tree) (p : Placement)
    (heap : Heap) (kind : ExtentKind) (node to : NodeId) (parent i table : ℕ) (from its other : NodeParts)
    (t : TablePart)
    → LaysOut old tree p → file_step writable tree (Edit.Move node to) ≡ Ok after
    → parent_of tree node.serial ≡ Some parent → parent ≢ to.serial
    → slice_get (children_at tree parent) i ≡ Some node.serial
    → parts_of p parent ≡ Some from → from.table ≡ Some t → parts_of p node.serial ≡ Some its
    → parts_of p to.serial ≡ Some other → entry_count other.table ≡ length (children_at tree to.serial)
    → heap_take limit (table_length (grown_entries (length (children_at tree to.serial)))) p.heap ≡ Ok (table, heap)
    → IsMidEdit (closing_ranges from t (length (children_at tree parent)) i ++ longer_ranges other) p old tree
    (record p { heap = heap })
    (extent kind table (table_length (grown_entries (length (children_at tree to.serial)))) ∷ []) start
    → IsReplaced start grown other (length (children_at tree to.serial)) table
    (grown_entries (length (children_at tree to.serial)))
    → ChangesOnly (extent ExtentKind.Node (other.header + 68) 28 ∷ []) start grown
    → Puts ExtentKind.SubNodes (t.place + 16 + 44 * i) (44 * (length (children_at tree parent) - suc i))
    (field grown (t.place + 16 + 44 * (i + 1)) (44 * (length (children_at tree parent) - suc i))) grown a
    → Puts ExtentKind.Node (from.header + 68) 8 (hex_text 8 (length (children_at tree parent) - 1)) a b
    → Puts ExtentKind.SubNodes (table + 16 + 44 * length (children_at tree to.serial)) 44
    (entry_text (text_field 32 (name_at tree node.serial)) (To its.header)) b c
    → Puts ExtentKind.Node (other.header + 68) 8 (hex_text 8 (suc (length (children_at tree to.serial)))) c middle
    → GivesAll (table_extents other.table) heap middle new
    → IsEditWhole limit writable (Edit.Move node to) tree p after
    (after_gives (with_longer (record p { heap = heap }) to.serial other table
    (grown_entries (length (children_at tree to.serial)))) (table_extents other.table)) old new

abbrev pub MoveLastIsWholeFull : Type 0
MoveLastIsWholeFull =
    (limit : ℕ) (writable : Bool) (old start grown middle new : List ℕ) (tree after : Tree) (p : Placement)
    (heap : Heap) (kind : ExtentKind) (node to : NodeId) (i table : ℕ) (from its : NodeParts)
    → LaysOut old tree p → file_step writable tree (Edit.Move node to) ≡ Ok after
    → parent_of tree node.serial ≡ Some to.serial
    → slice_get (children_at tree to.serial) i ≡ Some node.serial
    → parts_of p to.serial ≡ Some from → parts_of p node.serial ≡ Some its
    → entry_count from.table ≡ length (children_at tree to.serial)
    → heap_take limit (table_length (grown_entries (length (children_at tree to.serial)))) p.heap ≡ Ok (table, heap)
    → IsMidEdit (longer_ranges from) p old tree (record p { heap = heap })
    (extent kind table (table_length (grown_entries (length (children_at tree to.serial)))) ∷ []) start
    → IsReplaced start grown from (length (children_at tree to.serial)) table
    (grown_entries (length (children_at tree to.serial)))
    → ChangesOnly (extent ExtentKind.Node (from.header + 68) 28 ∷ []) start grown
    → Puts ExtentKind.SubNodes (table + 16 + 44 * i) (44 * (length (children_at tree to.serial) - i))
    (field grown (table + 16 + 44 * (i + 1)) (44 * (length (children_at tree to.serial) - suc i))
    ++ entry_text (text_field 32 (name_at tree node.serial)) (To its.header)) grown middle
    → GivesAll (table_extents from.table) heap middle new
    → IsEditWhole limit writable (Edit.Move node to) tree p after
    (after_gives (with_longer (record p { heap = heap }) to.serial from table
    (grown_entries (length (children_at tree to.serial)))) (table_extents from.table)) old new

-- ---- a link

-- a link whose header and chunk stand where the heap gave room joins its parent, in an unused entry
abbrev pub LinkIsWhole : Type 0
LinkIsWhole =
    (limit : ℕ) (writable : Bool) (old a middle new : List ℕ) (tree after : Tree) (p : Placement)
    (between heap : Heap) (hk ck : ExtentKind) (at : NodeId) (name file path : List ℕ) (header place : ℕ)
    (from : NodeParts) (t : TablePart)
    → LaysOut old tree p → file_step writable tree (Edit.Link at name file path) ≡ Ok after
    → heap_take limit (node_length tree.wide) p.heap ≡ Ok (header, between)
    → heap_take limit (chunk_length_for (length (link_text file path))) between ≡ Ok (place, heap)
    → IsMidEdit (entry_ranges from t (length (children_at tree at.serial))) p old tree (record p { heap = heap })
    (extent ck place (chunk_length_for (length (link_text file path)))
    ∷ extent hk header (node_length tree.wide) ∷ []) a
    → LinkStands a tree name (link_text file path) header place
    → parts_of p at.serial ≡ Some from → from.table ≡ Some t → length (children_at tree at.serial) < t.entries
    → Puts ExtentKind.SubNodes (t.place + 16 + 44 * length (children_at tree at.serial)) 44
    (entry_text (text_field 32 name) (To header)) a middle
    → Puts ExtentKind.Node (from.header + 68) 8 (hex_text 8 (suc (length (children_at tree at.serial)))) middle new
    → IsEditWhole limit writable (Edit.Link at name file path) tree p after
    (with_parts_of_new (record p { heap = heap })
    (link_parts header place (chunk_length_for (length (link_text file path))))) old new

-- or with a longer table, which is taken between the two; the old table is given
abbrev pub LinkIsWholeFull : Type 0
LinkIsWholeFull =
    (limit : ℕ) (writable : Bool) (old a middle new : List ℕ) (tree after : Tree) (p : Placement)
    (between again heap : Heap) (hk tk ck : ExtentKind) (at : NodeId) (name file path : List ℕ)
    (header table place entries : ℕ) (from : NodeParts)
    → LaysOut old tree p → file_step writable tree (Edit.Link at name file path) ≡ Ok after
    → entry_count from.table ≡ length (children_at tree at.serial)
    → entries ≡ grown_entries (length (children_at tree at.serial))
    → heap_take limit (node_length tree.wide) p.heap ≡ Ok (header, between)
    → heap_take limit (table_length entries) between ≡ Ok (table, again)
    → heap_take limit (chunk_length_for (length (link_text file path))) again ≡ Ok (place, heap)
    → table + table_length entries ≤ 2 ^ 44
    → IsMidEdit (longer_ranges from) p old tree (record p { heap = heap })
    (extent ck place (chunk_length_for (length (link_text file path))) ∷ extent tk table (table_length entries)
    ∷ extent hk header (node_length tree.wide) ∷ []) a
    → LinkStands a tree name (link_text file path) header place
    → parts_of p at.serial ≡ Some from
    → field a table (table_length entries)
    ≡ framed_text SubNodes table (used_entries a from.table (length (children_at tree at.serial))
    ++ entry_text (text_field 32 name) (To header)
    ++ unused_entries (entries - suc (length (children_at tree at.serial))))
    → Puts ExtentKind.Node (from.header + 68) 28
    (hex_text 8 (suc (length (children_at tree at.serial))) ++ hex_text 8 entries ++ pointer_text (To table)) a middle
    → GivesAll (table_extents from.table) heap middle new
    → IsEditWhole limit writable (Edit.Link at name file path) tree p after
    (after_gives (with_parts_of_new (record {
      parts = slice_set p.parts at.serial
          (Some (with_longer_table from table entries));
      heap = heap;
    })
    (link_parts header place (chunk_length_for (length (link_text file path))))) (table_extents from.table)) old new
