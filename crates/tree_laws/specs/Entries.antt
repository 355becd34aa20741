-- Labels, names and entries of tables: what is written, and the tree that the file then holds.
use Rattle.std.specs.Prelude.{◌≡◌, ◌≢◌, ℕ, suc, ◌+◌, ◌-◌, ◌*◌, ◌^◌, ◌<◌, ◌≤◌, Bool, false, not, ◌==◌, List, ◌∷◌, ◌++◌, length, filter, slice_get, slice_set, Some}
use Rattle.std.specs.List.{flat_map}
use Rattle.adf_format.specs.declared.types.Extent.{Extent}
use Rattle.adf_format.specs.declared.types.ExtentKind.{ExtentKind}
use Rattle.adf_format.specs.Hex.{hex_text}
use Rattle.adf_format.specs.Pointer.{To, pointer_text}
use Rattle.adf_format.specs.Fields.{field, text_field}
use Rattle.adf_format.specs.Records.{SubNodes, node_text, entry_text}
use Rattle.adf_format.specs.Spelled.{framed_text}
use Rattle.adf_format.specs.Tree.{Tree, Node, IsTree, node_at, is_within, erased_from}
use Rattle.adf_format.specs.Parts.{NodeFields, SpellsNode, node_length, table_length}
use Rattle.adf_format.specs.Placement.{Placement, NodeParts, TablePart, parts_of, extent, extents_of, table_extents}
use Rattle.adf_format.specs.Changes.{Writes}
use Rattle.adf_format.specs.HeapRule.{with_new_parts}
use Rattle.adf_model.specs.Creation.{empty_node, used_entries, unused_entries}
use Rattle.adf_model.specs.Edits.{with_node, with_new, new_node}
use Rattle.tree_laws.specs.Holding.{Holds}

-- ---- a text of a header

-- a name that is written in a node's header is what the header says, and all else as before
abbrev pub NameWritten : Type 0
NameWritten =
    (wide : Bool) (old new : List ℕ) (place : ℕ) (was : NodeFields) (name : List ℕ)
    → Writes (place + 4) (text_field 32 name) old new → place + node_length wide ≤ length old
    → length name ≤ 32 → length was.dims ≤ 12 → SpellsNode wide (field old place (node_length wide)) was
    → SpellsNode wide (field new place (node_length wide)) (record was { name = name })

-- and so is a label
abbrev pub LabelWritten : Type 0
LabelWritten =
    (wide : Bool) (old new : List ℕ) (place : ℕ) (was : NodeFields) (label : List ℕ)
    → Writes (place + 36) (text_field 32 label) old new → place + node_length wide ≤ length old
    → length label ≤ 32 → length was.dims ≤ 12 → SpellsNode wide (field old place (node_length wide)) was
    → SpellsNode wide (field new place (node_length wide)) (record was { label = label })

-- then the file holds the tree with that label
abbrev pub LabelIsSet : Type 0
LabelIsSet =
    (old new : List ℕ) (tree : Tree) (p : Placement) (taken : List Extent) (s : ℕ) (node : Node)
    (parts : NodeParts) (label : List ℕ)
    → Holds old tree p taken → node_at tree s ≡ Some node → parts_of p s ≡ Some parts
    → length label ≤ 32 → length node.dims ≤ 12 → Writes (parts.header + 36) (text_field 32 label) old new
    → IsTree (with_node tree s (record node { label = label }))
    → Holds new (with_node tree s (record node { label = label })) p taken

-- a name is written in two places, the node's header and its entry of the parent's table
abbrev pub NameIsSet : Type 0
NameIsSet =
    (old middle new : List ℕ) (tree : Tree) (p : Placement) (taken : List Extent) (s par i : ℕ)
    (node parent : Node) (its at : NodeParts) (t : TablePart) (name : List ℕ)
    → Holds old tree p taken → node_at tree s ≡ Some node → parts_of p s ≡ Some its
    → node_at tree par ≡ Some parent → parts_of p par ≡ Some at → at.table ≡ Some t
    → slice_get parent.children i ≡ Some s → par ≢ s
    → length name ≤ 32 → length node.dims ≤ 12 → its.header < 2 ^ 44
    → Writes (its.header + 4) (text_field 32 name) old middle
    → Writes (t.place + 16 + 44 * i) (entry_text (text_field 32 name) (To its.header)) middle new
    → IsTree (with_node tree s (record node { name = name }))
    → Holds new (with_node tree s (record node { name = name })) p taken

-- ---- new nodes

-- a node whose header stands in a range that was taken joins the children of another, in an unused entry of its table
abbrev pub EntryJoins : Type 0
EntryJoins =
    (old middle new : List ℕ) (tree : Tree) (p : Placement) (taken : List Extent) (kind : ExtentKind)
    (s place : ℕ) (parent : Node) (name label : List ℕ) (from : NodeParts) (t : TablePart)
    → Holds old tree p (extent kind place (node_length tree.wide) ∷ taken)
    → node_at tree s ≡ Some parent → parts_of p s ≡ Some from → from.table ≡ Some t
    → length parent.children < t.entries → suc (length parent.children) < 16 ^ 8 → length parent.dims ≤ 12
    → length name ≤ 32 → length label ≤ 32 → place < 2 ^ 44
    → field old place (node_length tree.wide) ≡ node_text (empty_node tree.wide name label)
    → Writes (t.place + 16 + 44 * length parent.children) (entry_text (text_field 32 name) (To place)) old middle
    → Writes (from.header + 68) (hex_text 8 (suc (length parent.children))) middle new
    → IsTree (with_new tree s (new_node name label))
    → Holds new (with_new tree s (new_node name label)) (with_new_parts p place) taken

-- a node and a longer table, both in ranges that were taken, join a parent: the old table is taken from then on
abbrev pub TableJoins : Type 0
TableJoins =
    (old new : List ℕ) (tree : Tree) (p : Placement) (taken : List Extent) (kind other : ExtentKind)
    (s place table entries : ℕ) (parent : Node) (name label : List ℕ) (from : NodeParts)
    → Holds old tree p
    (extent other table (table_length entries) ∷ extent kind place (node_length tree.wide) ∷ taken)
    → node_at tree s ≡ Some parent → parts_of p s ≡ Some from
    → suc (length parent.children) < 16 ^ 8 → length parent.dims ≤ 12
    → suc (length parent.children) ≤ entries → entries < 16 ^ 8
    → length name ≤ 32 → length label ≤ 32 → place < 2 ^ 44 → table + table_length entries ≤ 2 ^ 44
    → field old place (node_length tree.wide) ≡ node_text (empty_node tree.wide name label)
    → field old table (table_length entries)
    ≡ framed_text SubNodes table (used_entries old from.table (length parent.children)
    ++ entry_text (text_field 32 name) (To place)
    ++ unused_entries (entries - suc (length parent.children)))
    → Writes (from.header + 68)
    (hex_text 8 (suc (length parent.children)) ++ hex_text 8 entries ++ pointer_text (To table)) old new
    → IsTree (with_new tree s (new_node name label))
    → Holds new (with_new tree s (new_node name label))
    (with_new_parts (record p {
      parts = slice_set p.parts s
          (Some (record from { table = Some (record { place = table; entries = entries }) }));
    }) place)
    (table_extents from.table ++ taken)

-- ---- nodes that go

-- A node and all below it are taken out where the entries behind its own move up and the count falls: the file holds
-- the tree without them, and their parts are taken.
abbrev pub NodesAreErased : Type 0
NodesAreErased =
    (old middle new : List ℕ) (tree : Tree) (p : Placement) (taken : List Extent) (s par i : ℕ)
    (parent : Node) (at : NodeParts) (t : TablePart)
    → Holds old tree p taken → node_at tree par ≡ Some parent → parts_of p par ≡ Some at
    → at.table ≡ Some t → slice_get parent.children i ≡ Some s
    → is_within tree s par ≡ false → is_within tree s 0 ≡ false
    → length parent.dims ≤ 12 → length parent.children < 16 ^ 8
    → Writes (t.place + 16 + 44 * i)
    (field old (t.place + 16 + 44 * suc i) (44 * (length parent.children - suc i))) old middle
    → Writes (at.header + 68) (hex_text 8 (length parent.children - 1)) middle new
    → IsTree (record tree {
      nodes = erased_from 0 (is_within tree s) (slice_set tree.nodes par
          (Some (record parent { children = filter (λ c. not (c == s)) parent.children })));
    })
    → Holds new (record tree {
      nodes = erased_from 0 (is_within tree s) (slice_set tree.nodes par
          (Some (record parent { children = filter (λ c. not (c == s)) parent.children })));
    })
    (record p { parts = erased_from 0 (is_within tree s) p.parts })
    (flat_map (extents_of tree.wide) (erased_from 0 (λ k. not (is_within tree s k)) p.parts) ++ taken)
