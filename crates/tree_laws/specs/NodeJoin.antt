-- A node that stands in ranges that were taken joins the children of another; and a link is such a node.
use Rattle.std.specs.Prelude.{◌≡◌, ℕ, suc, ◌+◌, ◌-◌, ◌*◌, ◌^◌, ◌<◌, ◌≤◌, Bool, List, [], ◌∷◌, ◌++◌, length, take, replicate, slice_set, Some, None}
use Rattle.adf_format.specs.declared.types.DataType.TheVariants.{Lk}
use Rattle.adf_format.specs.declared.types.Extent.{Extent}
use Rattle.adf_format.specs.declared.types.ExtentKind.{ExtentKind}
use Rattle.adf_format.specs.Hex.{hex_text}
use Rattle.adf_format.specs.Pointer.{Blank, To, pointer_text}
use Rattle.adf_format.specs.Fields.{field, text_field}
use Rattle.adf_format.specs.Tree.{Tree, Node, IsTree, node_at}
use Rattle.adf_format.specs.Tiles.{cover}
use Rattle.adf_format.specs.Parts.{dimension_digits, node_length, table_length}
use Rattle.adf_format.specs.Placement.{Placement, NodeParts, TablePart, extent, parts_of, node_extents, table_extents}
use Rattle.adf_format.specs.LaysOut.{HoldsNode}
use Rattle.adf_format.specs.Changes.{Writes}
use Rattle.adf_format.specs.HeapRule.{chunk}
use Rattle.adf_format.specs.Records.{NodeRecord, SubNodes, Data, node_text, entry_text}
use Rattle.adf_format.specs.Spelled.{framed_text}
use Rattle.adf_model.specs.Creation.{used_entries, unused_entries}
use Rattle.adf_model.specs.Edits.{with_new, new_link}
use Rattle.tree_laws.specs.Holding.{Holds}

-- the placement with the parts of one more node, of the next serial
abbrev pub with_parts_of_new : Placement → NodeParts → Placement
with_parts_of_new p parts = record p { parts = p.parts ++ Some parts ∷ [] }

-- in an unused entry: what was taken is the node's, but for what is kept
abbrev pub NodeJoins : Type 0
NodeJoins =
    (old middle new : List ℕ) (tree : Tree) (p : Placement) (taken kept : List Extent) (s : ℕ)
    (parent child : Node) (from parts : NodeParts) (t : TablePart)
    → Holds old tree p taken → node_at tree s ≡ Some parent → parts_of p s ≡ Some from → from.table ≡ Some t
    → length parent.children < t.entries → suc (length parent.children) < 16 ^ 8
    → length child.name ≤ 32 → parts.header < 2 ^ 44 → child.children ≡ []
    → HoldsNode old tree p child parts
    → ((b : ℕ) → cover (kept ++ node_extents tree.wide parts) b ≡ cover taken b)
    → Writes (t.place + 16 + 44 * length parent.children) (entry_text (text_field 32 child.name) (To parts.header)) old middle
    → Writes (from.header + 68) (hex_text 8 (suc (length parent.children))) middle new
    → IsTree (with_new tree s child) → Holds new (with_new tree s child) (with_parts_of_new p parts) kept

-- with a longer table, which was taken too: the old table is taken from then on
abbrev pub NodeJoinsTable : Type 0
NodeJoinsTable =
    (old new : List ℕ) (tree : Tree) (p : Placement) (taken kept : List Extent) (kind : ExtentKind)
    (s table entries : ℕ) (parent child : Node) (from parts : NodeParts)
    → Holds old tree p (extent kind table (table_length entries) ∷ taken) → node_at tree s ≡ Some parent
    → parts_of p s ≡ Some from
    → suc (length parent.children) < 16 ^ 8 → suc (length parent.children) ≤ entries → entries < 16 ^ 8
    → length child.name ≤ 32 → parts.header < 2 ^ 44 → table + table_length entries ≤ 2 ^ 44
    → child.children ≡ [] → HoldsNode old tree p child parts
    → ((b : ℕ) → cover (kept ++ node_extents tree.wide parts) b ≡ cover taken b)
    → field old table (table_length entries) ≡ framed_text SubNodes table (used_entries old from.table (length parent.children) ++ entry_text (text_field 32 child.name) (To parts.header) ++ unused_entries (entries - suc (length parent.children)))
    → Writes (from.header + 68) (hex_text 8 (suc (length parent.children)) ++ hex_text 8 entries ++ pointer_text (To table)) old new
    → IsTree (with_new tree s child)
    → Holds new (with_new tree s child) (with_parts_of_new (record p { parts = slice_set p.parts s (Some (record from { table = Some (record { place = table; entries = entries }) })) }) parts) (table_extents from.table ++ kept)

-- ---- links

-- the header of a link with a text of so many bytes in one chunk
abbrev pub link_record : Bool → List ℕ → ℕ → ℕ → NodeRecord
link_record wide name size place = record {
  name = text_field 32 name;
  label = text_field 32 [];
  children = 0;
  entries = 0;
  table = Blank;
  kind = Lk;
  rank = 1;
  dims = hex_text (dimension_digits wide) size ∷ replicate 11 (replicate (dimension_digits wide) 48);
  chunks = 1;
  chunk = To place;
}

abbrev pub link_parts : ℕ → ℕ → ℕ → NodeParts
link_parts header place length =
    record { header = header; table = None; chunks = chunk place length ∷ []; chunk_table = None }

-- where its header and its one chunk stand, a link is held
abbrev pub LinkIsHeld : Type 0
LinkIsHeld =
    (image : List ℕ) (tree : Tree) (p : Placement) (name text body : List ℕ) (header place : ℕ)
    → length name ≤ 32 → 0 < length text → length text ≤ 4096 → length text ≤ length body
    → take (length text) body ≡ text
    → place + 20 + length body ≤ 2 ^ 44
    → field image header (node_length tree.wide) ≡ node_text (link_record tree.wide name (length text) place)
    → field image place (20 + length body) ≡ framed_text Data place body
    → HoldsNode image tree p (new_link name text) (link_parts header place (20 + length body))
