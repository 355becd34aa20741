-- What is written of a node, by its header as it was read, and what appending it does.
use Rattle.std.specs.List.{Contains}
use Rattle.std.specs.Prelude.{◌≡◌, ◌⊎◌, ℕ, ◌+◌, ◌*◌, ◌==◌, ◌≤◌, Bool, not, cond, List, [], unwrap_or, slice_index_or, length, take, is_some, map, slice_get, get_or, option_map, Option, None, Some, Result, OnOk, IfErr}
use Rattle.adf_format.specs.Fields.{text_field}
use Rattle.adf_format.specs.Pointer.{Pointer, Blank, To}
use Rattle.adf_format.specs.Parts.{node_length}
use Rattle.adf_format.specs.Records.{NodeRecord, entry_text}
use Rattle.adf_format.specs.Tree.{Node}
use Rattle.adf_model.specs.declared.error.AdfError.{AdfError}
use Rattle.cg_io.specs.Cause.{Rose}
use Rattle.cg_io.specs.Device.{DeviceState, bytes_at}
use Rattle.adf_format.specs.Hex.{hex_value}
use Rattle.adf_format.specs.FirstFault.{count_up}
use Rattle.packed_laws.specs.PackedForm.{packed_dims, packed_parts, packed_record}
use Rattle.layout_lint.specs.declared.verdict.NodePlace.{NodePlace}
use Rattle.adf_format.specs.Spelled.{in_row}
use Rattle.adf_repack.specs.declared.places.NodeShape.{NodeShape}
use Rattle.adf_repack.specs.declared.writer.BlockWriter.{BlockWriter}
use Rattle.adf_model.specs.Counts.{OnlyReads}
use Rattle.cg_io.specs.declared.pages.Page.{Page}
use Rattle.cg_io.specs.Pages.{IsReady}
use Rattle.adf_repack.specs.Sources.{IsUnread, IsBroken, IsBeyond}
use Rattle.adf_repack.specs.Places.{table_room, shape_of}
use Rattle.adf_repack.specs.Writers.{IsWriter, appended_in, with_more, count_in, blocks_in, state_under, WritesBlocks, OnlyWrites, blocks_for, in_blocks}

-- ---- a header

-- a pointer to a place, or the blank one
abbrev pub pointer_when : Bool → ℕ → Pointer
pointer_when there place = cond there (To place) Blank

-- the twelve dimensions of a header as numbers
abbrev pub numbers_in : NodeRecord → List ℕ
numbers_in r = map (λ i. unwrap_or (hex_value (slice_index_or r.dims i [])) 0) (count_up 12)

-- the record of a node, of which the header in the new file stands at a place: texts, type and dimensions are those that were read
abbrev pub copied_record : Bool → NodeRecord → ℕ → NodeShape → NodeRecord
copied_record wide h place shape = record {
  name = h.name;
  label = h.label;
  children = shape.children;
  entries = shape.children;
  table = pointer_when (not (shape.children == 0)) (place + node_length wide);
  kind = h.kind;
  rank = h.rank;
  dims = packed_dims wide (take h.rank (numbers_in h));
  chunks = cond (is_some shape.size) 1 0;
  chunk = pointer_when (is_some shape.size) (place + node_length wide + table_room shape.children);
}

-- a header has the texts, the type and the dimensions of a node
pub record IsHeaderOf (h : NodeRecord) (node : Node) : Type 0 where
  pub name : h.name ≡ text_field 32 node.name
  pub label : h.label ≡ text_field 32 node.label
  pub kind : h.kind ≡ node.kind
  pub rank : h.rank ≡ length node.dims
  pub dims : take h.rank (numbers_in h) ≡ node.dims

-- what is written of the header of a node is what the packed file has there
abbrev pub CopiedIsPacked : Type 0
CopiedIsPacked = (wide : Bool) (h : NodeRecord) (place : ℕ) (node : Node) → IsHeaderOf h node
    → copied_record wide h place (shape_of node) ≡ packed_record wide node (packed_parts wide place node)

-- ---- what is appended

-- a failed write of the device, whose counts rose
pub record IsUnwritten (old new : DeviceState) (e : AdfError) : Type 0 where
  pub is : e ≡ AdfError.WriteFault
  pub faults : Rose old.faults new.faults
  pub lost : Rose old.lost new.lost

-- These bytes are appended, or a write of the device failed. It is not read, and each block is written once.
pub record Appends {E : Type 0} (state : E → DeviceState) (bytes : List ℕ) (old new : BlockWriter E) (result : Result Unit AdfError) : Type 0 where
  pub sound : OnOk result (IsWriter state new)
  pub appended : OnOk result (appended_in state new ≡ with_more (appended_in state old) bytes)
  pub count : OnOk result (count_in new ≡ count_in old + length bytes)
  pub wrote : OnOk result (WritesBlocks (blocks_in old) (blocks_in new) (state_under state old) (state_under state new))
  pub effect : OnlyWrites (state_under state old) (state_under state new)
  pub later : (state_under state old).faults ≤ (state_under state new).faults
  pub lost : (state_under state old).lost ≤ (state_under state new).lost
  pub cause : IfErr result (IsUnwritten (state_under state old) (state_under state new))

-- As many bytes as these of the file are appended, and where it tells its bytes these; or a read of it or a write of the device failed, or what was
-- read breaks a rule. The file is only read.
pub record Copies {B E : Type 0} (is_sound : B → Type 0) (source : B → DeviceState) (target : E → DeviceState) (broken : ℕ → ℕ → Type 0) (n : ℕ) (text : List ℕ → List ℕ)
    (before after : B) (page : Page) (old new : BlockWriter E) (result : Result Unit AdfError) : Type 0 where
  pub ready : IsReady (is_sound after) (source after).held page
  pub reads : OnlyReads (source before) (source after)
  pub sound : OnOk result (IsWriter target new)
  pub appended : OnOk result ((image : List ℕ) → (source before).held ≡ Some image → appended_in target new ≡ with_more (appended_in target old) (text image))
  pub count : OnOk result (count_in new ≡ count_in old + n)
  pub wrote : OnOk result (WritesBlocks (blocks_in old) (blocks_in new) (state_under target old) (state_under target new))
  pub effect : OnlyWrites (state_under target old) (state_under target new)
  pub later : (state_under target old).faults ≤ (state_under target new).faults
  pub lost : (state_under target old).lost ≤ (state_under target new).lost
  pub cause : IfErr result (λ e. IsUnread (source before).faults (source after).faults e ⊎ (IsUnwritten (state_under target old) (state_under target new) e ⊎ IsBroken broken e))

-- no rule
abbrev pub no_rule : ℕ → ℕ → Type 0
no_rule rule place = ⊥

-- ---- the entries of a table

abbrev pub position_in : Option NodePlace → ℕ
position_in None = 0
position_in (Some n) = n.position

-- the entry of a child: the name field as it stands in the table of its parent, and the place of its header in the copy
abbrev pub copied_entry : List ℕ → ℕ → List NodePlace → List ℕ → ℕ → List ℕ
copied_entry image table nodes headers child = entry_text (bytes_at image (table + 16 + 44 * position_in (slice_get nodes child)) 32) (To (get_or headers child 0))

abbrev pub copied_entries : List ℕ → ℕ → List NodePlace → List ℕ → List ℕ → List ℕ
copied_entries image table nodes headers children = in_row (map (copied_entry image table nodes headers) children)

-- rule 24 of the entry of one of some children in the table at a place
pub record BreaksNames (table : ℕ) (nodes : List NodePlace) (children : List ℕ) (rule at : ℕ) : Type 0 where
  pub child : ℕ
  pub one : Contains children child
  pub breaks : IsBeyond (table + 16 + 44 * position_in (slice_get nodes child)) rule at

-- All that was appended and these bytes of the file stand on the device, with zeros up to the end of the last block; or a read or a write failed, or
-- what was read breaks a rule. The file is only read.
pub record Writes {B E : Type 0} (is_sound : B → Type 0) (source : B → DeviceState) (target : E → DeviceState) (broken : ℕ → ℕ → Type 0) (n : ℕ) (text : List ℕ → List ℕ)
    (before after : B) (page : Page) (old new : BlockWriter E) (result : Result Unit AdfError) : Type 0 where
  pub ready : IsReady (is_sound after) (source after).held page
  pub reads : OnlyReads (source before) (source after)
  pub held : OnOk result ((image : List ℕ) → (source before).held ≡ Some image → (state_under target new).held ≡ option_map in_blocks (with_more (appended_in target old) (text image)))
  pub wrote : OnOk result (WritesBlocks (blocks_in old) (blocks_for (count_in old + n)) (state_under target old) (state_under target new))
  pub effect : OnlyWrites (state_under target old) (state_under target new)
  pub later : (state_under target old).faults ≤ (state_under target new).faults
  pub lost : (state_under target old).lost ≤ (state_under target new).lost
  pub cause : IfErr result (λ e. IsUnread (source before).faults (source after).faults e ⊎ (IsUnwritten (state_under target old) (state_under target new) e ⊎ IsBroken broken e))
