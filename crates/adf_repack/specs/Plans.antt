-- What a copy is made of, before it is written.
use Rattle.std.specs.Prelude.{◌≡◌, ◌⊎◌, ℕ, ◌+◌, ◌*◌, ◌^◌, ◌<◌, ◌≤◌, Bool, List, [], ◌∷◌, ◌++◌, length, take, get_or, slice_get, Option, None, Some, IfSome}
use Rattle.adf_format.specs.Pointer.{To, place_value}
use Rattle.adf_format.specs.Records.{NodeRecord, SubNodes, head_text, end_tag, node_text, node_record}
use Rattle.cg_io.specs.Device.{bytes_at}
use Rattle.node_reads.specs.Reads.{Breaks}
use Rattle.node_reads.specs.Headers.{header_rows}
use Rattle.adf_format.specs.Parts.{node_length, dimension_digits}
use Rattle.std.specs.List.{Contains, flat_map, sum_by}
use Rattle.adf_format.specs.FirstFault.{count_up}
use Rattle.layout_lint.specs.declared.verdict.NodePlace.{NodePlace}
use Rattle.adf_repack.specs.declared.places.NodeShape.{NodeShape}
use Rattle.adf_repack.specs.declared.plan.Plan.{Plan}
use Rattle.adf_repack.specs.Families.{children_of, IsChain}
use Rattle.adf_repack.specs.Places.{place_of, length_of, table_room, room_of}
use Rattle.adf_repack.specs.Copies.{copied_entries, copied_record, numbers_in, BreaksNames}
use Rattle.adf_repack.specs.Payloads.{copied_data, BreaksContents}

abbrev pub no_shape : NodeShape
no_shape = record { children = 0; size = None }

abbrev pub shape_at : Plan → ℕ → NodeShape
shape_at plan k = get_or plan.shapes.items k no_shape

-- where the header of a node stands in the copy
abbrev pub header_at : Plan → ℕ → ℕ
header_at plan k = place_of plan.wide plan.shapes.items k

-- the children of each node and their numbers, and the places that follow from the shapes, within what pointers reach
pub record IsPlan (nodes : List NodePlace) (plan : Plan) : Type 0 where
  pub first : length plan.families.first.items ≡ length nodes
  pub next : length plan.families.next.items ≡ length nodes
  pub count : length plan.families.count.items ≡ length nodes
  pub lists : (k : ℕ) → k < length nodes → IsChain plan.families.next.items (get_or plan.families.first.items k 0) (children_of nodes k)
  pub counts : (k : ℕ) → k < length nodes → get_or plan.families.count.items k 0 ≡ length (children_of nodes k)
  pub shapes : length plan.shapes.items ≡ length nodes
  pub children : (k : ℕ) → k < length nodes → (shape_at plan k).children ≡ length (children_of nodes k)
  pub few : (k : ℕ) → k < length nodes → (shape_at plan k).children ≤ 2 ^ 20
  pub headers : length plan.headers.items ≡ length nodes
  pub places : (k : ℕ) → k < length nodes → get_or plan.headers.items k 0 ≡ header_at plan k
  pub near : length_of plan.wide plan.shapes.items ≤ 2 ^ 44

-- a table of children at a place of the copy, by the table of their parent
abbrev pub copied_table : List ℕ → ℕ → List NodePlace → List ℕ → List ℕ → ℕ → List ℕ
copied_table image table nodes headers children place =
    head_text SubNodes (To (place + 16 + 44 * length children)) ++ (copied_entries image table nodes headers children ++ end_tag SubNodes)

-- ---- a node of a copy

-- no bytes without children
abbrev pub copied_children : List ℕ → ℕ → List NodePlace → List ℕ → List ℕ → ℕ → List ℕ
copied_children image table nodes headers [] place = []
copied_children image table nodes headers (k ∷ ks) place = copied_table image table nodes headers (k ∷ ks) place

-- where the table of children stands that a header names; 0 where there is none
abbrev pub table_in : NodeRecord → ℕ
table_in r = place_value (Some r.table)

-- its parts, by what its header says
abbrev pub copied_node : List ℕ → List NodePlace → Plan → ℕ → NodeRecord → List ℕ
copied_node image nodes plan k r =
    let shape = shape_at plan k in
    let table = header_at plan k + node_length plan.wide in
    node_text (copied_record plan.wide r (header_at plan k) shape)
    ++ (copied_children image (table_in r) nodes plan.headers.items (children_of nodes k) table ++ copied_data image r shape.size (table + table_room shape.children))

-- a dimension that the version has no digits for
abbrev pub HasLong : Bool → NodeRecord → Type 0
HasLong wide r = (d : ℕ) × Contains (take r.rank (numbers_in r)) d × (16 ^ dimension_digits wide ≤ d)

-- what of the parts of a node breaks a rule: a dimension that is too long, a name or the data
abbrev pub BreaksParts : Option (List ℕ) → Bool → List NodePlace → Plan → ℕ → ℕ → NodeRecord → ℕ → ℕ → Type 0
BreaksParts held wide nodes plan k place r rule at =
    ((rule ≡ 21) × (at ≡ place) × HasLong plan.wide r)
    ⊎ (BreaksNames (table_in r) nodes (children_of nodes k) rule at ⊎ BreaksContents held wide r place (shape_at plan k).size rule at)

-- ---- by the place of the old header

abbrev pub place_in : Option NodePlace → ℕ
place_in None = 0
place_in (Some n) = n.place

abbrev pub old_place : List NodePlace → ℕ → ℕ
old_place nodes k = place_in (slice_get nodes k)

-- what the header at a place says
abbrev pub record_at : List ℕ → Bool → ℕ → NodeRecord
record_at image wide place = node_record wide (bytes_at image place (node_length wide))

abbrev pub copied_at : List ℕ → Bool → List NodePlace → Plan → ℕ → List ℕ
copied_at image wide nodes plan k = copied_node image nodes plan k (record_at image wide (old_place nodes k))

-- something holds of what the header at a place says
pub record SaysAt (held : Option (List ℕ)) (wide : Bool) (place : ℕ) (P : NodeRecord → Type 0) : Type 0 where
  pub header : NodeRecord
  pub read : IfSome held (λ image. header ≡ record_at image wide place)
  pub so : P header

-- rules 15 to 21 of its header, or a rule of what the header leads to
abbrev pub BreaksNode : Option (List ℕ) → Bool → List NodePlace → Plan → ℕ → ℕ → ℕ → Type 0
BreaksNode held wide nodes plan k rule at =
    Breaks held (old_place nodes k) (node_length wide) (header_rows wide (old_place nodes k) None) rule at
    ⊎ SaysAt held wide (old_place nodes k) (λ r. BreaksParts held wide nodes plan k (old_place nodes k) r rule at)

-- ---- all nodes

-- the first nodes, one behind the other
abbrev pub copied_until : List ℕ → Bool → List NodePlace → Plan → ℕ → List ℕ
copied_until image wide nodes plan n = flat_map (λ k. copied_at image wide nodes plan k) (count_up n)

-- how many bytes they have
abbrev pub room_until : Plan → ℕ → ℕ
room_until plan n = sum_by (room_of plan.wide) (take n plan.shapes.items)

-- a rule of one of the nodes is broken
pub record BreaksOne (held : Option (List ℕ)) (wide : Bool) (nodes : List NodePlace) (plan : Plan) (rule at : ℕ) : Type 0 where
  pub number : ℕ
  pub within : number < length nodes
  pub breaks : BreaksNode held wide nodes plan number rule at
