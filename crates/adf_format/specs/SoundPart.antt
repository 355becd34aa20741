-- The trees that visits of an image make: the whole tree of a sound image, and the sound part of a damaged one.
use Rattle.std.specs.Prelude.{◌≡◌, ℕ, Bool, true, false, ◌&&◌, suc, ◌-◌, min, cond, ◌==◌, List, [], ◌∷◌, ◌++◌, length, map, take, option_map, Option, Some, None}
use Rattle.std.specs.List.{filter_map, flat_map}
use Rattle.std.specs.Str.{bytes_eq}
use Rattle.adf_format.specs.Fields.{field, holds, trimmed}
use Rattle.adf_format.specs.Parts.{format_letter}
use Rattle.adf_format.specs.declared.fields.TheConstants.{HEADER_FORMAT, HEADER_LENGTH, NODE_NAME, NODE_LABEL, NODE_TYPE}
use Rattle.adf_format.specs.RecordFields.{field_in, at_place}
use Rattle.adf_format.specs.declared.types.Format.{Format}
use Rattle.adf_format.specs.Names.{data_size}
use Rattle.adf_format.specs.Tree.{Tree, Node}
use Rattle.adf_format.specs.Checks.{Fault, Survey, first_broken}
use Rattle.adf_format.specs.FirstFault.{Visit, root_visit, child_visits, visit_rows, is_wide, end_in, type_or_mt, dims_in, chunks_in, payloads_in, header_rows, row_of_length, children_in, count_up}

-- the number of the visit at the end of a path
abbrev pub visit_number : List Visit → List ℕ → Option ℕ
visit_number [] path = None
visit_number (v ∷ vs) path = cond (bytes_eq v.path path) (Some 0) (option_map (λ k. suc k) (visit_number vs path))

-- the numbers of a node's children among the visits, in their order
abbrev pub children_among : List ℕ → List Visit → Visit → List ℕ
children_among image visits v = filter_map (λ i. visit_number visits (v.path ++ i ∷ [])) (count_up (children_in image v.place))

abbrev pub data_when : ℕ → List ℕ → Option (List ℕ)
data_when count bytes = cond (count == 0) None (Some bytes)

-- the node that stands at a visit
abbrev pub node_of_visit : List ℕ → Bool → List Visit → Visit → Node
node_of_visit image wide visits v =
    let p = v.place in
    let kind = type_or_mt (field_in image (at_place p NODE_TYPE)) in
    let dims = dims_in image wide p in
    let chunks = chunks_in image wide p in
    record {
      name = trimmed (field_in image (at_place p NODE_NAME));
      label = trimmed (field_in image (at_place p NODE_LABEL));
      kind = kind;
      dims = dims;
      bytes = data_when (length chunks) (take (data_size kind dims) (payloads_in image chunks));
      children = children_among image visits v;
    }

abbrev pub format_in : List ℕ → Format
format_in image = cond (holds image HEADER_FORMAT.offset (format_letter Format.Big)) Format.Big Format.Little

-- the tree that the visits make, numbered in their order
abbrev pub tree_of : List ℕ → List Visit → Tree
tree_of image visits = record {
  wide = is_wide image;
  format = format_in image;
  nodes = map (λ v. Some (node_of_visit image (is_wide image) visits v)) visits;
}

-- the last byte that a damaged file can have
abbrev pub last_byte : List ℕ → ℕ
last_byte image = min (end_in image) (length image - 1)

-- whether a path goes on from another, and further
abbrev pub is_above : List ℕ → List ℕ → Bool
is_above p [] = false
is_above [] (j ∷ q) = true
is_above (i ∷ p) (j ∷ q) = (i == j) && is_above p q

-- the name in the entry that led to a node: none for the root
abbrev pub entry_names : Option (List ℕ) → List (List ℕ)
entry_names None = []
entry_names (Some entry) = trimmed entry ∷ []

-- the names on the way to a visit: those of the kept nodes above it, and that of its own entry
abbrev pub names_to : List Visit → Visit → List (List ℕ)
names_to kept v = flat_map (λ (w : Visit). cond (is_above w.path v.path) (entry_names w.entry) []) kept ++ entry_names v.entry

-- The sound part of an image: its header keeps rules 1 to 7, and of the nodes in tree order those that break
-- a rule are left out with all below them.
pub record IsSoundPart (image : List ℕ) (kept : List Visit) (left : List (Visit × Fault)) : Type 0 where
  pub header : first_broken (row_of_length image ∷ header_rows (field image 0 HEADER_LENGTH)) ≡ None
  pub survey : Survey (visit_rows image (is_wide image) (last_byte image)) (child_visits image) (root_visit image ∷ []) [] [] (kept, left)
