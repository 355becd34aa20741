-- What an edit makes of a tree, or why it is refused; and a group of edits on one tree.
use Rattle.std.specs.Prelude.{◌≡◌, IsSome, ℕ, suc, ◌+◌, ◌-◌, ◌*◌, ◌^◌, Bool, false, not, ◌&&◌, ◌||◌, ◌==◌, nat_le, nat_lt, if◌then◌else◌, List, [], ◌∷◌, ◌++◌, length, take, replicate, filter, slice_set, Option, Some, None, is_some, option_map, unwrap_or, Result, Ok, Err}
use Rattle.std.specs.List.{list_any}
use Rattle.adf_model.specs.declared.error.AdfError.{AdfError}
use Rattle.adf_model.specs.declared.error.AdfError.TheVariants.{ReadOnly, NoSuchNode, NotAChild, BadName, Duplicate, BadLabel, BadShape, NoData, BadRange, WrongLength, IntoItself, TooDeep, LinkMissing, BadLink, TooLarge, TooManyChildren}
use Rattle.adf_model.specs.declared.error.EditError.{EditError}
use Rattle.adf_format.specs.declared.types.DataType.TheVariants.{Mt, Lk}
use Rattle.adf_model.specs.declared.tree.Edit.{Edit}
use Rattle.adf_model.specs.declared.tree.Edit.TheVariants.{Create, Delete, Rename, Move, SetLabel, SetDims, PutAll, PutPart, Link}
use Rattle.adf_model.specs.declared.tree.NodeId.{NodeId}
use Rattle.adf_model.specs.declared.tree.Selection.{Selection}
use Rattle.adf_model.specs.declared.tree.Shape.{Shape}
use Rattle.adf_format.specs.Names.{is_name, is_label, is_same_type, element_size, data_size, is_mt, is_lk}
use Rattle.adf_model.specs.Shapes.{is_shape, dims_of}
use Rattle.adf_model.specs.Tests.{Test, checked, and_then, if_there}
use Rattle.adf_model.specs.Follow.{Follower, reach_by, stay}
use Rattle.adf_format.specs.Tree.{Node, Tree, next_serial, node_at, is_live, children_at, name_at, is_link_in, parent_of, depth_of, is_within, subtree, first_named, erased_from}
use Rattle.adf_format.specs.Links.{is_link_file, is_link_path, link_text}
use Rattle.adf_model.specs.Selection.{selection_fits, elements, with_elements}

-- the tree with this node at a serial
abbrev pub with_node : Tree → ℕ → Node → Tree
with_node tree serial node = record tree { nodes = slice_set tree.nodes serial (Some node) }

-- a live node with these as its children
abbrev pub given_children : List ℕ → Option Node → Option Node
given_children serials None = None
given_children serials (Some node) = Some (record node { children = serials })

-- the tree with these as the children of a node
abbrev pub with_children : Tree → ℕ → List ℕ → Tree
with_children tree serial serials = record tree { nodes = slice_set tree.nodes serial (given_children serials (node_at tree serial)) }

-- the children of a node but for one
abbrev pub other_children : Tree → ℕ → ℕ → List ℕ
other_children tree serial child = filter (λ c. not (c == child)) (children_at tree serial)

-- the tree with a new node, of the next serial, as the last child
abbrev pub with_new : Tree → ℕ → Node → Tree
with_new tree serial node = let more = with_children tree serial (children_at tree serial ++ next_serial tree ∷ []) in record more { nodes = more.nodes ++ Some node ∷ [] }

-- the tree without a node and all below it, its parent's list closed up
abbrev pub without : Tree → ℕ → ℕ → Tree
without tree from serial = let rest = with_children tree from (other_children tree from serial) in record rest { nodes = erased_from 0 (is_within tree serial) rest.nodes }

-- the tree with a node taken from its parent and appended at another, or last at the same
abbrev pub moved : Tree → ℕ → ℕ → ℕ → Tree
moved tree from to serial = let rest = with_children tree from (other_children tree from serial) in with_children rest to (children_at rest to ++ serial ∷ [])

abbrev pub new_node : List ℕ → List ℕ → Node
new_node name label = record { name = name; label = label; kind = Mt; dims = []; bytes = None; children = [] }

abbrev pub new_link : List ℕ → List ℕ → Node
new_link name text = record { name = name; label = []; kind = Lk; dims = length text ∷ []; bytes = Some text; children = [] }

-- the first bytes, up to a length, and zeros for what is missing
abbrev pub resized : List ℕ → ℕ → List ℕ
resized bytes size = take size bytes ++ replicate (size - length bytes) 0

abbrev pub size_of : Node → ℕ
size_of node = data_size node.kind node.dims

-- whether data stay when a node gets a shape: the type and the rank are the same, and there are data
abbrev pub keeps_data : Node → Shape → Bool
keeps_data node shape = is_same_type node.kind shape.kind && (length node.dims == shape.rank) && is_some node.bytes

-- the node with another shape; data that stay are cut or filled up with zeros
abbrev pub with_shape : Node → Shape → Node
with_shape node shape = record node { kind = shape.kind; dims = dims_of shape; bytes = (if keeps_data node shape then option_map (λ bytes. resized bytes (data_size shape.kind (dims_of shape))) node.bytes else None) }

-- the node with some elements set, over zeros where there were no data
abbrev pub with_part : Node → Selection → List ℕ → Node
with_part node selection given = record node { bytes = Some (with_elements (element_size node.kind) (elements node.dims selection) given (unwrap_or node.bytes (replicate (size_of node) 0))) }

-- the bytes that a selection of a node's data has
abbrev pub part_size : Node → Selection → ℕ
part_size node selection = element_size node.kind * length (elements node.dims selection)

abbrev pub size_limit : ℕ
size_limit = 2 ^ 30

-- the children and the depth of a parent leave room
abbrev pub room_tests : Tree → ℕ → List Test
room_tests tree serial =
    (nat_le (2 ^ 20) (length (children_at tree serial)), TooManyChildren)
    ∷ (nat_le 255 (depth_of tree serial), TooDeep)
    ∷ []

abbrev pub serials_used_up : Tree → Bool
serials_used_up tree = nat_le (2 ^ 48) (next_serial tree)

-- whether one of these children has the name
abbrev pub has_named : Tree → List ℕ → List ℕ → Bool
has_named tree serials wanted = is_some (first_named tree serials wanted)

abbrev pub create_tests : Tree → ℕ → List ℕ → List ℕ → List Test
create_tests tree serial wanted label =
    (not (is_name wanted), BadName)
    ∷ (not (is_label label), BadLabel)
    ∷ (has_named tree (children_at tree serial) wanted, Duplicate)
    ∷ room_tests tree serial
    ++ (serials_used_up tree, TooLarge) ∷ []

abbrev pub link_tests : Tree → ℕ → List ℕ → List ℕ → List ℕ → List Test
link_tests tree serial wanted file path =
    (not (is_name wanted), BadName)
    ∷ (has_named tree (children_at tree serial) wanted, Duplicate)
    ∷ room_tests tree serial
    ++ (not (is_link_file file && is_link_path path), BadLink)
    ∷ (nat_lt 4096 (length (link_text file path)) || serials_used_up tree, TooLarge)
    ∷ []

-- a move below itself; the name at the new parent; its room, where the deepest node of the subtree counts
abbrev pub move_tests : Tree → ℕ → ℕ → List Test
move_tests tree serial to =
    (is_within tree serial to, IntoItself)
    ∷ (has_named tree (other_children tree to serial) (name_at tree serial), Duplicate)
    ∷ (nat_le (2 ^ 20) (length (children_at tree to)), TooManyChildren)
    ∷ (list_any (λ below. nat_lt 255 (depth_of tree to + 1 + (depth_of tree below - depth_of tree serial))) (subtree tree serial), TooDeep)
    ∷ []

-- in a wide file a size counts only where the data are kept
abbrev pub shape_tests : Bool → Node → Shape → List Test
shape_tests wide node shape =
    (not (is_shape wide shape) || is_lk shape.kind, BadShape)
    ∷ (nat_lt size_limit (data_size shape.kind (dims_of shape)) && (not wide || keeps_data node shape), TooLarge)
    ∷ []

abbrev pub data_tests : Node → List Test
data_tests node =
    (is_mt node.kind, NoData)
    ∷ (nat_lt size_limit (size_of node), TooLarge)
    ∷ []

-- whether the bytes given are not as many as wanted
abbrev pub length_test : ℕ → List ℕ → Test
length_test want given = (not (length given == want), WrongLength want (length given))

-- the tree after an edit of live nodes that are no links where links are followed, or the first refusal
abbrev pub apply : Tree → Edit → Result Tree AdfError
apply tree (Create at wanted label) =
    checked (create_tests tree at.serial wanted label) (Ok (with_new tree at.serial (new_node wanted label)))
apply tree (Delete node) =
    if_there (parent_of tree node.serial) NotAChild (λ from. Ok (without tree from node.serial))
apply tree (Rename node wanted) =
    if_there (parent_of tree node.serial) NotAChild (λ from.
    checked ((not (is_name wanted), BadName) ∷ (has_named tree (other_children tree from node.serial) wanted, Duplicate) ∷ [])
    (if_there (node_at tree node.serial) NoSuchNode (λ n. Ok (with_node tree node.serial (record n { name = wanted })))))
apply tree (Move node to) =
    if_there (parent_of tree node.serial) NotAChild (λ from.
    checked (move_tests tree node.serial to.serial) (Ok (moved tree from to.serial node.serial)))
apply tree (SetLabel node label) =
    if_there (node_at tree node.serial) NoSuchNode (λ n.
    checked ((not (is_label label), BadLabel) ∷ []) (Ok (with_node tree node.serial (record n { label = label }))))
apply tree (SetDims node shape) =
    if_there (node_at tree node.serial) NoSuchNode (λ n.
    checked (shape_tests tree.wide n shape) (Ok (with_node tree node.serial (with_shape n shape))))
apply tree (PutAll node given) =
    if_there (node_at tree node.serial) NoSuchNode (λ n.
    checked (data_tests n ++ length_test (size_of n) given ∷ []) (Ok (with_node tree node.serial (record n { bytes = Some given }))))
apply tree (PutPart node selection given) =
    if_there (node_at tree node.serial) NoSuchNode (λ n.
    checked (data_tests n ++ (not (selection_fits n.dims selection), BadRange) ∷ length_test (part_size n selection) given ∷ [])
    (Ok (with_node tree node.serial (with_part n selection given))))
apply tree (Link at wanted file path) =
    checked (link_tests tree at.serial wanted file path) (Ok (with_new tree at.serial (new_link wanted (link_text file path))))

-- the nodes that an edit names: the node, then the parent
abbrev pub named_nodes : Edit → List NodeId
named_nodes (Create at wanted label) = at ∷ []
named_nodes (Delete node) = node ∷ []
named_nodes (Rename node wanted) = node ∷ []
named_nodes (Move node to) = node ∷ to ∷ []
named_nodes (SetLabel node label) = node ∷ []
named_nodes (SetDims node shape) = node ∷ []
named_nodes (PutAll node given) = node ∷ []
named_nodes (PutPart node selection given) = node ∷ []
named_nodes (Link at wanted file path) = at ∷ []

-- the node of an edit that is reached through links, if there is one
abbrev pub followed : Edit → Option NodeId
followed (Create at wanted label) = Some at
followed (Delete node) = None
followed (Rename node wanted) = None
followed (Move node to) = Some to
followed (SetLabel node label) = Some node
followed (SetDims node shape) = Some node
followed (PutAll node given) = Some node
followed (PutPart node selection given) = Some node
followed (Link at wanted file path) = Some at

-- the edit with another node in the place of the one that is reached through links
abbrev pub with_followed : Edit → NodeId → Edit
with_followed (Create at wanted label) there = Create there wanted label
with_followed (Delete node) there = Delete node
with_followed (Rename node wanted) there = Rename node wanted
with_followed (Move node to) there = Move node there
with_followed (SetLabel node label) there = SetLabel there label
with_followed (SetDims node shape) there = SetDims there shape
with_followed (PutAll node given) there = PutAll there given
with_followed (PutPart node selection given) there = PutPart there selection given
with_followed (Link at wanted file path) there = Link there wanted file path

-- the node that an edit makes, in the file of its parent
abbrev pub created_by : Tree → Edit → List NodeId
created_by tree (Create at wanted label) = record { file = at.file; serial = next_serial tree } ∷ []
created_by tree (Link at wanted file path) = record { file = at.file; serial = next_serial tree } ∷ []
created_by tree edit = []

-- whether a node that is named where links are followed is a link
abbrev pub names_link : Tree → Option NodeId → Bool
names_link tree None = false
names_link tree (Some node) = is_link_in (node_at tree node.serial)

-- where an edit goes through links, it is one of a live node that is no link
pub record IsReached (tree : Tree) (edit : Edit) : Type 0 where
  pub live : (node : NodeId) → followed edit ≡ Some node → IsSome (node_at tree node.serial)
  pub no_link : names_link tree (followed edit) ≡ false

-- ---- an edit through links

abbrev pub resolved_by : Follower → Edit → Option NodeId → Result Edit AdfError
resolved_by follow edit None = Ok edit
resolved_by follow edit (Some node) = and_then (reach_by follow node) (λ there. Ok (with_followed edit there))

-- the edit with the node that a follower leads to
abbrev pub resolve_by : Follower → Edit → Result Edit AdfError
resolve_by follow edit = resolved_by follow edit (followed edit)

-- an edit whose nodes pass these tests, of the node that a follower leads to: over many files and within one
abbrev pub edit_by : {A : Type 0} → (List NodeId → List Test) → Follower → (Edit → Result A AdfError) → Edit → Result A AdfError
edit_by tests follow done edit = checked (tests (named_nodes edit)) (and_then (resolve_by follow edit) done)

-- ---- one file

-- each node is live
abbrev pub live_tests : Tree → List NodeId → List Test
live_tests tree nodes = (list_any (λ node. not (is_live tree node.serial)) nodes, NoSuchNode) ∷ []

-- the refusals of one file that come before it reads anything: an earlier write failed, or a named node is not live
abbrev pub file_tests_at_entry : Bool → Tree → List NodeId → List Test
file_tests_at_entry broken tree nodes = (broken, AdfError.Broken) ∷ live_tests tree nodes

-- an edit of these very nodes, where the file may be edited
abbrev pub apply_where : Bool → Tree → Edit → Result Tree AdfError
apply_where writable tree edit = checked ((not writable, ReadOnly) ∷ []) (apply tree edit)

-- one edit of one file, within which no link is followed
abbrev pub file_step : Bool → Tree → Edit → Result Tree AdfError
file_step writable tree edit = edit_by (live_tests tree) (stay tree) (apply_where writable tree) edit

-- what this tests, in order: a node that is named where links are followed is no link
abbrev pub reach_tests : Tree → Edit → List Test
reach_tests tree edit = live_tests tree (named_nodes edit) ++ (names_link tree (followed edit), LinkMissing) ∷ []

-- a tree, and the nodes that were made on the way to it
pub record Work : Type 0 where
  pub tree : Tree
  pub created : List NodeId

-- the refusal of an edit, with its index
abbrev pub at_edit : {A B : Type 0} → ℕ → Result A AdfError → (A → Result B EditError) → Result B EditError
at_edit at (Ok a) next = next a
at_edit at (Err error) next = Err (record { at = at; error = error })

-- the edits of a group one after another, counted from `at`; the first refusal ends it
abbrev pub file_group_from : Bool → ℕ → Work → List Edit → Result Work EditError
file_group_from writable at work [] = Ok work
file_group_from writable at work (edit ∷ edits) =
    at_edit at (file_step writable work.tree edit) (λ tree.
    file_group_from writable (suc at) (record { tree = tree; created = work.created ++ created_by work.tree edit }) edits)

-- a group of edits on the tree of one file
abbrev pub file_group : Bool → Tree → List Edit → Result Work EditError
file_group writable tree edits = file_group_from writable 0 (record { tree = tree; created = [] }) edits
