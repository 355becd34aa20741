-- Worked cases: how files stand and what calls on them are refused, spelled texts, shapes, and data by themselves.
use Rattle.std.specs.Prelude.{◌≡◌, ℕ, ◌-◌, ◌^◌, true, false, List, [], ◌∷◌, replicate, Option, Some, None, Ok, Err, codes, refl}
use Rattle.adf_model.specs.declared.error.AdfError.{AdfError}
use Rattle.adf_model.specs.declared.error.EditError.{EditError}
use Rattle.adf_format.specs.declared.types.DataType.{DataType}
use Rattle.adf_format.specs.declared.types.Extent.{Extent}
use Rattle.adf_format.specs.declared.types.ExtentKind.{ExtentKind}
use Rattle.adf_model.specs.declared.tree.Edit.{Edit}
use Rattle.adf_model.specs.declared.tree.NodeId.{NodeId}
use Rattle.adf_model.specs.declared.tree.Query.{Query}
use Rattle.adf_model.specs.declared.tree.Reply.{Reply}
use Rattle.adf_model.specs.declared.tree.Shape.{Shape}
use Rattle.adf_format.specs.Tree.{Tree, fresh_tree, lineage}
use Rattle.adf_format.specs.Placement.{Placement, NodeParts, extent}
use Rattle.adf_format.specs.HeapRule.{no_parts, chunk}
use Rattle.adf_model.specs.Tests.{first_refusal}
use Rattle.adf_model.specs.Shapes.{is_shape, shape_size}
use Rattle.adf_model.specs.Spelling.{spelled, text_of, items_text}
use Rattle.adf_model.specs.Slots.{Slot, Standing, Files, standings, number_of, entry_files}
use Rattle.adf_model.specs.Slots.Slot.{Live, Gone, Raw}
use Rattle.adf_model.specs.Follow.{follow}
use Rattle.adf_model.specs.Calls.{edit_group}
use Rattle.adf_model.specs.Answers.{answer, file_answer}
use Rattle.adf_model.specs.Edits.{file_step}
use Rattle.adf_model.specs.Steps.{closed, close_tests, open_tests}
use Rattle.adf_model.specs.Untouched.{group_touched, group_shaped, touched_extents}
use Rattle.adf_model.specs.NodeData.{resized_spot, released_spot}

abbrev at : ℕ → NodeId
at serial = record { file = 0; serial = serial }

abbrev file_in : Slot → Files
file_in slot = record { name = codes "a.adf"; slot = slot } ∷ []

abbrev fresh : Files
fresh = file_in (Live (record { tree = fresh_tree false; writable = true; limit = 16 }))

abbrev after : Files → List Edit → Files
after files edits = elim (edit_group files edits) [ Ok group ↦ group.files | Err e ↦ files ]

abbrev refusal : Files → List Edit → Option EditError
refusal files edits = elim (edit_group files edits) [ Ok group ↦ None | Err e ↦ Some e ]

abbrev created : Files → List Edit → List NodeId
created files edits = elim (edit_group files edits) [ Ok group ↦ group.created | Err e ↦ [] ]

abbrev create : ℕ → List ℕ → Edit
create parent name = Edit.Create (at parent) name []

-- ---- how files stand

-- the first child
first_child : created fresh (create 0 (codes "Base") ∷ []) ≡ at 1 ∷ []
unfolding lineage follow
first_child = refl

child_listed : answer (after fresh (create 0 (codes "Base") ∷ [])) (Query.ChildrenOf (at 0)) ≡ Ok (Reply.Children (record { node = at 1; name = codes "Base" } ∷ []))
unfolding lineage follow
child_listed = refl

-- after a failed write: broken until it is closed, and then of any bytes
broken_asked : answer (file_in Slot.Broken) (Query.Name (at 0)) ≡ Err AdfError.Broken
unfolding lineage follow
broken_asked = refl

broken_edited : refusal (file_in Slot.Broken) (create 0 (codes "B") ∷ []) ≡ Some (record { at = 0; error = AdfError.Broken })
unfolding lineage follow
broken_edited = refl

broken_closed : closed Slot.Broken ≡ Raw
broken_closed = refl

broken_counts_as_open : (first_refusal (close_tests (file_in Slot.Broken) 0) ≡ None) × (first_refusal (open_tests (file_in Slot.Broken) 0) ≡ Some AdfError.AlreadyOpen)
broken_counts_as_open = (refl, refl)

opened_twice : first_refusal (open_tests fresh 0) ≡ Some AdfError.AlreadyOpen
opened_twice = refl

closed_twice : first_refusal (close_tests (file_in Raw) 0) ≡ Some AdfError.NotOpen
closed_twice = refl

no_such_file : first_refusal (close_tests fresh 5) ≡ Some AdfError.NoSuchFile
no_such_file = refl

discarded_file : (first_refusal (open_tests (file_in Gone) 0) ≡ Some AdfError.NoSuchFile) × (first_refusal (close_tests (file_in Gone) 0) ≡ Some AdfError.NoSuchFile)
discarded_file = (refl, refl)

-- in a move the file is tested for the node and then for the parent, before the next test
move_to_no_file : refusal fresh (Edit.Move (at 7) (record { file = 3; serial = 0 }) ∷ []) ≡ Some (record { at = 0; error = AdfError.NoSuchFile })
unfolding lineage follow
move_to_no_file = refl

-- ---- one file by itself follows no link

abbrev linked : Tree
unfolding lineage
linked = elim (file_step true (fresh_tree false) (Edit.Link (at 0) (codes "K") [] (codes "/"))) [ Ok tree ↦ tree | Err e ↦ fresh_tree false ]

link_in_one_file : (file_answer linked (Query.LabelOf (at 1)) ≡ Err AdfError.LinkMissing) × (file_answer linked (Query.LinkText (at 1)) ≡ Ok (Reply.LinkText [] (codes "/")))
unfolding lineage
link_in_one_file = (refl, refl)

edit_at_link : file_step true linked (create 1 (codes "A")) ≡ Err AdfError.LinkMissing
unfolding lineage
edit_at_link = refl

dead_before_link : file_step false linked (create 2 (codes "A")) ≡ Err AdfError.NoSuchNode
unfolding lineage
dead_before_link = refl

-- ---- spelled texts

spelled_empty : spelled [] ≡ codes "%"
spelled_empty = refl

spelled_words : spelled (codes "Root Node of ADF File") ≡ codes "Root%20Node%20of%20ADF%20File"
spelled_words = refl

spelled_marks : spelled (33 ∷ 37 ∷ 59 ∷ 126 ∷ 127 ∷ 255 ∷ 0 ∷ 47 ∷ []) ≡ codes "!%25%3B~%7F%FF%00/"
spelled_marks = refl

read_again : (text_of (codes "%") ≡ Some []) × (text_of (codes "a%2fb") ≡ Some (codes "a/b")) × (text_of (codes "a%2Fb") ≡ Some (codes "a/b")) × (text_of (codes "%41") ≡ Some (codes "A"))
unfolding items_text
read_again = (refl, refl, refl, refl)

no_texts : (text_of [] ≡ None) × (text_of (codes "%%") ≡ None) × (text_of (codes "a%4") ≡ None) × (text_of (codes "%4g") ≡ None) × (text_of (codes "a;b") ≡ None) × (text_of (codes "a b") ≡ None) × (text_of (127 ∷ []) ≡ None)
unfolding items_text
no_texts = (refl, refl, refl, refl, refl, refl, refl)

-- ---- shapes

abbrev shape : DataType → ℕ → ℕ → Shape
shape kind rank first = record { kind = kind; rank = rank; dims = first ∷ replicate 11 1 }

edges_of_shapes : (is_shape false (shape DataType.R8 1 4294967295) ≡ true) × (is_shape false (shape DataType.R8 1 4294967296) ≡ false) × (is_shape true (shape DataType.R8 1 4294967296) ≡ true)
    × (is_shape false (shape DataType.C1 12 1) ≡ true) × (is_shape false (shape DataType.C1 13 1) ≡ false) × (is_shape false (shape DataType.Mt 0 0) ≡ true) × (is_shape false (shape DataType.C1 1 0) ≡ false)
edges_of_shapes = (refl, refl, refl, refl, refl, refl, refl)

edges_of_sizes : (shape_size (shape DataType.Mt 0 9) ≡ 0) × (shape_size (shape DataType.X8 1 3) ≡ 48) × (shape_size (shape DataType.I8 1 (2 ^ 61)) ≡ 2 ^ 64 - 1) × (shape_size (shape DataType.I8 1 (2 ^ 61 - 1)) ≡ 2 ^ 64 - 8)
edges_of_sizes = (refl, refl, refl, refl)

-- ---- data by themselves: as much as fits is written in place, more goes into a chunk of its own, and a take may be refused

abbrev parts : NodeParts
parts = record no_parts { header = 512; chunks = chunk 1130 120 ∷ [] }

data_fit : resized_spot 16 100 (parts, record { gaps = []; end = 1249 }) ≡ Ok (parts, record { gaps = []; end = 1249 })
data_fit = refl

data_grow : resized_spot 16 150 (parts, record { gaps = []; end = 1249 }) ≡ Ok (record parts { chunks = chunk 1130 120 ∷ chunk 1250 70 ∷ []; chunk_table = Some 1320 }, record { gaps = []; end = 1387 })
data_grow = refl

data_refused : resized_spot 1 4000 (parts, record { gaps = []; end = 1249 }) ≡ Err (record { asked = 3920; end = 1249 })
data_refused = refl

data_released : released_spot (parts, record { gaps = []; end = 1249 }) ≡ (record no_parts { header = 512 }, record { gaps = extent ExtentKind.FreeChunk 1130 120 ∷ []; end = 1249 })
data_released = refl

-- ---- what a group touches: the root's header and its table, each where it stood before its edit

abbrev first_placement : Placement
first_placement = record { parts = Some (record no_parts { header = 266 }) ∷ []; heap = record { gaps = []; end = 511 } }

abbrev touched : List Edit → List Extent
touched edits = elim (edit_group fresh edits) [ Ok group ↦ group_touched 16 (fresh_tree false) first_placement group.done | Err e ↦ [] ]

two_children_touch : touched (create 0 (codes "A") ∷ create 0 (codes "B") ∷ []) ≡ extent ExtentKind.Node 266 246 ∷ extent ExtentKind.Node 266 246 ∷ extent ExtentKind.SubNodes 758 372 ∷ []
unfolding lineage follow
two_children_touch = refl

-- the nodes whose shapes a group sets, in its order
abbrev shaped : List Edit → List ℕ
shaped edits = elim (edit_group fresh edits) [ Ok group ↦ group_shaped group.done | Err e ↦ [] ]

one_shape_set : shaped (create 0 (codes "A") ∷ create 0 (codes "B") ∷ Edit.SetDims (at 2) (shape DataType.C1 1 4) ∷ Edit.SetLabel (at 1) (codes "L") ∷ []) ≡ 2 ∷ []
unfolding lineage follow
one_shape_set = refl

label_touches_header : touched_extents (fresh_tree false) first_placement (Edit.SetLabel (at 0) (codes "L")) ≡ extent ExtentKind.Node 266 246 ∷ []
unfolding lineage
label_touches_header = refl

-- ---- a shelf before the first call: a place without a name is no file

abbrev shelf : Files
shelf = entry_files (None ∷ Some (codes "a") ∷ Some (codes "b") ∷ Some (codes "b") ∷ [])

named_on_shelf : (number_of shelf (codes "b") ≡ Some 2) × (number_of shelf (codes "c") ≡ None) × (number_of shelf [] ≡ None) × (standings shelf ≡ Standing.Absent ∷ Standing.Closed ∷ Standing.Closed ∷ Standing.Closed ∷ [])
named_on_shelf = (refl, refl, refl, refl)
