-- The length of a packed file, by the numbers of its nodes.
use Rattle.std.proofs.Common.{◌≡◌, ℕ, ◌+◌, ◌<◌, ◌==◌, Bool, false, List, [], ◌∷◌, length, get_or, refl, ◌∙◌, ap, arith, Option, None, Some}
use Rattle.std.specs.Prelude.{option_map, cond}
use Rattle.std.proofs.lemmas.Bool.Decides.{nat_tests}
use Rattle.adf_format.specs.Parts.{table_length}
use Rattle.std.specs.List.{sum_by}
use Rattle.std.proofs.lemmas.List.Sums.{sum_by_more, sum_by-cons}
use Rattle.adf_format.specs.Tree.{Node}
use Rattle.adf_format.specs.Packed.{packed_table, packed_data, packed_nodes}
use Rattle.adf_repack.specs.declared.places.NodeShape.{NodeShape}
use Rattle.packed_laws.specs.PackedForm.{packed_room}
use Rattle.adf_repack.specs.Places.{table_room, data_room, room_of, shape_of, shapes_of, LengthIsPacked, place_of}

pub no_zero : (n : ℕ) → 0 < n → (n == 0) ≡ false
no_zero n lt = grind (arith, nat_tests)

pub table_is : (children : List ℕ) → table_room (length children) ≡ packed_table children
table_is [] = refl
table_is (c ∷ cs) = ap (λ (b : Bool). cond b 0 (table_length (length (c ∷ cs)))) (no_zero (length (c ∷ cs)) (omega arith))

data_is : (bytes : Option (List ℕ)) → data_room (option_map (λ (b : List ℕ). length b) bytes) ≡ packed_data bytes
data_is None = refl
data_is (Some bytes) = refl

-- a node's shape has the room of its parts
pub room_is : (wide : Bool) (node : Node) → room_of wide (shape_of node) ≡ packed_room wide node
room_is wide node = rw (table_is node.children, data_is node.bytes) refl

rooms_are : (wide : Bool) (nodes : List (Option Node)) → sum_by (room_of wide) (shapes_of nodes) ≡ packed_nodes wide nodes
rooms_are wide [] = refl
rooms_are wide (None ∷ nodes) = rooms_are wide nodes
rooms_are wide (Some node ∷ nodes) = sum_by-cons (room_of wide) (shape_of node) (shapes_of nodes)
    ∙ ap (λ (n : ℕ). n + sum_by (room_of wide) (shapes_of nodes)) (room_is wide node) ∙ ap (λ (n : ℕ). packed_room wide node + n) (rooms_are wide nodes)

pub length_is : LengthIsPacked
length_is tree = ap (λ (n : ℕ). 266 + n) (rooms_are tree.wide tree.nodes)

-- the place behind one node more
pub place_more : (wide : Bool) (shapes : List NodeShape) (k : ℕ) (d : NodeShape) → k < length shapes
    → place_of wide shapes (k + 1) ≡ place_of wide shapes k + room_of wide (get_or shapes k d)
place_more wide shapes k d lt = rw (sum_by_more (room_of wide) shapes k d lt) (omega arith)
