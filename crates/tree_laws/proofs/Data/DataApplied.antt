-- From an edit of data that is applied to what the laws of its steps ask.
use Rattle.std.proofs.Common.{◌≡◌, ℕ, zero, suc, sym, subst, arith, List, [], ◌∷◌, ◌++◌, length, ◌^◌, ◌<◌, ◌≤◌, Bool, true, false, not}
use Rattle.std.proofs.lemmas.Bool.Decides.{nat_tests}
use Rattle.std.specs.Prelude.{Some, None, nat_le, nat_lt, ◌&&◌, Ok}
use Rattle.std.specs.List.{list_all}
use Rattle.adf_format.specs.Names.{is_dimension, is_rank_of}
use Rattle.adf_format.specs.Tree.{Tree, Node, IsNode, IsTree, node_at}
use Rattle.adf_format.specs.Parts.{dimension_digits}
use Rattle.adf_model.specs.declared.error.AdfError.{AdfError}
use Rattle.adf_model.specs.declared.error.AdfError.TheVariants.{BadRange}
use Rattle.adf_model.specs.declared.tree.Edit.{Edit}
use Rattle.adf_model.specs.Edits.{with_node, with_shape, with_part, shape_tests, data_tests, length_test, size_of, part_size}
use Rattle.adf_model.specs.Selection.{selection_fits}
use Rattle.adf_model.proofs.Basics.{found, passed, same_Ok, same_Some, not_there, and_parts}
use Rattle.adf_model.proofs.Keeping.DataKeeps.{set_dims_keeps}
use Rattle.adf_model.proofs.Keeping.EditsKeep.{apply_keeps}
use Rattle.adf_model.proofs.Creation.CreatedNodes.{there_inside}
use Rattle.tree_laws.specs.DataSwitch.{AreSpelled}
use Rattle.tree_laws.specs.DataApply.{NodesAreSpelled, SetDimsApplies, PutAllApplies, PutPartApplies}
use Rattle.tree_laws.proofs.Edits.LabelSet.{set_here}

at_most : (m n : ℕ) → nat_le m n ≡ true → m ≤ n
at_most m n e = grind (arith, nat_tests)

below : (m n : ℕ) → nat_lt m n ≡ true → m < n
below m n e = grind (arith, nat_tests)

fits_digits : (wide : Bool) (d : ℕ) → is_dimension wide d ≡ true → d < 16 ^ dimension_digits wide
fits_digits true d e = let lt : d < 2 ^ 64 = below d (2 ^ 64) (and_parts (nat_le 1 d) (nat_lt d (2 ^ 64)) e).1 in omega (arith, lt)
fits_digits false d e = let lt : d < 2 ^ 32 = below d (2 ^ 32) (and_parts (nat_le 1 d) (nat_lt d (2 ^ 32)) e).1 in omega (arith, lt)

all_spelled : (wide : Bool) (dims : List ℕ) → list_all (is_dimension wide) dims ≡ true → AreSpelled wide dims
all_spelled wide [] h i d e = absurd (not_there d e)
all_spelled wide (x ∷ xs) h zero d e = subst (λ k. k < 16 ^ dimension_digits wide) (same_Some x d e) (fits_digits wide x (and_parts (is_dimension wide x) (list_all (is_dimension wide) xs) h).0)
all_spelled wide (x ∷ xs) h (suc i) d e = all_spelled wide xs (and_parts (is_dimension wide x) (list_all (is_dimension wide) xs) h).1 i d e

pub nodes_are_spelled : NodesAreSpelled
nodes_are_spelled wide node is =
    let both = and_parts (is_rank_of node.kind (length node.dims) && nat_le (length node.dims) 12) (list_all (is_dimension wide) node.dims) is.shaped in
    (at_most (length node.dims) 12 (and_parts (is_rank_of node.kind (length node.dims)) (nat_le (length node.dims) 12) both.0).1, all_spelled wide node.dims both.1)

-- a node that is set is one of the tree after
set_is_node : (tree : Tree) (s : ℕ) (node now : Node) → node_at tree s ≡ Some node → IsTree (with_node tree s now) → IsNode tree.wide now
set_is_node tree s node now here is = is.each s now (set_here tree.nodes s (Some now) None (there_inside tree.nodes s node here))

pub set_dims_applies : SetDimsApplies
set_dims_applies tree after at shape is e =
    let there = found (node_at tree at.serial) AdfError.NoSuchNode _ after e in
    let made : with_node tree at.serial (with_shape there.0 shape) ≡ after = same_Ok (passed (shape_tests tree.wide there.0 shape) (Ok (with_node tree at.serial (with_shape there.0 shape))) after there.2).1 in
    let sound : IsTree (with_node tree at.serial (with_shape there.0 shape)) = subst IsTree (sym made) (set_dims_keeps tree after at shape is e) in
    let spelled = nodes_are_spelled tree.wide (with_shape there.0 shape) (set_is_node tree at.serial there.0 (with_shape there.0 shape) there.1 sound) in
    (there.0, there.1, sym made, sound, spelled.0, spelled.1)

pub put_all_applies : PutAllApplies
put_all_applies tree after at given is reached e =
    let there = found (node_at tree at.serial) AdfError.NoSuchNode _ after e in
    let made : with_node tree at.serial (record there.0 { bytes = Some given }) ≡ after =
    same_Ok (passed (data_tests there.0 ++ length_test (size_of there.0) given ∷ []) (Ok (with_node tree at.serial (record there.0 { bytes = Some given }))) after there.2).1 in
    (there.0, there.1, sym made, subst IsTree (sym made) (apply_keeps tree after (Edit.PutAll at given) is reached e))

pub put_part_applies : PutPartApplies
put_part_applies tree after at selection given is reached e =
    let there = found (node_at tree at.serial) AdfError.NoSuchNode _ after e in
    let made : with_node tree at.serial (with_part there.0 selection given) ≡ after =
    same_Ok (passed (data_tests there.0 ++ (not (selection_fits there.0.dims selection), BadRange) ∷ length_test (part_size there.0 selection) given ∷ []) (Ok (with_node tree at.serial (with_part there.0 selection given))) after there.2).1 in
    (there.0, there.1, sym made, subst IsTree (sym made) (apply_keeps tree after (Edit.PutPart at selection given) is reached e))
