-- A group of edits leaves what none of its edits touches.
use Rattle.std.proofs.Common.{◌≡◌, ℕ, refl, sym, ◌∙◌, ap, subst, Bool, not, List, [], ◌∷◌, ◌++◌, length, ◌+◌, ◌*◌, le_refl}
use Rattle.std.proofs.lemmas.List.Elements.{Contains-append_left, Contains-append_right}
use Rattle.std.specs.Prelude.{Some, Result, Ok}
use Rattle.std.specs.Result.{result_unwrap_or}
use Rattle.adf_format.specs.declared.types.Extent.{Extent}
use Rattle.adf_format.specs.Fields.{field}
use Rattle.adf_format.specs.Links.{link_text}
use Rattle.adf_format.specs.Names.{is_name, is_label}
use Rattle.adf_format.specs.Parts.{dimension_digits}
use Rattle.adf_format.specs.Tree.{Tree, node_at, parent_of}
use Rattle.adf_format.specs.Placement.{Placement, NodeParts}
use Rattle.adf_format.specs.HeapRule.{LimitReached, ◌>>=◌}
use Rattle.adf_model.specs.declared.error.AdfError.{AdfError}
use Rattle.adf_model.specs.declared.tree.Edit.{Edit}
use Rattle.adf_model.specs.declared.tree.Edit.TheVariants.{Create, Delete, Rename, Move, SetLabel, SetDims, PutAll, PutPart, Link}
use Rattle.adf_model.specs.Edits.{create_tests, link_tests, move_tests, shape_tests, data_tests, length_test, part_size, new_node, new_link, with_new, with_node, with_shape, with_part, size_of, has_named, other_children}
use Rattle.adf_model.specs.Selection.{selection_fits}
use Rattle.adf_model.specs.Placing.{place_group}
use Rattle.adf_model.specs.Untouched.{touched_extents, group_touched, group_shaped}
use Rattle.adf_model.proofs.Basics.{passed, found, same_Ok, same_Some}
use Rattle.tree_laws.specs.Leaving.{Leaves}
use Rattle.tree_laws.specs.Groups.{tree_left}
use Rattle.tree_laws.specs.GroupLeaving.{EditKeepsFormat, GroupKeepsFormat, NothingLeaves, OneMoreLeaves, GroupLeaves}
use Rattle.tree_laws.proofs.Leaving.LeavingLaws.{steps_leave, leaves_more}
use Rattle.tree_laws.proofs.Groups.GroupsGrow.{placement_is_left, touched_grow, shaped_grow}

-- ---- version and format

abbrev KeepsFormat : Tree → Tree → Type 0
KeepsFormat tree after = (after.wide ≡ tree.wide) × (after.format ≡ tree.format)

pub edit_keeps_format : EditKeepsFormat
edit_keeps_format tree after (Create at name label) made = subst (KeepsFormat tree) (same_Ok (passed (create_tests tree at.serial name label) (Ok (with_new tree at.serial (new_node name label))) after made).1) (refl, refl)
edit_keeps_format tree after (Link at name file path) made =
    subst (KeepsFormat tree) (same_Ok (passed (link_tests tree at.serial name file path) (Ok (with_new tree at.serial (new_link name (link_text file path)))) after made).1) (refl, refl)
edit_keeps_format tree after (Delete node) made = subst (KeepsFormat tree) (same_Ok (found (parent_of tree node.serial) AdfError.NotAChild _ after made).2) (refl, refl)
edit_keeps_format tree after (Rename node wanted) made =
    let from = found (parent_of tree node.serial) AdfError.NotAChild _ after made in
    let all = passed ((not (is_name wanted), AdfError.BadName) ∷ (has_named tree (other_children tree from.0 node.serial) wanted, AdfError.Duplicate) ∷ []) _ after from.2 in
    subst (KeepsFormat tree) (same_Ok (found (node_at tree node.serial) AdfError.NoSuchNode _ after all.1).2) (refl, refl)
edit_keeps_format tree after (SetLabel node label) made =
    let at = found (node_at tree node.serial) AdfError.NoSuchNode _ after made in
    subst (KeepsFormat tree) (same_Ok (passed ((not (is_label label), AdfError.BadLabel) ∷ []) _ after at.2).1) (refl, refl)
edit_keeps_format tree after (Move node to) made =
    let from = found (parent_of tree node.serial) AdfError.NotAChild _ after made in
    subst (KeepsFormat tree) (same_Ok (passed (move_tests tree node.serial to.serial) _ after from.2).1) (refl, refl)
edit_keeps_format tree after (SetDims node shape) made =
    let at = found (node_at tree node.serial) AdfError.NoSuchNode _ after made in
    subst (KeepsFormat tree) (same_Ok (passed (shape_tests tree.wide at.0 shape) (Ok (with_node tree node.serial (with_shape at.0 shape))) after at.2).1) (refl, refl)
edit_keeps_format tree after (PutAll node given) made =
    let at = found (node_at tree node.serial) AdfError.NoSuchNode _ after made in
    subst (KeepsFormat tree) (same_Ok (passed (data_tests at.0 ++ length_test (size_of at.0) given ∷ []) (Ok (with_node tree node.serial (record at.0 { bytes = Some given }))) after at.2).1) (refl, refl)
edit_keeps_format tree after (PutPart node selection given) made =
    let at = found (node_at tree node.serial) AdfError.NoSuchNode _ after made in
    subst (KeepsFormat tree)
    (same_Ok (passed (data_tests at.0 ++ (not (selection_fits at.0.dims selection), AdfError.BadRange) ∷ length_test (part_size at.0 selection) given ∷ []) (Ok (with_node tree node.serial (with_part at.0 selection given))) after at.2).1) (refl, refl)

pub group_keeps_format : GroupKeepsFormat
group_keeps_format tree [] all = (refl, refl)
group_keeps_format tree (e ∷ done) all = let one = edit_keeps_format tree e.1 e.0 all.1 in let rest = group_keeps_format e.1 done all.2 in (rest.0 ∙ one.0, rest.1 ∙ one.1)

-- ---- what is left

pub nothing_leaves : NothingLeaves
nothing_leaves wide p image = record {
  parts = λ e live free. (live, refl);
  head = λ k le none. refl;
  dims = λ serial from to free at there. ap (λ (parts : NodeParts). field image (parts.header + 130) (12 * dimension_digits wide)) (same_Some to from (sym there ∙ at));
  drawn = le_refl (length p.parts);
  before = λ serial to lt there. (to, there);
}

-- two steps, each with what it excepts
both_leave : (one other : List Extent) (shaped also : List ℕ) (wide : Bool) (p q r : Placement) (a b c : List ℕ) → Leaves one shaped wide p q a b → Leaves other also wide q r b c → Leaves (one ++ other) (shaped ++ also) wide p r a c
both_leave one other shaped also wide p q r a b c x y =
    steps_leave (one ++ other) (shaped ++ also) wide p q r a b c
    (leaves_more one (one ++ other) shaped (shaped ++ also) wide p q a b (λ e. Contains-append_left one other e) (λ k. Contains-append_left shaped also k) x)
    (leaves_more other (one ++ other) also (shaped ++ also) wide q r b c (λ e. Contains-append_right one other e) (λ k. Contains-append_right shaped also k) y)

pub one_more_leaves : OneMoreLeaves
one_more_leaves limit tree wide p q r done e a b c placed x y =
    subst (λ (es : List Extent). Leaves es (group_shaped (done ++ e ∷ [])) wide p r a c) (sym same_touched)
    (subst (λ (ks : List ℕ). Leaves (group_touched limit tree p done ++ touched_extents (tree_left tree done) q e.0) ks wide p r a c) (sym (shaped_grow done e))
    (both_leave (group_touched limit tree p done) (touched_extents (tree_left tree done) q e.0) (group_shaped done) (group_shaped (e ∷ [])) wide p q r a b c x y))
  where
    same_touched : group_touched limit tree p (done ++ e ∷ []) ≡ group_touched limit tree p done ++ touched_extents (tree_left tree done) q e.0
    same_touched = touched_grow limit tree p done e ∙ ap (λ (m : Placement). group_touched limit tree p done ++ touched_extents (tree_left tree done) m e.0) (placement_is_left limit tree p q done placed)

pub group_leaves : GroupLeaves
group_leaves limit wide tree p q [] old new h =
    (ap (λ (m : Placement). Ok m) (sym h.0), subst (λ (m : Placement). Leaves [] [] wide p m old new) (sym h.0) (subst (λ (bytes : List ℕ). Leaves [] [] wide p p old bytes) (sym h.1) (nothing_leaves wide p old)))
group_leaves limit wide tree p q (e ∷ done) old new h =
    let rest = group_leaves limit wide e.1 h.0 q done h.1 new h.4 in (
      ap (λ (r : Result Placement LimitReached). r >>= λ (m : Placement). place_group limit e.1 m done) h.2 ∙ rest.0,
      subst (λ (es : List Extent). Leaves es (group_shaped (e ∷ done)) wide p q old new) (ap (λ (r : Result Placement LimitReached). touched_extents tree p e.0 ++ group_touched limit e.1 (result_unwrap_or r p) done) (sym h.2))
          (subst (λ (ks : List ℕ). Leaves (touched_extents tree p e.0 ++ group_touched limit e.1 h.0 done) ks wide p q old new) (one_shaped e done)
          (both_leave (touched_extents tree p e.0) (group_touched limit e.1 h.0 done) (group_shaped (e ∷ [])) (group_shaped done) wide p h.0 q old h.1 new h.3 rest.1)),
    )
  where
    one_shaped : (e : Edit × Tree) (done : List (Edit × Tree)) → group_shaped (e ∷ []) ++ group_shaped done ≡ group_shaped (e ∷ done)
    one_shaped (SetDims node shape, tree) done = refl
    one_shaped (Create at wanted label, tree) done = refl
    one_shaped (Delete node, tree) done = refl
    one_shaped (Rename node wanted, tree) done = refl
    one_shaped (Move node to, tree) done = refl
    one_shaped (SetLabel node label, tree) done = refl
    one_shaped (PutAll node given, tree) done = refl
    one_shaped (PutPart node selection given, tree) done = refl
    one_shaped (Link at wanted file path, tree) done = refl
