-- An edit that changes one node in its place leaves who stands above whom.
use Rattle.std.proofs.Common.{◌≡◌, ℕ, not, refl, sym, ◌∙◌, ap, subst, List, [], ◌∷◌, ◌++◌, length, ◌-◌}
use Rattle.std.proofs.lemmas.List.{length-set, get_or-set_same, get_or-set_other}
use Rattle.std.proofs.Math.Seq.{map-set_same}
use Rattle.std.specs.Prelude.{Some, None, is_some, Ok}
use Rattle.adf_format.specs.Names.{is_name, is_label}
use Rattle.adf_format.specs.Tree.{Node, Tree, IsTree, node_at, children_of, families, climb, parent_of, parent_from, lineage}
use Rattle.adf_model.specs.declared.error.AdfError.{AdfError}
use Rattle.adf_model.specs.declared.tree.Edit.TheVariants.{Create, Delete, Rename, Move, SetLabel, SetDims, PutAll, PutPart, Link}
use Rattle.adf_model.specs.Edits.{with_node, with_shape, with_part, has_named, other_children, shape_tests, data_tests, length_test, part_size, size_of}
use Rattle.adf_model.specs.Selection.{selection_fits}
use Rattle.adf_model.proofs.Basics.{passed, found, same_Ok, same_Some, not_there}
use Rattle.adf_model.proofs.Creation.CreatedNodes.{there_inside}
use Rattle.adf_model.proofs.Keeping.EditsKeep.{apply_keeps}
use Rattle.adf_model.proofs.Keeping.Keeps.{at-set}
use Rattle.tree_laws.specs.TreeFacts.{changed_node, IsChanged, ChangedInItsTree}

module _ (tree : Tree) (s : ℕ) (was : Node) (now : Node → Node) (at : node_at tree s ≡ Some was) (same : (now was).children ≡ was.children) where
  abbrev next : Tree
  next = with_node tree s (now was)

  same_families : families next ≡ families tree
  same_families = map-set_same children_of tree.nodes s (Some (now was)) None (same ∙ ap children_of (sym at))

  same_lineage : (k : ℕ) → lineage next k ≡ lineage tree k
  unfolding lineage
  same_lineage k = ap (λ fs. climb 256 fs (Some k)) same_families

  changed_here : IsTree next → IsChanged tree next s now
  changed_here sound = record {
    wide = refl;
    format = refl;
    serials = length-set tree.nodes s (Some (now was));
    sound = sound;
    was = was;
    before = at;
    node = get_or-set_same tree.nodes s (Some (now was)) None (there_inside tree.nodes s was at);
    others = λ k differ. get_or-set_other tree.nodes s k (Some (now was)) None differ;
    live = λ k. at-set is_some tree.nodes s k (Some (now was)) (ap is_some (sym at));
    children = λ k. at-set children_of tree.nodes s k (Some (now was)) (same ∙ ap children_of (sym at));
    lineages = same_lineage;
    parents = λ k. ap (λ fs. parent_from 0 fs k) same_families;
    depths = λ k. ap (λ (xs : List ℕ). length xs - 1) (same_lineage k);
  }

  pub changed_to : (after : Tree) → with_node tree s (now was) ≡ after → IsTree after → IsChanged tree after s now
  changed_to after made sound = subst (λ (t : Tree). IsChanged tree t s now) made (changed_here (subst IsTree (sym made) sound))

pub changed_in_its_tree : ChangedInItsTree
changed_in_its_tree tree after (Rename node wanted) s is reached e made =
    let from = found (parent_of tree node.serial) AdfError.NotAChild _ after made in
    let all = passed ((not (is_name wanted), AdfError.BadName) ∷ (has_named tree (other_children tree from.0 node.serial) wanted, AdfError.Duplicate) ∷ []) _ after from.2 in
    let at = found (node_at tree node.serial) AdfError.NoSuchNode _ after all.1 in
    subst (λ k. IsChanged tree after k (λ n. record n { name = wanted })) (same_Some node.serial s e)
    (changed_to tree node.serial at.0 (λ n. record n { name = wanted }) at.1 refl after (same_Ok at.2) (apply_keeps tree after (Rename node wanted) is reached made))
changed_in_its_tree tree after (SetLabel node label) s is reached e made =
    let at = found (node_at tree node.serial) AdfError.NoSuchNode _ after made in
    let all = passed ((not (is_label label), AdfError.BadLabel) ∷ []) (Ok (with_node tree node.serial (record at.0 { label = label }))) after at.2 in
    subst (λ k. IsChanged tree after k (λ n. record n { label = label })) (same_Some node.serial s e)
    (changed_to tree node.serial at.0 (λ n. record n { label = label }) at.1 refl after (same_Ok all.1) (apply_keeps tree after (SetLabel node label) is reached made))
changed_in_its_tree tree after (SetDims node shape) s is reached e made =
    let at = found (node_at tree node.serial) AdfError.NoSuchNode _ after made in
    let all = passed (shape_tests tree.wide at.0 shape) (Ok (with_node tree node.serial (with_shape at.0 shape))) after at.2 in
    subst (λ k. IsChanged tree after k (λ n. with_shape n shape)) (same_Some node.serial s e)
    (changed_to tree node.serial at.0 (λ n. with_shape n shape) at.1 refl after (same_Ok all.1) (apply_keeps tree after (SetDims node shape) is reached made))
changed_in_its_tree tree after (PutAll node given) s is reached e made =
    let at = found (node_at tree node.serial) AdfError.NoSuchNode _ after made in
    let all = passed (data_tests at.0 ++ length_test (size_of at.0) given ∷ []) (Ok (with_node tree node.serial (record at.0 { bytes = Some given }))) after at.2 in
    subst (λ k. IsChanged tree after k (λ n. record n { bytes = Some given })) (same_Some node.serial s e)
    (changed_to tree node.serial at.0 (λ n. record n { bytes = Some given }) at.1 refl after (same_Ok all.1) (apply_keeps tree after (PutAll node given) is reached made))
changed_in_its_tree tree after (PutPart node selection given) s is reached e made =
    let at = found (node_at tree node.serial) AdfError.NoSuchNode _ after made in
    let all = passed (data_tests at.0 ++ (not (selection_fits at.0.dims selection), AdfError.BadRange) ∷ length_test (part_size at.0 selection) given ∷ []) (Ok (with_node tree node.serial (with_part at.0 selection given))) after at.2 in
    subst (λ k. IsChanged tree after k (λ n. with_part n selection given)) (same_Some node.serial s e)
    (changed_to tree node.serial at.0 (λ n. with_part n selection given) at.1 refl after (same_Ok all.1) (apply_keeps tree after (PutPart node selection given) is reached made))
changed_in_its_tree tree after (Create at wanted label) s is reached e made = absurd (not_there s e)
changed_in_its_tree tree after (Delete node) s is reached e made = absurd (not_there s e)
changed_in_its_tree tree after (Move node to) s is reached e made = absurd (not_there s e)
changed_in_its_tree tree after (Link at wanted file path) s is reached e made = absurd (not_there s e)
