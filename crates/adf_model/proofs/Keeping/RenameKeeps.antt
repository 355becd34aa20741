-- An edit that renames a node keeps a tree sound.
use Rattle.std.proofs.Common.{◌≡◌, ◌≢◌, ℕ, ◌^◌, ◌≤◌, Bool, true, false, not, List, [], ◌∷◌, length, map, refl, sym, ◌∙◌, ap, subst, inl, inr}
use Rattle.std.specs.Prelude.{Some, None, IsTrue, is_some, bytes_eq, Ok}
use Rattle.std.proofs.Math.Seq.{map-set_same}
use Rattle.std.proofs.lemmas.List.{length-set, get_or-set_other, get_or-set_same}
use Rattle.adf_format.specs.Names.{is_name}
use Rattle.adf_format.specs.Tree.{IsAmong, is_among, Node, Tree, node_at, children_of, children_at, name_of, name_at, parent_of, families, climb, lineage, AllDiffer, IsNode, IsTree}
use Rattle.adf_model.specs.declared.error.AdfError.{AdfError}
use Rattle.adf_model.specs.declared.tree.Edit.{Edit}
use Rattle.adf_model.specs.declared.tree.NodeId.{NodeId}
use Rattle.adf_model.specs.Tests.{if_there}
use Rattle.adf_model.specs.Edits.{apply, with_node, has_named, other_children}
use Rattle.adf_model.proofs.Basics.{not_true, not_false, same_Some, same_Ok, passed, found}
use Rattle.adf_model.proofs.Trees.DifferLemmas.{AllDiffer-changed, map_agree, among-others}
use Rattle.adf_model.proofs.Keeping.Keeps.{at-set, one_changed}
use Rattle.adf_model.proofs.Trees.SubtreeLemmas.{parent_is}
use Rattle.adf_model.proofs.Keeping.Created.{none_named, inside_of}

pub IsNode-name : (wide : Bool) (node : Node) (wanted : List ℕ) → IsTrue (is_name wanted) → IsNode wide node → IsNode wide (record node { name = wanted })
IsNode-name wide node wanted ok is = record {
  named = ok;
  labelled = is.labelled;
  shaped = is.shaped;
  sized = is.sized;
  empty = is.empty;
  link = λ e. let l = is.link e in record { text = l.text; held = l.held; spelled = l.spelled; short = l.short; sized = l.sized; childless = l.childless };
}

module _ (tree : Tree) (is : IsTree tree) (s from : ℕ) (old : Node) (wanted : List ℕ) (there : node_at tree s ≡ Some old) (has_parent : parent_of tree s ≡ Some from)
    (named : is_name wanted ≡ true) (new_name : has_named tree (other_children tree from s) wanted ≡ false) where
  abbrev pub new : Node
  new = record old { name = wanted }

  abbrev pub renamed : Tree
  renamed = with_node tree s new

  same_lists : (q : ℕ) → children_at renamed q ≡ children_at tree q
  same_lists q = at-set children_of tree.nodes s q (Some new) (ap children_of (sym there))

  same_live : (q : ℕ) → is_some (node_at renamed q) ≡ is_some (node_at tree q)
  same_live q = at-set is_some tree.nodes s q (Some new) (ap is_some (sym there))

  same_families : families renamed ≡ families tree
  same_families = map-set_same children_of tree.nodes s (Some new) None (ap children_of (sym there))

  same_lineage : (q : ℕ) → lineage renamed q ≡ lineage tree q
  unfolding lineage
  same_lineage q = ap (λ fs. climb 256 fs (Some q)) same_families

  name_here : name_at renamed s ≡ wanted
  name_here = ap name_of (get_or-set_same tree.nodes s (Some new) None (inside_of tree.nodes s old there))

  name_other : (c : ℕ) → c ≢ s → name_at renamed c ≡ name_at tree c
  name_other c differ = ap name_of (get_or-set_other tree.nodes s c (Some new) None differ)

  -- the siblings of the node have other names
  siblings : (q : ℕ) → AllDiffer (map (name_at renamed) (children_at tree q))
  siblings q = by_case (is_among (children_at tree q) s) refl
    where
      by_case : (t : Bool) → is_among (children_at tree q) s ≡ t → AllDiffer (map (name_at renamed) (children_at tree q))
      by_case false e = subst AllDiffer (map_agree (children_at tree q) (name_at tree) (name_at renamed) (λ c h. sym (name_other c (λ k. not_true (sym e ∙ subst (λ d. is_among (children_at tree q) d ≡ true) k h))))) (is.siblings q)
      by_case true e =
          let same : q ≡ from = same_Some q from (sym (parent_is tree is q s e) ∙ has_parent) in
          AllDiffer-changed (children_at tree q) (name_at tree) (name_at renamed) s name_other (is.siblings q)
          (λ c h differ. subst (λ w. bytes_eq (name_at tree c) w ≡ false) (sym name_here)
          (none_named tree (other_children tree from s) wanted new_name c (among-others (children_at tree from) s c (subst (λ p. IsAmong (children_at tree p) c) same h) differ)))

  pub IsTree-renamed : IsTree renamed
  IsTree-renamed = record {
    root = same_live 0 ∙ is.root;
    drawn = subst (λ n. n ≤ 2 ^ 48) (sym (length-set tree.nodes s (Some new))) is.drawn;
    each = λ q node e. elim (one_changed tree.nodes s q new node e) [ inl h ↦ is.each q node h | inr h ↦ subst (IsNode tree.wide) (sym h) (IsNode-name tree.wide old wanted named (is.each s old there)) ];
    live = λ q c h. let l = is.live q c (subst (λ xs. IsAmong xs c) (same_lists q) h) in (same_live c ∙ l.0, l.1);
    one_parent = λ p q c h k. is.one_parent p q c (subst (λ xs. IsAmong xs c) (same_lists p) h) (subst (λ xs. IsAmong xs c) (same_lists q) k);
    siblings = λ q. subst (λ xs. AllDiffer (map (name_at renamed) xs)) (sym (same_lists q)) (siblings q);
    width = λ q. subst (λ xs. length xs ≤ 2 ^ 20) (sym (same_lists q)) (is.width q);
    reached = λ q h. subst (λ xs. IsAmong xs 0) (sym (same_lineage q)) (is.reached q (sym (same_live q) ∙ h));
  }

pub rename_keeps : (tree after : Tree) (node : NodeId) (wanted : List ℕ) → IsTree tree → apply tree (Edit.Rename node wanted) ≡ Ok after → IsTree after
rename_keeps tree after node wanted is e =
    let up = found (parent_of tree node.serial) AdfError.NotAChild _ after e in
    let all = passed ((not (is_name wanted), AdfError.BadName) ∷ (has_named tree (other_children tree up.0 node.serial) wanted, AdfError.Duplicate) ∷ []) (if_there (node_at tree node.serial) AdfError.NoSuchNode (λ n. Ok (with_node tree node.serial (record n { name = wanted })))) after up.2 in
    let at = found (node_at tree node.serial) AdfError.NoSuchNode _ after all.1 in
    subst IsTree (same_Ok at.2) (IsTree-renamed tree is node.serial up.0 at.0 wanted at.1 up.1 (not_false _ all.0.0) all.0.1.0)
