-- An edit that creates a node keeps a tree sound.
use Rattle.std.proofs.Common.{◌≡◌, ℕ, ◌^◌, ◌<◌, Bool, true, false, not, List, [], ◌∷◌, ◌++◌, length, refl, sym, ◌∙◌, ap, subst, arith}
use Rattle.std.specs.Prelude.{Some, is_some, nat_le, slice_set, if◌then◌else◌, Result, Ok, Err}
use Rattle.std.specs.Result.{result_unwrap_or}
use Rattle.std.proofs.lemmas.Bool.Decides.{nat_tests}
use Rattle.adf_model.specs.declared.error.AdfError.{AdfError}
use Rattle.adf_format.specs.declared.types.DataType.TheVariants.{Mt, Lk}
use Rattle.adf_model.specs.declared.tree.Edit.{Edit}
use Rattle.adf_model.specs.declared.tree.NodeId.{NodeId}
use Rattle.adf_format.specs.Names.{is_name, is_label}
use Rattle.adf_model.specs.Tests.{Test}
use Rattle.adf_format.specs.Tree.{Node, Tree, node_at, children_at, children_of, depth_of, first_named, is_link, IsNode, IsTree}
use Rattle.adf_model.specs.Edits.{apply, create_tests, given_children, new_node, with_new}
use Rattle.adf_model.proofs.Keeping.Created.{IsTree-created}
use Rattle.adf_model.proofs.Basics.{passed}

-- none of the tests holds
abbrev NoneHolds : List Test → Type 0
NoneHolds [] = Unit {0}
NoneHolds (test ∷ tests) = (test.0 ≡ false) × NoneHolds tests

no_way : {A : Type 0} {e : AdfError} {a : A} → ◌≡◌ {A = Result A AdfError} (Err e) (Ok a) → ⊥
no_way h = cc

one_more : {A : Type 0} (b : Bool) (e : AdfError) (rest : Result A AdfError) (a : A) → (if b then Err e else rest) ≡ Ok a → (b ≡ false) × (rest ≡ Ok a)
one_more true e rest a h = absurd (no_way h)
one_more false e rest a h = (refl, h)

not_false : (b : Bool) → not b ≡ false → b ≡ true
not_false true e = refl
not_false false e = sym e

not_le : (m n : ℕ) → nat_le m n ≡ false → n < m
not_le m n e = grind (arith, nat_tests)

pub fresh_node : (wide : Bool) (wanted label : List ℕ) → is_name wanted ≡ true → is_label label ≡ true → IsNode wide (new_node wanted label)
fresh_node wide wanted label a b = record {
  named = a;
  labelled = b;
  shaped = refl;
  sized = tt;
  empty = λ e. refl;
  link = λ e. absurd (not_link e);
}
  where
    not_link : Mt ≡ Lk → ⊥
    not_link e = cc

-- where the parent is live and no link
pub create_keeps : (tree after : Tree) (at : NodeId) (wanted label : List ℕ) (parent : Node) → IsTree tree → node_at tree at.serial ≡ Some parent → is_link parent ≡ false → apply tree (Edit.Create at wanted label) ≡ Ok after → IsTree after
create_keeps tree after at wanted label parent is here no_link e =
    let all = passed (create_tests tree at.serial wanted label) (Ok (with_new tree at.serial (new_node wanted label))) after e in
    let none = all.0 in
    let made : with_new tree at.serial (new_node wanted label) ≡ after = ap (λ r. result_unwrap_or r after) all.1 in
    let kids : children_at tree at.serial ≡ parent.children = ap children_of here in
    let named : is_some (first_named tree parent.children wanted) ≡ false = subst (λ xs. is_some (first_named tree xs wanted) ≡ false) kids none.1.1.0 in
    let room : length parent.children < 2 ^ 20 = subst (λ xs. length xs < 2 ^ 20) kids (not_le _ _ none.1.1.1.0) in
    let high : depth_of tree at.serial < 255 = not_le _ _ none.1.1.1.1.0 in
    let left : length tree.nodes < 2 ^ 48 = not_le _ _ none.1.1.1.1.1.0 in
    let sound = IsTree-created tree at.serial parent (new_node wanted label) is here refl (fresh_node tree.wide wanted label (not_false _ none.0) (not_false _ none.1.0)) no_link named room high left in
    subst IsTree (ap (λ o. record tree { nodes = slice_set tree.nodes at.serial (given_children (children_of o ++ length tree.nodes ∷ []) o) ++ Some (new_node wanted label) ∷ [] }) (sym here) ∙ made) sound
