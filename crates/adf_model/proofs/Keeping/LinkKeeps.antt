-- An edit that makes a link keeps a tree sound.
use Rattle.std.proofs.Common.{◌≡◌, ℕ, suc, ◌+◌, ◌*◌, ◌^◌, ◌<◌, ◌≤◌, Bool, true, false, not, List, [], ◌∷◌, ◌++◌, length, refl, sym, ◌∙◌, ap, subst, arith, length-append}
use Rattle.std.specs.Prelude.{Some, is_some, ◌==◌, ◌&&◌, ◌||◌, nat_le, nat_lt, slice_set, Ok}
use Rattle.std.specs.List.{list_any}
use Rattle.std.proofs.lemmas.Bool.Decides.{nat_tests}
use Rattle.adf_format.specs.declared.types.DataType.TheVariants.{Mt, Lk}
use Rattle.adf_format.specs.Names.{is_name, is_dimension}
use Rattle.adf_format.specs.Links.{path_part, is_link_file, is_link_path, is_link_text, link_text}
use Rattle.adf_format.specs.Tree.{Node, Tree, node_at, children_at, children_of, depth_of, first_named, is_link, IsNode, IsTree}
use Rattle.adf_model.specs.declared.tree.Edit.{Edit}
use Rattle.adf_model.specs.declared.tree.NodeId.{NodeId}
use Rattle.adf_model.specs.Edits.{apply, link_tests, given_children, new_link, with_new}
use Rattle.adf_model.proofs.Basics.{and_parts, or_none, not_false, not_le, not_lt, not_true, same_Ok, passed}
use Rattle.adf_model.proofs.Keeping.Created.{IsTree-created}

not_62 : (b : ℕ) → not (b == 62) ≡ true → (b == 62) ≡ false
not_62 b e = by_case (b == 62) e
  where
    by_case : (t : Bool) → not t ≡ true → t ≡ false
    by_case true e = sym e
    by_case false e = refl

-- the path of a link text is what stands behind the file
pub path_part-link_text : (file path : List ℕ) → is_link_file file ≡ true → path_part (link_text file path) ≡ path
path_part-link_text [] path e = refl
path_part-link_text (b ∷ file) path e =
    let parts = and_parts (not (b == 62)) (is_link_file file) e in
    let other : (b == 62) ≡ false = not_62 b parts.0 in
    rw (other) (path_part-link_text file path parts.1)

-- and there is a `>` in it
marked : (file path : List ℕ) → list_any (λ b. b == 62) (link_text file path) ≡ true
marked [] path = refl
marked (b ∷ file) path = by_case (b == 62) (marked file path)
  where
    by_case : (t : Bool) → list_any (λ b. b == 62) (link_text file path) ≡ true → (t || list_any (λ b. b == 62) (link_text file path)) ≡ true
    by_case true e = refl
    by_case false e = e

both : (a b : Bool) → a ≡ true → b ≡ true → (a && b) ≡ true
both true b e f = f
both false b e f = absurd (not_true e)

pub is_link_text-link_text : (file path : List ℕ) → (is_link_file file && is_link_path path) ≡ true → is_link_text (link_text file path) ≡ true
is_link_text-link_text file path e =
    let parts = and_parts (is_link_file file) (is_link_path path) e in
    both (list_any (λ b. b == 62) (link_text file path)) (is_link_path (path_part (link_text file path))) (marked file path) (ap is_link_path (path_part-link_text file path parts.0) ∙ parts.1)

one_dimension : (wide : Bool) (n : ℕ) → 0 < n → n ≤ 4096 → is_dimension wide n ≡ true
one_dimension true n low high = grind (arith, nat_tests, low, high)
one_dimension false n low high = grind (arith, nat_tests, low, high)

one_shape : (t : Bool) → t ≡ true → (true && true && (t && true)) ≡ true
one_shape true e = refl
one_shape false e = e

size_one : (n : ℕ) → n ≡ 1 * (n * 1)
size_one n = omega arith

pub IsNode-new_link : (wide : Bool) (wanted file path : List ℕ) → is_name wanted ≡ true → (is_link_file file && is_link_path path) ≡ true → length (link_text file path) ≤ 4096 → IsNode wide (new_link wanted (link_text file path))
IsNode-new_link wide wanted file path named linked short = record {
  named = named;
  labelled = refl;
  shaped = one_shape (is_dimension wide (length (link_text file path))) (one_dimension wide (length (link_text file path)) (long (length file) (length path) (length (link_text file path)) (length-append file (62 ∷ path))) short);
  sized = size_one (length (link_text file path));
  empty = λ e. absurd (differ e);
  link = λ e. record { text = link_text file path; held = refl; spelled = is_link_text-link_text file path linked; short = short; sized = refl; childless = refl };
}
  where
    differ : Lk ≡ Mt → ⊥
    differ e = cc

    long : (a b n : ℕ) → n ≡ a + suc b → 0 < n
    long a b n e = omega (arith, e)

-- where the parent is live and no link
pub link_keeps : (tree after : Tree) (at : NodeId) (wanted file path : List ℕ) (parent : Node) → IsTree tree → node_at tree at.serial ≡ Some parent → is_link parent ≡ false → apply tree (Edit.Link at wanted file path) ≡ Ok after → IsTree after
link_keeps tree after at wanted file path parent is here no_link e =
    let made_node = new_link wanted (link_text file path) in
    let all = passed (link_tests tree at.serial wanted file path) (Ok (with_new tree at.serial made_node)) after e in
    let none = all.0 in
    let made : with_new tree at.serial made_node ≡ after = same_Ok all.1 in
    let kids : children_at tree at.serial ≡ parent.children = ap children_of here in
    let named : is_some (first_named tree parent.children wanted) ≡ false = subst (λ xs. is_some (first_named tree xs wanted) ≡ false) kids none.1.0 in
    let room : length parent.children < 2 ^ 20 = subst (λ xs. length xs < 2 ^ 20) kids (not_le _ _ none.1.1.0) in
    let high : depth_of tree at.serial < 255 = not_le _ _ none.1.1.1.0 in
    let last = or_none (nat_lt 4096 (length (link_text file path))) (nat_le (2 ^ 48) (length tree.nodes)) none.1.1.1.1.1.0 in
    let left : length tree.nodes < 2 ^ 48 = not_le _ _ last.1 in
    let node = IsNode-new_link tree.wide wanted file path (not_false _ none.0) (not_false _ none.1.1.1.1.0) (not_lt _ _ last.0) in
    let sound = IsTree-created tree at.serial parent made_node is here refl node no_link named room high left in
    subst IsTree (ap (λ o. record tree { nodes = slice_set tree.nodes at.serial (given_children (children_of o ++ length tree.nodes ∷ []) o) ++ Some made_node ∷ [] }) (sym here) ∙ made) sound
