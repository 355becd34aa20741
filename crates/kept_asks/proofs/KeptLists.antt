-- A list that is kept: the child of a name in it, and its children as they are answered.
use Rattle.std.proofs.Common.{◌≡◌, ℕ, zero, suc, refl, sym, ◌∙◌, ap, arith, List, [], ◌∷◌, ◌++◌, length, ◌+◌, ◌≤◌, map, take, Bool, true, false, None, Some}
use Rattle.std.proofs.lemmas.Slice.Eq.{bytes_eq-Decides}
use Rattle.std.proofs.lemmas.List.{length_push}
use Rattle.std.proofs.lemmas.Option.{slice_get_within}
use Rattle.std.specs.Prelude.{bytes_eq, cond, slice_get}
use Rattle.adf_format.specs.Fields.{text_field, trimmed}
use Rattle.adf_format.specs.Names.{is_name}
use Rattle.adf_format.specs.Tree.{Tree, IsTree, IsAmong, children_at, first_named, name_at, name_of, node_at}
use Rattle.adf_model.specs.Answers.{child_entry}
use Rattle.adf_model.proofs.Basics.{not_true, false_of, same_Some}
use Rattle.adf_model.proofs.Creation.CreatedNodes.{among_get}
use Rattle.layout_laws.proofs.NodeRead.{name_again}
use Rattle.kept_names.specs.Lists.{serial_of}
use Rattle.tree_edits.proofs.Tables.{there}
use Rattle.kept_asks.specs.Named.{answered_child, entry_in, kept_child}

-- each of some nodes has a name
abbrev AreNamed : Tree → List ℕ → Type 0
AreNamed tree serials = (i c : ℕ) → slice_get serials i ≡ Some c → is_name (name_at tree c) ≡ true

pub children_named : (tree : Tree) → IsTree tree → (serial : ℕ) → AreNamed tree (children_at tree serial)
children_named tree is serial i c listed =
    let among : IsAmong (children_at tree serial) c = among_get (children_at tree serial) i c listed in
    let its = there (node_at tree c) (is.live serial c among).0 in
    ap is_name (ap name_of its.1) ∙ (is.each c its.0 its.1).named

-- ---- the child of a name

same_test : (a b : Bool) → (a ≡ true → b ≡ true) → (b ≡ true → a ≡ true) → a ≡ b
same_test true b to from = sym (to refl)
same_test false b to from = sym (false_of b (λ t. not_true (from t)))

module _ (tree : Tree) (name : List ℕ) (good : is_name name ≡ true) where
  -- the fields of names are the same where the names are
  same_field : (c : ℕ) → is_name (name_at tree c) ≡ true → bytes_eq (text_field 32 name) (text_field 32 (name_at tree c)) ≡ bytes_eq (name_at tree c) name
  same_field c fine = same_test (bytes_eq (text_field 32 name) (text_field 32 (name_at tree c))) (bytes_eq (name_at tree c) name)
      (λ h. (bytes_eq-Decides (name_at tree c) name).1
      (sym (name_again (name_at tree c) fine) ∙ ap trimmed (sym ((bytes_eq-Decides (text_field 32 name) (text_field 32 (name_at tree c))).0 h)) ∙ name_again name good))
      (λ h. (bytes_eq-Decides (text_field 32 name) (text_field 32 (name_at tree c))).1 (ap (text_field 32) (sym ((bytes_eq-Decides (name_at tree c) name).0 h))))

  pub found_kept : (serials : List ℕ) → AreNamed tree serials → serial_of (text_field 32 name) (map (entry_in tree) serials) ≡ first_named tree serials name
  found_kept [] all = refl
  found_kept (c ∷ serials) all =
      ap (λ b. cond b (Some c) (serial_of (text_field 32 name) (map (entry_in tree) serials))) (same_field c (all 0 c refl))
      ∙ ap (λ o. cond (bytes_eq (name_at tree c) name) (Some c) o) (found_kept serials (λ i d e. all (suc i) d e))

-- ---- children as they are answered

pub answered_again : (tree : Tree) (file : ℕ) (serials : List ℕ) → AreNamed tree serials → map (answered_child file) (map (entry_in tree) serials) ≡ map (child_entry tree file) serials
answered_again tree file [] all = refl
answered_again tree file (c ∷ serials) all =
    ap (λ name. record { node = record { file = file; serial = c }; name = name } ∷ map (answered_child file) (map (entry_in tree) serials)) (name_again (name_at tree c) (all 0 c refl))
    ∙ ap (λ cs. child_entry tree file c ∷ cs) (answered_again tree file serials (λ i d e. all (suc i) d e))

pub kept_again : (tree : Tree) (file : ℕ) (serials : List ℕ) → map kept_child (map (child_entry tree file) serials) ≡ map (entry_in tree) serials
kept_again tree file [] = refl
kept_again tree file (c ∷ serials) = ap (λ es. entry_in tree c ∷ es) (kept_again tree file serials)

-- ---- one more child

pub one_more_taken : {A B : Type 0} (f : A → B) (xs : List A) (n : ℕ) (x : A) → slice_get xs n ≡ Some x → map f (take (suc n) xs) ≡ map f (take n xs) ++ f x ∷ []
one_more_taken f [] n x e = cc
one_more_taken f (y ∷ xs) zero x e = ap (λ z. f z ∷ []) (same_Some y x e)
one_more_taken f (y ∷ xs) (suc n) x e = ap (λ zs. f y ∷ zs) (one_more_taken f xs n x e)

pub all_taken : {A : Type 0} (xs : List A) (n : ℕ) → slice_get xs n ≡ None → take n xs ≡ xs
all_taken [] zero e = refl
all_taken [] (suc n) e = refl
all_taken (y ∷ xs) zero e = cc
all_taken (y ∷ xs) (suc n) e = ap (λ zs. y ∷ zs) (all_taken xs n e)

pub answered_more : {A B : Type 0} (f : A → B) (list : List A) (old new : List B) (n : ℕ) (x : A) (y : B) → n ≡ length old → slice_get list n ≡ Some x → y ≡ f x → new ≡ old ++ y ∷ []
    → (length old ≤ length list) × (old ≡ map f (take (length old) list)) → (length new ≤ length list) × (new ≡ map f (take (length new) list))
answered_more f list old new n x y at e is more so =
    let got : slice_get list (length old) ≡ Some x = ap (slice_get list) (sym at) ∙ e in
    let long : length new ≡ length old + 1 = ap length more ∙ length_push old y in
    let lt = slice_get_within list (length old) x got in
    let next : suc (length old) ≡ length new = omega (arith, long) in (
      omega (arith, long, lt),
      more ∙ ap (λ z. old ++ z ∷ []) is ∙ ap (λ zs. zs ++ f x ∷ []) so.1 ∙ sym (one_more_taken f list (length old) x got) ∙ ap (λ k. map f (take k list)) next,
    )

pub answered_all : {A B : Type 0} (f : A → B) (list : List A) (old : List B) (n : ℕ) → n ≡ length old → slice_get list n ≡ None → (length old ≤ length list) × (old ≡ map f (take (length old) list)) → old ≡ map f list
answered_all f list old n at e so = so.1 ∙ ap (map f) (all_taken list (length old) (ap (slice_get list) (sym at) ∙ e))
