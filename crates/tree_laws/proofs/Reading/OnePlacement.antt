-- An image that lays out a tree does so at one placement.
use Rattle.std.proofs.Common.{◌≡◌, inl, inr, ℕ, refl, sym, ◌∙◌, ap, subst, arith, List, [], ◌∷◌, length, map, Bool, true, false}
use Rattle.std.proofs.lemmas.Bool.Decides.{eqb_tells}
use Rattle.std.proofs.lemmas.List.{length-map}
use Rattle.std.specs.Prelude.{Option, Some, None, is_some, ◌==◌, if◌then◌else◌, count_by}
use Rattle.adf_format.specs.Tree.{Tree, IsTree, is_live, is_among, tree_order}
use Rattle.adf_format.specs.Placement.{Placement, NodeParts, Heap, parts_of}
use Rattle.adf_format.specs.LaysOut.{LaysOut}
use Rattle.adf_format.proofs.LayoutLaws.{live_parts}
use Rattle.adf_model.proofs.Basics.{not_true, or_parts}
use Rattle.adf_model.proofs.Trees.TreeOrder.{times_none, times-count_by, listed_once}
use Rattle.layout_laws.specs.FoundLayout.{IsSameLayout}
use Rattle.layout_laws.proofs.SameLayouts.{one_layout}
use Rattle.tree_laws.specs.Reading.{OnePlacement}
use Rattle.tree_laws.proofs.Reading.PlacesFound.{same_list}

heads : {A : Type 0} {x y : A} {xs ys : List A} → (x ∷ xs) ≡ (y ∷ ys) → x ≡ y
heads e = cc

tails : {A : Type 0} {x y : A} {xs ys : List A} → (x ∷ xs) ≡ (y ∷ ys) → xs ≡ ys
tails e = cc

-- what two functions make of a list is alike at each member
alike_at : {A : Type 0} (f g : ℕ → A) (xs : List ℕ) (k : ℕ) → map f xs ≡ map g xs → is_among xs k ≡ true → f k ≡ g k
alike_at f g [] k same among = absurd (not_true among)
alike_at f g (x ∷ xs) k same among = elim (or_parts (x == k) (is_among xs k) among) [
  | inl t ↦ elim (eqb_tells x k) [ inl e ↦ subst (λ j. f j ≡ g j) e.1 (heads same) | inr e ↦ absurd (not_true (sym e.0 ∙ t)) ]
  | inr t ↦ alike_at f g xs k (tails same) t
]

-- a live serial stands in tree order
in_tree_order : (tree : Tree) (is : IsTree tree) (k : ℕ) → is_live tree k ≡ true → is_among (tree_order tree) k ≡ true
in_tree_order tree is k live = by_test (is_among (tree_order tree) k) refl
  where
    one : count_by (λ s. s == k) (tree_order tree) ≡ 1
    one = listed_once tree is k ∙ ap (λ (b : Bool). if b then 1 else 0) live

    by_test : (b : Bool) → is_among (tree_order tree) k ≡ b → b ≡ true
    by_test true e = refl
    by_test false e = let none = times_none k (tree_order tree) e in let same = times-count_by k (tree_order tree) in absurd (omega (arith, none, same, one))

pub one_placement : OnePlacement
one_placement image tree p q l m =
    ap (λ (xs : List (Option NodeParts)). record { parts = xs; heap = p.heap }) (same_list p.parts q.parts (many p l ∙ sym (many q m)) (λ k. at_serial k (is_live tree k) refl))
    ∙ ap (λ (h : Heap). record { parts = q.parts; heap = h }) same.heap
  where
    same : IsSameLayout tree p tree q
    same = one_layout image tree tree p q l m

    many : (r : Placement) → LaysOut image tree r → length r.parts ≡ length tree.nodes
    many r h = sym (length-map r.parts is_some) ∙ ap (λ (bs : List Bool). length bs) h.same_nodes ∙ length-map tree.nodes is_some

    none : (o : Option NodeParts) → is_some o ≡ false → o ≡ None
    none None e = refl
    none (Some parts) e = absurd (not_true (sym e))

    at_serial : (k : ℕ) (b : Bool) → is_live tree k ≡ b → parts_of p k ≡ parts_of q k
    at_serial k true e = alike_at (parts_of p) (parts_of q) (tree_order tree) k same.parts (in_tree_order tree l.is_tree k e)
    at_serial k false e = none (parts_of p k) (live_parts image tree p l k ∙ e) ∙ sym (none (parts_of q k) (live_parts image tree q m k ∙ e))
