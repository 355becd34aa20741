-- The tree of a verdict is read from the image by the places of its nodes.
use Rattle.std.proofs.Common.{◌≡◌, inl, inr, ℕ, zero, suc, refl, sym, ◌∙◌, ap, subst, arith, List, [], ◌∷◌, length, get_or, ◌<◌, ◌≤◌, true}
use Rattle.std.proofs.lemmas.Bool.Decides.{leb_tells}
use Rattle.std.proofs.lemmas.List.{length-map}
use Rattle.std.specs.Prelude.{Option, Some, None, is_some, slice_get}
use Rattle.adf_format.specs.declared.types.Extent.{Extent}
use Rattle.adf_format.specs.Tree.{Tree, Node, IsNumbered, is_live, node_at, next_serial, tree_order, renumbered_node}
use Rattle.adf_format.specs.Placement.{Placement, parts_of}
use Rattle.adf_format.specs.LaysOut.{LaysOut}
use Rattle.adf_format.specs.Verdict.{NodePlace, ListsNodes}
use Rattle.adf_format.proofs.LayoutLaws.{live_parts}
use Rattle.adf_format.specs.HeapRule.{parts_or_none}
use Rattle.adf_model.proofs.Basics.{not_true, same_Some}
use Rattle.adf_model.proofs.Creation.CreatedNodes.{among_get, there_inside}
use Rattle.adf_model.proofs.Trees.Renumbered.{live_listed, index_map}
use Rattle.tree_laws.specs.Reading.{SaysPlace, ArePlaces, placement_in, listed_places, VerdictIsRead}
use Rattle.tree_laws.proofs.Reading.TreesRead.{table_is_places, tree_is_read}

there : {A : Type 0} (o : Option A) → is_some o ≡ true → (a : A) × (o ≡ Some a)
there None h = absurd (not_true h)
there (Some a) h = (a, refl)

gone : {A : Type 0} (o : Option A) → (is_some o ≡ true → ⊥) → o ≡ None
gone None h = refl
gone (Some a) h = absurd (h refl)

got : {A : Type 0} (xs : List A) (k : ℕ) → k < length xs → (a : A) × (slice_get xs k ≡ Some a)
got [] k lt = absurd (omega (arith, lt))
got (x ∷ xs) zero lt = (x, refl)
got (x ∷ xs) (suc k) lt = got xs k (omega (arith, lt))

place_in : (nodes : List NodePlace) (k : ℕ) (n : NodePlace) → slice_get nodes k ≡ Some n → get_or (listed_places nodes) k None ≡ Some n.place
place_in [] k n e = cc
place_in (m ∷ nodes) zero n e = ap (λ (x : NodePlace). Some x.place) (same_Some m n e)
place_in (m ∷ nodes) (suc k) n e = place_in nodes k n e

place_past : (nodes : List NodePlace) (k : ℕ) → length nodes ≤ k → get_or (listed_places nodes) k None ≡ None
place_past [] k le = refl
place_past (n ∷ nodes) zero le = absurd (omega (arith, le))
place_past (n ∷ nodes) (suc k) le = place_past nodes k (omega (arith, le))

module _ (image : List ℕ) (tree : Tree) (p : Placement) (nodes : List NodePlace) (l : LaysOut image tree p) (numbers : IsNumbered tree) (listed : ListsNodes tree p nodes) where
  order_long : length (tree_order tree) ≡ next_serial tree
  order_long = sym (length-map (tree_order tree) (λ (s : ℕ). renumbered_node (tree_order tree) (node_at tree s))) ∙ ap (λ (t : Tree). length t.nodes) numbers

  some_new : (order : List ℕ) (o : Option Node) → is_some o ≡ true → is_some (renumbered_node order o) ≡ true
  some_new order None h = h
  some_new order (Some n) h = refl

  all_live : (k : ℕ) → k < next_serial tree → is_live tree k ≡ true
  all_live k lt =
      let s = got (tree_order tree) k (let e = order_long in omega (arith, e, lt)) in
      ap (λ (t : Tree). is_live t k) (sym numbers)
      ∙ ap is_some (index_map (λ (s : ℕ). renumbered_node (tree_order tree) (node_at tree s)) (tree_order tree) k s.0 s.1)
      ∙ some_new (tree_order tree) (node_at tree s.0) (live_listed tree l.is_tree s.0 (among_get (tree_order tree) k s.0 s.1))

  says : (k : ℕ) → SaysPlace tree p k (get_or (listed_places nodes) k None)
  says k = elim (leb_tells (next_serial tree) k) [
    | inl past ↦ subst (SaysPlace tree p k) (sym (place_past nodes k (let c = listed.count in let g = past.1 in omega (arith, c, g))))
        (gone (node_at tree k) (λ h. let some = there (node_at tree k) h in let lt : k < next_serial tree = there_inside tree.nodes k some.0 some.1 in let g = past.1 in omega (arith, lt, g)))
    | inr lt ↦ (
        let n = got nodes k (let c = listed.count in let g = lt.1 in omega (arith, c, g)) in
        let live = all_live k lt.1 in
        let parts = there (parts_of p k) (live_parts image tree p l k ∙ live) in
        subst (SaysPlace tree p k) (sym (place_in nodes k n.0 n.1)) (live, listed.places k n.0 parts.0 n.1 parts.1 ∙ sym (ap (λ o. (parts_or_none o).header) parts.1)))
  ]

  pub listed_are : ArePlaces p (listed_places nodes)
  listed_are = table_is_places image tree p (listed_places nodes) l (length-map nodes (λ (n : NodePlace). Some n.place) ∙ listed.count) says

pub verdict_is_read : VerdictIsRead
verdict_is_read image nodes gaps end format wide v =
    let are = listed_are image v.tree v.placement nodes v.laid_out v.in_order v.listed in
    let read = tree_is_read image v.tree v.placement (listed_places nodes) v.laid_out are in (
      are,
      read.0,
      read.1 ∙ ap (λ (gs : List Extent). placement_in image (listed_places nodes) (record { gaps = gs; end = v.placement.heap.end })) v.same_gaps
          ∙ ap (λ (e : ℕ). placement_in image (listed_places nodes) (record { gaps = gaps; end = e })) v.same_end,
    )
