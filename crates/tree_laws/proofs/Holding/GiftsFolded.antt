-- Gifts one after another: ranges that were taken are none's; and what a deletion gives.
use Rattle.std.proofs.Common.{◌≡◌, inl, inr, ℕ, zero, suc, refl, sym, ◌∙◌, ap, subst, arith, List, [], ◌∷◌, ◌++◌, length, map, get_or, ◌+◌, ◌-◌, ◌*◌, ◌^◌, ◌<◌, ◌≤◌, Bool, true, false, not}
use Rattle.std.proofs.lemmas.Bool.Decides.{leb_tells}
use Rattle.std.specs.Prelude.{Option, Some, None, is_some, slice_get, slice_set, if◌then◌else◌, Ok}
use Rattle.std.specs.List.{flat_map}
use Rattle.adf_format.specs.declared.types.Extent.{Extent}
use Rattle.adf_format.specs.Hex.{hex_text}
use Rattle.adf_format.specs.Fields.{field}
use Rattle.adf_format.specs.Tree.{Tree, Node, IsTree, node_at, is_live, children_of, children_at, parent_of, is_within, erased_from}
use Rattle.adf_format.specs.Tiles.{cover, MeetsNone}
use Rattle.adf_format.specs.Placement.{Placement, NodeParts, parts_of, extents_of, node_extents, head_extents, all_extents}
use Rattle.adf_format.specs.Changes.{Writes}
use Rattle.adf_format.specs.HeapRule.{heap_give}
use Rattle.adf_format.proofs.HeapSteps.{cover-append, give_tiles, give_keeps_order}
use Rattle.adf_format.proofs.BehindEnd.{AllLong, long_append, long_node}
use Rattle.adf_model.specs.declared.tree.Edit.{Edit}
use Rattle.adf_model.specs.declared.tree.NodeId.{NodeId}
use Rattle.adf_model.specs.Edits.{apply}
use Rattle.adf_model.proofs.Basics.{not_true, same_Some}
use Rattle.adf_model.proofs.Trees.DifferLemmas.{others}
use Rattle.adf_model.proofs.Creation.PartsApart.{range_in}
use Rattle.tree_laws.specs.Holding.{Holds}
use Rattle.tree_laws.specs.Plans.{plan_deleted}
use Rattle.tree_laws.specs.Gifts.{TakenInAnyOrder, Gives, GiftsEnd, DeletedAreTaken, DeletionEnds}
use Rattle.tree_laws.proofs.Holding.Steps.{once}
use Rattle.tree_laws.proofs.Holding.HeapCalls.{gave}
use Rattle.tree_laws.proofs.Deletes.NodesLeft.{nodes_left}
use Rattle.tree_laws.proofs.Tables.TableReplaced.{few_dims, node_too, some_at}
use Rattle.tree_laws.proofs.Deletes.DeletedTree.{after_is, deleted_in_its_tree, deleted_above_it}

head_byte : (b : ℕ) → b < 266 → 0 < cover head_extents b
head_byte b lt = elim (leb_tells 186 b) [
  | inl late ↦ (let held = range_in 186 80 b late.1 (omega (arith, lt)) in omega (arith, held))
  | inr early ↦ (let held = range_in 0 186 b (omega arith) (let e = early.1 in omega (arith, e)) in omega (arith, held))
]

-- what is taken, in another order
pub taken_in_any_order : TakenInAnyOrder
taken_in_any_order image tree p taken same covers h = record {
  is_tree = h.is_tree;
  beyond = h.beyond;
  header = h.header;
  same_nodes = h.same_nodes;
  nodes = h.nodes;
  tiles = record { once = λ b le. equal b ∙ h.tiles.once b le; inside = λ b lt. equal b ∙ h.tiles.inside b lt };
  gaps = h.gaps;
  fillers = h.fillers;
  threads = h.threads;
}
  where
    equal : (b : ℕ) → cover (same ++ all_extents tree.wide p) b ≡ cover (taken ++ all_extents tree.wide p) b
    equal b = let x = cover-append same (all_extents tree.wide p) b in let y = cover-append taken (all_extents tree.wide p) b in let e = covers b in omega (arith, x, y, e)

-- one gift
pub given_one : (e : Extent) (old new : List ℕ) (tree : Tree) (p : Placement) (taken : List Extent) → 0 < e.length → Holds old tree p (e ∷ taken) → Gives e p.heap old new
    → Holds new tree (record p { heap = heap_give e.place e.length p.heap }) taken
given_one e old new tree p taken long h g =
    gave old new tree p (heap_give e.place e.length p.heap) taken e.kind e.kind e.place e.length h low g.changes
    (λ used t. give_tiles e.place e.length p.heap e.kind used t)
    (give_keeps_order e.place e.length p.heap long h.gaps meets).0 g.end g.fillers g.threads
  where
    low : 266 ≤ e.place
    low = elim (leb_tells 266 e.place) [
      | inl k ↦ k.1
      | inr k ↦ absurd (
          let some = head_byte e.place k.1 in
          let held = range_in e.place e.length e.place (omega arith) (omega (arith, long)) in
          let one = once old tree p (e ∷ taken) h e.place in omega (arith, some, held, one))
    ]

    meets : MeetsNone e.place e.length p.heap.gaps
    meets b from up = let held = range_in e.place e.length b from up in let one = once old tree p (e ∷ taken) h b in omega (arith, held, one)

pub gifts_end : GiftsEnd
gifts_end [] old new tree p taken long h g = subst (λ image. Holds image tree p taken) (sym g) h
gifts_end (e ∷ es) old new tree p taken long h g =
    gifts_end es g.0 new tree (record p { heap = heap_give e.place e.length p.heap }) taken long.1 (given_one e old g.0 tree p (es ++ taken) long.0 h g.1) g.2

-- ---- lists from which some things are erased

none_either : {A : Type 0} (b : Bool) → ◌≡◌ {A = Option A} None (if b then None else None)
none_either true = refl
none_either false = refl

erased_agree : (k : ℕ) (f g : ℕ → Bool) (xs : List (Option NodeParts)) → ((i j : ℕ) (a : NodeParts) → get_or xs i None ≡ Some a → j ≡ k + i → f j ≡ g j) → erased_from k f xs ≡ erased_from k g xs
erased_agree k f g [] same = refl
erased_agree k f g (x ∷ xs) same =
    ap (λ (y : Option NodeParts). y ∷ erased_from (suc k) f xs) (first x (λ a e. same 0 k a e (omega arith)))
    ∙ ap (λ ys. (if g k then None else x) ∷ ys) (erased_agree (suc k) f g xs (λ i j a e q. same (suc i) j a e (omega (arith, q))))
  where
    first : (x : Option NodeParts) → ((a : NodeParts) → x ≡ Some a → f k ≡ g k) → (if f k then None else x) ≡ (if g k then None else x)
    first None h = sym (none_either (f k)) ∙ none_either (g k)
    first (Some a) h = ap (λ (b : Bool). if b then None else Some a) (h a refl)

long_left : (wide : Bool) (k : ℕ) (gone : ℕ → Bool) (xs : List (Option NodeParts)) → ((i : ℕ) (ms : NodeParts) → get_or xs i None ≡ Some ms → AllLong (node_extents wide ms)) → AllLong (flat_map (extents_of wide) (erased_from k gone xs))
long_left wide k gone [] h = tt
long_left wide k gone (x ∷ xs) h =
    long_append (extents_of wide (if gone k then None else x)) (flat_map (extents_of wide) (erased_from (suc k) gone xs)) (one (gone k) x (h 0)) (long_left wide (suc k) gone xs (λ i ms e. h (suc i) ms e))
  where
    one : (g : Bool) (x : Option NodeParts) → ((ms : NodeParts) → x ≡ Some ms → AllLong (node_extents wide ms)) → AllLong (extents_of wide (if g then None else x))
    one true x h = tt
    one false None h = tt
    one false (Some ms) h = h ms refl

-- ---- a deletion

-- a deletion gives the parts of the nodes within the subtree
goes : (tree after : Tree) (p : Placement) (node : NodeId) → IsTree tree → map is_some p.parts ≡ map is_some tree.nodes → apply tree (Edit.Delete node) ≡ Ok after → (k : ℕ) (ms : NodeParts) → parts_of p k ≡ Some ms → is_within tree node.serial k ≡ not (is_live after k)
goes tree after p node is same e k ms there = by_gone (is_within tree node.serial k) refl
  where
    live : is_live tree k ≡ true
    live = ap is_some (node_too tree p k ms same there).1

    by_gone : (b : Bool) → is_within tree node.serial k ≡ b → b ≡ not (is_live after k)
    by_gone true g = ap (λ o. not (is_some o)) (sym ((deleted_in_its_tree tree after node is e).1 k g))
    by_gone false g = ap not (sym ((deleted_in_its_tree tree after node is e).2 k live g).0)

pub erased_left : (tree after : Tree) (p : Placement) (node : NodeId) → IsTree tree → map is_some p.parts ≡ map is_some tree.nodes → apply tree (Edit.Delete node) ≡ Ok after
    → flat_map (extents_of tree.wide) (erased_from 0 (λ k. not (is_within tree node.serial k)) p.parts) ≡ (plan_deleted after p).given
erased_left tree after p node is same e =
    ap (λ xs. flat_map (extents_of tree.wide) xs) same_left
    ∙ ap (λ w. flat_map (extents_of w) (erased_from 0 (is_live after) p.parts)) (ap (λ (x : Tree). x.wide) (after_is tree after node is e).5)
  where
    same_left : erased_from 0 (λ k. not (is_within tree node.serial k)) p.parts ≡ erased_from 0 (is_live after) p.parts
    same_left = erased_agree 0 (λ k. not (is_within tree node.serial k)) (is_live after) p.parts
        (λ k j ms there q. ap not (goes tree after p node is same e j ms (ap (parts_of p) (q ∙ omega arith) ∙ there)) ∙ twice (is_live after j))
      where
        twice : (b : Bool) → not (not b) ≡ b
        twice true = refl
        twice false = refl

pub deleted_are_taken : DeletedAreTaken
deleted_are_taken old middle new tree after p taken node par i at t h e up listed placed has w = (
  subst AllLong same_given long,
  subst (λ xs. Holds new after (record p { parts = xs }) ((plan_deleted after p).given ++ taken)) same_parts
      (subst (λ xs. Holds new after (record p { parts = erased_from 0 (is_within tree node.serial) p.parts }) (xs ++ taken)) same_given (subst (λ (x : Tree). Holds new x (record p { parts = erased_from 0 (is_within tree node.serial) p.parts }) (flat_map (extents_of tree.wide) (erased_from 0 (λ k. not (is_within tree node.serial k)) p.parts) ++ taken)) (after_is tree after node h.is_tree e).5 held)),
)
  where
    same_parts : erased_from 0 (is_within tree node.serial) p.parts ≡ erased_from 0 (λ k. not (is_live after k)) p.parts
    same_parts = erased_agree 0 (is_within tree node.serial) (λ k. not (is_live after k)) p.parts (λ k j ms there q. goes tree after p node h.is_tree h.same_nodes e j ms (ap (parts_of p) (q ∙ omega arith) ∙ there))

    same_given : flat_map (extents_of tree.wide) (erased_from 0 (λ k. not (is_within tree node.serial k)) p.parts) ≡ (plan_deleted after p).given
    same_given = erased_left tree after p node h.is_tree h.same_nodes e

    long : AllLong (flat_map (extents_of tree.wide) (erased_from 0 (λ k. not (is_within tree node.serial k)) p.parts))
    long = long_left tree.wide 0 (λ k. not (is_within tree node.serial k)) p.parts (λ k ms there. let n = node_too tree p k ms h.same_nodes there in long_node old tree p n.0 ms (h.nodes k n.0 ms n.1 there))

    by_node : (from : ℕ) (parent : Node) → parent_of tree node.serial ≡ Some from → node_at tree from ≡ Some parent
        → record tree { nodes = erased_from 0 (is_within tree node.serial) (slice_set tree.nodes from (Some (record parent { children = others parent.children node.serial }))) } ≡ after
        → Holds new (record tree { nodes = erased_from 0 (is_within tree node.serial) (slice_set tree.nodes from (Some (record parent { children = others parent.children node.serial }))) })
        (record p { parts = erased_from 0 (is_within tree node.serial) p.parts }) (flat_map (extents_of tree.wide) (erased_from 0 (λ k. not (is_within tree node.serial k)) p.parts) ++ taken)
    by_node from parent up_there here same =
        let is_par : from ≡ par = same_Some from par (sym up_there ∙ up) in
        let at_par : node_at tree par ≡ Some parent = ap (node_at tree) (sym is_par) ∙ here in
        let kids : children_at tree par ≡ parent.children = ap children_of at_par in
        let above = deleted_above_it tree after node par h.is_tree e up in
        let few : length parent.children ≤ 2 ^ 20 = subst (λ xs. length xs ≤ 2 ^ 20) kids (h.is_tree.width par) in
        let shape : record tree { nodes = erased_from 0 (is_within tree node.serial) (slice_set tree.nodes par (Some (record parent { children = others parent.children node.serial }))) } ≡ after =
        ap (λ (k : ℕ). record tree { nodes = erased_from 0 (is_within tree node.serial) (slice_set tree.nodes k (Some (record parent { children = others parent.children node.serial }))) }) (sym is_par) ∙ same in
        subst (λ (k : ℕ). Holds new (record tree { nodes = erased_from 0 (is_within tree node.serial) (slice_set tree.nodes k (Some (record parent { children = others parent.children node.serial }))) })
        (record p { parts = erased_from 0 (is_within tree node.serial) p.parts }) (flat_map (extents_of tree.wide) (erased_from 0 (λ k. not (is_within tree node.serial k)) p.parts) ++ taken)) (sym is_par)
        (nodes_left old middle new tree p taken node.serial par i parent at t h at_par placed has (subst (λ (xs : List ℕ). slice_get xs i ≡ Some node.serial) kids listed) above.1 above.2
        (few_dims tree par parent h.is_tree at_par) (omega (arith, few))
        (subst (λ (c : ℕ). Writes (t.place + 16 + 44 * i) (field old (t.place + 16 + 44 * suc i) (44 * (c - suc i))) old middle) (ap length kids)
        (subst (λ (j : ℕ). Writes (t.place + 16 + 44 * i) (field old (t.place + 16 + 44 * j) (44 * (length (children_at tree par) - suc i))) old middle) (next i) w.entries))
        (subst (λ (c : ℕ). Writes (at.header + 68) (hex_text 8 (c - 1)) middle new) (ap length kids) w.counted)
        (subst IsTree (sym shape) above.0))
      where
        next : (i : ℕ) → i + 1 ≡ suc i
        next i = omega arith

    held : Holds new (record tree { nodes = erased_from 0 (is_within tree node.serial) (slice_set tree.nodes (after_is tree after node h.is_tree e).0 (Some (record (after_is tree after node h.is_tree e).1 { children = others (after_is tree after node h.is_tree e).1.children node.serial }))) })
        (record p { parts = erased_from 0 (is_within tree node.serial) p.parts }) (flat_map (extents_of tree.wide) (erased_from 0 (λ k. not (is_within tree node.serial k)) p.parts) ++ taken)
    held = let d = after_is tree after node h.is_tree e in by_node d.0 d.1 d.2 d.3 d.5

pub deletion_ends : DeletionEnds
deletion_ends a b c d tree after p taken node par i at t h e up listed placed has w g =
    let x = deleted_are_taken a b c tree after p taken node par i at t h e up listed placed has w in
    (λ limit. refl, gifts_end (plan_deleted after p).given c d after (plan_deleted after p).placed taken x.0 x.1 g)
