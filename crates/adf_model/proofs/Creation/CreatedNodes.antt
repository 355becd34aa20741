-- With one node more, the children that a node had stay, and the entries that named them name them again.
use Rattle.std.proofs.Common.{◌≡◌, ◌≢◌, ◌⊎◌, inl, inr, ℕ, zero, suc, refl, sym, ◌∙◌, ap, subst, arith, true, List, [], ◌∷◌, ◌++◌, length, map, get_or, ◌<◌}
use Rattle.std.specs.Prelude.{Option, Some, None, is_some, slice_set, slice_get, ◌==◌, ◌||◌}
use Rattle.std.proofs.lemmas.List.{length-map, length-set}
use Rattle.std.proofs.lemmas.Bool.Decides.{eqb_tells}
use Rattle.adf_format.specs.Tree.{Tree, Node, IsTree, IsAmong, is_among, node_at, children_at, children_of}
use Rattle.adf_format.specs.Placement.{Placement, Heap, NodeParts, parts_of}
use Rattle.adf_format.specs.LaysOut.{NamesChildren}
use Rattle.adf_format.specs.Parts.{SpellsEntry}
use Rattle.adf_format.specs.Fields.{text_field}
use Rattle.adf_format.specs.Pointer.{To}
use Rattle.adf_format.specs.Changes.{SameChildren}
use Rattle.adf_model.proofs.Basics.{same_Some, not_there, not_true, or_right}

-- ---- a list with one item set and one more

pub last_of : {A : Type 0} (xs : List A) (y d : A) → get_or (xs ++ y ∷ []) (length xs) d ≡ y
last_of [] y d = refl
last_of (x ∷ xs) y d = last_of xs y d

pub at_new : {A : Type 0} (xs : List A) (s k : ℕ) (x y d : A) → k ≡ length xs → get_or (slice_set xs s x ++ y ∷ []) k d ≡ y
at_new xs s k x y d e =
    ap (λ j. get_or (slice_set xs s x ++ y ∷ []) j d) (e ∙ sym (length-set xs s x)) ∙ last_of (slice_set xs s x) y d

pub at_set : {A : Type 0} (xs : List A) (s : ℕ) (x y d : A) → s < length xs → get_or (slice_set xs s x ++ y ∷ []) s d ≡ x
at_set [] s x y d lt = absurd (omega (arith, lt))
at_set (z ∷ xs) zero x y d lt = refl
at_set (z ∷ xs) (suc s) x y d lt = at_set xs s x y d (omega (arith, lt))

beyond : {A : Type 0} (xs : List A) (k : ℕ) (y d : A) → k ≢ length xs → get_or (xs ++ y ∷ []) k d ≡ get_or xs k d
beyond [] zero y d differ = absurd (differ refl)
beyond [] (suc k) y d differ = refl
beyond (x ∷ xs) zero y d differ = refl
beyond (x ∷ xs) (suc k) y d differ = beyond xs k y d (λ e. differ (ap suc e))

pub at_other : {A : Type 0} (xs : List A) (s k : ℕ) (x y d : A) → k ≢ length xs → k ≢ s → get_or (slice_set xs s x ++ y ∷ []) k d ≡ get_or xs k d
at_other [] s k x y d new set = beyond [] k y d new
at_other (z ∷ xs) zero zero x y d new set = absurd (set refl)
at_other (z ∷ xs) zero (suc k) x y d new set = beyond xs k y d (λ e. new (ap suc e))
at_other (z ∷ xs) (suc s) zero x y d new set = refl
at_other (z ∷ xs) (suc s) (suc k) x y d new set = at_other xs s k x y d (λ e. new (ap suc e)) (λ e. set (ap suc e))

pub there_inside : {A : Type 0} (xs : List (Option A)) (k : ℕ) (a : A) → get_or xs k None ≡ Some a → k < length xs
there_inside [] k a e = absurd (not_there a e)
there_inside (x ∷ xs) zero a e = omega arith
there_inside (x ∷ xs) (suc k) a e = let rest : k < length xs = there_inside xs k a e in omega (arith, rest)

pub among_get : (xs : List ℕ) (i c : ℕ) → slice_get xs i ≡ Some c → IsAmong xs c
among_get [] i c e = absurd (not_there c e)
among_get (x ∷ xs) zero c e = elim (eqb_tells x c) [ inl t ↦ ap (λ b. b || is_among xs c) t.0 | inr t ↦ absurd (t.1 (same_Some x c e)) ]
among_get (x ∷ xs) (suc i) c e = or_right (x == c) (is_among xs c) (among_get xs i c e)

-- what stands in a list with one more
got : (xs : List ℕ) (n i c : ℕ) → slice_get (xs ++ n ∷ []) i ≡ Some c → (slice_get xs i ≡ Some c) ⊎ ((i ≡ length xs) × (c ≡ n))
got [] n zero c e = inr (refl, sym (same_Some n c e))
got [] n (suc i) c e = absurd (not_there c e)
got (x ∷ xs) n zero c e = inl e
got (x ∷ xs) n (suc i) c e = elim (got xs n i c e) [ inl h ↦ inl h | inr h ↦ inr (ap suc h.0, h.1) ]

there : {A : Type 0} (o : Option A) → is_some o ≡ true → (a : A) × (o ≡ Some a)
there (Some a) e = (a, refl)
there None e = absurd (not_true e)

same_or_not : (a b : ℕ) → (a ≡ b) ⊎ (a ≢ b)
same_or_not a b = elim (eqb_tells a b) [ inl t ↦ inl t.1 | inr t ↦ inr t.1 ]

-- ---- the nodes

module _ (tree : Tree) (p : Placement) (s : ℕ) (parent : Node) (from to : NodeParts) (node : Node) (parts : NodeParts) (heap : Heap) where
  -- the parent with the new serial as its last child
  abbrev pub parent_after : Node
  parent_after = record parent { children = parent.children ++ length tree.nodes ∷ [] }

  abbrev pub tree_after : Tree
  tree_after = record tree { nodes = slice_set tree.nodes s (Some parent_after) ++ Some node ∷ [] }

  abbrev pub placed_after : Placement
  placed_after = record { parts = slice_set p.parts s (Some to) ++ Some parts ∷ []; heap = heap }

  module _ (is : IsTree tree) (same_nodes : map is_some p.parts ≡ map is_some tree.nodes) (here : node_at tree s ≡ Some parent) (stands : parts_of p s ≡ Some from) (same_header : to.header ≡ from.header) where
    pub as_many : length p.parts ≡ length tree.nodes
    as_many = sym (length-map p.parts is_some) ∙ ap length same_nodes ∙ length-map tree.nodes is_some

    -- the new serial is no child yet
    not_yet : (k : ℕ) → IsAmong (children_at tree k) (length tree.nodes) → ⊥
    not_yet k h = past (length tree.nodes) refl (is.live k (length tree.nodes) h).0
      where
        past : (n : ℕ) → n ≡ length tree.nodes → is_some (node_at tree n) ≡ true → ⊥
        past n e live = let one = there (node_at tree n) live in let lt : n < length tree.nodes = there_inside tree.nodes n one.0 one.1 in omega (arith, lt, e)

    -- each child that a node had has its name and its header
    pub children_stay : (k : ℕ) (m : Node) → node_at tree k ≡ Some m → SameChildren tree p tree_after placed_after m.children
    children_stay k m at i child now place e f g =
        let among : IsAmong (children_at tree k) child = subst (λ (o : Option Node). IsAmong (children_of o) child) (sym at) (among_get m.children i child e) in
        let old : child ≢ length tree.nodes = λ same. not_yet k (subst (λ c. IsAmong (children_at tree k) c) same among) in
        elim (same_or_not child s) [
          | inl same ↦ (
              let now_is : parent_after ≡ now = same_Some parent_after now (sym (at_set tree.nodes s (Some parent_after) (Some node) None (there_inside tree.nodes s parent here)) ∙ ap (node_at tree_after) (sym same) ∙ f) in
              let place_is : to ≡ place = same_Some to place (sym (at_set p.parts s (Some to) (Some parts) None (there_inside p.parts s from stands)) ∙ ap (parts_of placed_after) (sym same) ∙ g) in
              (parent, from, ap (node_at tree) same ∙ here, ap (parts_of p) same ∙ stands, ap (λ (x : Node). x.name) now_is, sym same_header ∙ ap (λ (x : NodeParts). x.header) place_is)
              )
          | inr differ ↦ (
            now,
            place,
            sym (at_other tree.nodes s child (Some parent_after) (Some node) None old differ) ∙ f,
            sym (at_other p.parts s child (Some to) (Some parts) None (λ same. old (same ∙ as_many)) differ) ∙ g,
            refl,
            refl,
          )
        ]

    -- entries that named the children name them again, with one entry more
    pub names_now : (bytes : List ℕ)
        → ((i child : ℕ) (was : Node) (place : NodeParts) → slice_get parent.children i ≡ Some child → node_at tree child ≡ Some was → parts_of p child ≡ Some place → SpellsEntry bytes i was.name place.header)
        → SpellsEntry bytes (length parent.children) node.name parts.header → NamesChildren bytes tree_after placed_after parent_after.children
    names_now bytes olds last i child now place e f g = elim (got parent.children (length tree.nodes) i child e) [
      | inl old ↦ (
          let s = children_stay s parent here i child now place old f g in
          let entry = olds i child s.0 s.1 old s.2 s.3 in
          record { named = entry.named ∙ ap (text_field 32) s.4; points = entry.points ∙ ap (λ at. Some (To at)) s.5 }
          )
      | inr new ↦ (
          let is_node : node ≡ now = same_Some node now (sym (at_new tree.nodes s child (Some parent_after) (Some node) None new.1) ∙ f) in
          let at_parts : parts ≡ place = same_Some parts place (sym (at_new p.parts s child (Some to) (Some parts) None (new.1 ∙ sym as_many)) ∙ g) in
          subst (λ (k : ℕ). SpellsEntry bytes k now.name place.header) (sym new.0)
          (subst (λ (x : Node). SpellsEntry bytes (length parent.children) x.name place.header) is_node (subst (λ (x : NodeParts). SpellsEntry bytes (length parent.children) node.name x.header) at_parts last))
          )
    ]
