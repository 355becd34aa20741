-- The nodes of a layout, each looked at by itself at its place, in any order of these.
use Rattle.std.proofs.Common.{◌≡◌, inl, inr, ℕ, zero, suc, refl, sym, ◌∙◌, ap, subst, arith, List, [], ◌∷◌, ◌++◌, zero-add, ◌+◌, ◌≤◌, Bool}
use Rattle.std.proofs.lemmas.List.Elements.{All-nil, All-append, Contains-append_left, Contains-append_right, Contains-append_cases}
use Rattle.std.proofs.lemmas.List.Sorted.{IsPermutation-sym, Contains-permutation, sum_by-IsPermutation}
use Rattle.std.proofs.lemmas.List.Sums.{sum_by-append}
use Rattle.std.specs.Prelude.{Option, Some, None, IsSome, is_some, slice_index_or}
use Rattle.std.specs.List.{All, Contains, flat_map, sum_by}
use Rattle.std.specs.List.Sorted.{IsPermutation}
use Rattle.adf_format.specs.declared.types.Extent.{Extent}
use Rattle.adf_format.specs.Fields.{field, trimmed}
use Rattle.adf_format.specs.Tiles.{cover, total_length}
use Rattle.adf_format.specs.Tree.{Tree, node_at, name_at, name_of}
use Rattle.adf_format.specs.Placement.{Placement, NodeParts, parts_of, node_extents, extents_of, live_extents}
use Rattle.adf_format.specs.LaysOut.{LaysOut}
use Rattle.adf_format.proofs.HeapSteps.{cover-append}
use Rattle.adf_format.proofs.LayoutLaws.{live_parts}
use Rattle.adf_format.proofs.WalkLaws.{total_length-append}
use Rattle.adf_model.proofs.Basics.{same_Some}
use Rattle.layout_laws.proofs.HeldParts.{parts_held, name_held}
use Rattle.layout_laws.proofs.NodeRead.{name_again}
use Rattle.layout_laws.proofs.NodesStand.{something}
use Rattle.layout_laws.proofs.VisitExtents.{visit_parts}
use Rattle.layout_lint.specs.Nodes.{extents_at}
use Rattle.layout_lint.specs.Owners.{header_at, header_places, KeepRules}
use Rattle.layout_lint.proofs.OwnerParts.{HasLength, Keeps, keeps_at, long_parts}

-- ---- elements of joined lists

contains_first : {A : Type 0} (x : A) (xs : List A) → Contains (x ∷ xs) x
contains_first x xs = (0, omega arith, refl)

contains_later : {A : Type 0} (x y : A) (xs : List A) → Contains xs y → Contains (x ∷ xs) y
contains_later x y xs c = (suc c.0, (let lt = c.1 in omega (arith, lt)), c.2)

-- of the list that has this element
pub joined_to : {A B : Type 0} (f : A → List B) (xs : List A) (x : A) (y : B) → Contains xs x → Contains (f x) y → Contains (flat_map f xs) y
joined_to f [] x y (k, lt, e) c = absurd (omega (arith, lt))
joined_to f (z ∷ zs) x y (zero, lt, e) c = Contains-append_left (f z) (flat_map f zs) y (subst (λ w. Contains (f w) y) (sym e) c)
joined_to f (z ∷ zs) x y (suc k, lt, e) c = Contains-append_right (f z) (flat_map f zs) y (joined_to f zs x y (k, omega (arith, lt), e) c)

pub joined_from : {A B : Type 0} (f : A → List B) (xs : List A) (y : B) → Contains (flat_map f xs) y → (x : A) × Contains xs x × Contains (f x) y
joined_from f [] y (k, lt, e) = absurd (omega (arith, lt))
joined_from f (z ∷ zs) y c = elim (Contains-append_cases (f z) (flat_map f zs) y c) [
  | inl h ↦ (z, contains_first z zs, h)
  | inr h ↦ (let r = joined_from f zs y h in (r.0, contains_later z r.0 zs r.1, r.2))
]

sum_first : {A : Type 0} (f : A → ℕ) (x : A) (xs : List A) → sum_by f (x ∷ xs) ≡ f x + sum_by f xs
sum_first f x xs = sum_by-append f (x ∷ []) xs ∙ ap (λ n. n + sum_by f xs) (zero-add (f x))

-- ---- the headers of a placement

-- a header is that of a number with parts
header_of_some : (os : List (Option NodeParts)) (place : ℕ) → Contains (flat_map header_at os) place → (k : ℕ) × (parts : NodeParts) × (slice_index_or os k None ≡ Some parts) × (parts.header ≡ place)
header_of_some [] place (k, lt, e) = absurd (omega (arith, lt))
header_of_some (None ∷ os) place c = let r = header_of_some os place c in (suc r.0, r.1, r.2, r.3)
header_of_some (Some q ∷ os) place (zero, lt, e) = (0, q, refl, e)
header_of_some (Some q ∷ os) place (suc k, lt, e) = let r = header_of_some os place (k, omega (arith, lt), e) in (suc r.0, r.1, r.2, r.3)

header_is_there : (os : List (Option NodeParts)) (k : ℕ) (parts : NodeParts) → slice_index_or os k None ≡ Some parts → Contains (flat_map header_at os) parts.header
header_is_there [] k parts e = cc
header_is_there (None ∷ os) zero parts e = cc
header_is_there (None ∷ os) (suc k) parts e = header_is_there os k parts e
header_is_there (Some q ∷ os) zero parts e = (0, omega arith, ap (λ (r : NodeParts). r.header) (same_Some q parts e))
header_is_there (Some q ∷ os) (suc k) parts e = contains_later q.header parts.header (flat_map header_at os) (header_is_there os k parts e)

part_of_some : (wide : Bool) (os : List (Option NodeParts)) (e : Extent) → Contains (flat_map (extents_of wide) os) e → (k : ℕ) × (parts : NodeParts) × (slice_index_or os k None ≡ Some parts) × Contains (node_extents wide parts) e
part_of_some wide [] e (k, lt, is) = absurd (omega (arith, lt))
part_of_some wide (None ∷ os) e c = let r = part_of_some wide os e c in (suc r.0, r.1, r.2, r.3)
part_of_some wide (Some q ∷ os) e c = elim (Contains-append_cases (node_extents wide q) (flat_map (extents_of wide) os) e c) [
  | inl h ↦ (0, q, refl, h)
  | inr h ↦ (let r = part_of_some wide os e h in (suc r.0, r.1, r.2, r.3))
]

part_is_there : (wide : Bool) (os : List (Option NodeParts)) (k : ℕ) (parts : NodeParts) (e : Extent) → slice_index_or os k None ≡ Some parts → Contains (node_extents wide parts) e → Contains (flat_map (extents_of wide) os) e
part_is_there wide [] k parts e is c = cc
part_is_there wide (None ∷ os) zero parts e is c = cc
part_is_there wide (None ∷ os) (suc k) parts e is c = part_is_there wide os k parts e is c
part_is_there wide (Some q ∷ os) zero parts e is c = Contains-append_left (node_extents wide q) (flat_map (extents_of wide) os) e (subst (λ r. Contains (node_extents wide r) e) (sym (same_Some q parts is)) c)
part_is_there wide (Some q ∷ os) (suc k) parts e is c = Contains-append_right (node_extents wide q) (flat_map (extents_of wide) os) e (part_is_there wide os k parts e is c)

-- ---- what stands at a header

module _ (image : List ℕ) (tree : Tree) (p : Placement) (l : LaysOut image tree p) where
  -- a node of the layout stands at this place, and keeps its rules by itself
  pub record StandsAt (place : ℕ) : Type 0 where
    pub number : ℕ
    pub parts : NodeParts
    pub has : parts_of p number ≡ Some parts
    pub header : parts.header ≡ place
    pub extents : extents_at image tree.wide place ≡ node_extents tree.wide parts
    pub keeps : Keeps image tree.wide p.heap.end place
    pub some : All HasLength (extents_at image tree.wide place)

  node_here : (k : ℕ) (parts : NodeParts) → parts_of p k ≡ Some parts → IsSome (node_at tree k)
  node_here k parts has = sym (live_parts image tree p l k) ∙ ap is_some has

  pub extents_held : (k : ℕ) (parts : NodeParts) → parts_of p k ≡ Some parts → extents_at image tree.wide parts.header ≡ node_extents tree.wide parts
  extents_held k parts has =
      let node = something (node_at tree k) (node_here k parts has) in
      visit_parts image tree.wide (record { place = parts.header; entry = None; path = [] }) ∙ ap (node_extents tree.wide) (sym (parts_held image tree p node.0 parts (l.nodes k node.0 parts node.1 has)))

  -- its name stands in its header
  pub named_there : (k : ℕ) (parts : NodeParts) → parts_of p k ≡ Some parts → trimmed (field image (parts.header + 4) 32) ≡ name_at tree k
  named_there k parts has =
      let node = something (node_at tree k) (node_here k parts has) in
      ap trimmed (name_held image tree p node.0 parts (l.nodes k node.0 parts node.1 has)) ∙ name_again node.0.name (l.is_tree.each k node.0 node.1).named ∙ sym (ap name_of node.1)

  pub stands : (k : ℕ) (parts : NodeParts) → parts_of p k ≡ Some parts → StandsAt parts.header
  stands k parts has =
      let live = node_here k parts has in
      let node = something (node_at tree k) live in
      let holds = l.nodes k node.0 parts node.1 has in
      record {
        number = k;
        parts = parts;
        has = has;
        header = refl;
        extents = extents_held k parts has;
        keeps = keeps_at image tree p l k parts live has;
        some = subst (All HasLength) (sym (extents_held k parts has)) (long_parts image tree p l node.0 parts holds);
      }

  pub stands_there : (place : ℕ) → Contains (header_places p) place → StandsAt place
  stands_there place c = let r = header_of_some p.parts place c in subst StandsAt r.3 (stands r.0 r.1 r.2)

  module _ (places : List ℕ) (same : IsPermutation (header_places p) places) where
    pub each_stands : (place : ℕ) → Contains places place → StandsAt place
    each_stands place c = stands_there place (Contains-permutation places (header_places p) place (IsPermutation-sym (header_places p) places same) c)

    -- ---- a sum over the extents of all

    module _ (m : List Extent → ℕ) (none : m [] ≡ 0) (both : (xs ys : List Extent) → m (xs ++ ys) ≡ m xs + m ys) where
      sum_flat : (ps : List ℕ) → m (flat_map (extents_at image tree.wide) ps) ≡ sum_by (λ place. m (extents_at image tree.wide place)) ps
      sum_flat [] = none
      sum_flat (q ∷ qs) = both (extents_at image tree.wide q) (flat_map (extents_at image tree.wide) qs) ∙ ap (λ n. m (extents_at image tree.wide q) + n) (sum_flat qs) ∙ sym (sum_first (λ place. m (extents_at image tree.wide place)) q qs)

      sum_headers : (os : List (Option NodeParts)) → ((k : ℕ) (parts : NodeParts) → slice_index_or os k None ≡ Some parts → extents_at image tree.wide parts.header ≡ node_extents tree.wide parts)
          → sum_by (λ place. m (extents_at image tree.wide place)) (flat_map header_at os) ≡ m (flat_map (extents_of tree.wide) os)
      sum_headers [] h = sym none
      sum_headers (None ∷ os) h = sum_headers os (λ k parts e. h (suc k) parts e)
      sum_headers (Some q ∷ os) h =
          sum_first (λ place. m (extents_at image tree.wide place)) q.header (flat_map header_at os)
          ∙ ap (λ xs. m xs + sum_by (λ place. m (extents_at image tree.wide place)) (flat_map header_at os)) (h 0 q refl)
          ∙ ap (λ n. m (node_extents tree.wide q) + n) (sum_headers os (λ k parts e. h (suc k) parts e))
          ∙ sym (both (node_extents tree.wide q) (flat_map (extents_of tree.wide) os))

      same_sum : m (flat_map (extents_at image tree.wide) places) ≡ m (live_extents tree.wide p)
      same_sum =
          sum_flat places ∙ sum_by-IsPermutation (λ place. m (extents_at image tree.wide place)) (header_places p) places same
          ∙ sum_headers p.parts (λ k parts e. extents_held k parts e)

    pub same_total : total_length (flat_map (extents_at image tree.wide) places) ≡ total_length (live_extents tree.wide p)
    same_total = same_sum total_length refl total_length-append

    pub same_cover : (b : ℕ) → cover (flat_map (extents_at image tree.wide) places) b ≡ cover (live_extents tree.wide p) b
    same_cover b = same_sum (λ es. cover es b) refl (λ xs ys. cover-append xs ys b)

    -- ---- the same extents

    pub to_live : (e : Extent) → Contains (flat_map (extents_at image tree.wide) places) e → Contains (live_extents tree.wide p) e
    to_live e c =
        let r = joined_from (extents_at image tree.wide) places e c in
        let s = each_stands r.0 r.1 in
        part_is_there tree.wide p.parts s.number s.parts e s.has (subst (λ xs. Contains xs e) s.extents r.2)

    pub from_live : (e : Extent) → Contains (live_extents tree.wide p) e → Contains (flat_map (extents_at image tree.wide) places) e
    from_live e c =
        let r = part_of_some tree.wide p.parts e c in
        let there = Contains-permutation (header_places p) places r.1.header same (header_is_there p.parts r.0 r.1 r.2) in
        joined_to (extents_at image tree.wide) places r.1.header e there (subst (λ xs. Contains xs e) (sym (extents_held r.0 r.1 r.2)) r.3)

    -- none of them is empty
    pub all_some : All HasLength (flat_map (extents_at image tree.wide) places)
    all_some = each places (λ place c. (each_stands place c).some)
      where
        each : (ps : List ℕ) → ((place : ℕ) → Contains ps place → All HasLength (extents_at image tree.wide place)) → All HasLength (flat_map (extents_at image tree.wide) ps)
        each [] h = All-nil HasLength
        each (q ∷ qs) h = All-append HasLength (extents_at image tree.wide q) (flat_map (extents_at image tree.wide) qs) (h q (contains_first q qs)) (each qs (λ place c. h place (contains_later q place qs c)))

    -- they keep their rules one by one
    pub keep_places : (used : ℕ) → used + total_length (live_extents tree.wide p) ≤ p.heap.end + 1 → KeepRules image tree.wide p.heap.end used places
    keep_places used room = each used places (λ place c. (each_stands place c).keeps) (let t = same_total in omega (arith, room, t))
      where
        each : (used : ℕ) (ps : List ℕ) → ((place : ℕ) → Contains ps place → Keeps image tree.wide p.heap.end place) → used + total_length (flat_map (extents_at image tree.wide) ps) ≤ p.heap.end + 1 → KeepRules image tree.wide p.heap.end used ps
        each used [] h room = tt
        each used (q ∷ qs) h room =
            let long = total_length-append (extents_at image tree.wide q) (flat_map (extents_at image tree.wide) qs) in
            (h q (contains_first q qs) used (omega (arith, room, long)), each (used + total_length (extents_at image tree.wide q)) qs (λ place c. h place (contains_later q place qs c)) (omega (arith, room, long)))
