-- The extents that are collected are those of the layout, each with the node that it is a part of.
use Rattle.std.proofs.Common.{◌≡◌, inl, inr, ℕ, suc, refl, sym, ◌∙◌, ap, subst, arith, List, [], ◌∷◌, ◌++◌, length, map, get_or, ◌+◌, ◌≤◌, Bool}
use Rattle.std.proofs.lemmas.List.{length-map, map-append}
use Rattle.std.proofs.lemmas.List.Elements.{All-nil, All-append, All-map, All-weaker, All-get_or, All-from_recursion, All-contains_itself, Contains-append_left, Contains-append_right, Contains-append_cases}
use Rattle.std.proofs.lemmas.List.Sorted.{IsNonDecreasingBy-from_default, IsPermutation-map, IsPermutation-refl, IsPermutation-sym, All-permutation, Contains-permutation}
use Rattle.std.proofs.lemmas.Option.{slice_get_within, slice_get-get_or, slice_get-map}
use Rattle.std.proofs.Math.ListN.{get_or-map}
use Rattle.std.specs.Prelude.{Option, Some, None, Result, Ok, Err, IfOk, option_map, slice_get, slice_index_or}
use Rattle.std.specs.List.{All, AllByRecursion, Contains, flat_map}
use Rattle.std.specs.List.Sorted.{IsPermutation, IsNonDecreasingBy}
use Rattle.adf_format.specs.declared.types.Extent.{Extent}
use Rattle.adf_format.specs.declared.types.ExtentKind.{ExtentKind}
use Rattle.adf_format.specs.declared.types.Format.{Format}
use Rattle.adf_format.specs.Fields.{trimmed}
use Rattle.adf_format.specs.Tiles.{Tiles, cover}
use Rattle.adf_format.specs.Tree.{Tree}
use Rattle.adf_format.specs.Placement.{Placement, NodeParts, extent, parts_of, node_extents, live_extents, head_extents, all_extents}
use Rattle.adf_format.specs.LaysOut.{LaysOut, AreGapsInOrder}
use Rattle.adf_format.specs.Verdict.{ListsExtents, IsLaidOutAs}
use Rattle.adf_format.specs.Checks.{Fault, first_broken}
use Rattle.adf_format.specs.FirstFault.{head_rows}
use Rattle.adf_format.proofs.HeapSteps.{cover-append}
use Rattle.adf_format.proofs.SameLayout.{end_recorded, wide_recorded}
use Rattle.adf_model.proofs.Basics.{same_Some, not_there}
use Rattle.layout_laws.proofs.HeadRules.{head_unbroken}
use Rattle.layout_laws.proofs.NodesStand.{all_long}
use Rattle.layout_lint.specs.declared.owners.Owned.{Owned}
use Rattle.layout_lint.specs.declared.verdict.NodePlace as code
use Rattle.layout_lint.specs.declared.verdict.Halt.{Halt}
use Rattle.layout_lint.specs.declared.verdict.Halt.TheVariants as halt
use Rattle.layout_lint.specs.declared.verdict.Span.{Span}
use Rattle.layout_lint.specs.Halts.{IsNoFault, Breaks, fault}
use Rattle.layout_lint.specs.Heads.{IsSpan}
use Rattle.layout_lint.specs.Nodes.{extents_at}
use Rattle.layout_lint.specs.Walks.{node_place}
use Rattle.layout_lint.specs.Paths.{AreNames}
use Rattle.layout_lint.specs.Owners.{extent_of, owned_by, owned_from, name_of, KeepRules, header_at, header_places, place_of_node, IsLaidAt, IsPartAt, OwnsPlaces, AreNamesAt, OwnsAll}
use Rattle.layout_lint.proofs.OwnerTiling.{sorted_tiles}
use Rattle.layout_lint.proofs.OwnerParts.{HasLength, HasParts, has_parts, as_many}
use Rattle.layout_lint.proofs.PlaceLaws.{each_stands, extents_held, named_there, same_cover, to_live, from_live, all_some, keep_places}

-- the extents of the head, of the nodes at some places and the gaps, one after another
abbrev pub collected : List ℕ → Bool → List ℕ → List Extent → List Owned
collected image wide places gaps = owned_by None head_extents ++ owned_from image wide 0 places ++ owned_by None gaps

-- ---- the extents alone

extents_by : (owner : Option ℕ) (es : List Extent) → map extent_of (owned_by owner es) ≡ es
extents_by owner [] = refl
extents_by owner (e ∷ es) = ap (λ xs. e ∷ xs) (extents_by owner es)

extents_from : (image : List ℕ) (wide : Bool) (a : ℕ) (places : List ℕ) → map extent_of (owned_from image wide a places) ≡ flat_map (extents_at image wide) places
extents_from image wide a [] = refl
extents_from image wide a (place ∷ places) =
    map-append extent_of (owned_by (Some a) (extents_at image wide place)) (owned_from image wide (a + 1) places)
    ∙ ap (λ xs. xs ++ map extent_of (owned_from image wide (a + 1) places)) (extents_by (Some a) (extents_at image wide place))
    ∙ ap (λ xs. extents_at image wide place ++ xs) (extents_from image wide (a + 1) places)

long_gaps : (gs : List Extent) → AreGapsInOrder gs → AllByRecursion HasLength gs
long_gaps [] h = tt
long_gaps (g ∷ gs) h = (h.0.0, long_gaps gs h.2)

by_place : (xs : List Owned) → IsNonDecreasingBy (λ (o : Owned). o.extent.place) xs → IsNonDecreasingBy (λ (e : Extent). e.place) (map extent_of xs)
by_place xs sorted = IsNonDecreasingBy-from_default (λ (e : Extent). e.place) (map extent_of xs) none
    (λ i j le lt. subst (λ (e : Extent). (get_or (map extent_of xs) i none).place ≤ e.place) (sym (get_or-map extent_of xs j nothing))
    (subst (λ (e : Extent). e.place ≤ (get_or xs j nothing).extent.place) (sym (get_or-map extent_of xs i nothing)) (sorted i j nothing le (let same : length (map extent_of xs) ≡ length xs = length-map xs extent_of in omega (arith, lt, same)))))
  where
    none : Extent
    none = extent ExtentKind.Header 0 0

    nothing : Owned
    nothing = record { extent = extent ExtentKind.Header 0 0; owner = None }

-- ---- the owners

module _ (wide : Bool) (p : Placement) (places : List ℕ) where
  -- a part of the node at the place that it says, or one of the head's or a gap
  record IsPart (o : Owned) : Type 0 where
    part : (i : ℕ) → o.owner ≡ Some i → IsPartAt wide p places i o.extent
    other : o.owner ≡ None → Contains (head_extents ++ p.heap.gaps) o.extent

  others_owned : (es : List Extent) → ((e : Extent) → Contains es e → Contains (head_extents ++ p.heap.gaps) e) → All IsPart (owned_by None es)
  others_owned es h = All-map IsPart (λ (e : Extent). record { extent = e; owner = None }) es
      (All-weaker (Contains es) (λ (e : Extent). IsPart (record { extent = e; owner = None })) (λ e c. record { part = λ i s. absurd (not_there i s); other = λ s. h e c }) es (All-contains_itself es))

  parts_owned : (i number : ℕ) (parts : NodeParts) (es : List Extent) → parts_of p number ≡ Some parts → slice_get places i ≡ Some parts.header → es ≡ node_extents wide parts → All IsPart (owned_by (Some i) es)
  parts_owned i number parts es has there same = All-map IsPart (λ (e : Extent). record { extent = e; owner = Some i }) es
      (All-weaker (Contains es) (λ (e : Extent). IsPart (record { extent = e; owner = Some i }))
      (λ e c. record {
        part = λ k s. subst (λ j. IsPartAt wide p places j e) (same_Some i k s) (record { number = number; parts = parts; has = has; stands = there; part = subst (λ xs. Contains xs e) same c });
        other = λ s. absurd (not_there i (sym s));
      }) es (All-contains_itself es))

  from_owned : (image : List ℕ) (a : ℕ) (ps : List ℕ) → ((i place : ℕ) → slice_get ps i ≡ Some place → All IsPart (owned_by (Some (a + i)) (extents_at image wide place))) → All IsPart (owned_from image wide a ps)
  from_owned image a [] h = All-nil IsPart
  from_owned image a (place ∷ ps) h =
      All-append IsPart (owned_by (Some a) (extents_at image wide place)) (owned_from image wide (a + 1) ps)
      (subst (λ k. All IsPart (owned_by (Some k) (extents_at image wide place))) (plain a) (h 0 place refl))
      (from_owned image (a + 1) ps (λ i q e. subst (λ k. All IsPart (owned_by (Some k) (extents_at image wide q))) (shift a i) (h (suc i) q e)))
    where
      plain : (a : ℕ) → a + 0 ≡ a
      plain a = omega arith

      shift : (a i : ℕ) → a + suc i ≡ a + 1 + i
      shift a i = omega arith

-- ---- the whole layout

module _ (image : List ℕ) (tree : Tree) (p : Placement) (places : List ℕ) (gaps : List Extent) (is : IsLaidAt image tree p places gaps) where
  abbrev l : LaysOut image tree p
  l = is.laid_out

  abbrev found : List Extent
  found = head_extents ++ flat_map (extents_at image tree.wide) places ++ p.heap.gaps

  whole : map extent_of (collected image tree.wide places p.heap.gaps) ≡ found
  whole =
      map-append extent_of (owned_by None head_extents ++ owned_from image tree.wide 0 places) (owned_by None p.heap.gaps)
      ∙ ap (λ xs. xs ++ map extent_of (owned_by None p.heap.gaps)) (map-append extent_of (owned_by None head_extents) (owned_from image tree.wide 0 places))
      ∙ ap (λ xs. map extent_of (owned_by None head_extents) ++ xs ++ map extent_of (owned_by None p.heap.gaps)) (extents_from image tree.wide 0 places)
      ∙ ap (λ xs. xs ++ flat_map (extents_at image tree.wide) places ++ map extent_of (owned_by None p.heap.gaps)) (extents_by None head_extents)
      ∙ ap (λ xs. head_extents ++ flat_map (extents_at image tree.wide) places ++ xs) (extents_by None p.heap.gaps)

  some : All HasLength found
  some = All-append HasLength (head_extents ++ flat_map (extents_at image tree.wide) places) p.heap.gaps
      (All-append HasLength head_extents (flat_map (extents_at image tree.wide) places) (All-from_recursion HasLength head_extents (omega arith, (omega arith, tt))) (all_some image tree p l places is.headers))
      (All-from_recursion HasLength p.heap.gaps (long_gaps p.heap.gaps l.gaps))

  covers : (b : ℕ) → cover found b ≡ cover (all_extents tree.wide p) b
  covers b =
      let left = cover-append (head_extents ++ flat_map (extents_at image tree.wide) places) p.heap.gaps b in
      let front = cover-append head_extents (flat_map (extents_at image tree.wide) places) b in
      let right = cover-append (head_extents ++ live_extents tree.wide p) p.heap.gaps b in
      let live = cover-append head_extents (live_extents tree.wide p) b in
      let same = same_cover image tree p l places is.headers b in
      omega (arith, left, front, right, live, same)

  tiles : Tiles found p.heap.end
  tiles = record { once = λ b h. covers b ∙ l.tiles.once b h; inside = λ b h. covers b ∙ l.tiles.inside b h }

  -- an extent of one joined list is one of the other, where the middle parts hold the same
  through : (xs ys : List Extent) (e : Extent) → (Contains xs e → Contains ys e) → Contains (head_extents ++ xs ++ p.heap.gaps) e → Contains (head_extents ++ ys ++ p.heap.gaps) e
  through xs ys e f c = elim (Contains-append_cases (head_extents ++ xs) p.heap.gaps e c) [
    | inl h ↦ Contains-append_left (head_extents ++ ys) p.heap.gaps e (elim (Contains-append_cases head_extents xs e h) [ inl k ↦ Contains-append_left head_extents ys e k | inr k ↦ Contains-append_right head_extents ys e (f k) ])
    | inr h ↦ Contains-append_right (head_extents ++ ys) p.heap.gaps e h
  ]

  owned : All (IsPart tree.wide p places) (collected image tree.wide places p.heap.gaps)
  owned = All-append (IsPart tree.wide p places) (owned_by None head_extents ++ owned_from image tree.wide 0 places) (owned_by None p.heap.gaps)
      (All-append (IsPart tree.wide p places) (owned_by None head_extents) (owned_from image tree.wide 0 places) (others_owned tree.wide p places head_extents (λ e c. Contains-append_left head_extents p.heap.gaps e c))
      (from_owned tree.wide p places image 0 places (λ i place e. (let s = each_stands image tree p l places is.headers place (contained places i place e) in
      subst (λ k. All (IsPart tree.wide p places) (owned_by (Some k) (extents_at image tree.wide place))) (plain i)
      (parts_owned tree.wide p places i s.number s.parts (extents_at image tree.wide place) s.has (e ∙ ap Some (sym s.header)) s.extents)))))
      (others_owned tree.wide p places p.heap.gaps (λ e c. Contains-append_right head_extents p.heap.gaps e c))
    where
      plain : (i : ℕ) → i ≡ 0 + i
      plain i = omega arith

      contained : (ps : List ℕ) (i place : ℕ) → slice_get ps i ≡ Some place → Contains ps place
      contained ps i place e = (i, slice_get_within ps i place e, same_Some (get_or ps i place) place (sym (slice_get-get_or ps i place (slice_get_within ps i place e)) ∙ e))

  module _ (sorted : List Owned) (same : IsPermutation (collected image tree.wide places p.heap.gaps) sorted) (up : IsNonDecreasingBy (λ (o : Owned). o.extent.place) sorted) where
    moved : IsPermutation found (map extent_of sorted)
    moved = subst (λ xs. IsPermutation xs (map extent_of sorted)) whole (IsPermutation-map extent_of (collected image tree.wide places p.heap.gaps) sorted same)

    lists : ListsExtents tree.wide p (map extent_of sorted)
    lists = record {
      in_order = sorted_tiles found (map extent_of sorted) p.heap.end moved (by_place sorted up) some tiles;
      same = λ e. (
        (λ c. through (flat_map (extents_at image tree.wide) places) (live_extents tree.wide p) e (to_live image tree p l places is.headers e) (Contains-permutation (map extent_of sorted) found e (IsPermutation-sym found (map extent_of sorted) moved) c)),
        (λ c. Contains-permutation found (map extent_of sorted) e moved (through (live_extents tree.wide p) (flat_map (extents_at image tree.wide) places) e (from_live image tree p l places is.headers e) c)),
      );
    }

    at : (k : ℕ) (o : Owned) → slice_get sorted k ≡ Some o → IsPart tree.wide p places o
    at k o e =
        let within = slice_get_within sorted k o e in
        subst (IsPart tree.wide p places) (same_Some (get_or sorted k o) o (sym (slice_get-get_or sorted k o within) ∙ e))
        (All-get_or (IsPart tree.wide p places) sorted k o within (All-permutation (IsPart tree.wide p places) (collected image tree.wide places p.heap.gaps) sorted same owned))

    owns : OwnsPlaces tree p places sorted
    owns = record { lists = lists; parts = λ k i o e s. (at k o e).part i s; others = λ k o e s. (at k o e).other s }

  -- ---- by what the head says

  -- the head breaks no rule
  pub head_keeps : (h : Halt) → Breaks (head_rows image) h → IsNoFault h
  head_keeps (halt.Broken b) breaks = clash (first_broken (head_rows image)) (head_unbroken image tree p l) breaks
    where
      clash : (o : Option Fault) → o ≡ None → o ≡ Some (fault b) → ⊥
      clash o none some = cc
  head_keeps halt.Memory breaks = tt
  head_keeps halt.Read breaks = tt

  module _ (span : Span) (says : IsSpan image span) where
    same_width : span.wide ≡ tree.wide
    same_width = says.wide ∙ wide_recorded image tree p l

    pub span_keeps : KeepRules image span.wide span.end 266 places
    span_keeps = subst (λ e. KeepRules image span.wide e 266 places) (sym (says.end ∙ end_recorded image tree p l)) (subst (λ b. KeepRules image b p.heap.end 266 places) (sym same_width)
        (keep_places image tree p l places is.headers 266 (let long = all_long image tree p l in omega (arith, long))))

    -- what was collected, by place, are its extents with their owners
    pub span_owns : (items sorted : List Owned) → items ≡ collected image span.wide places gaps → IsPermutation items sorted → IsNonDecreasingBy (λ (o : Owned). o.extent.place) sorted → OwnsPlaces tree p places sorted
    span_owns items sorted are same up =
        owns sorted (subst (λ gs. IsPermutation (collected image tree.wide places gs) sorted) (sym is.free) (subst (λ b. IsPermutation (collected image b places gaps) sorted) same_width (subst (λ xs. IsPermutation xs sorted) are same))) up

  -- the names that were read are those of the nodes at the places
  pub names_there : (names : List (List ℕ)) → names ≡ map (name_of image) places → AreNamesAt tree p places names
  names_there names are i name number parts e there has =
      let here : slice_get (map (name_of image) places) i ≡ Some (name_of image parts.header) = slice_get-map (name_of image) places i ∙ ap (option_map (name_of image)) there in
      let same : name_of image parts.header ≡ name = same_Some (name_of image parts.header) name (sym here ∙ sym (ap (λ ns. slice_get ns i) are) ∙ e) in
      ap trimmed (sym same) ∙ named_there image tree p l number parts has

-- ---- by numbers

module _ (image : List ℕ) (nodes : List code.NodePlace) (gaps : List Extent) (end : ℕ) (format : Format) (wide : Bool) (laid : IsLaidOutAs image (map node_place nodes) gaps end format wide) where
  -- a node of the verdict, with its parts
  here : (i : ℕ) (n : code.NodePlace) → slice_get nodes i ≡ Some n → HasParts image laid.tree laid.placement laid.laid_out laid.in_order (map node_place nodes) laid.listed i (node_place n)
  here i n e = has_parts image laid.tree laid.placement laid.laid_out laid.in_order (map node_place nodes) laid.listed i (node_place n) (slice_get-map node_place nodes i ∙ ap (option_map node_place) e)

  headers_are : header_places laid.placement ≡ map place_of_node nodes
  headers_are = of_lists laid.placement.parts nodes (sym (length-map nodes node_place) ∙ laid.listed.count ∙ sym (as_many image laid.tree laid.placement laid.laid_out laid.in_order)) (λ i n e. (let h = here i n e in (h.parts, h.has, h.place)))
    where
      of_lists : (os : List (Option NodeParts)) (ns : List code.NodePlace) → length ns ≡ length os → ((i : ℕ) (n : code.NodePlace) → slice_get ns i ≡ Some n → (parts : NodeParts) × (slice_index_or os i None ≡ Some parts) × (n.place ≡ parts.header))
          → flat_map header_at os ≡ map place_of_node ns
      of_lists [] [] e h = refl
      of_lists [] (n ∷ ns) e h = absurd (omega (arith, e))
      of_lists (o ∷ os) [] e h = absurd (omega (arith, e))
      of_lists (o ∷ os) (n ∷ ns) e h = let first = h 0 n refl in
          ap (λ (q : Option NodeParts). header_at q ++ flat_map header_at os) first.1 ∙ ap (λ q. q ∷ flat_map header_at os) (sym first.2) ∙ ap (λ qs. n.place ∷ qs) (of_lists os ns (omega (arith, e)) (λ i m f. h (suc i) m f))

  module _ (places : List ℕ) (are : places ≡ map place_of_node nodes) where
    pub laid_at : IsLaidAt image laid.tree laid.placement places gaps
    laid_at = record {
      laid_out = laid.laid_out;
      headers = subst (IsPermutation (header_places laid.placement)) (headers_are ∙ sym are) (IsPermutation-refl (header_places laid.placement));
      free = laid.same_gaps;
    }

    -- the place with a number is that of its node
    node_at_place : (i place : ℕ) → slice_get places i ≡ Some place → (n : code.NodePlace) × (slice_get nodes i ≡ Some n) × (n.place ≡ place)
    node_at_place i place e = of_option (slice_get nodes i) (sym (slice_get-map place_of_node nodes i) ∙ sym (ap (λ ps. slice_get ps i) are) ∙ e)
      where
        of_option : (o : Option code.NodePlace) → option_map place_of_node o ≡ Some place → (n : code.NodePlace) × (o ≡ Some n) × (n.place ≡ place)
        of_option None f = absurd (not_there place f)
        of_option (Some n) f = (n, refl, same_Some n.place place f)

    pub owns_numbered : (owned : List Owned) → OwnsPlaces laid.tree laid.placement places owned → OwnsAll laid.tree laid.placement owned
    owns_numbered owned all = record {
      lists = all.lists;
      parts = λ k i o e s. part i o.extent (all.parts k i o e s);
      others = all.others;
    }
      where
        part : (i : ℕ) (e : Extent) → IsPartAt laid.tree.wide laid.placement places i e → (parts : NodeParts) × (parts_of laid.placement i ≡ Some parts) × Contains (node_extents laid.tree.wide parts) e
        part i e is =
            let n = node_at_place i is.parts.header is.stands in
            let h = here i n.0 n.1 in
            let same : node_extents laid.tree.wide is.parts ≡ node_extents laid.tree.wide h.parts =
            sym (extents_held image laid.tree laid.placement laid.laid_out is.number is.parts is.has) ∙ ap (extents_at image laid.tree.wide) (sym n.2) ∙ h.extents in
            (h.parts, h.has, subst (λ xs. Contains xs e) same is.part)

    pub names_numbered : (names : List (List ℕ)) → length names ≡ length nodes → AreNamesAt laid.tree laid.placement places names → AreNames laid.tree names
    names_numbered names count named k name e =
        let n : code.NodePlace = get_or nodes k (record { place = 0; parent = 0; position = 0; depth = 0 }) in
        let at : slice_get nodes k ≡ Some n = slice_get-get_or nodes k _ (let within = slice_get_within names k name e in omega (arith, within, count)) in
        let h = here k n at in
        named k name k h.parts e (ap (λ ps. slice_get ps k) are ∙ slice_get-map place_of_node nodes k ∙ ap (option_map place_of_node) at ∙ ap Some h.place) h.has

-- places that were copied from nodes
pub places_are : (places copied : List ℕ) (given nodes : List code.NodePlace) → places ≡ copied → copied ≡ map place_of_node given → given ≡ nodes → places ≡ map place_of_node nodes
places_are places copied given nodes e f g = e ∙ f ∙ ap (map place_of_node) g

pub as_many_places : (places : List ℕ) (nodes : List code.NodePlace) → places ≡ map place_of_node nodes → length places ≡ length nodes
as_many_places places nodes are = ap length are ∙ length-map nodes place_of_node

pub laid_with : (image : List ℕ) (tree : Tree) (p : Placement) (places : List ℕ) (gaps given : List Extent) → given ≡ gaps → IsLaidAt image tree p places gaps → IsLaidAt image tree p places given
laid_with image tree p places gaps given same is = subst (IsLaidAt image tree p places) (sym same) is

pub both_weaker : {X E : Type 0} (r : Result X E) (P Q R : X → Type 0) → ((x : X) → P x → Q x → R x) → IfOk r P → IfOk r Q → IfOk r R
both_weaker (Ok x) P Q R f p q = f x p q
both_weaker (Err e) P Q R f p q = tt
