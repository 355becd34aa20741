-- What edits write lies in bytes that may be written, and what one edit can reach its group can.
use Rattle.std.proofs.Common.{◌≡◌, ◌⊎◌, inl, inr, ℕ, suc, refl, sym, ◌∙◌, ap, subst, arith, List, [], ◌∷◌, ◌++◌, take, ◌+◌, ◌-◌, ◌<◌, ◌≤◌, Bool}
use Rattle.std.proofs.lemmas.Bool.Decides.{leb_tells}
use Rattle.std.proofs.lemmas.List.Elements.{Contains-append_left, Contains-append_right}
use Rattle.std.specs.Prelude.{Option, Some}
use Rattle.std.specs.List.{Contains}
use Rattle.adf_format.specs.declared.types.Extent.{Extent}
use Rattle.adf_format.specs.declared.types.ExtentKind.{ExtentKind}
use Rattle.adf_format.specs.Changes.{heap_fields}
use Rattle.adf_format.specs.Tree.{Tree}
use Rattle.adf_format.specs.Tiles.{cover, end_of}
use Rattle.adf_format.specs.Parts.{node_length}
use Rattle.adf_format.specs.Placement.{Placement, NodeParts, TablePart, Heap, extent, parts_of, table_extents, head_extents, live_extents}
use Rattle.adf_format.specs.LaysOut.{LaysOut}
use Rattle.adf_format.specs.HeapRule.{parts_or_none}
use Rattle.adf_format.proofs.HeapLaws.{in_range}
use Rattle.adf_format.proofs.HeapSteps.{cover-append}
use Rattle.adf_model.specs.FileGroup.{done_by}
use Rattle.adf_model.specs.Untouched.{touched_extents, group_touched, header_extent, table_of, MayWrite}
use Rattle.adf_model.proofs.Creation.PartExtents.{of_node}
use Rattle.adf_model.proofs.Writes.Reaches.{less_or}
use Rattle.adf_model.proofs.Creation.PartsApart.{range_within, cover_all}
use Rattle.tree_laws.specs.MidEdit.{room}
use Rattle.tree_laws.specs.Groups.{tree_left}
use Rattle.tree_laws.specs.Reached.{CanReach, LieInTouched, SparedLies, RoomMayBeWritten, ReachedIsWithin, GroupReachesMore}
use Rattle.tree_laws.proofs.Edits.LabelDone.{range_holds}
use Rattle.tree_laws.proofs.Groups.GroupsGrow.{placement_is_left, touched_grow}
use Rattle.tree_laws.proofs.Groups.GroupLoop.{done_more, left_before, wide_before}
use Rattle.tree_laws.proofs.Holding.Steps.{from_layout, once}
use Rattle.tree_laws.proofs.Leaving.LeavingLaws.{contains_cover}
use Rattle.tree_laws.proofs.Leaving.TailsKept.{ends_rise}
use Rattle.tree_laws.proofs.Whole.Rest.{one_extent}
use Rattle.tree_laws.proofs.Whole.Spares.{header_of, list_part, header_own, table_own}

-- ---- what an edit writes

-- a byte that is not within an extent lies before or behind it
beside : (e : Extent) (b : ℕ) → (e.place ≤ b → b < end_of e → ⊥) → (b < e.place) ⊎ (end_of e ≤ b)
beside e b not_in = elim (leb_tells e.place b) [
  | inr before ↦ inl before.1
  | inl from ↦ elim (leb_tells (end_of e) b) [ inl behind ↦ inr behind.1 | inr inside ↦ absurd (not_in from.1 inside.1) ]
]

module _ (image : List ℕ) (tree : Tree) (p : Placement) (touched ranges : List Extent) (after : Heap) (l : LaysOut image tree p) (rise : p.heap.end ≤ after.end) (own : LieInTouched ranges touched tree.wide p) where
  alone : (b : ℕ) → cover head_extents b + cover (live_extents tree.wide p) b + cover p.heap.gaps b ≤ 1
  alone b = let one = once image tree p [] (from_layout image tree p l) b in omega (arith, one)

  up_to : (b : ℕ) → 0 < cover head_extents b + cover (live_extents tree.wide p) b + cover p.heap.gaps b → b ≤ p.heap.end
  up_to b some = elim (leb_tells b p.heap.end) [
    | inl le ↦ le.1
    | inr past ↦ absurd (let none = l.tiles.inside b past.1 in let all = cover_all tree.wide p b in omega (arith, none, all, some))
  ]

  -- a byte of no live part
  free : (b : ℕ) → b ≤ after.end → cover (live_extents tree.wide p) b ≡ 0 → MayWrite touched tree.wide p after.end b
  free b le none = (
    le,
    λ e live untouched. beside e b (λ low high. let some = contains_cover (live_extents tree.wide p) e b live low high in omega (arith, some, none)),
  )

  -- a byte of the heap's fields
  of_field : (b : ℕ) → 0 < cover heap_fields b → MayWrite touched tree.wide p after.end b
  of_field b some =
      let w = range_within 0 186 146 12 b (omega arith) (omega arith) in
      let head : 0 < cover head_extents b = omega (arith, w, some) in
      let up = up_to b (omega (arith, head)) in
      let one = alone b in free b (omega (arith, up, rise)) (omega (arith, one, head))

  of_gap : (b : ℕ) → 0 < cover p.heap.gaps b → MayWrite touched tree.wide p after.end b
  of_gap b some =
      let up = up_to b (omega (arith, some)) in
      let one = alone b in free b (omega (arith, up, rise)) (omega (arith, one, some))

  -- a byte behind the end, up to the new one
  of_growth : (b : ℕ) → 0 < in_range (p.heap.end + 1) (after.end - p.heap.end) b → MayWrite touched tree.wide p after.end b
  of_growth b some =
      let i = range_holds (p.heap.end + 1) (after.end - p.heap.end) b some in
      let low = i.0 in
      let high = i.1 in
      let none = l.tiles.inside b (omega (arith, low)) in
      let all = cover_all tree.wide p b in free b (omega (arith, high, rise, low)) (omega (arith, none, all))

  -- a byte of a live part that is touched
  of_own : (b : ℕ) → 0 < cover ranges b → MayWrite touched tree.wide p after.end b
  of_own b some =
      let at = own b some in
      let held = contains_cover (live_extents tree.wide p) at.part b at.live at.low at.high in
      let up = up_to b (omega (arith, held)) in
      let one = alone b in (
        omega (arith, up, rise),
        λ e live untouched. beside e b (λ low high. untouched (subst (Contains touched)
            (one_extent (live_extents tree.wide p) b (omega (arith, one)) at.part e at.live at.low at.high live low high) at.open')),
      )

  pub may_be_written : (b : ℕ) → 0 < cover (heap_fields ++ room ranges p.heap after) b → MayWrite touched tree.wide p after.end b
  may_be_written b some = elim (less_or 0 (cover heap_fields b)) [
    | inl field ↦ of_field b field
    | inr no_field ↦ elim (less_or 0 (cover p.heap.gaps b)) [
      | inl gap ↦ of_gap b gap
      | inr no_gap ↦ elim (less_or 0 (cover ranges b)) [
        | inl mine ↦ of_own b mine
        | inr not_mine ↦ of_growth b (
            let s = cover-append heap_fields (room ranges p.heap after) b in
            let t = cover-append p.heap.gaps (extent ExtentKind.Filler (p.heap.end + 1) (after.end - p.heap.end) ∷ ranges) b in
            omega (arith, s, t, some, no_field, no_gap, not_mine))
      ]
    ]
  ]

pub room_may_be_written : RoomMayBeWritten
room_may_be_written image tree p touched ranges after l rise own b some = may_be_written image tree p touched ranges after l rise own b some

-- ---- what a group can reach

pub reached_is_within : ReachedIsWithin
reached_is_within touched wide p end number (b, block, may) = let le = may.0 in omega (arith, block, le)

pub group_reaches_more : GroupReachesMore
group_reaches_more limit writable edits i edit tree p work after q r a b c there g e = (before, last)
  where
    grown : done_by writable tree (take (suc i) edits) ≡ done_by writable tree (take i edits) ++ (edit, after) ∷ []
    grown = done_more writable edits i edit tree work after there g.made e.made

    left : tree_left tree (done_by writable tree (take i edits)) ≡ work.tree
    left = left_before writable edits i edit tree work after there g.made e.made

    wide : work.tree.wide ≡ tree.wide
    wide = wide_before writable edits i edit tree work after there g.made e.made

    rise : q.heap.end ≤ r.heap.end
    rise = ends_rise limit work.tree after q r edit e.placed

    touched_is : group_touched limit tree p (done_by writable tree (take (suc i) edits)) ≡ group_touched limit tree p (done_by writable tree (take i edits)) ++ touched_extents work.tree q edit
    touched_is =
        ap (group_touched limit tree p) grown ∙ touched_grow limit tree p (done_by writable tree (take i edits)) (edit, after)
        ∙ ap (λ (m : Placement). group_touched limit tree p (done_by writable tree (take i edits)) ++ touched_extents (tree_left tree (done_by writable tree (take i edits))) m edit)
        (placement_is_left limit tree p q (done_by writable tree (take i edits)) g.placed)
        ∙ ap (λ (t : Tree). group_touched limit tree p (done_by writable tree (take i edits)) ++ touched_extents t q edit) left

    in_first : (f : Extent) → Contains (group_touched limit tree p (done_by writable tree (take i edits))) f → Contains (group_touched limit tree p (done_by writable tree (take (suc i) edits))) f
    in_first f k = subst (λ xs. Contains xs f) (sym touched_is) (Contains-append_left (group_touched limit tree p (done_by writable tree (take i edits))) (touched_extents work.tree q edit) f k)

    in_last : (f : Extent) → Contains (touched_extents work.tree q edit) f → Contains (group_touched limit tree p (done_by writable tree (take (suc i) edits))) f
    in_last f k = subst (λ xs. Contains xs f) (sym touched_is) (Contains-append_right (group_touched limit tree p (done_by writable tree (take i edits))) (touched_extents work.tree q edit) f k)

    before : (number : ℕ) → CanReach (group_touched limit tree p (done_by writable tree (take i edits))) tree.wide p q.heap.end number
        → CanReach (group_touched limit tree p (done_by writable tree (take (suc i) edits))) tree.wide p r.heap.end number
    before number (at, block, may) = (at, block, (let le = may.0 in omega (arith, le, rise), λ f live free. may.1 f live (λ k. free (in_first f k))))

    last : (number : ℕ) → CanReach (touched_extents work.tree q edit) work.tree.wide q r.heap.end number
        → CanReach (group_touched limit tree p (done_by writable tree (take (suc i) edits))) tree.wide p r.heap.end number
    last number (at, block, may) = (
      at,
      block,
      (may.0, λ f live free. may.1 f (subst (λ w. Contains (live_extents w q) f) (sym wide) (g.places.parts f live (λ k. free (in_first f k)))) (λ k. free (in_last f k))),
    )

-- ---- ranges in parts that are touched

module _ (touched : List Extent) (wide : Bool) (p : Placement) where
  pub none_lie : LieInTouched [] touched wide p
  none_lie b some = absurd (omega (arith, some))

  pub both_lie : (xs ys : List Extent) → LieInTouched xs touched wide p → LieInTouched ys touched wide p → LieInTouched (xs ++ ys) touched wide p
  both_lie xs ys x y b some = elim (less_or 0 (cover xs b)) [
    | inl first ↦ x b first
    | inr none ↦ y b (let s = cover-append xs ys b in omega (arith, s, some, none))
  ]

  pub one_lies : (part : Extent) → Contains (live_extents wide p) part → Contains touched part → (kind : ExtentKind) (place n : ℕ) → part.place ≤ place → place + n ≤ end_of part → LieInTouched (extent kind place n ∷ []) touched wide p
  one_lies part live open' kind place n low high b some =
      let i = range_holds place n b (omega (arith, some)) in
      let first = i.0 in
      let last = i.1 in record { part = part; live = live; open' = open'; low = omega (arith, first, low); high = omega (arith, last, high) }

  module _ (k : ℕ) (from : NodeParts) (at : parts_of p k ≡ Some from) where
    pub header_live : Contains (live_extents wide p) (header_extent wide p k)
    header_live = subst (λ (o : Option NodeParts). Contains (live_extents wide p) (extent ExtentKind.Node (parts_or_none o).header (node_length wide))) (sym at) (of_node wide p.parts k from (header_of wide from) at (header_own wide from))

    pub table_live : (t : TablePart) → from.table ≡ Some t → Contains (live_extents wide p) (list_part t)
    table_live t has = of_node wide p.parts k from (list_part t) at (table_own wide from t has)

    pub table_among : (t : TablePart) → from.table ≡ Some t → Contains (table_of p k) (list_part t)
    table_among t has =
        subst (λ (o : Option NodeParts). Contains (table_extents (parts_or_none o).table) (list_part t)) (sym at)
        (subst (λ (o : Option TablePart). Contains (table_extents o) (list_part t)) (sym has) (0, omega arith, refl))

-- what an edit spares of the rest lies in parts that it touches
pub spared_lies : SparedLies
spared_lies ranges touched tree done p q own b some =
    let at = own b some in record { part = at.part; live = of_node tree.wide p.parts at.serial at.from at.part at.stands at.own; open' = at.open'; low = at.low; high = at.high }
