-- Where the parts of a node with other data stand, and that all others stay.
use Rattle.std.proofs.Common.{◌≡◌, inl, inr, ℕ, refl, sym, ◌∙◌, ap, subst, arith, List, [], ◌∷◌, ◌++◌, length, get_or, ◌+◌, ◌-◌, Bool, true, false}
use Rattle.std.proofs.lemmas.Bool.Decides.{eqb_tells}
use Rattle.std.proofs.lemmas.List.{length-set}
use Rattle.std.proofs.lemmas.List.Elements.{Contains-append_left, Contains-append_right}
use Rattle.std.specs.Prelude.{Option, Some, None, Result, Ok, Err, nat_le, nat_lt, if◌then◌else◌, slice_set}
use Rattle.std.specs.List.{Contains}
use Rattle.adf_format.specs.declared.types.Extent.{Extent}
use Rattle.adf_format.specs.Parts.{chunk_table_length}
use Rattle.adf_format.specs.Placement.{Placement, NodeParts, ChunkPart, Heap, parts_of, node_extents, live_extents, chunk_table_extents, chunk_extents}
use Rattle.adf_format.specs.HeapRule.{LimitReached, Placed, Taken, ◌>>=◌, heap_take, give_all, chunk, chunk_length_for, data_extents, in_one_chunk, in_one_more, payload_length, hold, with_parts, after_gives, place_data, place_edit, data_at, parts_or_none, parts_at}
use Rattle.adf_format.specs.Tree.{Tree}
use Rattle.adf_model.specs.NodeData.{DataSpot, alone, spot_of, resized_spot, with_spot, with_spot_or}
use Rattle.adf_model.specs.Untouched.{data_of}
use Rattle.adf_model.proofs.Basics.{same_Some}
use Rattle.adf_model.proofs.Creation.PartExtents.{node_of, of_node}
use Rattle.adf_model.proofs.Creation.CreatedNodes.{there_inside}
use Rattle.adf_model.proofs.Writes.DataLaws.{hold-alone}
use Rattle.tree_laws.specs.DataSwitch.{with_data}
use Rattle.tree_laws.specs.Spared.{KeepsPlaces}
use Rattle.tree_laws.proofs.Edits.LabelSet.{set_here, set_there}
use Rattle.tree_laws.proofs.Leaving.ListsLeave.{list_or_data, list_extents}
use Rattle.tree_laws.proofs.Whole.Spares.{header_of}
use Rattle.data_edit_laws.specs.Settled.{settled}

-- ---- what stays where it is

-- what a change of data may touch
data_is : (wide : Bool) (p : Placement) (s : ℕ) (from : NodeParts) → parts_of p s ≡ Some from → data_of wide p s ≡ header_of wide from ∷ data_extents from
data_is wide p s from at = ap (λ (o : Option NodeParts). header_of wide (parts_or_none o) ∷ data_extents (parts_or_none o)) at

has_data : (wide : Bool) (p : Placement) (s : ℕ) (from : NodeParts) → parts_of p s ≡ Some from → (e : Extent) → Contains (data_extents from) e → Contains (data_of wide p s) e
has_data wide p s from at e c = subst (λ xs. Contains xs e) (sym (data_is wide p s from at)) (Contains-append_right (header_of wide from ∷ []) (data_extents from) e c)

-- other data keep all parts but the header's and the data's
module _ (wide : Bool) (p : Placement) (heap : Heap) (s : ℕ) (from : NodeParts) (chunks : List ChunkPart) (table : Option ℕ) (at : parts_of p s ≡ Some from) where
  abbrev to : NodeParts
  to = with_data from chunks table

  here : get_or (slice_set p.parts s (Some to)) s None ≡ Some to
  here = set_here p.parts s (Some to) None (there_inside p.parts s from at)

  same_list : (k : ℕ) (a b : NodeParts) → parts_of p k ≡ Some a → get_or (slice_set p.parts s (Some to)) k None ≡ Some b → (b.header ≡ a.header) × (b.table ≡ a.table)
  same_list k a b there now = elim (eqb_tells k s) [
    | inl same ↦ (
        let is : a ≡ from = same_Some a from (sym there ∙ ap (parts_of p) same.1 ∙ at) in
        let now_is : to ≡ b = same_Some to b (sym here ∙ sym (ap (λ (j : ℕ). get_or (slice_set p.parts s (Some to)) j None) same.1) ∙ now) in (
          sym (ap (λ (x : NodeParts). x.header) now_is) ∙ sym (ap (λ (x : NodeParts). x.header) is),
          sym (ap (λ (x : NodeParts). x.table) now_is) ∙ sym (ap (λ (x : NodeParts). x.table) is),
        ))
    | inr other ↦ (
        let is : b ≡ a = same_Some b a (sym now ∙ set_there p.parts s k (Some to) None other.1 ∙ there) in
        (ap (λ (x : NodeParts). x.header) is, ap (λ (x : NodeParts). x.table) is))
  ]

  own_table : (e : Extent) → Contains (list_extents wide from) e → Contains (node_extents wide to) e
  own_table e c =
      Contains-append_left (list_extents wide from ++ chunk_table_extents table (length chunks)) (chunk_extents chunks) e
      (Contains-append_left (list_extents wide from) (chunk_table_extents table (length chunks)) e c)

  on : (e : Extent) → (Contains (data_of wide p s) e → ⊥) → (k : ℕ) (ms : NodeParts) → parts_of p k ≡ Some ms → Contains (node_extents wide ms) e → Contains (live_extents wide (with_parts p s to)) e
  on e free k ms there own = elim (eqb_tells k s) [
    | inl same ↦ (
        let is : ms ≡ from = same_Some ms from (sym there ∙ ap (parts_of p) same.1 ∙ at) in
        elim (list_or_data wide from e (subst (λ (x : NodeParts). Contains (node_extents wide x) e) is own)) [
          | inl list ↦ of_node wide (slice_set p.parts s (Some to)) s to e here (own_table e list)
          | inr data' ↦ absurd (free (has_data wide p s from at e data'))
        ])
    | inr other ↦ of_node wide (slice_set p.parts s (Some to)) k ms e (set_there p.parts s k (Some to) None other.1 ∙ there) own
  ]

  pub places_kept : KeepsPlaces (data_of wide p s) wide p (settled p s from chunks table heap)
  places_kept = record {
    parts = λ e live free. let n = node_of wide p.parts e live in on e free n.0 n.1 n.2 n.3;
    headers = λ k a b there now. (same_list k a b there now).0;
    drawn = (let e = length-set p.parts s (Some to) in omega (arith, e));
    before = λ k b lt now. elim (eqb_tells k s) [
      | inl same ↦ (from, ap (parts_of p) same.1 ∙ at)
      | inr other ↦ (b, sym (set_there p.parts s k (Some to) None other.1) ∙ now)
    ];
    tables = λ k a b there now. inl (same_list k a b there now).1;
  }

-- ---- where the rule puts the data

same_Ok : {A : Type 0} (a b : A) → ◌≡◌ {A = Result A LimitReached} (Ok a) (Ok b) → a ≡ b
same_Ok a b e = cc

no_Err : {A : Type 0} {P : Type 0} (e : LimitReached) (a : A) → ◌≡◌ {A = Result A LimitReached} (Err e) (Ok a) → P
no_Err e a h = cc

-- only the chunks and their table are others
abbrev IsOtherData : DataSpot → DataSpot → Type 0
IsOtherData spot after = after.0 ≡ with_data spot.0 after.0.chunks after.0.chunk_table

module _ (limit : ℕ) (spot : DataSpot) where
  abbrev in_one : ℕ → ℕ → NodeParts
  in_one size place = record spot.0 { chunks = chunk place (chunk_length_for size) ∷ []; chunk_table = None }

  abbrev with_more : ℕ → ℕ → ℕ → NodeParts
  with_more added place table = record spot.0 { chunks = spot.0.chunks ++ chunk place (chunk_length_for added) ∷ []; chunk_table = Some table }

  abbrev old_table : List Extent
  old_table = chunk_table_extents spot.0.chunk_table (length spot.0.chunks)

  abbrev spot_after : Result Placement LimitReached → Result DataSpot LimitReached
  spot_after r = r >>= λ (q : Placement). Ok (spot_of q)

  by_one : (size : ℕ) (after : DataSpot) → spot_after (in_one_chunk limit (alone spot) 0 size) ≡ Ok after → IsOtherData spot after
  by_one size after = go (heap_take limit (chunk_length_for size) spot.1)
    where
      go : (r : Result (ℕ × Heap) LimitReached)
          → spot_after ((r >>= λ (t : ℕ × Heap). Ok (t.0, record (alone spot) { heap = t.1 })) >>= λ (t : Taken). Ok (after_gives (with_parts t.1 0 (in_one size t.0)) (data_extents spot.0))) ≡ Ok after → IsOtherData spot after
      go (Err full) h = no_Err full after h
      go (Ok t) h = subst (IsOtherData spot) (same_Ok (in_one size t.0, give_all (data_extents spot.0) t.1) after h) refl

  by_more : (added : ℕ) (after : DataSpot) → spot_after (in_one_more limit (alone spot) 0 added) ≡ Ok after → IsOtherData spot after
  by_more added after = go (heap_take limit (chunk_length_for added) spot.1)
    where
      then_table : (c : ℕ × Heap) (r : Result (ℕ × Heap) LimitReached)
          → spot_after ((r >>= λ (t : ℕ × Heap). Ok (t.0, record (alone spot) { heap = t.1 })) >>= λ (t : Taken). Ok (after_gives (with_parts t.1 0 (with_more added c.0 t.0)) old_table)) ≡ Ok after → IsOtherData spot after
      then_table c (Err full) h = no_Err full after h
      then_table c (Ok t) h = subst (IsOtherData spot) (same_Ok (with_more added c.0 t.0, give_all old_table t.1) after h) refl

      go : (r : Result (ℕ × Heap) LimitReached)
          → spot_after ((r >>= λ (t : ℕ × Heap). Ok (t.0, record (alone spot) { heap = t.1 })) >>= λ (c : Taken).
          ((heap_take limit (chunk_table_length (length spot.0.chunks + 1)) c.1.heap >>= λ (t : ℕ × Heap). Ok (t.0, record c.1 { heap = t.1 })) >>= λ (t : Taken). Ok (after_gives (with_parts t.1 0 (with_more added c.0 t.0)) old_table)))
          ≡ Ok after → IsOtherData spot after
      go (Err full) h = no_Err full after h
      go (Ok c) h = then_table c (heap_take limit (chunk_table_length (length spot.0.chunks + 1)) c.1) h

  by_chunks : (size : ℕ) (chunks : List ChunkPart) (after : DataSpot) → spot_after (hold limit (alone spot) 0 size chunks) ≡ Ok after → IsOtherData spot after
  by_chunks size [] after h = by_one size after h
  by_chunks size (c ∷ cs) after h = go (nat_le size (payload_length (c ∷ cs))) (nat_lt (length (c ∷ cs)) 64) h
    where
      go : (fits few : Bool) → spot_after (if fits then Ok (alone spot) else if few then in_one_more limit (alone spot) 0 (size - payload_length (c ∷ cs)) else in_one_chunk limit (alone spot) 0 size) ≡ Ok after → IsOtherData spot after
      go true few k = subst (IsOtherData spot) (same_Ok spot after k) refl
      go false true k = by_more (size - payload_length (c ∷ cs)) after k
      go false false k = by_one size after k

pub resized_data : (limit size : ℕ) (spot after : DataSpot) → resized_spot limit size spot ≡ Ok after → after.0 ≡ with_data spot.0 after.0.chunks after.0.chunk_table
resized_data limit size spot after h = by_chunks limit spot size spot.0.chunks after h

-- in the file
module _ (limit : ℕ) (tree after : Tree) (p : Placement) (s : ℕ) (from : NodeParts) (stands : parts_of p s ≡ Some from) where
  its_parts : parts_at p s ≡ from
  its_parts = ap parts_or_none stands

  module _ (bytes : List ℕ) (size : ℕ) (are : data_at after s ≡ Some bytes) (long : length bytes ≡ size) where
    by_spot : place_edit limit tree after (Placed.Data s) p ≡ with_spot_or p s (resized_spot limit size (from, p.heap))
    by_spot =
        ap (place_data limit p s) are
        ∙ ap (λ n. hold limit p s n (parts_at p s).chunks) long
        ∙ hold-alone limit s p from stands size
        ∙ ap (λ (x : NodeParts). with_spot_or p s (resized_spot limit size (x, p.heap))) its_parts

    pub sized_place : (to : NodeParts) (later : Heap) → resized_spot limit size (from, p.heap) ≡ Ok (to, later) → place_edit limit tree after (Placed.Data s) p ≡ Ok (settled p s from to.chunks to.chunk_table later)
    sized_place to later e =
        by_spot ∙ ap (with_spot_or p s) e
        ∙ ap (λ (x : NodeParts). Ok (with_spot p s (x, later))) (resized_data limit size (from, p.heap) (to, later) e)

    pub sized_full : (full : LimitReached) → resized_spot limit size (from, p.heap) ≡ Err full → place_edit limit tree after (Placed.Data s) p ≡ Err full
    sized_full full e = by_spot ∙ ap (with_spot_or p s) e

  pub released_place : data_at after s ≡ None → place_edit limit tree after (Placed.Data s) p ≡ Ok (settled p s from [] None (give_all (data_extents from) p.heap))
  released_place none =
      ap (place_data limit p s) none
      ∙ ap (λ (x : NodeParts). Ok (after_gives (with_parts p s (record x { chunks = []; chunk_table = None })) (data_extents x))) its_parts
