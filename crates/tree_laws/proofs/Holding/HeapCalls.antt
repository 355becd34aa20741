-- What a take and a gift of the heap make of a file in the midst of an edit.
use Rattle.std.proofs.Common.{◌≡◌, inl, ℕ, zero, suc, refl, sym, ◌∙◌, ap, arith, List, [], ◌∷◌, ◌++◌, length, get_or, filter, ◌+◌, ◌-◌, ◌<◌, ◌≤◌, Bool, true, false, cond}
use Rattle.std.proofs.lemmas.Bool.Decides.{nat_tests}
use Rattle.std.specs.Prelude.{Some, slice_get, IsTrue}
use Rattle.adf_format.specs.declared.types.Extent.{Extent}
use Rattle.adf_format.specs.declared.types.ExtentKind.{ExtentKind}
use Rattle.adf_format.specs.declared.fields.TheConstants.{HEADER_END}
use Rattle.adf_format.specs.RecordFields.{field_in}
use Rattle.adf_format.specs.Pointer.{PointsTo, pointer}
use Rattle.adf_format.specs.Fields.{field}
use Rattle.adf_format.specs.Tree.{Tree}
use Rattle.adf_format.specs.Tiles.{Tiles, cover, end_of, is_filler, holds_byte}
use Rattle.adf_format.specs.Parts.{IsFiller}
use Rattle.adf_format.specs.Placement.{Placement, Heap, extent, live_extents, head_extents, all_extents}
use Rattle.adf_format.specs.LaysOut.{AreGapsInOrder, ThreadsFreeChunks}
use Rattle.adf_format.specs.Changes.{heap_fields}
use Rattle.adf_format.proofs.HeapSteps.{cover-append}
use Rattle.adf_format.proofs.HeapLaws.{in_range}
use Rattle.adf_format.proofs.FieldLaws.{get_field, length-field}
use Rattle.adf_format.proofs.FrameLaws.{field_of_first}
use Rattle.adf_model.proofs.Creation.PartsApart.{range_in, range_out, range_within, cover_all}
use Rattle.adf_model.proofs.Creation.FillerBytes.{get_replicate}
use Rattle.adf_model.proofs.Basics.{not_there, same_Some}
use Rattle.adf_format.specs.HeapBytes.{HoldsFillers, MovesEnd, KeepsFillers}
use Rattle.tree_laws.specs.Holding.{Holds, ChangesIn}
use Rattle.tree_laws.proofs.Holding.Steps.{within, once}
use Rattle.tree_laws.proofs.Holding.HeapMoves.{moved}
use Rattle.adf_model.proofs.Creation.CreatedParts.{z_at}

-- a byte that stands there is the one that is read
byte_there : (xs : List ℕ) (b v : ℕ) → slice_get xs b ≡ Some v → get_or xs b 0 ≡ v
byte_there [] b v e = absurd (not_there v e)
byte_there (x ∷ xs) zero v e = same_Some x v e
byte_there (x ∷ xs) (suc b) v e = byte_there xs b v e

-- the byte of a filler lies in one of the gaps that are fillers
filler_at : (gaps : List Extent) (b : ℕ) → 0 < cover (filter is_filler gaps) b → (k : ℕ) × (g : Extent) × (slice_get gaps k ≡ Some g) × IsTrue (is_filler g) × (g.place ≤ b) × (b < end_of g)
filler_at [] b some = absurd (omega (arith, some))
filler_at (x ∷ xs) b some = by_kind (is_filler x) refl some (filler_at xs b)
  where
    by_byte : is_filler x ≡ true → (t : Bool) → holds_byte x b ≡ t → 0 < cond t 1 0 + cover (filter is_filler xs) b
        → (0 < cover (filter is_filler xs) b → (k : ℕ) × (g : Extent) × (slice_get xs k ≡ Some g) × IsTrue (is_filler g) × (g.place ≤ b) × (b < end_of g))
        → (k : ℕ) × (g : Extent) × (slice_get (x ∷ xs) k ≡ Some g) × IsTrue (is_filler g) × (g.place ≤ b) × (b < end_of g)
    by_byte kind true held some rest = (zero, x, refl, kind, grind (arith, nat_tests), grind (arith, nat_tests))
    by_byte kind false held some rest = let r = rest (omega (arith, some)) in (suc r.0, r.1, r.2, r.3, r.4, r.5)

    by_kind : (t : Bool) → is_filler x ≡ t → 0 < cover (cond t (x ∷ filter is_filler xs) (filter is_filler xs)) b
        → (0 < cover (filter is_filler xs) b → (k : ℕ) × (g : Extent) × (slice_get xs k ≡ Some g) × IsTrue (is_filler g) × (g.place ≤ b) × (b < end_of g))
        → (k : ℕ) × (g : Extent) × (slice_get (x ∷ xs) k ≡ Some g) × IsTrue (is_filler g) × (g.place ≤ b) × (b < end_of g)
    by_kind true kind some rest = by_byte kind (holds_byte x b) refl some rest
    by_kind false kind some rest = let r = rest some in (suc r.0, r.1, r.2, r.3, r.4, r.5)

tiles_same : (xs ys : List Extent) (end : ℕ) → ((b : ℕ) → cover ys b ≡ cover xs b) → Tiles xs end → Tiles ys end
tiles_same xs ys end same t = record { once = λ b le. same b ∙ t.once b le; inside = λ b lt. same b ∙ t.inside b lt }

module _ (old new : List ℕ) (tree : Tree) (p : Placement) (heap : Heap) (taken : List Extent) (h : Holds old tree p taken) where
  abbrev placed : Placement
  placed = record p { heap = heap }

  -- the extents that are no gaps
  abbrev used : List Extent
  used = taken ++ (head_extents ++ live_extents tree.wide p)

  regroup : (gaps : List Extent) (b : ℕ) → cover (used ++ gaps) b ≡ cover (taken ++ (head_extents ++ live_extents tree.wide p ++ gaps)) b
  regroup gaps b =
      let a = cover-append used gaps b in
      let c = cover-append taken (head_extents ++ live_extents tree.wide p) b in
      let d = cover-append taken (head_extents ++ live_extents tree.wide p ++ gaps) b in
      let e = cover-append (head_extents ++ live_extents tree.wide p) gaps b in
      omega (arith, a, c, d, e)

  -- the fillers of the file hold `z`
  pub holds_z : HoldsFillers old p.heap.gaps
  holds_z b some =
      let f = filler_at p.heap.gaps b some in
      byte_there old b 122
      (z_at f.1.length f.1.place b old (h.fillers f.0 f.1 f.2 f.3) f.4 f.5
      (within old tree p taken h b (let all = cover_all tree.wide p b in let gap = gap_in p.heap.gaps b some in omega (arith, all, gap))))
    where
      gap_in : (gaps : List Extent) (b : ℕ) → 0 < cover (filter is_filler gaps) b → 0 < cover gaps b
      gap_in [] b some = some
      gap_in (x ∷ xs) b some = by_kind (is_filler x) some (gap_in xs b)
        where
          by_kind : (t : Bool) → 0 < cover (cond t (x ∷ filter is_filler xs) (filter is_filler xs)) b → (0 < cover (filter is_filler xs) b → 0 < cover xs b) → 0 < cover (x ∷ xs) b
          by_kind true some rest = plain (cond (holds_byte x b) 1 0) (cover (filter is_filler xs) b) (cover xs b) some rest
            where
              plain : (a f c : ℕ) → 0 < a + f → (0 < f → 0 < c) → 0 < a + c
              plain zero f c some rest = let r = rest (omega (arith, some)) in omega (arith, r)
              plain (suc a) f c some rest = omega arith
          by_kind false some rest = plain (cond (holds_byte x b) 1 0) (cover xs b) (rest some)
            where
              plain : (a c : ℕ) → 0 < c → 0 < a + c
              plain a c some = omega (arith, some)

  head_split : (b : ℕ) → cover head_extents b ≡ in_range 0 186 b + in_range 186 80 b
  head_split b = omega arith

  fields_split : (b : ℕ) → cover heap_fields b ≡ in_range 146 12 b + in_range 186 80 b
  fields_split b = omega arith

  pointed : PointsTo (field_in old HEADER_END) p.heap.end
  pointed = ap pointer (sym (field_of_first 12 146 186 old (omega arith))) ∙ h.header.2.end_pointer

  -- a range that the heap took is taken
  pub took : (kind : ExtentKind) (place n : ℕ) → ChangesIn (heap_fields ++ p.heap.gaps) old new
      → ((used : List Extent) → Tiles (used ++ p.heap.gaps) p.heap.end → Tiles (extent kind place n ∷ used ++ heap.gaps) heap.end)
      → AreGapsInOrder heap.gaps → MovesEnd p.heap.end heap.end old new → KeepsFillers p.heap.gaps heap.gaps old new → ThreadsFreeChunks new heap.gaps
      → Holds new tree (record p { heap = heap }) (extent kind place n ∷ taken)
  took kind place n c tiles order end z threads = moved (heap_fields ++ p.heap.gaps) tree p placed taken (extent kind place n ∷ taken) old new h (record {
    parts = refl;
    changes = c;
    apart = λ b some.
        let one = once old tree p taken h b in
        let s = cover-append heap_fields p.heap.gaps b in
        let hs = head_split b in
        let fs = fields_split b in
        let w = range_within 0 186 146 12 b (omega arith) (omega arith) in
        omega (arith, one, some, s, hs, fs, w);
    head = λ b lt out.
        let one = once old tree p taken h b in
        let s = cover-append heap_fields p.heap.gaps b in
        let hs = head_split b in
        let fs = fields_split b in
        let a = range_out 146 12 b out in
        let k = range_out 186 80 b (inl lt) in
        let i = range_in 0 186 b (omega arith) lt in
        omega (arith, one, s, hs, fs, a, k, i);
    end = end pointed;
    tiles = tiles_same (extent kind place n ∷ used ++ heap.gaps) (extent kind place n ∷ taken ++ all_extents tree.wide placed) heap.end
        (λ b. ap (λ (k : ℕ). cond (holds_byte (extent kind place n) b) 1 0 + k) (sym (regroup heap.gaps b)))
        (tiles used (tiles_same (taken ++ all_extents tree.wide p) (used ++ p.heap.gaps) p.heap.end (regroup p.heap.gaps) h.tiles));
    gaps = order;
    fillers = z holds_z;
    threads = threads;
  })

-- a range that was taken is given
pub gave : (old new : List ℕ) (tree : Tree) (p : Placement) (heap : Heap) (taken : List Extent) (kind other : ExtentKind) (place n : ℕ) → Holds old tree p (extent kind place n ∷ taken) → 266 ≤ place
    → ChangesIn (heap_fields ++ extent other place n ∷ p.heap.gaps) old new
    → ((used : List Extent) → Tiles (extent kind place n ∷ used ++ p.heap.gaps) p.heap.end → Tiles (used ++ heap.gaps) heap.end)
    → AreGapsInOrder heap.gaps → MovesEnd p.heap.end heap.end old new → KeepsFillers p.heap.gaps heap.gaps old new → ThreadsFreeChunks new heap.gaps
    → Holds new tree (record p { heap = heap }) taken
gave old new tree p heap taken kind other place n h low c tiles order end z threads =
    moved (heap_fields ++ extent other place n ∷ p.heap.gaps) tree p (record p { heap = heap }) (extent kind place n ∷ taken) taken old new h (record {
      parts = refl;
      changes = c;
      apart = λ b some.
          let one = once old tree p (extent kind place n ∷ taken) h b in
          let s = cover-append heap_fields (extent other place n ∷ p.heap.gaps) b in
          let w = range_within 0 186 146 12 b (omega arith) (omega arith) in
          omega (arith, one, some, s, w);
      head = λ b lt out.
          let one = once old tree p (extent kind place n ∷ taken) h b in
          let s = cover-append heap_fields (extent other place n ∷ p.heap.gaps) b in
          let a = range_out 146 12 b out in
          let k = range_out 186 80 b (inl lt) in
          let i = range_in 0 186 b (omega arith) lt in
          let o = range_out place n b (inl (omega (arith, lt, low))) in
          omega (arith, one, s, a, k, i, o);
      end = end (pointed old new tree p heap (extent kind place n ∷ taken) h);
      tiles = tiles_same ((taken ++ (head_extents ++ live_extents tree.wide p)) ++ heap.gaps) (taken ++ all_extents tree.wide (record p { heap = heap })) heap.end
          (λ b. sym (regroup_by taken heap.gaps b))
          (tiles (taken ++ (head_extents ++ live_extents tree.wide p)) (tiles_same (extent kind place n ∷ taken ++ all_extents tree.wide p) (extent kind place n ∷ (taken ++ (head_extents ++ live_extents tree.wide p)) ++ p.heap.gaps) p.heap.end
          (λ b. ap (λ (k : ℕ). cond (holds_byte (extent kind place n) b) 1 0 + k) (regroup_by taken p.heap.gaps b)) h.tiles));
      gaps = order;
      fillers = z (holds_z old new tree p heap (extent kind place n ∷ taken) h);
      threads = threads;
    })
  where
    regroup_by : (taken : List Extent) (gaps : List Extent) (b : ℕ) → cover ((taken ++ (head_extents ++ live_extents tree.wide p)) ++ gaps) b ≡ cover (taken ++ (head_extents ++ live_extents tree.wide p ++ gaps)) b
    regroup_by taken gaps b =
        let a = cover-append (taken ++ (head_extents ++ live_extents tree.wide p)) gaps b in
        let c = cover-append taken (head_extents ++ live_extents tree.wide p) b in
        let d = cover-append taken (head_extents ++ live_extents tree.wide p ++ gaps) b in
        let e = cover-append (head_extents ++ live_extents tree.wide p) gaps b in
        omega (arith, a, c, d, e)
