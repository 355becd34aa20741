-- What becomes of data that get another size, or none, from what the calls on data leave.
use Rattle.std.proofs.Common.{◌≡◌, ℕ, refl, sym, ◌∙◌, ap, subst, arith, List, [], ◌∷◌, ◌++◌, length, take, replicate, append-nil, min, ◌+◌, ◌-◌, ◌*◌, ◌^◌, ◌<◌, ◌≤◌, Bool, true, false, not, ◌==◌, Option, None, Some}
use Rattle.std.proofs.lemmas.List.{length-take, length-take-le, take-take, take_all, take_min}
use Rattle.std.proofs.lemmas.Bool.Decides.{nat_tests}
use Rattle.std.proofs.lemmas.Nat.{mul-le}
use Rattle.std.specs.Prelude.{Result, Ok, Err, IfErr, IfSome, option_map, nat_lt, ◌&&◌, ◌||◌, if◌then◌else◌}
use Rattle.std.specs.List.{list_all}
use Rattle.adf_format.specs.declared.types.DataType.{DataType}
use Rattle.adf_format.specs.declared.types.Extent.{Extent}
use Rattle.adf_format.specs.declared.types.DataType.TheVariants.{Mt, I4, I8, U4, U8, R4, R8, X4, X8, B1, C1, Lk}
use Rattle.adf_format.specs.Changes.{heap_fields}
use Rattle.adf_format.specs.HeapBytes.{ChangesOnly, MovesEnd, KeepsFillers}
use Rattle.adf_format.specs.HeapRule.{LimitReached, give_all, data_extents, chunk_length_for}
use Rattle.adf_format.specs.LaysOut.{payloads}
use Rattle.adf_format.specs.Names.{data_size, element_size, product, is_dimension, is_mt, is_shape_of, is_same_type, is_lk}
use Rattle.adf_format.specs.Placement.{Heap, NodeParts}
use Rattle.adf_format.proofs.HeapSteps.{cover-append}
use Rattle.adf_format.proofs.ReachedLaws.{more_changes}
use Rattle.adf_model.specs.declared.error.AdfError.{AdfError}
use Rattle.adf_model.specs.declared.error.AdfError.TheVariants as error
use Rattle.adf_model.specs.declared.tree.Shape.{Shape}
use Rattle.adf_model.specs.Edits.{resized, size_limit}
use Rattle.adf_model.specs.NodeData.{HoldsData, resized_spot, grown_range}
use Rattle.adf_model.specs.Shapes.{dims_of as shape_dims, is_shape}
use Rattle.adf_model.proofs.Basics.{and_parts, not_true}
use Rattle.adf_records.specs.declared.NodeHeader.{NodeHeader}
use Rattle.adf_data.specs.declared.place.DataPlace.{DataPlace}
use Rattle.adf_data.specs.Chunks.{AreNamed, Named}
use Rattle.adf_data.specs.Growing.{AreOwn, Owns, ResizesData, sized_ranges, room_of_table}
use Rattle.adf_data.specs.Sizes.{MayGiveAll}
use Rattle.adf_data.proofs.SizeLaws.{own_ready, placed_there}
use Rattle.adf_model.proofs.Keeping.DataKeeps.{length-resized}
use Rattle.cg_io.specs.Answers.{IsRefusal}
use Rattle.cg_io.specs.Blocks.{Both}
use Rattle.disk_ptr.specs.declared.DiskPtr.{DiskPtr}
use Rattle.disk_ptr.specs.View.{view}
use Rattle.file_heap.specs.Heap.{FreeSpace, IsHeap, IsThreaded, IsTakeRefusal}
use Rattle.tree_asks.specs.Headers.{dims_of}
use Rattle.tree_edits.specs.Taken.{IsRoomless}
use Rattle.data_edits.specs.Becomes.{OwnsData, Owned, NoneOwned, Becomes, BecomeBy, place_in, spot_after}
use Rattle.data_edits.specs.Shaped.{keeps, reshaped, size_of_shape, is_good, is_too_large, LacksSize}

-- ---- data that are named

pub own_named : (h : NodeHeader) (parts : NodeParts) (bytes : Option (List ℕ)) (heap : Heap) (image : List ℕ) → OwnsData h parts bytes heap image → AreNamed (place_in h) parts image
own_named h parts bytes heap image own = record { count = own.named.count; pointer = own.named.pointer; chunk_table = own.holds.chunk_table; chunks = own.holds.chunks }

-- there are none without chunks
pub some_bytes : (h : NodeHeader) (parts : NodeParts) (bytes : Option (List ℕ)) (heap : Heap) (image : List ℕ) → OwnsData h parts bytes heap image → not (h.chunks == 0) ≡ true → (b : List ℕ) × (bytes ≡ Some b)
some_bytes h parts None heap image own some = absurd (
    let none : h.chunks ≡ 0 = own.named.count ∙ ap length own.holds.begins in not_true (sym (ap (λ n. not (n == 0)) none) ∙ some))
some_bytes h parts (Some b) heap image own some = (b, refl)

-- ---- sizes

pub few_bytes : (wide : Bool) (h : NodeHeader) (shape : Shape) → keeps h shape ≡ true → is_too_large wide h shape ≡ false → size_of_shape shape ≤ 2 ^ 30
few_bytes wide h shape stay small = by_size (size_of_shape shape) (not wide) (sym (ap (λ b. nat_lt size_limit (size_of_shape shape) && (not wide || b)) stay) ∙ small)
  where
    by_size : (n : ℕ) (w : Bool) → (nat_lt (2 ^ 30) n && (w || true)) ≡ false → n ≤ 2 ^ 30
    by_size n true e = grind (arith, nat_tests)
    by_size n false e = grind (arith, nat_tests)

some_of_product : (wide : Bool) (ds : List ℕ) → list_all (is_dimension wide) ds ≡ true → 1 ≤ product ds
some_of_product wide [] e = omega arith
some_of_product wide (d ∷ ds) e =
    let both = and_parts (is_dimension wide d) (list_all (is_dimension wide) ds) e in
    times d (product ds) (one wide d both.0) (some_of_product wide ds both.1)
  where
    one : (wide : Bool) (d : ℕ) → is_dimension wide d ≡ true → 1 ≤ d
    one true d e = grind (arith, nat_tests)
    one false d e = grind (arith, nat_tests)

    times : (a b : ℕ) → 1 ≤ a → 1 ≤ b → 1 ≤ a * b
    times a b x y = mul-le 1 1 a b x y

some_of_type : (k : DataType) → is_mt k ≡ false → 1 ≤ element_size k
some_of_type Mt filled = absurd (not_true (sym filled))
some_of_type I4 filled = omega arith
some_of_type I8 filled = omega arith
some_of_type U4 filled = omega arith
some_of_type U8 filled = omega arith
some_of_type R4 filled = omega arith
some_of_type R8 filled = omega arith
some_of_type X4 filled = omega arith
some_of_type X8 filled = omega arith
some_of_type B1 filled = omega arith
some_of_type C1 filled = omega arith
some_of_type Lk filled = omega arith

-- a shape that is not the empty one has a byte
pub some_of_shape : (wide : Bool) (shape : Shape) → is_shape wide shape ≡ true → is_mt shape.kind ≡ false → 1 ≤ size_of_shape shape
some_of_shape wide shape shaped filled =
    let whole = (and_parts _ (is_shape_of wide shape.kind (shape_dims shape)) shaped).1 in
    let each = (and_parts _ (list_all (is_dimension wide) (shape_dims shape)) whole).1 in
    times (element_size shape.kind) (product (shape_dims shape)) (some_of_type shape.kind filled) (some_of_product wide (shape_dims shape) each)
  where
    times : (a b : ℕ) → 1 ≤ a → 1 ≤ b → 1 ≤ a * b
    times a b x y = mul-le 1 1 a b x y

pub some_size : (wide : Bool) (shape : Shape) → is_good wide shape ≡ true → is_mt shape.kind ≡ false → 1 ≤ size_of_shape shape
some_size wide shape good filled = some_of_shape wide shape (and_parts (is_shape wide shape) (not (is_lk shape.kind)) good).0 filled

-- a type that is the same as one that is not empty is not empty
same_filled : (a b : DataType) → is_same_type a b ≡ true → is_mt a ≡ false → is_mt b ≡ false
same_filled a Mt e filled = absurd (not_true (sym filled ∙ e))
same_filled a I4 e filled = refl
same_filled a I8 e filled = refl
same_filled a U4 e filled = refl
same_filled a U8 e filled = refl
same_filled a R4 e filled = refl
same_filled a R8 e filled = refl
same_filled a X4 e filled = refl
same_filled a X8 e filled = refl
same_filled a B1 e filled = refl
same_filled a C1 e filled = refl
same_filled a Lk e filled = refl

-- what stays says so
pub stays_type : (h : NodeHeader) (shape : Shape) → keeps h shape ≡ true → is_same_type h.kind shape.kind ≡ true
stays_type h shape stay = (and_parts (is_same_type h.kind shape.kind) (h.rank == shape.rank) (and_parts (is_same_type h.kind shape.kind && (h.rank == shape.rank)) (not (h.chunks == 0)) stay).0).0

pub stays_some : (h : NodeHeader) (shape : Shape) → keeps h shape ≡ true → not (h.chunks == 0) ≡ true
stays_some h shape stay = (and_parts (is_same_type h.kind shape.kind && (h.rank == shape.rank)) (not (h.chunks == 0)) stay).1

pub stays_filled : (h : NodeHeader) (shape : Shape) → keeps h shape ≡ true → is_mt h.kind ≡ false → is_mt shape.kind ≡ false
stays_filled h shape stay filled = same_filled h.kind shape.kind (stays_type h shape stay) filled

-- data of the empty type do not stay
pub stays_none : (h : NodeHeader) (shape : Shape) → keeps h shape ≡ true → is_mt h.kind ≡ true → (held : Option (List ℕ)) (heap : Heap) → NoneOwned h heap held
stays_none h shape stay empty None heap parts bytes own = absurd own
stays_none h shape stay empty (Some image) heap parts bytes own =
    let some = some_bytes h parts bytes heap image own (stays_some h shape stay) in
    no_Some some.0 (sym some.1 ∙ own.empty (mt_alone h.kind empty))
  where
    no_Some : (b : List ℕ) → Some b ≡ None → ⊥
    no_Some b e = cc

    mt_alone : (kind : DataType) → is_mt kind ≡ true → kind ≡ Mt
    mt_alone Mt e = refl
    mt_alone I4 e = absurd (not_true e)
    mt_alone I8 e = absurd (not_true e)
    mt_alone U4 e = absurd (not_true e)
    mt_alone U8 e = absurd (not_true e)
    mt_alone R4 e = absurd (not_true e)
    mt_alone R8 e = absurd (not_true e)
    mt_alone X4 e = absurd (not_true e)
    mt_alone X8 e = absurd (not_true e)
    mt_alone B1 e = absurd (not_true e)
    mt_alone C1 e = absurd (not_true e)
    mt_alone Lk e = absurd (not_true e)

-- a size of at most 2^30 is told as it is
pub size_told : (n size : ℕ) → n ≡ min size (2 ^ 64 - 1) → size ≤ 2 ^ 30 → n ≡ size
size_told n size e le = omega (arith, e, le)

-- the lesser of what the data have and a size that is no longer
pub least_size : (size was new : ℕ) → was ≡ min size (2 ^ 64 - 1) → new ≤ was → new ≡ min (min size (2 ^ 64 - 1)) new
least_size size was new e le = omega (arith, e, le)

-- and of what they have and a longer one
pub most_size : (size was new : ℕ) → was ≡ min size (2 ^ 64 - 1) → was < new → was ≡ min (min size (2 ^ 64 - 1)) new
most_size size was new e lt = omega (arith, e, lt)

-- ---- another size

-- the first bytes of data are held where the data are
cut_held : (image : List ℕ) (parts : NodeParts) (b : List ℕ) (n : ℕ) → n ≤ length b → HoldsData image parts (Some b) → HoldsData image parts (Some (take n b))
cut_held image parts b n le h = record {
  chunk_table = h.chunk_table;
  chunks = h.chunks;
  begins = (
    h.begins.0,
    ap (λ k. take k (payloads image parts.chunks)) (length-take-le n b le)
        ∙ sym (take-take n (length b) (payloads image parts.chunks) le)
        ∙ ap (take n) h.begins.1,
  );
}

-- they are resized as all are
cut_resized : (b : List ℕ) (n size : ℕ) → n ≡ min (length b) size → resized (take n b) size ≡ resized b size
cut_resized b n size e =
    ap (λ k. take size (take n b) ++ replicate (size - k) 0) (length-take-le n b (omega (arith, e)))
    ∙ ap (λ xs. xs ++ replicate (size - n) 0) (take_all size (take n b) (let t = length-take n b in omega (arith, t, e)) ∙ ap (λ k. take k b) (turned e) ∙ take_min size b)
    ∙ ap (λ k. take size b ++ replicate k 0) (omega (arith, e))
  where
    turned : n ≡ min (length b) size → n ≡ min size (length b)
    turned e = omega (arith, e)

-- nothing is changed
same_changes : (ranges : List Extent) (image : List ℕ) → ChangesOnly ranges image image
same_changes ranges image = record { longer = omega arith; others = λ b none. refl; grows = λ b le lt. absurd (omega (arith, le, lt)) }

resized_same : (xs : List ℕ) (size : ℕ) → length xs ≡ size → resized xs size ≡ xs
resized_same xs size e =
    let none : size - length xs ≡ 0 = omega (arith, e) in
    ap (λ k. take size xs ++ replicate k 0) none ∙ append-nil (take size xs) ∙ take_all size xs (omega (arith, e))

module _ (limit : ℕ) (h : NodeHeader) (shape : Shape) (was size : ℕ) (stay : keeps h shape ≡ true) (small : size_of_shape shape ≤ 2 ^ 30) (size_is : size ≡ size_of_shape shape) (was_is : was ≡ min (min (data_size h.kind (dims_of h)) (2 ^ 64 - 1)) size) where
  module _ (image : List ℕ) (heap : Heap) (parts : NodeParts) (b : List ℕ) (own : OwnsData h parts (Some b) heap image) where
    was_long : was ≡ min (length b) size
    was_long = let l = own.long in omega (arith, was_is, l, size_is, small)

    cut_own : AreOwn (place_in h) was parts (Some (take was b)) heap image
    cut_own = record {
      named = own.named;
      holds = cut_held image parts b was (omega (arith, was_long)) own.holds;
      long = sym (length-take-le was b (omega (arith, was_long)));
      apart = own.apart;
    }

    same_bytes : resized (take was b) size ≡ resized b (size_of_shape shape)
    same_bytes = cut_resized b was size was_long ∙ ap (resized b) size_is

    wanted : reshaped h shape (Some b) ≡ Some (resized b (size_of_shape shape))
    wanted = ap (λ t. if t then Some (resized b (size_of_shape shape)) else None) stay

    -- the rule puts what is wanted where it puts so many bytes
    placed_so : (before : Heap) → spot_after limit (reshaped h shape (Some b)) (parts, before) ≡ resized_spot limit size (parts, before)
    placed_so before =
        ap (λ o. spot_after limit o (parts, before)) wanted
        ∙ ap (λ n. resized_spot limit n (parts, before)) (length-resized b (size_of_shape shape) ∙ sym size_is)

  -- it is refused as the rule refuses it
  pub resized_full : (held : Option (List ℕ)) (heap : Heap) (full : LimitReached)
      → ((parts : NodeParts) (bytes : Option (List ℕ)) → Owns (place_in h) was parts bytes heap held → resized_spot limit size (parts, heap) ≡ Err full)
      → (parts : NodeParts) (bytes : Option (List ℕ)) → Owned h parts bytes heap held → spot_after limit (reshaped h shape bytes) (parts, heap) ≡ Err full
  resized_full None heap full exact parts bytes own = absurd own
  resized_full (Some image) heap full exact parts bytes own = by_bytes bytes own (some_bytes h parts bytes heap image own (stays_some h shape stay))
    where
      by_bytes : (bytes : Option (List ℕ)) → OwnsData h parts bytes heap image → (b : List ℕ) × (bytes ≡ Some b) → spot_after limit (reshaped h shape bytes) (parts, heap) ≡ Err full
      by_bytes None own some = cc
      by_bytes (Some b) own some = placed_so image heap parts b own heap ∙ exact parts (Some (take was b)) (cut_own image heap parts b own)

  -- nor are the data in its way
  pub resized_none : (held : Option (List ℕ)) (heap : Heap) → ((parts : NodeParts) (bytes : Option (List ℕ)) → Owns (place_in h) was parts bytes heap held → ⊥) → NoneOwned h heap held
  resized_none None heap none parts bytes own = absurd own
  resized_none (Some image) heap none parts bytes own = by_bytes bytes own (some_bytes h parts bytes heap image own (stays_some h shape stay))
    where
      by_bytes : (bytes : Option (List ℕ)) → OwnsData h parts bytes heap image → (b : List ℕ) × (bytes ≡ Some b) → ⊥
      by_bytes None own some = cc
      by_bytes (Some b) own some = none parts (Some (take was b)) (cut_own image heap parts b own)

  -- a size that is no longer leaves them where they are
  module _ (some : 1 ≤ size) (all : was ≡ size) (space : FreeSpace) (is : IsHeap space.heap) where
    fewer : (image : List ℕ) → IsThreaded space image → BecomeBy limit (reshaped h shape) h (place_in h) space.heap space image image
    fewer image threads parts bytes own = by_bytes bytes own (some_bytes h parts bytes space.heap image own (stays_some h shape stay))
      where
        by_bytes : (bytes : Option (List ℕ)) → OwnsData h parts bytes space.heap image → (b : List ℕ) × (bytes ≡ Some b) → Becomes limit (reshaped h shape bytes) parts (place_in h) space.heap space image image
        by_bytes None own some_b = cc
        by_bytes (Some b) own some_b =
            let cut = cut_own image space.heap parts b own in
            let room = (own_ready (place_in h) was parts (Some (take was b)) space.heap image cut).enough in
            let front = length-take-le was b (let l = was_long image space.heap parts b own in omega (arith, l)) in record {
              after = parts;
              placed = placed_so image space.heap parts b own space.heap ∙ placed_there limit (parts, space.heap) size parts.chunks some (omega (arith, room, all));
              named = own.named;
              holds = subst (HoldsData image parts)
                  (ap Some (sym (resized_same (take was b) size (front ∙ all)) ∙ same_bytes image space.heap parts b own) ∙ sym (wanted image space.heap parts b own)) cut.holds;
              changes = same_changes (sized_ranges parts space.heap space.heap) image;
              order = is.order;
              threads = threads;
              end = λ points. points;
              fillers = λ held. held;
            }

    pub fewer_become : (held : Option (List ℕ)) → IfSome held (IsThreaded space) → Both (BecomeBy limit (reshaped h shape) h (place_in h) space.heap space) held held
    fewer_become None threads = tt
    fewer_become (Some image) threads = fewer image threads

  module _ (now : DataPlace) (before : Heap) (later : FreeSpace) (is : IsHeap later.heap) where
    become : (old new : List ℕ) → ResizesData limit was size (place_in h) now before later old new → ((parts : NodeParts) → AreNamed (place_in h) parts old → ChangesOnly (sized_ranges parts before later.heap) old new)
        → BecomeBy limit (reshaped h shape) h now before later old new
    become old new r changes parts bytes own = by_bytes bytes own (some_bytes h parts bytes before old own (stays_some h shape stay))
      where
        by_bytes : (bytes : Option (List ℕ)) → OwnsData h parts bytes before old → (b : List ℕ) × (bytes ≡ Some b) → Becomes limit (reshaped h shape bytes) parts now before later old new
        by_bytes None own some = cc
        by_bytes (Some b) own some =
            let d = r parts (Some (take was b)) (cut_own old before parts b own) in record {
              after = d.0;
              placed = placed_so old before parts b own before ∙ d.1.placed;
              named = d.1.named;
              holds = subst (HoldsData new d.0) (ap Some (same_bytes old before parts b own) ∙ sym (wanted old before parts b own)) d.1.holds;
              changes = changes parts (own_named h parts (Some b) before old own);
              order = is.order;
              threads = d.1.threads;
              end = d.1.end;
              fillers = d.1.fillers;
            }

    pub resized_become : (old new : Option (List ℕ)) → Both (ResizesData limit was size (place_in h) now before later) old new
        → ((parts : NodeParts) → Named (place_in h) parts old → Both (ChangesOnly (sized_ranges parts before later.heap)) old new) → Both (BecomeBy limit (reshaped h shape) h now before later) old new
    resized_become None None done changes = tt
    resized_become None (Some new) done changes = absurd done
    resized_become (Some old) None done changes = absurd done
    resized_become (Some old) (Some new) done changes = become old new done changes

-- the limit leaves no room for so many bytes
pub lacks_size : (limit : ℕ) (h : NodeHeader) (shape : Shape) (heap : Heap) (size asked end : ℕ) → keeps h shape ≡ true → size ≡ size_of_shape shape → limit * 4096 < heap.end + 1 + chunk_length_for size + room_of_table h.chunks → LacksSize limit h shape heap asked end
lacks_size limit h shape heap size asked end stay size_is lt = record { stay = stay; none = subst (λ n. limit * 4096 < heap.end + 1 + chunk_length_for n + room_of_table h.chunks) size_is lt }

-- a refusal of a call that takes, with what it says of the limit
pub roomless : (Lacks : ℕ → ℕ → Type 0) (P Q : Type 0) {T : Type 0} (r : Result T AdfError) (before now : ℕ) (e : AdfError) → r ≡ Err e → (P → Q) → ((asked end : ℕ) → r ≡ Err (error.Full asked end) → Lacks asked end) → IsTakeRefusal P before now e → IsRoomless Lacks Q before now e
roomless Lacks P Q r before now error.Memory is to full c = tt
roomless Lacks P Q r before now error.ReadFault is to full c = c
roomless Lacks P Q r before now (error.Layout rule at) is to full c = (c.0, to c.1)
roomless Lacks P Q r before now (error.Full asked end) is to full c = full asked end is
roomless Lacks P Q r before now other is to full c = absurd c

-- a refusal that says nothing of room
pub asks_no_room : {T : Type 0} (Lacks : ℕ → ℕ → Type 0) (P : Type 0) (r : Result T AdfError) (before now : ℕ) → IfErr r (IsRefusal P before now) → IfErr r (IsRoomless Lacks P before now)
asks_no_room Lacks P (Ok x) before now c = tt
asks_no_room Lacks P (Err error.Memory) before now c = c
asks_no_room Lacks P (Err error.ReadFault) before now c = c
asks_no_room Lacks P (Err (error.Layout rule at)) before now c = c
asks_no_room Lacks P (Err (error.Full asked end)) before now c = absurd c
asks_no_room Lacks P (Err other) before now c = absurd c

pub never_full : {T : Type 0} (P : Type 0) (r : Result T AdfError) (before now : ℕ) → IfErr r (IsRefusal P before now) → (asked end : ℕ) → r ≡ Err (error.Full asked end) → ⊥
never_full P r before now c asked end is = subst (λ x. IfErr x (IsRefusal P before now)) is c

-- ---- no data any more

pub released_none : (h : NodeHeader) (held : Option (List ℕ)) (heap : Heap) → ((parts : NodeParts) → Named (place_in h) parts held → MayGiveAll (data_extents parts) heap → ⊥) → NoneOwned h heap held
released_none h None heap none parts bytes own = absurd own
released_none h (Some image) heap none parts bytes own = none parts (own_named h parts bytes heap image own) own.apart

module _ (limit : ℕ) (h : NodeHeader) (shape : Shape) (gone : keeps h shape ≡ false) where
  nothing : (bytes : Option (List ℕ)) → reshaped h shape bytes ≡ None
  nothing bytes = ap (λ t. if t then option_map (λ b. resized b (size_of_shape shape)) bytes else None) gone

  module _ (now : DataPlace) (now_is : now ≡ record { count = 0; pointer = DiskPtr.Blank }) (before : Heap) (later : FreeSpace) (is : IsHeap later.heap) where
    become_none : (old new : List ℕ) → ((parts : NodeParts) → AreNamed (place_in h) parts old → later.heap ≡ give_all (data_extents parts) before)
        → ((parts : NodeParts) → AreNamed (place_in h) parts old → ChangesOnly (heap_fields ++ data_extents parts ++ before.gaps) old new)
        → IsThreaded later new → MovesEnd before.end later.heap.end old new → KeepsFillers before.gaps later.heap.gaps old new → BecomeBy limit (reshaped h shape) h now before later old new
    become_none old new gives changes threads end fillers parts bytes own = subst (λ wanted. Becomes limit wanted parts now before later old new) (sym (nothing bytes)) (record {
      after = record parts { chunks = []; chunk_table = None };
      placed = ap (λ (x : Heap). Ok (record parts { chunks = []; chunk_table = None }, x)) (sym (gives parts (own_named h parts bytes before old own)));
      named = record { count = ap (λ (d : DataPlace). d.count) now_is; pointer = ap (λ (d : DataPlace). view d.pointer) now_is };
      holds = record { chunk_table = omega arith; chunks = tt; begins = refl };
      changes = more_changes (heap_fields ++ data_extents parts ++ before.gaps) (sized_ranges parts before later.heap) old new (λ b none.
          let x = cover-append heap_fields (data_extents parts ++ grown_range before later.heap ∷ before.gaps) b in
          let y = cover-append (data_extents parts) (grown_range before later.heap ∷ before.gaps) b in
          let z = cover-append (heap_fields ++ data_extents parts) before.gaps b in
          let w = cover-append heap_fields (data_extents parts) b in
          let v = cover-append heap_fields (data_extents parts ++ before.gaps) b in
          let u = cover-append (data_extents parts) before.gaps b in
          omega (arith, x, y, z, w, v, u, none)) (changes parts (own_named h parts bytes before old own));
      order = is.order;
      threads = threads;
      end = end;
      fillers = fillers;
    })

    pub released_become : (old new : Option (List ℕ)) → ((parts : NodeParts) → Named (place_in h) parts old → later.heap ≡ give_all (data_extents parts) before)
        → ((parts : NodeParts) → Named (place_in h) parts old → Both (ChangesOnly (heap_fields ++ data_extents parts ++ before.gaps)) old new)
        → IfSome new (IsThreaded later) → Both (MovesEnd before.end later.heap.end) old new → Both (KeepsFillers before.gaps later.heap.gaps) old new → Both (BecomeBy limit (reshaped h shape) h now before later) old new
    released_become None None gives changes threads end fillers = tt
    released_become None (Some new) gives changes threads end fillers = absurd end
    released_become (Some old) None gives changes threads end fillers = absurd end
    released_become (Some old) (Some new) gives changes threads end fillers = become_none old new gives changes threads end fillers
