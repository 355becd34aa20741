-- What may change of the bytes in calls one after another, and which blocks wait after them.
use Rattle.std.proofs.Common.{append_assoc, ◌≡◌, ℕ, refl, ◌∙◌, ap, arith, List, [], ◌∷◌, ◌++◌, filter, ◌+◌, ◌<◌, ◌≤◌, false}
use Rattle.std.proofs.lemmas.Bool.Decides.{nat_tests}
use Rattle.std.specs.Prelude.{Option, Some, None}
use Rattle.cg_io.specs.Blocks.{Both}
use Rattle.adf_format.specs.declared.fields.TheConstants.{FREE_TABLE_PLACE}
use Rattle.adf_format.specs.RecordFields.{list_first}
use Rattle.adf_format.specs.declared.types.Extent.{Extent}
use Rattle.adf_format.specs.Tiles.{cover, holds_byte, end_of, is_free}
use Rattle.adf_format.specs.LaysOut.{ThreadsFreeChunks, last_place}
use Rattle.adf_format.proofs.ReachedLaws.{still_changes, more_changes, later_changes}
use Rattle.adf_format.proofs.HeapLaws.{in_range}
use Rattle.adf_format.proofs.CountLaws.{none_holds}
use Rattle.field_access.specs.Fields.{WaitsWithin}
use Rattle.field_access.proofs.WaitLaws.{within_none, within_cons, waits_then, waits_wider}
use Rattle.file_heap.specs.Heap.{ChangesOnly}
use Rattle.file_heap.specs.Links.{AreApart, IsBehind, EndsList, link_at, link_range, list_of, lists_of, range, free_table}
use Rattle.file_heap.proofs.Ranges.{flat, cover_in, cover_without, same_cover}
use Rattle.file_heap.proofs.ListLaws.{EndsWith, ends_with, list_is, same_ranges, chunk_stands}

-- what lies in none of the one ranges lies in none of the others
abbrev pub IsWithin : List Extent → List Extent → Type 0
IsWithin xs ys = (b : ℕ) → cover ys b ≡ 0 → cover xs b ≡ 0

pub widened : (xs ys : List Extent) (old new : Option (List ℕ)) → IsWithin xs ys → Both (ChangesOnly xs) old new → Both (ChangesOnly ys) old new
widened xs ys None None within c = tt
widened xs ys None (Some new) within c = c
widened xs ys (Some old) None within c = c
widened xs ys (Some old) (Some new) within c = more_changes xs ys old new within c

pub changes_none : (xs : List Extent) (image : Option (List ℕ)) → Both (ChangesOnly xs) image image
changes_none xs None = tt
changes_none xs (Some bytes) = still_changes xs bytes

pub changes_then : (xs : List Extent) (a b c : Option (List ℕ)) → Both (ChangesOnly xs) a b → Both (ChangesOnly xs) b c → Both (ChangesOnly xs) a c
changes_then xs None None None v w = tt
changes_then xs None None (Some c) v w = w
changes_then xs None (Some b) c v w = absurd v
changes_then xs (Some a) None c v w = absurd v
changes_then xs (Some a) (Some b) None v w = w
changes_then xs (Some a) (Some b) (Some c) v w = later_changes xs a b c v w

-- ---- ranges in ranges

out_of : (p n q m b : ℕ) → q ≤ p → p + n ≤ q + m → holds_byte (range q m) b ≡ false → holds_byte (range p n) b ≡ false
out_of p n q m b low high none = grind (arith, nat_tests)

pub one_within : (p n : ℕ) (e : Extent) (xs : List Extent) → e.place ≤ p → p + n ≤ end_of e → IsWithin (range p n ∷ []) (e ∷ xs)
one_within p n e xs low high b none = let out : holds_byte (range p n) b ≡ false = out_of p n e.place e.length b low high (none_holds e xs b none).0 in rw out

behind_within : (e : Extent) (xs ys : List Extent) → IsWithin xs ys → IsWithin xs (e ∷ ys)
behind_within e xs ys within b none = within b (none_holds e ys b none).1

link_within : (k : ℕ) (front : Option ℕ) → k < 3 → IsWithin (range (link_at k front) 12 ∷ []) (free_table ∷ link_range front)
link_within k None few = one_within (list_first FREE_TABLE_PLACE k).offset 12 free_table [] (omega arith) (omega (arith, few))
link_within k (Some front) few = behind_within free_table (range (front + 16) 12 ∷ []) (link_range (Some front)) (λ b none. none)

pub link_changed : (k : ℕ) (front : Option ℕ) (old new : Option (List ℕ)) → k < 3 → Both (ChangesOnly (range (link_at k front) 12 ∷ [])) old new → Both (ChangesOnly (free_table ∷ link_range front)) old new
link_changed k front old new few c = widened (range (link_at k front) 12 ∷ []) (free_table ∷ link_range front) old new (link_within k front few) c

last_within : (k at : ℕ) → k < 3 → at ≡ link_at k None → IsWithin (range (at + 12) 12 ∷ []) (free_table ∷ [])
last_within k at few e = let here : at ≡ (list_first FREE_TABLE_PLACE k).offset = e in one_within (at + 12) 12 free_table [] (omega (arith, here)) (omega (arith, few, here))

pub last_changed : (k at : ℕ) (old new : Option (List ℕ)) → k < 3 → at ≡ link_at k None → Both (ChangesOnly (range (at + 12) 12 ∷ [])) old new → Both (ChangesOnly (free_table ∷ [])) old new
last_changed k at old new few e c = widened (range (at + 12) 12 ∷ []) (free_table ∷ []) old new (last_within k at few e) c

table_within : (xs : List Extent) → IsWithin (free_table ∷ []) (free_table ∷ xs)
table_within xs = within_cons free_table [] xs (within_none xs)

pub table_then : (xs : List Extent) (a b c : Option (List ℕ)) → Both (ChangesOnly (free_table ∷ xs)) a b → Both (ChangesOnly (free_table ∷ [])) b c → Both (ChangesOnly (free_table ∷ xs)) a c
table_then xs a b c v w = changes_then (free_table ∷ xs) a b c v (widened (free_table ∷ []) (free_table ∷ xs) b c (table_within xs) w)

pub ends_same : (k next : ℕ) (last : Option ℕ) (image : Option (List ℕ)) → Both (EndsList k (Some next) last) image image
ends_same k next last None = tt
ends_same k next last (Some bytes) = refl

-- ---- blocks that wait

pub link_waits : (k : ℕ) (front : Option ℕ) (old new : List ℕ) → k < 3 → WaitsWithin (range (link_at k front) 12 ∷ []) old new → WaitsWithin (free_table ∷ link_range front) old new
link_waits k front old new few w = waits_wider (range (link_at k front) 12 ∷ []) (free_table ∷ link_range front) old new (link_within k front few) w

pub last_waits : (k at : ℕ) (old new : List ℕ) → k < 3 → at ≡ link_at k None → WaitsWithin (range (at + 12) 12 ∷ []) old new → WaitsWithin (free_table ∷ []) old new
last_waits k at old new few e w = waits_wider (range (at + 12) 12 ∷ []) (free_table ∷ []) old new (last_within k at few e) w

pub table_waits : (xs : List Extent) (a b c : List ℕ) → WaitsWithin (free_table ∷ xs) a b → WaitsWithin (free_table ∷ []) b c → WaitsWithin (free_table ∷ xs) a c
table_waits xs a b c v w = waits_then (free_table ∷ xs) a b c v (waits_wider (free_table ∷ []) (free_table ∷ xs) b c (table_within xs) w)

-- ---- the pointer behind a chunk is one of a free chunk's bytes

pub spot_within : (bytes : List ℕ) (gaps : List Extent) (t : ThreadsFreeChunks bytes gaps) (place k : ℕ) (front : Option ℕ) → AreApart gaps → k < 3 → IsBehind (list_of t k) place front → IsWithin (free_table ∷ link_range front) (free_table ∷ filter is_free gaps)
spot_within bytes gaps t place k front apart few at b none = by_front front at.follows
  where
    table : holds_byte free_table b ≡ false
    table = (none_holds free_table (filter is_free gaps) b none).0

    by_front : (front : Option ℕ) → front ≡ last_place at.before → cover (free_table ∷ link_range front) b ≡ 0
    by_front None e = rw table
    by_front (Some f) e = rw (table, out)
      where
        w : EndsWith at.before f
        w = ends_with at.before f e

        whole : list_of t k ≡ w.before ++ w.chunk ∷ at.chunk ∷ at.after
        whole = at.is ∙ ap (λ xs. xs ++ at.chunk ∷ at.after) w.is ∙ append_assoc w.before (w.chunk ∷ []) (at.chunk ∷ at.after)

        long : 32 ≤ w.chunk.length
        long = (chunk_stands bytes gaps t apart k w.before w.chunk (at.chunk ∷ at.after) few whole).2

        none_held : (v : ℕ) → v ≡ in_range w.chunk.place w.chunk.length b → v ≡ 0
        none_held v h =
            let c : cover (list_of t k) b ≡ in_range w.chunk.place w.chunk.length b + cover (w.before ++ at.chunk ∷ at.after) b = ap (λ xs. cover xs b) whole ∙ cover_without b w.before w.chunk (at.chunk ∷ at.after) in
            let l = cover_in b (lists_of t) k (list_of t k) (list_is bytes gaps t k few) in
            let s = same_cover (flat (lists_of t)) (filter is_free gaps) (same_ranges bytes gaps t) b in
            let z : cover (filter is_free gaps) b ≡ 0 = (none_holds free_table (filter is_free gaps) b none).1 in
            omega (arith, h, c, l, s, z)

        off : holds_byte w.chunk b ≡ false
        off = let z : in_range w.chunk.place w.chunk.length b ≡ 0 = none_held (in_range w.chunk.place w.chunk.length b) refl in (none_holds w.chunk [] b (omega (arith, z))).0

        out : holds_byte (range (f + 16) 12) b ≡ false
        out = out_of (f + 16) 12 w.chunk.place w.chunk.length b (let h = w.here in omega (arith, h)) (let h = w.here in omega (arith, h, long)) off
