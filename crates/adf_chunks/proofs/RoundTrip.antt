-- Reading and writing undo each other.
use Rattle.std.proofs.Common.{◌≡◌, ℕ, ◌+◌, List, [], ◌++◌, ◌≤◌, length, take, drop, map, refl, sym, ◌∙◌, ap, arith, Bool, true, false, append-nil, append_assoc, length-drop}
use Rattle.std.specs.Prelude.{Option, Some, None, IfSome, option_map, if◌then◌else◌}
use Rattle.std.specs.Option.{option_zip}
use Rattle.std.proofs.lemmas.List.{take_at, drop_at, drop-drop, length-take-le}
use Rattle.adf_format.specs.Fields.{field, holds}
use Rattle.adf_format.specs.Pointer.{Pointer, pointer, pointer_text}
use Rattle.adf_format.specs.Records.{start_tag, head_text, free_head_text, entry_text, chunk_entry_text}
use Rattle.adf_format.specs.Records as format
use Rattle.adf_format.proofs.RowLaws.{holds_tells}
use Rattle.disk_ptr.specs.declared.DiskPtr.{DiskPtr}
use Rattle.disk_ptr.specs.declared.DiskPtr.TheVariants.{At}
use Rattle.disk_ptr.specs.View.{view, HasOffset, IsWritable}
use Rattle.disk_ptr.proofs.Spelling.{spelled_again, known_by_place}
use Rattle.adf_chunks.specs.declared.Part.{Part}
use Rattle.adf_chunks.specs.declared.Part.TheVariants.{SubNodes, Data, Chunks, Free}
use Rattle.adf_chunks.specs.declared.FreeHead.{FreeHead}
use Rattle.adf_chunks.specs.declared.NodeEntry.{NodeEntry}
use Rattle.adf_chunks.specs.declared.ChunkEntry.{ChunkEntry}
use Rattle.adf_format.specs.Case.{upper}
use Rattle.adf_chunks.specs.View.{part_of, free_view, HasFreeOffsets, entry_view, chunk_view, HasChunkOffsets, head_said, entry_said}
use Rattle.adf_chunks.specs.Laws.{HeadIsReadAgain, FreeHeadIsReadAgain, EntryIsReadAgain, ChunkEntryIsReadAgain, HeadIsWrittenAgain, FreeHeadIsWrittenAgain, EntryIsWrittenAgain, ChunkEntryIsWrittenAgain}
use Rattle.adf_format.proofs.CaseLaws.{some_same, pointer_upper}

-- ---- texts

pub take-pointer_text : (p : DiskPtr) (t : List ℕ) → take 12 (pointer_text (view p) ++ t) ≡ pointer_text (view p)
take-pointer_text DiskPtr.Blank t = refl
take-pointer_text (At block offset) t = refl

pub drop-pointer_text : (p : DiskPtr) (t : List ℕ) → drop 12 (pointer_text (view p) ++ t) ≡ t
drop-pointer_text DiskPtr.Blank t = refl
drop-pointer_text (At block offset) t = refl

pub take-pointer_text_alone : (p : DiskPtr) → take 12 (pointer_text (view p)) ≡ pointer_text (view p)
take-pointer_text_alone DiskPtr.Blank = refl
take-pointer_text_alone (At block offset) = refl

-- a pointer's text is read again
again : (p : DiskPtr) (text : List ℕ) → IsWritable p → text ≡ pointer_text (view p) → pointer text ≡ Some (view p)
again p text w e = ap pointer e ∙ spelled_again p w

offset_of : (p : DiskPtr) → IsWritable p → HasOffset p
offset_of DiskPtr.Blank w = tt
offset_of (At block offset) w = w.1

known : (q p : DiskPtr) → IsWritable p → HasOffset q → view q ≡ view p → q ≡ p
known q p w h e = known_by_place q p h (offset_of p w) e

both_some : (a b : Option Pointer) (x y : Pointer) → a ≡ Some x → b ≡ Some y → option_zip a b ≡ Some (x, y)
both_some a b x y e f = ap (λ o. option_zip o b) e ∙ ap (λ o. option_zip (Some x) o) f

both_tell : (a b : Option Pointer) (x y : Pointer) → option_zip a b ≡ Some (x, y) → (a ≡ Some x) × (b ≡ Some y)
both_tell None b x y e = cc
both_tell (Some u) None x y e = cc
both_tell (Some u) (Some v) x y e =
    let pair : ◌≡◌ {A = Pointer × Pointer} (u, v) (x, y) = some_same (u, v) (x, y) e in
    (ap (λ (q : Pointer × Pointer). Some q.0) pair, ap (λ (q : Pointer × Pointer). Some q.1) pair)

-- ---- what is written is read again

head_again : (part : Part) (p : DiskPtr) → IsWritable p → head_said (part_of part) (head_text (part_of part) (view p)) ≡ Some (view p)
head_again SubNodes p w = again p (take 12 (pointer_text (view p))) w (take-pointer_text_alone p)
head_again Data p w = again p (take 12 (pointer_text (view p))) w (take-pointer_text_alone p)
head_again Chunks p w = again p (take 12 (pointer_text (view p))) w (take-pointer_text_alone p)
head_again Free p w = again p (take 12 (pointer_text (view p))) w (take-pointer_text_alone p)

pub head_read : HeadIsReadAgain
head_read part p read w e h = by_answer read (e ∙ head_again part p w) h
  where
    by_answer : (read : Option DiskPtr) → option_map view read ≡ Some (view p) → IfSome read HasOffset → read ≡ Some p
    by_answer None e h = cc
    by_answer (Some q) e h = ap (λ r. Some r) (known q p w h (some_same (view q) (view p) e))

-- two pointers in a row
two_again : (p q : DiskPtr) → IsWritable p → IsWritable q
    → option_zip (pointer (take 12 (pointer_text (view p) ++ pointer_text (view q)))) (pointer (take 12 (drop 12 (pointer_text (view p) ++ pointer_text (view q))))) ≡ Some (view p, view q)
two_again p q w v = both_some _ _ (view p) (view q) (again p _ w (take-pointer_text p (pointer_text (view q))))
    (again q _ v (ap (take 12) (drop-pointer_text p (pointer_text (view q))) ∙ take-pointer_text_alone q))

same_head : (a b : FreeHead) → a.end_tag ≡ b.end_tag → a.next ≡ b.next → a ≡ b
same_head a b e f =
    let tagged : (x : DiskPtr) → FreeHead = λ x. record { end_tag = x; next = a.next } in
    let led : (x : DiskPtr) → FreeHead = λ x. record { end_tag = b.end_tag; next = x } in
    ap tagged e ∙ ap led f

pub free_head_read : FreeHeadIsReadAgain
free_head_read h read w v e k = by_answer read (e ∙ two_again h.end_tag h.next w v) k
  where
    by_answer : (read : Option FreeHead) → option_map free_view read ≡ Some (view h.end_tag, view h.next) → IfSome read HasFreeOffsets → read ≡ Some h
    by_answer None e k = cc
    by_answer (Some r) e k =
        let parts = both_tell (Some (view r.end_tag)) (Some (view r.next)) (view h.end_tag) (view h.next) e in
        ap (λ x. Some x) (same_head r h (known r.end_tag h.end_tag w k.0 (some_same _ _ parts.0)) (known r.next h.next v k.1 (some_same _ _ parts.1)))

entry_again : (e : NodeEntry) → length e.name ≡ 32 → IsWritable e.child → entry_said (entry_text e.name (view e.child)) ≡ Some (entry_view e)
entry_again e long w =
    let text : List ℕ = pointer_text (view e.child) in
    ap (λ o. option_map (λ p. (take 32 (e.name ++ text), p)) o) (again e.child (take 12 (drop 32 (e.name ++ text))) w (ap (take 12) (drop_at e.name text 32 long) ∙ take-pointer_text_alone e.child))
    ∙ ap (λ n. Some (n, view e.child)) (take_at e.name text 32 long)

same_entry : (a b : NodeEntry) → a.name ≡ b.name → a.child ≡ b.child → a ≡ b
same_entry a b e f =
    let named : (x : List ℕ) → NodeEntry = λ x. record { name = x; child = a.child } in
    let led : (x : DiskPtr) → NodeEntry = λ x. record { name = b.name; child = x } in
    ap named e ∙ ap led f

pub entry_read : EntryIsReadAgain
entry_read e read long w f k = by_answer read (f ∙ entry_again e long w) k
  where
    by_answer : (read : Option NodeEntry) → option_map entry_view read ≡ Some (entry_view e) → IfSome read (λ r. HasOffset r.child) → read ≡ Some e
    by_answer None f k = cc
    by_answer (Some r) f k =
        let pair : entry_view r ≡ entry_view e = some_same (entry_view r) (entry_view e) f in
        ap (λ x. Some x) (same_entry r e (ap (λ (q : List ℕ × Pointer). q.0) pair) (known r.child e.child w k (ap (λ (q : List ℕ × Pointer). q.1) pair)))

same_chunk : (a b : ChunkEntry) → a.start ≡ b.start → a.end_tag ≡ b.end_tag → a ≡ b
same_chunk a b e f =
    let begun : (x : DiskPtr) → ChunkEntry = λ x. record { start = x; end_tag = a.end_tag } in
    let ended : (x : DiskPtr) → ChunkEntry = λ x. record { start = b.start; end_tag = x } in
    ap begun e ∙ ap ended f

pub chunk_entry_read : ChunkEntryIsReadAgain
chunk_entry_read e read w v f k = by_answer read (f ∙ two_again e.start e.end_tag w v) k
  where
    by_answer : (read : Option ChunkEntry) → option_map chunk_view read ≡ Some (view e.start, view e.end_tag) → IfSome read HasChunkOffsets → read ≡ Some e
    by_answer None f k = cc
    by_answer (Some r) f k =
        let parts = both_tell (Some (view r.start)) (Some (view r.end_tag)) (view e.start) (view e.end_tag) f in
        ap (λ x. Some x) (same_chunk r e (known r.start e.start w k.0 (some_same _ _ parts.0)) (known r.end_tag e.end_tag v k.1 (some_same _ _ parts.1)))

-- ---- what is read is written again

pub field_long : (bytes : List ℕ) (offset n : ℕ) → offset + n ≤ length bytes → length (field bytes offset n) ≡ n
field_long bytes offset n h = length-take-le n (drop offset bytes) (omega (arith, h, length-drop offset bytes))

tag_of : (part : format.Part) (bytes : List ℕ) → holds bytes 0 (start_tag part) ≡ true → take 4 bytes ≡ start_tag part
tag_of format.SubNodes bytes h = holds_tells bytes 0 (start_tag format.SubNodes) h
tag_of format.Data bytes h = holds_tells bytes 0 (start_tag format.Data) h
tag_of format.Chunks bytes h = holds_tells bytes 0 (start_tag format.Chunks) h
tag_of format.Free bytes h = holds_tells bytes 0 (start_tag format.Free) h

behind_tag : {A : Type 0} (t : Bool) (o : Option A) (x : A) → (if t then o else None) ≡ Some x → (t ≡ true) × (o ≡ Some x)
behind_tag true o x e = (refl, e)
behind_tag false o x e = cc

head_spelled : (part : Part) (bytes : List ℕ) (p : DiskPtr) → length bytes ≡ 16 → head_said (part_of part) bytes ≡ Some (view p)
    → head_text (part_of part) (view p) ≡ take 4 bytes ++ (map upper (field bytes 4 12) ++ [])
head_spelled part bytes p long e =
    let said = behind_tag (holds bytes 0 (start_tag (part_of part))) (pointer (field bytes 4 12)) (view p) e in
    ap (λ t. t ++ pointer_text (view p)) (sym (tag_of (part_of part) bytes said.0))
    ∙ ap (λ t. take 4 bytes ++ t) (pointer_upper (field bytes 4 12) (view p) (field_long bytes 4 12 (omega (arith, long))) said.1 ∙ sym (append-nil (map upper (field bytes 4 12))))

pub head_written : HeadIsWrittenAgain
head_written SubNodes bytes p long e = head_spelled SubNodes bytes p long e
head_written Data bytes p long e = head_spelled Data bytes p long e
head_written Chunks bytes p long e = head_spelled Chunks bytes p long e
head_written Free bytes p long e = head_spelled Free bytes p long e

-- two pointers in a row, from an offset on
two_upper : (bytes : List ℕ) (offset : ℕ) (p q : Pointer) → offset + 24 ≤ length bytes → pointer (field bytes offset 12) ≡ Some p → pointer (field bytes (offset + 12) 12) ≡ Some q
    → pointer_text p ++ pointer_text q ≡ map upper (take 12 (drop offset bytes)) ++ (map upper (take 12 (drop 12 (drop offset bytes))) ++ [])
two_upper bytes offset p q long e f =
    let behind : field bytes (offset + 12) 12 ≡ take 12 (drop 12 (drop offset bytes)) = ap (take 12) (sym (drop-drop 12 offset bytes)) in
    ap (λ t. t ++ pointer_text q) (pointer_upper (field bytes offset 12) p (field_long bytes offset 12 (omega (arith, long))) e)
    ∙ ap (λ t. map upper (field bytes offset 12) ++ t) (pointer_upper (field bytes (offset + 12) 12) q (field_long bytes (offset + 12) 12 (omega (arith, long))) f ∙ ap (map upper) behind ∙ sym (append-nil (map upper (take 12 (drop 12 (drop offset bytes))))))

pub free_head_written : FreeHeadIsWrittenAgain
free_head_written bytes h long e =
    let said = behind_tag (holds bytes 0 (start_tag format.Free)) (option_zip (pointer (field bytes 4 12)) (pointer (field bytes 16 12))) (view h.end_tag, view h.next) e in
    let parts = both_tell (pointer (field bytes 4 12)) (pointer (field bytes 16 12)) (view h.end_tag) (view h.next) said.1 in
    append_assoc (start_tag format.Free) (pointer_text (view h.end_tag)) (pointer_text (view h.next))
    ∙ ap (λ t. t ++ (pointer_text (view h.end_tag) ++ pointer_text (view h.next))) (sym (tag_of format.Free bytes said.0))
    ∙ ap (λ t. take 4 bytes ++ t) (two_upper bytes 4 (view h.end_tag) (view h.next) (omega (arith, long)) parts.0 parts.1)

entry_tells : (o : Option Pointer) (name n : List ℕ) (p : Pointer) → option_map {U = List ℕ × Pointer} (λ q. (name, q)) o ≡ Some (n, p) → (n ≡ name) × (o ≡ Some p)
entry_tells None name n p e = cc
entry_tells (Some q) name n p e =
    let pair : ◌≡◌ {A = List ℕ × Pointer} (name, q) (n, p) = some_same (name, q) (n, p) e in
    (sym (ap (λ (x : List ℕ × Pointer). x.0) pair), ap (λ (x : List ℕ × Pointer). Some x.1) pair)

pub entry_written : EntryIsWrittenAgain
entry_written bytes e long f =
    let said = entry_tells (pointer (field bytes 32 12)) (take 32 bytes) e.name (view e.child) f in
    ap (λ t. t ++ pointer_text (view e.child)) said.0
    ∙ ap (λ t. take 32 bytes ++ t) (pointer_upper (field bytes 32 12) (view e.child) (field_long bytes 32 12 (omega (arith, long))) said.1 ∙ sym (append-nil (map upper (field bytes 32 12))))

pub chunk_entry_written : ChunkEntryIsWrittenAgain
chunk_entry_written bytes e long f =
    let parts = both_tell (pointer (field bytes 0 12)) (pointer (field bytes 12 12)) (view e.start) (view e.end_tag) f in
    two_upper bytes 0 (view e.start) (view e.end_tag) (omega (arith, long)) parts.0 parts.1
