-- What is read of the chunks that a place names.
use Rattle.std.proofs.Common.{◌≡◌, ℕ, zero, suc, ◌+◌, ◌-◌, ◌*◌, ◌<◌, ◌≤◌, ◌^◌, arith, List, [], ◌∷◌, ◌++◌, length, take, drop, replicate, refl, sym, ◌∙◌, ap, subst}
use Rattle.std.proofs.lemmas.List.{append-nil, length-take, length-drop}
use Rattle.std.proofs.lemmas.Option.{slice_get-get_or}
use Rattle.std.specs.Prelude.{Option, Some, None, codes, option_map}
use Rattle.std.specs.List.{AllByRecursion}
use Rattle.cg_io.specs.Device.{bytes_at, GivesAt}
use Rattle.adf_format.specs.Fields.{field}
use Rattle.adf_format.specs.Pointer.{Pointer, To, Blank, pointer, PointsTo, place_value}
use Rattle.adf_format.specs.Parts.{IsFramed, SpellsChunk, SpellsChunkEntry, chunk_table_length}
use Rattle.adf_format.specs.Placement.{NodeParts, ChunkPart}
use Rattle.adf_format.specs.LaysOut.{HasChunkTable, chunk_pointer}
use Rattle.adf_format.specs.HeapRule.{chunk}
use Rattle.adf_format.specs.Spelled.{pointer_to}
use Rattle.adf_format.proofs.FieldLaws.{inner_field, length-field}
use Rattle.disk_ptr.specs.View.{view, place_of}
use Rattle.disk_ptr.specs.declared.DiskPtr.{DiskPtr}
use Rattle.disk_ptr.specs.declared.DiskPtr.TheVariants.{At}
use Rattle.adf_format.specs.Pointer as spelled
use Rattle.adf_model.proofs.Walks.WalkCounts.{place_small}
use Rattle.adf_data.specs.declared.place.DataPlace.{DataPlace}
use Rattle.adf_data.specs.declared.chunks.Chunk.{Chunk}
use Rattle.adf_data.specs.Chunks.{part_of, part_at, SaysChunk, HeadSaysChunk, AreNamed, Named, NoneNamed}

-- ---- bytes that were read

pub bytes_are_field : (bytes : List ℕ) (at n : ℕ) → at + n ≤ length bytes → bytes_at bytes at n ≡ field bytes at n
unfolding bytes_at
bytes_are_field bytes at n le =
    let none : n - length (take n (drop at bytes)) ≡ 0 = omega (arith, le, length-take n (drop at bytes), length-drop at bytes) in
    ap (λ k. take n (drop at bytes) ++ replicate k 0) none ∙ append-nil (take n (drop at bytes))

-- a part whose end tag stands lies within the bytes
pub framed_within : (bytes opening closing : List ℕ) (place n : ℕ) → 20 ≤ n → length closing ≡ 4 → IsFramed (field bytes place n) place n opening closing → place + n ≤ length bytes
framed_within bytes opening closing place n long four f =
    let tag : length (field (field bytes place n) (n - 4) 4) ≡ 4 = ap length f.end_tag ∙ four in
    let inner = length-field (field bytes place n) (n - 4) 4 in
    let outer = length-field bytes place n in
    omega (arith, tag, inner, outer, long)

part_of_field : (bytes text : List ℕ) (at n k m : ℕ) → at + n ≤ length bytes → text ≡ bytes_at bytes at (length text) → length text ≡ n → k + m ≤ n → field text k m ≡ field bytes (at + k) m
part_of_field bytes text at n k m le is long within =
    let whole : text ≡ field bytes at n = is ∙ ap (bytes_at bytes at) long ∙ bytes_are_field bytes at n le in
    ap (λ t. field t k m) whole ∙ inner_field bytes at n k m within

-- ---- what the place names

same_place : (a b : ℕ) → To a ≡ To b → a ≡ b
same_place a b e = cc

-- with two chunks or more it names the table
pub table_is : (at : DataPlace) (parts : NodeParts) (bytes : List ℕ) (table : ℕ) → view at.pointer ≡ To table → 2 ≤ at.count → AreNamed at parts bytes → parts.chunk_table ≡ Some table
table_is at parts bytes table to several n = by_table parts.chunk_table refl n.chunk_table (sym n.pointer)
  where
    by_table : (t : Option ℕ) → parts.chunk_table ≡ t → HasChunkTable bytes parts.chunks t → pointer_to (chunk_pointer parts.chunks parts.chunk_table) ≡ view at.pointer → parts.chunk_table ≡ Some table
    by_table None e h p = let c = n.count in absurd (few h c)
      where
        few : length parts.chunks < 2 → at.count ≡ length parts.chunks → ⊥
        few h c = omega (arith, h, c, several)
    by_table (Some t) e h p =
        let q : To t ≡ To table = sym (ap (λ (o : Option ℕ). pointer_to (chunk_pointer parts.chunks o)) e) ∙ p ∙ to in
        e ∙ ap (λ x. Some x) (same_place t table q)

table_spelled : (at : DataPlace) (parts : NodeParts) (bytes : List ℕ) (table : ℕ) → view at.pointer ≡ To table → 2 ≤ at.count → AreNamed at parts bytes → HasChunkTable bytes parts.chunks (Some table)
table_spelled at parts bytes table to several n = subst (λ (o : Option ℕ). HasChunkTable bytes parts.chunks o) (table_is at parts bytes table to several n) n.chunk_table

table_within : (at : DataPlace) (parts : NodeParts) (bytes : List ℕ) (table : ℕ) → view at.pointer ≡ To table → 2 ≤ at.count → AreNamed at parts bytes → table + chunk_table_length (length parts.chunks) ≤ length bytes
table_within at parts bytes table to several n =
    framed_within bytes (codes "DCtb") (codes "dcTE") table (chunk_table_length (length parts.chunks)) (omega arith) refl (table_spelled at parts bytes table to several n).1

entry_in_table : (bytes : List ℕ) (table n i k : ℕ) → i < n → k + 12 ≤ 24 → field (field bytes table (chunk_table_length n)) (16 + 24 * i + k) 12 ≡ field bytes (table + 16 + 24 * i + k) 12
entry_in_table bytes table n i k lt le = inner_field bytes table (chunk_table_length n) (16 + 24 * i + k) 12 (omega (arith, lt, le)) ∙ ap (λ o. field bytes o 12) (there table i k)
  where
    there : (t i k : ℕ) → t + (16 + 24 * i + k) ≡ t + 16 + 24 * i + k
    there t i k = omega arith

said : (at : DataPlace) (parts : NodeParts) (bytes : List ℕ) (table i : ℕ) (text : List ℕ) → view at.pointer ≡ To table → 2 ≤ at.count → i < at.count → AreNamed at parts bytes
    → text ≡ bytes_at bytes (table + 16 + 24 * i) (length text) → length text ≡ 24 → SaysChunk text (part_at parts.chunks i)
said at parts bytes table i text to several inside n is long = (
  ap pointer (read 0 (omega arith) ∙ ap (λ o. field (field bytes table (chunk_table_length (length parts.chunks))) o 12) (plain i)) ∙ entry.start,
  ap pointer (read 12 (omega arith) ∙ ap (λ o. field (field bytes table (chunk_table_length (length parts.chunks))) o 12) (later i)) ∙ entry.end,
)
  where
    here : i < length parts.chunks
    here = let c = n.count in omega (arith, c, inside)

    within : table + chunk_table_length (length parts.chunks) ≤ length bytes
    within = table_within at parts bytes table to several n

    entry : SpellsChunkEntry (field bytes table (chunk_table_length (length parts.chunks))) i (part_at parts.chunks i).place (part_at parts.chunks i).length
    entry = (table_spelled at parts bytes table to several n).2 i (part_at parts.chunks i) (slice_get-get_or parts.chunks i (chunk 0 0) here)

    read : (k : ℕ) → k + 12 ≤ 24 → field text k 12 ≡ field (field bytes table (chunk_table_length (length parts.chunks))) (16 + 24 * i + k) 12
    read k le =
        part_of_field bytes text (table + 16 + 24 * i) 24 k 12 (let w : table + (20 + 24 * length parts.chunks) ≤ length bytes = within in omega (arith, w, here)) is long le
        ∙ sym (entry_in_table bytes table (length parts.chunks) i k here le)

    plain : (i : ℕ) → 16 + 24 * i + 0 ≡ 16 + 24 * i
    plain i = omega arith

    later : (i : ℕ) → 16 + 24 * i + 12 ≡ 28 + 24 * i
    later i = omega arith

pub entry_says : (at : DataPlace) (parts : NodeParts) (image : Option (List ℕ)) (table i : ℕ) (text : List ℕ) → view at.pointer ≡ To table → 2 ≤ at.count → i < at.count → Named at parts image
    → GivesAt image (table + 16 + 24 * i) text → length text ≡ 24 → SaysChunk text (part_at parts.chunks i)
entry_says at parts None table i text to several inside n is long = absurd n
entry_says at parts (Some bytes) table i text to several inside n is long = said at parts bytes table i text to several inside n is long

long_at : (bytes : List ℕ) (chunks : List ChunkPart) (i : ℕ) → i < length chunks → AllByRecursion (λ (c : ChunkPart). SpellsChunk (field bytes c.place c.length) c.place c.length) chunks → 21 ≤ (part_at chunks i).length
long_at bytes [] i lt all = absurd (omega (arith, lt))
long_at bytes (c ∷ cs) zero lt all = all.0.long
long_at bytes (c ∷ cs) (suc i) lt all = long_at bytes cs i (omega (arith, lt)) all.1

pub entry_long : (at : DataPlace) (parts : NodeParts) (image : Option (List ℕ)) (i : ℕ) → i < at.count → Named at parts image → 21 ≤ (part_at parts.chunks i).length
entry_long at parts None i inside n = absurd n
entry_long at parts (Some bytes) i inside n = let c = n.count in long_at bytes parts.chunks i (omega (arith, c, inside)) n.chunks

-- ---- refusals, and what is answered

pub view_of : (p : DiskPtr) (place : ℕ) → Some place ≡ place_of p → view p ≡ To place
view_of DiskPtr.Blank place e = cc
view_of (At block offset) place e = let f : place ≡ block * 4096 + offset = same place (block * 4096 + offset) e in sym (ap To f)
  where
    same : (a b : ℕ) → Some a ≡ Some b → a ≡ b
    same a b e = cc

blank_of : (p : DiskPtr) → None ≡ place_of p → view p ≡ Blank
blank_of DiskPtr.Blank e = refl
blank_of (At block offset) e = cc

near : (bytes : List ℕ) (place : ℕ) → PointsTo bytes place → place < 2 ^ 44
near bytes place p = let small = place_small bytes in let e : spelled.place_of bytes ≡ place = ap place_value p in subst (λ n. n < 2 ^ 44) e small

-- a blank pointer names no table
no_table : (at : DataPlace) (parts : NodeParts) (bytes : List ℕ) → view at.pointer ≡ Blank → 2 ≤ at.count → AreNamed at parts bytes → ⊥
no_table at parts bytes blank several n = by_table parts.chunk_table n.chunk_table (sym n.pointer ∙ blank)
  where
    by_table : (t : Option ℕ) → HasChunkTable bytes parts.chunks t → pointer_to (chunk_pointer parts.chunks t) ≡ Blank → ⊥
    by_table None h p = let c = n.count in let few : length parts.chunks < 2 = h in omega (arith, few, c, several)
    by_table (Some t) h p = cc

pub no_table_named : (at : DataPlace) (image : Option (List ℕ)) → None ≡ place_of at.pointer → 2 ≤ at.count → NoneNamed at image
no_table_named at None blank several parts n = n
no_table_named at (Some bytes) blank several parts n = no_table at parts bytes (blank_of at.pointer blank) several n

-- the table that the place names, if there are two chunks or more
pub table_named : (at : DataPlace) (parts : NodeParts) (image : Option (List ℕ)) → 2 ≤ at.count → Named at parts image → place_of at.pointer ≡ parts.chunk_table
table_named at parts None several n = absurd n
table_named at parts (Some bytes) several n = by_place (place_of at.pointer) refl
  where
    by_place : (o : Option ℕ) → place_of at.pointer ≡ o → place_of at.pointer ≡ parts.chunk_table
    by_place None e = absurd (no_table at parts bytes (blank_of at.pointer (sym e)) several n)
    by_place (Some t) e = e ∙ sym (table_is at parts bytes t (view_of at.pointer t (sym e)) several n)

pub untabled : (at : DataPlace) (parts : NodeParts) (image : Option (List ℕ)) → at.count < 2 → Named at parts image → None ≡ parts.chunk_table
untabled at parts None few n = absurd n
untabled at parts (Some bytes) few n = by_table parts.chunk_table n.chunk_table
  where
    by_table : (o : Option ℕ) → HasChunkTable bytes parts.chunks o → None ≡ o
    by_table None h = refl
    by_table (Some t) h = let two : 2 ≤ length parts.chunks = h.0 in let c = n.count in absurd (omega (arith, two, c, few))

entry_near : (at : DataPlace) (parts : NodeParts) (bytes : List ℕ) (table i : ℕ) → view at.pointer ≡ To table → 2 ≤ at.count → i < at.count → AreNamed at parts bytes → table + 16 + 24 * i + 24 < 2 ^ 44
entry_near at parts bytes table i to several inside n =
    let small = near (field (field bytes table (chunk_table_length (length parts.chunks))) 4 12) (table + chunk_table_length (length parts.chunks) - 4) (table_spelled at parts bytes table to several n).1.end_pointer in
    let c = n.count in fits (length parts.chunks) small c
  where
    fits : (k : ℕ) → table + (20 + 24 * k) - 4 < 2 ^ 44 → at.count ≡ k → table + 16 + 24 * i + 24 < 2 ^ 44
    fits k s c = omega (arith, s, c, inside)

pub far_entry : (at : DataPlace) (image : Option (List ℕ)) (table i : ℕ) → Some table ≡ place_of at.pointer → 2 ≤ at.count → i < at.count → 2 ^ 44 - 24 < table + 16 + 24 * i → NoneNamed at image
far_entry at None table i to several inside far parts n = n
far_entry at (Some bytes) table i to several inside far parts n = let l = entry_near at parts bytes table i (view_of at.pointer table to) several inside n in omega (arith, l, far)

abbrev pub Says : (List ℕ → ChunkPart → Type 0) → List ℕ → Option Chunk → Type 0
Says S text result = (c : ChunkPart) → 21 ≤ c.length → S text c → option_map part_of result ≡ Some c

pub bad_entry : (at : DataPlace) (image : Option (List ℕ)) (table i : ℕ) (text : List ℕ) → Some table ≡ place_of at.pointer → 2 ≤ at.count → i < at.count → GivesAt image (table + 16 + 24 * i) text → length text ≡ 24 → Says SaysChunk text None → NoneNamed at image
bad_entry at image table i text to several inside given long says parts n =
    clash (says (part_at parts.chunks i) (entry_long at parts image i inside n) (entry_says at parts image table i text (view_of at.pointer table to) several inside n given long))
  where
    clash : None ≡ Some (part_at parts.chunks i) → ⊥
    clash e = cc

pub good_entry : (at : DataPlace) (image : Option (List ℕ)) (table i : ℕ) (text : List ℕ) (c : Chunk) → Some table ≡ place_of at.pointer → 2 ≤ at.count → i < at.count → GivesAt image (table + 16 + 24 * i) text → length text ≡ 24 → Says SaysChunk text (Some c)
    → (parts : NodeParts) → Named at parts image → part_of c ≡ part_at parts.chunks i
good_entry at image table i text c to several inside given long says parts n =
    same (part_of c) (part_at parts.chunks i) (says (part_at parts.chunks i) (entry_long at parts image i inside n) (entry_says at parts image table i text (view_of at.pointer table to) several inside n given long))
  where
    same : (a b : ChunkPart) → Some a ≡ Some b → a ≡ b
    same a b e = cc

-- ---- the one chunk

-- with one chunk the place names that
one_chunk : (at : DataPlace) (parts : NodeParts) (bytes : List ℕ) → at.count ≡ 1 → AreNamed at parts bytes
    → (c : ChunkPart) × (parts.chunks ≡ c ∷ []) × (view at.pointer ≡ To c.place) × SpellsChunk (field bytes c.place c.length) c.place c.length
one_chunk at parts bytes one n = by_chunks parts.chunks refl n.count n.chunks n.chunk_table
  where
    by_table : (c : ChunkPart) (t : Option ℕ) → parts.chunks ≡ c ∷ [] → parts.chunk_table ≡ t → HasChunkTable bytes (c ∷ []) t → view at.pointer ≡ To c.place
    by_table c None e f h = n.pointer ∙ ap (λ (cs : List ChunkPart). pointer_to (chunk_pointer cs parts.chunk_table)) e ∙ ap (λ (o : Option ℕ). pointer_to (chunk_pointer (c ∷ []) o)) f
    by_table c (Some t) e f h = let two : 2 ≤ 1 = h.0 in absurd (omega (arith, two))

    by_chunks : (cs : List ChunkPart) → parts.chunks ≡ cs → at.count ≡ length cs → AllByRecursion (λ (c : ChunkPart). SpellsChunk (field bytes c.place c.length) c.place c.length) cs → HasChunkTable bytes cs parts.chunk_table
        → (c : ChunkPart) × (parts.chunks ≡ c ∷ []) × (view at.pointer ≡ To c.place) × SpellsChunk (field bytes c.place c.length) c.place c.length
    by_chunks [] e k all h = absurd (omega (arith, one, k))
    by_chunks (c ∷ []) e k all h = (c, e, by_table c parts.chunk_table e refl h, all.0)
    by_chunks (c ∷ d ∷ cs) e k all h = absurd (omega (arith, one, k))

pub no_chunk_named : (at : DataPlace) (image : Option (List ℕ)) → None ≡ place_of at.pointer → at.count ≡ 1 → NoneNamed at image
no_chunk_named at None blank one parts n = n
no_chunk_named at (Some bytes) blank one parts n = let w = one_chunk at parts bytes one n in clash w.0.place (sym (blank_of at.pointer blank) ∙ w.2)
  where
    clash : (p : ℕ) → Blank ≡ To p → ⊥
    clash p e = cc

head_near : (bytes : List ℕ) (c : ChunkPart) → SpellsChunk (field bytes c.place c.length) c.place c.length → c.place + 17 < 2 ^ 44
head_near bytes c s = let small = near (field (field bytes c.place c.length) 4 12) (c.place + c.length - 4) s.framed.end_pointer in let long = s.long in omega (arith, small, long)

pub far_head : (at : DataPlace) (image : Option (List ℕ)) (place : ℕ) → Some place ≡ place_of at.pointer → at.count ≡ 1 → 2 ^ 44 - 16 < place → NoneNamed at image
far_head at None place to one far parts n = n
far_head at (Some bytes) place to one far parts n =
    let w = one_chunk at parts bytes one n in
    let l = head_near bytes w.0 w.3 in
    let e : place ≡ w.0.place = same_place place w.0.place (sym (view_of at.pointer place to) ∙ w.2) in
    omega (arith, l, e, far)

head_read : (bytes text : List ℕ) (c : ChunkPart) → SpellsChunk (field bytes c.place c.length) c.place c.length → text ≡ bytes_at bytes c.place (length text) → length text ≡ 16 → HeadSaysChunk text c
head_read bytes text c s is long = (
  part_of_field bytes text c.place 16 0 4 within is long (omega arith) ∙ sym (inner_field bytes c.place c.length 0 4 (omega (arith, size))) ∙ s.framed.start_tag,
  ap pointer (part_of_field bytes text c.place 16 4 12 within is long (omega arith) ∙ sym (inner_field bytes c.place c.length 4 12 (omega (arith, size)))) ∙ s.framed.end_pointer,
)
  where
    size : 21 ≤ c.length
    size = s.long

    within : c.place + 16 ≤ length bytes
    within = let w = framed_within bytes (codes "DaTa") (codes "dEnD") c.place c.length (omega (arith, size)) refl s.framed in omega (arith, w, size)

pub bad_head : (at : DataPlace) (image : Option (List ℕ)) (place : ℕ) (text : List ℕ) → Some place ≡ place_of at.pointer → at.count ≡ 1 → GivesAt image place text → length text ≡ 16
    → ((c : ChunkPart) → 21 ≤ c.length → view at.pointer ≡ To c.place → HeadSaysChunk text c → option_map part_of None ≡ Some c) → NoneNamed at image
bad_head at None place text to one given long says parts n = n
bad_head at (Some bytes) place text to one given long says parts n =
    let w = one_chunk at parts bytes one n in
    let e : place ≡ w.0.place = same_place place w.0.place (sym (view_of at.pointer place to) ∙ w.2) in
    clash w.0 (says w.0 w.3.long w.2 (head_read bytes text w.0 w.3 (subst (λ p. text ≡ bytes_at bytes p (length text)) e given) long))
  where
    clash : (c : ChunkPart) → None ≡ Some c → ⊥
    clash c e = cc

pub good_head : (at : DataPlace) (image : Option (List ℕ)) (place : ℕ) (text : List ℕ) (d : Chunk) → Some place ≡ place_of at.pointer → at.count ≡ 1 → GivesAt image place text → length text ≡ 16
    → ((c : ChunkPart) → 21 ≤ c.length → view at.pointer ≡ To c.place → HeadSaysChunk text c → option_map part_of (Some d) ≡ Some c) → (parts : NodeParts) → Named at parts image → part_of d ∷ [] ≡ parts.chunks
good_head at None place text d to one given long says parts n = absurd n
good_head at (Some bytes) place text d to one given long says parts n =
    let w = one_chunk at parts bytes one n in
    let e : place ≡ w.0.place = same_place place w.0.place (sym (view_of at.pointer place to) ∙ w.2) in
    ap (λ c. c ∷ []) (same (part_of d) w.0 (says w.0 w.3.long w.2 (head_read bytes text w.0 w.3 (subst (λ p. text ≡ bytes_at bytes p (length text)) e given) long))) ∙ sym w.1
  where
    same : (a b : ChunkPart) → Some a ≡ Some b → a ≡ b
    same a b e = cc
