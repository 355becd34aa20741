-- A chunk, and a table of chunks, that are put into the room of the heap.
use Rattle.std.proofs.Common.{◌≡◌, ℕ, zero, suc, ◌+◌, ◌-◌, ◌*◌, ◌<◌, ◌≤◌, ◌^◌, arith, get_or, List, [], ◌∷◌, ◌++◌, length, take, map, replicate, refl, sym, ◌∙◌, ap, subst, append_assoc}
use Rattle.std.proofs.lemmas.Grind.{same_number_lists}
use Rattle.std.proofs.lemmas.List.{length-map, length-append, append-nil, map-append, take_more}
use Rattle.std.proofs.lemmas.Option.{slice_get-map}
use Rattle.std.specs.Prelude.{Option, Some, None, IfSome, slice_get, option_map}
use Rattle.std.specs.List.{AllByRecursion}
use Rattle.cg_io.specs.Blocks.{Both, Wrote}
use Rattle.cg_io.specs.Answers.{Then}
use Rattle.cg_io.proofs.BothLaws.{both_then, both_map}
use Rattle.adf_format.specs.declared.types.Extent.{Extent}
use Rattle.adf_format.specs.Fields.{field}
use Rattle.adf_format.specs.Pointer.{To, pointer_text}
use Rattle.adf_format.specs.Parts.{SpellsChunkTable, SpellsChunkEntry, chunk_table_length}
use Rattle.adf_format.specs.Records.{Chunks, chunk_entry_text, head_text, end_tag}
use Rattle.adf_format.specs.Spelled.{AllWide, in_row, framed_text}
use Rattle.adf_format.specs.Tiles.{cover}
use Rattle.adf_format.specs.Placement.{Heap, ChunkPart}
use Rattle.adf_format.specs.LaysOut.{payloads}
use Rattle.adf_format.specs.Changes.{heap_fields, Writes}
use Rattle.adf_format.specs.HeapRule.{chunk, payload_length}
use Rattle.adf_format.proofs.HeapLaws.{in_range}
use Rattle.adf_format.proofs.FieldLaws.{length-in_row}
use Rattle.adf_format.proofs.SpelledParts.{length-pointer_text, framed_long}
use Rattle.adf_format.proofs.WrittenParts.{chunk_table_written}
use Rattle.file_heap.specs.Links.{range}
use Rattle.file_heap.specs.Heap.{IsHeap, ChangesOnly, IsTakenWithin, TakesCover}
use Rattle.field_access.proofs.WriteLaws.{written}
use Rattle.adf_data.specs.Chunks.{part_at}
use Rattle.adf_data.specs.Ranges.{AreIn, byte_place}
use Rattle.adf_data.specs.Fills.{IsBeside, MakesChunk}
use Rattle.adf_data.specs.Growing.{entry_of, room_of, AreClear, PutsChunk, PutsTable}
use Rattle.adf_data.proofs.PayloadLaws.{payloads_at, length-payloads, still_in}
use Rattle.adf_data.proofs.RoomLaws.{gaps_inside, in_room, out_of_range}

-- payloads stay where no byte of theirs changes
pub payloads_clear : (parts : List ChunkPart) (ranges : List Extent) (old new : List ℕ) → ChangesOnly ranges old new → AreClear parts ranges → AreIn parts old → payloads new parts ≡ payloads old parts
payloads_clear parts ranges old new c clear all =
    same_number_lists (payloads new parts) (payloads old parts) (long ∙ sym (length-payloads parts old all)) (λ k lt. each k (omega (arith, lt, long)))
  where
    now : AreIn parts new
    now = still_in parts old new c.longer all

    long : length (payloads new parts) ≡ payload_length parts
    long = length-payloads parts new now

    each : (k : ℕ) → k < payload_length parts → get_or (payloads new parts) k 0 ≡ get_or (payloads old parts) k 0
    each k lt = payloads_at parts new k now lt ∙ c.others (byte_place parts k) (clear k lt) ∙ sym (payloads_at parts old k all lt)

-- ---- a chunk

module _ (parts : List ChunkPart) (kept n place : ℕ) (before after : Heap) (is : IsHeap before) (covers : TakesCover n before after place) (within : IsTakenWithin n after place) where
  beside : AreClear parts (room_of before after) → IsBeside parts place n
  beside clear j lt =
      let none = in_room n place before after is covers within (byte_place parts j) (clear j lt) in
      let a : cover (range place n ∷ []) (byte_place parts j) ≡ in_range place n (byte_place parts j) + 0 = refl in
      out_of_range place n (byte_place parts j) (omega (arith, none, a))

  put_made : (a b c : List ℕ) → ChangesOnly (heap_fields ++ before.gaps) a b → MakesChunk parts kept n place b c → PutsChunk parts kept n place before after a c
  put_made a b c takes makes = record {
    spells = makes.spells;
    body = λ clear all.
        makes.body (beside clear) (still_in parts a b takes.longer all)
        ∙ ap (λ xs. take kept xs ++ replicate (n - 20 - kept) 0) (payloads_clear parts (heap_fields ++ before.gaps) a b takes (λ j lt. gaps_inside before after (byte_place parts j) (clear j lt)) all);
  }

  pub all_put : (a b c : Option (List ℕ)) → Both (ChangesOnly (heap_fields ++ before.gaps)) a b → Both (MakesChunk parts kept n place) b c → Both (PutsChunk parts kept n place before after) a c
  all_put a b c takes makes =
      both_map (Then (ChangesOnly (heap_fields ++ before.gaps)) (MakesChunk parts kept n place)) (PutsChunk parts kept n place before after) a c (λ old new t. put_made old t.0 new t.1 t.2)
      (both_then (ChangesOnly (heap_fields ++ before.gaps)) (MakesChunk parts kept n place) a b c takes makes)

-- ---- a table

entry_long : (c : ChunkPart) → length (entry_of c) ≡ 24
entry_long c =
    let a = length-append (pointer_text (To c.place)) (pointer_text (To (c.place + c.length - 4))) in
    let p = length-pointer_text (To c.place) in let q = length-pointer_text (To (c.place + c.length - 4)) in omega (arith, a, p, q)

entries_wide : (parts : List ChunkPart) → AllWide 24 (map entry_of parts)
entries_wide parts i text at = by_part (slice_get parts i) refl
  where
    same : (a b : List ℕ) → Some a ≡ Some b → a ≡ b
    same a b e = cc

    by_part : (o : Option ChunkPart) → slice_get parts i ≡ o → length text ≡ 24
    by_part None e = let f : None ≡ Some text = ap (option_map entry_of) (sym e) ∙ sym (slice_get-map entry_of parts i) ∙ at in cc
    by_part (Some c) e = let f : Some (entry_of c) ≡ Some text = ap (option_map entry_of) (sym e) ∙ sym (slice_get-map entry_of parts i) ∙ at in sym (ap length (same (entry_of c) text f)) ∙ entry_long c

-- the text of a table, entry by entry

row_push : (texts : List (List ℕ)) (last : List ℕ) → in_row (texts ++ last ∷ []) ≡ in_row texts ++ last
row_push [] last = append-nil last
row_push (t ∷ ts) last = ap (λ xs. t ++ xs) (row_push ts last) ∙ sym (append_assoc t (in_row ts) last)

pub entries_push : (parts : List ChunkPart) (c : ChunkPart) → in_row (map entry_of (parts ++ c ∷ [])) ≡ in_row (map entry_of parts) ++ entry_of c
entries_push parts c = ap in_row (map-append entry_of parts (c ∷ [])) ∙ row_push (map entry_of parts) (entry_of c)

pub entries_more : (parts : List ChunkPart) (i : ℕ) (start text more new : List ℕ) → i < length parts → text ≡ start ++ in_row (map entry_of (take i parts)) → more ≡ entry_of (part_at parts i) → new ≡ text ++ more
    → new ≡ start ++ in_row (map entry_of (take (i + 1) parts))
entries_more parts i start text more new lt so_far is step =
    step ∙ ap (λ xs. xs ++ more) so_far ∙ append_assoc start (in_row (map entry_of (take i parts))) more ∙ ap (λ xs. start ++ (in_row (map entry_of (take i parts)) ++ xs)) is
    ∙ ap (λ xs. start ++ xs) (sym (entries_push (take i parts) (part_at parts i)) ∙ ap (λ cs. in_row (map entry_of cs)) (sym (take_more parts i (chunk 0 0) lt)))

pub text_long : (place : ℕ) (parts : List ChunkPart) → length (framed_text Chunks place (in_row (map entry_of parts))) ≡ 20 + 24 * length parts
text_long place parts =
    let rows : length (in_row (map entry_of parts)) ≡ 24 * length (map entry_of parts) = length-in_row 24 (map entry_of parts) (entries_wide parts) in
    let l = length-map parts entry_of in framed_long Chunks place (in_row (map entry_of parts)) ∙ omega (arith, rows, l)

pub text_whole : (place end : ℕ) (parts : List ChunkPart) (last : ChunkPart) (head tail a b c d : List ℕ) → end ≡ place + 40 + 24 * length parts → head ≡ head_text Chunks (To end) → tail ≡ end_tag Chunks → a ≡ [] ++ head → b ≡ a ++ in_row (map entry_of parts) → c ≡ b ++ entry_of last → d ≡ c ++ tail
    → d ≡ framed_text Chunks place (in_row (map entry_of (parts ++ last ∷ [])))
text_whole place end parts last head tail a b c d at head_is tail_is first second third fourth =
    fourth ∙ ap (λ t. c ++ t) tail_is
    ∙ ap (λ t. t ++ end_tag Chunks) (third ∙ ap (λ t. t ++ entry_of last) second ∙ append_assoc a (in_row (map entry_of parts)) (entry_of last) ∙ ap (λ t. a ++ t) (sym (entries_push parts last))
    ∙ ap (λ t. t ++ in_row (map entry_of (parts ++ last ∷ []))) (first ∙ head_is ∙ ap (λ k. head_text Chunks (To k)) where_it_ends))
  where
    where_it_ends : end ≡ place + 16 + length (in_row (map entry_of (parts ++ last ∷ [])))
    where_it_ends =
        let rows : length (in_row (map entry_of (parts ++ last ∷ []))) ≡ 24 * length (map entry_of (parts ++ last ∷ [])) = length-in_row 24 (map entry_of (parts ++ last ∷ [])) (entries_wide (parts ++ last ∷ [])) in
        let l = length-map (parts ++ last ∷ []) entry_of in let n = length-append parts (last ∷ []) in omega (arith, at, rows, l, n)

near_at : (parts : List ChunkPart) (i : ℕ) (c : ChunkPart) → slice_get parts i ≡ Some c → AllByRecursion (λ (c : ChunkPart). (4 ≤ c.length) × (c.place + c.length ≤ 2 ^ 44)) parts → (4 ≤ c.length) × (c.place + c.length ≤ 2 ^ 44)
near_at [] i c at all = cc
near_at (d ∷ ds) zero c at all = let e : d ≡ c = same d c at in subst (λ (x : ChunkPart). (4 ≤ x.length) × (x.place + x.length ≤ 2 ^ 44)) e all.0
  where
    same : (a b : ChunkPart) → Some a ≡ Some b → a ≡ b
    same a b e = cc
near_at (d ∷ ds) (suc i) c at all = near_at ds i c at all.1

table_put : (parts : List ChunkPart) (place : ℕ) (text b c : List ℕ) → 2 ≤ length parts → place + 20 + 24 * length parts ≤ 2 ^ 44 → text ≡ framed_text Chunks place (in_row (map entry_of parts)) → Wrote place text b c → PutsTable parts place c
table_put parts place text b c two near is w all = (
  two,
  subst (λ n. SpellsChunkTable (field c place (chunk_table_length n)) place n) count law.0,
  λ i part at. subst (λ n. SpellsChunkEntry (field c place (chunk_table_length n)) i part.place part.length) count
      (let fit = near_at parts i part at all in law.1 i part.place part.length fit.1 fit.0 (slice_get-map entry_of parts i ∙ ap (option_map entry_of) at)),
)
  where
    count : length (map entry_of parts) ≡ length parts
    count = length-map parts entry_of

    law : SpellsChunkTable (field c place (chunk_table_length (length (map entry_of parts)))) place (length (map entry_of parts))
        × ((i start size : ℕ) → start + size ≤ 2 ^ 44 → 4 ≤ size → slice_get (map entry_of parts) i ≡ Some (chunk_entry_text (To start) (To (start + size - 4)))
        → SpellsChunkEntry (field c place (chunk_table_length (length (map entry_of parts)))) i start size)
    law = chunk_table_written place (map entry_of parts) b c (entries_wide parts) (omega (arith, near, count)) (subst (λ t. Writes place t b c) is (written place text b c w))

pub all_tables : (parts : List ChunkPart) (place : ℕ) (text : List ℕ) (b c : Option (List ℕ)) → 2 ≤ length parts → place + 20 + 24 * length parts ≤ 2 ^ 44 → text ≡ framed_text Chunks place (in_row (map entry_of parts)) → Both (Wrote place text) b c → IfSome c (PutsTable parts place)
all_tables parts place text None None two near is w = tt
all_tables parts place text None (Some c) two near is w = absurd w
all_tables parts place text (Some b) None two near is w = tt
all_tables parts place text (Some b) (Some c) two near is w = table_put parts place text b c two near is w
