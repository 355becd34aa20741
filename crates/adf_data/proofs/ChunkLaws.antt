-- A new chunk, written in four pieces.
use Rattle.std.proofs.Common.{◌≡◌, ◌⊎◌, inl, inr, ℕ, ◌+◌, ◌-◌, ◌*◌, ◌/◌, ◌%◌, ◌<◌, ◌≤◌, ◌^◌, arith, List, ◌++◌, length, take, drop, replicate, get_or, refl, sym, ◌∙◌, ap, subst}
use Rattle.std.proofs.lemmas.Bool.{cases_lt}
use Rattle.std.proofs.lemmas.Option.{slice_get-get_or}
use Rattle.std.proofs.lemmas.Grind.{same_number_lists}
use Rattle.std.proofs.lemmas.List.{get_or-take, get_or-drop, get_or_append_left, get_or-append_right, get_or-replicate, length-append, length-take, length-replicate}
use Rattle.std.specs.Prelude.{Option, Some, slice_get, codes, ⊤}
use Rattle.cg_io.specs.Blocks.{Both, Wrote, KeepsOutside}
use Rattle.adf_format.specs.Fields.{field}
use Rattle.adf_format.specs.Pointer.{Pointer, To, pointer_text}
use Rattle.adf_format.proofs.SpelledParts.{length-pointer_text}
use Rattle.disk_ptr.specs.View.{view}
use Rattle.disk_ptr.specs.declared.DiskPtr.{DiskPtr}
use Rattle.disk_ptr.specs.declared.DiskPtr.TheVariants.{At}
use Rattle.adf_format.specs.Parts.{SpellsChunk, payload}
use Rattle.adf_format.specs.Placement.{ChunkPart}
use Rattle.adf_format.specs.LaysOut.{payloads}
use Rattle.adf_format.specs.HeapRule.{payload_length}
use Rattle.adf_format.specs.Changes.{Writes}
use Rattle.adf_format.specs.Records.{Data, head_text, end_tag}
use Rattle.adf_format.specs.Spelled.{framed_text}
use Rattle.adf_format.proofs.FieldLaws.{length-field}
use Rattle.adf_format.proofs.FrameLaws.{field_kept}
use Rattle.adf_format.proofs.WrittenParts.{chunk_written}
use Rattle.field_access.proofs.WriteLaws.{written}
use Rattle.cg_io.specs.Answers.{Then}
use Rattle.cg_io.proofs.BothLaws.{both_then, both_map}
use Rattle.adf_data.specs.Ranges.{AreIn, byte_place}
use Rattle.adf_data.specs.Fills.{Fills, Copies, IsBeside, MakesChunk, MakesText}
use Rattle.adf_data.proofs.PayloadLaws.{payloads_at, length-payloads}
use Rattle.adf_data.proofs.RunLaws.{field_join}
use Rattle.adf_data.proofs.SpanLaws.{wrote_keeps}

-- ---- ranges in a range

pub part_of_range : (at n place m : ℕ) (old new : List ℕ) → place ≤ at → at + n ≤ place + m → KeepsOutside at n old new → KeepsOutside place m old new
part_of_range at n place m old new low high k = record { longer = k.longer; outside = λ b out. k.outside b (far b out); grows = λ b past here. let g = k.grows b past here in let some = g.0 in let to = g.1 in (omega (arith, some, low, high), omega (arith, some, to, low, high)) }
  where
    far : (b : ℕ) → (b < place) ⊎ (place + m ≤ b) → (b < at) ⊎ (at + n ≤ b)
    far b (inl h) = inl (omega (arith, h, low))
    far b (inr h) = inr (omega (arith, h, high))

pub kept_then : (place m : ℕ) (a b c : List ℕ) → KeepsOutside place m a b → KeepsOutside place m b c → KeepsOutside place m a c
kept_then place m a b c v w = record { longer = (let p = v.longer in let q = w.longer in omega (arith, p, q)); outside = λ k out. w.outside k out ∙ v.outside k out; grows = λ k past here. elim (cases_lt k (length b)) [ inl before ↦ v.grows k past before | inr after ↦ w.grows k after here ] }

same_byte : (a b : List ℕ) (k : ℕ) → length a ≤ length b → k < length a → get_or b k 0 ≡ get_or a k 0 → slice_get b k ≡ slice_get a k
same_byte a b k le lt e = slice_get-get_or b k 0 (omega (arith, le, lt)) ∙ ap (λ x. Some x) e ∙ sym (slice_get-get_or a k 0 lt)

-- ---- the four pieces

-- the second piece has the first bytes of the payload, under a condition
module _ (H : Type 0) (kept n place : ℕ) (given head tag a b c d e : List ℕ) (long : 21 ≤ n) (fits : 20 + kept ≤ n) (near : place + n ≤ 2 ^ 44)
    (head_is : head ≡ head_text Data (To (place + n - 4))) (head_long : length head ≡ 16) (tag_is : tag ≡ end_tag Data) (tag_long : length tag ≡ 4)
    (first : Wrote place head a b) (second : KeepsOutside (place + 16) kept b c) (copied : H → (length given ≡ kept) × ((k : ℕ) → k < kept → get_or c (place + 16 + k) 0 ≡ get_or given k 0))
    (third : Fills (place + 16 + kept) (n - 20 - kept) c d) (last : Wrote (place + n - 4) tag d e) where
  pub changes_all : KeepsOutside place n a e
  changes_all =
      kept_then place n a d e
      (kept_then place n a c d
      (kept_then place n a b c (part_of_range place 16 place n a b (omega arith) (omega (arith, long)) (wrote_keeps place 16 head a b head_long first))
      (part_of_range (place + 16) kept place n b c (omega arith) (omega (arith, fits)) second))
      (part_of_range (place + 16 + kept) (n - 20 - kept) place n c d (omega arith) (omega (arith, fits)) third.changes))
      (part_of_range (place + n - 4) 4 place n d e (omega (arith, long)) (omega (arith, long)) (wrote_keeps (place + n - 4) 4 tag d e tag_long last))

  lengths : (length b ≤ length c) × (length c ≤ length d) × (length d ≤ length e) × (place + 16 ≤ length b) × (place + n ≤ length e)
  lengths = (second.longer, third.changes.longer, last.longer, (let r = first.reaches (omega (arith, head_long)) in omega (arith, r, head_long)), (let r = last.reaches (omega (arith, tag_long)) in omega (arith, r, tag_long, long)))

  in_head : (k : ℕ) → k < place + 16 → place ≤ k → get_or e k 0 ≡ get_or b k 0
  in_head k lt low = last.outside k (inl (omega (arith, lt, long))) ∙ third.changes.outside k (inl (omega (arith, lt))) ∙ second.outside k (inl lt)

  head_stands : field e place 16 ≡ head
  head_stands =
      let l = lengths in
      field_kept 16 place b e (λ k low high. same_byte b e k (let p = l.0 in let q = l.1 in let r = l.2 in omega (arith, p, q, r)) (let w = l.3 in omega (arith, w, high)) (in_head k high low))
      ∙ subst (λ m. field b place m ≡ head) head_long ((written place head a b first).stands)

  tag_stands : field e (place + n - 4) 4 ≡ tag
  tag_stands = subst (λ m. field e (place + n - 4) m ≡ tag) tag_long ((written (place + n - 4) tag d e last).stands)

  abbrev body : List ℕ
  body = field e (place + 16) (n - 20)

  body_long : length body ≡ n - 20
  body_long = let l = length-field e (place + 16) (n - 20) in let w : place + n ≤ length e = lengths.4 in omega (arith, l, w, long)

  whole : field e place n ≡ framed_text Data place body
  whole =
      let x : 16 + (n - 20) ≡ n - 4 = omega (arith, long) in
      let y : n - 4 + 4 ≡ n = omega (arith, long) in
      let z : place + (n - 4) ≡ place + n - 4 = omega (arith, long) in
      let w : place + 16 + length body ≡ place + n - 4 = omega (arith, body_long, long) in
      sym (ap (field e place) y) ∙ sym (field_join e place (n - 4) 4) ∙ ap (λ k. field e place (n - 4) ++ field e k 4) z ∙ ap (λ t. field e place (n - 4) ++ t) (tag_stands ∙ tag_is)
      ∙ ap (λ t. t ++ end_tag Data) (sym (ap (field e place) x) ∙ sym (field_join e place 16 (n - 20)) ∙ ap (λ t. t ++ body) (head_stands ∙ head_is ∙ ap (λ k. head_text Data (To k)) (sym w)))

  stands_whole : Writes place (framed_text Data place body) a e
  stands_whole = record {
    longer = changes_all.longer;
    stands = ap (λ m. field e place m) size ∙ whole;
    others = λ k lt out. same_byte a e k changes_all.longer lt (changes_all.outside k (subst (λ m. (k < place) ⊎ (place + m ≤ k)) size out));
  }
    where
      size : length (framed_text Data place body) ≡ n
      size = sym (ap length whole) ∙ (let l = length-field e place n in let w = lengths.4 in omega (arith, l, w))

  pub chunk_spelled : SpellsChunk (field e place n) place n
  chunk_spelled =
      let y : 20 + length body ≡ n = omega (arith, body_long, long) in
      subst (λ m. SpellsChunk (field e place m) place m) y (chunk_written place body a e (omega (arith, body_long, long)) (omega (arith, body_long, near, long)) stands_whole).0

  pub body_is : H → payload e place n ≡ given ++ replicate (n - 20 - kept) 0
  body_is h = same_number_lists body (given ++ replicate (n - 20 - kept) 0) (body_long ∙ sym size) (λ k lt. each k (omega (arith, lt, body_long)))
    where
      size : length (given ++ replicate (n - 20 - kept) 0) ≡ n - 20
      size = let l = length-append given (replicate (n - 20 - kept) 0) in let r = length-replicate {A = ℕ} (n - 20 - kept) 0 in let f = (copied h).0 in omega (arith, l, r, f, fits)

      each : (k : ℕ) → k < n - 20 → get_or body k 0 ≡ get_or (given ++ replicate (n - 20 - kept) 0) k 0
      each k lt =
          get_or-take (n - 20) (drop (place + 16) e) k 0 lt ∙ get_or-drop (place + 16) e k 0 ∙ last.outside (place + 16 + k) (inl (omega (arith, lt, long)))
          ∙ elim (cases_lt k kept) [
            | inl low ↦
                third.changes.outside (place + 16 + k) (inl (omega (arith, low))) ∙ (copied h).1 k low
                ∙ sym (get_or_append_left given (replicate (n - 20 - kept) 0) 0 k (let f = (copied h).0 in omega (arith, f, low)))
            | inr high ↦
                third.zeros (place + 16 + k) (omega (arith, high)) (omega (arith, lt, fits))
                ∙ sym (get_or-append_right given (replicate (n - 20 - kept) 0) kept k 0 (copied h).0 high ∙ get_or-replicate (n - 20 - kept) (k - kept) 0 0 (omega (arith, lt, high)))
          ]

-- the first bytes of the data, where they were copied
module _ (parts : List ChunkPart) (kept n place : ℕ) (head a b c : List ℕ) (fits : 20 + kept ≤ n) (short : kept ≤ payload_length parts) (head_long : length head ≡ 16)
    (first : Wrote place head a b) (second : Copies parts kept kept (place + 16) b c) where
  copied_there : IsBeside parts place n × AreIn parts a
      → (length (take kept (payloads a parts)) ≡ kept) × ((k : ℕ) → k < kept → get_or c (place + 16 + k) 0 ≡ get_or (take kept (payloads a parts)) k 0)
  copied_there h = (
    (let l = length-take kept (payloads a parts) in let m = length-payloads parts a h.1 in omega (arith, l, m, short)),
    λ k low.
        second.copied narrow k low
        ∙ first.outside (byte_place parts k) (subst (λ m. (byte_place parts k < place) ⊎ (place + m ≤ byte_place parts k)) (sym head_long) (far k (omega (arith, low, short))))
        ∙ sym (payloads_at parts a k h.1 (omega (arith, low, short))) ∙ sym (get_or-take kept (payloads a parts) k 0 low),
  )
    where
      narrow : IsBeside parts (place + 16) kept
      narrow j lt = elim (h.0 j lt) [ inl out ↦ inl (omega (arith, out)) | inr out ↦ inr (omega (arith, out, fits)) ]

      far : (j : ℕ) → j < payload_length parts → (byte_place parts j < place) ⊎ (place + 16 ≤ byte_place parts j)
      far j lt = elim (h.0 j lt) [ inl out ↦ inl out | inr out ↦ inr (omega (arith, out, fits)) ]

made : (parts : List ChunkPart) (kept n place : ℕ) (head tag a b c d e : List ℕ) → 21 ≤ n → 20 + kept ≤ n → place + n ≤ 2 ^ 44 → kept ≤ payload_length parts → head ≡ head_text Data (To (place + n - 4)) → length head ≡ 16 → tag ≡ end_tag Data → length tag ≡ 4
    → Wrote place head a b → Copies parts kept kept (place + 16) b c → Fills (place + 16 + kept) (n - 20 - kept) c d → Wrote (place + n - 4) tag d e → MakesChunk parts kept n place a e
made parts kept n place head tag a b c d e long fits near short head_is head_long tag_is tag_long first second third last = record {
  changes = changes_all H kept n place given head tag a b c d e long fits near head_is head_long tag_is tag_long first second.changes there third last;
  spells = chunk_spelled H kept n place given head tag a b c d e long fits near head_is head_long tag_is tag_long first second.changes there third last;
  body = λ beside all. body_is H kept n place given head tag a b c d e long fits near head_is head_long tag_is tag_long first second.changes there third last (beside, all);
}
  where
    H : Type 0
    H = IsBeside parts place n × AreIn parts a

    given : List ℕ
    given = take kept (payloads a parts)

    there : H → (length given ≡ kept) × ((k : ℕ) → k < kept → get_or c (place + 16 + k) 0 ≡ get_or given k 0)
    there = copied_there parts kept n place head a b c fits short head_long first second

text_made : (text : List ℕ) (n place : ℕ) (head tag a b c d e : List ℕ) → 21 ≤ n → 20 + length text ≤ n → place + n ≤ 2 ^ 44 → head ≡ head_text Data (To (place + n - 4)) → length head ≡ 16 → tag ≡ end_tag Data → length tag ≡ 4
    → Wrote place head a b → Wrote (place + 16) text b c → Fills (place + 16 + length text) (n - 20 - length text) c d → Wrote (place + n - 4) tag d e → MakesText text n place a e
text_made text n place head tag a b c d e long fits near head_is head_long tag_is tag_long first second third last = record {
  changes = changes_all ⊤ (length text) n place text head tag a b c d e long fits near head_is head_long tag_is tag_long first kept there third last;
  spells = chunk_spelled ⊤ (length text) n place text head tag a b c d e long fits near head_is head_long tag_is tag_long first kept there third last;
  body = body_is ⊤ (length text) n place text head tag a b c d e long fits near head_is head_long tag_is tag_long first kept there third last tt;
}
  where
    kept : KeepsOutside (place + 16) (length text) b c
    kept = wrote_keeps (place + 16) (length text) text b c refl second

    there : ⊤ → (length text ≡ length text) × ((k : ℕ) → k < length text → get_or c (place + 16 + k) 0 ≡ get_or text k 0)
    there _ = (refl, λ k lt. second.within (place + 16 + k) (omega arith) (omega (arith, lt)) ∙ ap (λ i. get_or text i 0) (omega arith))

-- ---- where bytes are told

pub in_chunk : (at n place m : ℕ) (a b : Option (List ℕ)) → place ≤ at → at + n ≤ place + m → Both (KeepsOutside at n) a b → Both (KeepsOutside place m) a b
in_chunk at n place m a b low high = both_map (KeepsOutside at n) (KeepsOutside place m) a b (λ old new k. part_of_range at n place m old new low high k)

pub keeps_then : (place m : ℕ) (a b c : Option (List ℕ)) → Both (KeepsOutside place m) a b → Both (KeepsOutside place m) b c → Both (KeepsOutside place m) a c
keeps_then place m a b c v w =
    both_map (Then (KeepsOutside place m) (KeepsOutside place m)) (KeepsOutside place m) a c (λ old new t. kept_then place m old t.0 new t.1 t.2) (both_then (KeepsOutside place m) (KeepsOutside place m) a b c v w)

pub head_size : (p : Pointer) → length (head_text Data p) ≡ 16
head_size p = let a : length (codes "DaTa" ++ pointer_text p) ≡ 4 + length (pointer_text p) = length-append (codes "DaTa") (pointer_text p) in let b = length-pointer_text p in omega (arith, a, b)

pub view_from : (end : ℕ) (p : DiskPtr) → p ≡ At (end / 4096) (end % 4096) → view p ≡ To end
view_from end p e = ap view e ∙ ap To (whole end)
  where
    whole : (end : ℕ) → end / 4096 * 4096 + end % 4096 ≡ end
    whole end = omega arith

pub all_made : (parts : List ChunkPart) (kept n place : ℕ) (head tag : List ℕ) (a b c d e : Option (List ℕ)) → 21 ≤ n → 20 + kept ≤ n → place + n ≤ 2 ^ 44 → kept ≤ payload_length parts → head ≡ head_text Data (To (place + n - 4)) → tag ≡ end_tag Data
    → Both (Wrote place head) a b → Both (Copies parts kept kept (place + 16)) b c → Both (Fills (place + 16 + kept) (n - 20 - kept)) c d → Both (Wrote (place + n - 4) tag) d e → Both (MakesChunk parts kept n place) a e
all_made parts kept n place head tag a b c d e long fits near short head_is tag_is first second third last =
    both_map (Then (Then (Then (Wrote place head) (Copies parts kept kept (place + 16))) (Fills (place + 16 + kept) (n - 20 - kept))) (Wrote (place + n - 4) tag)) (MakesChunk parts kept n place)
    a e
    (λ old new t. made parts kept n place head tag old t.1.1.0 t.1.0 t.0 new long fits near short head_is (ap length head_is ∙ head_size (To (place + n - 4))) tag_is (ap length tag_is) t.1.1.1 t.1.1.2 t.1.2 t.2)
    (both_then (Then (Then (Wrote place head) (Copies parts kept kept (place + 16))) (Fills (place + 16 + kept) (n - 20 - kept))) (Wrote (place + n - 4) tag) a d e
    (both_then (Then (Wrote place head) (Copies parts kept kept (place + 16))) (Fills (place + 16 + kept) (n - 20 - kept)) a c d (both_then (Wrote place head) (Copies parts kept kept (place + 16)) a b c first second) third) last)

pub all_text_made : (text : List ℕ) (n place : ℕ) (head tag : List ℕ) (a b c d e : Option (List ℕ)) → 21 ≤ n → 20 + length text ≤ n → place + n ≤ 2 ^ 44 → head ≡ head_text Data (To (place + n - 4)) → tag ≡ end_tag Data
    → Both (Wrote place head) a b → Both (Wrote (place + 16) text) b c → Both (Fills (place + 16 + length text) (n - 20 - length text)) c d → Both (Wrote (place + n - 4) tag) d e → Both (MakesText text n place) a e
all_text_made text n place head tag a b c d e long fits near head_is tag_is first second third last =
    both_map (Then (Then (Then (Wrote place head) (Wrote (place + 16) text)) (Fills (place + 16 + length text) (n - 20 - length text))) (Wrote (place + n - 4) tag)) (MakesText text n place)
    a e
    (λ old new t. text_made text n place head tag old t.1.1.0 t.1.0 t.0 new long fits near head_is (ap length head_is ∙ head_size (To (place + n - 4))) tag_is (ap length tag_is) t.1.1.1 t.1.1.2 t.1.2 t.2)
    (both_then (Then (Then (Wrote place head) (Wrote (place + 16) text)) (Fills (place + 16 + length text) (n - 20 - length text))) (Wrote (place + n - 4) tag) a d e
    (both_then (Then (Wrote place head) (Wrote (place + 16) text)) (Fills (place + 16 + length text) (n - 20 - length text)) a c d (both_then (Wrote place head) (Wrote (place + 16) text) a b c first second) third) last)

-- what is written, piece by piece, lies in the chunk
module _ (place n kept : ℕ) (head : List ℕ) (p : Pointer) (head_is : head ≡ head_text Data p) (fits : 20 + kept ≤ n) (a b c : Option (List ℕ))
    (first : Both (KeepsOutside place (length head)) a b) (second : Both (KeepsOutside (place + 16) kept) b c) where
  pub copy_changes : Both (KeepsOutside place n) a c
  copy_changes =
      let l : length head ≡ 16 = ap length head_is ∙ head_size p in
      keeps_then place n a b c (in_chunk place (length head) place n a b (omega arith) (omega (arith, l, fits)) first) (in_chunk (place + 16) kept place n b c (omega arith) (omega (arith, fits)) second)

  pub body_changes : (d : Option (List ℕ)) → Both (KeepsOutside (place + 16 + kept) (n - 20 - kept)) c d → Both (KeepsOutside place n) a d
  body_changes d third = keeps_then place n a c d copy_changes (in_chunk (place + 16 + kept) (n - 20 - kept) place n c d (omega arith) (omega (arith, fits)) third)

  pub tail_changes : (d : Option (List ℕ)) → Both (KeepsOutside (place + 16 + kept) (n - 20 - kept)) c d → (tag : List ℕ) (e : Option (List ℕ)) → tag ≡ end_tag Data → Both (KeepsOutside (place + n - 4) (length tag)) d e → Both (KeepsOutside place n) a e
  tail_changes d third tag e tag_is last = let l : length tag ≡ 4 = ap length tag_is in keeps_then place n a d e (body_changes d third) (in_chunk (place + n - 4) (length tag) place n d e (omega (arith, fits)) (omega (arith, fits, l)) last)
