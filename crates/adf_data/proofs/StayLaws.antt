-- Data that a place names, after their payloads were written over.
use Rattle.std.proofs.Common.{◌≡◌, ◌≢◌, ◌⊎◌, inl, inr, ℕ, zero, suc, ◌+◌, ◌-◌, ◌*◌, ◌<◌, ◌≤◌, arith, List, [], ◌∷◌, ◌++◌, length, take, drop, get_or, min, refl, sym, ◌∙◌, ap, subst, true, false, cond}
use Rattle.std.proofs.lemmas.Bool.Decides.{nat_tests}
use Rattle.std.proofs.lemmas.Bool.{cases_lt}
use Rattle.std.proofs.lemmas.Option.{slice_get-get_or}
use Rattle.std.proofs.lemmas.Grind.{same_number_lists}
use Rattle.std.proofs.lemmas.List.{get_or-take, length-take}
use Rattle.std.proofs.lemmas.List.Elements.{recursion_from_All}
use Rattle.std.proofs.Math.Nat.{add-mul}
use Rattle.std.specs.Prelude.{Option, Some, None, nat_lt, codes, slice_get}
use Rattle.std.specs.List.{AllByRecursion, range_with_len}
use Rattle.cg_io.specs.Blocks.{Both}
use Rattle.adf_format.specs.declared.types.ExtentKind.{ExtentKind}
use Rattle.adf_format.specs.Fields.{field}
use Rattle.adf_format.specs.Tiles.{cover, holds_byte}
use Rattle.adf_format.specs.Pointer.{pointer}
use Rattle.adf_format.specs.Parts.{IsFramed, SpellsChunk, SpellsChunkEntry, chunk_table_length}
use Rattle.adf_format.specs.Placement.{NodeParts, ChunkPart, extent, chunk_extents, chunk_table_extents}
use Rattle.adf_format.specs.LaysOut.{HasChunkTable, payloads}
use Rattle.adf_format.specs.HeapRule.{payload_length, data_extents}
use Rattle.adf_format.proofs.FieldLaws.{inner_field}
use Rattle.adf_format.proofs.FrameLaws.{field_kept}
use Rattle.adf_format.proofs.HeapSteps.{cover-append}
use Rattle.adf_model.specs.declared.lists.Run.{Run}
use Rattle.adf_model.specs.Selection.{written_over, with_elements}
use Rattle.strided.specs.RunLists.{spread, elements_of}
use Rattle.adf_data.specs.declared.place.DataPlace.{DataPlace}
use Rattle.adf_data.specs.declared.chunks.Chunk.{Chunk}
use Rattle.adf_data.specs.Chunks.{parts_of, AreNamed, Named}
use Rattle.adf_data.specs.Ranges.{AreIn, byte_place}
use Rattle.adf_data.specs.Runs.{EndsIn, AreApart, payload_extents, ChangesPayloads, WritesRuns, WritesElements, ChangesDataAlone}
use Rattle.adf_data.proofs.Listing.{framed_within}
use Rattle.adf_data.proofs.PayloadLaws.{written_over_at, length-written_over}
use Rattle.adf_data.proofs.DataLaws.{spelled_in, named_data}
use Rattle.adf_data.proofs.KeptLaws.{covered, once_of}

-- ---- the head and the end tag of a chunk

abbrev pub IsFrame : ChunkPart → ℕ → Type 0
IsFrame c b = ((c.place ≤ b) × (b < c.place + 16)) ⊎ ((c.place + c.length - 4 ≤ b) × (b < c.place + c.length))

abbrev pub InFrame : List ChunkPart → ℕ → Type 0
InFrame [] b = ⊥
InFrame (c ∷ cs) b = IsFrame c b ⊎ InFrame cs b

frame_holds : (c : ChunkPart) (b : ℕ) → 20 ≤ c.length → IsFrame c b → holds_byte (extent ExtentKind.DataChunk c.place c.length) b ≡ true
frame_holds c b long (inl f) = let p = f.0 in let q = f.1 in grind (arith, nat_tests)
frame_holds c b long (inr f) = let p = f.0 in let q = f.1 in grind (arith, nat_tests)

pub frame_covered : (cs : List ChunkPart) (b : ℕ) (bytes : List ℕ) → AreIn cs bytes → InFrame cs b → 1 ≤ cover (chunk_extents cs) b
frame_covered [] b bytes all f = absurd f
frame_covered (c ∷ cs) b bytes all (inl f) = let h = frame_holds c b all.0.0 f in rw h (omega arith)
frame_covered (c ∷ cs) b bytes all (inr f) = let ih = frame_covered cs b bytes all.1 f in omega (arith, ih)

payload_holds : (c : ChunkPart) (k : ℕ) → k < c.length - 20 → holds_byte (extent ExtentKind.DataChunk c.place c.length) (c.place + 16 + k) ≡ true
payload_holds c k lt = grind (arith, nat_tests)

pub is_in : (c : ChunkPart) (k : ℕ) → k < c.length - 20 → nat_lt k (c.length - 20) ≡ true
is_in c k lt = grind (arith, nat_tests)

is_behind : (c : ChunkPart) (k : ℕ) → c.length - 20 ≤ k → nat_lt k (c.length - 20) ≡ false
is_behind c k le = grind (arith, nat_tests)

-- no byte of the data stands in a head or an end tag
pub frame_apart : (cs : List ChunkPart) (b j : ℕ) (bytes : List ℕ) → AreIn cs bytes → ((b : ℕ) → cover (chunk_extents cs) b ≤ 1) → InFrame cs b → j < payload_length cs → byte_place cs j ≢ b
frame_apart [] b j bytes all one f lt e = f
frame_apart (c ∷ cs) b j bytes all one f lt e = elim (cases_lt j (c.length - 20)) [
  | inl low ↦ here f low (let t = is_in c j low in rw t at e)
  | inr high ↦ there f high (let t = is_behind c j high in rw t at e) (λ g. frame_apart cs b (j - (c.length - 20)) bytes all.1 (λ k. let o = one k in omega (arith, o)) g (omega (arith, lt, high)))
]
  where
    two : (b : ℕ) → holds_byte (extent ExtentKind.DataChunk c.place c.length) b ≡ true → 1 ≤ cover (chunk_extents cs) b → ⊥
    two b h r =
        let o : cond (holds_byte (extent ExtentKind.DataChunk c.place c.length) b) 1 0 + cover (chunk_extents cs) b ≤ 1 = one b in
        let p : 1 + cover (chunk_extents cs) b ≤ 1 = rw h at o in omega (arith, r, p)

    here : InFrame (c ∷ cs) b → j < c.length - 20 → c.place + 16 + j ≡ b → ⊥
    here (inl (inl g)) low e = let h = g.1 in omega (arith, e, h)
    here (inl (inr g)) low e = let h = g.0 in omega (arith, e, h, low)
    here (inr g) low e = two b (subst (λ k. holds_byte (extent ExtentKind.DataChunk c.place c.length) k ≡ true) e (payload_holds c j low)) (frame_covered cs b bytes all.1 g)

    there : InFrame (c ∷ cs) b → c.length - 20 ≤ j → byte_place cs (j - (c.length - 20)) ≡ b → (InFrame cs b → byte_place cs (j - (c.length - 20)) ≢ b) → ⊥
    there (inl g) high e ih = two b (frame_holds c b all.0.0 g) (subst (λ k. 1 ≤ cover (chunk_extents cs) k) e (covered cs (j - (c.length - 20)) (omega (arith, lt, high))))
    there (inr g) high e ih = ih g e

-- ---- what keeps its bytes

framed_kept : (old new opening closing : List ℕ) (p n : ℕ) → 20 ≤ n → ((b : ℕ) → ((p ≤ b) × (b < p + 16)) ⊎ ((p + n - 4 ≤ b) × (b < p + n)) → slice_get new b ≡ slice_get old b) → IsFramed (field old p n) p n opening closing → IsFramed (field new p n) p n opening closing
framed_kept old new opening closing p n long same f = record {
  start_tag = part 0 4 (omega (arith, long)) (λ b low high. same b (inl (omega (arith, low), omega (arith, high)))) ∙ f.start_tag;
  end_pointer = ap pointer (part 4 12 (omega (arith, long)) (λ b low high. same b (inl (omega (arith, low), omega (arith, high))))) ∙ f.end_pointer;
  end_tag = part (n - 4) 4 (omega (arith, long)) (λ b low high. same b (inr (omega (arith, low, long), omega (arith, high, long)))) ∙ f.end_tag;
}
  where
    part : (k m : ℕ) → k + m ≤ n → ((b : ℕ) → p + k ≤ b → b < p + k + m → slice_get new b ≡ slice_get old b) → field (field new p n) k m ≡ field (field old p n) k m
    part k m le kept = inner_field new p n k m le ∙ field_kept m (p + k) old new kept ∙ sym (inner_field old p n k m le)

pub chunks_kept : (old new : List ℕ) (cs : List ChunkPart) → AreIn cs old → ((b : ℕ) → InFrame cs b → slice_get new b ≡ slice_get old b) → AllByRecursion (λ (c : ChunkPart). SpellsChunk (field old c.place c.length) c.place c.length) cs
    → AllByRecursion (λ (c : ChunkPart). SpellsChunk (field new c.place c.length) c.place c.length) cs
chunks_kept old new [] all same s = tt
chunks_kept old new (c ∷ cs) all same s = (
  record { long = s.0.long; framed = framed_kept old new (codes "DaTa") (codes "dEnD") c.place c.length all.0.0 (λ b f. same b (inl f)) s.0.framed },
  chunks_kept old new cs all.1 (λ b f. same b (inr f)) s.1,
)

pub byte_kept : (old new : List ℕ) (b : ℕ) → length old ≤ length new → b < length old → get_or new b 0 ≡ get_or old b 0 → slice_get new b ≡ slice_get old b
byte_kept old new b longer lt e = slice_get-get_or new b 0 (omega (arith, longer, lt)) ∙ ap (λ x. Some x) e ∙ sym (slice_get-get_or old b 0 lt)

pub frame_within : (cs : List ChunkPart) (b : ℕ) (bytes : List ℕ) → AreIn cs bytes → InFrame cs b → b < length bytes
frame_within [] b bytes all f = absurd f
frame_within (c ∷ cs) b bytes all (inl (inl f)) = let h = f.1 in let l = all.0.0 in let w = all.0.1 in omega (arith, h, l, w)
frame_within (c ∷ cs) b bytes all (inl (inr f)) = let h = f.1 in let w = all.0.1 in omega (arith, h, w)
frame_within (c ∷ cs) b bytes all (inr f) = frame_within cs b bytes all.1 f

table_holds : (t n b : ℕ) → t ≤ b → b < t + n → holds_byte (extent ExtentKind.ChunkTable t n) b ≡ true
table_holds t n b low high = grind (arith, nat_tests)

module _ (parts : NodeParts) (old new : List ℕ) (apart : AreApart parts) (all : AreIn parts.chunks old) (w : ChangesPayloads parts.chunks old new) where
  split : (b : ℕ) → cover (data_extents parts) b ≡ cover (chunk_table_extents parts.chunk_table (length parts.chunks)) b + cover (chunk_extents parts.chunks) b
  split b = cover-append (chunk_table_extents parts.chunk_table (length parts.chunks)) (chunk_extents parts.chunks) b

  pub chunks_once : (b : ℕ) → cover (chunk_extents parts.chunks) b ≤ 1
  chunks_once b = let s = split b in let a = apart b in omega (arith, s, a)

  pub spelled_after : AllByRecursion (λ (c : ChunkPart). SpellsChunk (field old c.place c.length) c.place c.length) parts.chunks → AllByRecursion (λ (c : ChunkPart). SpellsChunk (field new c.place c.length) c.place c.length) parts.chunks
  spelled_after s = chunks_kept old new parts.chunks all
      (λ b f. byte_kept old new b w.longer (frame_within parts.chunks b old all f) (w.outside b (λ j lt. frame_apart parts.chunks b j old all chunks_once f lt))) s

  table_byte : (t b : ℕ) → parts.chunk_table ≡ Some t → t ≤ b → b < t + chunk_table_length (length parts.chunks) → (j : ℕ) → j < payload_length parts.chunks → byte_place parts.chunks j ≢ b
  table_byte t b e low high j lt f =
      let c : 1 ≤ cover (chunk_extents parts.chunks) b = subst (λ k. 1 ≤ cover (chunk_extents parts.chunks) k) f (covered parts.chunks j lt) in
      let h = table_holds t (chunk_table_length (length parts.chunks)) b low high in
      let s : cover (data_extents parts) b ≡ cover (chunk_table_extents (Some t) (length parts.chunks)) b + cover (chunk_extents parts.chunks) b = split b ∙ ap (λ (o : Option ℕ). cover (chunk_table_extents o (length parts.chunks)) b + cover (chunk_extents parts.chunks) b) e in
      let d : cond (holds_byte (extent ExtentKind.ChunkTable t (chunk_table_length (length parts.chunks))) b) 1 0 + 0 + cover (chunk_extents parts.chunks) b ≤ 1 = (let a = apart b in omega (arith, s, a)) in
      let g : 1 + 0 + cover (chunk_extents parts.chunks) b ≤ 1 = rw h at d in omega (arith, c, g)

  pub table_after : HasChunkTable old parts.chunks parts.chunk_table → HasChunkTable new parts.chunks parts.chunk_table
  table_after h = by_table parts.chunk_table refl h
    where
      by_table : (o : Option ℕ) → parts.chunk_table ≡ o → HasChunkTable old parts.chunks o → HasChunkTable new parts.chunks o
      by_table None e h = h
      by_table (Some t) e h =
          let n : ℕ = chunk_table_length (length parts.chunks) in
          let within : t + n ≤ length old = framed_within old (codes "DCtb") (codes "dcTE") t n (omega arith) refl h.1 in
          let same : field new t n ≡ field old t n = field_kept n t old new (λ b low high. byte_kept old new b w.longer (omega (arith, within, high)) (w.outside b (table_byte t b e low high))) in
          subst (λ (bytes : List ℕ). (2 ≤ length parts.chunks) × IsFramed bytes t n (codes "DCtb") (codes "dcTE") × ((i : ℕ) (c : ChunkPart) → slice_get parts.chunks i ≡ Some c → SpellsChunkEntry bytes i c.place c.length)) (sym same) h

-- ---- elements of the first bytes

front_over : (n at : ℕ) (xs piece : List ℕ) → at + length piece ≤ n → n ≤ length xs → take n (written_over xs at piece) ≡ written_over (take n xs) at piece
front_over n at xs piece le short =
    same_number_lists (take n (written_over xs at piece)) (written_over (take n xs) at piece) (a ∙ sym (length-written_over (take n xs) at piece (omega (arith, le, t)) ∙ t))
    (λ k lt. let small : k < n = omega (arith, lt, a) in each k small)
  where
    t : length (take n xs) ≡ n
    t = omega (arith, short, length-take n xs)

    whole : length (written_over xs at piece) ≡ length xs
    whole = length-written_over xs at piece (omega (arith, le, short))

    a : length (take n (written_over xs at piece)) ≡ n
    a = omega (arith, short, whole, length-take n (written_over xs at piece))

    each : (k : ℕ) → k < n → get_or (take n (written_over xs at piece)) k 0 ≡ get_or (written_over (take n xs) at piece) k 0
    each k lt =
        let p = written_over_at xs at piece k (omega (arith, le, short)) in
        let q = written_over_at (take n xs) at piece k (omega (arith, le, t)) in
        get_or-take n (written_over xs at piece) k 0 lt ∙ elim (cases_lt k at) [
          | inl low ↦ p.0 low ∙ sym (q.0 low ∙ get_or-take n xs k 0 lt)
          | inr high ↦ elim (cases_lt k (at + length piece)) [
            | inl inside ↦ p.1 high inside ∙ sym (q.1 high inside)
            | inr past ↦ p.2 past ∙ sym (q.2 past ∙ get_or-take n xs k 0 lt)
          ]
        ]

abbrev pub EndBy : ℕ → ℕ → List ℕ → Type 0
EndBy element n es = AllByRecursion (λ (e : ℕ). e * element + element ≤ n) es

pub front_with : (element n : ℕ) (es given xs : List ℕ) → EndBy element n es → n ≤ length xs → (take n (with_elements element es given xs) ≡ with_elements element es given (take n xs)) × (length (with_elements element es given xs) ≡ length xs)
front_with element n [] given xs all short = (refl, refl)
front_with element n (e ∷ es) given xs all short =
    let h : e * element + element ≤ n = all.0 in
    let p : length (take element given) ≡ min element (length given) = length-take element given in
    let l : length (written_over xs (e * element) (take element given)) ≡ length xs = length-written_over xs (e * element) (take element given) (omega (arith, h, p, short)) in
    let ih = front_with element n es (drop element given) (written_over xs (e * element) (take element given)) all.1 (omega (arith, l, short)) in
    (ih.0 ∙ ap (with_elements element es (drop element given)) (front_over n (e * element) xs (take element given) (omega (arith, h, p)) short), ih.1 ∙ l)

end_each : (element n first count : ℕ) → (first + count) * element ≤ n → EndBy element n (range_with_len first count)
end_each element n first zero le = tt
end_each element n first (suc k) le =
    let e : (first + suc k) * element ≡ first * element + suc k * element = add-mul first (suc k) element in
    let next : first + 1 + k ≡ first + suc k = omega arith in
    (omega (arith, e, le), end_each element n (first + 1) k (subst (λ m. m * element ≤ n) (sym next) le))

end_both : (element n : ℕ) (xs ys : List ℕ) → EndBy element n xs → EndBy element n ys → EndBy element n (xs ++ ys)
end_both element n [] ys a b = b
end_both element n (x ∷ xs) ys a b = (a.0, end_both element n xs ys a.1 b)

pub end_all : (element n : ℕ) (runs : List Run) → AllByRecursion (EndsIn element n) runs → EndBy element n (spread runs)
end_all element n [] all = tt
end_all element n (r ∷ rs) all = end_both element n (elements_of r) (spread rs) (end_each element n r.first r.count all.0) (end_all element n rs all.1)

-- ---- the data afterwards

written_held : (at : DataPlace) (chunks : List Chunk) (element : ℕ) (runs : List Run) (given old new : List ℕ) → ((parts : NodeParts) → AreNamed at parts old → parts_of chunks ≡ parts.chunks) → WritesRuns (parts_of chunks) element runs given old new → WritesElements at element runs given old new
written_held at chunks element runs given old new says w parts data' names h apart all = record {
  chunk_table = table_after parts old new apart inside v.changes h.chunk_table;
  chunks = spelled_after parts old new apart inside v.changes h.chunks;
  begins = (h.begins.0, ap (λ n. take n (payloads new parts.chunks)) size ∙ ap (take (length data')) (v.said (once_of parts.chunks (chunks_once parts old new apart inside v.changes)) inside) ∙ f.0 ∙ ap (with_elements element (spread runs) given) h.begins.1);
}
  where
    v : WritesRuns parts.chunks element runs given old new
    v = subst (λ (cs : List ChunkPart). WritesRuns cs element runs given old new) (says parts (named_data at parts old data' names h)) w

    inside : AreIn parts.chunks old
    inside = spelled_in old parts.chunks h.chunks

    short : length data' ≤ length (payloads old parts.chunks)
    short = let t : length (take (length data') (payloads old parts.chunks)) ≡ length data' = ap length h.begins.1 in omega (arith, t, length-take (length data') (payloads old parts.chunks))

    ends : EndBy element (length data') (spread runs)
    ends = end_all element (length data') runs (recursion_from_All (EndsIn element (length data')) runs all)

    f : (take (length data') (with_elements element (spread runs) given (payloads old parts.chunks)) ≡ with_elements element (spread runs) given (take (length data') (payloads old parts.chunks)))
        × (length (with_elements element (spread runs) given (payloads old parts.chunks)) ≡ length (payloads old parts.chunks))
    f = front_with element (length data') (spread runs) given (payloads old parts.chunks) ends short

    size : length (with_elements element (spread runs) given data') ≡ length data'
    size = (front_with element (length data') (spread runs) given data' ends (omega arith)).1

pub elements_written : (at : DataPlace) (chunks : List Chunk) (element : ℕ) (runs : List Run) (given : List ℕ) (old middle new : Option (List ℕ)) → middle ≡ old → ((parts : NodeParts) → Named at parts old → parts_of chunks ≡ parts.chunks)
    → Both (WritesRuns (parts_of chunks) element runs given) middle new → Both (WritesElements at element runs given) old new
elements_written at chunks element runs given old middle new e says w = go old new says (subst (λ (i : Option (List ℕ)). Both (WritesRuns (parts_of chunks) element runs given) i new) e w)
  where
    go : (old new : Option (List ℕ)) → ((parts : NodeParts) → Named at parts old → parts_of chunks ≡ parts.chunks) → Both (WritesRuns (parts_of chunks) element runs given) old new → Both (WritesElements at element runs given) old new
    go None None says w = tt
    go None (Some new) says w = w
    go (Some old) None says w = w
    go (Some old) (Some new) says w = written_held at chunks element runs given old new says w

-- ---- only payloads change

payload_here : (c : ChunkPart) (k : ℕ) → k < c.length - 20 → holds_byte (extent ExtentKind.DataChunk (c.place + 16) (c.length - 20)) (c.place + 16 + k) ≡ true
payload_here c k lt = grind (arith, nat_tests)

pub payload_covered : (cs : List ChunkPart) (k : ℕ) → k < payload_length cs → 1 ≤ cover (payload_extents cs) (byte_place cs k)
payload_covered [] k lt = absurd (omega (arith, lt))
payload_covered (c ∷ cs) k lt = elim (cases_lt k (c.length - 20)) [
  | inl low ↦ (let t = is_in c k low in let h = payload_here c k low in rw (t, h) (omega arith))
  | inr high ↦ (let t = is_behind c k high in let ih = payload_covered cs (k - (c.length - 20)) (omega (arith, lt, high)) in rw t (omega (arith, ih)))
]

pub alone_none : (at : DataPlace) (old new : Option (List ℕ)) → new ≡ old → Both (ChangesDataAlone at) old new
alone_none at old new e = subst (λ (i : Option (List ℕ)). Both (ChangesDataAlone at) old i) (sym e) (same old)
  where
    same : (o : Option (List ℕ)) → Both (ChangesDataAlone at) o o
    same None = tt
    same (Some bytes) = λ parts n. record { longer = omega arith; others = λ b none. refl; grows = λ b past here. absurd (omega (arith, past, here)) }

alone_step : (at : DataPlace) (chunks : List Chunk) (old new : List ℕ) → ((parts : NodeParts) → AreNamed at parts old → parts_of chunks ≡ parts.chunks) → ChangesPayloads (parts_of chunks) old new → ChangesDataAlone at old new
alone_step at chunks old new says w parts n =
    let v : ChangesPayloads parts.chunks old new = subst (λ (cs : List ChunkPart). ChangesPayloads cs old new) (says parts n) w in
    record {
      longer = v.longer;
      others = λ b none. v.outside b (λ j lt e. clash b j none lt e);
      grows = λ b past here. let g = v.grows b past here in let h = g.high in record { byte = byte_place parts.chunks g.byte; own = (let c = payload_covered parts.chunks g.byte (omega (arith, h)) in omega (arith, c)); block = g.block };
    }
  where
    clash : (b j : ℕ) → cover (payload_extents parts.chunks) b ≡ 0 → j < payload_length parts.chunks → byte_place parts.chunks j ≡ b → ⊥
    clash b j none lt e = let c : 1 ≤ cover (payload_extents parts.chunks) b = subst (λ k. 1 ≤ cover (payload_extents parts.chunks) k) e (payload_covered parts.chunks j lt) in omega (arith, none, c)

pub alone_changes : (at : DataPlace) (chunks : List Chunk) (old middle new : Option (List ℕ)) → middle ≡ old → ((parts : NodeParts) → Named at parts old → parts_of chunks ≡ parts.chunks) → Both (ChangesPayloads (parts_of chunks)) middle new → Both (ChangesDataAlone at) old new
alone_changes at chunks old middle new e says w = go old new says (subst (λ (i : Option (List ℕ)). Both (ChangesPayloads (parts_of chunks)) i new) e w)
  where
    go : (old new : Option (List ℕ)) → ((parts : NodeParts) → Named at parts old → parts_of chunks ≡ parts.chunks) → Both (ChangesPayloads (parts_of chunks)) old new → Both (ChangesDataAlone at) old new
    go None None says w = tt
    go None (Some new) says w = w
    go (Some old) None says w = w
    go (Some old) (Some new) says w = alone_step at chunks old new says w
