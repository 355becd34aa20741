-- Data in chunks that a place names.
use Rattle.std.proofs.Common.{◌≡◌, ℕ, ◌+◌, ◌-◌, ◌*◌, ◌≤◌, arith, List, [], ◌∷◌, ◌++◌, length, take, drop, refl, sym, ◌∙◌, ap, subst}
use Rattle.std.proofs.lemmas.List.{take-take, drop-take, length-take}
use Rattle.std.proofs.lemmas.List.Elements.{recursion_from_All}
use Rattle.std.proofs.lemmas.Grind.{flat_map-append}
use Rattle.std.proofs.Math.Nat.{add-mul}
use Rattle.std.specs.Prelude.{Option, Some, None, codes}
use Rattle.std.specs.List.{All, AllByRecursion}
use Rattle.adf_format.specs.Fields.{field}
use Rattle.adf_format.specs.Parts.{SpellsChunk}
use Rattle.adf_format.specs.Placement.{NodeParts, ChunkPart}
use Rattle.adf_format.specs.LaysOut.{payloads}
use Rattle.adf_format.specs.HeapRule.{payload_length}
use Rattle.adf_model.specs.declared.lists.Run.{Run}
use Rattle.adf_model.specs.Selection.{element_bytes}
use Rattle.strided.specs.RunLists.{spread, elements_of}
use Rattle.adf_model.specs.NodeData.{HoldsData}
use Rattle.adf_data.specs.declared.place.DataPlace.{DataPlace}
use Rattle.adf_data.specs.declared.chunks.Chunk.{Chunk}
use Rattle.adf_data.specs.Chunks.{parts_of, AreNamed, Named, NoneNamed}
use Rattle.adf_data.specs.Ranges.{AreIn}
use Rattle.adf_data.specs.Runs.{EndsIn, RunsRead, Names, Holds, NoRuns}
use Rattle.adf_data.proofs.Listing.{framed_within}
use Rattle.adf_data.proofs.PayloadLaws.{length-payloads}
use Rattle.adf_data.proofs.RunLaws.{run_field}

-- ---- from what a place names

pub spelled_in : (bytes : List ℕ) (cs : List ChunkPart) → AllByRecursion (λ (c : ChunkPart). SpellsChunk (field bytes c.place c.length) c.place c.length) cs → AreIn cs bytes
spelled_in bytes [] all = tt
spelled_in bytes (c ∷ cs) all =
    let long = all.0.long in
    ((omega (arith, long), framed_within bytes (codes "DaTa") (codes "dEnD") c.place c.length (omega (arith, long)) refl all.0.framed), spelled_in bytes cs all.1)

pub named_data : (at : DataPlace) (parts : NodeParts) (bytes data' : List ℕ) → Names at parts → HoldsData bytes parts (Some data') → AreNamed at parts bytes
named_data at parts bytes data' n h = record { count = n.count; pointer = n.pointer; chunk_table = h.chunk_table; chunks = h.chunks }

pub held_named : (at : DataPlace) (parts : NodeParts) (data' : List ℕ) (image : Option (List ℕ)) → Holds at parts data' image → Named at parts image
held_named at parts data' None h = absurd h
held_named at parts data' (Some bytes) h = named_data at parts bytes data' h.0 h.1

pub unnamed_runs : (at : DataPlace) (element : ℕ) (runs : List Run) (image : Option (List ℕ)) → NoneNamed at image → NoRuns at element runs image
unnamed_runs at element runs image none parts data' h all = none parts (held_named at parts data' image h)

data_short : (bytes : List ℕ) (parts : NodeParts) (data' : List ℕ) → HoldsData bytes parts (Some data') → length data' ≤ payload_length parts.chunks
data_short bytes parts data' h =
    let l = length-payloads parts.chunks bytes (spelled_in bytes parts.chunks h.chunks) in
    let t : length (take (length data') (payloads bytes parts.chunks)) ≡ length data' = ap length h.begins.1 in
    let m = length-take (length data') (payloads bytes parts.chunks) in omega (arith, l, t, m)

pub unread_runs : (at : DataPlace) (element : ℕ) (runs : List Run) (chunks : List Chunk) (image : Option (List ℕ)) → ((parts : NodeParts) → Named at parts image → parts_of chunks ≡ parts.chunks)
    → (All (EndsIn element (payload_length (parts_of chunks))) runs → ⊥) → NoRuns at element runs image
unread_runs at element runs chunks None says none parts data' h all = h
unread_runs at element runs chunks (Some bytes) says none parts data' h all =
    let e : parts_of chunks ≡ parts.chunks = says parts (named_data at parts bytes data' h.0 h.1) in
    let s : length data' ≤ payload_length (parts_of chunks) = subst (λ cs. length data' ≤ payload_length cs) (sym e) (data_short bytes parts data' h.1) in
    none (λ k d lt. let a = all k d lt in omega (arith, a, s))

-- ---- elements of the first bytes

field_of_front : (xs : List ℕ) (a m n : ℕ) → a + m ≤ n → field (take n xs) a m ≡ field xs a m
field_of_front xs a m n le =
    let e : n ≡ a + (n - a) = omega (arith, le) in
    ap (λ k. take m (drop a (take k xs))) e ∙ ap (take m) (drop-take a (n - a) xs) ∙ take-take m (n - a) (drop a xs) (omega (arith, le))

front_runs : (element n : ℕ) (runs : List Run) (xs : List ℕ) → AllByRecursion (EndsIn element n) runs → element_bytes element (spread runs) (take n xs) ≡ element_bytes element (spread runs) xs
front_runs element n [] xs all = refl
front_runs element n (r ∷ rs) xs all =
    let e : (r.first + r.count) * element ≡ r.first * element + r.count * element = add-mul r.first r.count element in
    let h : (r.first + r.count) * element ≤ n = all.0 in
    flat_map-append (λ (e : ℕ). take element (drop (e * element) (take n xs))) (elements_of r) (spread rs)
    ∙ ap (λ ys. ys ++ element_bytes element (spread rs) (take n xs))
    (run_field element r.first r.count (take n xs) ∙ field_of_front xs (r.first * element) (r.count * element) n (omega (arith, e, h)) ∙ sym (run_field element r.first r.count xs))
    ∙ ap (λ ys. element_bytes element (elements_of r) xs ++ ys) (front_runs element n rs xs all.1)
    ∙ sym (flat_map-append (λ (e : ℕ). take element (drop (e * element) xs)) (elements_of r) (spread rs))

pub elements_read : (at : DataPlace) (chunks : List Chunk) (element : ℕ) (runs : List Run) (text : List ℕ) (image : Option (List ℕ)) → ((parts : NodeParts) → Named at parts image → parts_of chunks ≡ parts.chunks) → RunsRead (parts_of chunks) element runs text image
    → (parts : NodeParts) (data' : List ℕ) → Holds at parts data' image → All (EndsIn element (length data')) runs → text ≡ element_bytes element (spread runs) data'
elements_read at chunks element runs text None says read parts data' h all = absurd h
elements_read at chunks element runs text (Some bytes) says read parts data' h all =
    let e : parts_of chunks ≡ parts.chunks = says parts (named_data at parts bytes data' h.0 h.1) in
    let r : AreIn parts.chunks bytes → text ≡ element_bytes element (spread runs) (payloads bytes parts.chunks) = subst (λ cs. AreIn cs bytes → text ≡ element_bytes element (spread runs) (payloads bytes cs)) e read in
    r (spelled_in bytes parts.chunks h.1.chunks) ∙ sym (front_runs element (length data') runs (payloads bytes parts.chunks) (recursion_from_All (EndsIn element (length data')) runs all))
    ∙ ap (element_bytes element (spread runs)) h.1.begins.1
