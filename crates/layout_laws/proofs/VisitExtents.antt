-- The extents of a visit are those of the parts that the image names.
use Rattle.std.proofs.Common.{◌≡◌, inl, inr, ℕ, zero, suc, refl, sym, ◌∙◌, ap, arith, List, [], ◌∷◌, ◌++◌, length, map, ◌+◌, ◌<◌, ◌≤◌, Bool, true, false, cond}
use Rattle.std.proofs.lemmas.List.{length-map}
use Rattle.std.proofs.lemmas.Bool.Decides.{nat_tests, leb_tells}
use Rattle.std.specs.Prelude.{Some, None, nat_lt, ◌==◌}
use Rattle.adf_format.specs.declared.types.Extent.{Extent}
use Rattle.adf_format.specs.declared.types.ExtentKind.{ExtentKind}
use Rattle.adf_format.specs.Tiles.{cover, holds_byte, end_of}
use Rattle.adf_format.specs.Parts.{node_length, table_length, chunk_table_length}
use Rattle.adf_format.specs.Placement.{extent, table_extents, chunk_table_extents, chunk_extents, node_extents, head_extents}
use Rattle.adf_format.specs.FirstFault.{Visit, ChunkVisit, chunk_visits, chunks_in, chunk_in, chunk_count, chunk_length, entries_in, table_in, table_extents_at, chunk_table_extents_at, visit_extents}
use Rattle.adf_format.proofs.ClosureLaws.{IsIn, in_left, in_right}
use Rattle.layout_laws.specs.FoundLayout.{parts_at, chunk_part, chunk_table_part}
use Rattle.adf_format.proofs.RowLaws.{length-counted}

-- ---- a visit

pub length-chunk_visits : (image : List ℕ) (c n : ℕ) → length (chunk_visits image c n) ≡ n
length-chunk_visits image c zero = refl
length-chunk_visits image c (suc zero) = refl
length-chunk_visits image c (suc (suc n)) = length-counted _ 0 (n + 2) ∙ two n
  where
    two : (n : ℕ) → n + 2 ≡ suc (suc n)
    two n = omega arith

pub table_here : (t n : ℕ) (b : Bool) → table_extents (cond b None (Some (record { place = t; entries = n }))) ≡ cond b [] (extent ExtentKind.SubNodes t (table_length n) ∷ [])
table_here t n true = refl
table_here t n false = refl

pub chunk_table_here : (c n m : ℕ) (b : Bool) → m ≡ n → chunk_table_extents (cond b None (Some c)) m ≡ cond b [] (extent ExtentKind.ChunkTable c (chunk_table_length n) ∷ [])
chunk_table_here c n m true e = refl
chunk_table_here c n m false e = ap (λ k. extent ExtentKind.ChunkTable c (chunk_table_length k) ∷ []) e

chunks_here : (image : List ℕ) (vs : List ChunkVisit) → chunk_extents (map (chunk_part image) vs) ≡ map (λ (c : ChunkVisit). extent ExtentKind.DataChunk c.place (chunk_length image c.place)) vs
chunks_here image [] = refl
chunks_here image (v ∷ vs) = ap (λ xs. extent ExtentKind.DataChunk v.place (chunk_length image v.place) ∷ xs) (chunks_here image vs)

pub visit_parts : (image : List ℕ) (wide : Bool) (v : Visit) → visit_extents image wide v ≡ node_extents wide (parts_at image wide v.place)
unfolding visit_extents
visit_parts image wide v =
    let chunks = chunks_in image wide v.place in
    let many : length (map (chunk_part image) chunks) ≡ chunk_count image wide v.place = length-map chunks (chunk_part image) ∙ length-chunk_visits image (chunk_in image wide v.place) (chunk_count image wide v.place) in
    sym (ap (λ xs. extent ExtentKind.Node v.place (node_length wide) ∷ xs ++ chunk_table_extents (chunk_table_part (chunk_in image wide v.place) (chunk_count image wide v.place)) (length (map (chunk_part image) chunks)) ++ chunk_extents (map (chunk_part image) chunks))
    (table_here (table_in image v.place) (entries_in image v.place) (entries_in image v.place == 0))
    ∙ ap (λ xs. extent ExtentKind.Node v.place (node_length wide) ∷ table_extents_at image v.place ++ xs ++ chunk_extents (map (chunk_part image) chunks))
    (chunk_table_here (chunk_in image wide v.place) (chunk_count image wide v.place) (length (map (chunk_part image) chunks)) (nat_lt (chunk_count image wide v.place) 2) many)
    ∙ ap (λ xs. extent ExtentKind.Node v.place (node_length wide) ∷ table_extents_at image v.place ++ chunk_table_extents_at image wide v.place ++ xs) (chunks_here image chunks))

-- ---- covers

pub head_holds : (b : ℕ) → b < 266 → 1 ≤ cover head_extents b
head_holds b h = elim (leb_tells (suc b) 186) [
  | inl k ↦ (let low = k.1 in let one : holds_byte (extent ExtentKind.Header 0 186) b ≡ true = grind (arith, nat_tests) in rw one (omega arith))
  | inr k ↦ (let high = k.1 in let two : holds_byte (extent ExtentKind.FreeTable 186 80) b ≡ true = grind (arith, nat_tests) in rw two (omega arith))
]

pub member_cover : (e : Extent) (xs : List Extent) (b : ℕ) → IsIn e xs → holds_byte e b ≡ true → 1 ≤ cover xs b
member_cover e [] b h k = absurd h
member_cover e (x ∷ xs) b (inl s) k = rw (ap (λ (y : Extent). holds_byte y b) (sym s) ∙ k) (omega arith)
member_cover e (x ∷ xs) b (inr h) k = let rest = member_cover e xs b h k in omega (arith, rest)

pub first_byte : (e : Extent) → 0 < e.length → holds_byte e e.place ≡ true
first_byte e h = grind (arith, nat_tests)

pub last_byte_held : (e : Extent) → 0 < e.length → (b : ℕ) → b + 1 ≡ end_of e → holds_byte e b ≡ true
last_byte_held e h b k = grind (arith, nat_tests)

-- ---- members
