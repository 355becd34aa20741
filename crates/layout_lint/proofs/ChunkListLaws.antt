-- The chunks of a node, one after another.
use Rattle.std.proofs.Common.{◌≡◌, ℕ, suc, ◌+◌, ◌-◌, ◌*◌, ◌<◌, ◌≤◌, List, ◌++◌, [], ◌∷◌, map, refl, sym, ◌∙◌, ap, arith, zero-add, append_assoc, length-append, get_or, true, false, cond}
use Rattle.std.specs.Prelude.{Option, Some, None, length, nat_lt}
use Rattle.std.proofs.lemmas.Bool.Decides.{nat_tests}
use Rattle.std.proofs.lemmas.List.{map-append, get_or-map}
use Rattle.std.proofs.lemmas.List.FromFn.{map-range_with_len_more, get_or-map-range_with_len}
use Rattle.std.proofs.lemmas.List.Elements.{All-push}
use Rattle.std.specs.List.{range_with_len}
use Rattle.adf_format.specs.declared.types.Extent.{Extent}
use Rattle.adf_format.specs.Tiles.{total_length}
use Rattle.adf_format.specs.Checks.{Row, Fault, first_broken}
use Rattle.adf_format.specs.FirstFault.{ChunkVisit, chunk_rows, chunk_length, payload_total, count_up, one_chunk_rows}
use Rattle.layout_lint.specs.declared.chunks.Listed.{Listed}
use Rattle.layout_lint.specs.declared.verdict.Halt.{Halt}
use Rattle.layout_lint.specs.declared.verdict.Halt.TheVariants as halt
use Rattle.adf_format.specs.declared.types.ExtentKind.{ExtentKind}
use Rattle.adf_format.specs.Placement.{extent}
use Rattle.layout_lint.specs.Halts.{Breaks}
use Rattle.layout_lint.specs.Chunks.{visit_of, entry_visit, listed_chunks, AreListed, listed_chunk, chunk_visit, data_extent, AddsChunks, IsChunk}
use Rattle.layout_lint.proofs.RowSteps.{kept_then, breaks_first}

-- the numbers from i on, where there are some
pub from_here : {A : Type 0} (f : ℕ → A) (i n : ℕ) → i < n → map f (range_with_len i (n - i)) ≡ f i ∷ map f (range_with_len (i + 1) (n - (i + 1)))
from_here f i n lt = let count : n - i ≡ suc (n - (i + 1)) = omega (arith, lt) in ap (λ k. map f (range_with_len i k)) count

pub none_left : {A : Type 0} (f : ℕ → A) (i n : ℕ) → n ≤ i → map f (range_with_len i (n - i)) ≡ []
none_left f i n le = let count : n - i ≡ 0 = omega (arith, le) in ap (λ k. map f (range_with_len i k)) count

pub all_left : {A : Type 0} (f : ℕ → A) (n : ℕ) → map f (range_with_len 0 (n - 0)) ≡ map f (count_up n)
all_left f n = let count : n - 0 ≡ n = omega arith in ap (λ k. map f (range_with_len 0 k)) count

-- the rules of a chunk, and those of the chunks behind it
pub chunk_first : (image : List ℕ) (end used : ℕ) (v : ChunkVisit) (vs : List ChunkVisit) → chunk_rows image end used (v ∷ vs) ≡ one_chunk_rows image end used v ++ chunk_rows image end (used + chunk_length image v.place) vs
unfolding chunk_rows one_chunk_rows
chunk_first image end used v vs = refl

pub no_chunks : (image : List ℕ) (end used : ℕ) → first_broken (chunk_rows image end used []) ≡ None
unfolding chunk_rows one_chunk_rows
no_chunks image end used = refl

module _ (image : List ℕ) (end : ℕ) (f : ℕ → ChunkVisit) (i n : ℕ) (lt : i < n) where
  abbrev pub here : List ChunkVisit
  here = map f (range_with_len i (n - i))

  abbrev pub behind : List ChunkVisit
  behind = map f (range_with_len (i + 1) (n - (i + 1)))

  pub breaks_here : (used : ℕ) (h : Halt) → Breaks (one_chunk_rows image end used (f i)) h → Breaks (chunk_rows image end used here) h
  breaks_here used h b = rw (from_here f i n lt, chunk_first) (breaks_first (one_chunk_rows image end used (f i)) (chunk_rows image end (used + chunk_length image (f i).place) behind) h b)

  pub kept_here : (used m : ℕ) (o : Option Fault) → m ≡ chunk_length image (f i).place → first_broken (one_chunk_rows image end used (f i)) ≡ None → o ≡ first_broken (chunk_rows image end used here) → o ≡ first_broken (chunk_rows image end (used + m) behind)
  kept_here used m o long kept rest =
      rest ∙ ap (λ vs. first_broken (chunk_rows image end used vs)) (from_here f i n lt) ∙ ap first_broken (chunk_first image end used (f i) behind)
      ∙ kept_then (one_chunk_rows image end used (f i)) (chunk_rows image end (used + chunk_length image (f i).place) behind) _ kept refl
      ∙ ap (λ k. first_broken (chunk_rows image end (used + k) behind)) (sym long)

  pub used_here : (all used m : ℕ) → m ≡ chunk_length image (f i).place → all ≡ used + total_length (map (data_extent image) here) → all ≡ (used + m) + total_length (map (data_extent image) behind)
  used_here all used m long e =
      let first : total_length (map (data_extent image) here) ≡ m + total_length (map (data_extent image) behind) =
      ap (λ vs. total_length (map (data_extent image) vs)) (from_here f i n lt) ∙ ap (λ k. k + total_length (map (data_extent image) behind)) (sym long) in
      omega arith

  pub payload_here : (all payload m : ℕ) → m ≡ chunk_length image (f i).place → all ≡ payload + payload_total image here → all ≡ (payload + (m - 20)) + payload_total image behind
  payload_here all payload m long e =
      let first : payload_total image here ≡ (m - 20) + payload_total image behind = ap (payload_total image) (from_here f i n lt) ∙ ap (λ k. (k - 20) + payload_total image behind) (sym long) in
      omega arith

  pub extents_here : (all extents new : List Extent) (e : Extent) → new ≡ extents ++ e ∷ [] → e ≡ data_extent image (f i) → all ≡ extents ++ map (data_extent image) here → all ≡ new ++ map (data_extent image) behind
  extents_here all extents new e added is rest =
      rest ∙ ap (λ vs. extents ++ map (data_extent image) vs) (from_here f i n lt) ∙ ap (λ x. extents ++ (x ∷ map (data_extent image) behind)) (sym is)
      ∙ sym (append_assoc extents (e ∷ []) (map (data_extent image) behind)) ∙ ap (λ xs. xs ++ map (data_extent image) behind) (sym added)

-- ---- a chunk as the table names it

several : (n : ℕ) → nat_lt 1 n ≡ true → nat_lt n 2 ≡ false
several n e = grind (arith, nat_tests)

one_or_none : (n : ℕ) → nat_lt 1 n ≡ false → nat_lt n 2 ≡ true
one_or_none n e = grind (arith, nat_tests)

pub more_than_one : (n : ℕ) → nat_lt 1 n ≡ true → 1 < n
more_than_one n e = grind (arith, nat_tests)

pub one_more_listed : (image : List ℕ) (c i : ℕ) (old new : List Listed) (l : Listed) → new ≡ old ++ l ∷ [] → entry_visit l ≡ listed_chunk image (c + 16 + 24 * i) → map entry_visit old ≡ listed_chunks image c i → map entry_visit new ≡ listed_chunks image c (i + 1)
one_more_listed image c i old new l pushed is before =
    ap (map entry_visit) pushed ∙ map-append entry_visit old (l ∷ []) ∙ ap (λ vs. vs ++ entry_visit l ∷ []) before ∙ ap (λ v. listed_chunks image c i ++ v ∷ []) is
    ∙ sym (map-range_with_len_more (λ j. listed_chunk image (c + 16 + 24 * j)) 0 i i (zero-add i))

-- the entry at a position is that of the image
pub chunk_listed : (image : List ℕ) (c count i : ℕ) (list : List Listed) (d : Listed) → nat_lt 1 count ≡ true → i < count → length list ≡ count → AreListed image c count list
    → visit_of (record { place = (get_or list i d).place; listed = Some (get_or list i d).tail }) ≡ chunk_visit image c count i
chunk_listed image c count i list d listed within all are =
    sym (get_or-map entry_visit list i d (entry_visit d) (omega (arith, within, all)))
    ∙ ap (λ vs. get_or vs i (entry_visit d)) (are (more_than_one count listed))
    ∙ get_or-map-range_with_len (λ j. listed_chunk image (c + 16 + 24 * j)) 0 count i i (entry_visit d) within (zero-add i)
    ∙ ap (λ b. cond b (record { place = c; listed = None }) (listed_chunk image (c + 16 + 24 * i))) (sym (several count listed))

pub chunk_alone : (image : List ℕ) (c count i : ℕ) → nat_lt 1 count ≡ false → visit_of (record { place = c; listed = None }) ≡ chunk_visit image c count i
chunk_alone image c count i e = ap (λ b. cond b (record { place = c; listed = None }) (listed_chunk image (c + 16 + 24 * i))) (sym (one_or_none count e))

-- one more chunk is put behind
pub adds_one : (end n : ℕ) (old extents new : List Extent) (e : Extent) → AddsChunks end n old extents → new ≡ extents ++ e ∷ [] → IsChunk end e → e.kind ≡ ExtentKind.DataChunk → AddsChunks end (n + 1) old new
adds_one end n old extents new e a added is kind = record {
  more = a.more ++ e ∷ [];
  added = added ∙ ap (λ xs. xs ++ e ∷ []) a.added ∙ append_assoc old a.more (e ∷ []);
  chunks = All-push (IsChunk end) a.more e a.chunks is;
  count = let one : length (a.more ++ e ∷ []) ≡ length a.more + 1 = length-append a.more (e ∷ []) in let n' = a.count in omega arith;
  kinds = All-push (λ (x : Extent). x.kind ≡ ExtentKind.DataChunk) a.more e a.kinds kind;
}

pub same_extent : (image : List ℕ) (place n : ℕ) (v : ChunkVisit) → place ≡ v.place → n ≡ chunk_length image v.place → record { place = place; length = n; kind = ExtentKind.DataChunk } ≡ data_extent image v
same_extent image place n v p size = ap (λ (q : ℕ). extent ExtentKind.DataChunk q n) p ∙ ap (λ (k : ℕ). extent ExtentKind.DataChunk v.place k) size

-- rows that have the same first broken rule
pub breaks_like : (xs ys : List Row) (h : Halt) → first_broken xs ≡ first_broken ys → Breaks ys h → Breaks xs h
breaks_like xs ys (halt.Broken b) e k = e ∙ k
breaks_like xs ys halt.Memory e k = tt
breaks_like xs ys halt.Read e k = tt
