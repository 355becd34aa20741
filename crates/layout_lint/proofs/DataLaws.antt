-- The chunks of a node with their table and what they hold.
use Rattle.std.proofs.Common.{◌≡◌, ℕ, zero, suc, ◌+◌, ◌-◌, ◌*◌, ◌≤◌, ◌<◌, List, [], ◌∷◌, ◌++◌, map, length, take, drop, refl, sym, ◌∙◌, ap, arith, Bool, true, false, cond, append_assoc, length-append}
use Rattle.std.specs.Prelude.{None, Some, nat_lt}
use Rattle.std.specs.List.{All, range_with_len}
use Rattle.std.proofs.lemmas.Bool.{false≢true}
use Rattle.std.proofs.lemmas.Bool.Decides.{nat_tests}
use Rattle.std.proofs.lemmas.List.{take_all}
use Rattle.std.proofs.lemmas.List.Elements.{All-same, All-append, All-nil, All-cons}
use Rattle.std.proofs.Math.Seq.{drop-append_seam}
use Rattle.adf_format.specs.Pointer.{place_of}
use Rattle.adf_format.specs.Fields.{field}
use Rattle.adf_format.specs.Parts.{chunk_table_length}
use Rattle.adf_format.specs.Placement.{extent}
use Rattle.adf_format.specs.RecordFields.{field_in, chunk_start_at, chunk_end_at}
use Rattle.adf_format.specs.declared.types.Extent.{Extent}
use Rattle.adf_format.specs.declared.types.ExtentKind.{ExtentKind}
use Rattle.adf_format.specs.Tiles.{total_length, is_free_kind, is_filler_kind}
use Rattle.adf_format.specs.Checks.{Row, first_broken}
use Rattle.adf_format.specs.FirstFault.{ChunkVisit, chunk_visits, chunk_count, chunk_in, chunks_in, chunk_table_rows, chunk_rows, data_rows, rows_unless, chunk_table_extents_at}
use Rattle.adf_format.proofs.WalkLaws.{total_length-append}
use Rattle.adf_records.specs.declared.NodeHeader.{NodeHeader}
use Rattle.layout_lint.specs.declared.verdict.Halt.{Halt}
use Rattle.layout_lint.specs.Halts.{Breaks}
use Rattle.layout_lint.specs.Gaps.{IsSolid}
use Rattle.layout_lint.specs.Chunks.{listed_chunk, chunk_visit, chunk_list, data_extent, list_extents, IsChunk, AddsChunks}
use Rattle.layout_lint.specs.Nodes.{IsHeaderAt, chunk_of, data_rows_at, data_extents_at}
use Rattle.layout_lint.proofs.RowSteps.{kept_2, breaks_first, breaks_2, breaks_then}

-- ---- the chunks as the code lists them

alike : {A : Type 0} (f g : ℕ → A) → ((i : ℕ) → f i ≡ g i) → (a n : ℕ) → map f (range_with_len a n) ≡ map g (range_with_len a n)
alike f g same a zero = refl
alike f g same a (suc n) = ap (λ x. x ∷ map f (range_with_len (a + 1) n)) (same a) ∙ ap (λ xs. g a ∷ xs) (alike f g same (a + 1) n)

two_or_more : (n : ℕ) → nat_lt (n + 2) 2 ≡ false
two_or_more n = grind (arith, nat_tests)

abbrev named : List ℕ → ℕ → ℕ → ChunkVisit
named image c i = record { place = place_of (field_in image (chunk_start_at c i)); listed = Some (place_of (field_in image (chunk_end_at c i))) }

same_visit : (image : List ℕ) (c n i : ℕ) → chunk_visit image c (n + 2) i ≡ named image c i
same_visit image c n i = ap (λ b. cond b (record { place = c; listed = None }) (listed_chunk image (c + 16 + 24 * i))) (two_or_more n) ∙ ap (λ o. record { place = place_of (field image (c + 16 + 24 * i) 12); listed = Some (place_of (field image o 12)) }) (omega arith)

pub chunks_listed : (image : List ℕ) (c count : ℕ) → chunk_list image c count ≡ chunk_visits image c count
chunks_listed image c zero = refl
chunks_listed image c (suc zero) = refl
chunks_listed image c (suc (suc n)) = let two : suc (suc n) ≡ n + 2 = omega arith in ap (chunk_list image c) two ∙ alike (chunk_visit image c (n + 2)) (named image c) (same_visit image c n) 0 (n + 2)

-- ---- rules and extents, as the code knows them

module _ (image : List ℕ) (wide : Bool) (end used p c : ℕ) (n : NodeHeader) (is : IsHeaderAt image wide p n) (place : c ≡ chunk_of n) where
  at : c ≡ chunk_in image wide p
  at = place ∙ is.chunk

  pub visits_are : chunk_list image c n.chunks ≡ chunks_in image wide p
  visits_are = chunks_listed image c n.chunks ∙ ap (λ x. chunk_visits image x n.chunks) at ∙ ap (chunk_visits image (chunk_in image wide p)) is.chunks

  list_are : list_extents c n.chunks ≡ chunk_table_extents_at image wide p
  list_are = ap (λ x. list_extents x n.chunks) at ∙ ap (list_extents (chunk_in image wide p)) is.chunks

  abbrev list_rows : List Row
  list_rows = rows_unless (nat_lt n.chunks 2) (chunk_table_rows image end used c n.chunks)

  abbrev all_rows : ℕ → ℕ → ℕ → List ChunkVisit → List Row
  all_rows x m behind vs = rows_unless (nat_lt m 2) (chunk_table_rows image end used x m) ++ (chunk_rows image end behind vs ++ data_rows image wide p)

  module _ (behind : ℕ) (spent : behind ≡ used + total_length (list_extents c n.chunks)) where
    abbrev each_rows : List Row
    each_rows = chunk_rows image end behind (chunk_list image c n.chunks)

    said : data_rows_at image wide end used p ≡ list_rows ++ (each_rows ++ data_rows image wide p)
    said = append_assoc (rows_unless (nat_lt (chunk_count image wide p) 2) (chunk_table_rows image end used (chunk_in image wide p) (chunk_count image wide p)))
        (chunk_rows image end (used + total_length (chunk_table_extents_at image wide p)) (chunks_in image wide p)) (data_rows image wide p)
        ∙ sym (ap (λ x. all_rows x n.chunks behind (chunk_list image c n.chunks)) at ∙ ap (λ m. all_rows (chunk_in image wide p) m behind (chunk_list image c n.chunks)) is.chunks
        ∙ ap (λ t. all_rows (chunk_in image wide p) (chunk_count image wide p) t (chunk_list image c n.chunks)) (spent ∙ ap (λ es. used + total_length es) list_are)
        ∙ ap (all_rows (chunk_in image wide p) (chunk_count image wide p) (used + total_length (chunk_table_extents_at image wide p))) visits_are)

    pub breaks_chunks : (h : Halt) → first_broken list_rows ≡ None → Breaks each_rows h → Breaks (data_rows_at image wide end used p) h
    breaks_chunks h list b = rw said (breaks_2 list_rows each_rows (data_rows image wide p) h list b)

    pub breaks_contents : (h : Halt) → first_broken list_rows ≡ None → first_broken each_rows ≡ None → Breaks (data_rows image wide p) h → Breaks (data_rows_at image wide end used p) h
    breaks_contents h list each b = rw said (breaks_then list_rows (each_rows ++ data_rows image wide p) h list (breaks_then each_rows (data_rows image wide p) h each b))

    pub keeps_data : first_broken list_rows ≡ None → first_broken each_rows ≡ None → first_broken (data_rows image wide p) ≡ None → first_broken (data_rows_at image wide end used p) ≡ None
    keeps_data list each contents = rw said (kept_2 list_rows (each_rows ++ data_rows image wide p) list (kept_2 each_rows (data_rows image wide p) each contents))

    pub used_said : (all : ℕ) → all ≡ behind + total_length (map (data_extent image) (chunk_list image c n.chunks)) → all ≡ used + total_length (data_extents_at image wide p)
    used_said all e =
        let list : total_length (list_extents c n.chunks) ≡ total_length (chunk_table_extents_at image wide p) = ap total_length list_are in
        let each : total_length (map (data_extent image) (chunk_list image c n.chunks)) ≡ total_length (map (data_extent image) (chunks_in image wide p)) = ap (λ vs. total_length (map (data_extent image) vs)) visits_are in
        let both : total_length (data_extents_at image wide p) ≡ total_length (chunk_table_extents_at image wide p) + total_length (map (data_extent image) (chunks_in image wide p)) = total_length-append (chunk_table_extents_at image wide p) (map (data_extent image) (chunks_in image wide p)) in
        omega arith

  pub breaks_list : (h : Halt) → Breaks list_rows h → Breaks (data_rows_at image wide end used p) h
  breaks_list h b = rw (said (used + total_length (list_extents c n.chunks)) refl) (breaks_first list_rows _ h b)

  pub extents_said : (old mid new : List Extent) → mid ≡ old ++ list_extents c n.chunks → new ≡ mid ++ map (data_extent image) (chunk_list image c n.chunks) → new ≡ old ++ data_extents_at image wide p
  extents_said old mid new list each =
      each ∙ ap (λ es. es ++ map (data_extent image) (chunk_list image c n.chunks)) list ∙ append_assoc old (list_extents c n.chunks) (map (data_extent image) (chunk_list image c n.chunks))
      ∙ ap (λ es. old ++ (es ++ map (data_extent image) (chunk_list image c n.chunks))) list_are ∙ ap (λ vs. old ++ (chunk_table_extents_at image wide p ++ map (data_extent image) vs)) visits_are

-- ---- what was put behind the extents

pub put_behind : (all new mid more : List Extent) (first : ℕ) → all ≡ new → new ≡ mid ++ more → first ≡ length mid → take (length all - first) (drop first all) ≡ more
put_behind all new mid more first same new_is first_is =
    let whole : all ≡ mid ++ more = same ∙ new_is in
    let rest : drop first all ≡ more = ap (drop first) whole ∙ ap (λ k. drop k (mid ++ more)) first_is ∙ drop-append_seam mid more in
    let long : length all ≡ length mid + length more = ap length whole ∙ length-append mid more in
    ap (take (length all - first)) rest ∙ take_all (length all - first) more (omega arith)

data_solid : (end : ℕ) (e : Extent) → IsChunk end e → e.kind ≡ ExtentKind.DataChunk → IsSolid end e
data_solid end e is kind = record {
  part = ap is_filler_kind kind;
  some = let long = is.long in omega arith;
  inside = is.inside;
  long = λ free. absurd (false≢true (sym (ap is_free_kind kind) ∙ free));
}

list_solid : (end c count : ℕ) (few : Bool) → nat_lt count 2 ≡ few → (1 < count → c + chunk_table_length count ≤ end + 1) → All (IsSolid end) (cond few [] (extent ExtentKind.ChunkTable c (chunk_table_length count) ∷ []))
list_solid end c count true e fits = All-nil (IsSolid end)
list_solid end c count false e fits =
    let several : 1 < count = grind (arith, nat_tests) in
    All-cons (IsSolid end) (extent ExtentKind.ChunkTable c (chunk_table_length count)) [] (record { part = refl; some = omega arith; inside = fits several; long = λ free. absurd (false≢true free) }) (All-nil (IsSolid end))

pub all_solid : (end c count total : ℕ) (old mid new : List Extent) → mid ≡ old ++ list_extents c count → (1 < count → c + chunk_table_length count ≤ end + 1) → AddsChunks end total mid new → All (IsSolid end) old → All (IsSolid end) new
all_solid end c count total old mid new list fits a solid =
    All-same (IsSolid end) new (mid ++ a.more) a.added (All-append (IsSolid end) mid a.more
    (All-same (IsSolid end) mid (old ++ list_extents c count) list (All-append (IsSolid end) old (list_extents c count) solid (list_solid end c count (nat_lt count 2) refl fits)))
    (λ k d lt. data_solid end _ (a.chunks k d lt) (a.kinds k d lt)))
