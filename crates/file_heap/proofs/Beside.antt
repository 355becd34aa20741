-- The lists of free chunks, the end pointer and the fillers stay where only bytes beside them change.
use Rattle.std.proofs.Common.{◌≡◌, ℕ, ◌+◌, ◌<◌, ◌≤◌, arith, List, [], ◌∷◌, ◌++◌, length, filter, refl, sym, ◌∙◌, ap, subst, true}
use Rattle.std.proofs.lemmas.Bool.Decides.{nat_tests}
use Rattle.std.proofs.lemmas.Option.{slice_get-get_or}
use Rattle.std.specs.Prelude.{Some, None, slice_get}
use Rattle.adf_format.specs.declared.fields.TheConstants.{FREE_TABLE_PLACE, FREE_TABLE_LENGTH}
use Rattle.adf_format.specs.declared.types.Extent.{Extent}
use Rattle.adf_format.specs.Fields.{field}
use Rattle.adf_format.specs.Parts.{SpellsFree, SpellsFreeTable}
use Rattle.adf_format.specs.Tiles.{cover, holds_byte, is_free}
use Rattle.adf_format.specs.LaysOut.{ThreadsFreeChunks, IsThreaded, first_place, last_place}
use Rattle.adf_format.proofs.FrameLaws.{field_kept}
use Rattle.adf_format.proofs.HeapSteps.{cover-append}
use Rattle.file_heap.specs.Heap.{ChangesOnly}
use Rattle.file_heap.specs.Heap as heap
use Rattle.file_heap.specs.Links.{ThreadsThese, lists_of}
use Rattle.file_heap.specs.Beside.{AreBeside, ListsStay, EndStays, FillersStay}
use Rattle.file_heap.proofs.Ranges.{same_cover}
use Rattle.file_heap.proofs.Threads.{free_within, table_within}
use Rattle.file_heap.proofs.SpaceLaws.{end_stays, these_slots}

module _ (ranges : List Extent) (old new : List ℕ) (c : ChangesOnly ranges old new) where
  kept_byte : (b : ℕ) → b < length old → cover ranges b ≡ 0 → slice_get new b ≡ slice_get old b
  kept_byte b lt none = let l = c.longer in slice_get-get_or new b 0 (omega (arith, l, lt)) ∙ ap (λ x. Some x) (c.others b none) ∙ sym (slice_get-get_or old b 0 lt)

  chunk_holds : (f : Extent) (b : ℕ) → f.place ≤ b → b < f.place + f.length → holds_byte f b ≡ true
  chunk_holds f b low high = grind (arith, nat_tests)

  threads_stay : (fs : List Extent) → ((b : ℕ) → 0 < cover fs b → cover ranges b ≡ 0) → IsThreaded old fs → IsThreaded new fs
  threads_stay [] none t = tt
  threads_stay (f ∷ fs) none t =
      let within = free_within old f.place f.length (first_place fs) t.0 in (
        subst (λ (bytes : List ℕ). SpellsFree bytes f.place f.length (first_place fs)) (sym (field_kept f.length f.place old new
            (λ b low high. kept_byte b (omega (arith, high, within)) (none b (let h = chunk_holds f b low high in rw h (omega arith)))))) t.0,
        threads_stay fs (λ b some. none b (omega (arith, some))) t.1,
      )

  pub lists_stay : (gaps : List Extent) → AreBeside ranges gaps → (t : ThreadsFreeChunks old gaps) → ThreadsThese new gaps (lists_of t)
  lists_stay gaps beside t = record {
    threads = record {
      small = t.small;
      medium = t.medium;
      large = t.large;
      table = subst (λ (bytes : List ℕ). SpellsFreeTable bytes ((first_place t.small, last_place t.small) ∷ (first_place t.medium, last_place t.medium) ∷ (first_place t.large, last_place t.large) ∷ [])) (sym same) t.table;
      each = (
        threads_stay t.small (λ b some. free b (let s = split b in omega (arith, s, some))) t.each.0,
        threads_stay t.medium (λ b some. free b (let s = split b in omega (arith, s, some))) t.each.1,
        threads_stay t.large (λ b some. free b (let s = split b in omega (arith, s, some))) t.each.2,
      );
      all = t.all;
    };
    are = λ k lt. refl;
  }
    where
      within : 266 ≤ length old
      within = table_within old ((first_place t.small, last_place t.small) ∷ (first_place t.medium, last_place t.medium) ∷ (first_place t.large, last_place t.large) ∷ []) t.table

      same : field new FREE_TABLE_PLACE FREE_TABLE_LENGTH ≡ field old FREE_TABLE_PLACE FREE_TABLE_LENGTH
      same = field_kept FREE_TABLE_LENGTH FREE_TABLE_PLACE old new (λ b low high. kept_byte b (omega (arith, high, within)) (beside.table b low high))

      split : (b : ℕ) → cover (t.small ++ t.medium ++ t.large) b ≡ cover t.small b + cover t.medium b + cover t.large b
      split b = cover-append (t.small ++ t.medium) t.large b ∙ ap (λ n. n + cover t.large b) (cover-append t.small t.medium b)

      free : (b : ℕ) → 0 < cover (t.small ++ t.medium ++ t.large) b → cover ranges b ≡ 0
      free b some = beside.chunks b (subst (λ n. 0 < n) (same_cover (t.small ++ t.medium ++ t.large) (filter is_free gaps) t.all b) some)

pub all_lists_stay : ListsStay
unfolding heap.IsThreaded
all_lists_stay ranges space None None c beside th = tt
all_lists_stay ranges space None (Some new) c beside th = absurd c
all_lists_stay ranges space (Some old) None c beside th = absurd c
all_lists_stay ranges space (Some old) (Some new) c beside th = these_slots new space.heap.gaps space.slots th.threads th.spots (lists_stay ranges old new c space.heap.gaps beside th.threads)

pub ends_stay : EndStays
unfolding heap.IsThreaded
ends_stay ranges space end old new c none th = end_stays ranges space.heap.gaps space.slots end old new none th c

pub all_fillers_stay : FillersStay
all_fillers_stay ranges gaps None None c none = tt
all_fillers_stay ranges gaps None (Some new) c none = c
all_fillers_stay ranges gaps (Some old) None c none = c
all_fillers_stay ranges gaps (Some old) (Some new) c none = λ held k some. c.others k (none k some) ∙ held k some
