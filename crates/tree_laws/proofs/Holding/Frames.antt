-- Bytes that stay keep the gaps, the free table, the file header and the nodes.
use Rattle.std.proofs.Common.{add_assoc, ◌≡◌, ℕ, zero, suc, refl, sym, ◌∙◌, ap, subst, arith, List, [], ◌∷◌, ◌++◌, filter, ◌+◌, ◌<◌, ◌≤◌, Bool, true, false, cond}
use Rattle.std.proofs.lemmas.Bool.Decides.{nat_tests}
use Rattle.std.specs.Prelude.{Some, slice_get, ◌==◌, ◌&&◌, IsTrue}
use Rattle.adf_format.specs.declared.types.Extent.{Extent}
use Rattle.adf_format.specs.Fields.{field}
use Rattle.adf_format.specs.Tiles.{cover, end_of, is_free, is_filler, holds_byte}
use Rattle.adf_format.specs.Parts.{IsFiller, SpellsFreeTable, SpellsFree}
use Rattle.adf_format.specs.LaysOut.{ThreadsFreeChunks, IsThreaded, count_of, first_place, last_place}
use Rattle.adf_format.proofs.BehindEnd.{counts_itself, count_append, counts_more}
use Rattle.adf_format.proofs.FrameLaws.{field_kept}
use Rattle.adf_model.proofs.Creation.PartsApart.{range_in}
use Rattle.adf_model.proofs.Basics.{not_there, same_Some}

-- ---- what lies in the gaps

-- the bytes of a free chunk that is counted among gaps are theirs
counted_covered : (gaps : List Extent) (place n b : ℕ) → 0 < count_of place n (filter is_free gaps) → place ≤ b → b < place + n → 0 < cover gaps b
counted_covered [] place n b some low high = absurd (omega (arith, some))
counted_covered (g ∷ gs) place n b some low high = by_kind (λ h. counted_covered gs place n b h low high) (is_free g) some
  where
    later : (0 < count_of place n (filter is_free gs) → 0 < cover gs b) → 0 < count_of place n (filter is_free gs) → 0 < cover (g ∷ gs) b
    later rest h = let ih = rest h in plain (cond (holds_byte g b) 1 0) (cover gs b) ih
      where
        plain : (x y : ℕ) → 0 < y → 0 < x + y
        plain x y h = omega (arith, h)

    here : g.place ≡ place → g.length ≡ n → 0 < cover (g ∷ gs) b
    here at long = let held = range_in g.place g.length b (omega (arith, at, low)) (omega (arith, at, long, high)) in omega (arith, held)

    by_range : (0 < count_of place n (filter is_free gs) → 0 < cover gs b) → (t : Bool) → (g.place == place) ≡ t → (u : Bool) → (g.length == n) ≡ u → 0 < cond (t && u) 1 0 + count_of place n (filter is_free gs) → 0 < cover (g ∷ gs) b
    by_range rest true same true long some = here (grind (arith, nat_tests)) (grind (arith, nat_tests))
    by_range rest true same false long some = later rest (omega (arith, some))
    by_range rest false same u long some = later rest (omega (arith, some))

    by_kind : (0 < count_of place n (filter is_free gs) → 0 < cover gs b) → (t : Bool) → 0 < count_of place n (cond t (g ∷ filter is_free gs) (filter is_free gs)) → 0 < cover (g ∷ gs) b
    by_kind rest true some = by_range rest (g.place == place) refl (g.length == n) refl some
    by_kind rest false some = later rest some

-- the bytes of one of the gaps are theirs
pub gap_covered : (gaps : List Extent) (k b : ℕ) (g : Extent) → slice_get gaps k ≡ Some g → g.place ≤ b → b < end_of g → 0 < cover gaps b
gap_covered [] k b g e low high = absurd (not_there g e)
gap_covered (x ∷ xs) zero b g e low high =
    let same : x ≡ g = same_Some x g e in
    subst (λ (y : Extent). 0 < cover (y ∷ xs) b) (sym same) (let held = range_in g.place g.length b low high in omega (arith, held))
gap_covered (x ∷ xs) (suc k) b g e low high = let ih = gap_covered xs k b g e low high in plain (cond (holds_byte x b) 1 0) (cover xs b) ih
  where
    plain : (x y : ℕ) → 0 < y → 0 < x + y
    plain x y h = omega (arith, h)

-- ---- what stays

module _ (old new : List ℕ) (gaps : List Extent) (same : (b : ℕ) → 0 < cover gaps b → slice_get new b ≡ slice_get old b) where
  threaded_stay : (fs : List Extent) → ((place n : ℕ) → 0 < count_of place n fs → 0 < count_of place n (filter is_free gaps)) → IsThreaded old fs → IsThreaded new fs
  threaded_stay [] among h = tt
  threaded_stay (f ∷ fs) among h = (
    subst (λ (bytes : List ℕ). SpellsFree bytes f.place f.length (first_place fs))
        (sym (field_kept f.length f.place old new (λ b low high. same b (counted_covered gaps f.place f.length b (among f.place f.length (counts_itself f fs)) low high)))) h.0,
    threaded_stay fs (λ place n some. among place n (counts_more f fs place n some)) h.1,
  )

  pub threads_stay : ((b : ℕ) → 186 ≤ b → b < 266 → slice_get new b ≡ slice_get old b) → ThreadsFreeChunks old gaps → ThreadsFreeChunks new gaps
  threads_stay table t = record {
    small = t.small;
    medium = t.medium;
    large = t.large;
    table = subst (λ (bytes : List ℕ). SpellsFreeTable bytes ((first_place t.small, last_place t.small) ∷ (first_place t.medium, last_place t.medium) ∷ (first_place t.large, last_place t.large) ∷ []))
        (sym (field_kept 80 186 old new (λ b low high. table b low (omega (arith, high))))) t.table;
    each = (
      threaded_stay t.small (λ place n some. counted place n (let s = split place n in omega (arith, s, some))) t.each.0,
      threaded_stay t.medium (λ place n some. counted place n (let s = split place n in omega (arith, s, some))) t.each.1,
      threaded_stay t.large (λ place n some. counted place n (let s = split place n in omega (arith, s, some))) t.each.2,
    );
    all = t.all;
  }
    where
      split : (place n : ℕ) → count_of place n (t.small ++ t.medium ++ t.large) ≡ count_of place n t.small + count_of place n t.medium + count_of place n t.large
      split place n = count_append place n (t.small ++ t.medium) t.large ∙ ap (λ k. k + count_of place n t.large) (count_append place n t.small t.medium)

      counted : (place n : ℕ) → 0 < count_of place n (t.small ++ t.medium ++ t.large) → 0 < count_of place n (filter is_free gaps)
      counted place n some = subst (λ k. 0 < k) (t.all place n) some

  pub fillers_stay : ((k : ℕ) (g : Extent) → slice_get gaps k ≡ Some g → IsTrue (is_filler g) → IsFiller (field old g.place g.length)) → (k : ℕ) (g : Extent) → slice_get gaps k ≡ Some g → IsTrue (is_filler g) → IsFiller (field new g.place g.length)
  fillers_stay fill k g e f = subst (λ (bytes : List ℕ). IsFiller bytes) (sym (field_kept g.length g.place old new (λ b low high. same b (gap_covered gaps k b g e low high)))) (fill k g e f)
