-- The walk over the lists of free chunks, as the code makes it.
use Rattle.std.proofs.Common.{◌≡◌, ℕ, ◌+◌, refl, sym, ◌∙◌, ap, subst, arith, List, [], ◌∷◌, ◌++◌, map, append_assoc, Bool, true, false, cond}
use Rattle.std.proofs.lemmas.List.{map-append}
use Rattle.std.specs.Prelude.{Option, Some, None, ◌==◌, ◌||◌}
use Rattle.std.specs.Ordering.{nat_cmp}
use Rattle.layout_lint.specs.Keys.{contains}
use Rattle.adf_format.specs.Fields.{field}
use Rattle.adf_format.specs.declared.types.Extent.{Extent}
use Rattle.adf_format.specs.Tiles.{total_length}
use Rattle.adf_format.specs.Checks.{first_broken}
use Rattle.adf_format.specs.FirstFault.{Visit, FreeVisit, chunk_length, free_extent, found_extents, is_wide, end_in, free_rows_at}
use Rattle.adf_format.proofs.WalkLaws.{total_length-append}
use Rattle.layout_laws.specs.ListPass.{IsAtList, is_met, named_place}
use Rattle.layout_laws.proofs.ListPassLaws as passes
use Rattle.layout_lint.specs.declared.lists.Frees.{Frees}
use Rattle.layout_lint.specs.declared.verdict.Halt.{Halt}
use Rattle.layout_lint.specs.declared.verdict.Halt.TheVariants as halt
use Rattle.layout_lint.specs.Halts.{Breaks, fault}
use Rattle.layout_lint.specs.Lists.{IsSweep, HasCome, KeepsFree, EndsLists}

abbrev visit : ℕ → ℕ → FreeVisit
visit place list = record { place = place; list = list }

-- one more place among those met
met_more : (seen : List FreeVisit) (v : FreeVisit) (q : ℕ) → is_met (seen ++ v ∷ []) q ≡ cond (v.place == q) true (is_met seen q)
met_more [] v q = last (v.place == q)
  where
    last : (a : Bool) → (a || false) ≡ cond a true false
    last true = refl
    last false = refl
met_more (w ∷ ws) v q = ap (λ b. (w.place == q) || b) (met_more ws v q) ∙ swap (w.place == q) (v.place == q) (is_met ws q)
  where
    swap : (a b z : Bool) → (a || cond b true z) ≡ cond b true (a || z)
    swap true true z = refl
    swap true false z = refl
    swap false true z = refl
    swap false false z = refl

-- the bytes of one more free chunk
total_more : (image : List ℕ) (seen : List FreeVisit) (v : FreeVisit) → total_length (map (free_extent image) (seen ++ v ∷ [])) ≡ total_length (map (free_extent image) seen) + chunk_length image v.place
total_more image seen v = ap total_length (map-append (free_extent image) seen (v ∷ [])) ∙ total_length-append (map (free_extent image) seen) (free_extent image v ∷ []) ∙ plain _ (chunk_length image v.place)
  where
    plain : (a b : ℕ) → a + (b + 0) ≡ a + b
    plain a b = omega arith

module _ (image : List ℕ) (nodes : List Visit) (base : List Extent) where
  swept : (frees : Frees) (seen : List FreeVisit) (list place : ℕ) (after : Frees) → IsSweep image nodes base frees seen → KeepsFree image place frees after → IsSweep image nodes base after (seen ++ visit place list ∷ [])
  swept frees seen list place after sweep kept = record {
    places = λ q. kept.places q ∙ ap (cond (place == q) true) (sweep.places q) ∙ sym (met_more seen (visit place list) q);
    extents = kept.extents ∙ ap (λ xs. xs ++ free_extent image (visit place list) ∷ []) sweep.extents ∙ append_assoc base _ (free_extent image (visit place list) ∷ [])
        ∙ ap (λ xs. base ++ xs) (sym (map-append (free_extent image) seen (visit place list ∷ [])));
    used = let before = sweep.used in let here = kept.used in let more = total_more image seen (visit place list) in omega arith;
  }

  module _ (end number place : ℕ) (later : List FreeVisit) (now : Option ℕ) (frees : Frees) (last : end ≡ end_in image) (is : now ≡ Some place) (come : HasCome image nodes base number now later frees) where
    at_place : IsAtList image nodes number (Some place) later come.seen
    at_place = subst (λ o. IsAtList image nodes number o later come.seen) is come.at

    same_rows : free_rows_at image end (contains nat_cmp frees.places place) frees.used number place ≡ free_rows_at image (end_in image) (is_met come.seen place) (266 + total_length (found_extents image (is_wide image) nodes) + total_length (map (free_extent image) come.seen)) number place
    same_rows = ap (λ e. free_rows_at image e (contains nat_cmp frees.places place) frees.used number place) last
        ∙ ap (λ k. free_rows_at image (end_in image) k frees.used number place) (come.sweep.places place)
        ∙ ap (λ u. free_rows_at image (end_in image) (is_met come.seen place) u number place) come.sweep.used

    -- a free chunk that breaks no rule
    pub come_on : (next : Option ℕ) (after : Frees) → first_broken (free_rows_at image end (contains nat_cmp frees.places place) frees.used number place) ≡ None → next ≡ named_place (field image (place + 16) 12)
        → KeepsFree image place frees after → HasCome image nodes base number next later after
    come_on next after rows said kept = record {
      seen = come.seen ++ visit place number ∷ [];
      at = subst (λ o. IsAtList image nodes number o later (come.seen ++ visit place number ∷ [])) (sym said)
          (passes.meet image nodes number place later come.seen at_place (ap first_broken (sym same_rows) ∙ rows));
      sweep = swept frees come.seen number place after come.sweep kept;
    }

    -- one that breaks a rule
    pub come_to_fault : (h : Halt) → Breaks (free_rows_at image end (contains nat_cmp frees.places place) frees.used number place) h → EndsLists image nodes h
    come_to_fault (halt.Broken b) broken = passes.break image nodes number place later come.seen (fault b) at_place (ap first_broken (sym same_rows) ∙ broken)
    come_to_fault halt.Memory broken = tt
    come_to_fault halt.Read broken = tt
