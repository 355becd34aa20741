-- A pass over the three lists is the walk over the free chunks.
use Rattle.std.proofs.Common.{◌≡◌, ℕ, refl, sym, ◌∙◌, ap, subst, List, [], ◌∷◌, ◌++◌, map, append-nil, ◌+◌, Bool, true, false, cond}
use Rattle.std.specs.Prelude.{Option, Some, None, Ok, Err}
use Rattle.adf_format.specs.Fields.{field}
use Rattle.adf_format.specs.Pointer.{is_place, place_of}
use Rattle.adf_format.specs.Tiles.{total_length}
use Rattle.adf_format.specs.Checks.{Row, Fault, first_broken, Walk, finished, stopped, passed}
use Rattle.adf_format.specs.FirstFault.{Visit, FreeVisit, FreeWalk, free_rows, next_free, first_frees, free_extent, visits_through, found_extents, is_wide, end_in, free_rows_at}
use Rattle.layout_laws.specs.ListPass.{named_place, waiting, is_met, IsAtList}

waits_through : (bytes : List ℕ) (list : ℕ) → visits_through bytes list ≡ waiting list (named_place bytes)
waits_through bytes list = by_test (is_place bytes)
  where
    by_test : (t : Bool) → cond {A = List FreeVisit} t (record { place = place_of bytes; list = list } ∷ []) [] ≡ waiting list (cond t (Some (place_of bytes)) None)
    by_test true = refl
    by_test false = refl

module _ (image : List ℕ) (nodes : List Visit) where
  abbrev all_nodes : ℕ
  all_nodes = total_length (found_extents image (is_wide image) nodes)

  abbrev at_free : List FreeVisit → ℕ → ℕ → List Row
  at_free seen list place = free_rows_at image (end_in image) (is_met seen place) (266 + all_nodes + total_length (map (free_extent image) seen)) list place

  pub begin : IsAtList image nodes 0 (named_place (field image 190 12)) (waiting 1 (named_place (field image 214 12)) ++ waiting 2 (named_place (field image 238 12))) []
  begin = record { goes_on = λ outcome w. subst (λ todo. Walk (free_rows image (end_in image) all_nodes) (next_free image) todo [] outcome) (sym first) w }
    where
      first : first_frees image ≡ waiting 0 (named_place (field image 190 12)) ++ (waiting 1 (named_place (field image 214 12)) ++ waiting 2 (named_place (field image 238 12)))
      first =
          ap (λ xs. xs ++ (visits_through (field image 214 12) 1 ++ (visits_through (field image 238 12) 2 ++ []))) (waits_through (field image 190 12) 0)
          ∙ ap (λ xs. waiting 0 (named_place (field image 190 12)) ++ (xs ++ (visits_through (field image 238 12) 2 ++ []))) (waits_through (field image 214 12) 1)
          ∙ ap (λ xs. waiting 0 (named_place (field image 190 12)) ++ (waiting 1 (named_place (field image 214 12)) ++ xs)) (append-nil (visits_through (field image 238 12) 2) ∙ waits_through (field image 238 12) 2)

  -- a free chunk that breaks no rule: the one that it names is next
  pub meet : (list place : ℕ) (later seen : List FreeVisit) → IsAtList image nodes list (Some place) later seen → first_broken (at_free seen list place) ≡ None
      → IsAtList image nodes list (named_place (field image (place + 16) 12)) later (seen ++ record { place = place; list = list } ∷ [])
  meet list place later seen at kept = record {
    goes_on = λ outcome w. at.goes_on outcome (passed {outcome = outcome} kept
        (subst (λ todo. Walk (free_rows image (end_in image) all_nodes) (next_free image) (todo ++ later) (seen ++ record { place = place; list = list } ∷ []) outcome) (sym (waits_through (field image (place + 16) 12) list)) w));
  }

  -- one that breaks a rule ends the walk
  pub break : (list place : ℕ) (later seen : List FreeVisit) (fault : Fault) → IsAtList image nodes list (Some place) later seen → first_broken (at_free seen list place) ≡ Some fault → FreeWalk image nodes (Err fault)
  break list place later seen fault at broken = at.goes_on (Err fault) (stopped broken)

  -- behind the last of a list the next list begins
  pub next_list : (list other : ℕ) (next : Option ℕ) (later seen : List FreeVisit) → IsAtList image nodes list None (waiting other next ++ later) seen → IsAtList image nodes other next later seen
  next_list list other next later seen at = record { goes_on = λ outcome w. at.goes_on outcome w }

  -- and behind the last list the walk has ended
  pub finish : (list : ℕ) (seen : List FreeVisit) → IsAtList image nodes list None [] seen → FreeWalk image nodes (Ok seen)
  finish list seen at = at.goes_on (Ok seen) finished
