-- A pass over the three lists of free chunks, step by step.
use Rattle.std.specs.Prelude.{ℕ, ◌+◌, Bool, cond, ◌==◌, List, [], ◌∷◌, ◌++◌, Option, Some, None, Result}
use Rattle.std.specs.List.{list_any}
use Rattle.adf_format.specs.Pointer.{is_place, place_of}
use Rattle.adf_format.specs.Tiles.{total_length}
use Rattle.adf_format.specs.Checks.{Fault, Walk}
use Rattle.adf_format.specs.FirstFault.{Visit, FreeVisit, FreeWalk, free_rows, next_free, found_extents, is_wide, end_in}

-- the place that a pointer names, if it names one
abbrev pub named_place : List ℕ → Option ℕ
named_place bytes = cond (is_place bytes) (Some (place_of bytes)) None

-- the free chunk of a list that waits, if there is one
abbrev pub waiting : ℕ → Option ℕ → List FreeVisit
waiting list None = []
waiting list (Some place) = record { place = place; list = list } ∷ []

-- whether a place is among those met
abbrev pub is_met : List FreeVisit → ℕ → Bool
is_met seen place = list_any (λ (w : FreeVisit). w.place == place) seen

-- Some free chunks were met, and the next of this list and those of the later lists wait: how the walk goes on
-- from here is how it ends.
pub record IsAtList (image : List ℕ) (nodes : List Visit) (list : ℕ) (next : Option ℕ) (later seen : List FreeVisit) : Type 0 where
  pub goes_on : (outcome : Result (List FreeVisit) Fault)
      → Walk (free_rows image (end_in image) (total_length (found_extents image (is_wide image) nodes))) (next_free image) (waiting list next ++ later) seen outcome → FreeWalk image nodes outcome
