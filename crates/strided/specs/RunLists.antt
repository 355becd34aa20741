-- Lists of runs, and the elements that they name.
use Rattle.std.specs.Prelude.{◌≢◌, ℕ, ◌+◌, ◌≤◌, List, [], ◌∷◌}
use Rattle.std.specs.List.{flat_map, range_with_len}
use Rattle.adf_model.specs.declared.error.AdfError.{AdfError}
use Rattle.adf_model.specs.declared.error.AdfError.TheVariants.{Memory, BadRange}
use Rattle.adf_model.specs.declared.lists.Run.{Run}

-- the elements of a run: as many as it counts, one behind another
abbrev pub elements_of : Run → List ℕ
elements_of run = range_with_len run.first run.count

-- the elements of all runs, in order
abbrev pub spread : List Run → List ℕ
spread runs = flat_map elements_of runs

-- a run ends at most at a limit
abbrev pub EndsWithin : ℕ → Run → Type 0
EndsWithin limit run = run.first + run.count ≤ limit

-- the first of some runs begins elsewhere than at a place
abbrev pub BeginsElsewhere : ℕ → List Run → Type 0
BeginsElsewhere place [] = Unit {0}
BeginsElsewhere place (run ∷ runs) = place ≢ run.first

-- each run has an element, and none begins where the one before it ends
abbrev pub AreMaximal : List Run → Type 0
AreMaximal [] = Unit {0}
AreMaximal (run ∷ runs) = (1 ≤ run.count) × BeginsElsewhere (run.first + run.count) runs × AreMaximal runs

-- why a selection has no runs
abbrev pub IsRunsRefusal : AdfError → Type 0
IsRunsRefusal Memory = Unit {0}
IsRunsRefusal BadRange = Unit {0}
IsRunsRefusal error = ⊥
