-- The nodes that a walk has still to come to, by the levels on which they wait, the deepest first.
use Rattle.std.specs.Prelude.{◌≡◌, ℕ, ◌-◌, nat_lt, if◌then◌else◌, List, [], ◌∷◌, ◌++◌, length, map, Option, Some, None, Result, Ok, Err}
use Rattle.std.specs.List.{flat_map}
use Rattle.adf_format.specs.Tree.{Tree}
use Rattle.adf_model.specs.declared.error.AdfError.{AdfError}
use Rattle.adf_model.specs.declared.error.AdfError.TheVariants.{Memory}
use Rattle.adf_model.specs.declared.tree.Child.{Child}
use Rattle.adf_model.specs.Spelling.{spelled}
use Rattle.tree_report.specs.declared.stack.Stop.{Stop}
use Rattle.tree_report.specs.Level.{Level}
use Rattle.tree_report.specs.Places.{Place, places_from}

-- the next child leaves a level; none waits where none is given
abbrev pub Advances : Level → Option Child → Level → Type 0
Advances before None after = before.rest ≡ []
Advances before (Some child) after = (before.rest ≡ child ∷ after.rest) × (after.way ≡ before.way)

abbrev pub place_in : List ℕ → Child → Place
place_in way child = record { way = way ++ 47 ∷ spelled child.name; serial = child.node.serial }

abbrev pub waiting_in : Level → List Place
waiting_in level = map (place_in level.way) level.rest

-- all that wait, the next one first
abbrev pub waiting : List Level → List Place
waiting [] = []
waiting (level ∷ levels) = waiting_in level ++ waiting levels

-- those and all below them in tree order, down to 256 levels of nodes
abbrev pub to_come : Tree → List Level → List Place
to_come tree [] = []
to_come tree (level ∷ levels) = flat_map (λ place. places_from (255 - length levels) tree place) (waiting_in level) ++ to_come tree levels

abbrev pub place_of : Stop → Place
place_of stop = record { way = stop.way; serial = stop.serial }

-- a node and all below it, and then those that wait on levels above it
abbrev pub still_to_come : Tree → Stop → List Level → List Place
still_to_come tree stop levels = places_from (256 - length levels) tree (place_of stop) ++ to_come tree levels

-- a node is the next of those that wait, and the others still wait
pub record TakesNext (before : List Level) (stop : Stop) (after : List Level) : Type 0 where
  pub first : waiting before ≡ place_of stop ∷ waiting after
  pub comes : (tree : Tree) → to_come tree before ≡ still_to_come tree stop after

-- the next of the nodes that wait, or none exactly where none waits; or want of memory
abbrev pub IsNext : List Level → Result (Option Stop) AdfError → List Level → Type 0
IsNext before (Ok (Some stop)) after = TakesNext before stop after
IsNext before (Ok None) after = (tree : Tree) → to_come tree before ≡ []
IsNext before (Err error) after = error ≡ Memory

-- a level below these, where they are not as many as levels may be
abbrev pub put_below : Level → List Level → List Level
put_below level levels = if nat_lt (length levels) 255 then level ∷ levels else levels
