-- The next node of those that wait on some levels.
use Rattle.std.specs.Prelude.{◌≡◌, ◌≢◌, List, [], ◌∷◌, ◌++◌, Option, Some, None}
use Rattle.adf_model.specs.declared.tree.Child.{Child}
use Rattle.sids_rules.specs.Findings.{printed_path}
use Rattle.cgns_check.specs.declared.stack.Next.{Next}
use Rattle.cgns_check.specs.Level.{Level}
use Rattle.cgns_check.specs.Levels.{stop_of, path_to}

-- a child waits on the deepest level, where there is one
abbrev pub LastWaits : List Level → Type 0
LastWaits [] = Unit {0}
LastWaits (level ∷ levels) = level.rest ≢ []

-- the next node: where it stands, and its printed path
pub record IsNextChild (level : Level) (levels : List Level) (child : Child) (next : Next) : Type 0 where
  pub stop : next.stop ≡ stop_of level child.node
  pub path : next.path ≡ printed_path (path_to levels ++ child.name ∷ [])

abbrev pub IsNextIn : Level → List Level → List Child → Option Next → Type 0
IsNextIn level levels [] found = found ≡ None
IsNextIn level levels (child ∷ rest) None = ⊥
IsNextIn level levels (child ∷ rest) (Some next) = IsNextChild level levels child next

-- the first child that waits on the deepest level, where there is one
abbrev pub IsNextOf : List Level → Option Next → Type 0
IsNextOf [] found = found ≡ None
IsNextOf (level ∷ levels) found = IsNextIn level levels level.rest found
