-- What is left out of a damaged file, as it is told.
use Rattle.std.specs.Prelude.{ℕ, List, ◌∷◌}
use Rattle.std.specs.List.{flat_map}
use Rattle.adf_format.specs.Checks.{Fault}
use Rattle.adf_format.specs.FirstFault.{Visit}
use Rattle.adf_format.specs.RuleNumbers.{IsRule}
use Rattle.adf_format.specs.SoundPart.{names_to}
use Rattle.adf_model.specs.Spelling.{spelled}
use Rattle.adf_salvage.specs.declared.list.Left.{Left}

-- names as a path is printed: each spelled, and behind a slash
abbrev pub way_text : List (List ℕ) → List ℕ
way_text names = flat_map (λ (name : List ℕ). 47 ∷ spelled name) names

-- a node that is left out, where these are kept: the names on the way to it, the first rule that it breaks, and where
abbrev pub left_of : List Visit → Visit × Fault → Left
left_of kept o = record { path = way_text (names_to kept o.0); rule = o.1.rule; place = o.1.place }

-- what a node that is left out breaks is a rule
abbrev pub HasRule : Left → Type 0
HasRule left = IsRule left.rule
