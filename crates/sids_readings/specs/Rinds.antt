-- Rinds, as the children of a node tell them.
use Rattle.std.specs.Prelude.{ℕ, ◌*◌, ℤ, pos, if◌then◌else◌, List, [], ◌∷◌, replicate, Option, None, unwrap_or}
use Rattle.adf_model.specs.Slots.{Files}
use Rattle.sids_tables.specs.declared.labels.LabelKind.TheVariants.{Rind}
use Rattle.sids_tables.specs.contracts.labels.LabelKindPartialEq.TheImpl as kind_eq
use Rattle.sids_views.specs.declared.child.SeenChild.{SeenChild}
use Rattle.sids_readings.specs.Pairs.{ints_with}

-- the planes that a child tells, where it is a rind of that many indices
abbrev pub rind_of_child : ℕ → Files → SeenChild → Option (List ℤ)
rind_of_child index files child = if kind_eq.ghosts.eq child.kind Rind then ints_with ((2 * index) ∷ []) files child.target else None

-- the planes that the first such child tells; zeros without one
abbrev pub rind_in : ℕ → Files → List SeenChild → List ℤ
rind_in index files [] = replicate (2 * index) (pos 0)
rind_in index files (child ∷ children) = unwrap_or (rind_of_child index files child) (rind_in index files children)
