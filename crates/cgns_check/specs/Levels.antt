-- Where a walk stands, and the nodes that it has still to come to.
use Rattle.std.specs.Prelude.{ℕ, Bool, true, false, nat_lt, if◌then◌else◌, List, [], ◌∷◌, ◌++◌, length, map, Option, Some, None}
use Rattle.adf_model.specs.declared.tree.Child.{Child}
use Rattle.adf_model.specs.declared.tree.NodeId.{NodeId}
use Rattle.adf_model.specs.Slots.{Files}
use Rattle.sids_views.specs.Views.{target_of}
use Rattle.sids_rules.specs.Walk.{Visit, root_visit}
use Rattle.cgns_check.specs.declared.frame.Stop.{Stop}
use Rattle.cgns_check.specs.Level.{Level}

-- ---- one node

-- the visit of a node that stands so, by the names on its path
abbrev pub visit_at : Files → List (List ℕ) → Stop → Visit
visit_at files path stop = record {
  seen = record { node = stop.node; target = target_of files stop.node; parent = stop.parent; base = stop.base; zone = stop.zone };
  path = path;
  inside = stop.inside;
}

abbrev pub root_stop : ℕ → Stop
root_stop file = record { node = record { file = file; serial = 0 }; parent = None; base = None; zone = None; inside = false }

abbrev pub stop_of : Level → NodeId → Stop
stop_of level node = record { node = node; parent = Some level.at; base = level.base; zone = level.zone; inside = level.inside }

-- ---- the children of one node

abbrev pub visit_of : Files → List (List ℕ) → Level → Child → Visit
visit_of files path level child = visit_at files (path ++ child.name ∷ []) (stop_of level child.node)

-- the children that wait, below a node of this path
abbrev pub waiting_in : Files → List (List ℕ) → Level → List Visit
waiting_in files path level = map (visit_of files path level) level.rest

abbrev pub advanced_to : Level → List Child → Level
advanced_to level [] = level
advanced_to level (child ∷ rest) = record level { given = child.name; rest = rest }

-- the level when its next child is given
abbrev pub advanced : Level → Level
advanced level = advanced_to level level.rest

-- ---- levels one below another, the deepest first

-- the names on the path to the node of the deepest level
abbrev pub path_to : List Level → List (List ℕ)
path_to [] = []
path_to (level ∷ levels) = path_to levels ++ level.given ∷ []

-- all that wait: each level under the child that the level above gave last
abbrev pub waiting_at : Files → List Level → List Visit
waiting_at files [] = []
waiting_at files (level ∷ levels) = waiting_in files (path_to levels) level ++ waiting_at files levels

abbrev pub is_done : List Child → Bool
is_done [] = true
is_done (child ∷ children) = false

-- the levels without the deepest ones of which no child waits
abbrev pub without_done : List Level → List Level
without_done [] = []
without_done (level ∷ levels) = if is_done level.rest then without_done levels else level ∷ levels

-- a level below these, where they are not as many as levels may be
abbrev pub put_below : Option Level → List Level → List Level
put_below None levels = levels
put_below (Some level) levels = if nat_lt (length levels) 510 then level ∷ levels else levels

-- the levels when the next child of the deepest one is given, and what is below that waits
abbrev pub after_giving : Option Level → List Level → List Level
after_giving below [] = put_below below []
after_giving below (level ∷ levels) = put_below below (advanced level ∷ levels)

-- ---- walks

-- before the first node of a file; or with levels of which children wait
pub data Stage : Type 0 where
  Starts : ℕ → Stage
  Goes : List Level → Stage

-- the nodes that wait, the next one first
abbrev pub waiting : Files → Stage → List Visit
waiting files (Starts file) = root_visit files file ∷ []
waiting files (Goes levels) = waiting_at files levels

-- the stage of a walk by its fields: which file is to be begun, and the levels
abbrev pub stage_of : Option ℕ → List Level → Stage
stage_of (Some file) levels = Starts file
stage_of None levels = Goes levels
