-- The survey of the nodes of a damaged file, step by step, with a stack of those that wait.
use Rattle.std.specs.Prelude.{◌≡◌, ℕ, ◌+◌, List, [], ◌∷◌, length, map, reverse, slice_get, None, Some}
use Rattle.adf_format.specs.Checks.{Row, Fault, Survey}
use Rattle.adf_format.specs.FirstFault.{Visit, child_visits, visit_rows, root_visit, is_wide, node_rows_at}
use Rattle.adf_format.specs.SoundPart.{last_byte}
use Rattle.adf_format.specs.Tiles.{total_length}
use Rattle.adf_format.specs.Verdict.{NodePlace}
use Rattle.layout_laws.specs.FoundLayout.{NamesVisit}
use Rattle.layout_laws.specs.NodePass.{Waiting, AreMet, is_known, met_extents}

-- the nodes that are kept, and those that are left out with the first rule that each breaks
abbrev pub Outcome : Type 0
Outcome = List Visit × List (Visit × Fault)

-- the survey of all nodes, from the root
abbrev pub NodeSurvey : List ℕ → Outcome → Type 0
NodeSurvey image outcome = Survey (visit_rows image (is_wide image) (last_byte image)) (child_visits image) (root_visit image ∷ []) [] [] outcome

-- the root, as it waits
abbrev pub waiting_root : List ℕ → Waiting
waiting_root image = record { place = (root_visit image).place; entry = None; parent = 0; position = 0; depth = 0 }

-- the rules of a node that waits, where these nodes are kept
abbrev pub rows_of : List ℕ → List Waiting → Waiting → List Row
rows_of image kept m =
    node_rows_at image (is_wide image) (last_byte image) (is_known kept m.place) (266 + total_length (met_extents image (is_wide image) kept)) m.place m.entry m.depth

-- the nodes that are left out
abbrev pub visits_of : List (Visit × Fault) → List Visit
visits_of left = map (λ (o : Visit × Fault). o.0) left

-- Some nodes are kept and others left out, and those of the stack wait, the next one last: how the survey goes on from here is how it ends.
pub record IsSurveying (image : List ℕ) (stack kept out : List Waiting) (left : List (Visit × Fault)) : Type 0 where
  pub seen : List Visit
  pub next : List Visit
  pub waits : AreMet seen (reverse stack) next
  pub found : AreMet seen kept seen
  pub leaves : AreMet seen out (visits_of left)
  pub goes_on : (outcome : Outcome) → Survey (visit_rows image (is_wide image) (last_byte image)) (child_visits image) next seen left outcome → NodeSurvey image outcome

-- The places of some nodes name their visits one by one.
pub record NameVisits (visits : List Visit) (nodes : List NodePlace) : Type 0 where
  pub count : length nodes ≡ length visits
  pub each : (k : ℕ) (v : Visit) (n : NodePlace) → slice_get visits k ≡ Some v → slice_get nodes k ≡ Some n → NamesVisit visits v n
