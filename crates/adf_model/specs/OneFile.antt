-- One file among many.
use Rattle.std.specs.Prelude.{◌≡◌, ℕ, List, Result, Ok}
use Rattle.std.specs.List.{AllByRecursion}
use Rattle.adf_model.specs.declared.error.EditError.{EditError}
use Rattle.adf_model.specs.declared.tree.Edit.{Edit}
use Rattle.adf_model.specs.declared.tree.NodeId.{NodeId}
use Rattle.adf_model.specs.Tests.{and_then}
use Rattle.adf_model.specs.Edits.{named_nodes, Work}
use Rattle.adf_model.specs.Slots.{Open, Files, with_slot}
use Rattle.adf_model.specs.Slots.Slot.{Live}
use Rattle.adf_model.specs.Calls.{Group}

-- all nodes that the edit names stand in the file of this number
abbrev pub StandsIn : ℕ → Edit → Type 0
StandsIn number edit = AllByRecursion (λ (node : NodeId). node.file ≡ number) (named_nodes edit)

-- what a group leaves: the files, and the nodes that were made
abbrev pub Outcome : Type 0
Outcome = Files × List NodeId

abbrev pub outcome_of_group : Result Group EditError → Result Outcome EditError
outcome_of_group result = and_then result (λ group. Ok (group.files, group.created))

-- the same of a group on the tree of the open file of this number
abbrev pub outcome_of_work : Files → ℕ → Open → Result Work EditError → Result Outcome EditError
outcome_of_work files number opened result = and_then result (λ work. Ok (with_slot files number (Live (record opened { tree = work.tree })), work.created))
