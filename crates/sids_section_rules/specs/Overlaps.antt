-- Earlier sections of a zone, as its children tell them.
use Rattle.std.specs.Prelude.{Bool, true, false, if◌then◌else◌, List, [], ◌∷◌, Option, Some, None, unwrap_or}
use Rattle.adf_model.specs.declared.tree.NodeId.{NodeId}
use Rattle.adf_model.specs.Slots.{Files}
use Rattle.sids_tables.specs.declared.labels.LabelKind.TheVariants.{Elements}
use Rattle.sids_tables.specs.contracts.labels.LabelKindPartialEq.TheImpl as kind_eq
use Rattle.sids_views.specs.declared.child.SeenChild.{SeenChild}
use Rattle.sids_views.specs.Views.{is_same_node, given}
use Rattle.sids_rules.specs.Terms.{Range, good_range}
use Rattle.sids_rules.specs.Rules.{meets}

-- a range meets that of a section, where that is good
abbrev pub overlaps_child : Files → Range → NodeId → Bool
overlaps_child files range at = given (good_range files at) (meets range)

-- what a child of a zone tells of a range and the sections before a node: nothing where it is no section, or one that the range does not meet
abbrev pub overlap_step : Files → NodeId → Range → SeenChild → Option Bool
overlap_step files node range child =
    if kind_eq.ghosts.eq child.kind Elements
    then (if is_same_node child.node node then Some false else if overlaps_child files range child.target then Some true else None)
    else None

-- a range meets that of a section before a node
abbrev pub overlaps_in : Files → NodeId → Range → List SeenChild → Bool
overlaps_in files node range [] = false
overlaps_in files node range (child ∷ children) = unwrap_or (overlap_step files node range child) (overlaps_in files node range children)
