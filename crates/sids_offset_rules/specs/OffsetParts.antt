-- The offsets of a section, as its children tell them.
use Rattle.std.specs.Prelude.{Bool, ◌&&◌, ◌==◌, ◌+◌, List, codes, Option, Some, is_some, is_none}
use Rattle.adf_model.specs.declared.tree.NodeId.{NodeId}
use Rattle.adf_model.specs.Slots.{Files}
use Rattle.sids_tables.specs.declared.labels.LabelKind.TheVariants.{DataArray}
use Rattle.sids_views.specs.declared.child.SeenChild.{SeenChild}
use Rattle.sids_views.specs.Nodes.{View}
use Rattle.sids_views.specs.Views.{node_there, first_called, of_that_kind}
use Rattle.sids_rules.specs.Values.{is_ints, has_rank}
use Rattle.sids_rules.specs.Terms.{if_passes, Range, element_count}
use Rattle.sids_rules.specs.Rules.{first_dimension}
use Rattle.sids_readings.specs.Pairs.{range_in}

-- a node, where it is of whole numbers of one dimension
abbrev pub offset_there : Files → NodeId → Option NodeId
offset_there files at = if_passes (λ at. is_ints (node_there files at) && has_rank 1 (node_there files at)) (Some at)

-- the offsets that the children of a section tell
abbrev pub offset_in : Files → List SeenChild → Option NodeId
offset_in files children = if_passes (λ at. is_ints (node_there files at) && has_rank 1 (node_there files at)) (of_that_kind DataArray (first_called (codes "ElementStartOffset") children))

-- K35 start-offset, by the children of the section
abbrev pub lacks_offsets : Files → List SeenChild → Bool
lacks_offsets files children = is_some (range_in files children) && is_none (offset_in files children)

-- one more than the elements of a range
abbrev pub shows_offset_size : Range → View → Bool
shows_offset_size range view = first_dimension view.dims == element_count range + 1
