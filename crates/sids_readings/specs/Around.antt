-- What the rules read of the base and of the zone above a node.
use Rattle.std.specs.Prelude.{ℤ, Option, Some, None, option_map}
use Rattle.adf_model.specs.declared.tree.NodeId.{NodeId}
use Rattle.adf_model.specs.Slots.{Files}
use Rattle.sids_rules.specs.declared.seen.Seen.{Seen}
use Rattle.sids_rules.specs.Terms.{Dimensions, base_dimensions, Sizes, zone_sizes, vertex_limit}
use Rattle.sids_readings.specs.declared.around.ZoneNumbers.{ZoneNumbers}
use Rattle.sids_readings.specs.declared.around.Surroundings.{Surroundings}

abbrev pub limit_with : Files → NodeId → Option Sizes → Option ℤ
limit_with files at None = None
limit_with files at (Some sizes) = vertex_limit files at sizes

-- what rules read of a zone
abbrev pub zone_numbers : Files → NodeId → ZoneNumbers
zone_numbers files at = record { sizes = zone_sizes files at; limit = limit_with files at (zone_sizes files at) }

-- the dimensions of the base above a node; none where there is no base, or it has none
abbrev pub base_around : Files → Option NodeId → Option Dimensions
base_around files None = None
base_around files (Some at) = base_dimensions files at

-- what rules read of the base and of the zone above a seen node
abbrev pub surroundings : Files → Seen → Surroundings
surroundings files seen = record { base = base_around files seen.base; zone = option_map (zone_numbers files) seen.zone }

-- the sizes of the zone above a node, and the limit of its node numbers where these sizes are known
abbrev pub sizes_around : Option ZoneNumbers → Option Sizes
sizes_around None = None
sizes_around (Some numbers) = numbers.sizes

abbrev pub limit_around : Option ZoneNumbers → Option (Option ℤ)
limit_around None = None
limit_around (Some numbers) = option_map (λ sizes. numbers.limit) numbers.sizes
