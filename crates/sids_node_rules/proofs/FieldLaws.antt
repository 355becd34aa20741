-- The dimensions of the fields in a solution are what its children tell.
use Rattle.std.proofs.Common.{◌≡◌, ◌∙◌, ap, refl, Bool, true, false}
use Rattle.std.specs.Prelude.{◌||◌, if◌then◌else◌, codes, bytes_eq, Some, None, option_map}
use Rattle.adf_model.specs.declared.tree.NodeId.{NodeId}
use Rattle.adf_model.specs.Slots.{Files}
use Rattle.sids_tables.specs.declared.labels.LabelKind.TheVariants.{IndexRange, IndexArray}
use Rattle.sids_views.specs.Views.{children_there}
use Rattle.sids_rules.specs.Values.{with_rind}
use Rattle.sids_rules.specs.Terms.{Sizes, has_child, location_there, field_sizes, field_dims, rind_there}
use Rattle.sids_readings.specs.Rinds.{rind_in}
use Rattle.sids_node_rules.specs.declared.arrays.FieldPlace.TheVariants as place
use Rattle.sids_node_rules.specs.Fields.{sizes_at, place_in, dims_in}
use Rattle.sids_readings.proofs.RindLaws.{rind_is}

by_tests : (sizes : Sizes) (range list vertex cell : Bool)
    → (if range || list then None else if vertex then Some sizes.vertex else if cell then Some sizes.cell else None)
    ≡ sizes_at (if range then place.Untested else if list then place.Untested else if vertex then place.Vertex else if cell then place.CellCenter else place.Untested) sizes
by_tests sizes true list vertex cell = refl
by_tests sizes false true vertex cell = refl
by_tests sizes false false true cell = refl
by_tests sizes false false false true = refl
by_tests sizes false false false false = refl

sizes_are : (files : Files) (solution : NodeId) (sizes : Sizes) → field_sizes files solution sizes ≡ sizes_at (place_in files (children_there files solution)) sizes
sizes_are files solution sizes =
    by_tests sizes (has_child files solution IndexRange) (has_child files solution IndexArray)
    (bytes_eq (location_there files solution) (codes "Vertex")) (bytes_eq (location_there files solution) (codes "CellCenter"))

pub dims_are : (files : Files) (solution : NodeId) (sizes : Sizes) → field_dims files solution sizes ≡ dims_in files (children_there files solution) sizes
dims_are files solution sizes =
    ap (λ o. option_map (λ plain. with_rind plain (rind_there sizes.index files solution)) o) (sizes_are files solution sizes)
    ∙ ap (λ rind. option_map (λ plain. with_rind plain rind) (sizes_at (place_in files (children_there files solution)) sizes)) (rind_is sizes.index files solution)
