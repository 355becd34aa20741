-- The largest number of a vertex is what the children of a zone tell.
use Rattle.std.proofs.Common.{◌≡◌, ap, refl, ◌||◌, Bool, true, false, List, [], ◌∷◌}
use Rattle.std.specs.Prelude.{◌&&◌, if◌then◌else◌, filter}
use Rattle.std.specs.List.{list_any}
use Rattle.adf_model.specs.declared.tree.NodeId.{NodeId}
use Rattle.adf_model.specs.Slots.{Files}
use Rattle.sids_tables.specs.declared.labels.LabelKind.TheVariants.{GridCoordinates, Rind}
use Rattle.sids_tables.specs.contracts.labels.LabelKindPartialEq.TheImpl as kind_eq
use Rattle.sids_views.specs.declared.child.SeenChild.{SeenChild}
use Rattle.sids_views.specs.Views.{children_there}
use Rattle.sids_rules.specs.Values.{int_at}
use Rattle.sids_rules.specs.Terms.{Sizes, has_child, has_rind, vertex_limit, limit_of, zone_kind}
use Rattle.sids_readings.specs.Limits.{has_grid_rind, limit_in}

-- some element of those that pass a test passes another: some element passes both
module _ {A : Type 0} (first second : A → Bool) where
  one_more : (a : A) (others : List A) (b : Bool) → list_any second (filter first others) ≡ list_any (λ x. first x && second x) others
      → list_any second (if b then a ∷ filter first others else filter first others) ≡ ((b && second a) || list_any (λ x. first x && second x) others)
  one_more a others true h = ap (λ b. second a || b) h
  one_more a others false h = h

  pub any_of_those : (items : List A) → list_any second (filter first items) ≡ list_any (λ a. first a && second a) items
  any_of_those [] = refl
  any_of_those (a ∷ items) = one_more a items (first a) (any_of_those items)

rind_is : (files : Files) (at : NodeId) → has_rind files at ≡ list_any (has_grid_rind files) (children_there files at)
rind_is files at = any_of_those (λ (child : SeenChild). kind_eq.ghosts.eq child.kind GridCoordinates) (λ (child : SeenChild). has_child files child.target Rind) (children_there files at)

pub limit_is : (files : Files) (at : NodeId) (sizes : Sizes) → vertex_limit files at sizes ≡ limit_in files sizes (children_there files at)
limit_is files at sizes = ap (λ b. limit_of (zone_kind files at) b (int_at sizes.vertex 0)) (rind_is files at)
