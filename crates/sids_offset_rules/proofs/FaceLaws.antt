-- The ranges of the sections of polygons of a zone are what its children tell.
use Rattle.std.proofs.Common.{◌≡◌, ap, refl, Bool, true, false, List, [], ◌∷◌, ◌++◌}
use Rattle.std.specs.Prelude.{if◌then◌else◌, filter, filter_map, Option, Some, None}
use Rattle.std.specs.List.{cons_option}
use Rattle.std.specs.Option.{option_to_list}
use Rattle.adf_model.specs.declared.tree.NodeId.{NodeId}
use Rattle.adf_model.specs.Slots.{Files}
use Rattle.sids_tables.specs.declared.labels.LabelKind.TheVariants.{Elements}
use Rattle.sids_tables.specs.contracts.labels.LabelKindPartialEq.TheImpl as kind_eq
use Rattle.sids_views.specs.declared.child.SeenChild.{SeenChild}
use Rattle.sids_views.specs.Views.{children_there}
use Rattle.sids_rules.specs.OffsetRules.{face_range, face_ranges}
use Rattle.sids_offset_rules.specs.Faces.{face_of}

module _ {A B : Type 0} (first : A → Bool) (value : A → Option B) where
  one_more : (a : A) (others : List A) (gathered : List B) (b : Bool) → filter_map value others ≡ gathered
      → filter_map value (if b then a ∷ others else others) ≡ cons_option (if b then value a else None) gathered
  one_more a others gathered true h = ap (cons_option (value a)) h
  one_more a others gathered false h = h

  pub values_of_those : (items : List A) → filter_map value (filter first items) ≡ filter_map (λ a. if first a then value a else None) items
  values_of_those [] = refl
  values_of_those (a ∷ items) = one_more a (filter first items) _ (first a) (values_of_those items)

pub faces_are : (files : Files) (zone : NodeId) → face_ranges files zone ≡ filter_map (face_of files) (children_there files zone)
faces_are files zone = values_of_those (λ (child : SeenChild). kind_eq.ghosts.eq child.kind Elements) (λ (child : SeenChild). face_range files child.target) (children_there files zone)

pub one_behind : {A : Type 0} (before : List A) (o : Option A) (rest : List A) → (before ++ option_to_list o) ++ rest ≡ before ++ cons_option o rest
one_behind [] None rest = refl
one_behind [] (Some a) rest = refl
one_behind (b ∷ before) o rest = ap (λ others. b ∷ others) (one_behind before o rest)
