-- The rind of a node is what its children tell.
use Rattle.std.proofs.Common.{◌≡◌, ◌∙◌, refl, ap, ℕ, ◌*◌, Bool, true, false, List, [], ◌∷◌}
use Rattle.std.specs.Prelude.{find, if◌then◌else◌, Option, Some, None, unwrap_or}
use Rattle.adf_model.specs.declared.tree.NodeId.{NodeId}
use Rattle.adf_model.specs.Slots.{Files}
use Rattle.sids_tables.specs.declared.labels.LabelKind.TheVariants.{Rind}
use Rattle.sids_tables.specs.contracts.labels.LabelKindPartialEq.TheImpl as kind_eq
use Rattle.sids_views.specs.declared.child.SeenChild.{SeenChild}
use Rattle.sids_views.specs.Views.{node_there, children_there, of_kind}
use Rattle.sids_rules.specs.Values.{is_ints_of, ints_there}
use Rattle.sids_rules.specs.Terms.{rind_of, rind_there}
use Rattle.sids_readings.specs.Rinds.{rind_in}

module _ (index : ℕ) (files : Files) where
  abbrev is_rind : SeenChild → Bool
  is_rind child = is_ints_of ((2 * index) ∷ []) (node_there files child.target)

  first : (child : SeenChild) (children : List SeenChild) (a b : Bool) → kind_eq.ghosts.eq child.kind Rind ≡ a → is_rind child ≡ b
      → rind_of index files (find is_rind (of_kind Rind children)) ≡ rind_in index files children
      → rind_of index files (find is_rind (if a then child ∷ of_kind Rind children else of_kind Rind children))
      ≡ unwrap_or (if a then (if b then Some (ints_there files child.target) else None) else None) (rind_in index files children)
  first child children true true e f h = rw f refl
  first child children true false e f h = rw f h
  first child children false b e f h = h

  found : (children : List SeenChild) → rind_of index files (find is_rind (of_kind Rind children)) ≡ rind_in index files children
  found [] = refl
  found (child ∷ children) = first child children (kind_eq.ghosts.eq child.kind Rind) (is_rind child) refl refl (found children)

pub rind_is : (index : ℕ) (files : Files) (at : NodeId) → rind_there index files at ≡ rind_in index files (children_there files at)
rind_is index files at = found index files (children_there files at)
