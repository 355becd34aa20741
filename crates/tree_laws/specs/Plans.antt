-- The placement of an edit as a plan, in which takes and gifts are apart; and who stands above a node.
use Rattle.std.specs.Prelude.{◌≡◌, ℕ, not, List, [], length, slice_get, Result, Ok}
use Rattle.std.specs.List.{flat_map}
use Rattle.adf_format.specs.declared.types.Extent.{Extent}
use Rattle.adf_format.specs.Tree.{Tree, is_live, parent_of, lineage, erased_from}
use Rattle.adf_format.specs.Parts.{node_length}
use Rattle.adf_format.specs.Placement.{Placement, extents_of}
use Rattle.adf_format.specs.HeapRule.{Placed, LimitReached, Taken, GrownTable, with_new_parts, take_bytes, grow_table, after_gives, place_edit, ◌>>=◌}
use Rattle.adf_model.specs.declared.tree.Edit.{Edit}
use Rattle.adf_model.specs.declared.tree.NodeId.{NodeId}
use Rattle.adf_model.specs.Edits.{apply}

-- ---- takes and gives apart

-- The placement of an edit once all is taken, and the ranges that are then given, in their order.
pub record Plan : Type 0 where
  pub placed : Placement
  pub given : List Extent

abbrev pub plan_new : ℕ → Tree → ℕ → Placement → Result Plan LimitReached
plan_new limit before parent p =
    take_bytes limit (node_length before.wide) p >>= λ (h : Taken).
    (grow_table limit before parent (with_new_parts h.1 h.0) >>= λ (g : GrownTable). Ok (record { placed = g.placed; given = g.given }))

abbrev pub plan_moved : ℕ → Tree → ℕ → Placement → Result Plan LimitReached
plan_moved limit before parent p =
    grow_table limit before parent p >>= λ (g : GrownTable). Ok (record { placed = g.placed; given = g.given })

abbrev pub plan_deleted : Tree → Placement → Plan
plan_deleted after p = record {
  placed = record p { parts = erased_from 0 (λ serial. not (is_live after serial)) p.parts };
  given = flat_map (extents_of after.wide) (erased_from 0 (is_live after) p.parts);
}

-- of an edit of names, labels and places in the tree
abbrev pub plan_edit : ℕ → Tree → Tree → Placed → Placement → Result Plan LimitReached
plan_edit limit before after (Placed.Create parent) p = plan_new limit before parent p
plan_edit limit before after Placed.Delete p = Ok (plan_deleted after p)
plan_edit limit before after (Placed.Move parent) p = plan_moved limit before parent p
plan_edit limit before after other p = Ok (record { placed = p; given = [] })

abbrev pub end_of_plan : Result Plan LimitReached → Result Placement LimitReached
end_of_plan result = result >>= λ (plan : Plan). Ok (after_gives plan.placed plan.given)

-- a new node is placed without data, so nothing is given but the old table
abbrev pub PlansCreate : Type 0
PlansCreate =
    (limit : ℕ) (tree after : Tree) (p : Placement) (at : NodeId) (name label : List ℕ)
    → length p.parts ≡ length tree.nodes → apply tree (Edit.Create at name label) ≡ Ok after
    → place_edit limit tree after (Placed.Create at.serial) p ≡ end_of_plan (plan_edit limit tree after (Placed.Create at.serial) p)

abbrev pub PlansOthers : Type 0
PlansOthers = (limit : ℕ) (tree after : Tree) (p : Placement)
    → (place_edit limit tree after Placed.Delete p ≡ end_of_plan (plan_edit limit tree after Placed.Delete p))
    × (place_edit limit tree after Placed.InPlace p ≡ end_of_plan (plan_edit limit tree after Placed.InPlace p))
    × ((parent : ℕ) → place_edit limit tree after (Placed.Move parent) p ≡ end_of_plan (plan_edit limit tree after (Placed.Move parent) p))

-- who stands above a node is the second of its lineage
abbrev pub ParentsByLineage : Type 0
ParentsByLineage = (tree : Tree) (k : ℕ) → parent_of tree k ≡ slice_get (lineage tree k) 1
