-- A node without data whose header stands in a range that was taken joins a parent: a case of a node that stands whole there.
use Rattle.std.proofs.Common.{◌≡◌, ℕ, refl, arith, List, ◌∷◌, ◌++◌}
use Rattle.adf_format.specs.declared.types.Extent.{Extent}
use Rattle.adf_format.specs.declared.types.ExtentKind.{ExtentKind}
use Rattle.adf_format.specs.Tiles.{cover}
use Rattle.adf_format.specs.Parts.{node_length}
use Rattle.adf_format.specs.Placement.{extent, node_extents}
use Rattle.adf_format.specs.HeapRule.{no_parts}
use Rattle.adf_format.proofs.HeapSteps.{cover-append}
use Rattle.adf_model.specs.Edits.{new_node}
use Rattle.adf_model.proofs.Creation.CreatedParts.{node_held}
use Rattle.tree_laws.specs.Entries.{EntryJoins, TableJoins}
use Rattle.tree_laws.proofs.Edits.NodeJoined.{node_joins}
use Rattle.tree_laws.proofs.Edits.NodeWithTable.{node_joins_table}
use Rattle.std.specs.Prelude.{Bool}

-- the header is all that the node has
one_part : (wide : Bool) (kind : ExtentKind) (place : ℕ) (taken : List Extent) (b : ℕ)
    → cover (taken ++ node_extents wide (record no_parts { header = place })) b ≡ cover (extent kind place (node_length wide) ∷ taken) b
one_part wide kind place taken b = let s = cover-append taken (node_extents wide (record no_parts { header = place })) b in omega (arith, s)

pub entry_joins : EntryJoins
entry_joins old middle new tree p taken kind s place parent name label from t h here stands has free few few_dims short short_label near text v w is =
    node_joins old middle new tree p (extent kind place (node_length tree.wide) ∷ taken) taken s parent (new_node name label) from (record no_parts { header = place }) t h here stands has free few short near refl
    (node_held tree.wide name label place short short_label old tree p refl text) (one_part tree.wide kind place taken) v w is

pub tables_join : TableJoins
tables_join old new tree p taken kind other s place table entries parent name label from h here stands few few_dims room few_entries short short_label near far text list w is =
    node_joins_table old new tree p (extent kind place (node_length tree.wide) ∷ taken) taken other s table entries parent (new_node name label) from (record no_parts { header = place }) h here stands few room few_entries short near far refl
    (node_held tree.wide name label place short short_label old tree p refl text) (one_part tree.wide kind place taken) list w is
