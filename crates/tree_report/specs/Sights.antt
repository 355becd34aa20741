-- What is seen of a node of an open file.
use Rattle.std.specs.Prelude.{ℕ, false, List, [], Option, Some, None}
use Rattle.std.specs.List.{AllByRecursion}
use Rattle.adf_format.specs.declared.types.Format.TheVariants.{Little}
use Rattle.adf_format.specs.Tree.{Tree}
use Rattle.adf_model.specs.declared.tree.Child.{Child}
use Rattle.adf_model.specs.declared.tree.NodeId.{NodeId}
use Rattle.adf_model.specs.Slots.{Open, Files, open_at}
use Rattle.sids_views.specs.Asks.{IsThere}
use Rattle.sids_views.specs.Views.{node_there, entries_there}
use Rattle.tree_report.specs.declared.sight.Sight.{Sight}
use Rattle.tree_report.specs.declared.stack.Stop.{Stop}
use Rattle.tree_report.specs.Fields.{fields_of, plain_fields}
use Rattle.tree_report.specs.Level.{Level}
use Rattle.tree_report.specs.Levels.{waiting}
use Rattle.tree_report.specs.Places.{Place}

-- what stands for a tree where none is open
abbrev pub no_tree : Tree
no_tree = record { wide = false; format = Little; nodes = [] }

abbrev pub tree_of_open : Option Open → Tree
tree_of_open None = no_tree
tree_of_open (Some opened) = opened.tree

-- the tree of a file that is open
abbrev pub tree_in : Files → ℕ → Tree
tree_in files file = tree_of_open (open_at files file)

abbrev pub node_in : ℕ → ℕ → NodeId
node_in file serial = record { file = file; serial = serial }

-- what a line tells of a node, and the children of the node
abbrev pub sight_of : Files → NodeId → Sight
sight_of files at = record { fields = fields_of (node_there files at); below = entries_there files at }

abbrev pub plain_sight : Files → NodeId → Sight
plain_sight files at = record { fields = plain_fields (node_there files at); below = entries_there files at }

-- the children that are seen are live
abbrev pub AreThere : Files → Sight → Type 0
AreThere files sight = AllByRecursion (λ (entry : Child). IsThere files entry.node) sight.below

-- what waits on levels is live
abbrev pub AllThere : Files → ℕ → List Level → Type 0
AllThere files file levels = AllByRecursion (λ (place : Place). IsThere files (node_in file place.serial)) (waiting levels)

-- a node, and what waits on levels, may be looked at
abbrev pub MayGoOn : Files → ℕ → Stop → List Level → Type 0
MayGoOn files file stop levels = IsThere files (node_in file stop.serial) × AllThere files file levels
