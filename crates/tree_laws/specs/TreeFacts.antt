-- What edits leave of the tree, as a table of the nodes needs it: who is live, who stands above whom, and which serial is drawn next.
use Rattle.std.specs.Prelude.{◌≡◌, ◌≢◌, ℕ, suc, ◌+◌, true, [], ◌∷◌, ◌++◌, length, Option, Some, None, Ok}
use Rattle.adf_format.specs.Tree.{Node, Tree, IsTree, node_at, is_live, name_at, children_at, next_serial, parent_of, depth_of, lineage}
use Rattle.adf_format.specs.Links.{link_text}
use Rattle.adf_model.specs.declared.tree.Edit.{Edit}
use Rattle.adf_model.specs.declared.tree.Edit.TheVariants.{Create, Rename, SetLabel, SetDims, PutAll, PutPart, Link}
use Rattle.adf_model.specs.Edits.{IsReached, apply, created_by, new_node, new_link, with_shape, with_part}

-- ---- one node changes

-- the one node that an edit changes, with all lists of children as they are
abbrev pub changed_node : Edit → Option ℕ
changed_node (Rename node wanted) = Some node.serial
changed_node (SetLabel node label) = Some node.serial
changed_node (SetDims node shape) = Some node.serial
changed_node (PutAll node given) = Some node.serial
changed_node (PutPart node selection given) = Some node.serial
changed_node edit = None

-- what that edit makes of it
abbrev pub changed_by : Edit → Node → Node
changed_by (Rename node wanted) n = record n { name = wanted }
changed_by (SetLabel node label) n = record n { label = label }
changed_by (SetDims node shape) n = with_shape n shape
changed_by (PutAll node given) n = record n { bytes = Some given }
changed_by (PutPart node selection given) n = with_part n selection given
changed_by edit n = n

-- one node is another, and all stand where they stood
pub record IsChanged (tree after : Tree) (s : ℕ) (now : Node → Node) : Type 0 where
  pub wide : after.wide ≡ tree.wide
  pub format : after.format ≡ tree.format
  pub serials : next_serial after ≡ next_serial tree
  pub sound : IsTree after
  pub was : Node
  pub before : node_at tree s ≡ Some was
  pub node : node_at after s ≡ Some (now was)
  pub others : (k : ℕ) → k ≢ s → node_at after k ≡ node_at tree k
  pub live : (k : ℕ) → is_live after k ≡ is_live tree k
  pub children : (k : ℕ) → children_at after k ≡ children_at tree k
  pub lineages : (k : ℕ) → lineage after k ≡ lineage tree k
  pub parents : (k : ℕ) → parent_of after k ≡ parent_of tree k
  pub depths : (k : ℕ) → depth_of after k ≡ depth_of tree k

abbrev pub ChangedInItsTree : Type 0
ChangedInItsTree =
    (tree after : Tree) (edit : Edit) (s : ℕ) → IsTree tree → IsReached tree edit → changed_node edit ≡ Some s
    → apply tree edit ≡ Ok after → IsChanged tree after s (changed_by edit)

-- ---- one node joins

-- the parent of the node that an edit makes, and that node
abbrev pub joined_node : Edit → Option (ℕ × Node)
joined_node (Create at wanted label) = Some (at.serial, new_node wanted label)
joined_node (Link at wanted file path) = Some (at.serial, new_link wanted (link_text file path))
joined_node edit = None

-- a node of the next serial is the last child of its parent, and all others stand where they stood
pub record IsJoined (tree after : Tree) (s : ℕ) (node : Node) : Type 0 where
  pub wide : after.wide ≡ tree.wide
  pub format : after.format ≡ tree.format
  pub serials : next_serial after ≡ suc (next_serial tree)
  pub sound : IsTree after
  pub new : node_at after (next_serial tree) ≡ Some node
  pub joined : children_at after s ≡ children_at tree s ++ next_serial tree ∷ []
  pub others : (k : ℕ) → k ≢ s → k ≢ next_serial tree → node_at after k ≡ node_at tree k
  pub names : (k : ℕ) → k ≢ next_serial tree → name_at after k ≡ name_at tree k
  pub lists : (k : ℕ) → k ≢ s → k ≢ next_serial tree → children_at after k ≡ children_at tree k
  pub live : (k : ℕ) → k ≢ next_serial tree → is_live after k ≡ is_live tree k
  pub top : lineage after (next_serial tree) ≡ next_serial tree ∷ lineage tree s
  pub parent : parent_of after (next_serial tree) ≡ Some s
  pub depth : depth_of after (next_serial tree) ≡ suc (depth_of tree s)
  pub lineages : (k : ℕ) → is_live tree k ≡ true → lineage after k ≡ lineage tree k
  pub parents : (k : ℕ) → is_live tree k ≡ true → parent_of after k ≡ parent_of tree k
  pub depths : (k : ℕ) → is_live tree k ≡ true → depth_of after k ≡ depth_of tree k

abbrev pub JoinedInItsTree : Type 0
JoinedInItsTree =
    (tree after : Tree) (edit : Edit) (s : ℕ) (node : Node) → IsTree tree → IsReached tree edit
    → joined_node edit ≡ Some (s, node) → apply tree edit ≡ Ok after → IsJoined tree after s node

-- ---- serials

-- no serial is drawn a second time: an edit draws the next one for each node that it makes, and no other
abbrev pub SerialsAreDrawn : Type 0
SerialsAreDrawn =
    (tree after : Tree) (edit : Edit) → IsTree tree → IsReached tree edit → apply tree edit ≡ Ok after
    → next_serial after ≡ next_serial tree + length (created_by tree edit)
