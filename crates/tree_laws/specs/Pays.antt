-- How many blocks the steps of an edit let wait to be written: at most as many as the edit costs.
use Rattle.std.specs.Prelude.{ℕ, ◌+◌, ◌*◌, ◌/◌, ◌≤◌, length, map, sum}
use Rattle.adf_format.specs.Tree.{Tree, children_at, parent_of}
use Rattle.adf_format.specs.Links.{link_text}
use Rattle.adf_format.specs.Parts.{node_length, chunk_table_length}
use Rattle.adf_format.specs.HeapRule.{chunk_length_for}
use Rattle.adf_model.specs.declared.tree.Edit.{Edit}
use Rattle.adf_model.specs.declared.tree.Edit.TheVariants.{Create, Delete, Rename, Move, SetLabel, SetDims, PutAll, PutPart, Link}
use Rattle.adf_model.specs.Need.{grown_table_length, siblings_of, new_bytes, deleted_nodes, touched_nodes, cost}

-- the blocks that a text of so many bytes may touch, wherever it stands
abbrev pub text_blocks : ℕ → ℕ
text_blocks n = (n + 4095) / 4096 + 1

-- a take of the heap lets nine blocks wait, and a gift twelve
abbrev pub of_takes : ℕ → ℕ
of_takes n = 9 * n

abbrev pub of_gifts : ℕ → ℕ
of_gifts n = 12 * n

-- a child joins a parent of so many: its entry; where the table is full a longer one is taken, written and named, and the old one given
abbrev pub join_blocks : ℕ → ℕ
join_blocks c = of_takes 1 + text_blocks (grown_table_length c) + text_blocks 44 + text_blocks 28 + of_gifts 1

-- a child leaves a parent of so many: the entries behind its own move up, and the count falls
abbrev pub leave_blocks : ℕ → ℕ
leave_blocks c = text_blocks (44 * c) + text_blocks 8

-- the shape and the data of a node with so many chunks: a chunk and a table of 64 entries are taken and written, all that it had is given, and bytes are written in its chunks
abbrev pub data_blocks : ℕ → ℕ → ℕ
data_blocks k bytes = of_takes 2 + text_blocks 342 + text_blocks (chunk_table_length 64) + text_blocks (20 + bytes) + 2 * k + of_gifts (1 + k)

-- the most blocks that an edit lets wait: of its takes and gifts, and of each text that it writes
abbrev pub edit_blocks : Tree → (ℕ → ℕ) → Edit → ℕ
edit_blocks tree chunks (Create at wanted label) = of_takes 1 + text_blocks (node_length tree.wide) + join_blocks (length (children_at tree at.serial))
edit_blocks tree chunks (Link at wanted file path) =
    of_takes 2 + text_blocks (node_length tree.wide) + text_blocks (chunk_length_for (length (link_text file path))) + join_blocks (length (children_at tree at.serial))
edit_blocks tree chunks (Delete node) =
    leave_blocks (siblings_of tree (parent_of tree node.serial))
    + of_gifts (3 * length (deleted_nodes tree (Delete node)) + sum (map chunks (touched_nodes tree (Delete node))))
edit_blocks tree chunks (Move node to) = leave_blocks (siblings_of tree (parent_of tree node.serial)) + join_blocks (length (children_at tree to.serial))
edit_blocks tree chunks (Rename node wanted) = text_blocks 32 + text_blocks 44
edit_blocks tree chunks (SetLabel node label) = text_blocks 32
edit_blocks tree chunks (SetDims node shape) = data_blocks (chunks node.serial) (new_bytes tree chunks (SetDims node shape))
edit_blocks tree chunks (PutAll node given) = data_blocks (chunks node.serial) (new_bytes tree chunks (PutAll node given))
edit_blocks tree chunks (PutPart node selection given) = data_blocks (chunks node.serial) (new_bytes tree chunks (PutPart node selection given))

-- that is at most what the edit costs
abbrev pub EditPays : Type 0
EditPays = (tree : Tree) (chunks : ℕ → ℕ) (edit : Edit) → edit_blocks tree chunks edit ≤ cost tree chunks edit
