-- The steps of an edit let at most as many blocks wait as it costs.
use Rattle.std.proofs.Common.{ℕ, arith, Bool, true, false, length, map, ◌+◌, ◌*◌, ◌/◌, ◌≤◌}
use Rattle.std.specs.Prelude.{sum}
use Rattle.adf_format.specs.Tree.{children_at, parent_of}
use Rattle.adf_format.specs.Links.{link_text}
use Rattle.adf_format.specs.Parts.{node_length}
use Rattle.adf_format.specs.HeapRule.{chunk_length_for}
use Rattle.adf_model.specs.declared.tree.Edit.TheVariants.{Create, Delete, Rename, Move, SetLabel, SetDims, PutAll, PutPart, Link}
use Rattle.adf_model.specs.Need.{grown_table_length, siblings_of, new_bytes, deleted_nodes, touched_nodes}
use Rattle.tree_laws.specs.Pays.{text_blocks, join_blocks, leave_blocks, data_blocks, EditPays}

header_pays : (wide : Bool) → text_blocks (node_length wide) ≤ 2
header_pays false = omega arith
header_pays true = omega arith

-- the longer table of a parent of c children, in what it may cost
table_pays : (c more : ℕ) → text_blocks (grown_table_length c) ≤ (more + 44 * (2 * c + 8) + 4095) / 4096 + 2
table_pays c more = omega arith

create_pays : (wide : Bool) (c : ℕ) → 9 * 1 + text_blocks (node_length wide) + join_blocks c ≤ 64 + (node_length wide + 44 * (2 * c + 8) + 4095) / 4096
create_pays wide c = let head = header_pays wide in let table = table_pays c (node_length wide) in omega (arith, head, table)

link_pays : (wide : Bool) (c n : ℕ) → 9 * 2 + text_blocks (node_length wide) + text_blocks n + join_blocks c ≤ 64 + (node_length wide + 44 * (2 * c + 8) + n + 4095) / 4096
link_pays wide c n = let head = header_pays wide in omega (arith, head)

move_pays : (c s : ℕ) → leave_blocks s + join_blocks c ≤ 64 + (44 * (2 * c + 8) + 44 * s + 4095) / 4096
move_pays c s = omega arith

delete_pays : (s n k : ℕ) → leave_blocks s + 12 * (3 * n + k) ≤ 64 * (1 + n + k) + (44 * s + 4095) / 4096
delete_pays s n k = omega arith

data_pays : (k bytes : ℕ) → data_blocks k bytes ≤ 64 * (1 + 0 + (0 + k)) + (bytes + 4095) / 4096
data_pays k bytes = omega arith

pub edit_pays : EditPays
edit_pays tree chunks (Create at wanted label) = let most = create_pays tree.wide (length (children_at tree at.serial)) in omega (arith, most)
edit_pays tree chunks (Link at wanted file path) = let most = link_pays tree.wide (length (children_at tree at.serial)) (chunk_length_for (length (link_text file path))) in omega (arith, most)
edit_pays tree chunks (Delete node) = delete_pays (siblings_of tree (parent_of tree node.serial)) (length (deleted_nodes tree (Delete node))) (sum (map chunks (touched_nodes tree (Delete node))))
edit_pays tree chunks (Move node to) = let most = move_pays (length (children_at tree to.serial)) (siblings_of tree (parent_of tree node.serial)) in omega (arith, most)
edit_pays tree chunks (Rename node wanted) = omega arith
edit_pays tree chunks (SetLabel node label) = omega arith
edit_pays tree chunks (SetDims node shape) = data_pays (chunks node.serial) (new_bytes tree chunks (SetDims node shape))
edit_pays tree chunks (PutAll node given) = data_pays (chunks node.serial) (new_bytes tree chunks (PutAll node given))
edit_pays tree chunks (PutPart node selection given) = data_pays (chunks node.serial) (new_bytes tree chunks (PutPart node selection given))
