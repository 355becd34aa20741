-- What holds of the packed file of a tree.
use Rattle.std.specs.Prelude.{◌≡◌, ℕ, ◌^◌, ◌≤◌, List, ◌++◌, length}
use Rattle.adf_format.specs.Tree.{Tree, IsTree}
use Rattle.adf_format.specs.LaysOut.{LaysOut}
use Rattle.adf_format.specs.Packed.{packed_length, IsPacked}
use Rattle.packed_laws.specs.PackedForm.{packed_placement, packed_text}

-- a file that begins with its bytes lays out the tree at the packed places, where a pointer can name each of them
abbrev pub PackedIsLaidOut : Type 0
PackedIsLaidOut = (tree : Tree) (behind : List ℕ) → IsTree tree → packed_length tree ≤ 2 ^ 44 → LaysOut (packed_text tree ++ behind) tree (packed_placement tree)

-- and these leave no gap
abbrev pub HasNoGap : Type 0
HasNoGap = (tree : Tree) → IsPacked tree (packed_placement tree)

-- its bytes are as many as the length of the packed file
abbrev pub IsLong : Type 0
IsLong = (tree : Tree) → IsTree tree → packed_length tree ≤ 2 ^ 44 → length (packed_text tree) ≡ packed_length tree
