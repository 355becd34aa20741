-- What a write that failed leaves of the bytes of a file, and what the failed commit of a group does.
use Rattle.std.specs.Prelude.{◌≡◌, ◌⊎◌, ℕ, ◌+◌, ◌-◌, ◌*◌, ◌/◌, ◌<◌, ◌≤◌, max, List, ◌++◌, length, take, drop, replicate, Ok}
use Rattle.adf_format.specs.Tree.{Tree}
use Rattle.adf_format.specs.Placement.{Placement}
use Rattle.adf_format.specs.LaysOut.{LaysOut}
use Rattle.adf_model.specs.declared.tree.Edit.{Edit}
use Rattle.adf_model.specs.Placing.{place_group}
use Rattle.adf_model.specs.Untouched.{group_touched, KeepsRest, KeepsTail, MayWrite}

-- the bytes of a block: zeros past the end
abbrev pub block : List ℕ → ℕ → List ℕ
block bytes number = let piece = take 4096 (drop (number * 4096) bytes) in piece ++ replicate (4096 - length piece) 0

-- a write of `wanted` over `before` that failed at a block: the blocks before that one are written, those after it are not; the file is as long as before, or a number of whole blocks
pub record TornAt (torn : ℕ) (before wanted now : List ℕ) : Type 0 where
  pub written : (number : ℕ) → number < torn → block now number ≡ block wanted number
  pub unwritten : (number : ℕ) → torn < number → block now number ≡ block before number
  pub kept : length before ≤ length now
  pub grown : length now ≤ max (length before) ((torn + 1) * 4096)
  pub whole : (length now ≡ length before) ⊎ ((blocks : ℕ) × (length now ≡ blocks * 4096))

-- the bytes are a first part of a layout of the tree that was to be written, up to a block that is torn: at most that of the end; the bytes behind the end were to stay
pub record Torn (before now : List ℕ) (tree : Tree) : Type 0 where
  pub wanted : List ℕ
  pub placement : Placement
  pub laid_out : LaysOut wanted tree placement
  pub tail : KeepsTail placement.heap.end before wanted
  pub number : ℕ
  pub within : number * 4096 ≤ placement.heap.end
  pub torn : TornAt number before wanted now

-- What the failed commit of a group left of its file: a first part of the layout that the heap rule gives, which is other than before only as a done group may make it; and the torn block is one that the group may write.
pub record TornGroup (limit : ℕ) (tree : Tree) (p : Placement) (done : List (Edit × Tree)) (after : Tree) (before now : List ℕ) : Type 0 where
  pub file : Torn before now after
  pub placed : place_group limit tree p done ≡ Ok file.placement
  pub rest : KeepsRest limit tree p done file.placement before file.wanted
  pub reached : (b : ℕ) × (b / 4096 ≡ file.number) × MayWrite (group_touched limit tree p done) tree.wide p file.placement.heap.end b
