-- What is answered of the header of a node, and what a look leaves of an open file.
use Rattle.std.specs.Prelude.{◌≡◌, ℕ, false, true, List, None, Some, IfSome, IsSome, Result, Ok, Err}
use Rattle.adf_format.specs.LaysOut.{fields_of}
use Rattle.adf_format.specs.RuleNumbers.{IsRule}
use Rattle.adf_format.specs.Tree.{Tree, Node, node_at}
use Rattle.adf_format.specs.Placement.{Placement, NodeParts, parts_of}
use Rattle.adf_model.specs.Counts.{OnlyReads, Rose}
use Rattle.adf_model.specs.declared.error.AdfError.{AdfError}
use Rattle.adf_model.specs.declared.error.AdfError.TheVariants as error
use Rattle.adf_records.specs.declared.NodeHeader.{NodeHeader}
use Rattle.cg_io.specs.Answers.{IsUntold}
use Rattle.node_reads.specs.Headers.{SaysFields}
use Rattle.tree_edits.specs.declared.memory.Core.{Core}
use Rattle.tree_edits.specs.Edits.{memory_of}
use Rattle.tree_edits.specs.Rows.{Means, row_of}
use Rattle.adf_tree.specs.Files.{FileState}

-- a call that looks leaves all but the counts of the device
pub record Looks (old new : FileState) : Type 0 where
  pub device : OnlyReads old.device new.device
  pub stays : new ≡ record old { device = new.device }

-- of each tree and placement that bytes and memory mean, a header has the fields of the node of a serial
abbrev pub IsHeaderOf : ℕ → Core → NodeHeader → List ℕ → Type 0
IsHeaderOf serial core header image =
    (tree : Tree) (p : Placement) (node : Node) (parts : NodeParts) → Means image tree p (memory_of core)
    → node_at tree serial ≡ Some node → parts_of p serial ≡ Some parts → SaysFields header (fields_of node parts)

-- a header; else the file is broken, there is no such node, a read failed, or bytes that are not told are no header
abbrev pub HeaderEnds : ℕ → Result NodeHeader AdfError → FileState → FileState → Type 0
HeaderEnds serial (Ok header) old new =
    (old.broken ≡ false) × IsSome (row_of old.core.rows.items serial) × IfSome old.image (IsHeaderOf serial old.core header)
HeaderEnds serial (Err error.Broken) old new = old.broken ≡ true
HeaderEnds serial (Err error.NoSuchNode) old new = (old.broken ≡ false) × (row_of old.core.rows.items serial ≡ None)
HeaderEnds serial (Err error.ReadFault) old new =
    (old.broken ≡ false) × IsSome (row_of old.core.rows.items serial) × Rose old.device.faults new.device.faults
HeaderEnds serial (Err (error.Layout rule place)) old new =
    (old.broken ≡ false) × IsSome (row_of old.core.rows.items serial) × IsRule rule × IsUntold old.image
HeaderEnds serial (Err other) old new = ⊥
