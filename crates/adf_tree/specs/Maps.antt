-- The extents of an open file by place, and why they are not told.
use Rattle.std.specs.Prelude.{◌≡◌, ℕ, true, false, List, [], ◌∷◌, Option, Some, None, IfSome, Result, Ok, Err}
use Rattle.std.specs.List.{flat_map}
use Rattle.adf_format.specs.declared.types.Extent.{Extent}
use Rattle.adf_format.specs.RuleNumbers.{IsRule}
use Rattle.adf_format.specs.Tree.{Tree}
use Rattle.adf_format.specs.Placement.{Placement}
use Rattle.adf_format.specs.Verdict.{ListsExtents}
use Rattle.adf_model.specs.Counts.{Rose}
use Rattle.adf_model.specs.declared.error.AdfError.{AdfError}
use Rattle.adf_model.specs.declared.error.AdfError.TheVariants as error
use Rattle.cg_io.specs.Answers.{IsUntold}
use Rattle.tree_edits.specs.declared.memory.Core.{Core}
use Rattle.tree_edits.specs.declared.rows.Row.{Row}
use Rattle.tree_edits.specs.Edits.{memory_of}
use Rattle.tree_edits.specs.Rows.{Means}
use Rattle.adf_tree.specs.Files.{FileState}

-- the place of the header that a row names, if there is one
abbrev pub place_in : Option Row → List ℕ
place_in None = []
place_in (Some row) = row.place ∷ []

-- the places of the headers of all live nodes, by serial
abbrev pub live_places : List (Option Row) → List ℕ
live_places rows = flat_map place_in rows

-- of each tree and placement that bytes and memory mean, these are all parts and gaps by place
abbrev pub ListsAll : Core → List Extent → List ℕ → Type 0
ListsAll core extents image = (tree : Tree) (p : Placement) → Means image tree p (memory_of core) → ListsExtents tree.wide p extents

-- the extents; else the file is broken, memory is wanting, a read failed, or bytes that are not told break a rule
abbrev pub MapEnds : Result (List Extent) AdfError → FileState → FileState → Type 0
MapEnds (Ok extents) old new = (old.broken ≡ false) × IfSome old.device.held (ListsAll old.core extents)
MapEnds (Err error.Broken) old new = old.broken ≡ true
MapEnds (Err error.Memory) old new = old.broken ≡ false
MapEnds (Err error.ReadFault) old new = (old.broken ≡ false) × Rose old.device.faults new.device.faults
MapEnds (Err (error.Layout rule place)) old new = (old.broken ≡ false) × IsRule rule × IsUntold old.device.held
MapEnds (Err other) old new = ⊥
