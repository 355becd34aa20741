-- The children of a node as they are answered, by the entries of its table.
use Rattle.std.specs.Prelude.{◌≡◌, ℕ, ◌+◌, ◌*◌, ◌<◌, true, false, List, length, slice_get, Option, Some, None, IsSome}
use Rattle.adf_format.specs.Fields.{field, trimmed}
use Rattle.adf_model.specs.declared.error.AdfError.{AdfError}
use Rattle.adf_model.specs.declared.error.AdfError.TheVariants as error
use Rattle.adf_model.specs.declared.tree.Child.{Child}
use Rattle.cg_io.specs.Cause.{Rose}
use Rattle.node_reads.specs.declared.header.ChildTable.{ChildTable}
use Rattle.node_reads.specs.Entries.{child_said}
use Rattle.node_reads.specs.Reads.{ReadAt}
use Rattle.tree_edits.specs.declared.memory.Core.{Core}
use Rattle.tree_edits.specs.Listed.{NamesTable}
use Rattle.tree_asks.specs.Hints.{is_placed}

-- ---- one entry

-- the child that an entry names, as it is answered: a row of its serial has the place
abbrev pub SaysChild : Core → ℕ → Option (List ℕ × ℕ) → Child → Type 0
SaysChild core number None child = ⊥
SaysChild core number (Some said) child =
    (is_placed core.rows.items said.1 child.node.serial ≡ true) × (child.node.file ≡ number) × (child.name ≡ trimmed said.0)

-- why there is no answer: memory is wanting; the entry, at a place, names no child (rule 24); or it names a header that is a
-- part of no node (rule 30)
abbrev pub SaysNoChild : Core → ℕ → AdfError → Option (List ℕ × ℕ) → Type 0
SaysNoChild core at error.Memory said = IsSome said
SaysNoChild core at (error.Layout rule place) None = (rule ≡ 24) × (place ≡ at)
SaysNoChild core at (error.Layout rule place) (Some said) =
    (rule ≡ 30) × (place ≡ said.1) × ((serial : ℕ) → is_placed core.rows.items said.1 serial ≡ false)
SaysNoChild core at other said = ⊥

-- ---- a piece of a table

-- behind the children that were there stand those of the first entries of a piece
pub record AddsChildren (core : Core) (number : ℕ) (piece : List ℕ) (count : ℕ) (old new : List Child) : Type 0 where
  pub more : length new ≡ length old + count
  pub before : (i : ℕ) → i < length old → slice_get new i ≡ slice_get old i
  pub added : (i : ℕ) (child : Child) → i < count → slice_get new (length old + i) ≡ Some child → SaysChild core number (child_said (field piece (44 * i) 44)) child

-- one of the first entries of a piece, which begins at a place, is not answered
pub record PieceFails (core : Core) (piece : List ℕ) (count at : ℕ) (e : AdfError) : Type 0 where
  pub position : ℕ
  pub within : position < count
  pub says : SaysNoChild core (at + 44 * position) e (child_said (field piece (44 * position) 44))

-- ---- a table

-- children are those of the first entries of a table
pub record AreChildren (core : Core) (held : Option (List ℕ)) (number : ℕ) (table : ChildTable) (count : ℕ) (children : List Child) : Type 0 where
  pub all : length children ≡ count
  pub each : (i : ℕ) (child : Child) → slice_get children i ≡ Some child
      → ReadAt held (table.place + 16 + 44 * i) 44 (λ entry. SaysChild core number (child_said entry) child)

-- an entry in use is not answered
pub record EntryFails (core : Core) (held : Option (List ℕ)) (table : ChildTable) (e : AdfError) : Type 0 where
  pub position : ℕ
  pub within : position < table.count
  pub says : ReadAt held (table.place + 16 + 44 * position) 44
      (λ entry. SaysNoChild core (table.place + 16 + 44 * position) e (child_said entry))

-- why the entries in use are not answered: a failed read, or one of them
abbrev pub AreUnlisted : Core → Option (List ℕ) → ChildTable → ℕ → ℕ → AdfError → Type 0
AreUnlisted core held table before now error.ReadFault = Rose before now
AreUnlisted core held table before now e = EntryFails core held table e

-- an entry in use of the table that the header at a place names is not answered
pub record ChildFails (core : Core) (held : Option (List ℕ)) (place : ℕ) (e : AdfError) : Type 0 where
  pub table : ChildTable
  pub named : NamesTable core.wide held place table
  pub entry : EntryFails core held table e
