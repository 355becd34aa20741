-- The children of a tree as they are kept, and whose the lists are.
use Rattle.std.specs.Prelude.{ℕ, List, map, Option}
use Rattle.adf_format.specs.Fields.{text_field, trimmed}
use Rattle.adf_format.specs.Tree.{Tree, children_at, name_at}
use Rattle.adf_model.specs.declared.tree.Child.{Child}
use Rattle.kept_names.specs.Kept.{AreKept, Children, NamesState}
use Rattle.tree_asks.specs.Told.{OfEach}
use Rattle.tree_edits.specs.declared.memory.Core.{Core}

-- ---- a child

-- as it is kept: its name field and its serial
abbrev pub entry_in : Tree → ℕ → List ℕ × ℕ
entry_in tree serial = (text_field 32 (name_at tree serial), serial)

abbrev pub kept_child : Child → List ℕ × ℕ
kept_child child = (text_field 32 child.name, child.node.serial)

-- and as it is answered in a file
abbrev pub answered_child : ℕ → List ℕ × ℕ → Child
answered_child file entry = record { node = record { file = file; serial = entry.1 }; name = trimmed entry.0 }

-- ---- all

-- the children of each node of a tree
abbrev pub children_in : Tree → Children
children_in tree serial = map (entry_in tree) (children_at tree serial)

-- Of each tree that the bytes and the memory mean: the lists that are kept are those of its children; and those that no edit of
-- the group under way has touched are those of the children before it.
abbrev pub AreNames : Core → Option (List ℕ) → NamesState → Children → Type 0
AreNames core held names was = OfEach core held (λ image tree p. AreKept names (children_in tree) was)

abbrev pub HasNames : Core → Option (List ℕ) → NamesState → Type 0
HasNames core held names = (was : Children) × AreNames core held names was

-- a call on the tree leaves them so
abbrev pub NamesStay : Core → Option (List ℕ) → NamesState → NamesState → Type 0
NamesStay core held old new = (was : Children) → AreNames core held old was → AreNames core held new was
