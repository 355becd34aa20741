-- What changes beside the lists of free chunks, the end pointer and the fillers, and what that leaves.
use Rattle.std.specs.Prelude.{◌≡◌, ℕ, ◌<◌, List, filter, Option, IfSome}
use Rattle.cg_io.specs.Blocks.{Both}
use Rattle.adf_format.specs.declared.fields.TheConstants.{HEADER_END, FREE_TABLE_PLACE, FREE_TABLE_LENGTH}
use Rattle.adf_format.specs.declared.types.Extent.{Extent}
use Rattle.adf_format.specs.Tiles.{cover, is_free, is_filler, MeetsNone}
use Rattle.file_heap.specs.Heap.{ChangesOnly, KeepsFillers, MovesEnd, FreeSpace, IsThreaded}

-- none of the ranges has a byte of the free table or of a free chunk among the gaps
pub record AreBeside (ranges gaps : List Extent) : Type 0 where
  pub table : MeetsNone FREE_TABLE_PLACE FREE_TABLE_LENGTH ranges
  pub chunks : (b : ℕ) → 0 < cover (filter is_free gaps) b → cover ranges b ≡ 0

-- the lists stay where only bytes beside them and beside the free table change
abbrev pub ListsStay : Type 0
ListsStay = (ranges : List Extent) (space : FreeSpace) (old new : Option (List ℕ)) → Both (ChangesOnly ranges) old new → AreBeside ranges space.heap.gaps → IfSome old (IsThreaded space) → IfSome new (IsThreaded space)

-- the end pointer stays where only bytes beside it change
abbrev pub EndStays : Type 0
EndStays = (ranges : List Extent) (space : FreeSpace) (end : ℕ) (old new : Option (List ℕ)) → Both (ChangesOnly ranges) old new → MeetsNone HEADER_END.offset HEADER_END.length ranges → IfSome old (IsThreaded space) → Both (MovesEnd end end) old new

-- fillers stay where only bytes beside them change
abbrev pub FillersStay : Type 0
FillersStay = (ranges gaps : List Extent) (old new : Option (List ℕ)) → Both (ChangesOnly ranges) old new → ((b : ℕ) → 0 < cover (filter is_filler gaps) b → cover ranges b ≡ 0) → Both (KeepsFillers gaps gaps) old new
