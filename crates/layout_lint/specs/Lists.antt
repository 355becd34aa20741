-- What a pass over the lists of free chunks has found.
use Rattle.std.specs.Prelude.{◌≡◌, ℕ, ◌+◌, Bool, nat_le, cond, true, ◌&&◌, ◌==◌, List, [], ◌∷◌, ◌++◌, map, Option, Some, None, Err, codes}
use Rattle.std.specs.Ordering.{nat_cmp}
use Rattle.layout_lint.specs.Keys.{contains}
use Rattle.adf_format.specs.Fields.{field, holds}
use Rattle.adf_format.specs.Pointer.{pointer, is_pointer, is_place, place_of, is_place_value, place_value}
use Rattle.adf_format.specs.Tiles.{total_length}
use Rattle.adf_format.specs.declared.types.Extent.{Extent}
use Rattle.adf_format.specs.Checks.{Row, row, first_broken}
use Rattle.adf_format.specs.Records.{free_table_record}
use Rattle.adf_format.specs.FirstFault.{Visit, FreeVisit, FreeWalk, fits, free_extent, free_table_rows, found_extents, is_wide, first_at, last_at}
use Rattle.disk_ptr.specs.View.{view}
use Rattle.layout_laws.specs.ListPass.{IsAtList, is_met, named_place, waiting}
use Rattle.adf_records.specs.View.{pointers_of}
use Rattle.adf_records.specs.declared.FreeTable.{FreeTable}
use Rattle.layout_lint.specs.Halts.{fault}
use Rattle.layout_lint.specs.declared.lists.FreeList.{FreeList}
use Rattle.layout_lint.specs.declared.lists.Frees.{Frees}
use Rattle.layout_lint.specs.declared.verdict.Halt.{Halt}
use Rattle.layout_lint.specs.declared.verdict.Halt.TheVariants as halt

-- the first chunk of a list, if it has one
abbrev pub first_of : FreeList → Option ℕ
first_of list = cond (is_place_value (Some (view list.first))) (Some (place_value (Some (view list.first)))) None

-- where the end tag of a free chunk stands, if its pointer names a place in reach
abbrev pub tail_said : ℕ → ℕ → List ℕ → Option ℕ
tail_said end at bytes = cond (is_place bytes && nat_le (at + 32) (place_of bytes + 4) && nat_le (place_of bytes + 4) (end + 1)) (Some (place_of bytes)) None

-- a chunk that names no next one is the last of its list
abbrev pub agrees : FreeList → ℕ → Option ℕ → Bool
agrees list at (Some next) = true
agrees list at None = is_place_value (Some (view list.last)) && (place_value (Some (view list.last)) == at)

-- whether the pointer to the end tag of a free chunk names a place in reach
abbrev pub has_free_tail : List ℕ → ℕ → ℕ → Bool
has_free_tail image end f = let tail = place_of (field image (f + 4) 12) in
    is_place (field image (f + 4) 12) && nat_le (f + 32) (tail + 4) && nat_le (tail + 4) (end + 1)

-- rule 29 on the bytes of a free chunk
unfoldable pub free_byte_rows : List ℕ → ℕ → ℕ → List Row
free_byte_rows image end f =
    row 29 f (fits end f 32 && holds image f (codes "FreE"))
    ∷ row 29 (f + 4) (has_free_tail image end f)
    ∷ row 29 (f + 16) (is_pointer (field image (f + 16) 12))
    ∷ row 29 (place_of (field image (f + 4) 12)) (holds image (place_of (field image (f + 4) 12)) (codes "EndC")) ∷ []

-- a list as code has it is the one with this number in the free table
pub record IsListAt (image : List ℕ) (number : ℕ) (list : FreeList) : Type 0 where
  pub first : pointer (field image (first_at number) 12) ≡ Some (view list.first)
  pub last : pointer (field image (last_at number) 12) ≡ Some (view list.last)
  pub last_at : list.last_at ≡ last_at number

-- The free chunks met so far, with their places, their extents behind those of the nodes, and the bytes of all.
pub record IsSweep (image : List ℕ) (nodes : List Visit) (base : List Extent) (frees : Frees) (seen : List FreeVisit) : Type 0 where
  pub places : (q : ℕ) → contains nat_cmp frees.places q ≡ is_met seen q
  pub extents : frees.extents.items ≡ base ++ map (free_extent image) seen
  pub used : frees.used ≡ 266 + total_length (found_extents image (is_wide image) nodes) + total_length (map (free_extent image) seen)

-- The walk over a list has come to a chunk, or to the end of the list, and has met some chunks before.
pub record HasCome (image : List ℕ) (nodes : List Visit) (base : List Extent) (number : ℕ) (next : Option ℕ) (later : List FreeVisit) (frees : Frees) : Type 0 where
  pub seen : List FreeVisit
  pub at : IsAtList image nodes number next later seen
  pub sweep : IsSweep image nodes base frees seen

-- it has come to the first chunk of the small list, and the other two lists wait
abbrev pub HasBegun : List ℕ → List Visit → List Extent → Frees → Type 0
HasBegun image nodes base frees = HasCome image nodes base 0 (named_place (field image 190 12)) (waiting 1 (named_place (field image 214 12)) ++ waiting 2 (named_place (field image 238 12))) frees

-- the free table breaks no rule, and says this
pub record HasLists (image : List ℕ) (table : FreeTable) : Type 0 where
  pub said : pointers_of table ≡ free_table_record (field image 186 80)
  pub kept : first_broken (free_table_rows 186 (field image 186 80)) ≡ None

-- A free chunk is put behind those that were met.
pub record KeepsFree (image : List ℕ) (at : ℕ) (old new : Frees) : Type 0 where
  pub places : (q : ℕ) → contains nat_cmp new.places q ≡ cond (at == q) true (contains nat_cmp old.places q)
  pub extents : new.extents.items ≡ old.extents.items ++ free_extent image (record { place = at; list = 0 }) ∷ []
  pub used : new.used ≡ old.used + (free_extent image (record { place = at; list = 0 })).length

-- a broken rule is the image's first among its free chunks
abbrev pub EndsLists : List ℕ → List Visit → Halt → Type 0
EndsLists image nodes (halt.Broken b) = FreeWalk image nodes (Err (fault b))
EndsLists image nodes halt.Memory = Unit {0}
EndsLists image nodes halt.Read = Unit {0}
