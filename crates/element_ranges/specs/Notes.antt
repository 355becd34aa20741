-- What is noted of ranges by their keys.
use Rattle.std.specs.Prelude.{ℕ, Bool, ◌==◌, if◌then◌else◌, List, Option, Some, None}
use Rattle.std.specs.Ordering.{nat_cmp}
use Rattle.std.specs.BTreeMap.{BTreeMap, get}
use Rattle.element_ranges.specs.declared.union.Span.{Span}
use Rattle.element_ranges.specs.declared.overlaps.OverlapNotes.{OverlapNotes}

abbrev pub found : BTreeMap ℕ Bool → ℕ → Option Bool
found notes key = get nat_cmp notes key

-- the first of two, where it is there, else the second
abbrev pub first_of : Option Bool → Option Bool → Option Bool
first_of None other = other
first_of (Some note) other = Some note

-- what is found where a key is noted that has no note
abbrev pub found_with : BTreeMap ℕ Bool → ℕ → Bool → ℕ → Option Bool
found_with notes key note q = first_of (found notes q) (if key == q then Some note else None)

abbrev pub note_of : OverlapNotes → ℕ → Option Bool
note_of overlaps key = found overlaps.notes key

abbrev pub noted : OverlapNotes → ℕ → Bool → ℕ → Option Bool
noted overlaps key note q = found_with overlaps.notes key note q

-- ranges that have the numbers of those that were added
abbrev pub ranges_of : OverlapNotes → List Span
ranges_of overlaps = overlaps.earlier
