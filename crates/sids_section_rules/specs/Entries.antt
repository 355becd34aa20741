-- What the numbers of a connectivity have to be.
use Rattle.std.specs.Prelude.{ℕ, ◌/◌, ℤ, pos, unsigned_abs, Bool, not, ◌&&◌, ◌||◌, List, length, Option, is_some}
use Rattle.std.specs.List.{list_any}
use Rattle.std.specs.Ordering.{int_eq}
use Rattle.adf_format.specs.declared.types.Format.{Format}
use Rattle.adf_format.specs.Tree.{Node}
use Rattle.adf_model.specs.declared.tree.NodeId.{NodeId}
use Rattle.adf_model.specs.Slots.{Files}
use Rattle.sids_views.specs.Views.{node_there}
use Rattle.sids_rules.specs.Sections.{fixed_nodes}
use Rattle.sids_rules.specs.Values.{is_small, ints_there}
use Rattle.sids_rules.specs.Terms.{Head, Range}
use Rattle.sids_rules.specs.Rules.{is_connected, is_no_vertex}
use Rattle.element_ranges.specs.declared.union.Span.{Span}
use Rattle.element_ranges.specs.Ranges.{touches}
use Rattle.sids_section_rules.specs.declared.entries.EntryTest.{EntryTest}
use Rattle.sids_section_rules.specs.declared.entries.EntryTest.TheVariants.{Vertex, Face}
use Rattle.sids_readings.specs.Reading.{bytes_of, numbers_of}

-- 0, or its amount is in none of the ranges
abbrev pub is_no_number : List Span → ℤ → Bool
is_no_number ranges n = int_eq n (pos 0) || not (list_any (touches (unsigned_abs n) (unsigned_abs n)) ranges)

-- a number is not what it has to be: no number of a vertex, or of a face
abbrev pub fails : EntryTest → ℤ → Bool
fails (Vertex limit) n = is_no_vertex limit n
fails (Face faces) n = is_no_number faces n

-- one of the numbers in bytes is not
abbrev pub has_failing : Format → Bool → EntryTest → List ℕ → Bool
has_failing format wide test bytes = list_any (fails test) (numbers_of format wide (length bytes / bytes_of wide) bytes)

-- the numbers of a connectivity are looked at: those of elements with fixed nodes, as many as they want
abbrev pub is_fixed_list : Head → Range → Node → Bool
is_fixed_list head range node = is_connected head range node && is_small node && is_some (fixed_nodes head.code)

-- K29 connectivity-nodes, of the connectivity of a section
abbrev pub has_no_vertex : Head → Range → Option ℤ → Files → NodeId → Bool
has_no_vertex head range limit files at = is_fixed_list head range (node_there files at) && list_any (is_no_vertex limit) (ints_there files at)
