-- What is kept of the base and of the zone above a node.
use Rattle.std.specs.Prelude.{◌≡◌, ℕ, ℤ, List, Bool, true, false, ◌&&◌, ◌==◌, if◌then◌else◌, Option, Some, None, option_map, Result, Ok, Err}
use Rattle.adf_model.specs.declared.error.AdfError.{AdfError}
use Rattle.adf_model.specs.declared.error.AdfError.TheVariants.{Memory, ReadFault}
use Rattle.adf_model.specs.declared.tree.NodeId.{NodeId}
use Rattle.adf_model.specs.Slots.{Files}
use Rattle.element_ranges.specs.declared.overlaps.OverlapNotes.{OverlapNotes}
use Rattle.element_ranges.specs.Notes.{note_of}
use Rattle.sids_views.specs.Asks.{IsValueOr}
use Rattle.sids_views.specs.Views.{is_same_node}
use Rattle.sids_rules.specs.declared.seen.Seen.{Seen}
use Rattle.sids_readings.specs.Around.{base_around, zone_numbers, sizes_around, surroundings}
use Rattle.sids_node_rules.specs.Fields.{dims_under}
use Rattle.sids_section_rules.specs.Noted.{note_there}
use Rattle.sids_broken.specs.NodeTests.{dims_beside}
use Rattle.cgns_check.specs.declared.rule_finder.RuleFinder.{RuleFinder}

-- two are the same node, or both are none
abbrev pub is_same_place : Option NodeId → Option NodeId → Bool
is_same_place (Some one) (Some other) = is_same_node one other
is_same_place None None = true
is_same_place one other = false

-- ---- the sections of a zone that overlap earlier ones

-- what is noted of a child of the zone above a node, by its serial; nothing where there is no zone
abbrev pub note_around : Files → Option NodeId → ℕ → Option Bool
note_around files None q = None
note_around files (Some zone) q = note_there files zone q

-- the notes are those of the zone above a node; or want of memory, or a failed read
abbrev pub AreNotesAround : Files → Option NodeId → Result OverlapNotes AdfError → Type 0
AreNotesAround files above (Ok notes) = (q : ℕ) → note_of notes q ≡ note_around files above q
AreNotesAround files above (Err Memory) = Unit {0}
AreNotesAround files above (Err ReadFault) = Unit {0}
AreNotesAround files above (Err error) = ⊥

-- what is noted of a node whose followed parent is the zone above it, and whose own file is the zone's
abbrev pub known_under : OverlapNotes → NodeId → Option NodeId → Option NodeId → Option Bool
known_under notes node (Some parent) (Some zone) = if is_same_node parent zone && node.file == zone.file then note_of notes node.serial else None
known_under notes node parent above = None

-- the same of a seen node
abbrev pub known_overlap : OverlapNotes → Seen → Option Bool
known_overlap notes seen = known_under notes seen.node seen.parent seen.zone

-- ---- a finder

-- what is kept of a base and of a zone is what these files tell of them
pub record Recalls (files : Files) (finder : RuleFinder) : Type 0 where
  pub base : finder.around.base ≡ base_around files finder.base
  pub zone : finder.around.zone ≡ option_map (zone_numbers files) finder.zone
  pub notes : (q : ℕ) → note_of finder.notes q ≡ note_around files finder.zone q
  pub dims : finder.dims ≡ dims_under files (sizes_around finder.around.zone) finder.holder

-- what is kept is what is read of a base; or want of memory, or a failed read
abbrev pub IsBaseKept : Files → Option NodeId → RuleFinder → Result Unit AdfError → Type 0
IsBaseKept files base finder (Ok done) = finder.around.base ≡ base_around files base
IsBaseKept files base finder (Err error) = IsValueOr {A = Unit {0}} tt (Err error)

-- what is kept of a zone is what is read of it
pub record KeepsZone (files : Files) (zone : Option NodeId) (finder : RuleFinder) : Type 0 where
  pub numbers : finder.around.zone ≡ option_map (zone_numbers files) zone
  pub notes : (q : ℕ) → note_of finder.notes q ≡ note_around files zone q

-- that; or want of memory, or a failed read
abbrev pub IsZoneKept : Files → Option NodeId → RuleFinder → Result Unit AdfError → Type 0
IsZoneKept files above finder (Ok done) = KeepsZone files above finder
IsZoneKept files above finder (Err error) = IsValueOr {A = Unit {0}} tt (Err error)

-- the dimensions that the arrays under a node are to have, where it is the grid or the solution that is kept
abbrev pub known_dims : RuleFinder → Option NodeId → Option (List ℤ)
known_dims finder parent = if is_same_place finder.holder parent then finder.dims else None

-- those are the dimensions under the node; or want of memory, or a failed read
abbrev pub AreDimsKept : Files → Option NodeId → RuleFinder → Result Unit AdfError → Type 0
AreDimsKept files parent finder (Ok done) = known_dims finder parent ≡ dims_under files (sizes_around finder.around.zone) parent
AreDimsKept files parent finder (Err error) = IsValueOr {A = Unit {0}} tt (Err error)

-- what is kept is what rules read around a seen node
pub record KeepsAround (files : Files) (seen : Seen) (finder : RuleFinder) : Type 0 where
  pub around : finder.around ≡ surroundings files seen
  pub notes : (q : ℕ) → note_of finder.notes q ≡ note_around files seen.zone q
  pub dims : known_dims finder seen.parent ≡ dims_beside files seen

-- that; or want of memory, or a failed read
abbrev pub IsAroundKept : Files → Seen → RuleFinder → Result Unit AdfError → Type 0
IsAroundKept files seen finder (Ok done) = KeepsAround files seen finder
IsAroundKept files seen finder (Err error) = IsValueOr {A = Unit {0}} tt (Err error)
