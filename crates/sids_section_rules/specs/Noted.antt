-- What is noted of the sections of a zone: whether each has an element number in common with an earlier one.
use Rattle.std.specs.Prelude.{◌≡◌, ℕ, Bool, unsigned_abs, ◌==◌, if◌then◌else◌, List, [], ◌∷◌, ◌++◌, Option, Some, None, option_map, Result, Ok, Err}
use Rattle.std.specs.List.{list_any}
use Rattle.std.specs.Option.{option_to_list}
use Rattle.adf_model.specs.declared.error.AdfError.{AdfError}
use Rattle.adf_model.specs.declared.error.AdfError.TheVariants.{Memory, ReadFault}
use Rattle.adf_model.specs.declared.tree.NodeId.{NodeId}
use Rattle.adf_model.specs.Slots.{Files}
use Rattle.element_ranges.specs.declared.union.Span.{Span}
use Rattle.element_ranges.specs.declared.overlaps.OverlapNotes.{OverlapNotes}
use Rattle.element_ranges.specs.Ranges.{touches}
use Rattle.element_ranges.specs.Notes.{first_of, note_of, ranges_of}
use Rattle.sids_tables.specs.declared.labels.LabelKind.TheVariants.{Elements}
use Rattle.sids_tables.specs.contracts.labels.LabelKindPartialEq.TheImpl as kind_eq
use Rattle.sids_views.specs.declared.child.SeenChild.{SeenChild}
use Rattle.sids_views.specs.Views.{children_there}
use Rattle.sids_rules.specs.Terms.{Range, good_range}
use Rattle.sids_rules.specs.Rules.{meets}

-- the range of a child of a zone that is a section, where that is good
abbrev pub good_section : Files → SeenChild → Option Range
good_section files child = if kind_eq.ghosts.eq child.kind Elements then good_range files child.target else None

-- whether the first section of this serial with a good range meets one before it, or one of some ranges
abbrev pub note_in : Files → List SeenChild → List Range → ℕ → Option Bool
note_in files [] earlier q = None
note_in files (child ∷ children) earlier q =
    first_of (if child.node.serial == q then option_map (λ range. list_any (meets range) earlier) (good_section files child) else None)
    (note_in files children (earlier ++ option_to_list (good_section files child)) q)

-- of a zone
abbrev pub note_there : Files → NodeId → ℕ → Option Bool
note_there files zone q = note_in files (children_there files zone) [] q

-- the notes are those of some children; or want of memory, or a failed read
abbrev pub AreNotes : Files → List SeenChild → Result OverlapNotes AdfError → Type 0
AreNotes files children (Ok notes) = (q : ℕ) → note_of notes q ≡ note_in files children [] q
AreNotes files children (Err Memory) = Unit {0}
AreNotes files children (Err ReadFault) = Unit {0}
AreNotes files children (Err error) = ⊥

-- ---- one note more

abbrev pub span_of_good : Range → Span
span_of_good range = record { start = unsigned_abs range.start; end = unsigned_abs range.end }

-- one of some spans has a number of a good range
abbrev pub touched : List Span → Range → Bool
touched spans range = list_any (touches (unsigned_abs range.start) (unsigned_abs range.end)) spans

abbrev pub noted_more : OverlapNotes → ℕ → Option Range → ℕ → Option Bool
noted_more notes key range q = first_of (note_of notes q) (if key == q then option_map (touched (ranges_of notes)) range else None)
