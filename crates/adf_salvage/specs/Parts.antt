-- The sound part of a damaged file, as it is answered.
use Rattle.std.specs.Prelude.{◌≡◌, ◌⊎◌, ℕ, ◌^◌, ◌<◌, List, [], ◌∷◌, length, map, Some, ⊤}
use Rattle.std.specs.List.{All}
use Rattle.adf_format.specs.declared.fields.TheConstants.{HEADER_LENGTH}
use Rattle.adf_format.specs.Checks.{Fault, Row, first_broken}
use Rattle.adf_format.specs.Fields.{field}
use Rattle.adf_format.specs.FirstFault.{Visit, row_of_length, header_rows, root_visit, is_wide}
use Rattle.adf_format.specs.RuleNumbers.{IsRule}
use Rattle.adf_format.specs.SoundPart.{IsSoundPart}
use Rattle.adf_model.specs.declared.error.AdfError.{AdfError}
use Rattle.adf_model.specs.declared.error.AdfError.TheVariants as error
use Rattle.cg_io.specs.Cause.{Rose}
use Rattle.layout_lint.specs.Shapes.{AreLinked, AreWithin}
use Rattle.layout_lint.specs.Walks.{node_place}
use Rattle.salvage_laws.specs.Surveys.{NameVisits}
use Rattle.adf_salvage.specs.declared.part.SoundPart.{SoundPart}
use Rattle.adf_salvage.specs.LeftOut.{left_of, HasRule}

-- rules 1 to 7
abbrev pub start_rows : List ℕ → List Row
start_rows image = row_of_length image ∷ header_rows (field image 0 HEADER_LENGTH)

-- The nodes and those left out are all of the sound part, in tree order.
pub record IsPartOf (image : List ℕ) (part : SoundPart) : Type 0 where
  pub kept : List Visit
  pub left : List (Visit × Fault)
  pub sound : IsSoundPart image kept left
  pub nodes : NameVisits kept (map node_place part.nodes)
  pub told : part.left ≡ map (left_of kept) left
  pub wide : part.wide ≡ is_wide image

-- The nodes are linked, their headers lie within what pointers reach, and what is left out breaks a rule: so it is of any file, whether bytes are told or not.
pub record IsShaped (part : SoundPart) : Type 0 where
  pub some : 0 < length part.nodes
  pub linked : AreLinked (map node_place part.nodes)
  pub end : ℕ
  pub reached : end < 2 ^ 44
  pub headers : AreWithin part.wide end (map node_place part.nodes)
  pub rules : All HasRule part.left

-- the file has no sound part: this is the first of rules 1 to 7 that its head breaks, or the first rule that its root breaks
abbrev pub HasNoPart : List ℕ → Fault → Type 0
HasNoPart image fault = (first_broken (start_rows image) ≡ Some fault) ⊎ IsSoundPart image [] ((root_visit image, fault) ∷ [])

-- so a refusal of a rule tells
abbrev pub TellsNoPart : List ℕ → AdfError → Type 0
TellsNoPart image (error.Layout rule place) = HasNoPart image (record { rule = rule; place = place })
TellsNoPart image other = ⊤

-- why there may be no answer: a rule is broken, want of memory, or a failed read where the count of faults rose
abbrev pub MayRefuse : ℕ → ℕ → AdfError → Type 0
MayRefuse before now (error.Layout rule place) = IsRule rule
MayRefuse before now error.Memory = ⊤
MayRefuse before now error.ReadFault = Rose before now
MayRefuse before now other = ⊥
