-- What the verdict of the linter means.
use Rattle.std.specs.Prelude.{ℕ, Bool, true, false, List, map, ⊤}
use Rattle.cg_io.specs.Cause.{Rose}
use Rattle.adf_model.specs.declared.error.AdfError.{AdfError}
use Rattle.adf_model.specs.declared.error.AdfError.TheVariants as error
use Rattle.adf_format.specs.RuleNumbers.{IsRule}
use Rattle.adf_format.specs.Verdict.{IsLaidOutAs}
use Rattle.adf_format.specs.FirstFault.{FirstFault}
use Rattle.layout_lint.specs.Halts.{fault}
use Rattle.layout_lint.specs.Walks.{node_place}
use Rattle.layout_lint.specs.declared.verdict.Halt.{Halt}
use Rattle.layout_lint.specs.declared.verdict.Halt.TheVariants as halt
use Rattle.layout_lint.specs.declared.verdict.Verdict.{Verdict}
use Rattle.layout_lint.specs.declared.verdict.Verdict.TheVariants as says

abbrev pub is_sound : Verdict → Bool
is_sound (says.Sound nodes gaps end format wide) = true
is_sound (says.Unsound rule place) = false

-- a sound image lays out a tree with these nodes, gaps, end, byte order and version; an unsound one has this first fault
abbrev pub IsVerdict : List ℕ → Verdict → Type 0
IsVerdict image (says.Sound nodes gaps end format wide) = IsLaidOutAs image (map node_place nodes) gaps end format wide
IsVerdict image (says.Unsound rule place) = FirstFault image (record { rule = rule; place = place })

-- a rule that is named is one of a layout
abbrev pub NamesRule : Verdict → Type 0
NamesRule (says.Sound nodes gaps end format wide) = ⊤
NamesRule (says.Unsound rule place) = IsRule rule

-- a broken rule is the image's first
abbrev pub IsFault : List ℕ → Halt → Type 0
IsFault image (halt.Broken b) = FirstFault image (fault b)
IsFault image halt.Memory = ⊤
IsFault image halt.Read = ⊤

-- want of memory, or a failed read where the count of faults rose
abbrev pub MayFail : ℕ → ℕ → AdfError → Type 0
MayFail before now error.Memory = ⊤
MayFail before now error.ReadFault = Rose before now
MayFail before now other = ⊥
