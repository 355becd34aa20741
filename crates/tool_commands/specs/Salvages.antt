-- What a copy of the sound part of a damaged file did, what is printed of it, and how it ends.
use Rattle.std.specs.Prelude.{◌≡◌, ℕ, ◌≤◌, false, List, [], ◌∷◌, ◌++◌, take, codes, Option, Result, Ok, Err}
use Rattle.std.specs.List.{flat_map}
use Rattle.std.specs.Io.KnownBytes.{Appends}
use Rattle.adf_model.specs.Counts.{NoCountFell, OnlyReads}
use Rattle.adf_model.specs.declared.error.AdfError.{AdfError}
use Rattle.cg_io.specs.Answers.{Told}
use Rattle.adf_repack.specs.Measures.{HoldsNone}
use Rattle.adf_repack.specs.Repacks.{IsLicensed, IsWritten, LeavesDevice}
use Rattle.adf_salvage.specs.Salvages.{IsSalvaged, IsSalvageRefusal}
use Rattle.adf_salvage.specs.declared.list.Left.{Left}
use Rattle.cg_io.specs.Device.{DeviceState}
use Rattle.layout_report.specs.Lines.{fault_line}
use Rattle.tool_commands.specs.Copies.{copy_line, copy_status, lacks_memory}
use Rattle.tool_commands.specs.Printed.{EndsWith}
use Rattle.tool_commands.specs.declared.salvages.Saved.{Saved}
use Rattle.tool_commands.specs.declared.status.Status.{Status}
use Rattle.tool_commands.specs.declared.status.Status.TheVariants as status

-- ---- what was made

-- The tree of the sound part stands, in the version of the file, in a packed file on a device that held nothing, up to this end, and all nodes that are left out are told.
pub record IsSaved (saved : Saved) (source target target_after : DeviceState) : Type 0 where
  pub none : HoldsNone target.held
  pub written : IsWritten target target_after saved.end
  pub packed : Told source.held (λ image. IsSalvaged image target_after.held saved.end saved.left)

-- Why no copy was made, by counts and by what is told, and what it leaves of the device that the copy was to go to.
pub record IsNotSaved (e : AdfError) (source source_after target target_after : DeviceState) : Type 0 where
  pub licensed : IsLicensed source source_after target target_after e
  pub left : LeavesDevice target target_after e
  pub refused : Told source.held (λ image. IsSalvageRefusal image target target_after e)

-- what was saved, or why there is no copy
abbrev pub IsSalvage : Result Saved AdfError → DeviceState → DeviceState → DeviceState → DeviceState → Type 0
IsSalvage (Ok saved) source source_after target target_after = IsSaved saved source target target_after
IsSalvage (Err e) source source_after target target_after = IsNotSaved e source source_after target target_after

-- ---- what is printed

-- the path of a node that was left out, the first rule that it breaks, and where
abbrev pub left_line : Left → List ℕ
left_line left = codes "left " ++ left.path ++ 32 ∷ fault_line left.rule left.place

-- the lines of nodes that were left out, one behind the other
abbrev pub left_lines : List Left → List ℕ
left_lines left = flat_map left_line left

-- the last byte of a copy, or why there is none
abbrev pub end_of : Result Saved AdfError → Result ℕ AdfError
end_of (Ok saved) = Ok saved.end
end_of (Err e) = Err e

-- the nodes that were left out of a copy
abbrev pub left_by : Result Saved AdfError → List Left
left_by (Ok saved) = saved.left
left_by (Err e) = []

-- what is said of a salvage: the nodes that were left out, and behind them the last byte of the copy; or the refusal alone
abbrev pub salvage_text : Result Saved AdfError → List ℕ
salvage_text made = left_lines (left_by made) ++ copy_line (end_of made)

-- it is done where nothing was left out
abbrev pub saved_status : List Left → Status
saved_status [] = status.Done
saved_status (left ∷ others) = status.No

-- the status with which a salvage ends
abbrev pub salvage_status : Result Saved AdfError → Status
salvage_status (Ok saved) = saved_status saved.left
salvage_status (Err e) = copy_status (Err e)

-- What is said of a salvage: its text, which is not that of want of memory; or for want of memory the lines of the first nodes that were left out.
pub data TellsSalvage (made : Result Saved AdfError) (result : Status) (taken now : Option (List ℕ)) (faults later : ℕ) : Type 0 where
  said : lacks_memory (end_of made) ≡ false → EndsWith (salvage_status made) (salvage_text made) result taken now faults later → TellsSalvage made result taken now faults later
  lacking : (count : ℕ) → result ≡ status.Memory → Appends taken now (left_lines (take count (left_by made))) → faults ≤ later → TellsSalvage made result taken now faults later

-- What a copy of the sound part of the file of a device into another device did to both, of which no count fell, and to the sink, by how it ended. The file is only read.
pub record SalvageEnds (result : Status) (source source_after target target_after : DeviceState) (taken now : Option (List ℕ)) (faults later : ℕ) : Type 0 where
  pub made : Result Saved AdfError
  pub salvage : IsSalvage made source source_after target target_after
  pub reads : OnlyReads source source_after
  pub counts : NoCountFell target target_after
  pub told : TellsSalvage made result taken now faults later
