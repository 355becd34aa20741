-- What a copy of a file into another device did, what is printed of it, and how it ends.
use Rattle.std.specs.Prelude.{◌≡◌, ℕ, Bool, true, false, List, ◌++◌, codes, decimal, Option, Result, Ok, Err}
use Rattle.adf_model.specs.Counts.{NoCountFell, OnlyReads}
use Rattle.adf_model.specs.declared.error.AdfError.{AdfError}
use Rattle.adf_model.specs.declared.error.AdfError.TheVariants as error
use Rattle.cg_io.specs.Answers.{Told}
use Rattle.adf_repack.specs.Measures.{HoldsNone}
use Rattle.adf_repack.specs.Repacks.{IsLicensed, IsRepacked, IsRepackRefusal, IsWritten, LeavesDevice}
use Rattle.adf_repack.specs.declared.whole.Target.{Target}
use Rattle.call_script.specs.Replies.{refusal_text}
use Rattle.cg_io.specs.Device.{DeviceState}
use Rattle.tool_commands.specs.Printed.{line, EndsWith}
use Rattle.tool_commands.specs.declared.status.Status.{Status}
use Rattle.tool_commands.specs.declared.status.Status.TheVariants as status

-- ---- what was made

-- The tree of a file stands, in the version that is wanted, in a packed file on a device that held nothing, up to this end.
pub record IsMade (wanted : Target) (end : ℕ) (source target target_after : DeviceState) : Type 0 where
  pub none : HoldsNone target.held
  pub written : IsWritten target target_after end
  pub packed : Told source.held (λ image. IsRepacked wanted image target_after.held end)

-- Why no copy was made, by counts and by what is told, and what it leaves of the device that the copy was to go to.
pub record IsNotMade (wanted : Target) (e : AdfError) (source source_after target target_after : DeviceState) : Type 0 where
  pub licensed : IsLicensed source source_after target target_after e
  pub left : LeavesDevice target target_after e
  pub refused : Told source.held (λ image. IsRepackRefusal wanted image target target_after e)

-- a copy with its last byte, or why there is none
abbrev pub IsCopy : Target → Result ℕ AdfError → DeviceState → DeviceState → DeviceState → DeviceState → Type 0
IsCopy wanted (Ok end) source source_after target target_after = IsMade wanted end source target target_after
IsCopy wanted (Err e) source source_after target target_after = IsNotMade wanted e source source_after target target_after

-- ---- what is printed

-- the last byte of the copy, or the refusal
abbrev pub copy_line : Result ℕ AdfError → List ℕ
copy_line (Ok end) = line (codes "ok " ++ decimal end)
copy_line (Err e) = line (refusal_text e)

-- the status with which it ends
abbrev pub copy_status : Result ℕ AdfError → Status
copy_status (Ok end) = status.Done
copy_status (Err error.Memory) = status.Memory
copy_status (Err error.ReadFault) = status.DeviceFault
copy_status (Err error.WriteFault) = status.DeviceFault
copy_status (Err other) = status.No

-- it is refused for want of memory
abbrev pub lacks_memory : Result ℕ AdfError → Bool
lacks_memory (Err error.Memory) = true
lacks_memory other = false

-- What is said of a copy: its line, which is not that of want of memory; or nothing, for want of memory.
pub data Tells (made : Result ℕ AdfError) (result : Status) (taken now : Option (List ℕ)) (faults later : ℕ) : Type 0 where
  said : lacks_memory made ≡ false → EndsWith (copy_status made) (copy_line made) result taken now faults later → Tells made result taken now faults later
  lacking : result ≡ status.Memory → now ≡ taken → later ≡ faults → Tells made result taken now faults later

-- What a copy of the file of a device into another device did to both, of which no count fell, and to the sink, by how it ended. The file is only read.
pub record CopyEnds (wanted : Target) (result : Status) (source source_after target target_after : DeviceState) (taken now : Option (List ℕ)) (faults later : ℕ) : Type 0 where
  pub made : Result ℕ AdfError
  pub copy : IsCopy wanted made source source_after target target_after
  pub reads : OnlyReads source source_after
  pub counts : NoCountFell target target_after
  pub told : Tells made result taken now faults later
