-- What a packed copy of a file is, and when it is refused.
use Rattle.std.specs.Prelude.{◌≡◌, ◌⊎◌, ℕ, ◌+◌, ◌^◌, ◌<◌, ◌≤◌, Bool, true, false, List, Option, Some}
use Rattle.std.specs.List.{Contains}
use Rattle.adf_format.specs.FirstFault.{FirstFault}
use Rattle.adf_format.specs.LaysOut.{LaysOut}
use Rattle.adf_format.specs.Packed.{IsPacked, packed_length}
use Rattle.adf_format.specs.Placement.{Placement}
use Rattle.adf_format.specs.RuleNumbers.{IsRule}
use Rattle.adf_format.specs.Tree.{Tree, Node, node_at}
use Rattle.adf_model.specs.declared.error.AdfError.{AdfError}
use Rattle.adf_model.specs.declared.error.AdfError.TheVariants as error
use Rattle.cg_io.specs.Cause.{Rose, raised}
use Rattle.cg_io.specs.Device.{DeviceState}
use Rattle.adf_model.specs.Counts.{NoCountFell, OnlyReads}
use Rattle.adf_repack.specs.declared.whole.Target.{Target}
use Rattle.adf_repack.specs.declared.whole.Target.TheVariants as target
use Rattle.adf_repack.specs.Given.{in_version}
use Rattle.cg_io.specs.Answers.{Told}
use Rattle.adf_repack.specs.Measures.{HoldsNone, HoldsSome}
use Rattle.adf_repack.specs.Writers.{WritesBlocks, blocks_for}

-- the width of a copy, from that of the file
abbrev pub width_for : Target → Bool → Bool
width_for target.Same wide = wide
width_for target.Wide wide = true
width_for target.Narrow wide = false

-- ---- a copy

-- Bytes up to an end lay out a tree, and leave no gap.
pub record IsPackedFile (tree : Tree) (held : List ℕ) (end : ℕ) : Type 0 where
  pub placement : Placement
  pub laid_out : LaysOut held tree placement
  pub packed : IsPacked tree placement
  pub last : placement.heap.end ≡ end

-- the version is the narrow one, and a dimension of a node is above 2^32 - 1
pub record HasLongDimension (wide : Bool) (tree : Tree) : Type 0 where
  pub narrow : wide ≡ false
  pub serial : ℕ
  pub node : Node
  pub live : node_at tree serial ≡ Some node
  pub dim : ℕ
  pub has : Contains node.dims dim
  pub long : 2 ^ 32 ≤ dim

abbrev pub FitsVersion : Bool → Tree → Type 0
FitsVersion wide tree = HasLongDimension wide tree → ⊥

-- A tree stands, in a version, in a packed file.
pub record IsCopied (wide : Bool) (tree : Tree) (held : Option (List ℕ)) (end : ℕ) : Type 0 where
  pub fits : FitsVersion wide tree
  pub near : packed_length (in_version wide tree) ≤ 2 ^ 44
  pub long : end + 1 ≡ packed_length (in_version wide tree)
  pub file : Told held (λ bytes. IsPackedFile (in_version wide tree) bytes end)

-- each block up to the end was written once, the device was read only to ask for its length, and no count fell
pub record IsWritten (old new : DeviceState) (end : ℕ) : Type 0 where
  pub blocks : WritesBlocks 0 (blocks_for (end + 1)) old new
  pub reads : new.reads ≡ raised old.reads
  pub counts : NoCountFell old new

-- ---- refusals

-- the refusals of a copy, each where counts license it, and what is told of the device
pub data IsLicensed (source source_after device device_after : DeviceState) : AdfError → Type 0 where
  wants_memory : IsLicensed source source_after device device_after error.Memory
  unread : Rose source.faults source_after.faults → IsLicensed source source_after device device_after error.ReadFault
  unasked : Rose device.faults device_after.faults → device_after.lost ≡ device.lost → IsLicensed source source_after device device_after error.ReadFault
  unwritten : Rose device.faults device_after.faults → Rose device.lost device_after.lost → IsLicensed source source_after device device_after error.WriteFault
  not_laid_out : (rule place : ℕ) → IsRule rule → IsLicensed source source_after device device_after (error.Layout rule place)
  too_long_dimension : IsLicensed source source_after device device_after error.BadShape
  not_empty : HoldsSome device.held → IsLicensed source source_after device device_after error.NotEmpty
  too_long : (asked : ℕ) → 2 ^ 44 < asked → HoldsNone device.held → IsLicensed source source_after device device_after (error.Full asked 0)

-- Where the bytes of the file are told and make a tree, these are the causes of a refusal, in their order: a dimension that is too long, bytes that the device
-- holds, a copy that is too long, and a failed write. No rule is broken.
pub record IsRefused (wide : Bool) (tree : Tree) (e : AdfError) : Type 0 where
  pub sound : (rule place : ℕ) → e ≡ error.Layout rule place → ⊥
  pub shape : e ≡ error.BadShape → HasLongDimension wide tree
  pub bytes : e ≡ error.NotEmpty → FitsVersion wide tree
  pub room : (asked end : ℕ) → e ≡ error.Full asked end → FitsVersion wide tree × (asked ≡ packed_length (in_version wide tree))
  pub late : e ≡ error.WriteFault → FitsVersion wide tree × (packed_length (in_version wide tree) ≤ 2 ^ 44)

-- it may come after the first write: a failed read or write, or bytes that are not told and break a rule
abbrev pub MayComeLate : AdfError → Type 0
MayComeLate e = (e ≡ error.ReadFault) ⊎ ((e ≡ error.WriteFault) ⊎ ((rule : ℕ) × (place : ℕ) × (e ≡ error.Layout rule place)))

-- a refusal leaves the device; or this held nothing, no count of it fell, and the refusal may come late
abbrev pub LeavesDevice : DeviceState → DeviceState → AdfError → Type 0
LeavesDevice old new e = OnlyReads old new ⊎ (HoldsNone old.held × NoCountFell old new × MayComeLate e)

-- ---- a whole file

-- The tree of a file stands, in the version that is wanted, in a packed file.
pub record IsRepacked (wanted : Target) (image : List ℕ) (held : Option (List ℕ)) (end : ℕ) : Type 0 where
  pub tree : Tree
  pub placement : Placement
  pub laid_out : LaysOut image tree placement
  pub copied : IsCopied (width_for wanted tree.wide) tree held end

-- a file that lays out a tree, of which a copy is refused
pub record IsRefusedOf (wanted : Target) (image : List ℕ) (e : AdfError) : Type 0 where
  pub tree : Tree
  pub placement : Placement
  pub laid_out : LaysOut image tree placement
  pub refused : IsRefused (width_for wanted tree.wide) tree e

-- a file that lays out no tree is refused by its first fault, and the device is left
pub record IsFaulty (image : List ℕ) (old new : DeviceState) (e : AdfError) : Type 0 where
  pub rule : ℕ
  pub place : ℕ
  pub is : e ≡ error.Layout rule place
  pub fault : FirstFault image (record { rule = rule; place = place })
  pub left : OnlyReads old new

-- want of memory and a failed read may come first; else the file lays out no tree, or its tree is refused
abbrev pub IsRepackRefusal : Target → List ℕ → DeviceState → DeviceState → AdfError → Type 0
IsRepackRefusal wanted image old new e = ((e ≡ error.Memory) ⊎ (e ≡ error.ReadFault)) ⊎ (IsFaulty image old new e ⊎ IsRefusedOf wanted image e)
