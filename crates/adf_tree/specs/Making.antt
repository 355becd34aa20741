-- What the making of a fresh file does to a device.
use Rattle.std.specs.Prelude.{◌≡◌, ◌≢◌, List, ℕ, [], Bool, IfSome, OnOk, Result, Ok, Err}
use Rattle.adf_format.specs.Fresh.{fresh_block, fresh_placement}
use Rattle.adf_format.specs.LaysOut.{LaysOut}
use Rattle.adf_format.specs.Tree.{fresh_tree}
use Rattle.adf_model.specs.Counts.{Rose, raised, OnlyReads}
use Rattle.adf_model.specs.declared.error.AdfError.{AdfError}
use Rattle.adf_model.specs.declared.error.AdfError.TheVariants as error
use Rattle.cg_io.specs.Device.{DeviceState, with_block, Tears}

-- one write of the first block of a device that, where it tells its bytes, held none
pub record WritesFirst (old new : DeviceState) : Type 0 where
  pub empty : IfSome old.held (λ bytes. bytes ≡ [])
  pub writes : new.writes ≡ raised old.writes

-- a file in which the fresh tree of this version is laid out
abbrev pub HoldsFresh : Bool → List ℕ → Type 0
HoldsFresh wide image = LaysOut image (fresh_tree wide) (fresh_placement wide)

-- what the making of a fresh file answers, and what it writes to the device
abbrev pub WritesFresh : Bool → Result Unit AdfError → DeviceState → DeviceState → Type 0
WritesFresh wide (Ok done) old new = WritesFirst old new × (new.held ≡ with_block old.held 0 (fresh_block wide))
WritesFresh wide (Err error.NotEmpty) old new = IfSome old.held (λ bytes. bytes ≢ []) × OnlyReads old new
WritesFresh wide (Err error.ReadFault) old new = Rose old.faults new.faults × OnlyReads old new
WritesFresh wide (Err error.WriteFault) old new = WritesFirst old new × Rose old.faults new.faults × Rose old.lost new.lost × Tears old.held 0 new.held
WritesFresh wide (Err _) old new = ⊥

-- and once it is made, the device holds the fresh tree
abbrev pub MakesFresh : Bool → Result Unit AdfError → DeviceState → DeviceState → Type 0
MakesFresh wide made old new = WritesFresh wide made old new × OnOk made (IfSome new.held (HoldsFresh wide))
