-- What a copy of the sound part of a damaged file is, and when it is refused.
use Rattle.std.specs.Prelude.{◌≡◌, ◌⊎◌, ℕ, List, Option, map}
use Rattle.adf_format.specs.Checks.{Fault}
use Rattle.adf_format.specs.FirstFault.{Visit, is_wide}
use Rattle.adf_format.specs.SoundPart.{IsSoundPart, tree_of}
use Rattle.adf_model.specs.Counts.{OnlyReads}
use Rattle.adf_model.specs.declared.error.AdfError.{AdfError}
use Rattle.adf_model.specs.declared.error.AdfError.TheVariants as error
use Rattle.cg_io.specs.Device.{DeviceState}
use Rattle.adf_repack.specs.Repacks.{IsCopied, IsRefused}
use Rattle.adf_salvage.specs.declared.list.Left.{Left}
use Rattle.adf_salvage.specs.LeftOut.{left_of}
use Rattle.adf_salvage.specs.Parts.{HasNoPart}

-- The tree of the sound part stands in a packed file of the version of the damaged one, and all nodes that are left out are told.
pub record IsSalvaged (image : List ℕ) (held : Option (List ℕ)) (end : ℕ) (left : List Left) : Type 0 where
  pub kept : List Visit
  pub out : List (Visit × Fault)
  pub sound : IsSoundPart image kept out
  pub told : left ≡ map (left_of kept) out
  pub copied : IsCopied (is_wide image) (tree_of image kept) held end

-- a file without a sound part is refused by its fault, and the device is left
pub record IsLost (image : List ℕ) (old new : DeviceState) (e : AdfError) : Type 0 where
  pub rule : ℕ
  pub place : ℕ
  pub is : e ≡ error.Layout rule place
  pub fault : HasNoPart image (record { rule = rule; place = place })
  pub left : OnlyReads old new

-- a file that has a sound part, of which a copy is refused
pub record IsRefusedPart (image : List ℕ) (e : AdfError) : Type 0 where
  pub kept : List Visit
  pub out : List (Visit × Fault)
  pub sound : IsSoundPart image kept out
  pub refused : IsRefused (is_wide image) (tree_of image kept) e

-- want of memory and a failed read may come first; else the file has no sound part, or the copy of this is refused
abbrev pub IsSalvageRefusal : List ℕ → DeviceState → DeviceState → AdfError → Type 0
IsSalvageRefusal image old new e = ((e ≡ error.Memory) ⊎ (e ≡ error.ReadFault)) ⊎ (IsLost image old new e ⊎ IsRefusedPart image e)
