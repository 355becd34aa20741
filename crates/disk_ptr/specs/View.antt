-- What a pointer in code says.
use Rattle.std.specs.Prelude.{ℕ, ◌+◌, ◌*◌, ◌<◌, ◌≤◌, ◌^◌, ⊤}
use Rattle.std.specs.Prelude.{Option, Some, None}
use Rattle.adf_format.specs.Pointer.{Pointer, Blank, To}
use Rattle.disk_ptr.specs.declared.DiskPtr.{DiskPtr}
use Rattle.disk_ptr.specs.declared.DiskPtr.TheVariants.{At}

-- the place that it names
abbrev pub view : DiskPtr → Pointer
view DiskPtr.Blank = Blank
view (At block offset) = To (block * 4096 + offset)

-- the place as a number; none for the blank one
abbrev pub place_of : DiskPtr → Option ℕ
place_of DiskPtr.Blank = None
place_of (At block offset) = Some (block * 4096 + offset)

-- its offset is within a block
abbrev pub HasOffset : DiskPtr → Type 0
HasOffset DiskPtr.Blank = ⊤
HasOffset (At block offset) = offset ≤ 4095

-- its block has eight digits, and its offset is within a block
abbrev pub IsWritable : DiskPtr → Type 0
IsWritable DiskPtr.Blank = ⊤
IsWritable (At block offset) = (block < 2 ^ 32) × (offset ≤ 4095)
