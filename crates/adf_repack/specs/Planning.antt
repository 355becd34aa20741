-- What is planned of a copy before the first byte of it is written, and why nothing is planned.
use Rattle.std.specs.Prelude.{◌≡◌, ◌⊎◌, ℕ, ◌-◌, ◌^◌, ◌<◌, Bool, List, ◌++◌, length, replicate, get_or, Option, Some}
use Rattle.adf_format.specs.FirstFault.{header_rows as file_rows}
use Rattle.adf_format.specs.Pointer.{Blank}
use Rattle.adf_format.specs.Records.{header_text, free_table_text}
use Rattle.adf_format.specs.SoundPart.{format_in}
use Rattle.adf_model.specs.declared.error.AdfError.{AdfError}
use Rattle.adf_model.specs.declared.error.AdfError.TheVariants as error
use Rattle.cg_io.specs.Device.{DeviceState, bytes_at}
use Rattle.node_reads.specs.Reads.{Breaks}
use Rattle.packed_laws.specs.PackedForm.{packed_header_of}
use Rattle.layout_lint.specs.declared.verdict.NodePlace.{NodePlace}
use Rattle.adf_repack.specs.declared.places.NodeShape.{NodeShape}
use Rattle.adf_repack.specs.declared.planning.Planned.{Planned}
use Rattle.adf_repack.specs.Families.{children_of, IsChain}
use Rattle.adf_repack.specs.Sources.{IsUnread, IsBroken}
use Rattle.adf_repack.specs.Places.{limited, length_of}
use Rattle.adf_repack.specs.Plans.{IsPlan, header_at, copied_until}
use Rattle.adf_repack.specs.Measures.{HoldsNone, HoldsSome, AllFit, AreMeasured, AreUnmeasured}

-- The shapes of the nodes, for all whose dimensions the version has digits, and the bytes that a copy of them takes.
pub record IsRoomFor (held : Option (List ℕ)) (wide to : Bool) (nodes : List NodePlace) (shapes : List NodeShape) (size : ℕ) : Type 0 where
  pub measured : AreMeasured held wide nodes (length nodes) shapes
  pub fit : AllFit held wide to nodes (length nodes)
  pub long : size ≡ limited (length_of to shapes)

-- The children and the shapes of the nodes, and places of which those that are too high for their type are its last number.
pub record IsDrafted (held : Option (List ℕ)) (wide to : Bool) (nodes : List NodePlace) (p : Planned) : Type 0 where
  pub first : length p.plan.families.first.items ≡ length nodes
  pub next : length p.plan.families.next.items ≡ length nodes
  pub count : length p.plan.families.count.items ≡ length nodes
  pub lists : (k : ℕ) → k < length nodes → IsChain p.plan.families.next.items (get_or p.plan.families.first.items k 0) (children_of nodes k)
  pub counts : (k : ℕ) → k < length nodes → get_or p.plan.families.count.items k 0 ≡ length (children_of nodes k)
  pub headers : length p.plan.headers.items ≡ length nodes
  pub places : (k : ℕ) → k < length nodes → get_or p.plan.headers.items k 0 ≡ limited (header_at p.plan k)
  pub version : p.plan.wide ≡ to
  pub room : IsRoomFor held wide to nodes p.plan.shapes.items p.length

-- A plan of a copy in a version, whose bytes are so many that pointers reach its end.
pub record IsPlanned (held : Option (List ℕ)) (wide to : Bool) (nodes : List NodePlace) (p : Planned) : Type 0 where
  pub plan : IsPlan nodes p.plan
  pub version : p.plan.wide ≡ to
  pub measured : AreMeasured held wide nodes (length nodes) p.plan.shapes.items
  pub fit : AllFit held wide to nodes (length nodes)
  pub long : p.length ≡ length_of p.plan.wide p.plan.shapes.items
  pub format : (image : List ℕ) → held ≡ Some image → p.format ≡ format_in (bytes_at image 0 186)

-- ---- refusals

-- a device that cannot be asked, that holds bytes, or that a copy of so many bytes does not fit
abbrev pub IsNoRoom : DeviceState → DeviceState → ℕ → AdfError → Type 0
IsNoRoom old new size e =
    IsUnread old.faults new.faults e ⊎ (((e ≡ error.NotEmpty) × HoldsSome old.held) ⊎ ((e ≡ error.Full size 0) × (2 ^ 44 < size) × HoldsNone old.held))

-- the copy has no room on the device
pub record HasNoRoom (held : Option (List ℕ)) (wide to : Bool) (nodes : List NodePlace) (old new : DeviceState) (e : AdfError) : Type 0 where
  pub shapes : List NodeShape
  pub size : ℕ
  pub room : IsRoomFor held wide to nodes shapes size
  pub why : IsNoRoom old new size e

-- why a copy of some nodes is not planned
abbrev pub IsUnplanned : Bool → Bool → List NodePlace → DeviceState → DeviceState → DeviceState → DeviceState → AdfError → Type 0
IsUnplanned wide to nodes source source_after device device_after e =
    (IsUnread source.faults source_after.faults e ⊎ IsBroken (Breaks source.held 0 186 file_rows) e)
    ⊎ (AreUnmeasured source.held wide to nodes source.faults source_after.faults e ⊎ HasNoRoom source.held wide to nodes device device_after e)

-- ---- what is written

-- the bytes of a planned copy
abbrev pub copied_file : List ℕ → Bool → List NodePlace → Planned → List ℕ
copied_file image wide nodes p =
    (header_text (packed_header_of p.plan.wide p.format (p.length - 1)) ++ free_table_text (replicate 6 Blank)) ++ copied_until image wide nodes p.plan (length nodes)
