-- What files kept in memory mean.
use Rattle.std.specs.Prelude.{ℕ, true, false, List, [], map, Option, Some, None, Result, Ok, Err}
use Rattle.adf_model.specs.declared.error.AdfError.{AdfError}
use Rattle.adf_model.specs.declared.error.AdfError.TheVariants.{LinkMissing}
use Rattle.adf_format.specs.declared.types.DataType.{DataType}
use Rattle.adf_format.specs.declared.types.DataType.TheVariants.{Mt, Lk}
use Rattle.adf_format.specs.declared.types.Format.TheVariants.{Little}
use Rattle.adf_format.specs.Tree.{Node, Tree, node_at, name_at}
use Rattle.adf_model.specs.Slots as model
use Rattle.adf_model.specs.Slots.{Files, File, Device, Devices, no_device}
use Rattle.adf_model.specs.Follow.{text_in}
use Rattle.adf_follow.specs.Groups.{Pending, at_rest}
use Rattle.follow_tests.specs.declared.kept.KeptNode.{KeptNode}
use Rattle.follow_tests.specs.declared.kept.KeptFile.{KeptFile}
use Rattle.follow_tests.specs.declared.kept.KeptFiles.{KeptFiles}
use Rattle.follow_tests.specs.declared.kept.State.{State}
use Rattle.follow_tests.specs.declared.kept.State.TheVariants as state

abbrev pub kind_of : Option (List ℕ) → DataType
kind_of None = Mt
kind_of (Some text) = Lk

abbrev pub node_of : KeptNode → Option Node
node_of node = Some (record { name = node.name; label = []; kind = kind_of node.text; dims = []; bytes = node.text; children = node.children.items })

abbrev pub tree_of : List KeptNode → Tree
tree_of nodes = record { wide = false; format = Little; nodes = map node_of nodes }

abbrev pub slot_of : State → List KeptNode → model.Slot
slot_of state.Closed nodes = model.Slot.Raw
slot_of state.Open nodes = model.Slot.Live (record { tree = tree_of nodes; writable = true; limit = 1 })
slot_of state.Broken nodes = model.Slot.Broken

abbrev pub file_of : KeptFile → File
file_of file = record { name = file.name; slot = slot_of file.state file.nodes.items }

abbrev pub files_of : KeptFiles → Files
files_of kept = map file_of kept.files.items

abbrev pub text_of : List KeptNode → ℕ → Option (List ℕ)
text_of nodes serial = text_in (node_at (tree_of nodes) serial)

abbrev pub name_of_node : List KeptNode → ℕ → List ℕ
name_of_node nodes serial = name_at (tree_of nodes) serial

abbrev pub told : KeptFile → Device
told file = record no_device { held = Some [] }

abbrev pub told_devices : KeptFiles → Devices
told_devices kept = map told kept.files.items

abbrev pub some_file : Option KeptFile → Option File
some_file None = None
some_file (Some file) = Some (file_of file)

-- an open file is the one that a link leads to
abbrev pub standing_file : State → ℕ → Result ℕ AdfError
standing_file state.Closed number = Err LinkMissing
standing_file state.Open number = Ok number
standing_file state.Broken number = Err AdfError.Broken

-- nothing waits
abbrev pub nothing_waits : KeptFiles → Pending
nothing_waits kept = record { kept = files_of kept; work = λ number. at_rest no_device }
