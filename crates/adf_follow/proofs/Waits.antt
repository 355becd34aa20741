-- What an edit leaves that waits, behind calls that only ask.
use Rattle.std.proofs.Common.{◌∙◌, ap}
use Rattle.adf_model.specs.Slots.{Files, Devices, standings, names_there}
use Rattle.adf_model.specs.Causes.{OnlyAsks}
use Rattle.adf_model.proofs.Answering.Asking.{stays-trans}
use Rattle.adf_model.proofs.Answering.AskLaws.{asks_none}
use Rattle.adf_follow.specs.Groups.{OnlyWaits}

pub asks_wait : (files after : Files) (before now : Devices) → OnlyAsks files before now after → OnlyWaits files before now after
asks_wait files after before now leaves = record {
  devices = leaves.devices_stay;
  placed = leaves.placed;
  standing = ap standings leaves.files_stay;
  names = ap names_there leaves.files_stay;
}

pub waits_none : (files : Files) (devices : Devices) → OnlyWaits files devices devices files
waits_none files devices = asks_wait files files devices devices (asks_none files devices)

pub waits_behind : (files mid after : Files) (before first now : Devices) → OnlyAsks files before first mid → OnlyWaits mid first now after → OnlyWaits files before now after
waits_behind files mid after before first now leaves waits = record {
  devices = stays-trans before first now leaves.devices_stay waits.devices;
  placed = λ n apart. waits.placed n apart ∙ leaves.placed n apart;
  standing = waits.standing ∙ ap standings leaves.files_stay;
  names = waits.names ∙ ap names_there leaves.files_stay;
}
