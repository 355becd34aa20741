use Rattle.std.proofs.Common.{◌∙◌, ap, map, List, arith}
use Rattle.adf_library.specs.Library.{shelf_device, shelf_files}
use Rattle.adf_library.specs.Shelf.{SlotState}
use Rattle.adf_library.proofs.RestLaws.{all_rest}
use Rattle.adf_library.proofs.ShelfLaws.{idle_files, idle_devices, idle_ready, idle_rests, whole_kept, same_length}
use Rattle.adf_library.proofs.library.Library.new.Goals as goal

pub returns-clause-library : goal.returns-clause-library
returns-clause-library g c = record {
  ready = (
    idle_ready g.D.Device.state c.close_all.new.slots.items c.close_all.ensures.idle (whole_kept g.D.Device.state c.args.shelf.slots.items c.close_all.new.slots.items c.close_all.ensures.slots c.requires.whole),
    (let same = same_length g.D.Device.state c.args.shelf.slots.items c.close_all.new.slots.items c.close_all.ensures.slots in let short = c.requires.shelf in omega (arith, same, short)),
  );
  rest = all_rest g.D.Device.state c.close_all.new.slots.items (idle_rests g.D.Device.state c.close_all.new.slots.items c.close_all.ensures.idle);
}

pub returns-clause-files : goal.returns-clause-files
returns-clause-files g c = idle_files g.D.Device.state c.close_all.new.slots.items c.close_all.ensures.idle ∙ ap shelf_files c.close_all.ensures.slots

pub returns-clause-devices : goal.returns-clause-devices
returns-clause-devices g c = idle_devices g.D.Device.state c.close_all.new.slots.items c.close_all.ensures.idle ∙ ap (λ (l : List SlotState). map shelf_device l) c.close_all.ensures.slots
