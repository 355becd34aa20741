use Rattle.std.proofs.Common.{◌∙◌, ap, map}
use Rattle.adf_library.specs.Library.{files_of, devices_of, shelf_files, shelf_devices, standing_name}
use Rattle.adf_library.specs.Shelf.{slots_of}
use Rattle.adf_library.specs.declared.shelf.Shelf.{Shelf}
use Rattle.tool_commands.proofs.CheckedShelves.{check_ended}
use Rattle.tool_commands.proofs.Sessions.{slot_names}
use Rattle.tool_commands.proofs.commands.check_on.Goals as goal

pub returns-clause-check : goal.returns-clause-check
returns-clause-check g c =
    let state = g.D.Device.state in
    let left = c.check_files-status.new.calls in
    check_ended c.args.set c.args.files.now c.check_files-status.result (slots_of state c.args.shelf.now) (slots_of state c.finish.result) (files_of state c.in-Ok.made) (files_of state left)
    (devices_of state c.in-Ok.made) (devices_of state left) _ _
    (c.in-Ok.ensures.files ∙ ap (λ (s : Shelf _). shelf_files (slots_of state s)) c.replace-held.ensures.value)
    (c.in-Ok.ensures.devices ∙ ap (λ (s : Shelf _). shelf_devices (slots_of state s)) c.replace-held.ensures.value)
    c.check_files-status.ensures.checked c.finish.ensures.devices (ap (map standing_name) c.finish.ensures.slots ∙ slot_names state left.slots.items.items)
