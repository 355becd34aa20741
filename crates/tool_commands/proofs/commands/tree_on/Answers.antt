use Rattle.std.proofs.Common.{◌∙◌, ap, map}
use Rattle.adf_library.specs.Library.{files_of, devices_of, shelf_files, shelf_devices, standing_name}
use Rattle.adf_library.specs.Shelf.{slots_of}
use Rattle.adf_library.specs.declared.shelf.Shelf.{Shelf}
use Rattle.tool_commands.proofs.Sessions.{slot_names}
use Rattle.tool_commands.proofs.TreeLaws.{tree_ended}
use Rattle.tool_commands.proofs.commands.tree_on.Goals as goal

pub returns-clause-tree : goal.returns-clause-tree
returns-clause-tree g c =
    let state = g.D.Device.state in
    let left = c.print_file-status.new.calls in
    tree_ended c.args.number c.print_file-status.result (slots_of state c.args.shelf.now) (slots_of state c.finish.result) (files_of state c.in-Ok.made) (files_of state left)
    (devices_of state c.in-Ok.made) (devices_of state left) _ _
    (c.in-Ok.ensures.files ∙ ap (λ (s : Shelf _). shelf_files (slots_of state s)) c.replace-held.ensures.value)
    (c.in-Ok.ensures.devices ∙ ap (λ (s : Shelf _). shelf_devices (slots_of state s)) c.replace-held.ensures.value)
    c.print_file-status.ensures.prints c.finish.ensures.devices (ap (map standing_name) c.finish.ensures.slots ∙ slot_names state left.slots.items.items)
