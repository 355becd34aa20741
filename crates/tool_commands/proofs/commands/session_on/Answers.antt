use Rattle.std.proofs.Common.{◌∙◌, ap, map}
use Rattle.adf_library.specs.Library.{files_of, devices_of, shelf_files, shelf_devices, standing_name}
use Rattle.adf_library.specs.Shelf.{slots_of}
use Rattle.adf_library.specs.declared.shelf.Shelf.{Shelf}
use Rattle.tool_commands.proofs.Sessions.{ended_so, slot_names}
use Rattle.tool_commands.proofs.commands.session_on.Goals as goal

pub returns-clause-session : goal.returns-clause-session
returns-clause-session g c =
    let state = g.D.Device.state in
    let left = c.run_session-how.new.calls in
    let said = c.run_session-how.ensures in
    ended_so c.run_session-how.result (slots_of state c.args.shelf.now) (slots_of state c.finish.result) (files_of state c.in-Ok.made) (files_of state left) (devices_of state c.in-Ok.made) (devices_of state left) _ _
    (c.in-Ok.ensures.files ∙ ap (λ (s : Shelf _). shelf_files (slots_of state s)) c.replace-taken.ensures.value)
    (c.in-Ok.ensures.devices ∙ ap (λ (s : Shelf _). shelf_devices (slots_of state s)) c.replace-taken.ensures.value)
    said.run c.finish.ensures.devices (ap (map standing_name) c.finish.ensures.slots ∙ slot_names state left.slots.items.items)
    said.bound said.end said.source said.sink said.source_later said.sink_later
