use Rattle.std.proofs.Common.{map, refl}
use Rattle.std.specs.Prelude.{string_bytes}
use Rattle.adf_library.specs.Shelf.{slots_of}
use Rattle.tool_commands.specs.Tool.{wanted}
use Rattle.tool_commands.proofs.CheckedShelves.{lacked_ends}
use Rattle.tool_commands.proofs.commands.run_on.Goals as goal

pub returns-in_default-clause-run : goal.returns-in_default-clause-run
returns-in_default-clause-run g c =
    let slots = slots_of g.D.Device.state c.args.shelf.now in
    lacked_ends (wanted (map string_bytes c.args.words.now) slots) slots _ (c.in_default.ensures.lacks refl)
