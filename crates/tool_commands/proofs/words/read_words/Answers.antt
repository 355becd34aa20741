use Rattle.std.proofs.Common.{map, refl, sym, ◌∙◌}
use Rattle.std.specs.Prelude.{string_bytes}
use Rattle.adf_library.specs.Shelf.{slots_of}
use Rattle.tool_commands.specs.Tool.{files_wanted, wanted_over}
use Rattle.tool_commands.proofs.NamedLaws.{lacks_over, over_stands}
use Rattle.tool_commands.proofs.words.read_words.Goals as goal

pub returns-in_err-asked-clause-lacks : goal.returns-in_err-asked-clause-lacks
returns-in_err-asked-clause-lacks g c =
    let words = map string_bytes c.args.words.now in
    let slots = slots_of g.D.Device.state c.args.shelf.now in
    λ refused. lacks_over (wanted_over words slots) (files_wanted words slots) (c.in_err-asked.ensures.lacks refl)

pub returns-in-Some-clause-stands : goal.returns-in-Some-clause-stands
returns-in-Some-clause-stands g c =
    over_stands (map string_bytes c.args.words.now) (slots_of g.D.Device.state c.args.shelf.now) c.in-Some.asked (sym c.in-Some.is ∙ c.in_ok-asked.ensures.wanted)
