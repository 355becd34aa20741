use Rattle.std.proofs.Common.{sym, ◌∙◌, subst}
use Rattle.adf_library.specs.Shelf.{slots_of}
use Rattle.tool_commands.specs.Tool.{IsOnShelf}
use Rattle.tool_commands.specs.declared.words.Wanted.{Wanted}
use Rattle.tool_commands.proofs.NumberLaws.{apart_numbers, between_stands}
use Rattle.tool_commands.proofs.words.pair_wanted.Goals as goal

pub returns-clause-stands : goal.returns-clause-stands
returns-clause-stands g c =
    let slots = slots_of g.D.Device.state c.args.shelf.now in
    subst (λ (w : Wanted). IsOnShelf w slots) (sym c.command_between.ensures)
    (between_stands c.args.command.now c.in-Some.from c.in-Some-file_number.to slots
    (apart_numbers slots c.args.from.now c.args.to.now c.in-Some.from c.in-Some-file_number.to (sym c.eq.ensures ∙ c.if-eq.false) (sym c.in-Some.ensures.number) (sym c.in-Some-file_number.ensures.number))
    c.in-Some.ensures.stands c.in-Some-file_number.ensures.stands)
