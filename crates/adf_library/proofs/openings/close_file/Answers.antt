use Rattle.std.proofs.Common.{sym, ◌∙◌}
use Rattle.adf_library.proofs.ClosedPlace.{sound_closes}
use Rattle.adf_library.proofs.openings.close_file.Goals as goal

pub returns-clause-closes : goal.returns-clause-closes
returns-clause-closes g c =
    sound_closes g.D.Device.state c.args.file c.close-2.result c.close-2.ensures c.requires (sym c.is_broken.ensures ∙ c.if-is_broken.false) c.left_of-left.result c.left_of-left.ensures
