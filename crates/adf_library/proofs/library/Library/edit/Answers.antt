use Rattle.adf_library.proofs.LaidLaws.{all_laid}
use Rattle.adf_library.proofs.library.Library.edit.Goals as goal

pub edit_group-requires-clause-laid_out : goal.edit_group-requires-clause-laid_out
edit_group-requires-clause-laid_out g c = all_laid g.D.Device.state c.args.self.now.slots.items.items c.requires.ready.0 c.requires.rest
