use Rattle.adf_library.proofs.LaidLaws.{are_trees}
use Rattle.adf_library.proofs.calls.LibraryTreeCalls.edit.Goals as goal

pub returns-clause-trees : goal.returns-clause-trees
returns-clause-trees g c = are_trees g.D.Device.state c.args.self.now.slots.items.items c.requires.ready.ready.0 c.requires.ready.rest
