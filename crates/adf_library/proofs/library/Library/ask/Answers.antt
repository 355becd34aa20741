use Rattle.adf_library.proofs.RestLaws.{rest_asked}
use Rattle.adf_library.proofs.library.Library.ask.Goals as goal

pub returns-clause-library : goal.returns-clause-library
returns-clause-library g c = record { ready = c.ask.ensures.ready; rest = rest_asked _ _ _ _ _ _ c.requires.rest c.ask.ensures.asked.anyway.leaves c.ask.ensures.pending }
