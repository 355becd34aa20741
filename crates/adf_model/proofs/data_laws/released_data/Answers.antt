use Rattle.adf_model.proofs.Writes.UntouchedData.{release_none, release_rest, release_gives, others_kept}
use Rattle.adf_model.proofs.data_laws.released_data.Goals as goal

pub returns-clause-none : goal.returns-clause-none
returns-clause-none c = release_none

pub returns-clause-rest : goal.returns-clause-rest
returns-clause-rest c = release_rest

pub returns-clause-given : goal.returns-clause-given
returns-clause-given c = release_gives

pub returns-clause-others : goal.returns-clause-others
returns-clause-others c spot after old new e h apart = others_kept spot old new e h.others apart
