use Rattle.adf_model.proofs.Answering.AskLaws.{asks_keep, asks_none, asks_more}
use Rattle.adf_model.proofs.Answering.AsksThenEdits.{edits_behind_asks}
use Rattle.adf_model.proofs.ask_laws.asks_leave_all.Goals as goal

pub returns-clause-layouts : goal.returns-clause-layouts
returns-clause-layouts c = asks_keep

pub returns-clause-none : goal.returns-clause-none
returns-clause-none c = asks_none

pub returns-clause-more : goal.returns-clause-more
returns-clause-more c = asks_more

pub returns-clause-edits : goal.returns-clause-edits
returns-clause-edits c files after before between now edits result asks made = edits_behind_asks files before between now asks result edits after made
