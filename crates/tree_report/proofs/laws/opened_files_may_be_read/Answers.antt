use Rattle.tree_report.proofs.Opened.{reads_opened}
use Rattle.tree_report.proofs.laws.opened_files_may_be_read.Goals as goal

pub returns : goal.returns
returns c = reads_opened
