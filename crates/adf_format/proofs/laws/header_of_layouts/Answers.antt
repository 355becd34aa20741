use Rattle.adf_format.proofs.SameLayout.{end_recorded, same_root, same_end, same_width, same_format}
use Rattle.adf_format.proofs.laws.header_of_layouts.Goals as goal

pub returns-clause-end : goal.returns-clause-end
returns-clause-end c = end_recorded

pub returns-clause-same_root : goal.returns-clause-same_root
returns-clause-same_root c = same_root

pub returns-clause-same_end : goal.returns-clause-same_end
returns-clause-same_end c = same_end

pub returns-clause-same_width : goal.returns-clause-same_width
returns-clause-same_width c = same_width

pub returns-clause-same_format : goal.returns-clause-same_format
returns-clause-same_format c = same_format
