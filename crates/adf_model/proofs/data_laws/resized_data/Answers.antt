use Rattle.adf_model.proofs.Writes.UntouchedData.{resize_keeps, resize_grows, resize_fresh, others_kept}
use Rattle.adf_model.proofs.data_laws.resized_data.Goals as goal

pub returns-clause-kept : goal.returns-clause-kept
returns-clause-kept c = resize_keeps

pub returns-clause-grown : goal.returns-clause-grown
returns-clause-grown c = resize_grows

pub returns-clause-fresh : goal.returns-clause-fresh
returns-clause-fresh c = resize_fresh

pub returns-clause-others : goal.returns-clause-others
returns-clause-others c limit size bytes old new spot after e h apart = others_kept spot old new e h.others apart
