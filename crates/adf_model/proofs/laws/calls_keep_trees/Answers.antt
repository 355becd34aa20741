use Rattle.adf_model.specs.Slots.{slot_at, device_at}
use Rattle.adf_model.proofs.Answering.LayoutLemmas.{laid_out_at_entry}
use Rattle.adf_model.proofs.Answering.StepLaws.{sound_at_entry, open_are_trees, opened_tree, step_keeps}
use Rattle.adf_model.proofs.laws.calls_keep_trees.Goals as goal

pub returns-clause-entry : goal.returns-clause-entry
returns-clause-entry c = sound_at_entry

pub returns-clause-laid_out : goal.returns-clause-laid_out
returns-clause-laid_out c = laid_out_at_entry

pub returns-clause-open : goal.returns-clause-open
returns-clause-open c = open_are_trees

pub returns-clause-step : goal.returns-clause-step
returns-clause-step c files after before now call = step_keeps files before call now after

pub returns-clause-opening : goal.returns-clause-opening
returns-clause-opening c files before number opening opened sound told = opened_tree opening (slot_at files number) (device_at before number).held opened (sound number) (told number)
