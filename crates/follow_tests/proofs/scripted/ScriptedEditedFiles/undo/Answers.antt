use Rattle.follow_tests.proofs.ScriptLaws.{same_slot, rests}
use Rattle.follow_tests.specs.Scripted.{scripted_files}
use Rattle.follow_tests.proofs.scripted.ScriptedEditedFiles.undo.Goals as goal

pub returns-clause-undone : goal.returns-clause-undone
returns-clause-undone c = (same_slot (scripted_files c.args.self.now) c.args._number, rests c.args.self.now.kept.files.items c.args._number)
