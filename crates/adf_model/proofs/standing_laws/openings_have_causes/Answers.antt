use Rattle.std.proofs.Common.{refl}
use Rattle.adf_model.specs.declared.error.AdfError.TheVariants.{NoSuchNode, OtherFile, Full}
use Rattle.adf_model.proofs.Answering.StandingLaws.{silent_opening, never_opened}
use Rattle.adf_model.proofs.standing_laws.openings_have_causes.Goals as goal

pub returns-clause-silent : goal.returns-clause-silent
returns-clause-silent c = silent_opening

pub returns-clause-no_room : goal.returns-clause-no_room
returns-clause-no_room c files number opening before now asked end = never_opened files number opening before now (Full asked end) refl

pub returns-clause-no_node : goal.returns-clause-no_node
returns-clause-no_node c files number opening before now = never_opened files number opening before now NoSuchNode refl

pub returns-clause-no_other_file : goal.returns-clause-no_other_file
returns-clause-no_other_file c files number opening before now = never_opened files number opening before now OtherFile refl
