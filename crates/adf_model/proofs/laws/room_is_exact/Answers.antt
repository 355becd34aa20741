use Rattle.adf_model.proofs.Answering.RoomLaws.{full_is_exact, not_done, not_written, not_refused_later}
use Rattle.adf_model.proofs.laws.room_is_exact.Goals as goal

pub returns-clause-exact : goal.returns-clause-exact
returns-clause-exact c = full_is_exact

pub returns-clause-undone : goal.returns-clause-undone
returns-clause-undone c files after before now edits created count r = not_done files before edits count r.number r.group r.opened r.full r.through r.file r.live r.over now after created

pub returns-clause-unwritten : goal.returns-clause-unwritten
returns-clause-unwritten c files after before now edits count at r = not_written files before edits count r.number r.group r.opened r.full r.through r.file r.live r.over now after at

pub returns-clause-first : goal.returns-clause-first
returns-clause-first c files after before now edits count at error r = not_refused_later files before edits count r.number r.group r.opened r.full r.through r.file r.live r.over now after at error
