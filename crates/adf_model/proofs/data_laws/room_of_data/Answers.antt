use Rattle.adf_model.proofs.Writes.DataRoom.{resized_room, released_room, room_apart}
use Rattle.adf_model.proofs.data_laws.room_of_data.Goals as goal

pub returns-clause-resized : goal.returns-clause-resized
returns-clause-resized c = resized_room

pub returns-clause-released : goal.returns-clause-released
returns-clause-released c = released_room

pub returns-clause-apart : goal.returns-clause-apart
returns-clause-apart c = room_apart
