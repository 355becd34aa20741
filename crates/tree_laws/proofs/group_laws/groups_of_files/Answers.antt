use Rattle.tree_laws.proofs.Groups.FileGroups.{groups_are_done, done_as_many, room_is_needed, takes_stop}
use Rattle.tree_laws.proofs.group_laws.groups_of_files.Goals as goal

pub returns-clause-done : goal.returns-clause-done
returns-clause-done c = groups_are_done

pub returns-clause-alone : goal.returns-clause-alone
returns-clause-alone c = done_as_many

pub returns-clause-room : goal.returns-clause-room
returns-clause-room c = room_is_needed

pub returns-clause-stops : goal.returns-clause-stops
returns-clause-stops c = takes_stop
