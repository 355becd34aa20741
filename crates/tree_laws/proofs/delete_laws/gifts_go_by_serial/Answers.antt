use Rattle.tree_laws.proofs.Deletes.SerialOrdered.{given_by_serial, sorted_walk_is_subtree}
use Rattle.tree_laws.proofs.delete_laws.gifts_go_by_serial.Goals as goal

pub returns-clause-given : goal.returns-clause-given
returns-clause-given c = given_by_serial

pub returns-clause-sorted : goal.returns-clause-sorted
returns-clause-sorted c = sorted_walk_is_subtree
