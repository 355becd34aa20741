use Rattle.adf_model.proofs.Writes.UntouchedParts.{date_stays, group_leaves}
use Rattle.adf_model.proofs.untouched_laws.groups_leave_the_rest.Goals as goal

pub returns-clause-parts : goal.returns-clause-parts
returns-clause-parts c files before now edits created group number opened old new e h through file live held held_now = (group_leaves files before now edits created group number opened h through file live old new held held_now).0.parts e

pub returns-clause-date : goal.returns-clause-date
returns-clause-date c files before now edits created group number opened old new h through file live held held_now = date_stays old new ((group_leaves files before now edits created group number opened h through file live old new held held_now).0.head)

pub returns-clause-dims : goal.returns-clause-dims
returns-clause-dims c before now number opened group old new serial from to h held held_now = (h old new held held_now).0.dims serial from to

pub returns-clause-tail : goal.returns-clause-tail
returns-clause-tail c before now number opened group old new b h held held_now past = (h old new held held_now).1.tail b past

pub returns-clause-grown : goal.returns-clause-grown
returns-clause-grown c before now number opened group old new h held held_now = (h old new held held_now).1.grown

pub returns-clause-past_rank : goal.returns-clause-past_rank
returns-clause-past_rank c before now number opened group old new h held held_now = (h old new held held_now).0.past_rank

pub returns-clause-unused : goal.returns-clause-unused
returns-clause-unused c before now number opened group old new h held held_now = (h old new held held_now).0.unused
