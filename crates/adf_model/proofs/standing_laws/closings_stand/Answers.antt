use Rattle.std.proofs.Common.{◌≡◌, not}
use Rattle.adf_model.specs.declared.error.AdfError.TheVariants.{Memory, NoSuchFile, NotOpen, AlreadyOpen}
use Rattle.adf_model.specs.Slots.{Standing, slot_at, is_gone, is_open}
use Rattle.adf_model.proofs.Answering.StandingLaws.{closing_anyway, discarding_anyway, never_lacks}
use Rattle.adf_model.proofs.standing_laws.closings_stand.Goals as goal

no_file : NoSuchFile ≡ Memory → ⊥
no_file e = cc

not_open : NotOpen ≡ Memory → ⊥
not_open e = cc

already : AlreadyOpen ≡ Memory → ⊥
already e = cc

pub returns-clause-closed : goal.returns-clause-closed
returns-clause-closed c files after before now number result h = closing_anyway files after before now number result h.0 h.1 h.2

pub returns-clause-discarded : goal.returns-clause-discarded
returns-clause-discarded c files after before now number result h = discarding_anyway files after before now number result h.0 h.1 h.2

pub returns-clause-close_has_memory : goal.returns-clause-close_has_memory
returns-clause-close_has_memory c files after number h = never_lacks (is_gone (slot_at files number)) (not (is_open (slot_at files number))) NoSuchFile NotOpen Standing.Closed number files after no_file not_open h

pub returns-clause-discard_has_memory : goal.returns-clause-discard_has_memory
returns-clause-discard_has_memory c files after number h = never_lacks (is_gone (slot_at files number)) (is_open (slot_at files number)) NoSuchFile AlreadyOpen Standing.Absent number files after no_file already h
