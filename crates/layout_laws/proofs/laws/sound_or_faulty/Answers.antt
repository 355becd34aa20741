use Rattle.layout_laws.proofs.FreeStand.{no_fault}
use Rattle.layout_laws.proofs.GapsFound.{is_sound, sound_or_faulty}
use Rattle.layout_laws.proofs.laws.sound_or_faulty.Goals as goal

pub returns-clause-either : goal.returns-clause-either
returns-clause-either c = sound_or_faulty

pub returns-clause-sound : goal.returns-clause-sound
returns-clause-sound c = λ image. (λ s. no_fault image s.0 s.1 s.2, λ n. is_sound image n.0 n.1 n.2)
