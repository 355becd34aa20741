use Rattle.std.proofs.Common.{subst}
use Rattle.layout_lint.specs.Halts.{fault}
use Rattle.layout_lint.specs.Verdicts.{IsFault}
use Rattle.layout_lint.proofs.VerdictLaws.{sound_exactly, fault_exactly}
use Rattle.layout_lint.proofs.examine.lint.Goals as goal

pub returns-in-Ok-clause-exactly : goal.returns-in-Ok-clause-exactly
returns-in-Ok-clause-exactly g c = λ image told. sound_exactly image c.in-Ok.verdict c.in-Ok.ensures.sound (c.in-Ok.ensures.laid_out image told)

pub returns-in-Err-Broken-clause-exactly : goal.returns-in-Err-Broken-clause-exactly
returns-in-Err-Broken-clause-exactly g c = λ image told. fault_exactly image (fault c.in-Err-Broken.fault) (subst (IsFault image) c.in-Err-Broken.field-0-is (c.in-Err-Broken.ensures.broken image told))
