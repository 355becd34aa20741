use Rattle.std.proofs.Common.{subst}
use Rattle.adf_library.specs.Places.{IsReadyPlace}
use Rattle.adf_library.proofs.FileLooks.{answers_open}
use Rattle.adf_library.proofs.looks.answer_in.Goals as goal

pub returns-clause-answers : goal.returns-clause-answers
returns-clause-answers g c =
    answers_open g.D.Device.state c.args.slot.now c.in-Open.file c.answer_at.new.self c.in-Open.is (subst (IsReadyPlace g.D.Device.state) c.in-Open.is c.requires.ready)
    c.args.at c.args.query.now c.answer_at.result c.requires.opened c.answer_at.ensures.ends
