use Rattle.std.proofs.Common.{subst}
use Rattle.adf_library.specs.Places.{IsReadyPlace}
use Rattle.adf_library.proofs.EditedPlace.{commit_commits}
use Rattle.adf_library.proofs.edits.commit_in.Goals as goal

pub returns-clause-commits : goal.returns-clause-commits
returns-clause-commits g c =
    commit_commits g.D.Device.state c.args.slot.now c.in-Open.file c.commit.new.self c.in-Open.is (subst (IsReadyPlace g.D.Device.state) c.in-Open.is c.requires.ready) c.requires.opened
    c.commit.ensures.sound c.commit.result c.commit.ensures.ends
