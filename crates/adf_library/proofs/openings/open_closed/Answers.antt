use Rattle.std.proofs.Common.{sym, subst, Err}
use Rattle.adf_library.specs.Calls.{OpensPlace, closed_as}
use Rattle.adf_library.specs.Places.{IsReadyPlace}
use Rattle.adf_library.specs.declared.places.Place.{Place}
use Rattle.adf_library.proofs.OpenedPlace.{opened_place, refused_place, refused_ready}
use Rattle.adf_library.proofs.openings.open_closed.Goals as goal
use Rattle.adf_model.specs.Modes.{opening_of}

pub returns-in-Ok-clause-opens : goal.returns-in-Ok-clause-opens
returns-in-Ok-clause-opens g c = opened_place g.D.Device.state c.args.mode c.args.limit c.args.device c.in-Ok.file c.in-Ok.ensures.sound c.in-Ok.ensures.opened c.args.saved c.requires.ready

pub returns-in-Err-clause-ready : goal.returns-in-Err-clause-ready
returns-in-Err-clause-ready g c =
    subst (IsReadyPlace g.D.Device.state) (sym c.refused.ensures)
    (refused_ready g.D.Device.state (opening_of c.args.mode) c.args.limit c.args.device c.in-Err.failed.device c.in-Err.failed.error c.args.saved c.in-Err.ensures.refused c.requires.ready)

pub returns-in-Err-clause-opens : goal.returns-in-Err-clause-opens
returns-in-Err-clause-opens g c =
    subst (λ (p : Place _). OpensPlace g.D.Device.state (opening_of c.args.mode) c.args.limit (closed_as c.args.device c.args.saved) p (Err c.in-Err.failed.error)) (sym c.refused.ensures)
    (refused_place g.D.Device.state (opening_of c.args.mode) c.args.limit c.args.device c.in-Err.failed.device c.in-Err.failed.error c.args.saved c.in-Err.ensures.refused c.requires.ready)
