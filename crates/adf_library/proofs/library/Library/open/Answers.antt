use Rattle.std.proofs.Common.{arith, subst}
use Rattle.adf_library.specs.Calls.{OpensPlace}
use Rattle.adf_library.specs.declared.places.Place.{Place}
use Rattle.adf_library.proofs.LibrarySteps.{ready_in, rest_after, opening_in}
use Rattle.adf_library.proofs.library.Library.open.Goals as goal
use Rattle.adf_model.specs.Modes.{opening_of}

pub returns-clause-library : goal.returns-clause-library
returns-clause-library g c =
    let items = c.args.self.now.slots.items.items in
    let n = c.args.number in
    let old = c.index_mut-slot.result.now in
    let step = subst (λ (q : Place _). OpensPlace g.D.Device.state (opening_of c.args.mode) c.args.limit q c.open_place-place.result.0 c.open_place-place.result.1) c.replace-place.ensures.value c.open_place-place.ensures.opens in
    record {
      ready = ready_in g.D.Device.state items n old c.open_place-place.result.0 (omega (arith, c.len.ensures, c.if-number-len.false)) c.index_mut-slot.ensures.value c.requires.library.rest c.open_place-place.ensures.ready c.requires.library.ready;
      rest = rest_after g.D.Device.state items n old c.open_place-place.result.0 (omega (arith, c.len.ensures, c.if-number-len.false)) c.index_mut-slot.ensures.value c.requires.library.rest step.rest;
    }

pub returns-clause-makes : goal.returns-clause-makes
returns-clause-makes g c =
    opening_in g.D.Device.state c.args.self.now.slots.items.items c.args.number c.index_mut-slot.result.now c.open_place-place.result.0 (omega (arith, c.len.ensures, c.if-number-len.false)) c.index_mut-slot.ensures.value c.requires.library.rest
    (opening_of c.args.mode) c.args.limit c.open_place-place.result.1 (subst (λ (q : Place _). OpensPlace g.D.Device.state (opening_of c.args.mode) c.args.limit q c.open_place-place.result.0 c.open_place-place.result.1) c.replace-place.ensures.value c.open_place-place.ensures.opens)
