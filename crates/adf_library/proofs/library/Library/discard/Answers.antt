use Rattle.std.proofs.Common.{arith, subst}
use Rattle.adf_library.specs.Calls.{DiscardsPlace}
use Rattle.adf_library.specs.declared.places.Place.{Place}
use Rattle.adf_library.proofs.LibrarySteps.{ready_in, rest_after, discarding_in}
use Rattle.adf_library.proofs.library.Library.discard.Goals as goal

pub returns-clause-library : goal.returns-clause-library
returns-clause-library g c =
    let items = c.args.self.now.slots.items.items in
    let n = c.args.number in
    let old = c.index_mut-slot.result.now in
    let step = subst (λ (q : Place _). DiscardsPlace g.D.Device.state q c.discard_place-place.result.0 c.discard_place-place.result.1) c.replace-place.ensures.value c.discard_place-place.ensures.discards in
    record {
      ready = ready_in g.D.Device.state items n old c.discard_place-place.result.0 (omega (arith, c.len.ensures, c.if-number-len.false)) c.index_mut-slot.ensures.value c.requires.rest c.discard_place-place.ensures.ready c.requires.ready;
      rest = rest_after g.D.Device.state items n old c.discard_place-place.result.0 (omega (arith, c.len.ensures, c.if-number-len.false)) c.index_mut-slot.ensures.value c.requires.rest step.rest;
    }

pub returns-clause-makes : goal.returns-clause-makes
returns-clause-makes g c =
    discarding_in g.D.Device.state c.args.self.now.slots.items.items c.args.number c.index_mut-slot.result.now c.discard_place-place.result.0 (omega (arith, c.len.ensures, c.if-number-len.false)) c.index_mut-slot.ensures.value c.requires.rest
    c.discard_place-place.result.1 (subst (λ (q : Place _). DiscardsPlace g.D.Device.state q c.discard_place-place.result.0 c.discard_place-place.result.1) c.replace-place.ensures.value c.discard_place-place.ensures.discards)
