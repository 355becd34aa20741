use Rattle.std.proofs.Common.{arith, subst}
use Rattle.adf_library.specs.Calls.{ClosesPlace}
use Rattle.adf_library.specs.declared.places.Place.{Place}
use Rattle.adf_library.proofs.LibrarySteps.{ready_in, rest_after, closing_in}
use Rattle.adf_library.proofs.library.Library.close.Goals as goal

pub returns-clause-library : goal.returns-clause-library
returns-clause-library g c =
    let items = c.args.self.now.slots.items.items in
    let n = c.args.number in
    let old = c.index_mut-slot.result.now in
    let step = subst (λ (q : Place _). ClosesPlace g.D.Device.state q c.close_place-place.result.0 c.close_place-place.result.1) c.replace-place.ensures.value c.close_place-place.ensures.closes in
    record {
      ready = ready_in g.D.Device.state items n old c.close_place-place.result.0 (omega (arith, c.len.ensures, c.if-number-len.false)) c.index_mut-slot.ensures.value c.requires.rest c.close_place-place.ensures.ready c.requires.ready;
      rest = rest_after g.D.Device.state items n old c.close_place-place.result.0 (omega (arith, c.len.ensures, c.if-number-len.false)) c.index_mut-slot.ensures.value c.requires.rest step.rest;
    }

pub returns-clause-makes : goal.returns-clause-makes
returns-clause-makes g c =
    closing_in g.D.Device.state c.args.self.now.slots.items.items c.args.number c.index_mut-slot.result.now c.close_place-place.result.0 (omega (arith, c.len.ensures, c.if-number-len.false)) c.index_mut-slot.ensures.value c.requires.rest
    c.close_place-place.result.1 (subst (λ (q : Place _). ClosesPlace g.D.Device.state q c.close_place-place.result.0 c.close_place-place.result.1) c.replace-place.ensures.value c.close_place-place.ensures.closes)
