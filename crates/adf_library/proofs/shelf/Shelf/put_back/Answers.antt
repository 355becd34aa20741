use Rattle.std.proofs.Common.{refl}
use Rattle.adf_library.specs.Shelf.PlaceState.{There}
use Rattle.adf_library.specs.declared.places.Place.TheVariants as place
use Rattle.adf_library.proofs.ShelfSlots.{put_slot, taken_within}
use Rattle.adf_library.proofs.shelf.Shelf.put_back.Goals as goal

pub returns-clause-back : goal.returns-clause-back
returns-clause-back g c = put_slot _ (λ was. There (g.D.Device.state c.args.device)) c.args.self.now.slots.items c.args.number c.index_mut.result.now (place.Closed c.args.device) (taken_within _ _ _ c.requires.taken) c.index_mut.ensures.value refl
