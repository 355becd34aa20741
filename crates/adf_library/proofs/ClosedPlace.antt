-- What a closing and a discarding make of one place, and an opening of one that is not closed.
use Rattle.std.proofs.Common.{◌≡◌, ℕ, List, [], ◌∷◌, Bool, true, false, refl, sym, ◌∙◌, ap, subst, arith}
use Rattle.std.specs.Prelude.{Option, Some, None, Ok, Err, if◌then◌else◌}
use Rattle.adf_format.specs.Tree.{Tree, numbered}
use Rattle.adf_library.specs.Calls.{OpensPlace, ClosesPlace, DiscardsPlace, open_refusal, close_refusal}
use Rattle.adf_library.specs.Places.{committed, slot_as, slot_in, device_in, device_as, tree_left, IsLeft, IsReadyPlace}
use Rattle.adf_library.specs.Shelf.{PlaceState, place_of}
use Rattle.adf_library.specs.declared.places.Left.{Left}
use Rattle.adf_library.specs.declared.places.Husk.{Husk}
use Rattle.adf_library.specs.declared.places.Place.{Place}
use Rattle.adf_library.specs.declared.places.Place.TheVariants as place
use Rattle.adf_library.proofs.OpenedFile.{live_committed}
use Rattle.adf_library.proofs.OpenedPlace.{raw_laid}
use Rattle.adf_model.specs.Counts.{dropped}
use Rattle.adf_model.specs.Placing.{numbered_placement}
use Rattle.adf_model.specs.Slots.{Open, Device, no_device, is_gone, is_open}
use Rattle.adf_model.specs.Slots as model
use Rattle.adf_model.specs.Steps.{Opening, IsFirstOr, OnlyRead, IsLaidOut, IsLaidOutAt, closed}
use Rattle.adf_model.specs.declared.error.AdfError.{AdfError}
use Rattle.adf_model.specs.declared.error.AdfError.TheVariants.{AlreadyOpen, NoSuchFile}
use Rattle.adf_model.proofs.Trees.NumberedLaidOut.{numbered_laid_out}
use Rattle.adf_tree.specs.Files.{FileState, HasMeaning, IsWorking, accepted, device_with, state_of}
use Rattle.adf_tree.specs.declared.file.AdfFile.{AdfFile}
use Rattle.cg_io.specs.Device.{DeviceState}

-- ---- what is open, broken or not

in_use : (b : Bool) (opened : Open) → is_open (if b then model.Slot.Broken else model.Slot.Live opened) ≡ true
in_use true opened = refl
in_use false opened = refl

pub open_closes : (b : Bool) (opened : Open) → close_refusal (if b then model.Slot.Broken else model.Slot.Live opened) ≡ None
open_closes true opened = refl
open_closes false opened = refl

pub open_opened : (b : Bool) (opened : Open) → open_refusal (if b then model.Slot.Broken else model.Slot.Live opened) ≡ Some AlreadyOpen
open_opened true opened = refl
open_opened false opened = refl

abbrev last : PlaceState → DeviceState
last (PlaceState.There d) = d
last PlaceState.Taken = model.state_of no_device
last (PlaceState.Gone d) = d

module _ {D : Type 0} (state : D → DeviceState) where
  same_read : (device : Device) → OnlyRead device device
  same_read device = record { held = refl; lost = refl; writes = refl; reads = omega arith; faults = omega arith }

  -- ---- an opening of a file that is open, or not there

  pub open_stays : (opening : Opening) (limit : ℕ) (file : AdfFile D) → OpensPlace state opening limit (place.Open file) (place.Open file) (Err AlreadyOpen)
  open_stays opening limit file =
      let first : (X : Type 0) → IsFirstOr (open_refusal (slot_as committed (state_of state file))) AlreadyOpen X =
      λ X. subst (λ (o : Option AdfError). IsFirstOr o AlreadyOpen X) (sym (open_opened file.broken (committed (state_of state file)))) refl in
      record {
        told = λ told. (first _, refl, same_read (device_as (state_of state file)));
        anyway = (first _, refl, same_read (device_as (state_of state file)));
        stands = refl;
        gone = refl;
        placed = refl;
        tells = λ h. h;
        laid_out = λ h. h;
        rest = λ h. h;
      }

  pub gone_stays : (opening : Opening) (limit : ℕ) (husk : Husk D) → OpensPlace state opening limit (place.Gone husk) (place.Gone husk) (Err NoSuchFile)
  gone_stays opening limit husk = record {
    told = λ told. (refl, refl, same_read (device_in state (place.Gone husk)));
    anyway = (refl, refl, same_read (device_in state (place.Gone husk)));
    stands = refl;
    gone = refl;
    placed = refl;
    tells = λ h. h;
    laid_out = λ h. h;
    rest = λ h. h;
  }

  -- ---- a closing

  numbered_laid : (tree : Tree) (before now : Device) (held : Option (List ℕ)) (writable : Bool) (limit : ℕ) → IsLaidOut (model.Slot.Live (record { tree = tree; writable = writable; limit = limit })) before held → IsLaidOut (model.Slot.Saved (numbered tree)) now held
  numbered_laid tree before now None writable limit laid = tt
  numbered_laid tree before now (Some image) writable limit laid = (numbered_placement tree before.placement, numbered_laid_out image tree before.placement laid)

  module _ (file : AdfFile D) (device : D) (same : state device ≡ (state_of state file).device) where
    abbrev f : FileState
    f = state_of state file

    left_device : device_with no_device.placement (state device) ≡ device_with no_device.placement f.device
    left_device = ap (device_with no_device.placement) same

    pub broken_closes : file.broken ≡ true → ClosesPlace state (place.Open file) (place.Closed device) (Ok tt)
    broken_closes broken = record {
      closed_is = (open_closes file.broken (committed f), sym (ap (λ (b : Bool). closed (if b then model.Slot.Broken else model.Slot.Live (committed f))) broken));
      device = left_device;
      placed = tt;
      laid_out = λ laid. raw_laid (device_with no_device.placement (state device));
      rest = λ rest. record { file = refl; work = refl };
    }

    module _ (working : IsWorking state file) (sound : file.broken ≡ false) (left : Left D) (remembers : left.last.items ≡ (file, 0) ∷ []) where
      tree_is : tree_left state left.last.items ≡ numbered (committed f).tree
      tree_is = ap (tree_left state) remembers

      live : slot_as committed f ≡ model.Slot.Live (committed f)
      live = live_committed state file working sound

      pub sound_closes : ClosesPlace state (place.Open file) (place.Saved device left) (Ok tt)
      sound_closes = record {
        closed_is = (open_closes file.broken (committed f), ap model.Slot.Saved tree_is ∙ sym (ap closed live));
        device = left_device;
        placed = tt;
        laid_out = λ laid.
            subst (λ (t : Tree). IsLaidOutAt (model.Slot.Saved t) (device_with no_device.placement (state device))) (sym tree_is)
            (subst (λ (d : Device). IsLaidOutAt (model.Slot.Saved (numbered (committed f).tree)) d) (sym left_device)
            (numbered_laid (committed f).tree (device_as f) (device_with no_device.placement f.device) f.device.held file.core.writable file.core.heap.limit
            (subst (λ (s : model.Slot). IsLaidOutAt s (device_as f)) live laid)));
        rest = λ rest. record { file = refl; work = refl };
      }

      pub left_ready : IsReadyPlace state (place.Saved device left)
      left_ready = subst (IsLeft state (state device)) (sym remembers) (record {
        held = ap (λ (d : DeviceState). d.held) same;
        means = subst (λ (d : DeviceState). HasMeaning (accepted file.core) d.held) (sym same) (working.means sound);
      })

  -- what is not open is not closed
  pub shut_stays : (p : Place D) (error : AdfError) → close_refusal (slot_in committed state p) ≡ Some error → ClosesPlace state p p (Err error)
  shut_stays p error refuses = record { closed_is = (refuses, refl); device = refl; placed = refl; laid_out = λ h. h; rest = λ h. h }

  -- ---- a discarding

  pub dropped_discards : (p : Place D) (device : D) (husk : Husk D) → (device_in state p ≡ device_with no_device.placement (state device)) → open_refusal (slot_in committed state p) ≡ None
      → place_of state (place.Gone husk) ≡ PlaceState.Gone (dropped (state device)) → DiscardsPlace state p (place.Gone husk) (Ok tt)
  dropped_discards p device husk was shut is = record {
    discarded_is = (shut, refl);
    device = ap last is ∙ ap (λ (d : Device). dropped (model.state_of d)) (sym was);
    rest = λ rest. record { file = refl; work = refl };
  }

  pub stays_there : (p : Place D) (error : AdfError) → open_refusal (slot_in committed state p) ≡ Some error → DiscardsPlace state p p (Err error)
  stays_there p error refuses = record { discarded_is = (refuses, refl); device = refl; rest = λ h. h }
