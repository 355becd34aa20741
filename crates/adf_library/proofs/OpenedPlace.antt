-- What an opening makes of the place of a closed file.
use Rattle.std.proofs.Common.{◌≡◌, ℕ, List, [], ◌∷◌, Bool, true, false, refl, sym, ◌∙◌, ap, subst}
use Rattle.std.specs.Prelude.{Option, Some, None, IsSome, IfSome, Result, Ok, Err, if◌then◌else◌}
use Rattle.adf_format.specs.LaysOut.{LaysOut, IsSound}
use Rattle.adf_format.specs.Placement.{Placement}
use Rattle.adf_format.specs.Tree.{Tree, IsNumbered}
use Rattle.adf_format.proofs.FaultLaws.{not_both}
use Rattle.layout_laws.proofs.FreeStand.{no_fault}
use Rattle.adf_library.specs.Calls.{OpensPlace, OpeningWrites, IsOpenedAt, OpensAnyway, open_refusal, after_open, closed_as, refused_as}
use Rattle.adf_library.specs.Places.{committed, slot_as, device_as, tree_by, placement_by, tree_left, IsLeft, IsReadyPlace}
use Rattle.adf_library.specs.declared.places.Left.{Left}
use Rattle.adf_library.specs.declared.places.Place.TheVariants as place
use Rattle.adf_library.proofs.OpenedFile.{file_rests, rows_are, heap_is, live_committed, file_laid, fresh_is, stored_is, left_found, left_sound}
use Rattle.adf_library.proofs.NumberLaws.{not_gone}
use Rattle.adf_model.proofs.Basics.{not_true}
use Rattle.adf_model.specs.Causes.{IsOpenCause}
use Rattle.adf_model.specs.Modes.{opening_of}
use Rattle.adf_model.specs.Slots.{Open, Device, no_device, standing_of, is_gone, is_open, IsToldAt}
use Rattle.adf_model.specs.Slots as model
use Rattle.adf_model.specs.Steps.{Opening, Fresh, Stored, HoldsTree, IsFirstOr, IsOpenRefusal, IsLaidOut, IsLaidOutAt}
use Rattle.adf_model.specs.declared.error.AdfError.{AdfError}
use Rattle.adf_model.specs.declared.error.AdfError.TheVariants.{Memory, ReadFault, WriteFault, NotEmpty, Layout}
use Rattle.adf_model.specs.declared.mode.Mode.{Mode}
use Rattle.adf_model.specs.declared.mode.Mode.TheVariants.{New, NewWide, ReadWrite, ReadOnly}
use Rattle.adf_tree.specs.Files.{FileState, IsFile, HasMeaning, accepted, device_of, device_with, state_of}
use Rattle.adf_tree.specs.Opening.{OpensFresh, Stands, IsOpened, IsRefused}
use Rattle.adf_tree.specs.declared.file.AdfFile.{AdfFile}
use Rattle.cg_io.specs.Device.{DeviceState}

-- what an opening makes of a file that stands so
record Makes (opening : Opening) (limit : ℕ) (own : model.Slot) (before : Device) (result : Result Unit AdfError) (now : Device) (left : model.Slot) : Type 0 where
  told : IsToldAt own before → IsOpenedAt opening limit own before result now left
  anyway : OpensAnyway opening own before result now left
  tells : IsToldAt own before → IsToldAt left now

-- ---- done

module _ {D : Type 0} (state : D → DeviceState) (limit : ℕ) (own : model.Slot) (closed : open_refusal own ≡ None) (stands : is_gone own ≡ false) (device : DeviceState) (file : AdfFile D) (is : IsFile state file) where
  abbrev f : FileState
  f = state_of state file

  abbrev before : Device
  before = device_with no_device.placement device

  kept_tree : committed f ≡ record { tree = tree_by (device_of state file).held file.core.rows.items; writable = file.core.writable; limit = file.core.heap.limit }
  kept_tree = ap (λ rows. record { tree = tree_by (device_of state file).held rows; writable = file.core.writable; limit = file.core.heap.limit }) (sym (rows_are state file is))

  kept_placement : (device_as f).placement ≡ placement_by (device_of state file).held file.core.rows.items file.core.heap.work.heap
  kept_placement = ap (λ rows. placement_by (device_of state file).held rows file.core.heap.kept.heap) (sym (rows_are state file is)) ∙ ap (placement_by (device_of state file).held file.core.rows.items) (sym (heap_is state file is))

  tree_kept : (committed f).tree ≡ tree_by (device_of state file).held file.core.rows.items
  tree_kept = ap (λ (o : Open). o.tree) kept_tree

  fresh_made : (wide : Bool) → OpensFresh wide limit device f → Makes (Fresh wide) limit own before (Ok tt) (device_as f) (slot_as committed f)
  fresh_made wide made =
      let live = live_committed state file is.working made.starts.sound in
      let writes : OpeningWrites (Fresh wide) before (device_as f) = (made.counts, made.writes) in
      record {
        told = λ told.
            let known = fresh_is file.core wide device.held (device_of state file).held (told stands) made.held made.tree in
            (committed f, closed, made.starts.limit_is, (tree_kept ∙ known.0, made.starts.writable_is, λ image e. subst (λ (h : Option (List ℕ)). IfSome h (λ bytes. bytes ≡ [])) e made.empty), live, writes, (made.held, kept_placement ∙ known.1));
        anyway = (closed, ap standing_of live ∙ ap (λ (b : Bool). if b then model.Standing.Editing else model.Standing.Reading) made.starts.writable_is, writes);
        tells = λ told there. (fresh_is file.core wide device.held (device_of state file).held (told stands) made.held made.tree).2;
      }

  stored_made : (writable : Bool) → Stands writable limit device f
      → ((image : List ℕ) (tree : Tree) (p : Placement) → device.held ≡ Some image → LaysOut image tree p → IsNumbered tree → HoldsTree own (Some image) tree)
      → Makes (Stored writable) limit own before (Ok tt) (device_as f) (slot_as committed f)
  stored_made writable made holds =
      let live = live_committed state file is.working made.starts.sound in
      record {
        told = λ told. (
          committed f,
          closed,
          made.starts.limit_is,
          (
            subst (HoldsTree own device.held) (sym tree_kept)
                (subst (λ (h : Option (List ℕ)). HoldsTree own h (tree_by (device_of state file).held file.core.rows.items)) made.device.held
                (stored_is file.core own (device_of state file).held (subst IsSome (sym made.device.held) (told stands)) made.tree (λ image tree p e. holds image tree p (sym made.device.held ∙ e)))),
            made.starts.writable_is,
          ),
          live,
          made.device,
          tt,
        );
        anyway = (closed, ap standing_of live ∙ ap (λ (b : Bool). if b then model.Standing.Editing else model.Standing.Reading) made.starts.writable_is, made.device);
        tells = λ told there. subst IsSome (sym made.device.held) (told stands);
      }

  done_made : (mode : Mode) → IsOpened mode limit device f
      → ((image : List ℕ) (tree : Tree) (p : Placement) → device.held ≡ Some image → LaysOut image tree p → IsNumbered tree → HoldsTree own (Some image) tree)
      → Makes (opening_of mode) limit own before (Ok tt) (device_as f) (slot_as committed f)
  done_made New made holds = fresh_made false made
  done_made NewWide made holds = fresh_made true made
  done_made ReadWrite made holds = stored_made true made.stands holds
  done_made ReadOnly made holds = stored_made false made.stands holds

-- ---- refused

-- a file that was closed with its tree breaks no rule
pub saved_refusal : (opening : Opening) (saved : Tree) (before now : Device) (error : AdfError) → IsSome before.held → ((image : List ℕ) → before.held ≡ Some image → IsSound image)
    → IsOpenRefusal opening model.Slot.Raw before now error → IsOpenRefusal opening (model.Slot.Saved saved) before now error
saved_refusal opening saved before now error some sound h = by_error opening error h
  where
    told : (held : Option (List ℕ)) → IsSome held → (image : List ℕ) × (held ≡ Some image)
    told None some = absurd (not_true some)
    told (Some image) some = (image, refl)

    by_error : (opening : Opening) (error : AdfError) → IsOpenRefusal opening model.Slot.Raw before now error → IsOpenRefusal opening (model.Slot.Saved saved) before now error
    by_error opening Memory h = tt
    by_error opening ReadFault h = h
    by_error (Fresh wide) NotEmpty h = h
    by_error (Fresh wide) WriteFault h = h
    by_error (Stored writable) (Layout rule place) h =
        let held = told before.held some in
        let s = sound held.0 held.1 in
        let none = no_fault held.0 s.0 s.1 s.2 in
        absurd (not_both held.0 none.0 none.1 (record { rule = rule; place = place }) none.2 (h.1 held.0 held.1))
    by_error (Fresh wide) error h = absurd h
    by_error (Stored writable) error h = absurd h

pub refusal_cause : (opening : Opening) (before now : Device) (error : AdfError) → IsOpenRefusal opening model.Slot.Raw before now error → IsOpenCause opening before now error
refusal_cause opening earlier later Memory h = tt
refusal_cause opening earlier later ReadFault h = h
refusal_cause (Fresh wide) earlier later NotEmpty h = tt
refusal_cause (Fresh wide) earlier later WriteFault h = h.0
refusal_cause (Stored writable) earlier later (Layout rule place) h = h.0
refusal_cause (Fresh wide) earlier later error h = absurd h
refusal_cause (Stored writable) earlier later error h = absurd h

module _ (opening : Opening) (limit : ℕ) (own : model.Slot) (closed : open_refusal own ≡ None) (stands : is_gone own ≡ false) (old new : DeviceState) where
  abbrev was : Device
  was = device_with no_device.placement old

  abbrev now : Device
  now = device_with no_device.placement new

  first : (X : Type 0) (error : AdfError) → X → IsFirstOr (open_refusal own) error X
  first X error x = subst (λ o. IsFirstOr o error X) (sym closed) x

  fault_writes : (opening : Opening) → IsRefused opening old new WriteFault → OpeningWrites opening was now
  fault_writes (Fresh wide) is = (is.leaves.0, is.leaves.1)
  fault_writes (Stored writable) is = absurd (is.cause no_device.placement no_device.placement)

  refused_made : (error : AdfError) → IsRefused opening old new error → (IsToldAt own was → IsOpenRefusal opening model.Slot.Raw was now error → IsOpenRefusal opening own was now error)
      → Makes opening limit own was (Err error) now (after_open error own)
  refused_made Memory is turns = record { told = λ told. (refl, is.leaves); anyway = (refl, is.leaves); tells = λ told there. subst IsSome (sym is.leaves.held) (told stands) }
  refused_made WriteFault is turns = record {
    told = λ told. (first _ WriteFault (turns told (is.cause no_device.placement no_device.placement)), refl, fault_writes opening is);
    anyway = (first _ WriteFault (refusal_cause opening was now WriteFault (is.cause no_device.placement no_device.placement)), refl, fault_writes opening is);
    tells = λ told there. is.leaves.2 (told stands);
  }
  refused_made error is turns = record {
    told = λ told. (first _ error (turns told (is.cause no_device.placement no_device.placement)), refl, is.leaves);
    anyway = (first _ error (refusal_cause opening was now error (is.cause no_device.placement no_device.placement)), refl, is.leaves);
    tells = λ told there. subst IsSome (sym is.leaves.held) (told stands);
  }

-- ---- the place

pub raw_holds : (device : DeviceState) (image : List ℕ) (tree : Tree) (p : Placement) → device.held ≡ Some image → LaysOut image tree p → IsNumbered tree → HoldsTree model.Slot.Raw (Some image) tree
raw_holds device image tree p told laid in_order = ((p, laid), in_order)

pub raw_laid : (device : Device) → IsLaidOutAt model.Slot.Raw device
raw_laid device = by_held device.held
  where
    by_held : (h : Option (List ℕ)) → IsLaidOut model.Slot.Raw device h
    by_held None = tt
    by_held (Some image) = tt

laid_same : (tree : Tree) (a b : Device) → b.held ≡ a.held → IsLaidOutAt (model.Slot.Saved tree) a → IsLaidOutAt (model.Slot.Saved tree) b
laid_same tree a b same laid = subst (λ (h : Option (List ℕ)). IsLaidOut (model.Slot.Saved tree) b h) (sym same) (by_held a.held laid)
  where
    by_held : (h : Option (List ℕ)) → IsLaidOut (model.Slot.Saved tree) a h → IsLaidOut (model.Slot.Saved tree) b h
    by_held None laid = tt
    by_held (Some image) laid = laid

module _ {D : Type 0} (state : D → DeviceState) where
  saved_holds : (device : DeviceState) (items : List (AdfFile D × ℕ)) → IsLeft state device items → (image : List ℕ) (tree : Tree) (p : Placement) → device.held ≡ Some image → LaysOut image tree p → IsNumbered tree
      → HoldsTree (model.Slot.Saved (tree_left state items)) (Some image) tree
  saved_holds device [] left image tree p told laid in_order = absurd left
  saved_holds device (entry ∷ entries) left image tree p told laid in_order = left_found state device entry.0 left image told tree p laid in_order

  saved_sound : (device : DeviceState) (items : List (AdfFile D × ℕ)) → IsLeft state device items → (image : List ℕ) → device.held ≡ Some image → IsSound image
  saved_sound device [] left image told = absurd left
  saved_sound device (entry ∷ entries) left image told = (_, _, left_sound state device entry.0 left image told)

  left_kept : (old new : DeviceState) (items : List (AdfFile D × ℕ)) → new.held ≡ old.held → IsLeft state old items → IsLeft state new items
  left_kept old new [] same left = left
  left_kept old new (entry ∷ entries) same left = record {
    held = same ∙ left.held;
    means = subst (HasMeaning (accepted entry.0.core)) (sym same) left.means;
  }

  -- a file was opened
  module _ (mode : Mode) (limit : ℕ) (device : D) (file : AdfFile D) (is : IsFile state file) (opened : IsOpened mode limit (state device) (state_of state file)) where
    pub opened_place : (saved : Option (Left D)) → IsReadyPlace state (closed_as device saved) → OpensPlace state (opening_of mode) limit (closed_as device saved) (place.Open file) (Ok tt)
    opened_place None ready =
        let made = done_made state limit model.Slot.Raw refl refl (state device) file is mode opened (raw_holds (state device)) in
        record { told = made.told; anyway = made.anyway; stands = tt; gone = not_gone file.broken (committed (state_of state file)); placed = tt; tells = made.tells; laid_out = λ laid. file_laid state file is.working; rest = λ rest. file_rests state file is }
    opened_place (Some left) ready =
        let made = done_made state limit (model.Slot.Saved (tree_left state left.last.items)) refl refl (state device) file is mode opened (saved_holds (state device) left.last.items ready) in
        record { told = made.told; anyway = made.anyway; stands = tt; gone = not_gone file.broken (committed (state_of state file)); placed = tt; tells = made.tells; laid_out = λ laid. file_laid state file is.working; rest = λ rest. file_rests state file is }

  abbrev own : Option (Left D) → model.Slot
  own None = model.Slot.Raw
  own (Some left) = model.Slot.Saved (tree_left state left.last.items)

  -- its opening was refused
  module _ (opening : Opening) (limit : ℕ) (device back : D) where
    pub refused_ready : (error : AdfError) (saved : Option (Left D)) → IsRefused opening (state device) (state back) error → IsReadyPlace state (closed_as device saved) → IsReadyPlace state (refused_as error back saved)
    refused_ready WriteFault saved is ready = tt
    refused_ready error None is ready = tt
    refused_ready error (Some left) is ready = left_kept (state device) (state back) left.last.items is.leaves.held ready

    pub refused_place : (error : AdfError) (saved : Option (Left D)) → IsRefused opening (state device) (state back) error → IsReadyPlace state (closed_as device saved)
        → OpensPlace state opening limit (closed_as device saved) (refused_as error back saved) (Err error)
    refused_place error saved is ready = by_error error saved is ready (made error saved is ready)
      where
        made : (error : AdfError) (saved : Option (Left D)) → IsRefused opening (state device) (state back) error → IsReadyPlace state (closed_as device saved)
            → Makes opening limit (own saved) (device_with no_device.placement (state device)) (Err error) (device_with no_device.placement (state back)) (after_open error (own saved))
        made error None is ready = refused_made opening limit model.Slot.Raw refl refl (state device) (state back) error is (λ told h. h)
        made error (Some left) is ready = refused_made opening limit (model.Slot.Saved (tree_left state left.last.items)) refl refl (state device) (state back) error is
            (λ told h. saved_refusal opening (tree_left state left.last.items) (device_with no_device.placement (state device)) (device_with no_device.placement (state back)) error (told refl) (saved_sound (state device) left.last.items ready) h)

        by_error : (error : AdfError) (saved : Option (Left D)) → IsRefused opening (state device) (state back) error → IsReadyPlace state (closed_as device saved)
            → Makes opening limit (own saved) (device_with no_device.placement (state device)) (Err error) (device_with no_device.placement (state back)) (after_open error (own saved))
            → OpensPlace state opening limit (closed_as device saved) (refused_as error back saved) (Err error)
        by_error WriteFault None is ready m = record { told = m.told; anyway = m.anyway; stands = refl; gone = refl; placed = refl; tells = m.tells; laid_out = λ laid. raw_laid (device_with no_device.placement (state back)); rest = λ rest. record { file = refl; work = refl } }
        by_error WriteFault (Some left) is ready m = record { told = m.told; anyway = m.anyway; stands = refl; gone = refl; placed = refl; tells = m.tells; laid_out = λ laid. raw_laid (device_with no_device.placement (state back)); rest = λ rest. record { file = refl; work = refl } }
        by_error error None is ready m = record { told = m.told; anyway = m.anyway; stands = refl; gone = refl; placed = refl; tells = m.tells; laid_out = λ laid. raw_laid (device_with no_device.placement (state back)); rest = λ rest. record { file = refl; work = refl } }
        by_error error (Some left) is ready m = record { told = m.told; anyway = m.anyway; stands = refl; gone = refl; placed = refl; tells = m.tells; laid_out = laid_same (tree_left state left.last.items) (device_with no_device.placement (state device)) (device_with no_device.placement (state back)) is.leaves.held; rest = λ rest. record { file = refl; work = refl } }
