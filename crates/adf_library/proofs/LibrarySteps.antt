-- A call on one slot of a library is a step of all its files.
use Rattle.std.proofs.Common.{◌≡◌, ℕ, ◌<◌, List, length, get_or, set, refl, sym, ◌∙◌, ap, subst, arith, false}
use Rattle.std.proofs.lemmas.List.{length-set, length-map}
use Rattle.std.specs.Prelude.{None, IsSome, OnErr, Result, Ok, Err, slice_set}
use Rattle.adf_follow.specs.Groups.{WaitsIn}
use Rattle.adf_library.specs.Calls.{IsAtRest, OpensPlace, ClosesPlace, DiscardsPlace, OpeningWrites, IsOpenedAt, OpensAnyway, IsClosedAt, IsDiscardedAt, IsDroppedAt}
use Rattle.adf_library.specs.Library.{AreReady, files_in_work, devices_in, pending_in}
use Rattle.adf_library.specs.Places.{committed, in_work, slot_in, device_in, file_of, IsReadySlot}
use Rattle.adf_library.specs.declared.places.Place as code
use Rattle.adf_library.specs.declared.places.Slot.{Slot}
use Rattle.adf_library.proofs.Among.{OneSet, same_files, others_read, all_read, others_placed, all_placed, read_same, layouts_by, slot_here, device_here, device_now, slot_changed}
use Rattle.adf_library.proofs.RestLaws.{slot_rests, rest_set}
use Rattle.adf_library.proofs.SlotLaws.{All-set}
use Rattle.adf_model.proofs.Answering.StandingLaws.{standings_with, same_standings, names_with, closing_anyway, discarding_anyway}
use Rattle.adf_model.proofs.Basics.{not_true}
use Rattle.adf_model.specs.Causes as model
use Rattle.adf_model.specs.Causes.{OpenedAnyway, OpensStanding, HasOpenCause, IsOpenCause, standing_by}
use Rattle.adf_model.specs.Counts.{DeviceState}
use Rattle.adf_model.specs.Runs.{KeepsLayouts, Makes}
use Rattle.adf_model.specs.Slots.{Standing, File, Files, Device, Devices, standings, standing_of, names_there, device_at, slot_at, with_slot, is_gone, IsToldAt}
use Rattle.adf_model.specs.Slots as slots
use Rattle.adf_model.specs.Steps.{Opening, Fresh, Stored, Opened, Closed, Discarded, IsOpening, WritesOnce, OnlyRead, NoneFell, IsFirstOr, IsLaidOutAt, Step, OthersStayPlaced, placed_anew}
use Rattle.adf_model.specs.Steps as steps
use Rattle.adf_model.specs.declared.error.AdfError.{AdfError}
use Rattle.adf_model.specs.declared.error.AdfError.TheVariants.{Memory, WriteFault}

pub fell_read : (a b : Device) → OnlyRead a b → NoneFell a b
fell_read a b read = record { faults = read.faults; lost = (let e = read.lost in omega (arith, e)); reads = read.reads; writes = (let e = read.writes in omega (arith, e)) }

module _ (n : ℕ) (files : Files) (before : Devices) (slot : slots.Slot) (now : Devices) (after : Files) (one : OneSet n files before slot now after) where
  abbrev old : Device
  old = device_at before n

  abbrev new : Device
  new = device_at now n

  abbrev own : slots.Slot
  own = slot_at files n

  -- ---- an opening

  once : (opening : Opening) → OpeningWrites opening old new → WritesOnce opening n before now
  once (Fresh wide) writes = (others_read n files before slot now after one writes.0, writes.1)
  once (Stored writable) read = (all_read n files before slot now after one read, (let e = read.writes in omega (arith, e)))

  opening_among : (limit : ℕ) (opening : Opening) (result : Result Unit AdfError) → IsOpenedAt opening limit own old result new slot → IsOpening files before n opening limit result now after
  opening_among limit opening (Ok done) is = (is.0, is.1, is.2, is.3, one.made ∙ ap (with_slot files n) is.4, once opening is.5, is.6)
  opening_among limit opening (Err Memory) is = (same_files n files before slot now after one is.0, all_read n files before slot now after one is.1)
  opening_among limit opening (Err WriteFault) is = (is.0, one.made ∙ ap (with_slot files n) is.1, once opening is.2)
  opening_among limit opening (Err error) is = (is.0, same_files n files before slot now after one is.1, all_read n files before slot now after one is.2)

  opening_placed : (result : Result Unit AdfError) → OnErr result (new.placement ≡ old.placement) → OthersStayPlaced (placed_anew result n) before now
  opening_placed (Ok done) placed = others_placed n files before slot now after one
  opening_placed (Err error) placed = all_placed n files before slot now after one placed

  standing_among : (opening : Opening) (result : Result Unit AdfError) → OpensAnyway opening own old result new slot → OnErr result (standing_of slot ≡ standing_of own) → OpensStanding opening n result files after
  standing_among opening (Ok done) is same = ap standings one.made ∙ standings_with files n slot ∙ ap (slice_set (standings files) n) is.1
  standing_among opening (Err error) is same = ap standings one.made ∙ same_standings files n slot (sym same)

  cause_among : (opening : Opening) (result : Result Unit AdfError) → OpensAnyway opening own old result new slot → HasOpenCause files n opening before now result
  cause_among opening (Ok done) is = is.0
  cause_among opening (Err Memory) is = tt
  cause_among opening (Err error) is = is.0

  writes_among : (opening : Opening) (result : Result Unit AdfError) → OpensAnyway opening own old result new slot → model.OpeningWrites result opening n before now
  writes_among opening (Ok done) is = once opening is.2
  writes_among opening (Err Memory) is = all_read n files before slot now after one is.1
  writes_among opening (Err WriteFault) is = once opening is.2
  writes_among opening (Err error) is = all_read n files before slot now after one is.2

  anyway_among : (opening : Opening) (result : Result Unit AdfError) → OpensAnyway opening own old result new slot → OnErr result (standing_of slot ≡ standing_of own) → is_gone slot ≡ is_gone own → OnErr result (new.placement ≡ old.placement)
      → OpenedAnyway files before n opening result now after
  anyway_among opening result is same gone placed = record {
    standing = standing_among opening result is same;
    names = ap names_there one.made ∙ names_with files n slot gone;
    cause = cause_among opening result is;
    writes = writes_among opening result is;
    placed = opening_placed result placed;
  }

  -- ---- a closing and a discarding

  closing_among : (result : Result Unit AdfError) → IsClosedAt own result slot → OnErr result (new.placement ≡ old.placement) → OnlyRead old new → Step files before (Closed n result) now after
  closing_among (Ok done) is placed read = ((is.0, one.made ∙ ap (with_slot files n) is.1), all_read n files before slot now after one read, others_placed n files before slot now after one)
  closing_among (Err error) is placed read = ((is.0, same_files n files before slot now after one is.1), all_read n files before slot now after one read, all_placed n files before slot now after one placed)

  discarding_among : (result : Result Unit AdfError) → IsDiscardedAt own result slot → IsDroppedAt old result new → Step files before (Discarded n result) now after
  discarding_among (Ok done) is dropped =
      let fell : NoneFell old new = record {
        faults = (let e : new.faults ≡ old.faults = ap (λ (s : DeviceState). s.faults) dropped in omega (arith, e));
        lost = (let e : new.lost ≡ old.lost = ap (λ (s : DeviceState). s.lost) dropped in omega (arith, e));
        reads = (let e : new.reads ≡ old.reads = ap (λ (s : DeviceState). s.reads) dropped in omega (arith, e));
        writes = (let e : new.writes ≡ old.writes = ap (λ (s : DeviceState). s.writes) dropped in omega (arith, e));
      } in
      ((is.0, one.made ∙ ap (with_slot files n) is.1), (others_read n files before slot now after one fell, dropped), others_placed n files before slot now after one)
  discarding_among (Err error) is dropped =
      ((is.0, same_files n files before slot now after one is.1), all_read n files before slot now after one (read_same old new dropped), all_placed n files before slot now after one (ap (λ (d : Device). d.placement) dropped))

  discarding_layouts : (result : Result Unit AdfError) → n < length files → IsDiscardedAt own result slot → IsDroppedAt old result new → KeepsLayouts files before now after
  discarding_layouts (Ok done) inside is dropped =
      layouts_by n files before slot now after one inside (λ told stands. absurd (not_true (sym stands ∙ ap is_gone is.1))) (λ laid. subst (λ (s : slots.Slot). IsLaidOutAt s new) (sym is.1) tt)
  discarding_layouts (Err error) inside is dropped =
      layouts_by n files before slot now after one inside
      (λ told. subst (λ (d : Device). IsToldAt slot d) (sym dropped) (subst (λ (s : slots.Slot). IsToldAt s old) (sym is.1) told))
      (λ laid. subst (λ (d : Device). IsLaidOutAt slot d) (sym dropped) (subst (λ (s : slots.Slot). IsLaidOutAt s old) (sym is.1) laid))

-- ---- one slot of a library

module _ {D : Type 0} (state : D → DeviceState) (items : List (Slot D)) (n : ℕ) (old : Slot D) (p : code.Place D) (within : n < length items) (is : old ≡ get_or items n old)
    (rest : WaitsIn None (files_in_work state items) (devices_in state items) (pending_in state items)) where
  abbrev set_slot : Slot D
  set_slot = record old { place = p }

  abbrev files : Files
  files = files_in_work state items

  abbrev before : Devices
  before = devices_in state items

  abbrev now : Devices
  now = devices_in state (set items n set_slot)

  abbrev after : Files
  after = files_in_work state (set items n set_slot)

  rests : IsAtRest state old.place
  rests = slot_rests state items n old old within is rest

  one : OneSet n files before (slot_in in_work state p) now after
  one = slot_changed in_work state items n old set_slot within is refl

  inside : n < length files
  inside = let l = length-map items (file_of in_work state) in omega (arith, l, within)

  stood : slot_at files n ≡ slot_in committed state old.place
  stood = slot_here in_work state items n old set_slot within is ∙ rests.file

  was : device_at before n ≡ device_in state old.place
  was = device_here in_work state items n old set_slot within is

  left : device_at now n ≡ device_in state p
  left = device_now in_work state items n old set_slot within is

  pub ready_in : IsReadySlot state set_slot → AreReady state items → AreReady state (set items n set_slot)
  ready_in ready all = (All-set (IsReadySlot state) items n set_slot all.0 ready, let l = length-set items n set_slot in omega (arith, l, all.1))

  pub rest_in : IsAtRest state p → WaitsIn None after now (pending_in state (set items n set_slot))
  rest_in rests = rest_set state items n old set_slot within is rest refl rests

  pub opening_in : (opening : Opening) (limit : ℕ) (result : Result Unit AdfError) → OpensPlace state opening limit old.place p result → Makes files before (Opened n opening limit result) now after
  opening_in opening limit result opens =
      let stays : slot_in in_work state p ≡ slot_in committed state p = (opens.rest rests).file in record {
        step = λ told. (
          opening_among n files before (slot_in in_work state p) now after one limit opening result (rw (stood, was, left, stays) (opens.told (rw (stood, was) at told))),
          opening_placed n files before (slot_in in_work state p) now after one result (rw (was, left) opens.placed),
        );
        layouts = layouts_by n files before (slot_in in_work state p) now after one inside (rw (stood, was, left, stays) opens.tells) (rw (stood, was, left, stays) opens.laid_out);
        anyway = anyway_among n files before (slot_in in_work state p) now after one opening result (rw (stood, was, left, stays) opens.anyway) (rw (stood, stays) opens.stands) (rw (stood, stays) opens.gone) (rw (was, left) opens.placed);
      }

  pub closing_in : (result : Result Unit AdfError) → ClosesPlace state old.place p result → Makes files before (Closed n result) now after
  closing_in result closes =
      let stays : slot_in in_work state p ≡ slot_in committed state p = (closes.rest rests).file in
      let read : OnlyRead (device_in state old.place) (device_in state p) = subst (λ (d : Device). OnlyRead (device_in state old.place) d) (sym closes.device)
      (record { held = refl; lost = refl; writes = refl; reads = omega arith; faults = omega arith }) in
      let step = closing_among n files before (slot_in in_work state p) now after one result (rw (stood, stays) closes.closed_is) (rw (was, left) closes.placed) (rw (was, left) read) in
      record {
        step = λ told. step;
        layouts = layouts_by n files before (slot_in in_work state p) now after one inside
            (rw (stood, was, left, stays) (told_closed result closes.closed_is (ap (λ (d : Device). d.held) closes.device)))
            (rw (stood, was, left, stays) closes.laid_out);
        anyway = closing_anyway files after before now n result step.0 step.1 step.2;
      }
    where
      told_closed : (result : Result Unit AdfError) → IsClosedAt (slot_in committed state old.place) result (slot_in committed state p) → (device_in state p).held ≡ (device_in state old.place).held
          → IsToldAt (slot_in committed state old.place) (device_in state old.place) → IsToldAt (slot_in committed state p) (device_in state p)
      told_closed result is same told there = subst IsSome (sym same) (told (was_there result is there))
        where
          by_slot : (own : slots.Slot) → is_gone (steps.closed own) ≡ is_gone own
          by_slot slots.Slot.Gone = refl
          by_slot slots.Slot.Raw = refl
          by_slot (slots.Slot.Saved tree) = refl
          by_slot (slots.Slot.Live opened) = refl
          by_slot slots.Slot.Broken = refl

          was_there : (result : Result Unit AdfError) → IsClosedAt (slot_in committed state old.place) result (slot_in committed state p) → is_gone (slot_in committed state p) ≡ false → is_gone (slot_in committed state old.place) ≡ false
          was_there (Ok done) is there = sym (by_slot (slot_in committed state old.place)) ∙ ap is_gone (sym is.1) ∙ there
          was_there (Err error) is there = ap is_gone (sym is.1) ∙ there

  pub discarding_in : (result : Result Unit AdfError) → DiscardsPlace state old.place p result → Makes files before (Discarded n result) now after
  discarding_in result discards =
      let stays : slot_in in_work state p ≡ slot_in committed state p = (discards.rest rests).file in
      let discarded : IsDiscardedAt (slot_at files n) result (slot_in in_work state p) = rw (stood, stays) discards.discarded_is in
      let dropped : IsDroppedAt (device_at before n) result (device_at now n) = rw (was, left) discards.device in
      let step = discarding_among n files before (slot_in in_work state p) now after one result discarded dropped in
      record {
        step = λ told. step;
        layouts = discarding_layouts n files before (slot_in in_work state p) now after one result inside discarded dropped;
        anyway = discarding_anyway files after before now n result step.0 step.1 step.2;
      }

  pub rest_after : (IsAtRest state old.place → IsAtRest state p) → WaitsIn None after now (pending_in state (set items n set_slot))
  rest_after keeps = rest_in (keeps rests)
