-- A group of edits on one open file by itself is a step of the model over many files.
use Rattle.std.proofs.Common.{◌≡◌, ◌≢◌, ◌⊎◌, inl, inr, ℕ, suc, ◌+◌, ◌<◌, ◌≤◌, Bool, true, false, not, List, [], ◌∷◌, ◌++◌, length, take, ◌*◌, refl, sym, ◌∙◌, ap, subst, arith}
use Rattle.std.specs.Prelude.{Option, Some, None, IsSome, is_some, IfSome, IfOk, if◌then◌else◌, Result, Ok, Err}
use Rattle.std.specs.List.{AllByRecursion, list_any}
use Rattle.std.proofs.lemmas.Bool.Decides.{eqb_tells}
use Rattle.std.proofs.lemmas.List.{length-map}
use Rattle.std.proofs.lemmas.Option.{slice_get_within}
use Rattle.adf_format.specs.Tree.{Tree, IsTree, is_live}
use Rattle.adf_format.specs.Placement.{Placement}
use Rattle.adf_format.specs.HeapRule.{place_edit, ◌>>=◌}
use Rattle.adf_model.specs.declared.error.AdfError.{AdfError}
use Rattle.adf_model.specs.declared.error.AdfError.TheVariants.{Memory, ReadFault, WriteFault, NoSuchNode, LinkMissing, Full}
use Rattle.adf_model.specs.declared.error.EditError.{EditError}
use Rattle.adf_model.specs.declared.tree.Edit.{Edit}
use Rattle.adf_model.specs.declared.tree.Edit.TheVariants.{Create, Delete, Rename, Move, SetLabel, SetDims, PutAll, PutPart, Link}
use Rattle.adf_model.specs.declared.tree.NodeId.{NodeId}
use Rattle.adf_model.specs.Tests.{checked, and_then, first_refusal}
use Rattle.adf_model.specs.Edits.{Work, named_nodes, file_tests_at_entry, file_step, file_group}
use Rattle.adf_model.specs.Need.{need}
use Rattle.adf_model.specs.Placing.{placed_as, place_group, group_cost}
use Rattle.adf_model.specs.Untouched.{KeepsRest, KeepsTail}
use Rattle.adf_model.specs.Torn.{TornGroup}
use Rattle.adf_model.specs.FileGroup.{done_by, FileStops, FileBreaks, FileEdited, IsFileGroup, IsFileGroupRefusal}
use Rattle.adf_model.specs.Slots.{Open, Slot, Standing, standing_of, Files, Device, Devices, slot_at, is_open, open_at, with_slot, device_at, recorded_end}
use Rattle.adf_model.specs.Slots.Slot.{Live}
use Rattle.adf_model.specs.OneFile.{StandsIn}
use Rattle.adf_model.specs.Calls.{Group, group_of, group_after, group_step, edit_group, tests_at_entry}
use Rattle.adf_model.specs.Steps.{OnlyRead, OthersOnlyRead, OthersStayPlaced, own_file, MayEdit, StopsAt, RoomStops, Refused, IsGroupRefusal, IsPlacedRefusal, Edited, CommitStops, OfGroup, HaveRoom, IsPlaced, IsWithinCost, IsOverLimit, LeavesUntouched, IsLaidOut, IsLaidOutAt, Changed, Step}
use Rattle.adf_model.specs.Runs.{EditsTold}
use Rattle.adf_model.proofs.Basics.{not_true, not_there, same_Some, same_Ok}
use Rattle.adf_model.proofs.Answering.LayoutLemmas.{live_slot, end_of_open}
use Rattle.adf_model.proofs.Following.OneFileLaws.{in_its_file, opened_now, entry_tests}
use Rattle.tree_laws.specs.Groups.{tree_left, group_need}
use Rattle.tree_laws.proofs.Groups.GroupsGrow.{group_is_done, done_grow, firsts_grow, placement_grows, need_grows}
use Rattle.tree_laws.proofs.Groups.GroupLoop.{group_stops, group_is_full}
use Rattle.tree_laws.proofs.Groups.FileLoop.{files_go_on, files_stop}
use Rattle.adf_follow.proofs.Entered.{passes_refused}
use Rattle.adf_follow.proofs.DoneAmong.{all_get, all_take, same_slot, file_after, DoneAmong, done_among}

pub laid_many : (opened : Open) (device : Device) (held : Option (List ℕ)) → IsSome held → IsLaidOut (Live opened) device held → length device.placement.parts ≡ length opened.tree.nodes
laid_many opened device None some laid = absurd (not_true some)
laid_many opened device (Some image) some laid = sym (length-map device.placement.parts is_some) ∙ ap (λ (bs : List Bool). length bs) laid.same_nodes ∙ length-map opened.tree.nodes is_some

-- the file that a group names is the one in which its edits stand
pub own_first : (number : ℕ) (es : List Edit) → AllByRecursion (StandsIn number) es → IfSome (own_file es) (λ own. number ≡ own)
own_first number [] all = tt
own_first number (Delete n ∷ es) all = sym all.0.0
own_first number (Rename n wanted ∷ es) all = sym all.0.0
own_first number (Move n to ∷ es) all = sym all.0.0
own_first number (Create n wanted label ∷ es) all = tt
own_first number (SetLabel n label ∷ es) all = tt
own_first number (SetDims n shape ∷ es) all = tt
own_first number (PutAll n given ∷ es) all = tt
own_first number (PutPart n selection given ∷ es) all = tt
own_first number (Link n wanted file path ∷ es) all = tt

module _ (files : Files) (before now : Devices) (edits : List Edit) (t : EditsTold files before edits) (tree : IsTree t.opened.tree) (laid : IsLaidOutAt (Live t.opened) (device_at before t.number))
    (others : OthersOnlyRead (Some t.number) before now) (others_placed : OthersStayPlaced (Some t.number) before now) where
  abbrev number : ℕ
  number = t.number

  abbrev opened : Open
  opened = t.opened

  abbrev old_device : Device
  old_device = device_at before number

  abbrev new_device : Device
  new_device = device_at now number

  -- ---- devices

  apart_of : (n : ℕ) → n ≢ number → ◌≢◌ {A = Option ℕ} (Some n) (Some number)
  apart_of n apart e = apart (same_Some n number e)

  -- a group that only reads its own device only reads all
  all_read : OnlyRead old_device new_device → OthersOnlyRead None before now
  all_read own = record {
    count = others.count;
    others = λ n apart. elim (eqb_tells n number) [
      | inl is ↦ subst (λ k. OnlyRead (device_at before k) (device_at now k)) (sym is.1) own
      | inr other ↦ others.others n (apart_of n other.1)
    ];
    counts = others.counts;
  }

  all_stay : new_device.placement ≡ old_device.placement → OthersStayPlaced None before now
  all_stay own = λ n apart. elim (eqb_tells n number) [
    | inl is ↦ subst (λ k. (device_at now k).placement ≡ (device_at before k).placement) (sym is.1) own
    | inr other ↦ others_placed n (apart_of n other.1)
  ]

  read_after : (es : List Edit) → (es ≡ [] → OnlyRead old_device new_device) → OthersOnlyRead (file_after number None es) before now
  read_after [] still = all_read (still refl)
  read_after (e ∷ es) still = others

  stay_after : (es : List Edit) → (es ≡ [] → new_device.placement ≡ old_device.placement) → OthersStayPlaced (file_after number None es) before now
  stay_after [] still = all_stay (still refl)
  stay_after (e ∷ es) still = others_placed

  -- ---- edits that are done

  whole : (es : List Edit) (work : Work) → AllByRecursion (StandsIn number) es → file_group opened.writable opened.tree es ≡ Ok work → DoneAmong number 0 (group_of files) opened es work
  whole es work all e = done_among number 0 (group_of files) opened es work t.live (inl refl) all e

  -- what holds of them holds of the group
  of_done : (es : List Edit) (work : Work) (d : DoneAmong number 0 (group_of files) opened es work) (Fact : ℕ → Open → Group → Type 0) → Fact number opened d.last → OfGroup files es Fact
  of_done es work d Fact fact = subst (λ r. IfOk r Each) (sym d.through) (by_file d.last.file (by_edits es d.file))
    where
      Each : Group → Type 0
      Each g = IfSome g.file (λ number. IfSome (open_at files number) (λ opened. Fact number opened g))

      by_edits : (es : List Edit) → d.last.file ≡ file_after number None es → (d.last.file ≡ None) ⊎ (d.last.file ≡ Some number)
      by_edits [] e = inl e
      by_edits (edit ∷ es) e = inr e

      here : IfSome (open_at files number) (λ opened. Fact number opened d.last)
      here = subst (λ (o : Option Open). IfSome o (λ opened. Fact number opened d.last)) (sym t.live) fact

      by_file : (file : Option ℕ) → (file ≡ None) ⊎ (file ≡ Some number) → IfSome file (λ number. IfSome (open_at files number) (λ opened. Fact number opened d.last))
      by_file None e = tt
      by_file (Some n) e = elim e [
        | inl none ↦ absurd (not_there n (sym none))
        | inr some ↦ subst (λ k. IfSome (open_at files k) (λ opened. Fact k opened d.last)) (sym (same_Some n number some)) here
      ]

  some_after : (es : List Edit) → es ≢ [] → file_after number None es ≡ Some number
  some_after [] some = absurd (some refl)
  some_after (e ∷ es) some = refl

  in_file : (es : List Edit) (work : Work) (d : DoneAmong number 0 (group_of files) opened es work) → (d.last.file ≡ None) ⊎ (d.last.file ≡ Some number)
  in_file [] work d = inl d.file
  in_file (e ∷ es) work d = inr d.file

  live_last : (es : List Edit) (work : Work) (d : DoneAmong number 0 (group_of files) opened es work) → open_at d.last.files number ≡ Some (record opened { tree = work.tree })
  live_last es work d = ap (λ (f : Files). open_at f number) d.left ∙ opened_now files number opened (record opened { tree = work.tree }) t.live

  -- the file may be edited
  may : opened.writable ≡ true → MayEdit files edits number
  may writable = (ap standing_of (live_slot (slot_at files number) opened t.live) ∙ ap (λ (b : Bool). if b then Standing.Editing else Standing.Reading) writable, own_first number edits t.stands)

  may_after : (work : Work) (d : DoneAmong number 0 (group_of files) opened edits work) → edits ≢ [] → MayEdit files edits number
  may_after work d some = may (elim d.may [ inl none ↦ absurd (some none) | inr writable ↦ writable ])

  -- ---- all edits are done

  nothing_placed : (limit : ℕ) (tree : Tree) (es : List Edit) (p q : Placement) → es ≡ [] → place_group limit tree p (done_by opened.writable tree es) ≡ Ok q → q ≡ p
  nothing_placed limit tree [] p q none e = sym (same_Ok e)
  nothing_placed limit tree (x ∷ es) p q none e = absurd (not_empty x es none)
    where
      not_empty : (x : Edit) (es : List Edit) → x ∷ es ≡ [] → ⊥
      not_empty x es e = cc

  of_some : (es : List Edit) (n : ℕ) → file_after number None es ≡ Some n → (es ≢ []) × (n ≡ number)
  of_some [] n e = absurd (not_there n e)
  of_some (x ∷ es) n e = (not_empty x es, sym (same_Some number n e))
    where
      not_empty : (x : Edit) (es : List Edit) → x ∷ es ≡ [] → ⊥
      not_empty x es e = cc

  done_step : (created : List NodeId) (slot : Slot) → FileEdited opened old_device edits created new_device slot → Step files before (Changed edits (Ok created)) now (with_slot files number slot)
  done_step created slot h = (edited, placed, untouched)
    where
      d : DoneAmong number 0 (group_of files) opened edits h.work
      d = whole edits h.work t.stands h.made

      edited : Edited files before now edits created (with_slot files number slot)
      edited = record {
        group = d.last;
        through = d.through;
        made = h.nodes ∙ sym d.made;
        trees = ap (with_slot files number) h.stands ∙ sym d.left;
        others = subst (λ (f : Option ℕ). OthersOnlyRead f before now) (sym d.file) (read_after edits h.still);
        placed = subst (λ (f : Option ℕ). OthersStayPlaced f before now) (sym d.file) (stay_after edits (λ none. nothing_placed opened.limit opened.tree edits old_device.placement new_device.placement none h.placed));
        own = λ n e. let so = of_some edits n (sym d.file ∙ e) in subst (MayEdit files edits) (sym so.1) (may_after h.work d so.0);
        told = λ n e held. let so = of_some edits n (sym d.file ∙ e) in
            subst (λ k. IsSome (device_at now k).held) (sym so.1) (h.written.told (subst (λ k. IsSome (device_at before k).held) so.1 held));
      }

      placed : OfGroup files edits (IsPlaced before now)
      placed = of_done edits h.work d (IsPlaced before now) (subst (λ (done : List (Edit × Tree)). (place_group opened.limit opened.tree old_device.placement done ≡ Ok new_device.placement) × (new_device.writes ≤ old_device.writes + group_cost opened.limit opened.tree old_device.placement done)) (sym d.done) (h.placed, h.written.cost))

      untouched : OfGroup files edits (LeavesUntouched before now)
      untouched = of_done edits h.work d (LeavesUntouched before now) (λ old new was is.
          subst (λ (done : List (Edit × Tree)). KeepsRest opened.limit opened.tree old_device.placement done new_device.placement old new × KeepsTail new_device.placement.heap.end old new) (sym d.done) (h.rest old new was is))

  -- ---- the commit failed

  broken_step : (at : ℕ) (slot : Slot) → FileBreaks opened old_device edits at new_device slot → Step files before (Changed edits (Err (record { at = at; error = WriteFault }))) now (with_slot files number slot)
  broken_step at slot h = (record { stop = stop; torn = torn }, (within, room), tt)
    where
      d : DoneAmong number 0 (group_of files) opened edits h.all.work
      d = whole edits h.all.work t.stands h.all.made

      stop : CommitStops files before now edits at (with_slot files number slot)
      stop = record {
        group = d.last;
        through = d.through;
        index = h.index;
        number = number;
        file = d.file ∙ some_after edits h.some;
        broken = ap (with_slot files number) h.stands;
        others = others;
        placed = others_placed;
        failed = h.failed;
        own = may_after h.all.work d h.some;
        was = opened;
        entered = t.live;
        opened = record opened { tree = h.all.work.tree };
        live = live_last edits h.all.work d;
      }

      torn : (old new : List ℕ) → old_device.held ≡ Some old → new_device.held ≡ Some new → TornGroup opened.limit opened.tree old_device.placement d.last.done h.all.work.tree old new
      torn old new was is = subst (λ (done : List (Edit × Tree)). TornGroup opened.limit opened.tree old_device.placement done h.all.work.tree old new) (sym d.done) (h.torn old new was is)

      within : OfGroup files edits (IsWithinCost before now)
      within = of_done edits h.all.work d (IsWithinCost before now) (subst (λ (done : List (Edit × Tree)). new_device.writes ≤ old_device.writes + group_cost opened.limit opened.tree old_device.placement done) (sym d.done) h.written.cost)

      room : OfGroup files edits (HaveRoom before)
      room = of_done edits h.all.work d (HaveRoom before) (h.all.placement, ap (place_group opened.limit opened.tree old_device.placement) d.done ∙ h.all.placed)

  -- ---- an edit is refused

  module _ (at : ℕ) (error : AdfError) (slot : Slot) (h : FileStops opened old_device edits at error new_device slot) where
    abbrev done : Work
    done = h.so_far.work

    first : DoneAmong number 0 (group_of files) opened (take at edits) done
    first = whole (take at edits) done (all_take (StandsIn number) edits at t.stands) h.so_far.made

    abbrev in_work : Open
    in_work = record opened { tree = done.tree }

    live : open_at first.last.files number ≡ Some in_work
    live = live_last (take at edits) done first

    stands : StandsIn number h.edit
    stands = all_get (StandsIn number) edits at h.edit t.stands h.reached

    refuses : {Cause : Type 0} → Cause → Refused Cause files before now (with_slot files number slot)
    refuses cause = record {
      cause = cause;
      files_stay = ap (with_slot files number) h.leaves.stands ∙ same_slot files number opened t.live;
      devices_stay = all_read h.leaves.device;
      placed = all_stay h.leaves.placed;
    }

    abbrev stops : StopsAt files edits at
    stops = record { group = first.last; before = first.through; edit = h.edit; reached = h.reached }

    placed_first : place_group opened.limit opened.tree old_device.placement first.last.done ≡ Ok h.so_far.placement
    placed_first = ap (place_group opened.limit opened.tree old_device.placement) first.done ∙ h.so_far.placed

    room_first : OfGroup files (take at edits) (HaveRoom before)
    room_first = of_done (take at edits) done first (HaveRoom before) (h.so_far.placement, placed_first)

    -- the group does what the file does
    step_is : group_step first.last h.edit ≡ and_then (file_step opened.writable done.tree h.edit) (λ tree. Ok (group_after first.last number in_work h.edit tree))
    step_is = in_its_file first.last number in_work h.edit live (in_file (take at edits) done first) stands (λ e. t.no_link at (group_stops opened.writable edits at h.edit opened.tree done LinkMissing h.reached h.so_far.made e))

    entered : first_refusal (file_tests_at_entry false done.tree (named_nodes h.edit)) ≡ None → first_refusal (tests_at_entry first.last.files (named_nodes h.edit)) ≡ None
    entered e = passes_refused (tests_at_entry first.last.files (named_nodes h.edit)) (sym (entry_tests first.last.files number in_work live (named_nodes h.edit) stands (Ok tt) ∙ by_dead (list_any (λ (node : NodeId). not (is_live done.tree node.serial)) (named_nodes h.edit)) e))
      where
        by_dead : (b : Bool) → (if b then Some NoSuchNode else None) ≡ None → ◌≡◌ {A = Result (Unit {0}) AdfError} (checked ((b, NoSuchNode) ∷ []) (Ok tt)) (Ok tt)
        by_dead true e = absurd (not_there NoSuchNode (sym e))
        by_dead false e = refl

    -- a take of it is refused
    module _ (asked end : ℕ) (after : Tree) (made : file_step opened.writable done.tree h.edit ≡ Ok after) (over : place_edit opened.limit done.tree after (placed_as h.edit) h.so_far.placement ≡ Err (record { asked = asked; end = end })) where
      through : edit_group files (take (at + 1) edits) ≡ Ok (group_after first.last number in_work h.edit after)
      through =
          let one : at + 1 ≡ suc at = omega arith in
          ap (λ k. edit_group files (take k edits)) one
          ∙ files_go_on files edits at h.edit first.last (group_after first.last number in_work h.edit after) h.reached first.through (step_is ∙ ap (λ r. and_then r (λ (tree : Tree). Ok (group_after first.last number in_work h.edit tree))) made)

      left : tree_left opened.tree first.last.done ≡ done.tree
      left = ap (tree_left opened.tree) first.done ∙ (group_is_done opened.writable opened.tree (take at edits) done h.so_far.made).0

      full : place_group opened.limit opened.tree old_device.placement (first.last.done ++ (h.edit, after) ∷ []) ≡ Err (record { asked = asked; end = end })
      full =
          placement_grows opened.limit opened.tree old_device.placement first.last.done (h.edit, after)
          ∙ ap (λ r. r >>= λ (q : Placement). place_edit opened.limit (tree_left opened.tree first.last.done) after (placed_as h.edit) q) placed_first
          ∙ ap (λ tree. place_edit opened.limit tree after (placed_as h.edit) h.so_far.placement) left
          ∙ over

      -- the edits up to it need more than is left
      needs : opened.limit * 4096 < recorded_end old_device + 1 + (first.last.needed + need done.tree h.edit)
      needs =
          let p = old_device.placement in
          let bound = (group_is_full opened.limit opened.writable edits at h.edit opened.tree p done after h.so_far.placement (record { asked = asked; end = end }) tree (laid_many opened old_device old_device.held t.told laid) h.reached h.so_far.made h.so_far.placed made over).1 in
          let more : group_need opened.tree (done_by opened.writable opened.tree (take (suc at) edits)) ≡ group_need opened.tree (done_by opened.writable opened.tree (take at edits)) + need done.tree h.edit =
          ap (λ es. group_need opened.tree (done_by opened.writable opened.tree es)) (firsts_grow edits at h.edit h.reached)
          ∙ ap (group_need opened.tree) (done_grow opened.writable opened.tree after (take at edits) h.edit done h.so_far.made made)
          ∙ need_grows opened.tree (done_by opened.writable opened.tree (take at edits)) (h.edit, after)
          ∙ ap (λ left. group_need opened.tree (done_by opened.writable opened.tree (take at edits)) + need left h.edit) (group_is_done opened.writable opened.tree (take at edits) done h.so_far.made).0 in
          let so_far = first.needed in
          let end : recorded_end old_device ≡ p.heap.end = end_of_open opened old_device t.told laid in
          omega (arith, bound, more, so_far, end)

      room_stops : RoomStops files before edits at
      room_stops = record {
        exists = slice_get_within edits at h.edit h.reached;
        group = group_after first.last number in_work h.edit after;
        through = through;
        number = number;
        file = refl;
        opened = opened;
        live = t.live;
        over = needs;
      }

      over_limit : OfGroup files (take (at + 1) edits) (IsOverLimit before asked end)
      over_limit = subst (λ r. IfOk r (λ (g : Group). IfSome g.file (λ number. IfSome (open_at files number) (λ opened. IsOverLimit before asked end number opened g)))) (sym through)
          (subst (λ (o : Option Open). IfSome o (λ opened. IsOverLimit before asked end number opened (group_after first.last number in_work h.edit after))) (sym t.live) full)

    as_many : (x : AdfError) → file_step opened.writable done.tree h.edit ≡ Err x → edit_group files edits ≡ Err (record { at = at; error = x })
    as_many x e = files_stop files edits at h.edit first.last x h.reached first.through (step_is ∙ ap (λ r. and_then r (λ (tree : Tree). Ok (group_after first.last number in_work h.edit tree))) e)

  refused_step : (at : ℕ) (error : AdfError) (slot : Slot) → IsFileGroupRefusal opened old_device edits at error new_device slot
      → IsGroupRefusal files before edits at error now (with_slot files number slot) × IsPlacedRefusal files before edits at error now
  refused_step at Memory slot h = (refuses at Memory slot h (stops at Memory slot h), room_first at Memory slot h)
  refused_step at ReadFault slot h = (
    refuses at ReadFault slot h (record {
      stop = stops at ReadFault slot h;
      entered = entered at ReadFault slot h h.refused;
      fault = (number, ap is_open (live_slot (slot_at files number) opened t.live), h.fault refl);
    }),
    room_first at ReadFault slot h,
  )
  refused_step at (Full asked end) slot h =
      let why = h.refused.1 in
      (refuses at (Full asked end) slot h (room_stops at (Full asked end) slot h asked end why.0 why.1 why.2), (room_first at (Full asked end) slot h, over_limit at (Full asked end) slot h asked end why.0 why.1 why.2))
  refused_step at WriteFault slot h = let step = broken_step at slot h in (step.0, step.1)
  refused_step at error slot h = (refuses at error slot h (as_many at error slot h error h.refused), room_first at error slot h)

  group_step_is : (result : Result (List NodeId) EditError) (slot : Slot) → IsFileGroup (Live opened) old_device edits result new_device slot → Step files before (Changed edits result) now (with_slot files number slot)
  group_step_is (Ok created) slot h = done_step created slot h
  group_step_is (Err refusal) slot h = let step = refused_step refusal.at refusal.error slot h in (step.0, step.1, tt)

pub group_is_step : (files : Files) (before now : Devices) (edits : List Edit) (result : Result (List NodeId) EditError) (slot : Slot) (told : EditsTold files before edits) → IsTree told.opened.tree → IsLaidOutAt (Live told.opened) (device_at before told.number)
    → OthersOnlyRead (Some told.number) before now → OthersStayPlaced (Some told.number) before now → IsFileGroup (Live told.opened) (device_at before told.number) edits result (device_at now told.number) slot
    → Step files before (Changed edits result) now (with_slot files told.number slot)
group_is_step files before now edits result slot told tree laid others placed h = group_step_is files before now edits told tree laid others placed result slot h
