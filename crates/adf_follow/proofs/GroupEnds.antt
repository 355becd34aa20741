-- A group under way begins, ends, breaks or stops.
use Rattle.std.proofs.Common.{◌≡◌, ◌≢◌, ◌⊎◌, inl, inr, ℕ, ◌<◌, ◌*◌, suc, ◌+◌, ◌≤◌, false, List, [], ◌∷◌, ◌++◌, length, take, refl, sym, ◌∙◌, ap, subst, arith}
use Rattle.std.specs.Prelude.{Option, Some, None, IsSome, IfSome, IfOk, slice_get, Ok, Err}
use Rattle.std.proofs.lemmas.Option.{slice_get_within}
use Rattle.adf_format.specs.Tree.{Tree, IsTree}
use Rattle.adf_format.specs.Placement.{Placement}
use Rattle.adf_format.specs.HeapRule.{place_edit, ◌>>=◌}
use Rattle.adf_model.specs.declared.error.AdfError.{AdfError}
use Rattle.adf_model.specs.declared.error.AdfError.TheVariants.{Memory, ReadFault, WriteFault, Full}
use Rattle.adf_model.specs.declared.tree.Edit.{Edit}
use Rattle.adf_model.specs.declared.tree.NodeId.{NodeId}
use Rattle.adf_model.specs.Tests.{and_then, first_refusal}
use Rattle.adf_model.specs.Edits.{IsReached, apply, named_nodes}
use Rattle.adf_model.specs.Need.{need}
use Rattle.adf_model.specs.Placing.{placed_as, place_group, group_cost}
use Rattle.adf_model.specs.Untouched.{KeepsRest, KeepsTail}
use Rattle.adf_model.specs.Torn.{TornGroup}
use Rattle.adf_model.specs.Slots.{Open, Slot, Files, Device, Devices, AreTrees, slot_at, is_gone, open_at, with_slot, device_at, recorded_end}
use Rattle.adf_model.specs.Slots.Slot.{Live}
use Rattle.adf_model.specs.Calls.{Group, group_of, group_after, group_step, edit_group, tests_at_entry, resolve}
use Rattle.adf_model.specs.Steps.{MayEdit, OnlyRead, OthersOnlyRead, OthersStayPlaced, WriteFailed, SomeOpenFault, IsLaidOut, IsLaidOutAt, AllLaidOut, StopsAt, RoomStops, Refused, IsGroupRefusal, IsPlacedRefusal, OfGroup, HaveRoom, IsPlaced, IsWithinCost, IsOverLimit, LeavesUntouched, Changed, Step}
use Rattle.adf_model.proofs.Basics.{not_true, not_there, same_Some, not_Err}
use Rattle.adf_model.proofs.Answering.LayoutLemmas.{live_slot, end_of_open}
use Rattle.adf_model.proofs.Following.OneFileLaws.{reached_as_many, in_its_file}
use Rattle.tree_laws.specs.Groups.{tree_left, group_need}
use Rattle.tree_laws.proofs.Groups.GroupsGrow.{step_reaches, are_done_grow, need_grows, placement_grows}
use Rattle.tree_laws.proofs.Groups.GroupLoop.{group_ends}
use Rattle.tree_laws.proofs.Groups.FileLoop.{files_go_on, files_stop}
use Rattle.tree_laws.proofs.Groups.FileGroups.{refused}
use Rattle.tree_laws.proofs.Groups.NeedsOfGroups.{group_needs_bound}
use Rattle.adf_follow.proofs.Entered.{Passed, refused_passes}
use Rattle.adf_follow.proofs.DoneEdit.{first_has, own_reached}
use Rattle.adf_follow.proofs.FileSteps.{laid_many}
use Rattle.adf_follow.specs.Looking.{IsToldIn}
use Rattle.adf_model.specs.OneFile.{StandsIn}
use Rattle.adf_follow.specs.Groups.{FileWork, at_rest, OnlyWaits, HasCome, IsUnderWay, IsCommitted, IsTornCommit, IsToldBy, IsFullAt, IsEditRefusal}

some_of : (o : Option Open) → IsSome o → (opened : Open) × (o ≡ Some opened)
some_of None some = absurd (not_true some)
some_of (Some opened) some = (opened, refl)

tree_of : (opened : Open) (device : Device) (held : Option (List ℕ)) → IsSome held → IsLaidOut (Live opened) device held → IsTree opened.tree
tree_of opened device None some laid = absurd (not_true some)
tree_of opened device (Some image) some laid = laid.is_tree

live_there : (slot : Slot) (opened : Open) → slot ≡ Live opened → is_gone slot ≡ false
live_there slot opened e = ap is_gone e

-- ---- it begins

pub begins : (files : Files) (before : Devices) (edits : List Edit) (work : ℕ → FileWork) → ((n : ℕ) → work n ≡ at_rest (device_at before n)) → IsUnderWay files before edits 0 None [] work files
begins files before edits work rest = record {
  group = group_of files;
  through = ap (edit_group files) (none_taken edits);
  trees = refl;
  file = refl;
  made = refl;
  come = λ n opened of here. record {
    was = opened;
    there = here;
    same = refl;
    steps = tt;
    needed = refl;
    waits = ap (λ (w : FileWork). w.done) (rest n);
    placed = ap Ok (sym (ap (λ (w : FileWork). w.placement) (rest n)));
    cost = (let none = ap (λ (w : FileWork). w.cost) (rest n) in omega (arith, none));
  };
}
  where
    none_taken : (edits : List Edit) → take 0 edits ≡ []
    none_taken [] = refl
    none_taken (edit ∷ edits) = refl

-- ---- devices that were read before they were written

module _ (before mid later : Devices) (n : ℕ) (read : OthersOnlyRead None before mid) (placed : OthersStayPlaced None before mid) (others : OthersOnlyRead (Some n) mid later) (others_placed : OthersStayPlaced (Some n) mid later) where
  not_none : (k : ℕ) → ◌≢◌ {A = Option ℕ} (Some k) None
  not_none k e = cc

  only_read : (a b c : Device) → OnlyRead a b → OnlyRead b c → OnlyRead a c
  only_read a b c one other = record {
    held = other.held ∙ one.held;
    lost = other.lost ∙ one.lost;
    writes = other.writes ∙ one.writes;
    reads = (let x = one.reads in let y = other.reads in omega (arith, x, y));
    faults = (let x = one.faults in let y = other.faults in omega (arith, x, y));
  }

  pub all_others : OthersOnlyRead (Some n) before later
  all_others = record {
    count = others.count ∙ read.count;
    others = λ k apart. only_read (device_at before k) (device_at mid k) (device_at later k) (read.others k (not_none k)) (others.others k apart);
    counts = λ k. let one = read.counts k in let other = others.counts k in record {
      faults = (let x = one.faults in let y = other.faults in omega (arith, x, y));
      lost = (let x = one.lost in let y = other.lost in omega (arith, x, y));
      reads = (let x = one.reads in let y = other.reads in omega (arith, x, y));
      writes = (let x = one.writes in let y = other.writes in omega (arith, x, y));
    };
  }

  pub all_placed : OthersStayPlaced (Some n) before later
  all_placed = λ k apart. others_placed k apart ∙ placed k (not_none k)

  same_held : (device_at mid n).held ≡ (device_at before n).held
  same_held = (read.others n (not_none n)).held

  same_place : (device_at mid n).placement ≡ (device_at before n).placement
  same_place = placed n (not_none n)

  same_writes : (device_at mid n).writes ≡ (device_at before n).writes
  same_writes = (read.others n (not_none n)).writes

  -- a write that failed then is one of the whole
  pub failed_after : WriteFailed (device_at mid n) (device_at later n) → WriteFailed (device_at before n) (device_at later n)
  failed_after failed =
      let counts = read.counts n in
      let lost_same = (read.others n (not_none n)).lost in
      let writes_same = same_writes in
      let a = failed.faults in let b = failed.lost in let c = failed.writes in
      record { faults = (let le = counts.faults in omega (arith, le, a)); lost = omega (arith, lost_same, b); writes = omega (arith, writes_same, c) }

-- ---- all edits are done

module _ (files now : Files) (before mid later : Devices) (edits : List Edit) (n : ℕ) (created : List NodeId) (work : ℕ → FileWork) (way : IsUnderWay files before edits (length edits) (Some n) created work now) (live : IsSome (open_at now n))
    (waits : OnlyWaits files before mid now) (own : MayEdit files edits n) (others : OthersOnlyRead (Some n) mid later) (others_placed : OthersStayPlaced (Some n) mid later) where
  abbrev old_device : Device
  old_device = device_at before n

  abbrev mid_device : Device
  mid_device = device_at mid n

  abbrev new_device : Device
  new_device = device_at later n

  opened : (opened : Open) × (open_at now n ≡ Some opened)
  opened = some_of (open_at now n) live

  come : HasCome files before way.group n opened.0 (work n)
  come = way.come n opened.0 (inr refl) opened.1

  through : edit_group files edits ≡ Ok way.group
  through = ap (edit_group files) (sym (group_ends edits (length edits) (le_itself (length edits)))) ∙ way.through
    where
      le_itself : (k : ℕ) → k ≤ k
      le_itself k = omega arith

  all_read : OthersOnlyRead (Some n) before later
  all_read = all_others before mid later n waits.devices waits.placed others others_placed

  all_stay : OthersStayPlaced (Some n) before later
  all_stay = all_placed before mid later n waits.devices waits.placed others others_placed

  held_then : mid_device.held ≡ old_device.held
  held_then = same_held before mid later n waits.devices waits.placed others others_placed

  place_then : mid_device.placement ≡ old_device.placement
  place_then = same_place before mid later n waits.devices waits.placed others others_placed

  writes_then : mid_device.writes ≡ old_device.writes
  writes_then = same_writes before mid later n waits.devices waits.placed others others_placed

  -- what holds of the file holds of the group
  of_file : (Fact : ℕ → Open → Group → Type 0) → Fact n come.was way.group → OfGroup files edits Fact
  of_file Fact fact = subst (λ r. IfOk r (λ (g : Group). IfSome g.file (λ number. IfSome (open_at files number) (λ opened. Fact number opened g)))) (sym through)
      (subst (λ (f : Option ℕ). IfSome f (λ number. IfSome (open_at files number) (λ opened. Fact number opened way.group))) (sym way.file)
      (subst (λ (o : Option Open). IfSome o (λ opened. Fact n opened way.group)) (sym come.there) fact))

  within : new_device.writes ≤ mid_device.writes + (work n).cost → new_device.writes ≤ old_device.writes + group_cost come.was.limit come.was.tree old_device.placement way.group.done
  within cost = let all = come.cost in let same = writes_then in omega (arith, cost, all, same)

  ends_here : (IsSome mid_device.held → IsSome new_device.held) → IsCommitted come.was (work n) mid_device new_device → Step files before (Changed edits (Ok created)) later now
  ends_here told h = (
    record {
      group = way.group;
      through = through;
      made = way.made;
      trees = way.trees;
      others = subst (λ (f : Option ℕ). OthersOnlyRead f before later) (sym way.file) all_read;
      placed = subst (λ (f : Option ℕ). OthersStayPlaced f before later) (sym way.file) all_stay;
      own = λ k e. subst (MayEdit files edits) (same_Some n k (sym way.file ∙ e)) own;
      told = λ k e held. let is = same_Some n k (sym way.file ∙ e) in
          subst (λ m. IsSome (device_at later m).held) is (told (subst IsSome (sym held_then) (subst (λ m. IsSome (device_at before m).held) (sym is) held)));
    },
    placed,
    untouched,
  )
    where
      placed : OfGroup files edits (IsPlaced before later)
      placed = of_file (IsPlaced before later) (come.placed ∙ ap Ok (sym h.placed), within h.cost)

      untouched : OfGroup files edits (LeavesUntouched before later)
      untouched = of_file (LeavesUntouched before later) (λ old new was is.
          subst (λ (q : Placement). KeepsRest come.was.limit come.was.tree old_device.placement way.group.done q old new × KeepsTail q.heap.end old new) (sym h.placed)
          (subst (λ (done : List (Edit × Tree)). KeepsRest come.was.limit come.was.tree old_device.placement done (work n).placement old new × KeepsTail (work n).placement.heap.end old new) come.waits
          (subst (λ (p : Placement). KeepsRest come.was.limit come.was.tree p (work n).done (work n).placement old new × KeepsTail (work n).placement.heap.end old new) place_then (h.rest old new (held_then ∙ was) is))))

  breaks_here : WriteFailed mid_device new_device → IsTornCommit come.was opened.0.tree (work n) mid_device new_device → Step files before (Changed edits (Err (record { at = length edits; error = WriteFault }))) later (with_slot files n Slot.Broken)
  breaks_here failed h = (
    record {
      stop = record {
        group = way.group;
        through = through;
        index = refl;
        number = n;
        file = way.file;
        broken = refl;
        others = all_read;
        placed = all_stay;
        failed = failed_after before mid later n waits.devices waits.placed others others_placed failed;
        own = own;
        was = come.was;
        entered = come.there;
        opened = opened.0;
        live = ap (λ (f : Files). open_at f n) (sym way.trees) ∙ opened.1;
      };
      torn = λ old new was is.
          subst (λ (done : List (Edit × Tree)). TornGroup come.was.limit come.was.tree old_device.placement done opened.0.tree old new) come.waits
          (subst (λ (p : Placement). TornGroup come.was.limit come.was.tree p (work n).done opened.0.tree old new) place_then (h.torn old new (held_then ∙ was) is));
    },
    (of_file (IsWithinCost before later) (within h.cost), of_file (HaveRoom before) ((work n).placement, come.placed)),
    tt,
  )

pub ends : (files now : Files) (before mid later : Devices) (edits : List Edit) (n : ℕ) (created : List NodeId) (work : ℕ → FileWork) → IsUnderWay files before edits (length edits) (Some n) created work now → IsSome (open_at now n) → OnlyWaits files before mid now → MayEdit files edits n
    → OthersOnlyRead (Some n) mid later → OthersStayPlaced (Some n) mid later → (IsSome (device_at mid n).held → IsSome (device_at later n).held) → ((was : Open) → open_at files n ≡ Some was → IsCommitted was (work n) (device_at mid n) (device_at later n))
    → Step files before (Changed edits (Ok created)) later now
ends files now before mid later edits n created work way live waits own others placed told h =
    let was = come files now before mid later edits n created work way live waits own others placed in
    ends_here files now before mid later edits n created work way live waits own others placed told (h was.was was.there)

pub breaks : (files now : Files) (before mid later : Devices) (edits : List Edit) (n : ℕ) (created : List NodeId) (work : ℕ → FileWork) → IsUnderWay files before edits (length edits) (Some n) created work now → IsSome (open_at now n) → OnlyWaits files before mid now → MayEdit files edits n
    → OthersOnlyRead (Some n) mid later → OthersStayPlaced (Some n) mid later → WriteFailed (device_at mid n) (device_at later n) → ((was opened : Open) → open_at files n ≡ Some was → open_at now n ≡ Some opened → IsTornCommit was opened.tree (work n) (device_at mid n) (device_at later n))
    → Step files before (Changed edits (Err (record { at = length edits; error = WriteFault }))) later (with_slot files n Slot.Broken)
breaks files now before mid later edits n created work way live waits own others placed failed h =
    let was = come files now before mid later edits n created work way live waits own others placed in
    let here = opened files now before mid later edits n created work way live waits own others placed in
    breaks_here files now before mid later edits n created work way live waits own others placed failed (h was.was here.0 was.there here.1)

-- ---- an edit is refused

module _ (files now : Files) (before mid : Devices) (edits : List Edit) (i : ℕ) (edit : Edit) (number : Option ℕ) (created : List NodeId) (work : ℕ → FileWork) (way : IsUnderWay files before edits i number created work now) (live : (n : ℕ) → number ≡ Some n → IsSome (open_at now n))
    (waits : OnlyWaits files before mid now) (told : IsToldBy now mid edit) (laid : AllLaidOut files before) (there : slice_get edits i ≡ Some edit) where
  refuses : {Cause : Type 0} → Cause → Refused Cause files before mid files
  refuses cause = record { cause = cause; files_stay = refl; devices_stay = waits.devices; placed = waits.placed }

  abbrev stops_at : StopsAt files edits i
  stops_at = record { group = way.group; before = way.through; edit = edit; reached = there }

  -- the edits before it have room
  room : OfGroup files (take i edits) (HaveRoom before)
  room = subst (λ r. IfOk r (λ (g : Group). IfSome g.file (λ number. IfSome (open_at files number) (λ opened. HaveRoom before number opened g)))) (sym way.through) (by_file way.group.file refl)
    where
      by_file : (file : Option ℕ) → way.group.file ≡ file → IfSome file (λ number. IfSome (open_at files number) (λ opened. HaveRoom before number opened way.group))
      by_file None e = tt
      by_file (Some n) e =
          let own : number ≡ Some n = sym way.file ∙ e in
          let here = some_of (open_at now n) (live n own) in
          let come = way.come n here.0 (inr own) here.1 in
          subst (λ (o : Option Open). IfSome o (λ opened. HaveRoom before n opened way.group)) (sym come.there) ((work n).placement, come.placed)

  -- a take of it is refused
  module _ (asked end : ℕ) (full : IsFullAt now work number edit asked end) where
    abbrev e : Edit × Tree
    e = (full.reached, full.tree)

    abbrev next : Group
    next = group_after way.group full.number full.opened full.reached full.tree

    come_here : HasCome files before way.group full.number full.opened (work full.number)
    come_here = way.come full.number full.opened full.own full.here

    own_group : (way.group.file ≡ None) ⊎ (way.group.file ≡ Some full.number)
    own_group = elim full.own [ inl h ↦ inl (way.file ∙ h) | inr h ↦ inr (way.file ∙ h) ]

    entry : Passed (tests_at_entry now (named_nodes edit))
    entry = refused_passes (tests_at_entry now (named_nodes edit)) full.entered

    stepped : group_step way.group edit ≡ Ok next
    stepped = elim told [
      | inl all ↦ reached_as_many way.group full.number full.opened edit full.reached (subst AreTrees way.trees all.1) (subst (λ (f : Files). first_refusal (tests_at_entry f (named_nodes edit)) ≡ None) way.trees full.entered)
          (subst (λ (f : Files). resolve f edit ≡ Ok full.reached) way.trees full.leads) (subst (λ (f : Files). open_at f full.number ≡ Some full.opened) way.trees full.here) own_group full.stands
      | inr one ↦ ap (group_step way.group) (sym (own_reached now mid edit entry one full.reached full.leads))
          ∙ in_its_file way.group full.number full.opened full.reached (subst (λ (f : Files). open_at f full.number ≡ Some full.opened) way.trees full.here) own_group full.stands (λ e. not_Err (sym e ∙ full.made))
    ]
        ∙ ap (λ r. and_then r (λ (t : Tree). Ok (group_after way.group full.number full.opened full.reached t))) full.made

    abbrev device : Device
    device = device_at before full.number

    -- the file tells, and holds a layout of its tree
    told_now : IsToldIn now mid full.number
    told_now = elim told [
      | inl all ↦ all.0 full.number
      | inr one ↦ subst (IsToldIn now mid) (sym (first_has (λ (n : NodeId). n.file ≡ one.number) edit one.stands)
          ∙ first_has (λ (n : NodeId). n.file ≡ full.number) edit (subst (StandsIn full.number) (own_reached now mid edit entry one full.reached full.leads) full.stands)) one.told
    ]

    held : IsSome device.held
    held = subst IsSome (waits.devices.others full.number (λ e. not_there full.number (sym e))).held (told_now (live_there (slot_at now full.number) full.opened (live_slot (slot_at now full.number) full.opened full.here)))

    through_it : edit_group files (take (i + 1) edits) ≡ Ok next
    through_it = let one : i + 1 ≡ suc i = omega arith in ap (λ k. edit_group files (take k edits)) one ∙ files_go_on files edits i edit way.group next there way.through stepped

    over : place_group come_here.was.limit come_here.was.tree (device_at before full.number).placement (way.group.done ++ e ∷ []) ≡ Err (record { asked = asked; end = end })
    over =
        let limit : full.opened.limit ≡ come_here.was.limit = ap (λ (o : Open). o.limit) come_here.same in
        let left : full.opened.tree ≡ tree_left come_here.was.tree way.group.done = ap (λ (o : Open). o.tree) come_here.same in
        placement_grows come_here.was.limit come_here.was.tree (device_at before full.number).placement way.group.done e
        ∙ ap (λ r. r >>= λ (q : Placement). place_edit come_here.was.limit (tree_left come_here.was.tree way.group.done) full.tree (placed_as full.reached) q) come_here.placed
        ∙ ap (λ l. place_edit l (tree_left come_here.was.tree way.group.done) full.tree (placed_as full.reached) (work full.number).placement) (sym limit)
        ∙ ap (λ t. place_edit full.opened.limit t full.tree (placed_as full.reached) (work full.number).placement) (sym left)
        ∙ full.over

    laid_here : IsLaidOut (Live come_here.was) device device.held
    laid_here = subst (λ (slot : Slot). IsLaidOutAt slot device) (live_slot (slot_at files full.number) come_here.was come_here.there) (laid full.number)

    -- the edits up to it need more than is left
    needs : come_here.was.limit * 4096 < recorded_end device + 1 + (way.group.needed + need full.opened.tree full.reached)
    needs =
        let tree = come_here.was.tree in
        let left : full.opened.tree ≡ tree_left tree way.group.done = ap (λ (o : Open). o.tree) come_here.same in
        let reaches = step_reaches full.opened.writable full.opened.tree full.tree full.reached full.made in
        let steps = are_done_grow tree way.group.done e come_here.steps (subst (λ t. IsReached t full.reached) left reaches.0) (subst (λ t. apply t full.reached ≡ Ok full.tree) left reaches.1) in
        let bound = refused come_here.was.limit device.placement.heap.end (group_need tree (way.group.done ++ e ∷ [])) (record { asked = asked; end = end }) (place_group come_here.was.limit tree device.placement (way.group.done ++ e ∷ [])) over
        (group_needs_bound come_here.was.limit tree device.placement (way.group.done ++ e ∷ []) (tree_of come_here.was device device.held held laid_here) (laid_many come_here.was device device.held held laid_here) steps) in
        let more = need_grows tree way.group.done e in
        let this = ap (λ t. need t full.reached) left in
        let so_far = come_here.needed in
        let end_is = end_of_open come_here.was device held laid_here in
        omega (arith, bound, more, this, so_far, end_is)

    room_stops : RoomStops files before edits i
    room_stops = record {
      exists = slice_get_within edits i edit there;
      group = group_after way.group full.number full.opened full.reached full.tree;
      through = through_it;
      number = full.number;
      file = refl;
      opened = come_here.was;
      live = come_here.there;
      over = needs;
    }

    over_limit : OfGroup files (take (i + 1) edits) (IsOverLimit before asked end)
    over_limit = subst (λ r. IfOk r (λ (g : Group). IfSome g.file (λ number. IfSome (open_at files number) (λ opened. IsOverLimit before asked end number opened g)))) (sym through_it)
        (subst (λ (o : Option Open). IfSome o (λ opened. IsOverLimit before asked end full.number opened next)) (sym come_here.there) over)

  stops_here : (error : AdfError) → IsEditRefusal now work number edit error → error ≢ WriteFault → (error ≡ ReadFault → SomeOpenFault files before mid)
      → IsGroupRefusal files before edits i error mid files × IsPlacedRefusal files before edits i error mid
  stops_here Memory h other fault = (refuses stops_at, room)
  stops_here ReadFault h other fault = (refuses (record { stop = stops_at; entered = subst (λ (f : Files). first_refusal (tests_at_entry f (named_nodes edit)) ≡ None) way.trees h; fault = fault refl }), room)
  stops_here (Full asked end) h other fault = (refuses (room_stops asked end h), (room, over_limit asked end h))
  stops_here WriteFault h other fault = absurd (other refl)
  stops_here error h other fault = (refuses (files_stop files edits i edit way.group error there way.through (h way.group (sym way.trees) way.file)), room)

pub stops : (files now : Files) (before mid : Devices) (edits : List Edit) (i : ℕ) (edit : Edit) (number : Option ℕ) (created : List NodeId) (work : ℕ → FileWork) (error : AdfError) → IsUnderWay files before edits i number created work now → ((n : ℕ) → number ≡ Some n → IsSome (open_at now n))
    → OnlyWaits files before mid now → IsToldBy now mid edit → AllLaidOut files before → slice_get edits i ≡ Some edit → IsEditRefusal now work number edit error → error ≢ WriteFault → (error ≡ ReadFault → SomeOpenFault files before mid)
    → Step files before (Changed edits (Err (record { at = i; error = error }))) mid files
stops files now before mid edits i edit number created work error way live waits told laid there h other fault =
    let step = stops_here files now before mid edits i edit number created work way live waits told laid there error h other fault in
    (step.0, step.1, tt)
