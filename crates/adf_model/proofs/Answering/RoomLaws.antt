-- Want of room is answered exactly where the heap rule refuses a take, and shuts out every later outcome.
use Rattle.std.proofs.Common.{◌≡◌, ℕ, zero, suc, ◌+◌, ◌*◌, ◌<◌, ◌≤◌, not, List, [], ◌∷◌, ◌++◌, length, take, refl, sym, ◌∙◌, ap, subst, arith, ◌⊎◌, inl, inr, append_assoc, append-nil, zero-add}
use Rattle.std.specs.Prelude.{Option, Some, None, IfSome, IfOk, ◌==◌, Result, Ok, Err, unwrap_or}
use Rattle.std.specs.List.{list_any}
use Rattle.adf_format.specs.Tree.{Tree}
use Rattle.adf_format.specs.Placement.{Placement}
use Rattle.adf_format.specs.HeapRule.{LimitReached, place_edit, ◌>>=◌}
use Rattle.adf_model.specs.declared.error.AdfError.{AdfError}
use Rattle.adf_model.specs.declared.error.AdfError.TheVariants.{Memory, ReadFault, WriteFault, Full}
use Rattle.adf_model.specs.declared.error.EditError.{EditError}
use Rattle.adf_model.specs.declared.tree.Edit.{Edit}
use Rattle.adf_model.specs.declared.tree.NodeId.{NodeId}
use Rattle.adf_model.specs.declared.tree.Query.{Query}
use Rattle.adf_model.specs.declared.tree.Reply.{Reply}
use Rattle.adf_model.specs.Edits.{apply, named_nodes, at_edit}
use Rattle.adf_model.specs.Placing.{placed_as, place_group}
use Rattle.adf_model.specs.Slots.{Open, Files, Devices, open_at, device_at, recorded_end}
use Rattle.adf_model.specs.Calls.{Group, tests_at_entry, resolve, group_of, file_of, file_of_group, group_after, edit_reached, group_step, group_from, edit_group}
use Rattle.adf_model.specs.Answers.{answer}
use Rattle.adf_model.specs.Steps.{IsAnswer, HasReadCause, IsGroupRefusal, IsEdit, OfGroup, HaveRoom, IsPlaced, IsOverLimit, IsPlacedRefusal, IsPlacedGroup, IsModelEdit, NoFault, IsWithinLimit}
use Rattle.adf_model.proofs.Basics.{same_Ok, not_Err, passed, found, done}
use Rattle.adf_model.proofs.Keeping.GroupKeeps.{one_step}

-- ---- what a group has done, it has done in every longer group

-- a group that goes on keeps its file and the edits done
record GoesOn (group last : Group) : Type 0 where
  more : List (Edit × Tree)
  longer : last.done ≡ group.done ++ more
  same_file : (number : ℕ) → group.file ≡ Some number → last.file ≡ Some number

goes_on_step : (group next : Group) (edit : Edit) → group_step group edit ≡ Ok next → GoesOn group next
goes_on_step group next edit e =
    let entry = passed (tests_at_entry group.files (named_nodes edit)) _ next e in
    let reached = done (resolve group.files edit) (λ reached. edit_reached group reached) next entry.1 in
    let number = file_of_group group reached.0 in
    let at = found (open_at group.files number) AdfError.NotOpen _ next reached.2 in
    let tests = passed ((list_any (λ (node : NodeId). not (node.file == number)) (named_nodes reached.0), AdfError.OtherFile) ∷ (not at.0.writable, AdfError.ReadOnly) ∷ []) _ next at.2 in
    let tree = done (apply at.0.tree reached.0) (λ tree. Ok (group_after group number at.0 reached.0 tree)) next tests.1 in
    subst (GoesOn group) (same_Ok tree.2) (record { more = (reached.0, tree.0) ∷ []; longer = refl; same_file = λ n f. ap (λ o. Some (unwrap_or o (file_of (named_nodes reached.0)))) f })

goes_on_trans : (a b c : Group) → GoesOn a b → GoesOn b c → GoesOn a c
goes_on_trans a b c p q = record {
  more = p.more ++ q.more;
  longer = q.longer ∙ ap (λ xs. xs ++ q.more) p.longer ∙ append_assoc a.done p.more q.more;
  same_file = λ n f. q.same_file n (p.same_file n f);
}

goes_on_self : (group : Group) → GoesOn group group
goes_on_self group = record { more = []; longer = sym (append-nil group.done); same_file = λ n f. f }

goes_on_from : (at : ℕ) (group last : Group) (edits : List Edit) → group_from at group edits ≡ Ok last → GoesOn group last
goes_on_from at group last [] e = subst (GoesOn group) (same_Ok e) (goes_on_self group)
goes_on_from at group last (edit ∷ edits) e =
    let s = one_step (group_step group edit) at (λ next. group_from (suc at) next edits) last e in
    goes_on_trans group s.0 last (goes_on_step group s.0 edit s.1) (goes_on_from (suc at) s.0 last edits s.2)

-- the first edits of a group that is done are done, and the group goes on from them
first_go_on : (at : ℕ) (group middle last : Group) (count : ℕ) (edits : List Edit) → group_from at group (take count edits) ≡ Ok middle → group_from at group edits ≡ Ok last → GoesOn middle last
first_go_on at group middle last zero edits e f = subst (λ g. GoesOn g last) (same_Ok e) (goes_on_from at group last edits f)
first_go_on at group middle last (suc count) [] e f = subst (λ g. GoesOn g last) (same_Ok e) (goes_on_from at group last [] f)
first_go_on at group middle last (suc count) (edit ∷ edits) e f =
    let s = one_step (group_step group edit) at (λ next. group_from (suc at) next (take count edits)) middle e in
    let t = one_step (group_step group edit) at (λ next. group_from (suc at) next edits) last f in
    let same : t.0 ≡ s.0 = same_Ok (sym t.1 ∙ s.1) in
    first_go_on (suc at) s.0 middle last count edits s.2 (subst (λ g. group_from (suc at) g edits ≡ Ok last) same t.2)

-- ---- what the heap rule refuses, it refuses for every longer group

refused_longer : (limit : ℕ) (tree : Tree) (p : Placement) (some more : List (Edit × Tree)) (full : LimitReached) → place_group limit tree p some ≡ Err full → place_group limit tree p (some ++ more) ≡ Err full
refused_longer limit tree p [] more full e = absurd (not_Err (sym e))
refused_longer limit tree p (e ∷ some) more full h = by_first (place_edit limit tree e.1 (placed_as e.0) p) h (λ q. refused_longer limit e.1 q some more full)
  where
    by_first : (r : Result Placement LimitReached) → (r >>= λ (q : Placement). place_group limit e.1 q some) ≡ Err full → ((q : Placement) → place_group limit e.1 q some ≡ Err full → place_group limit e.1 q (some ++ more) ≡ Err full) → (r >>= λ (q : Placement). place_group limit e.1 q (some ++ more)) ≡ Err full
    by_first (Ok q) h later = later q h
    by_first (Err other) h later = h

-- ---- what comes before a refused edit is done

shorter : (count at : ℕ) (edits : List Edit) → count ≤ at → take count (take at edits) ≡ take count edits
shorter zero at edits h = refl
shorter (suc count) zero edits h = absurd (omega arith)
shorter (suc count) (suc at) [] h = refl
shorter (suc count) (suc at) (edit ∷ edits) h = ap (λ es. edit ∷ es) (shorter count at edits (omega (arith, h)))

first_done : (at : ℕ) (group last : Group) (count : ℕ) (edits : List Edit) → group_from at group edits ≡ Ok last → (middle : Group) × (group_from at group (take count edits) ≡ Ok middle)
first_done at group last zero edits e = (group, refl)
first_done at group last (suc count) [] e = (group, refl)
first_done at group last (suc count) (edit ∷ edits) e =
    let s = one_step (group_step group edit) at (λ next. group_from (suc at) next edits) last e in
    let rest = first_done (suc at) s.0 last count edits s.2 in
    (rest.0, ap (λ r. at_edit at r (λ next. group_from (suc at) next (take count edits))) s.1 ∙ rest.1)

done_before : (at : ℕ) (group : Group) (edits : List Edit) (refusal : EditError) (count : ℕ) → group_from at group edits ≡ Err refusal → refusal.at ≡ at + count → (middle : Group) × (group_from at group (take count edits) ≡ Ok middle)
done_before at group edits refusal zero e i = (group, refl)
done_before at group [] refusal (suc count) e i = absurd (not_Err (sym e))
done_before at group (edit ∷ edits) refusal (suc count) e i = by_step (group_step group edit) refl e (λ next. done_before (suc at) next edits refusal count)
  where
    here : (error : AdfError) → ◌≡◌ {A = Result Group EditError} (Err (record { at = at; error = error })) (Err refusal) → ⊥
    here error e = let same = index error e in omega (arith, same, i)
      where
        index : (error : AdfError) → ◌≡◌ {A = Result Group EditError} (Err (record { at = at; error = error })) (Err refusal) → at ≡ refusal.at
        index error e = ap (λ r. index_of r) e
          where
            index_of : Result Group EditError → ℕ
            index_of (Ok g) = 0
            index_of (Err x) = x.at

    by_step : (r : Result Group AdfError) → group_step group edit ≡ r → at_edit at r (λ next. group_from (suc at) next edits) ≡ Err refusal
        → ((next : Group) → group_from (suc at) next edits ≡ Err refusal → refusal.at ≡ suc at + count → (middle : Group) × (group_from (suc at) next (take count edits) ≡ Ok middle))
        → (middle : Group) × (at_edit at (group_step group edit) (λ next. group_from (suc at) next (take count edits)) ≡ Ok middle)
    by_step (Ok next) s e further = let m = further next e (omega (arith, i)) in (m.0, ap (λ r. at_edit at r (λ next. group_from (suc at) next (take count edits))) s ∙ m.1)
    by_step (Err error) s e further = absurd (here error e)

module _ (files : Files) (before : Devices) (edits : List Edit) (count number : ℕ) (group : Group) (opened : Open) (full : LimitReached)
    (through : edit_group files (take count edits) ≡ Ok group) (file : group.file ≡ Some number) (live : open_at files number ≡ Some opened)
    (over : place_group opened.limit opened.tree (device_at before number).placement group.done ≡ Err full) where
  -- a longer group has no room
  longer_over : (last : Group) → GoesOn group last → place_group opened.limit opened.tree (device_at before number).placement last.done ≡ Err full
  longer_over last on = ap (place_group opened.limit opened.tree (device_at before number).placement) on.longer ∙ refused_longer opened.limit opened.tree (device_at before number).placement group.done on.more full over

  no_room_for : (last : Group) → GoesOn group last → (longer : List Edit) → edit_group files longer ≡ Ok last → OfGroup files longer (HaveRoom before) → ⊥
  no_room_for last on longer e room = there (subst (λ r. IfOk r Fact) e room)
    where
      Fact : Group → Type 0
      Fact g = IfSome g.file (λ n. IfSome (open_at files n) (λ o. HaveRoom before n o g))

      there : Fact last → ⊥
      there h =
          let at_file = subst (λ o. IfSome o (λ n. IfSome (open_at files n) (λ o. HaveRoom before n o last))) (on.same_file number file) h in
          let at_open = subst (λ o. IfSome o (λ o. HaveRoom before number o last)) live at_file in
          not_Err (sym (longer_over last on) ∙ at_open.1)

  -- such a group is never done
  pub not_done : (now : Devices) (after : Files) (created : List NodeId) → IsEdit files before edits (Ok created) now after → IsPlacedGroup files before edits (Ok created) now → ⊥
  not_done now after created h placed = no_room_for h.group (first_go_on 0 (group_of files) group h.group count edits through h.through) edits h.through (each (edit_group files edits) placed)
    where
      by_open : (n : ℕ) (g : Group) (o : Option Open) → IfSome o (λ opened. IsPlaced before now n opened g) → IfSome o (λ opened. HaveRoom before n opened g)
      by_open n g None h = tt
      by_open n g (Some opened) h = ((device_at now n).placement, h.0)

      by_file : (g : Group) (f : Option ℕ) → IfSome f (λ n. IfSome (open_at files n) (λ opened. IsPlaced before now n opened g)) → IfSome f (λ n. IfSome (open_at files n) (λ opened. HaveRoom before n opened g))
      by_file g None h = tt
      by_file g (Some n) h = by_open n g (open_at files n) h

      each : (r : Result Group EditError) → IfOk r (λ g. IfSome g.file (λ n. IfSome (open_at files n) (λ opened. IsPlaced before now n opened g))) → IfOk r (λ g. IfSome g.file (λ n. IfSome (open_at files n) (λ opened. HaveRoom before n opened g)))
      each (Ok g) h = by_file g g.file h
      each (Err e) h = tt

  -- and never written
  pub not_written : (now : Devices) (after : Files) (at : ℕ) → IsEdit files before edits (Err (record { at = at; error = WriteFault })) now after → IsPlacedGroup files before edits (Err (record { at = at; error = WriteFault })) now → ⊥
  not_written now after at h placed = no_room_for h.stop.group (first_go_on 0 (group_of files) group h.stop.group count edits through h.stop.through) edits h.stop.through placed.1

  -- nor refused at a later edit
  pub not_refused_later : (now : Devices) (after : Files) (at : ℕ) (error : AdfError) → count ≤ at → IsEdit files before edits (Err (record { at = at; error = error })) now after → IsPlacedGroup files before edits (Err (record { at = at; error = error })) now → ⊥
  not_refused_later now after at error later h placed = by_error error h placed
    where
      stops : (middle : Group) → edit_group files (take at edits) ≡ Ok middle → OfGroup files (take at edits) (HaveRoom before) → ⊥
      stops middle e room = no_room_for middle (first_go_on 0 (group_of files) group middle count (take at edits) (ap (edit_group files) (shorter count at edits later) ∙ through) e) (take at edits) e room

      by_error : (error : AdfError) → IsGroupRefusal files before edits at error now after → IsPlacedRefusal files before edits at error now → ⊥
      by_error Memory h placed = stops h.cause.group h.cause.before placed
      by_error ReadFault h placed = stops h.cause.stop.group h.cause.stop.before placed
      by_error WriteFault h placed = not_written now after at h placed
      by_error (Full asked end) h placed = let m = first_done 0 (group_of files) h.cause.group at (take (at + 1) edits) h.cause.through in stops m.0 (ap (edit_group files) (sym (shorter at (at + 1) edits (omega arith))) ∙ m.1) placed.0
      by_error error h placed = let m = done_before 0 (group_of files) edits (record { at = at; error = error }) at h.cause (sym (zero-add at)) in stops m.0 m.1 placed

-- ---- want of room is exact

-- it stands at an edit of the group, where the needs exceed the limit and the heap rule refuses a take, with its two numbers
pub full_is_exact : (files after : Files) (before now : Devices) (edits : List Edit) (at asked end : ℕ)
    → IsEdit files before edits (Err (record { at = at; error = Full asked end })) now after → IsPlacedGroup files before edits (Err (record { at = at; error = Full asked end })) now
    → (at < length edits) × ((group : Group) × (number : ℕ) × (opened : Open) × (edit_group files (take (at + 1) edits) ≡ Ok group) × (group.file ≡ Some number) × (open_at files number ≡ Some opened)
    × (opened.limit * 4096 < recorded_end (device_at before number) + 1 + group.needed)
    × (place_group opened.limit opened.tree (device_at before number).placement group.done ≡ Err (record { asked = asked; end = end })))
full_is_exact files after before now edits at asked end h placed =
    let stop = h.cause in
    let at_group = subst (λ r. IfOk r (λ g. IfSome g.file (λ n. IfSome (open_at files n) (λ o. IsOverLimit before asked end n o g)))) stop.through placed.1 in
    let at_file = subst (λ f. IfSome f (λ n. IfSome (open_at files n) (λ o. IsOverLimit before asked end n o stop.group))) stop.file at_group in
    let at_open = subst (λ o. IfSome o (λ o. IsOverLimit before asked end stop.number o stop.group)) stop.live at_file in
    (stop.exists, (stop.group, stop.number, stop.opened, stop.through, stop.file, stop.live, stop.over, at_open))

-- ---- where no device fails and there is room, the trees alone decide

refusal_completes : (files after : Files) (before now : Devices) (edits : List Edit) (at : ℕ) (error : AdfError) → NoFault before now → IsWithinLimit files before edits
    → IsGroupRefusal files before edits at error now after → (error ≡ Memory) ⊎ (edit_group files edits ≡ Err (record { at = at; error = error }))
refusal_completes files after before now edits at Memory quiet room h = inl refl
refusal_completes files after before now edits at ReadFault quiet room h = absurd (quiet h.cause.fault.0 h.cause.fault.2)
refusal_completes files after before now edits at WriteFault quiet room h = absurd (quiet h.stop.number h.stop.failed.faults)
refusal_completes files after before now edits at (Full asked end) quiet room h = absurd (not_over (room (at + 1) h.cause.number h.cause.group h.cause.opened h.cause.through h.cause.file h.cause.live) h.cause.over)
  where
    not_over : recorded_end (device_at before h.cause.number) + 1 + h.cause.group.needed ≤ h.cause.opened.limit * 4096 → h.cause.opened.limit * 4096 < recorded_end (device_at before h.cause.number) + 1 + h.cause.group.needed → ⊥
    not_over le lt = omega (arith, le, lt)
refusal_completes files after before now edits at error quiet room h = inr h.cause

pub edit_completes : (files after : Files) (before now : Devices) (edits : List Edit) (result : Result (List NodeId) EditError) → NoFault before now → IsWithinLimit files before edits → IsEdit files before edits result now after → IsModelEdit files edits result
edit_completes files after before now edits (Ok created) quiet room h = (h.group, h.through, h.made)
edit_completes files after before now edits (Err refusal) quiet room h = refusal_completes files after before now edits refusal.at refusal.error quiet room h

pub answer_completes : (files : Files) (before now : Devices) (query : Query) (result : Result Reply AdfError) → NoFault before now → IsAnswer files query result → HasReadCause before now result → (result ≡ Err Memory) ⊎ (result ≡ answer files query)
answer_completes files before now query (Ok reply) quiet h cause = inr h
answer_completes files before now query (Err Memory) quiet h cause = inl refl
answer_completes files before now query (Err ReadFault) quiet h cause = absurd (quiet cause.0 cause.1)
answer_completes files before now query (Err error) quiet h cause = inr h
