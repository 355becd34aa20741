-- A group of edits behind calls that only ask may do what it may do without them.
use Rattle.std.proofs.Common.{◌≡◌, ◌≢◌, inl, inr, ℕ, ◌+◌, ◌≤◌, List, ◌∙◌, ap, subst, arith}
use Rattle.std.specs.Prelude.{Option, Some, None, IfSome, IfOk, is_some, take, Result, Ok, Err}
use Rattle.adf_format.specs.Placement.{Placement}
use Rattle.adf_model.specs.declared.error.AdfError.{AdfError}
use Rattle.adf_model.specs.declared.error.AdfError.TheVariants.{Memory, ReadFault, WriteFault, Full}
use Rattle.adf_model.specs.declared.error.EditError.{EditError}
use Rattle.adf_model.specs.declared.tree.Edit.{Edit}
use Rattle.adf_model.specs.declared.tree.NodeId.{NodeId}
use Rattle.adf_model.specs.Placing.{place_group, group_cost}
use Rattle.adf_model.specs.Slots.{Open, Files, Devices, device_at, open_at, recorded_end, end_of_held}
use Rattle.adf_model.specs.Calls.{Group, edit_group}
use Rattle.adf_model.specs.Torn.{TornGroup}
use Rattle.adf_model.specs.Untouched.{KeepsRest, KeepsTail}
use Rattle.adf_model.specs.Steps.{OnlyRead, OthersOnlyRead, OthersStayPlaced, WriteFailed, SomeOpenFault, HasGroupCause, HasCauseOf, Refused, WriteStops, IsGroupRefusal, IsEdit, OfGroup, HaveRoom, IsWithinCost, IsPlaced, IsOverLimit, IsPlacedRefusal, IsPlacedGroup, LeavesUntouched, IsUntouchedGroup, Changed}
use Rattle.adf_model.specs.Counts.{Rose}
use Rattle.adf_model.specs.Causes.{OnlyAsks, RefusalLeaves, GroupLeaves, ChangedAnyway}
use Rattle.adf_model.specs.Runs.{KeepsLayouts, IsToldFor, Makes}
use Rattle.adf_model.proofs.Answering.Asking.{told-stays}
use Rattle.adf_model.proofs.Answering.AskLaws.{asks_keep}

-- a fact of the file of a group gives another
of_group_map : (files : Files) (edits : List Edit) (Fact Other : ℕ → Open → Group → Type 0) → ((number : ℕ) (opened : Open) (group : Group) → Fact number opened group → Other number opened group) → OfGroup files edits Fact → OfGroup files edits Other
of_group_map files edits Fact Other so h = by_result (edit_group files edits) h
  where
    by_open : (number : ℕ) (group : Group) (opened : Option Open) → IfSome opened (λ o. Fact number o group) → IfSome opened (λ o. Other number o group)
    by_open number group None h = tt
    by_open number group (Some opened) h = so number opened group h

    by_file : (group : Group) (file : Option ℕ) → IfSome file (λ n. IfSome (open_at files n) (λ o. Fact n o group)) → IfSome file (λ n. IfSome (open_at files n) (λ o. Other n o group))
    by_file group None h = tt
    by_file group (Some number) h = by_open number group (open_at files number) h

    by_result : (r : Result Group EditError) → IfOk r (λ g. IfSome g.file (λ n. IfSome (open_at files n) (λ o. Fact n o g))) → IfOk r (λ g. IfSome g.file (λ n. IfSome (open_at files n) (λ o. Other n o g)))
    by_result (Ok group) h = by_file group group.file h
    by_result (Err refusal) h = tt

not_None : (n : ℕ) → ◌≢◌ {A = Option ℕ} (Some n) None
not_None n e = cc

module _ (files : Files) (a b c : Devices) (asks : OnlyAsks files a b files) where
  read : (n : ℕ) → OnlyRead (device_at a n) (device_at b n)
  read n = asks.devices_stay.others n (not_None n)

  held : (n : ℕ) → (device_at b n).held ≡ (device_at a n).held
  held n = (read n).held

  at : (n : ℕ) → (device_at b n).placement ≡ (device_at a n).placement
  at n = asks.placed n (not_None n)

  others : (one : Option ℕ) → OthersOnlyRead one b c → OthersOnlyRead one a c
  others one q = record {
    count = q.count ∙ asks.devices_stay.count;
    others = λ n apart. let x = read n in let y = q.others n apart in record {
      held = y.held ∙ x.held;
      faults = omega (arith, x.faults, y.faults);
      lost = y.lost ∙ x.lost;
      reads = omega (arith, x.reads, y.reads);
      writes = y.writes ∙ x.writes;
    };
    counts = λ n. let x = asks.devices_stay.counts n in let y = q.counts n in record {
      faults = omega (arith, x.faults, y.faults);
      lost = omega (arith, x.lost, y.lost);
      reads = omega (arith, x.reads, y.reads);
      writes = omega (arith, x.writes, y.writes);
    };
  }

  placed : (one : Option ℕ) → OthersStayPlaced one b c → OthersStayPlaced one a c
  placed one q n apart = q n apart ∙ at n

  rose : (n : ℕ) → Rose (device_at b n).faults (device_at c n).faults → Rose (device_at a n).faults (device_at c n).faults
  rose n h = let x = (read n).faults in omega (arith, x, h)

  failed : (n : ℕ) → WriteFailed (device_at b n) (device_at c n) → WriteFailed (device_at a n) (device_at c n)
  failed n h = record {
    faults = rose n h.faults;
    lost = (let x = (read n).lost in let y = h.lost in omega (arith, x, y));
    writes = (let x = (read n).writes in let y = h.writes in omega (arith, x, y));
  }

  fault : SomeOpenFault files b c → SomeOpenFault files a c
  fault h = (h.0, h.1, rose h.0 h.2)

  -- ---- whether devices tell or not

  refusal_leaves : (error : AdfError) (edits : List Edit) (after : Files) → RefusalLeaves error files b edits c after → RefusalLeaves error files a edits c after
  refusal_leaves WriteFault edits after h = record { number = h.number; own = h.own; others = others (Some h.number) h.others; placed = placed (Some h.number) h.placed; failed = failed h.number h.failed; standing = h.standing }
  refusal_leaves error edits after h = (h.0, others None h.1, placed None h.2)

  group_leaves : (result : Result (List NodeId) EditError) (edits : List Edit) (after : Files) → GroupLeaves result files b edits c after → GroupLeaves result files a edits c after
  group_leaves (Ok created) edits after h = record { one = h.one; own = h.own; others = others h.one h.others; placed = placed h.one h.placed; standing = h.standing }
  group_leaves (Err refusal) edits after h = refusal_leaves refusal.error edits after h

  error_cause : (error : AdfError) → HasCauseOf files b c error → HasCauseOf files a c error
  error_cause ReadFault h = fault h
  error_cause error h = h

  group_cause : (result : Result (List NodeId) EditError) → HasGroupCause files b c result → HasGroupCause files a c result
  group_cause (Ok created) h = tt
  group_cause (Err refusal) h = error_cause refusal.error h

  anyway : (result : Result (List NodeId) EditError) (edits : List Edit) (after : Files) → ChangedAnyway files b edits result c after → ChangedAnyway files a edits result c after
  anyway result edits after h = record { leaves = group_leaves result edits after h.leaves; names = h.names; entry = h.entry; cause = group_cause result h.cause; kind = h.kind }

  layouts : (after : Files) → KeepsLayouts files b c after → KeepsLayouts files a c after
  layouts after h =
      let first = asks_keep files files a b asks in
      record { told = λ n told. h.told n (first.told n told); laid_out = λ n laid. h.laid_out n (first.laid_out n laid) }

  -- ---- steps

  refused : {Cause Other : Type 0} (after : Files) → (Cause → Other) → Refused Cause files b c after → Refused Other files a c after
  refused after so h = record { cause = so h.cause; files_stay = h.files_stay; devices_stay = others None h.devices_stay; placed = placed None h.placed }

  stops : (edits : List Edit) (index : ℕ) (after : Files) → WriteStops files b c edits index after → WriteStops files a c edits index after
  stops edits index after h =
      let s = h.stop in
      record {
        stop = record {
          group = s.group;
          through = s.through;
          index = s.index;
          number = s.number;
          file = s.file;
          broken = s.broken;
          others = others (Some s.number) s.others;
          placed = placed (Some s.number) s.placed;
          failed = failed s.number s.failed;
          own = s.own;
          was = s.was;
          entered = s.entered;
          opened = s.opened;
          live = s.live;
        };
        torn = λ old new was now. subst (λ (p : Placement). TornGroup s.was.limit s.was.tree p s.group.done s.opened.tree old new) (at s.number) (h.torn old new (held s.number ∙ was) now);
      }

  ends_there : (n : ℕ) → recorded_end (device_at b n) ≡ recorded_end (device_at a n)
  ends_there n = ap end_of_held (held n)

  group_refusal : (error : AdfError) (edits : List Edit) (index : ℕ) (after : Files) → IsGroupRefusal files b edits index error c after → IsGroupRefusal files a edits index error c after
  group_refusal Memory edits index after h = refused after (λ cause. cause) h
  group_refusal ReadFault edits index after h = refused after (λ cause. record { stop = cause.stop; entered = cause.entered; fault = fault cause.fault }) h
  group_refusal (Full asked end) edits index after h =
      refused after (λ cause. record {
        exists = cause.exists;
        group = cause.group;
        through = cause.through;
        number = cause.number;
        file = cause.file;
        opened = cause.opened;
        live = cause.live;
        over = (let e = ends_there cause.number in let over = cause.over in omega (arith, e, over));
      }) h
  group_refusal WriteFault edits index after h = stops edits index after h
  group_refusal error edits index after h = refused after (λ cause. cause) h

  edit : (result : Result (List NodeId) EditError) (edits : List Edit) (after : Files) → IsEdit files b edits result c after → IsEdit files a edits result c after
  edit (Ok created) edits after h = record {
    group = h.group;
    through = h.through;
    made = h.made;
    trees = h.trees;
    others = others h.group.file h.others;
    placed = placed h.group.file h.placed;
    own = h.own;
    told = λ n e some. h.told n e (ap is_some (held n) ∙ some);
  }
  edit (Err refusal) edits after h = group_refusal refusal.error edits refusal.at after h

  within : (n : ℕ) (opened : Open) (group : Group) → IsWithinCost b c n opened group → IsWithinCost a c n opened group
  within n opened group h =
      let same = (read n).writes in
      let few : (device_at c n).writes ≤ (device_at b n).writes + group_cost opened.limit opened.tree (device_at a n).placement group.done = subst (λ (p : Placement). (device_at c n).writes ≤ (device_at b n).writes + group_cost opened.limit opened.tree p group.done) (at n) h in
      omega (arith, same, few)

  room : (n : ℕ) (opened : Open) (group : Group) → HaveRoom b n opened group → HaveRoom a n opened group
  room n opened group h = subst (λ (p : Placement). (q : Placement) × (place_group opened.limit opened.tree p group.done ≡ Ok q)) (at n) h

  over : (asked end n : ℕ) (opened : Open) (group : Group) → IsOverLimit b asked end n opened group → IsOverLimit a asked end n opened group
  over asked end n opened group h = subst (λ (p : Placement). place_group opened.limit opened.tree p group.done ≡ Err (record { asked = asked; end = end })) (at n) h

  put : (n : ℕ) (opened : Open) (group : Group) → IsPlaced b c n opened group → IsPlaced a c n opened group
  put n opened group h = (subst (λ (p : Placement). place_group opened.limit opened.tree p group.done ≡ Ok (device_at c n).placement) (at n) h.0, within n opened group h.1)

  rest : (n : ℕ) (opened : Open) (group : Group) → LeavesUntouched b c n opened group → LeavesUntouched a c n opened group
  rest n opened group h old new was now =
      subst (λ (p : Placement). KeepsRest opened.limit opened.tree p group.done (device_at c n).placement old new × KeepsTail (device_at c n).placement.heap.end old new) (at n) (h old new (held n ∙ was) now)

  placed_refusal : (error : AdfError) (edits : List Edit) (index : ℕ) → IsPlacedRefusal files b edits index error c → IsPlacedRefusal files a edits index error c
  placed_refusal (Full asked end) edits index h = (of_group_map files (take index edits) _ _ room h.0, of_group_map files (take (index + 1) edits) _ _ (over asked end) h.1)
  placed_refusal WriteFault edits index h = (of_group_map files edits _ _ within h.0, of_group_map files edits _ _ room h.1)
  placed_refusal error edits index h = of_group_map files (take index edits) _ _ room h

  placed_group : (result : Result (List NodeId) EditError) (edits : List Edit) → IsPlacedGroup files b edits result c → IsPlacedGroup files a edits result c
  placed_group (Ok created) edits h = of_group_map files edits _ _ put h
  placed_group (Err refusal) edits h = placed_refusal refusal.error edits refusal.at h

  untouched : (result : Result (List NodeId) EditError) (edits : List Edit) → IsUntouchedGroup files b edits result c → IsUntouchedGroup files a edits result c
  untouched (Ok created) edits h = of_group_map files edits _ _ rest h
  untouched (Err refusal) edits h = tt

  told : (edits : List Edit) (result : Result (List NodeId) EditError) → IsToldFor files a (Changed edits result) → IsToldFor files b (Changed edits result)
  told edits result (inl all) = inl (told-stays files a b all asks.devices_stay)
  told edits result (inr few) = inr (record { number = few.number; opened = few.opened; live = few.live; told = ap is_some (held few.number) ∙ few.told; stands = few.stands; no_link = few.no_link })

  pub edits_behind_asks : (result : Result (List NodeId) EditError) (edits : List Edit) (after : Files) → Makes files b (Changed edits result) c after → Makes files a (Changed edits result) c after
  edits_behind_asks result edits after h = record {
    step = λ tells. let s = h.step (told edits result tells) in (edit result edits after s.0, placed_group result edits s.1, untouched result edits s.2);
    layouts = layouts after h.layouts;
    anyway = anyway result edits after h.anyway;
  }
