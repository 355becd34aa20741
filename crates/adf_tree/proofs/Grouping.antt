-- A group under way, and its ends.
use Rattle.std.proofs.Common.{◌≡◌, inl, inr, ℕ, suc, refl, sym, ◌∙◌, ap, subst, arith, List, [], ◌∷◌, ◌++◌, length, take, ◌<◌, Bool, true, false}
use Rattle.std.proofs.lemmas.Bool.Decides.{eqb_tells}
use Rattle.std.proofs.lemmas.Option.{slice_get_within}
use Rattle.std.specs.Prelude.{Option, Some, None, IfSome, IsSome, IsTrue, is_some, ◌==◌, if◌then◌else◌, slice_get, Ok, Err}
use Rattle.adf_format.specs.Tree.{Tree, next_serial}
use Rattle.adf_format.specs.Placement.{Placement}
use Rattle.adf_format.specs.LaysOut.{LaysOut}
use Rattle.adf_model.specs.Causes.{may_refuse_edit, IsIndex}
use Rattle.adf_model.specs.Counts.{DeviceState, NoCountFell, OnlyReads, Rose}
use Rattle.adf_model.specs.Edits.{Work, created_by, file_group, file_step}
use Rattle.adf_model.specs.FileGroup.{FileGroupAnyway, RefusedAnyway, HasFileCause, IsBrokenGroup, done_by}
use Rattle.adf_model.specs.Torn.{TornGroup}
use Rattle.adf_model.specs.Slots.{Standing, no_device}
use Rattle.adf_model.specs.Steps.{IsFileRefusal, OnlyRead}
use Rattle.adf_model.specs.Untouched.{KeepsRest, KeepsTail}
use Rattle.adf_model.specs.declared.error.AdfError.{AdfError}
use Rattle.adf_model.specs.declared.error.AdfError.TheVariants as error
use Rattle.adf_model.specs.declared.tree.Edit.{Edit}
use Rattle.adf_model.specs.declared.tree.Edit.TheVariants.{Create, Delete, Rename, Move, SetLabel, SetDims, PutAll, PutPart, Link}
use Rattle.adf_model.specs.declared.tree.NodeId.{NodeId}
use Rattle.adf_model.proofs.Basics.{not_true, same_Ok, same_Some}
use Rattle.cg_io.specs.Blocks.{Both}
use Rattle.tree_laws.proofs.Whole.GroupsWhole.{whole_group_begins}
use Rattle.tree_laws.proofs.Groups.GroupLoop.{made_more}
use Rattle.tree_laws.proofs.Groups.GroupsGrow.{firsts_grow}
use Rattle.tree_edits.specs.declared.memory.Core.{Core}
use Rattle.tree_edits.specs.Edits.{Does, Refuses, memory_of}
use Rattle.tree_edits.specs.Rows.{Means}
use Rattle.cg_io.proofs.ReadLaws.{only_none, only_then}
use Rattle.adf_tree.specs.Commits.{Commits, Breaks, CommitEnds, TearsAll, TearsGroup, undone}
use Rattle.adf_tree.specs.Files.{FileState, FollowsAll, DoesAll, accepted, device_with}
use Rattle.adf_tree.specs.Steps.{IsStepCause, Refused, StepEnds, Stepped, undone_over}
use Rattle.adf_model.specs.NamedRules.{NamesRule}
use Rattle.adf_tree.specs.Groups.{GroupAnyway, GroupBreaks, GroupDone, GroupRefused, GroupStops, IsGroupOf, IsOfKind, IsUnderWay, NextEnds, RefusalLeaves, WorkOf, made_by, standing_in}
use Rattle.adf_tree.proofs.Stepping.{same_accepted}

-- ---- standings

abbrev by_writable : Bool → Standing
by_writable w = if w then Standing.Editing else Standing.Reading

-- how a file stands that is not broken
standing_as : (file : FileState) (w : Bool) → file.broken ≡ false → file.core.writable ≡ w → standing_in file ≡ by_writable w
standing_as file w live is = ap (λ (b : Bool). if b then Standing.Failed else by_writable file.core.writable) live ∙ ap by_writable is

-- ---- beginning

one_nothing : (writable : Bool) (tree : Tree) (work : Work) → file_group writable tree [] ≡ Ok work → [] ≡ work.created
one_nothing writable tree work e = ap (λ (w : Work). w.created) (same_Ok e)

take_none : {A : Type 0} (xs : List A) → take 0 xs ≡ []
take_none [] = refl
take_none (x ∷ xs) = refl

pub way_begins : (edits : List Edit) (created : List NodeId) (old : FileState) → created ≡ [] → old.steps ≡ [] → old.core ≡ accepted old.core → IsUnderWay edits 0 created old old
way_begins edits created old none steps same = record {
  steps = steps ∙ sym (take_none edits);
  device = only_none old.device;
  core = sym same;
  broken = refl;
  live = inl refl;
  may = inl refl;
  first = λ e. refl;
  made = by_held old.device.held;
}
  where
    by_held : (held : Option (List ℕ)) → IfSome held (λ image. (tree : Tree) (p : Placement) (work : Work) → Means image tree p (memory_of old.core) → file_group old.core.writable tree (take 0 edits) ≡ Ok work → created ≡ work.created)
    by_held None = tt
    by_held (Some image) = λ tree p work m e. none ∙ one_nothing old.core.writable tree work (ap (file_group old.core.writable tree) (sym (take_none edits)) ∙ e)

-- ---- counts and lists

counts_then : (a b c : DeviceState) → OnlyReads a b → NoCountFell b c → NoCountFell a c
counts_then a b c r n = record {
  faults = (let x = r.faults in let y = n.faults in omega (arith, x, y));
  lost = (let x = r.lost in let y = n.lost in omega (arith, x, y));
  reads = (let x = r.reads in let y = n.reads in omega (arith, x, y));
  writes = (let x = r.writes in let y = n.writes in omega (arith, x, y));
}

-- bytes that were told are told afterwards
both_told : (R : List ℕ → List ℕ → Type 0) (old new : Option (List ℕ)) → Both R old new → IsSome old → IsSome new
both_told R None new both some = absurd (not_true some)
both_told R (Some old) None both some = absurd both
both_told R (Some old) (Some new) both some = refl

take_all : {A : Type 0} (xs : List A) → take (length xs) xs ≡ xs
take_all [] = refl
take_all (x ∷ xs) = ap (λ rest. x ∷ rest) (take_all xs)

length_none : {A : Type 0} (xs : List A) → length xs ≡ 0 → xs ≡ []
length_none [] e = refl
length_none (x ∷ xs) e = absurd (omega (arith, e))

-- ---- where it stands

made_is : (tree : Tree) (edit : Edit) (n : ℕ) → n ≡ next_serial tree → made_by edit n ≡ created_by tree edit
made_is tree (Create at wanted label) n e = ap (λ (s : ℕ). let node : NodeId = record { file = at.file; serial = s } in node ∷ []) e
made_is tree (Link at wanted file path) n e = ap (λ (s : ℕ). let node : NodeId = record { file = at.file; serial = s } in node ∷ []) e
made_is tree (Delete node) n e = refl
made_is tree (Rename node wanted) n e = refl
made_is tree (Move node to) n e = refl
made_is tree (SetLabel node label) n e = refl
made_is tree (SetDims node shape) n e = refl
made_is tree (PutAll node given) n e = refl
made_is tree (PutPart node selection given) n e = refl

-- what the edits in work have made of a tree and a placement
pub record IsAt (edits : List Edit) (at : ℕ) (old now : FileState) (image : List ℕ) (tree : Tree) (p : Placement) : Type 0 where
  pub shown : List ℕ
  pub is : now.image ≡ Some shown
  pub follows : FollowsAll old.core.heap.limit old.core.writable (take at edits) now.waiting tree p (memory_of now.core) image shown

module _ (edits : List Edit) (at : ℕ) (created : List NodeId) (old now : FileState) (u : IsUnderWay edits at created old now) (all : at ≡ length edits) (some : edits ≡ [] → ⊥) where
  some_live : old.broken ≡ false
  some_live = elim u.live [ inl none ↦ absurd (some (length_none edits (sym all ∙ none))) | inr live ↦ live ]

  some_may : old.core.writable ≡ true
  some_may = elim u.may [ inl none ↦ absurd (some (length_none edits (sym all ∙ none))) | inr may ↦ may ]

module _ (edits : List Edit) (at : ℕ) (created : List NodeId) (old now : FileState) (u : IsUnderWay edits at created old now) (work : WorkOf now) where
  pub stands_at : (image : List ℕ) → old.device.held ≡ Some image → (tree : Tree) (p : Placement) → Means image tree p (memory_of old.core) → IsAt edits at old now image tree p
  stands_at image told tree p m = by_shown now.image refl (subst (λ (held : Option (List ℕ)). Both (DoesAll now.steps now.waiting (accepted now.core) now.core) held now.image) (u.device.held ∙ told) work)
    where
      by_shown : (o : Option (List ℕ)) → now.image ≡ o → Both (DoesAll now.steps now.waiting (accepted now.core) now.core) (Some image) o → IsAt edits at old now image tree p
      by_shown None e b = absurd b
      by_shown (Some shown) e b = record {
        shown = shown;
        is = e;
        follows = subst (λ (es : List Edit). DoesAll es now.waiting old.core now.core image shown) u.steps
            (subst (λ (core : Core). DoesAll now.steps now.waiting core now.core image shown) u.core b) tree p m;
      }

  same_writable : now.core.writable ≡ old.core.writable
  same_writable = ap (λ (core : Core). core.writable) u.core

  same_limit : now.core.heap.limit ≡ old.core.heap.limit
  same_limit = ap (λ (core : Core). core.heap.limit) u.core

  -- one edit further
  module _ (edit : Edit) (there : slice_get edits at ≡ Some edit) (serial : Option ℕ) (next : FileState) (s : Stepped edit serial now next) (more : List NodeId)
      (keeps : more ≡ created ++ made_by edit (length now.core.rows.items))
    where
      still_live : old.broken ≡ false
      still_live = sym u.broken ∙ s.live

      made_next : (image : List ℕ) → old.device.held ≡ Some image → (tree : Tree) (p : Placement) (after : Work) → Means image tree p (memory_of old.core)
          → file_group old.core.writable tree (take (suc at) edits) ≡ Ok after → more ≡ after.created
      made_next image told tree p after m e =
          let i = stands_at image told tree p m in
          by_next next.image i (subst (λ (o : Option (List ℕ)). Both (Does edit now.core next.core) o next.image) i.is s.done)
        where
          known : (image : List ℕ) → old.device.held ≡ Some image → (tree : Tree) (p : Placement) (w : Work) → Means image tree p (memory_of old.core) → file_group old.core.writable tree (take at edits) ≡ Ok w → created ≡ w.created
          known image told tree p w m e =
              (subst (λ (held : Option (List ℕ)). IfSome held (λ bytes. (tree : Tree) (p : Placement) (w : Work) → Means bytes tree p (memory_of old.core) → file_group old.core.writable tree (take at edits) ≡ Ok w → created ≡ w.created)) told u.made)
              tree p w m e

          by_next : (o : Option (List ℕ)) (i : IsAt edits at old now image tree p) → Both (Does edit now.core next.core) (Some i.shown) o → more ≡ after.created
          by_next None i b = absurd b
          by_next (Some shown) i b =
              let f = i.follows in
              let g = b f.work.tree f.placement f.means in
              let step : file_step old.core.writable f.work.tree edit ≡ Ok g.after = ap (λ (w : Bool). file_step w f.work.tree edit) (sym same_writable) ∙ g.whole.made in
              let grown = made_more old.core.writable edits at edit tree f.work g.after there f.whole.made step in
              let was : created ≡ f.work.created = known image told tree p f.work m f.whole.made in
              keeps ∙ ap (λ (xs : List NodeId). xs ++ made_by edit (length now.core.rows.items)) was
              ∙ ap (λ (xs : List NodeId). f.work.created ++ xs) (made_is f.work.tree edit (length now.core.rows.items) f.means.table.count)
              ∙ ap (λ (w : Work). w.created) (same_Ok (sym grown ∙ e))

      pub way_goes_on : (j : ℕ) → j ≡ suc at → IsUnderWay edits j more old next
      way_goes_on j is = subst (λ (k : ℕ). IsUnderWay edits k more old next) (sym is) (record {
        steps = s.steps ∙ ap (λ (es : List Edit). es ++ edit ∷ []) u.steps ∙ sym (firsts_grow edits at edit there);
        device = only_then old.device now.device next.device u.device s.device;
        core = same_accepted now.core next.core s.kept ∙ u.core;
        broken = s.broken ∙ sym still_live;
        live = inr still_live;
        may = inr (sym same_writable ∙ s.allowed);
        first = λ e. absurd (omega (arith, e));
        made = by_held old.device.held refl;
      })
        where
          by_held : (held : Option (List ℕ)) → old.device.held ≡ held → IfSome held (λ image. (tree : Tree) (p : Placement) (after : Work) → Means image tree p (memory_of old.core)
              → file_group old.core.writable tree (take (suc at) edits) ≡ Ok after → more ≡ after.created)
          by_held None e = tt
          by_held (Some image) e = λ tree p after m made. made_next image e tree p after m made

  -- an edit is refused
  module _ (edit : Edit) (there : slice_get edits at ≡ Some edit) (e : AdfError) (new : FileState) (r : Refused edit e now new) where
    pub stops_there : (image : List ℕ) → old.device.held ≡ Some image → (tree : Tree) (p : Placement) → Means image tree p (memory_of old.core) → GroupStops edits at e tree p old new
    stops_there image told tree p m =
        let i = stands_at image told tree p m in
        let f = i.follows in
        let why = (subst (λ (o : Option (List ℕ)). IfSome o (λ bytes. (t : Tree) (q : Placement) → Means bytes t q (memory_of now.core) → IsFileRefusal false now.core.writable now.core.heap.limit t q edit e)) i.is r.why) f.work.tree f.placement f.means in
        let reads = only_then old.device now.device new.device u.device r.device in
        record {
          so_far = record { work = f.work; made = f.whole.made; placement = f.placement; placed = f.whole.placed };
          edit = edit;
          reached = there;
          refused = subst (λ (n : ℕ). IsFileRefusal false old.core.writable n f.work.tree f.placement edit e) same_limit
              (subst (λ (w : Bool). IsFileRefusal false w now.core.heap.limit f.work.tree f.placement edit e) same_writable why);
          fault = λ is. faults is;
          leaves = record { stands = refl; device = record { held = reads.held; lost = reads.lost; writes = reads.writes; reads = reads.reads; faults = reads.faults }; placed = refl };
        }
      where
        faults : e ≡ error.ReadFault → Rose old.device.faults new.device.faults
        faults is = let rose = subst (IsStepCause edit now.device.faults new.device.faults) is r.cause in let before = u.device.faults in omega (arith, rose, before)

    pub refused_leaves : old.core ≡ accepted old.core → RefusalLeaves e old new
    refused_leaves idle = by_error e r.cause same
      where
        same : new ≡ undone_over new.device old
        same =
            r.undone
            ∙ ap (λ (core : Core). let made : FileState = record { device = new.device; image = new.device.held; waiting = []; core = core; steps = []; broken = now.broken } in made) (u.core ∙ idle)
            ∙ ap (λ (b : Bool). let made : FileState = record { device = new.device; image = new.device.held; waiting = []; core = accepted old.core; steps = []; broken = b } in made) u.broken

        by_error : (x : AdfError) → IsStepCause edit now.device.faults new.device.faults x → new ≡ undone_over new.device old → RefusalLeaves x old new
        by_error error.WriteFault cause same = absurd cause
        by_error x cause same = same

    file_cause : HasFileCause (device_with no_device.placement old.device) (device_with no_device.placement new.device) e
    file_cause = by_error e r.cause
      where
        by_error : (x : AdfError) → IsStepCause edit now.device.faults new.device.faults x → HasFileCause (device_with no_device.placement old.device) (device_with no_device.placement new.device) x
        by_error error.Memory cause = (refl, refl)
        by_error error.ReadFault cause = let before = u.device.faults in omega (arith, cause, before)
        by_error (error.Layout rule place) cause = (refl, refl)
        by_error error.Broken cause = absurd cause
        by_error error.WriteFault cause = absurd cause
        by_error error.NotOpen cause = absurd cause
        by_error error.NoSuchFile cause = absurd cause
        by_error error.LinkChain cause = absurd cause
        by_error error.OtherFile cause = absurd cause
        by_error x cause = (cause.0, refl)

    pub refused_kind : IsOfKind edits (record { at = at; error = e })
    refused_kind = record { rule = by_rule e r.cause; kind = λ other is. subst (λ (x : Edit). IsTrue (may_refuse_edit x e)) (same_Some edit other (sym there ∙ is)) (by_error e r.cause) }
      where
        by_rule : (x : AdfError) → IsStepCause edit now.device.faults new.device.faults x → NamesRule x
        by_rule (error.Layout rule place) cause = cause
        by_rule x cause = tt

        by_error : (x : AdfError) → IsStepCause edit now.device.faults new.device.faults x → IsTrue (may_refuse_edit edit x)
        by_error error.Memory cause = refl
        by_error error.ReadFault cause = refl
        by_error (error.Layout rule place) cause = refl
        by_error error.Broken cause = absurd cause
        by_error error.WriteFault cause = absurd cause
        by_error error.NotOpen cause = absurd cause
        by_error error.NoSuchFile cause = absurd cause
        by_error error.LinkChain cause = absurd cause
        by_error error.OtherFile cause = absurd cause
        by_error x cause = cause.1

    pub refused_anyway : old.core ≡ accepted old.core → GroupAnyway edits (Err (record { at = at; error = e })) old new
    refused_anyway idle = by_standing old.core.writable refl
      where
        reads : OnlyReads old.device new.device
        reads = only_then old.device now.device new.device u.device r.device

        live : old.broken ≡ false
        live = sym u.broken ∙ r.live

        stays : standing_in new ≡ standing_in old
        stays = ap standing_in r.undone ∙ ap (λ (b : Bool). if b then Standing.Failed else if now.core.writable then Standing.Editing else Standing.Reading) u.broken
            ∙ ap (λ (w : Bool). if old.broken then Standing.Failed else if w then Standing.Editing else Standing.Reading) same_writable

        index : (x : AdfError) → IsStepCause edit now.device.faults new.device.faults x → IsIndex edits at x
        index error.WriteFault cause = absurd cause
        index x cause = slice_get_within edits at edit there

        leaves : (st after : Standing) → after ≡ st → (x : AdfError) → IsStepCause edit now.device.faults new.device.faults x
            → HasFileCause (device_with no_device.placement old.device) (device_with no_device.placement new.device) x
            → RefusedAnyway st (device_with no_device.placement old.device) edits x (device_with no_device.placement new.device) after
        leaves st after same error.WriteFault cause file = absurd cause
        leaves st after same x cause file = (file, record { stands = same; device = record { held = reads.held; lost = reads.lost; writes = reads.writes; reads = reads.reads; faults = reads.faults }; placed = refl })

        by_standing : (w : Bool) → old.core.writable ≡ w → GroupAnyway edits (Err (record { at = at; error = e })) old new
        by_standing true is =
            let st : standing_in old ≡ Standing.Editing = standing_as old true live is in
            subst (λ (s : Standing). FileGroupAnyway s (device_with no_device.placement old.device) edits (Err (record { at = at; error = e })) (device_with no_device.placement new.device) (standing_in new)) (sym st)
            (index e r.cause, leaves Standing.Editing (standing_in new) (stays ∙ st) e r.cause file_cause)
        by_standing false is =
            let st : standing_in old ≡ Standing.Reading = standing_as old false live is in
            subst (λ (s : Standing). FileGroupAnyway s (device_with no_device.placement old.device) edits (Err (record { at = at; error = e })) (device_with no_device.placement new.device) (standing_in new)) (sym st)
            (index e r.cause, leaves Standing.Reading (standing_in new) (stays ∙ st) e r.cause file_cause)

  -- all are done
  module _ (all : at ≡ length edits) (new : FileState) where
    whole : take at edits ≡ edits
    whole = ap (λ (k : ℕ). take k edits) all ∙ take_all edits

    module _ (c : Commits now new) where
      counts : NoCountFell old.device new.device
      counts = counts_then old.device now.device new.device u.device c.counts

      pub done_there : (image : List ℕ) → old.device.held ≡ Some image → (tree : Tree) (p : Placement) → Means image tree p (memory_of old.core) → GroupDone edits created tree p old new
      done_there image told tree p m =
          let i = stands_at image told tree p m in
          let f = subst (λ (es : List Edit). FollowsAll old.core.heap.limit old.core.writable es now.waiting tree p (memory_of now.core) image i.shown) whole i.follows in
          let held : new.device.held ≡ Some i.shown = c.held ∙ i.is in
          record {
            after = f.work.tree;
            placement = f.placement;
            made = record {
              work = f.work;
              made = f.whole.made;
              nodes = known image told tree p f.work m f.whole.made;
              stands = refl;
              placed = f.whole.placed;
              written = record {
                counts = record { faults = counts.faults; lost = counts.lost; reads = counts.reads; writes = counts.writes };
                cost = (let w = c.writes in let same = u.device.writes in let most = f.cost in omega (arith, w, same, most));
                told = λ some. ap is_some held;
              };
              still = λ none. only (c.still (u.steps ∙ whole ∙ none)) f.placement;
              laid_out = λ one other at_one at_other. subst (λ (bytes : List ℕ). LaysOut bytes f.work.tree f.placement) (same_Some i.shown other (sym held ∙ at_other)) f.whole.laid_out;
              rest = λ one other at_one at_other.
                  subst (λ (bytes : List ℕ). KeepsRest old.core.heap.limit tree p (done_by old.core.writable tree edits) f.placement one bytes × KeepsTail f.placement.heap.end one bytes) (same_Some i.shown other (sym held ∙ at_other))
                  (subst (λ (bytes : List ℕ). KeepsRest old.core.heap.limit tree p (done_by old.core.writable tree edits) f.placement bytes i.shown × KeepsTail f.placement.heap.end bytes i.shown) (same_Some image one (sym told ∙ at_one))
                  (f.whole.rest, f.whole.tail));
            };
            means = subst (λ (h : Option (List ℕ)). IfSome h (λ bytes. Means bytes f.work.tree f.placement (memory_of new.core))) (sym held)
                (subst (λ (core : Core). Means i.shown f.work.tree f.placement (memory_of core)) (sym c.core) f.means);
          }
        where
          only : OnlyReads now.device new.device → (q : Placement) → OnlyRead (device_with p old.device) (device_with q new.device)
          only r q = let reads = only_then old.device now.device new.device u.device r in record { held = reads.held; lost = reads.lost; writes = reads.writes; reads = reads.reads; faults = reads.faults }

          known : (image : List ℕ) → old.device.held ≡ Some image → (tree : Tree) (p : Placement) (w : Work) → Means image tree p (memory_of old.core) → file_group old.core.writable tree edits ≡ Ok w → created ≡ w.created
          known image told tree p w m e =
              (subst (λ (held : Option (List ℕ)). IfSome held (λ bytes. (tree : Tree) (p : Placement) (w : Work) → Means bytes tree p (memory_of old.core) → file_group old.core.writable tree (take at edits) ≡ Ok w → created ≡ w.created)) told u.made)
              tree p w m (ap (file_group old.core.writable tree) whole ∙ e)

      pub done_anyway : (edits ≡ [] → ⊥) → GroupAnyway edits (Ok created) old new
      done_anyway some =
          let st : standing_in old ≡ Standing.Editing = standing_as old true (some_live edits at created old now u all some) (some_may edits at created old now u all some) in
          let after : standing_in new ≡ Standing.Editing = standing_as new true c.broken (ap (λ (core : Core). core.writable) c.core ∙ same_writable ∙ some_may edits at created old now u all some) in
          subst (λ (s : Standing). FileGroupAnyway s (device_with no_device.placement old.device) edits (Ok created) (device_with no_device.placement new.device) (standing_in new)) (sym st)
          (record {
            stands = after;
            counts = record { faults = counts.faults; lost = counts.lost; reads = counts.reads; writes = counts.writes };
            may = inr refl;
            still = λ none. absurd (some none);
          })

    module _ (b : Breaks now new) (some : edits ≡ [] → ⊥) where
      broken_counts : NoCountFell old.device new.device
      broken_counts = counts_then old.device now.device new.device u.device b.counts

      -- the bytes that were held are a first part of what the edits were to make
      tears : (image : List ℕ) → old.device.held ≡ Some image → (tree : Tree) (p : Placement) → Means image tree p (memory_of old.core)
          → (before after : List ℕ) → old.device.held ≡ Some before → new.device.held ≡ Some after → TearsGroup old.core.heap.limit old.core.writable edits tree p before after
      tears image told tree p m before after at_before at_after =
          let both : TearsAll now before after = subst (Both (TearsAll now) (Some before)) at_after (subst (λ (h : Option (List ℕ)). Both (TearsAll now) h new.device.held) (u.device.held ∙ at_before) b.torn) in
          let means = subst (λ (bytes : List ℕ). Means bytes tree p (memory_of old.core)) (same_Some image before (sym told ∙ at_before)) m in
          subst (λ (n : ℕ). TearsGroup n old.core.writable edits tree p before after) same_limit
          (subst (λ (w : Bool). TearsGroup now.core.heap.limit w edits tree p before after) same_writable
          (subst (λ (es : List Edit). TearsGroup now.core.heap.limit now.core.writable es tree p before after) (u.steps ∙ whole)
          (both tree p (subst (λ (core : Core). Means before tree p (memory_of core)) (sym u.core) means))))

      pub breaks_there : (image : List ℕ) → old.device.held ≡ Some image → (tree : Tree) (p : Placement) → Means image tree p (memory_of old.core) → GroupBreaks edits at tree p old new
      breaks_there image told tree p m =
          let f = subst (λ (es : List Edit). FollowsAll old.core.heap.limit old.core.writable es now.waiting tree p (memory_of now.core) image (stands_at image told tree p m).shown) whole (stands_at image told tree p m).follows in
          let before = u.device.faults in
          let rose = b.failed.faults in
          let lost_same = u.device.lost in
          let lost = b.failed.lost in
          let writes_same = u.device.writes in
          let writes = b.failed.writes in
          record {
            all = record { work = f.work; made = f.whole.made; placement = f.placement; placed = f.whole.placed };
            some = some;
            index = all;
            stands = refl;
            failed = record { faults = omega (arith, before, rose); lost = omega (arith, lost_same, lost); writes = omega (arith, writes_same, writes) };
            written = record {
              counts = record { faults = broken_counts.faults; lost = broken_counts.lost; reads = broken_counts.reads; writes = broken_counts.writes };
              cost = (let w = b.writes in let most = f.cost in omega (arith, w, writes_same, most));
              told = λ known. both_told (TearsAll now) now.device.held new.device.held b.torn (subst (λ (h : Option (List ℕ)). IsSome h) (sym u.device.held) known);
            };
            torn = λ one other at_one at_other.
                let t = tears image told tree p m one other at_one at_other in
                subst (λ (w : Work). TornGroup old.core.heap.limit tree p (done_by old.core.writable tree edits) w.tree one other) (same_Ok (sym t.made ∙ f.whole.made)) t.torn;
          }

      pub breaks_leave : RefusalLeaves error.WriteFault old new
      breaks_leave = (b.broken, b.core ∙ u.core)

      pub breaks_anyway : GroupAnyway edits (Err (record { at = at; error = error.WriteFault })) old new
      breaks_anyway =
          let st : standing_in old ≡ Standing.Editing = standing_as old true (some_live edits at created old now u all some) (some_may edits at created old now u all some) in
          let before = u.device.faults in
          let rose = b.failed.faults in
          let lost_same = u.device.lost in
          let lost = b.failed.lost in
          let writes_same = u.device.writes in
          let writes = b.failed.writes in
          subst (λ (s : Standing). FileGroupAnyway s (device_with no_device.placement old.device) edits (Err (record { at = at; error = error.WriteFault })) (device_with no_device.placement new.device) (standing_in new)) (sym st) (
            all,
            record {
              stands = ap (λ (x : Bool). if x then Standing.Failed else by_writable new.core.writable) b.broken;
              counts = record { faults = broken_counts.faults; lost = broken_counts.lost; reads = broken_counts.reads; writes = broken_counts.writes };
              may = refl;
              some = some;
              failed = record { faults = omega (arith, before, rose); lost = omega (arith, lost_same, lost); writes = omega (arith, writes_same, writes) };
            },
          )

      pub breaks_kind : IsOfKind edits (record { at = at; error = error.WriteFault })
      breaks_kind = record { rule = tt; kind = λ edit is. absurd (let lt = slice_get_within edits at edit is in omega (arith, lt, all)) }

-- ---- a broken file

pub broken_refuses : (edits : List Edit) (at : ℕ) (created : List NodeId) (old now : FileState) (edit : Edit) → IsUnderWay edits at created old now → now.broken ≡ true → slice_get edits at ≡ Some edit
    → GroupAnyway edits (Err (record { at = at; error = error.Broken })) old now
broken_refuses edits at created old now edit u broken there =
    let first : at ≡ 0 = elim u.live [ inl none ↦ none | inr live ↦ absurd (not_both old.broken live (sym u.broken ∙ broken)) ] in
    let same : now ≡ old = u.first first in
    let st : standing_in old ≡ Standing.Failed = ap (λ (x : Bool). if x then Standing.Failed else by_writable old.core.writable) (sym u.broken ∙ broken) in
    subst (λ (file : FileState). FileGroupAnyway (standing_in old) (device_with no_device.placement old.device) edits (Err (record { at = at; error = error.Broken })) (device_with no_device.placement file.device) (standing_in file)) (sym same)
    (subst (λ (s : Standing). FileGroupAnyway s (device_with no_device.placement old.device) edits (Err (record { at = at; error = error.Broken })) (device_with no_device.placement old.device) s) (sym st)
    (of_some edits (slice_get_within edits at edit there) first, record { stands = refl; device = record { held = refl; lost = refl; writes = refl; reads = omega arith; faults = omega arith }; placed = refl }))
  where
    not_both : (b : Bool) → b ≡ false → b ≡ true → ⊥
    not_both b e f = cc

    of_some : (es : List Edit) → at < length es → at ≡ 0 → IsBrokenGroup es (Err (record { at = at; error = error.Broken }))
    of_some [] lt first = absurd (omega (arith, lt))
    of_some (e ∷ es) lt first = (first, refl)

-- ---- the next edit

pub memory_refused : (edit : Edit) (serial : Option ℕ) (old mid new : FileState) → Stepped edit serial old mid → new ≡ undone mid → Refused edit error.Memory old new
memory_refused edit serial old mid new s same = record {
  live = s.live;
  why = none old.image;
  cause = tt;
  device = subst (λ (file : FileState). OnlyReads old.device file.device) (sym same) s.device;
  undone =
      subst (λ (file : FileState). file ≡ undone_over file.device old) (sym same)
      (ap (λ (core : Core). let made : FileState = record { device = mid.device; image = mid.device.held; waiting = []; core = core; steps = []; broken = mid.broken } in made) (same_accepted old.core mid.core s.kept)
      ∙ ap (λ (b : Bool). let made : FileState = record { device = mid.device; image = mid.device.held; waiting = []; core = accepted old.core; steps = []; broken = b } in made) (s.broken ∙ sym s.live));
}
  where
    none : (image : Option (List ℕ)) → IfSome image (Refuses edit old.core error.Memory)
    none None = tt
    none (Some bytes) = λ tree p m. tt

pub step_refused : (edit : Edit) (e : AdfError) (was now : List NodeId) (old new : FileState) → StepEnds edit (Err e) old new → NextEnds edit (Err e) was now old new
step_refused edit error.Broken was now old new s = s
step_refused edit e was now old new s = s

-- ---- the answers of a group

module _ (edits : List Edit) (at : ℕ) (created more : List NodeId) (old now : FileState) (u : IsUnderWay edits at created old now) (works : now.broken ≡ false → WorkOf now) (idle : old.core ≡ accepted old.core)
    (rest : old ≡ undone_over old.device old) (edit : Edit) (there : slice_get edits at ≡ Some edit) (new : FileState)
  where
    first_of : now.broken ≡ true → now ≡ old
    first_of broken = u.first (elim u.live [ inl none ↦ none | inr live ↦ absurd (two old.broken live (sym u.broken ∙ broken)) ])
      where
        two : (b : Bool) → b ≡ false → b ≡ true → ⊥
        two b e f = cc

    pub next_none : (e : AdfError) → NextEnds edit (Err e) created more now new → old.steps ≡ [] → new.steps ≡ []
    next_none error.Broken n none = ap (λ (file : FileState). file.steps) (n.1 ∙ first_of n.0) ∙ none
    next_none e n none = ap (λ (file : FileState). file.steps) n.undone

    pub next_told : (e : AdfError) → NextEnds edit (Err e) created more now new → old.broken ≡ false → (image : List ℕ) → old.device.held ≡ Some image
        → (tree : Tree) (p : Placement) → Means image tree p (memory_of old.core) → GroupRefused edits at e tree p old new
    next_told error.Broken n live image told tree p m = absurd (two old.broken live (sym u.broken ∙ n.0))
      where
        two : (b : Bool) → b ≡ false → b ≡ true → ⊥
        two b e f = cc
    next_told error.WriteFault n live image told tree p m = absurd n.cause
    next_told e n live image told tree p m = stops_there edits at created old now u (works n.live) edit there e new n image told tree p m

    pub next_leaves : (e : AdfError) → NextEnds edit (Err e) created more now new → RefusalLeaves e old new
    next_leaves error.Broken n = subst (λ (file : FileState). file ≡ undone_over file.device old) (sym (n.1 ∙ first_of n.0)) rest
    next_leaves error.WriteFault n = absurd n.cause
    next_leaves e n = refused_leaves edits at created old now u (works n.live) edit there e new n idle

    pub next_anyway : (e : AdfError) → NextEnds edit (Err e) created more now new → GroupAnyway edits (Err (record { at = at; error = e })) old new
    next_anyway error.Broken n =
        subst (λ (file : FileState). GroupAnyway edits (Err (record { at = at; error = error.Broken })) old file) (sym n.1) (broken_refuses edits at created old now edit u n.0 there)
    next_anyway e n = refused_anyway edits at created old now u (works n.live) edit there e new n idle

    pub next_kind : (e : AdfError) → NextEnds edit (Err e) created more now new → IsOfKind edits (record { at = at; error = e })
    next_kind error.Broken n = record { rule = tt; kind = λ other is. refl }
    next_kind e n = refused_kind edits at created old now u (works n.live) edit there e new n

-- what was said of each tree, of bytes that are told
pub of_told : (P : List ℕ → Type 0) (held : Option (List ℕ)) → ((image : List ℕ) → held ≡ Some image → P image) → IfSome held P
of_told P None all = tt
of_told P (Some image) all = all image refl

-- ---- the commit of a group

module _ (edits : List Edit) (at : ℕ) (created : List NodeId) (old now : FileState) (u : IsUnderWay edits at created old now) (works : now.broken ≡ false → WorkOf now) (all : at ≡ length edits) (some : edits ≡ [] → ⊥) (new : FileState) where
  still_two : old.broken ≡ false → now.broken ≡ true → ⊥
  still_two live broken = two old.broken live (sym u.broken ∙ broken)
    where
      two : (b : Bool) → b ≡ false → b ≡ true → ⊥
      two b e f = cc

  live_now : old.broken ≡ false
  live_now = some_live edits at created old now u all some

  pub ends_told : (e : AdfError) → CommitEnds (Err e) now new → (image : List ℕ) → old.device.held ≡ Some image
      → (tree : Tree) (p : Placement) → Means image tree p (memory_of old.core) → GroupRefused edits at e tree p old new
  ends_told error.WriteFault b image told tree p m = breaks_there edits at created old now u (works b.live) all new b some image told tree p m
  ends_told error.Broken b image told tree p m = absurd (still_two live_now b.0)
  ends_told e b image told tree p m = absurd b

  pub ends_leave : (e : AdfError) → CommitEnds (Err e) now new → RefusalLeaves e old new
  ends_leave error.WriteFault b = breaks_leave edits at created old now u (works b.live) all new b some
  ends_leave error.Broken b = absurd (still_two live_now b.0)
  ends_leave e b = absurd b

  pub ends_anyway : (e : AdfError) → CommitEnds (Err e) now new → GroupAnyway edits (Err (record { at = at; error = e })) old new
  ends_anyway error.WriteFault b = breaks_anyway edits at created old now u (works b.live) all new b some
  ends_anyway error.Broken b = absurd (still_two live_now b.0)
  ends_anyway e b = absurd b

  pub ends_kind : (e : AdfError) → CommitEnds (Err e) now new → IsOfKind edits (record { at = at; error = e })
  ends_kind error.WriteFault b = breaks_kind edits at created old now u (works b.live) all new b some
  ends_kind error.Broken b = absurd (still_two live_now b.0)
  ends_kind e b = absurd b

-- ---- a group without edits

pub nothing_done : (created : List NodeId) (old : FileState) → created ≡ [] → (image : List ℕ) → old.device.held ≡ Some image
    → (tree : Tree) (p : Placement) → Means image tree p (memory_of old.core) → GroupDone [] created tree p old old
nothing_done created old none image told tree p m =
    let whole = whole_group_begins old.core.heap.limit old.core.writable tree p image m.laid_out in
    record {
      after = tree;
      placement = p;
      made = record {
        work = record { tree = tree; created = [] };
        made = refl;
        nodes = none;
        stands = refl;
        placed = refl;
        written = record { counts = record { faults = omega arith; lost = omega arith; reads = omega arith; writes = omega arith }; cost = omega arith; told = λ known. known };
        still = λ e. record { held = refl; lost = refl; writes = refl; reads = omega arith; faults = omega arith };
        laid_out = λ one other at_one at_other. subst (λ (bytes : List ℕ). LaysOut bytes tree p) (same_Some image other (sym told ∙ at_other)) m.laid_out;
        rest = λ one other at_one at_other.
            subst (λ (bytes : List ℕ). KeepsRest old.core.heap.limit tree p [] p one bytes × KeepsTail p.heap.end one bytes) (same_Some one other (sym at_one ∙ at_other))
            (let w = whole_group_begins old.core.heap.limit old.core.writable tree p one (subst (λ (bytes : List ℕ). LaysOut bytes tree p) (same_Some image one (sym told ∙ at_one)) m.laid_out) in (w.rest, w.tail));
      };
      means = subst (λ (h : Option (List ℕ)). IfSome h (λ bytes. Means bytes tree p (memory_of old.core))) (sym told) m;
    }

pub nothing_anyway : (created : List NodeId) (old : FileState) → created ≡ [] → GroupAnyway [] (Ok created) old old
nothing_anyway created old none = by_standing (standing_in old)
  where
    same : DeviceState → OnlyRead (device_with no_device.placement old.device) (device_with no_device.placement old.device)
    same s = record { held = refl; lost = refl; writes = refl; reads = omega arith; faults = omega arith }

    by_standing : (st : Standing) → FileGroupAnyway st (device_with no_device.placement old.device) [] (Ok created) (device_with no_device.placement old.device) st
    by_standing Standing.Failed = (ap (λ (xs : List NodeId). Ok xs) none, record { stands = refl; device = same old.device; placed = refl })
    by_standing Standing.Absent = record { stands = refl; counts = record { faults = omega arith; lost = omega arith; reads = omega arith; writes = omega arith }; may = inl refl; still = λ e. same old.device }
    by_standing Standing.Closed = record { stands = refl; counts = record { faults = omega arith; lost = omega arith; reads = omega arith; writes = omega arith }; may = inl refl; still = λ e. same old.device }
    by_standing Standing.Reading = record { stands = refl; counts = record { faults = omega arith; lost = omega arith; reads = omega arith; writes = omega arith }; may = inl refl; still = λ e. same old.device }
    by_standing Standing.Editing = record { stands = refl; counts = record { faults = omega arith; lost = omega arith; reads = omega arith; writes = omega arith }; may = inl refl; still = λ e. same old.device }

pub is_none : (edits : List Edit) (b : Bool) → b ≡ (length edits == 0) → b ≡ true → edits ≡ []
is_none [] b is e = refl
is_none (edit ∷ edits) b is e = elim (eqb_tells (length (edit ∷ edits)) 0) [ inl t ↦ absurd (let z = t.1 in omega (arith, z)) | inr t ↦ absurd (not_true (sym t.0 ∙ sym is ∙ e)) ]

pub is_some_edit : (edits : List Edit) (b : Bool) → b ≡ (length edits == 0) → b ≡ false → edits ≡ [] → ⊥
is_some_edit edits b is e none = not_true (sym (sym is ∙ e) ∙ ap (λ (es : List Edit). length es == 0) none)

pub nothing_told : (edits : List Edit) (created : List NodeId) (old : FileState) → edits ≡ [] → created ≡ [] → IfSome old.device.held (IsGroupOf edits (Ok created) old old)
nothing_told edits created old none made = subst (λ (es : List Edit). IfSome old.device.held (IsGroupOf es (Ok created) old old)) (sym none)
    (of_told (IsGroupOf [] (Ok created) old old) old.device.held (nothing_done created old made))
