-- A group on its way, whether files are told or not: what it then answers and leaves.
use Rattle.std.proofs.Common.{◌≡◌, ◌≢◌, ◌⊎◌, inl, inr, ℕ, zero, suc, ◌<◌, false, List, [], ◌∷◌, length, refl, sym, ◌∙◌, ap, subst, arith}
use Rattle.std.specs.Prelude.{Option, Some, None, IsSome, IfSome, IsTrue, is_some, slice_get, slice_set, Ok, Err}
use Rattle.std.proofs.lemmas.Option.{slice_get_within}
use Rattle.adf_model.specs.declared.error.AdfError.{AdfError}
use Rattle.adf_model.specs.declared.error.AdfError.TheVariants.{WriteFault}
use Rattle.adf_model.specs.declared.tree.Edit.{Edit}
use Rattle.adf_model.specs.declared.tree.Edit.TheVariants.{Create, Delete, Rename, Move, SetLabel, SetDims, PutAll, PutPart, Link}
use Rattle.adf_model.specs.declared.tree.NodeId.{NodeId}
use Rattle.adf_model.specs.Tests.{first_refusal}
use Rattle.adf_model.specs.Edits.{named_nodes, followed}
use Rattle.adf_model.specs.Slots.{Slot, Standing, Files, Devices, slot_at, is_gone, open_of, open_at, with_slot, device_at, names_there, standings}
use Rattle.adf_model.specs.Slots.Slot.{Gone, Raw, Saved, Live}
use Rattle.adf_model.specs.Calls.{tests_of_files}
use Rattle.adf_model.specs.Steps.{OthersOnlyRead, OthersStayPlaced, WriteFailed, own_file, MayEdit}
use Rattle.adf_model.specs.Causes.{RefusalLeaves, IsIndex, EntersFiles, ChangedAnyway, may_refuse_edit}
use Rattle.adf_model.proofs.Basics.{not_true, not_there, same_Some}
use Rattle.adf_model.proofs.Answering.Asking.{stays-trans}
use Rattle.adf_model.proofs.Answering.StandingLaws.{standings_with, names_with}
use Rattle.adf_follow.specs.Groups.{FileWork, OnlyWaits, IsDoneAnyway, IsRefusedAnyway}
use Rattle.adf_follow.proofs.Waits.{waits_none}
use Rattle.adf_follow.proofs.GroupEnds.{all_others, all_placed, failed_after}
use Rattle.adf_follow.proofs.Standings.{same_standing, same_tests, enters_alike, cause_waits, editing_opens}

-- the first edits, as many as i, are done: none of them was refused by the files alone, and their file may be edited
pub record IsGoing (files : Files) (before : Devices) (edits : List Edit) (i : ℕ) (group : Option ℕ) (mid : Devices) (now : Files) : Type 0 where
  pub begun : group ≡ None → i ≡ 0
  pub own : (n : ℕ) → group ≡ Some n → MayEdit files edits n
  pub passed : (k : ℕ) (edit : Edit) → k < i → slice_get edits k ≡ Some edit → first_refusal (tests_of_files files (named_nodes edit)) ≡ None
  pub waits : OnlyWaits files before mid now

pub going_begins : (files : Files) (before : Devices) (edits : List Edit) → IsGoing files before edits 0 None before files
going_begins files before edits = record {
  begun = λ e. refl;
  own = λ n e. absurd (not_there n e);
  passed = λ k edit less is. absurd (none_less k less);
  waits = waits_none files before;
}
  where
    none_less : (k : ℕ) → k < 0 → ⊥
    none_less k less = omega (arith, less)

pub waits_more : (files now after : Files) (before mid later : Devices) → OnlyWaits files before mid now → OnlyWaits now mid later after → OnlyWaits files before later after
waits_more files now after before mid later first then = record {
  devices = stays-trans before mid later first.devices then.devices;
  placed = λ n apart. then.placed n apart ∙ first.placed n apart;
  standing = then.standing ∙ first.standing;
  names = then.names ∙ first.names;
}

-- ---- one edit further

one_less : (k i : ℕ) → k < suc i → (k < i) ⊎ (k ≡ i)
one_less zero zero less = inr refl
one_less zero (suc i) less = inl (omega arith)
one_less (suc k) zero less = absurd (too_many k less)
  where
    too_many : (k : ℕ) → suc k < 1 → ⊥
    too_many k less = omega (arith, less)
one_less (suc k) (suc i) less = elim (one_less k i (omega (arith, less))) [ inl h ↦ inl (omega (arith, h)) | inr h ↦ inr (ap suc h) ]

-- the file that a group names is the one that its first edit names
own_of_first : (edits : List Edit) (edit : Edit) → slice_get edits 0 ≡ Some edit → own_file edits ≡ own_file (edit ∷ [])
own_of_first [] edit e = absurd (not_there edit e)
own_of_first (first ∷ edits) edit e = by_kind first ∙ ap (λ x. own_file (x ∷ [])) (same_Some first edit e)
  where
    by_kind : (x : Edit) → own_file (x ∷ edits) ≡ own_file (x ∷ [])
    by_kind (Delete node) = refl
    by_kind (Rename node wanted) = refl
    by_kind (Move node to) = refl
    by_kind (Create at wanted label) = refl
    by_kind (SetLabel node label) = refl
    by_kind (SetDims node shape) = refl
    by_kind (PutAll node given) = refl
    by_kind (PutPart node selection given) = refl
    by_kind (Link at wanted file path) = refl

module _ (files now : Files) (before mid : Devices) (edits : List Edit) (i : ℕ) (group : Option ℕ) (going : IsGoing files before edits i group mid now) where
  -- the file of a group under way is open
  pub group_is_open : (n : ℕ) → group ≡ Some n → IsSome (open_at now n)
  group_is_open n e = editing_opens (slot_at now n) (same_standing now files going.waits.standing n ∙ (going.own n e).0)

  pub goes_on : (edit : Edit) (later : Devices) (after : Files) (was work : ℕ → FileWork) (number : ℕ) → slice_get edits i ≡ Some edit → OnlyWaits now mid later after → IsDoneAnyway now after was work group edit number
      → IsGoing files before edits (suc i) (Some number) later after
  goes_on edit later after was work number is waits done = record {
    begun = λ e. absurd (not_there number (sym e));
    own = λ n e. subst (MayEdit files edits) (same_Some number n e) may;
    passed = λ k other less there. elim (one_less k i less) [
      | inl before ↦ going.passed k other before there
      | inr at ↦ subst (λ (x : Edit). first_refusal (tests_of_files files (named_nodes x)) ≡ None) (same_Some edit other (sym is ∙ ap (slice_get edits) (sym at) ∙ there))
          (ap first_refusal (sym (same_tests now files going.waits.standing (named_nodes edit))) ∙ done.entered)
    ];
    waits = waits_more files now after before mid later going.waits waits;
  }
    where
      may : MayEdit files edits number
      may = elim done.own [
        | inl none ↦ (
          sym (same_standing now files going.waits.standing number) ∙ done.editing,
          subst (λ (o : Option ℕ). IfSome o (λ own. number ≡ own)) (sym (own_of_first edits edit (ap (slice_get edits) (sym (going.begun none)) ∙ is))) done.named,
        )
        | inr one ↦ going.own number one
      ]

  -- ---- an edit is refused

  not_write : (edit : Edit) → IsTrue (may_refuse_edit edit WriteFault) → ⊥
  not_write (Create at wanted label) h = not_true h
  not_write (Delete node) h = not_true h
  not_write (Rename node wanted) h = not_true h
  not_write (Move node to) h = not_true h
  not_write (SetLabel node label) h = not_true h
  not_write (SetDims node shape) h = not_true h
  not_write (PutAll node given) h = not_true h
  not_write (PutPart node selection given) h = not_true h
  not_write (Link at wanted file path) h = not_true h

  pub edit_no_write : (edit : Edit) (later : Devices) (error : AdfError) → IsRefusedAnyway now mid later edit error → error ≢ WriteFault
  edit_no_write edit later error refused e = not_write edit (subst (λ x. IsTrue (may_refuse_edit edit x)) e refused.kind)

  pub stops_anyway : (edit : Edit) (later : Devices) (after last : Files) (error : AdfError) → slice_get edits i ≡ Some edit → OnlyWaits now mid later after → IsRefusedAnyway now mid later edit error → last ≡ files
      → ChangedAnyway {A = List NodeId} files before edits (Err (record { at = i; error = error })) later last
  stops_anyway edit later after last error is waits refused same = record {
    leaves = leaves error (edit_no_write edit later error refused);
    names = ap names_there same;
    entry = record {
      passed = going.passed;
      index = index error (edit_no_write edit later error refused);
      refused = λ other there. subst (λ (x : Edit). EntersFiles {A = Unit {0}} files (named_nodes x) (is_some (followed x)) (Err error)) (same_Some edit other (sym is ∙ there))
          (enters_alike now files going.waits.standing (named_nodes edit) (is_some (followed edit)) error refused.entry);
    };
    cause = cause_waits files now before mid later error going.waits refused.cause;
    kind = λ other there. subst (λ (x : Edit). IsTrue (may_refuse_edit x error)) (same_Some edit other (sym is ∙ there)) refused.kind;
  }
    where
      all : OnlyWaits files before later after
      all = waits_more files now after before mid later going.waits waits

      leaves : (x : AdfError) → x ≢ WriteFault → RefusalLeaves x files before edits later last
      leaves WriteFault other = absurd (other refl)
      leaves x other = (ap standings same, all.devices, all.placed)

      index : (x : AdfError) → x ≢ WriteFault → IsIndex edits i x
      index WriteFault other = absurd (other refl)
      index x other = slice_get_within edits i edit is

-- ---- all edits are done

module _ (files now : Files) (before mid : Devices) (edits : List Edit) (group : Option ℕ) (going : IsGoing files before edits (length edits) group mid now) where
  pub none_anyway : (created : List NodeId) → group ≡ None → ChangedAnyway files before edits (Ok created) mid now
  none_anyway created none = record {
    leaves = record { one = None; own = tt; others = going.waits.devices; placed = going.waits.placed; standing = going.waits.standing };
    names = going.waits.names;
    entry = record { passed = going.passed; index = tt; refused = tt };
    cause = tt;
    kind = tt;
  }

  module _ (n : ℕ) (is : group ≡ Some n) (later : Devices) (others : OthersOnlyRead (Some n) mid later) (placed : OthersStayPlaced (Some n) mid later) where
    pub ends_anyway : (last : Files) (created : List NodeId) → last ≡ now → ChangedAnyway files before edits (Ok created) later last
    ends_anyway last created same = record {
      leaves = record {
        one = Some n;
        own = going.own n is;
        others = all_others before mid later n going.waits.devices going.waits.placed others placed;
        placed = all_placed before mid later n going.waits.devices going.waits.placed others placed;
        standing = ap standings same ∙ going.waits.standing;
      };
      names = ap names_there same ∙ going.waits.names;
      entry = record { passed = going.passed; index = tt; refused = tt };
      cause = tt;
      kind = tt;
    }

    pub breaks_anyway : (last : Files) (error : AdfError) → error ≡ WriteFault → last ≡ with_slot now n Slot.Broken → WriteFailed (device_at mid n) (device_at later n)
        → ChangedAnyway {A = List NodeId} files before edits (Err (record { at = length edits; error = error })) later last
    breaks_anyway last error write broken failed = subst (λ x. ChangedAnyway {A = List NodeId} files before edits (Err (record { at = length edits; error = x })) later last) (sym write) (record {
      leaves = record {
        number = n;
        own = going.own n is;
        others = all_others before mid later n going.waits.devices going.waits.placed others placed;
        placed = all_placed before mid later n going.waits.devices going.waits.placed others placed;
        failed = failed_after before mid later n going.waits.devices going.waits.placed others placed failed;
        standing = ap standings broken ∙ standings_with now n Slot.Broken ∙ ap (λ (s : List Standing). slice_set s n Standing.Failed) going.waits.standing;
      };
      names = ap names_there broken ∙ names_with now n Slot.Broken (sym not_gone) ∙ going.waits.names;
      entry = record { passed = going.passed; index = refl; refused = λ edit there. absurd (behind edit there) };
      cause = refl;
      kind = λ edit there. absurd (behind edit there);
    })
      where
        not_gone : is_gone (slot_at now n) ≡ false
        not_gone = by_slot (slot_at now n) (group_is_open files now before mid edits (length edits) group going n is)
          where
            by_slot : (slot : Slot) → IsSome (open_of slot) → is_gone slot ≡ false
            by_slot (Live opened) e = refl
            by_slot Gone e = absurd (not_true e)
            by_slot Raw e = refl
            by_slot (Saved tree) e = refl
            by_slot Slot.Broken e = refl

        behind : (edit : Edit) → slice_get edits (length edits) ≡ Some edit → ⊥
        behind edit there = let within = slice_get_within edits (length edits) edit there in omega (arith, within)
