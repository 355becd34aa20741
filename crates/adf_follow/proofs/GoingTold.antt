-- A group on its way where files are told, or its own file alone.
use Rattle.std.proofs.Common.{◌≡◌, ◌⊎◌, inl, inr, ℕ, suc, ◌+◌, List, [], ◌∷◌, ◌++◌, take, refl, sym, ◌∙◌, ap, subst, arith}
use Rattle.std.specs.Prelude.{Option, Some, None, IsSome, map, slice_get, Ok, Err}
use Rattle.adf_format.specs.Tree.{Tree}
use Rattle.adf_model.specs.declared.error.AdfError.{AdfError}
use Rattle.adf_model.specs.declared.error.AdfError.TheVariants.{LinkMissing}
use Rattle.adf_model.specs.declared.tree.Edit.{Edit}
use Rattle.adf_model.specs.declared.tree.Edit.TheVariants.{Create, Delete, Rename, Move, SetLabel, SetDims, PutAll, PutPart, Link}
use Rattle.adf_model.specs.declared.tree.NodeId.{NodeId}
use Rattle.adf_model.specs.Edits.{Work, named_nodes, created_by, file_step, file_group}
use Rattle.adf_model.specs.Slots.{Open, Files, Devices, AreTrees, slot_at, open_at, device_at, IsToldAt, IsTold}
use Rattle.adf_model.specs.Calls.{tests_at_entry}
use Rattle.adf_model.specs.OneFile.{StandsIn}
use Rattle.adf_model.specs.Steps.{HasCauseOf, AllLaidOut, Changed, Step}
use Rattle.adf_model.specs.Runs.{EditsTold}
use Rattle.adf_model.proofs.Basics.{not_there, same_Some}
use Rattle.adf_model.proofs.Answering.LayoutLemmas.{laid_out_trees}
use Rattle.adf_model.proofs.Following.OneFileLaws.{opened_now}
use Rattle.adf_model.proofs.Keeping.GroupKeeps.{edit_group_keeps}
use Rattle.tree_laws.proofs.Groups.GroupLoop.{made_more, group_stops}
use Rattle.adf_follow.specs.Looking.{IsToldIn}
use Rattle.adf_follow.specs.Groups.{FileWork, at_rest, OnlyWaits, if_drawn, made_in, IsEditTold, IsToldBy, IsDone, IsEditRefusal, IsRefusedAnyway, IsUnderWay}
use Rattle.adf_follow.proofs.Entered.{refused_passes}
use Rattle.adf_follow.proofs.DoneEdit.{first_has, own_reached}
use Rattle.adf_follow.proofs.DoneAmong.{all_get}
use Rattle.adf_follow.proofs.UnderWay.{goes_further}
use Rattle.adf_follow.proofs.GroupEnds.{begins, stops}
use Rattle.adf_follow.proofs.Standings.{same_gone, fault_waits}
use Rattle.adf_follow.proofs.Dropped.{not_none}
use Rattle.adf_follow.proofs.Going.{IsGoing, waits_more, group_is_open, edit_no_write}

-- a group of one file that tells has done its first edits on the tree of that file
pub record IsOneGoing (files : Files) (before : Devices) (edits : List Edit) (i : ℕ) (group : Option ℕ) (now : Files) (t : EditsTold files before edits) : Type 0 where
  pub work : Work
  pub made : file_group t.opened.writable t.opened.tree (take i edits) ≡ Ok work
  pub here : open_at now t.number ≡ Some (record t.opened { tree = work.tree })
  pub own : (n : ℕ) → group ≡ Some n → n ≡ t.number

pub record IsGoingTold (files : Files) (before : Devices) (edits : List Edit) (i : ℕ) (group : Option ℕ) (created : List NodeId) (work : ℕ → FileWork) (now : Files) : Type 0 where
  pub way : IsUnderWay files before edits i group created work now
  pub one : (t : EditsTold files before edits) → IsOneGoing files before edits i group now t

-- the files are told, or the one of the group
abbrev pub IsGroupTold : Files → Devices → List Edit → Type 0
IsGroupTold files before edits = IsTold files before ⊎ EditsTold files before edits

pub told_begins : (files : Files) (before : Devices) (edits : List Edit) (work : ℕ → FileWork) → ((n : ℕ) → work n ≡ at_rest (device_at before n)) → IsGoingTold files before edits 0 None [] work files
told_begins files before edits work rest = record {
  way = begins files before edits work rest;
  one = λ t. record {
    work = record { tree = t.opened.tree; created = [] };
    made = ap (file_group t.opened.writable t.opened.tree) (none_taken edits);
    here = t.live;
    own = λ n e. absurd (not_there n e);
  };
}
  where
    none_taken : (edits : List Edit) → take 0 edits ≡ []
    none_taken [] = refl
    none_taken (edit ∷ edits) = refl

-- ---- the node that an edit made

abbrev first_in : List (Option ℕ) → Option ℕ
first_in [] = None
first_in (serial ∷ serials) = serial

one_made : (number file n : ℕ) (serial : Option ℕ) → file ≡ number → Some n ∷ [] ≡ if_drawn serial → made_in number serial ≡ record { file = file; serial = n } ∷ []
one_made number file n None at e = absurd (some_none e)
  where
    some_none : ◌≡◌ {A = List (Option ℕ)} (Some n ∷ []) [] → ⊥
    some_none e = cc
one_made number file n (Some serial) at e = ap (λ (f : ℕ). record { file = f; serial = serial } ∷ []) (sym at) ∙ ap (λ (s : ℕ). record { file = file; serial = s } ∷ []) (sym (same_Some n serial (ap first_in e)))

none_made : (number : ℕ) (serial : Option ℕ) → [] ≡ if_drawn serial → made_in number serial ≡ []
none_made number None e = refl
none_made number (Some serial) e = absurd (none_some e)
  where
    none_some : ◌≡◌ {A = List (Option ℕ)} [] (Some serial ∷ []) → ⊥
    none_some e = cc

made_is : (number : ℕ) (tree : Tree) (edit : Edit) (serial : Option ℕ) → StandsIn number edit → map (λ (node : NodeId). Some node.serial) (created_by tree edit) ≡ if_drawn serial → made_in number serial ≡ created_by tree edit
made_is number tree (Create at wanted label) serial s e = one_made number at.file _ serial s.0 e
made_is number tree (Link at wanted file path) serial s e = one_made number at.file _ serial s.0 e
made_is number tree (Delete node) serial s e = none_made number serial e
made_is number tree (Rename node wanted) serial s e = none_made number serial e
made_is number tree (Move node to) serial s e = none_made number serial e
made_is number tree (SetLabel node label) serial s e = none_made number serial e
made_is number tree (SetDims node shape) serial s e = none_made number serial e
made_is number tree (PutAll node given) serial s e = none_made number serial e
made_is number tree (PutPart node selection given) serial s e = none_made number serial e

module _ (files now : Files) (before mid : Devices) (edits : List Edit) (i : ℕ) (group : Option ℕ) (created : List NodeId) (work : ℕ → FileWork) (going : IsGoing files before edits i group mid now) (told : IsGoingTold files before edits i group created work now) where
  told_now : (n : ℕ) → IsToldAt (slot_at files n) (device_at before n) → IsToldIn now mid n
  told_now n h there = subst IsSome (sym (going.waits.devices.others n (not_none n)).held) (h (sym (same_gone now files going.waits.standing n) ∙ there))

  -- the edit that comes next is told
  edit_told : (edit : Edit) → slice_get edits i ≡ Some edit → (t : EditsTold files before edits) → IsEditTold now mid edit
  edit_told edit is t = record {
    number = t.number;
    opened = record t.opened { tree = (told.one t).work.tree };
    live = (told.one t).here;
    told = told_now t.number (λ there. t.told);
    stands = all_get (StandsIn t.number) edits i edit t.stands is;
    no_link = λ e. t.no_link i (group_stops t.opened.writable edits i edit t.opened.tree (told.one t).work LinkMissing is (told.one t).made e);
  }

  pub next_told : AllLaidOut files before → (edit : Edit) → slice_get edits i ≡ Some edit → IsGroupTold files before edits → IsToldBy now mid edit
  next_told laid edit is all = elim all [
    | inl every ↦ inl ((λ n. told_now n (every n)), subst AreTrees (sym told.way.trees) (edit_group_keeps files (take i edits) told.way.group (laid_out_trees files before every laid) told.way.through))
    | inr t ↦ inr (edit_told edit is t)
  ]

  -- the file of the group is told
  pub file_told : (n : ℕ) → group ≡ Some n → IsGroupTold files before edits → IsToldIn now mid n
  file_told n own all = elim all [
    | inl every ↦ told_now n (every n)
    | inr t ↦ subst (IsToldIn now mid) (sym ((told.one t).own n own)) (told_now t.number (λ there. t.told))
  ]

  module _ (edit : Edit) (is : slice_get edits i ≡ Some edit) (after : Files) (next : ℕ → FileWork) (number : ℕ) (serial : Option ℕ) (done : IsDone now after work next group edit number serial) where
    one_on : (t : EditsTold files before edits) → IsOneGoing files before edits (suc i) (Some number) after t
    one_on t =
        let o = told.one t in
        let s = done.stepped in
        let itself : done.reached ≡ edit = own_reached now mid edit (refused_passes (tests_at_entry now (named_nodes edit)) done.entered) (edit_told edit is t) done.reached done.leads in
        let at : number ≡ t.number = sym (first_has (λ (n : NodeId). n.file ≡ number) edit (subst (StandsIn number) itself done.stands)) ∙ first_has (λ (n : NodeId). n.file ≡ t.number) edit (all_get (StandsIn t.number) edits i edit t.stands is) in
        let opened : s.opened ≡ record t.opened { tree = o.work.tree } = same_Some s.opened (record t.opened { tree = o.work.tree }) (sym s.here ∙ ap (open_at now) at ∙ o.here) in
        let step : file_step t.opened.writable o.work.tree edit ≡ Ok s.tree = ap (file_step t.opened.writable o.work.tree) (sym itself) ∙ ap (λ (x : Open). file_step x.writable x.tree done.reached) (sym opened) ∙ s.step.made in
        record {
          work = record { tree = s.tree; created = o.work.created ++ created_by o.work.tree edit };
          made = made_more t.opened.writable edits i edit t.opened.tree o.work s.tree is o.made step;
          here = ap (open_at after) (sym at) ∙ ap (λ (f : Files). open_at f number) s.left ∙ opened_now now number s.opened (record s.opened { tree = s.tree }) s.here ∙ ap (λ (x : Open). Some (record x { tree = s.tree })) opened;
          own = λ n e. sym (same_Some number n e) ∙ at;
        }

    pub told_on : AllLaidOut files before → IsGroupTold files before edits → (made : List NodeId) → made ≡ created ++ made_in number serial → IsGoingTold files before edits (suc i) (Some number) made next after
    told_on laid all made is_made = record {
      way = subst (λ (c : List NodeId). IsUnderWay files before edits (suc i) (Some number) c next after) (sym (is_made ∙ ap (λ (c : List NodeId). created ++ c) (made_is number done.stepped.opened.tree done.reached serial done.stands done.stepped.drawn)))
          (subst (λ k. IsUnderWay files before edits k (Some number) (created ++ created_by done.stepped.opened.tree done.reached) next after) one_more further);
      one = one_on;
    }
      where
        one_more : i + 1 ≡ suc i
        one_more = omega arith

        further : IsUnderWay files before edits (i + 1) (Some number) (created ++ created_by done.stepped.opened.tree done.reached) next after
        further = goes_further files now after before edits i number group created work next edit done.reached done.stepped.opened done.stepped.tree told.way
            (elim (next_told laid edit is all) [ inl every ↦ inl every.1 | inr one ↦ inr (own_reached now mid edit (refused_passes (tests_at_entry now (named_nodes edit)) done.entered) one done.reached done.leads) ])
            is done.entered done.leads done.stepped.here done.own done.stands done.stepped.step done.stepped.left

  -- an edit is refused
  pub stops_told : AllLaidOut files before → IsGroupTold files before edits → (edit : Edit) (later : Devices) (after last : Files) (error : AdfError) → slice_get edits i ≡ Some edit → OnlyWaits now mid later after → IsEditRefusal now work group edit error
      → IsRefusedAnyway now mid later edit error → last ≡ files → Step files before (Changed edits (Err (record { at = i; error = error }))) later last
  stops_told laid all edit later after last error is waits refusal anyway same =
      subst (λ (f : Files). Step files before (Changed edits (Err (record { at = i; error = error }))) later f) (sym same) (
      stops files now before later edits i edit group created work error told.way (group_is_open files now before mid edits i group going)
      (record {
        devices = (waits_more files now after before mid later going.waits waits).devices;
        placed = (waits_more files now after before mid later going.waits waits).placed;
        standing = going.waits.standing;
        names = going.waits.names;
      })
      (told_later (next_told laid edit is all)) laid is refusal (edit_no_write files now before mid edits i group going edit later error anyway)
      (λ e. fault_waits files now before mid later going.waits (subst (λ x. HasCauseOf now mid later x) e anyway.cause)))
    where
      still : (n : ℕ) → IsToldIn now mid n → IsToldIn now later n
      still n h there = subst IsSome (sym (waits.devices.others n (not_none n)).held) (h there)

      told_later : IsToldBy now mid edit → IsToldBy now later edit
      told_later h = elim h [
        | inl every ↦ inl ((λ n. still n (every.0 n)), every.1)
        | inr one ↦ inr (record { number = one.number; opened = one.opened; live = one.live; told = still one.number one.told; stands = one.stands; no_link = one.no_link })
      ]
