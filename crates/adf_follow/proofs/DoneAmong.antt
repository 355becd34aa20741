-- Edits of one open file that are done on its tree are done among many files.
use Rattle.std.proofs.Common.{◌≡◌, ◌⊎◌, inl, inr, ℕ, zero, suc, ◌+◌, true, List, [], ◌∷◌, ◌++◌, refl, sym, ◌∙◌, ap, subst, append_assoc, append-nil, arith}
use Rattle.std.specs.Prelude.{Option, Some, None, slice_get, take, Result, Ok, Err}
use Rattle.std.specs.List.{AllByRecursion}
use Rattle.adf_format.specs.Tree.{Tree}
use Rattle.adf_model.specs.declared.error.AdfError.{AdfError}
use Rattle.adf_model.specs.declared.error.EditError.{EditError}
use Rattle.adf_model.specs.declared.tree.Edit.{Edit}
use Rattle.adf_model.specs.Tests.{and_then}
use Rattle.adf_model.specs.Edits.{Work, at_edit, apply, created_by, reach_tests, file_step, file_group_from}
use Rattle.adf_model.specs.Need.{need}
use Rattle.adf_model.specs.FileGroup.{done_then, done_by}
use Rattle.adf_model.specs.Slots.{Open, Files, open_at, with_slot}
use Rattle.adf_model.specs.Slots.Slot.{Live}
use Rattle.adf_model.specs.OneFile.{StandsIn}
use Rattle.adf_model.specs.Calls.{Group, group_after, group_from}
use Rattle.tree_laws.specs.Groups.{group_need}
use Rattle.adf_model.proofs.Basics.{not_Err, same_Ok, same_Some, not_there, not_false, passed}
use Rattle.adf_model.proofs.Answering.LayoutLemmas.{live_slot}
use Rattle.adf_model.proofs.Following.StepTests.{step_tests}
use Rattle.adf_model.proofs.Following.OneFileLaws.{in_its_file, opened_now, slot_twice}

-- ---- lists

pub all_get : {A : Type 0} (P : A → Type 0) (xs : List A) (i : ℕ) (x : A) → AllByRecursion P xs → slice_get xs i ≡ Some x → P x
all_get P [] zero x all e = absurd (not_there x e)
all_get P [] (suc i) x all e = absurd (not_there x e)
all_get P (y ∷ xs) zero x all e = subst P (same_Some y x e) all.0
all_get P (y ∷ xs) (suc i) x all e = all_get P xs i x all.1 e

pub all_take : {A : Type 0} (P : A → Type 0) (xs : List A) (i : ℕ) → AllByRecursion P xs → AllByRecursion P (take i xs)
all_take P [] zero all = tt
all_take P [] (suc i) all = tt
all_take P (x ∷ xs) zero all = tt
all_take P (x ∷ xs) (suc i) all = (all.0, all_take P xs i all.1)

-- ---- a file with its own state

pub same_slot : (files : Files) (number : ℕ) (opened : Open) → open_at files number ≡ Some opened → with_slot files number (Live opened) ≡ files
same_slot [] number opened e = refl
same_slot (file ∷ files) zero opened e = ap (λ s. record file { slot = s } ∷ files) (sym (live_slot file.slot opened e))
same_slot (file ∷ files) (suc number) opened e = ap (λ (fs : Files). file ∷ fs) (same_slot files number opened e)

-- ---- edits one after another

-- the file of a group after some edits
abbrev pub file_after : ℕ → Option ℕ → List Edit → Option ℕ
file_after number file [] = file
file_after number file (edit ∷ edits) = Some number

after_some : (number : ℕ) (edits : List Edit) → file_after number (Some number) edits ≡ Some number
after_some number [] = refl
after_some number (edit ∷ edits) = refl

-- they are done, with the same tree, the same nodes made and the same edits done; and where there are any, the file may be edited
pub record DoneAmong (number from : ℕ) (group : Group) (opened : Open) (edits : List Edit) (work : Work) : Type 0 where
  pub last : Group
  pub through : group_from from group edits ≡ Ok last
  pub left : last.files ≡ with_slot group.files number (Live (record opened { tree = work.tree }))
  pub made : last.created ≡ work.created
  pub done : last.done ≡ group.done ++ done_by opened.writable opened.tree edits
  pub needed : last.needed ≡ group.needed + group_need opened.tree (done_by opened.writable opened.tree edits)
  pub file : last.file ≡ file_after number group.file edits
  pub may : (edits ≡ []) ⊎ (opened.writable ≡ true)

one_file_step : (r : Result Tree AdfError) (at : ℕ) (next : Tree → Result Work EditError) (work : Work) → at_edit at r next ≡ Ok work → (tree : Tree) × (r ≡ Ok tree) × (next tree ≡ Ok work)
one_file_step (Ok tree) at next work e = (tree, refl, e)
one_file_step (Err error) at next work e = absurd (not_Err e)

-- an edit that is done is one of a file that may be edited
may_edit : (writable : _) (tree after : Tree) (edit : Edit) → file_step writable tree edit ≡ Ok after → writable ≡ true
may_edit writable tree after edit e = not_false writable (passed (reach_tests tree edit ++ (_, AdfError.ReadOnly) ∷ []) (apply tree edit) after (sym (step_tests writable tree edit) ∙ e)).0.1.1.0

pub done_among : (number from : ℕ) (group : Group) (opened : Open) (edits : List Edit) (work : Work) → open_at group.files number ≡ Some opened → (group.file ≡ None) ⊎ (group.file ≡ Some number) → AllByRecursion (StandsIn number) edits
    → file_group_from opened.writable from (record { tree = opened.tree; created = group.created }) edits ≡ Ok work → DoneAmong number from group opened edits work
done_among number from group opened [] work here own stand e = record {
  last = group;
  through = refl;
  left = sym (same_slot group.files number opened here) ∙ ap (λ (w : Work). with_slot group.files number (Live (record opened { tree = w.tree }))) (same_Ok e);
  made = ap (λ (w : Work). w.created) (same_Ok e);
  done = sym (append-nil group.done);
  needed = omega arith;
  file = refl;
  may = inl refl;
}
done_among number from group opened (edit ∷ edits) work here own stand e =
    let one = one_file_step (file_step opened.writable opened.tree edit) from (λ tree. file_group_from opened.writable (suc from) (record { tree = tree; created = group.created ++ created_by opened.tree edit }) edits) work e in
    let step = in_its_file group number opened edit here own stand.0 (λ h. not_Err (sym h ∙ one.1)) ∙ ap (λ r. and_then r (λ (tree : Tree). Ok (group_after group number opened edit tree))) one.1 in
    let next = record opened { tree = one.0 } in
    let rest = done_among number (suc from) (group_after group number opened edit one.0) next edits work (opened_now group.files number opened next here) (inr refl) stand.1 one.2 in
    record {
      last = rest.last;
      through = ap (λ r. at_edit from r (λ (g : Group). group_from (suc from) g edits)) step ∙ rest.through;
      left = rest.left ∙ slot_twice group.files number (Live next) (Live (record opened { tree = work.tree }));
      made = rest.made;
      done = rest.done ∙ append_assoc group.done ((edit, one.0) ∷ []) (done_by opened.writable one.0 edits)
          ∙ sym (ap (λ r. group.done ++ done_then r (λ (after : Tree). (edit, after) ∷ done_by opened.writable after edits)) one.1);
      needed = (
          let later = rest.needed in
          let this : group_need opened.tree (done_by opened.writable opened.tree (edit ∷ edits)) ≡ need opened.tree edit + group_need one.0 (done_by opened.writable one.0 edits) =
          ap (λ r. group_need opened.tree (done_then r (λ (after : Tree). (edit, after) ∷ done_by opened.writable after edits))) one.1 in
          omega (arith, later, this));
      file = rest.file ∙ after_some number edits;
      may = inr (may_edit opened.writable opened.tree one.0 edit one.1);
    }
