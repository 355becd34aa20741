-- The parts of an open file stand where the heap rule puts them.
use Rattle.std.proofs.Common.{◌≡◌, ◌≢◌, ℕ, zero, suc, ◌≤◌, not, List, [], ◌∷◌, refl, sym, ◌∙◌, ap, subst, arith, inl, inr}
use Rattle.std.specs.Prelude.{Option, Some, None, IsSome, IfSome, IfOk, ◌==◌, if◌then◌else◌, unwrap_or, Result, Ok, Err}
use Rattle.std.specs.List.{list_any}
use Rattle.std.proofs.lemmas.Bool.Decides.{eqb_tells}
use Rattle.std.proofs.lemmas.Option.{slice_get_past}
use Rattle.adf_format.specs.Placement.{Placement}
use Rattle.adf_model.specs.declared.error.AdfError.{AdfError}
use Rattle.adf_model.specs.declared.error.AdfError.TheVariants.{Memory, WriteFault}
use Rattle.adf_model.specs.declared.tree.Edit.{Edit}
use Rattle.adf_model.specs.declared.tree.NodeId.{NodeId}
use Rattle.adf_model.specs.Edits.{apply, named_nodes}
use Rattle.adf_model.specs.Slots.{Open, Slot, File, Files, Devices, slot_of, slot_at, open_of, open_at, with_slot, device_at, IsTold}
use Rattle.adf_model.specs.Slots.Slot.{Gone, Raw, Saved, Live}
use Rattle.adf_model.specs.Calls.{Group, tests_at_entry, resolve, group_of, file_of, file_of_group, group_after, edit_reached, group_step, group_from, edit_group}
use Rattle.adf_model.specs.Steps.{OthersStayPlaced, placed_anew, closed, Opening, IsOpening, OfGroup, IsPlaced, IsGroupRefusal, Edited, Call, Opened, Closed, Discarded, Asked, Changed, Skipped, Misread, Step}
use Rattle.adf_model.proofs.Basics.{not_true, not_there, same_Some, same_Ok, passed, found, done}
use Rattle.adf_model.proofs.Keeping.GroupKeeps.{one_step}
use Rattle.adf_model.proofs.Answering.CostLaws.{file_was_open}
use Rattle.adf_model.proofs.Answering.RunLaws.{told_for}
use Rattle.adf_follow.specs.Runs.{if_placed, placed_on, placed_in, placed_by_group, placed_by, RunPlaces, StandsAt}

-- ---- one slot among others

other_slot : (files : Files) (number n : ℕ) (slot : Slot) → n ≢ number → open_at (with_slot files number slot) n ≡ open_at files n
other_slot [] number n slot apart = refl
other_slot (file ∷ files) zero zero slot apart = absurd (apart refl)
other_slot (file ∷ files) zero (suc n) slot apart = refl
other_slot (file ∷ files) (suc number) zero slot apart = refl
other_slot (file ∷ files) (suc number) (suc n) slot apart = other_slot files number n slot (λ e. apart (ap suc e))

own_slot : (files : Files) (number : ℕ) (slot : Slot) → open_of slot ≡ None → open_at (with_slot files number slot) number ≡ None
own_slot [] number slot e = let none : 0 ≤ number = omega arith in ap (λ (o : Option File). open_of (slot_of o)) (slice_get_past [] number none)
own_slot (file ∷ files) zero slot e = e
own_slot (file ∷ files) (suc number) slot e = own_slot files number slot e

not_open : (slot : Slot) → open_of (closed slot) ≡ None
not_open Gone = refl
not_open Raw = refl
not_open (Saved tree) = refl
not_open (Live opened) = refl
not_open Slot.Broken = refl

none_some : {A : Type 0} (o : Option A) → o ≡ None → IsSome o → ⊥
none_some None e there = not_true there
none_some (Some a) e there = not_there a (sym e)

-- ---- a group changes its own file alone

abbrev Spares : Files → Group → Type 0
Spares files group = (n : ℕ) → Some n ≢ group.file → open_at group.files n ≡ open_at files n

begun_other : (file : Option ℕ) (other n : ℕ) → n ≢ unwrap_or file other → Some n ≢ file
begun_other None other n apart e = absurd (not_there n (sym e))
begun_other (Some number) other n apart e = apart (same_Some n number e)

spares_step : (files : Files) (group next : Group) (edit : Edit) → Spares files group → group_step group edit ≡ Ok next → Spares files next
spares_step files group next edit spares e =
    let entry = passed (tests_at_entry group.files (named_nodes edit)) _ next e in
    let reached = done (resolve group.files edit) (λ reached. edit_reached group reached) next entry.1 in
    let number = file_of_group group reached.0 in
    let at = found (open_at group.files number) AdfError.NotOpen _ next reached.2 in
    let tests = passed ((list_any (λ (node : NodeId). not (node.file == number)) (named_nodes reached.0), AdfError.OtherFile) ∷ (not at.0.writable, AdfError.ReadOnly) ∷ []) _ next at.2 in
    let tree = done (apply at.0.tree reached.0) (λ tree. Ok (group_after group number at.0 reached.0 tree)) next tests.1 in
    subst (Spares files) (same_Ok tree.2) (λ n apart.
    let other : n ≢ number = λ e. apart (ap Some e) in
    other_slot group.files number n (Live (record at.0 { tree = tree.0 })) other ∙ spares n (begun_other group.file (file_of (named_nodes reached.0)) n other))

spares_from : (files : Files) (at : ℕ) (group last : Group) (edits : List Edit) → Spares files group → group_from at group edits ≡ Ok last → Spares files last
spares_from files at group last [] spares e = subst (Spares files) (same_Ok e) spares
spares_from files at group last (edit ∷ edits) spares e =
    let s = one_step (group_step group edit) at (λ next. group_from (suc at) next edits) last e in
    spares_from files (suc at) s.0 last edits (spares_step files group s.0 edit spares s.1) s.2

pub group_spares : (files : Files) (edits : List Edit) (group : Group) → edit_group files edits ≡ Ok group → (n : ℕ) → Some n ≢ group.file → open_at group.files n ≡ open_at files n
group_spares files edits group e = spares_from files 0 (group_of files) group edits (λ n apart. refl) e

-- ---- one call

module _ (one : ℕ) (files after : Files) (before now : Devices) (p : Option Placement) (stands : StandsAt one files before p) where
  not_none : ◌≢◌ {A = Option ℕ} (Some one) None
  not_none e = cc

  kept : open_at after one ≡ open_at files one → (device_at now one).placement ≡ (device_at before one).placement → StandsAt one after now p
  kept e f there = stands (subst IsSome e there) ∙ ap Some (sym f)

  same : after ≡ files → OthersStayPlaced None before now → StandsAt one after now p
  same e placed = kept (ap (λ (f : Files). open_at f one) e) (placed one not_none)

  -- a file whose slot is set to one that is not open
  shut : (number : ℕ) (slot : Slot) → open_of slot ≡ None → after ≡ with_slot files number slot → OthersStayPlaced (Some number) before now → StandsAt one after now p
  shut number slot none e placed = elim (eqb_tells one number) [
    | inl is ↦ (λ there. absurd (none_some (open_at after one) (ap (λ (f : Files). open_at f one) e ∙ subst (λ n. open_at (with_slot files number slot) n ≡ None) (sym is.1) (own_slot files number slot none)) there))
    | inr other ↦ kept (ap (λ (f : Files). open_at f one) e ∙ other_slot files number one slot other.1) (placed one (λ e. other.1 (same_Some one number e)))
  ]

  opened : (number limit : ℕ) (opening : Opening) (result : Result Unit AdfError) → IsOpening files before number opening limit result now after → OthersStayPlaced (placed_anew result number) before now
      → StandsAt one after now (placed_by one files now (Opened number opening limit result) p)
  opened number limit opening (Ok done) h placed = elim (eqb_tells number one) [
    | inl is ↦ subst (λ b. StandsAt one after now (if b then Some (device_at now one).placement else p)) (sym is.0) (λ there. refl)
    | inr other ↦ subst (λ b. StandsAt one after now (if b then Some (device_at now one).placement else p)) (sym other.0)
        (kept (ap (λ (f : Files). open_at f one) h.4 ∙ other_slot files number one (Live h.0) (λ e. other.1 (sym e))) (placed one (λ e. other.1 (sym (same_Some one number e)))))
  ]
  opened number limit opening (Err Memory) h placed = same h.0 placed
  opened number limit opening (Err WriteFault) h placed = shut number Raw refl h.1 (λ n apart. placed n (not_any n))
    where
      not_any : (n : ℕ) → ◌≢◌ {A = Option ℕ} (Some n) None
      not_any n e = cc
  opened number limit opening (Err error) h placed = same h.1 placed

  done_group : (edits : List Edit) (created : List NodeId) → Edited files before now edits created after → OfGroup files edits (IsPlaced before now) → StandsAt one after now (placed_by_group one files (edit_group files edits) p)
  done_group edits created h placed =
      subst (λ r. StandsAt one after now (placed_by_group one files r p)) (sym h.through) (by_file h.group.file refl (subst (λ r. IfOk r Fact) h.through placed))
    where
      Fact : Group → Type 0
      Fact g = IfSome g.file (λ number. IfSome (open_at files number) (λ opened. IsPlaced before now number opened g))

      spared : Some one ≢ h.group.file → StandsAt one after now p
      spared apart = kept (ap (λ (f : Files). open_at f one) h.trees ∙ group_spares files edits h.group h.through one apart) (h.placed one apart)

      by_open : (o : Option Open) → IsSome o → p ≡ Some (device_at before one).placement → IfSome o (λ opened. IsPlaced before now one opened h.group) → placed_on o h.group p ≡ Some (device_at now one).placement
      by_open None there e h = absurd (not_true there)
      by_open (Some opened) there e fact = ap (λ q. placed_on (Some opened) h.group q) e ∙ ap if_placed fact.0

      own : h.group.file ≡ Some one → IfSome (open_at files one) (λ opened. IsPlaced before now one opened h.group) → StandsAt one after now (placed_on (open_at files one) h.group p)
      own e fact there = let was = file_was_open files edits h.group one h.through e in by_open (open_at files one) was (stands was) fact

      by_file : (file : Option ℕ) → h.group.file ≡ file → IfSome file (λ number. IfSome (open_at files number) (λ opened. IsPlaced before now number opened h.group)) → StandsAt one after now (placed_in one files h.group file p)
      by_file None e fact = spared (λ f. absurd (not_none (f ∙ e)))
      by_file (Some number) e fact = elim (eqb_tells number one) [
        | inl is ↦ subst (λ b. StandsAt one after now (if b then placed_on (open_at files one) h.group p else p)) (sym is.0)
            (own (e ∙ ap Some is.1) (subst (λ n. IfSome (open_at files n) (λ opened. IsPlaced before now n opened h.group)) is.1 fact))
        | inr other ↦ subst (λ b. StandsAt one after now (if b then placed_on (open_at files one) h.group p else p)) (sym other.0) (spared (λ f. other.1 (sym (same_Some one number (f ∙ e)))))
      ]

  refused : (edits : List Edit) (at : ℕ) (error : AdfError) → IsGroupRefusal files before edits at error now after → StandsAt one after now p
  refused edits at WriteFault h = shut h.stop.number Slot.Broken refl h.stop.broken h.stop.placed
  refused edits at error h = same h.files_stay h.placed

  call_stands : (call : Call) → Step files before call now after → StandsAt one after now (placed_by one files now call p)
  call_stands (Opened number opening limit result) h = opened number limit opening result h.0 h.1
  call_stands (Closed number (Ok done)) h = shut number (closed (slot_at files number)) (not_open (slot_at files number)) h.0.1 h.2
  call_stands (Closed number (Err error)) h = same h.0.1 h.2
  call_stands (Discarded number (Ok done)) h = shut number Gone refl h.0.1 h.2
  call_stands (Discarded number (Err error)) h = same h.0.1 h.2
  call_stands (Asked query result) h = same h.2 h.4
  call_stands (Changed edits (Ok created)) h = done_group edits created h.0 h.1
  call_stands (Changed edits (Err refusal)) h = refused edits refusal.at refusal.error h.0
  call_stands Skipped h = same h.1 (λ n apart. ap (λ (d : Devices). (device_at d n).placement) h.0)
  call_stands (Misread error) h = same h.2 (λ n apart. ap (λ (d : Devices). (device_at d n).placement) h.1)

pub run_stands : (one : ℕ) (files after : Files) (before now : Devices) (calls : List Call) (p last : Option Placement) → IsTold files before → StandsAt one files before p → RunPlaces one files before calls now after p last → StandsAt one after now last
run_stands one files after before now [] p last told stands run = λ there.
    run.2 ∙ stands (subst (λ (f : Files). IsSome (open_at f one)) run.1 there) ∙ ap (λ (d : Devices). Some (device_at d one).placement) (sym run.0)
run_stands one files after before now (call ∷ calls) p last told stands run =
    run_stands one run.0 after run.1 now calls (placed_by one files run.1 call p) last (λ number. run.2.layouts.told number (told number)) (call_stands one files run.0 before run.1 p stands call (run.2.step (told_for files before call told))) run.3
