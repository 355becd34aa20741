-- How files stand after a group of edits over devices that tell.
use Rattle.std.proofs.Common.{◌≡◌, ℕ, suc, not, List, [], ◌∷◌, refl, sym, ◌∙◌, ap}
use Rattle.std.specs.Prelude.{◌==◌, Option, Some, None, IfSome, Result, Ok, Err}
use Rattle.std.specs.List.{list_any}
use Rattle.adf_model.specs.declared.error.AdfError.{AdfError}
use Rattle.adf_model.specs.declared.error.AdfError.TheVariants.{WriteFault}
use Rattle.adf_model.specs.declared.error.EditError.{EditError}
use Rattle.adf_model.specs.declared.tree.Edit.{Edit}
use Rattle.adf_model.specs.declared.tree.NodeId.{NodeId}
use Rattle.adf_model.specs.Edits.{apply, named_nodes}
use Rattle.adf_model.specs.Slots.{Slot, Files, Devices, standings, standing_of, slot_at, is_gone, open_at, names_there}
use Rattle.adf_model.specs.Slots.Slot.{Live}
use Rattle.adf_model.specs.Calls.{Group, tests_at_entry, resolve, group_of, file_of_group, group_after, edit_reached, group_step, group_from}
use Rattle.adf_model.specs.Steps.{IsEdit, IsGroupRefusal, MayEdit}
use Rattle.adf_model.specs.Causes.{RefusalLeaves, GroupLeaves}
use Rattle.adf_model.proofs.Basics.{same_Ok, passed, found, done}
use Rattle.adf_model.proofs.Answering.LayoutLemmas.{live_slot}
use Rattle.adf_model.proofs.Keeping.GroupKeeps.{one_step}
use Rattle.adf_model.proofs.Answering.StandingLaws.{standings_with, same_standings, names_with}

step_stands : (group next : Group) (edit : Edit) → group_step group edit ≡ Ok next → standings next.files ≡ standings group.files
step_stands group next edit e =
    let entry = passed (tests_at_entry group.files (named_nodes edit)) _ next e in
    let reached = done (resolve group.files edit) (λ reached. edit_reached group reached) next entry.1 in
    let number = file_of_group group reached.0 in
    let at = found (open_at group.files number) AdfError.NotOpen _ next reached.2 in
    let tests = passed ((list_any (λ (node : NodeId). not (node.file == number)) (named_nodes reached.0), AdfError.OtherFile) ∷ (not at.0.writable, AdfError.ReadOnly) ∷ []) _ next at.2 in
    let tree = done (apply at.0.tree reached.0) (λ tree. Ok (group_after group number at.0 reached.0 tree)) next tests.1 in
    ap (λ (g : Group). standings g.files) (sym (same_Ok tree.2))
    ∙ same_standings group.files number (Live (record at.0 { tree = tree.0 })) (ap standing_of (live_slot (slot_at group.files number) at.0 at.1))

steps_stand : (at : ℕ) (group last : Group) (edits : List Edit) → group_from at group edits ≡ Ok last → standings last.files ≡ standings group.files
steps_stand at group last [] e = ap (λ (g : Group). standings g.files) (sym (same_Ok e))
steps_stand at group last (edit ∷ edits) e =
    let s = one_step (group_step group edit) at (λ next. group_from (suc at) next edits) last e in
    steps_stand (suc at) s.0 last edits s.2 ∙ step_stands group s.0 edit s.1

-- and the names
step_names : (group next : Group) (edit : Edit) → group_step group edit ≡ Ok next → names_there next.files ≡ names_there group.files
step_names group next edit e =
    let entry = passed (tests_at_entry group.files (named_nodes edit)) _ next e in
    let reached = done (resolve group.files edit) (λ reached. edit_reached group reached) next entry.1 in
    let number = file_of_group group reached.0 in
    let at = found (open_at group.files number) AdfError.NotOpen _ next reached.2 in
    let tests = passed ((list_any (λ (node : NodeId). not (node.file == number)) (named_nodes reached.0), AdfError.OtherFile) ∷ (not at.0.writable, AdfError.ReadOnly) ∷ []) _ next at.2 in
    let tree = done (apply at.0.tree reached.0) (λ tree. Ok (group_after group number at.0 reached.0 tree)) next tests.1 in
    ap (λ (g : Group). names_there g.files) (sym (same_Ok tree.2))
    ∙ names_with group.files number (Live (record at.0 { tree = tree.0 })) (sym (ap is_gone (live_slot (slot_at group.files number) at.0 at.1)))

steps_names : (at : ℕ) (group last : Group) (edits : List Edit) → group_from at group edits ≡ Ok last → names_there last.files ≡ names_there group.files
steps_names at group last [] e = ap (λ (g : Group). names_there g.files) (sym (same_Ok e))
steps_names at group last (edit ∷ edits) e =
    let s = one_step (group_step group edit) at (λ next. group_from (suc at) next edits) last e in
    steps_names (suc at) s.0 last edits s.2 ∙ step_names group s.0 edit s.1

own_file_of : (files : Files) (edits : List Edit) (file wanted : Option ℕ) → wanted ≡ file → ((number : ℕ) → wanted ≡ Some number → MayEdit files edits number) → IfSome file (MayEdit files edits)
own_file_of files edits None wanted e own = tt
own_file_of files edits (Some number) wanted e own = own number e

refusal_stands : (files : Files) (before now : Devices) (edits : List Edit) (at : ℕ) (error : AdfError) (after : Files) → IsGroupRefusal files before edits at error now after → RefusalLeaves error files before edits now after
refusal_stands files before now edits at WriteFault after stops =
    let h = stops.stop in
    record { number = h.number; own = h.own; others = h.others; placed = h.placed; failed = h.failed; standing = ap standings h.broken ∙ standings_with files h.number Slot.Broken }
refusal_stands files before now edits at error after h = (ap standings h.files_stay, h.devices_stay, h.placed)

-- what may be answered to a group leaves the files so
pub told_group : (files after : Files) (before now : Devices) (edits : List Edit) (result : Result (List NodeId) EditError) → IsEdit files before edits result now after → GroupLeaves result files before edits now after
told_group files after before now edits (Ok created) h = record {
  one = h.group.file;
  own = own_file_of files edits h.group.file h.group.file refl h.own;
  others = h.others;
  placed = h.placed;
  standing = ap standings h.trees ∙ steps_stand 0 (group_of files) h.group edits h.through;
}
told_group files after before now edits (Err refusal) h = refusal_stands files before now edits refusal.at refusal.error after h

refusal_names : (files : Files) (before now : Devices) (edits : List Edit) (at : ℕ) (error : AdfError) (after : Files) → IsGroupRefusal files before edits at error now after → names_there after ≡ names_there files
refusal_names files before now edits at WriteFault after stops =
    let h = stops.stop in
    ap names_there h.broken ∙ names_with files h.number Slot.Broken (sym (ap is_gone (live_slot (slot_at files h.number) h.was h.entered)))
refusal_names files before now edits at error after h = ap names_there h.files_stay

pub told_names : (files after : Files) (before now : Devices) (edits : List Edit) (result : Result (List NodeId) EditError) → IsEdit files before edits result now after → names_there after ≡ names_there files
told_names files after before now edits (Ok created) h = ap names_there h.trees ∙ steps_names 0 (group_of files) h.group edits h.through
told_names files after before now edits (Err refusal) h = refusal_names files before now edits refusal.at refusal.error after h
