-- How files stand after openings and groups, and why calls are refused.
use Rattle.std.proofs.Common.{◌≡◌, ◌≢◌, ◌⊎◌, inl, inr, ℕ, zero, suc, ◌+◌, Bool, true, false, not, List, [], ◌∷◌, length, refl, sym, ◌∙◌, ap, subst, arith}
use Rattle.std.specs.Prelude.{Option, Some, None, Result, Ok, Err, slice_get, slice_set, if◌then◌else◌, bytes_eq}
use Rattle.std.specs.List.{list_any}
use Rattle.std.proofs.lemmas.List.{length-map}
use Rattle.std.proofs.lemmas.Slice.Eq.{bytes_eq-Decides}
use Rattle.adf_format.specs.Tree.{Tree, is_live}
use Rattle.adf_format.specs.Placement.{Placement}
use Rattle.adf_format.specs.HeapRule.{LimitReached, place_edit}
use Rattle.adf_model.specs.declared.error.AdfError.{AdfError}
use Rattle.adf_model.specs.declared.error.AdfError.TheVariants.{Memory, ReadFault, WriteFault, NotEmpty, NoSuchNode, Layout, Full, Syntax, LineTooLong}
use Rattle.adf_model.specs.declared.error.EditError.{EditError}
use Rattle.adf_model.specs.declared.tree.Edit.{Edit}
use Rattle.adf_model.specs.declared.tree.NodeId.{NodeId}
use Rattle.adf_model.specs.Tests.{Test, first_refusal, checked}
use Rattle.adf_model.specs.Edits.{file_tests_at_entry, file_step, named_nodes, names_link, followed, apply}
use Rattle.adf_model.specs.Placing.{placed_as}
use Rattle.adf_model.specs.Slots.{Open, Slot, Standing, Files, Device, Devices, device_at, standings, standing_of, slot_at, is_gone, is_open, with_slot, name_there, names_there, number_from, entry_file, entry_files}
use Rattle.adf_model.specs.Slots.Slot.{Gone, Raw, Saved, Live}
use Rattle.adf_model.specs.Counts.{Rose}
use Rattle.adf_model.specs.Steps.{WriteFailed, OthersOnlyRead, OthersStayPlaced, Opening, Fresh, Stored, IsFirstOr, IsOpenRefusal, Opens, IsOpening, IsClose, IsDiscard, DropsOne, closed, open_tests, placed_anew, IsFileRefusal, IsLineError}
use Rattle.adf_model.specs.Causes.{OpensStanding, standing_by, IsOpenCause, HasOpenCause, OpeningWrites, OpenedAnyway, MovesStanding, ClosedAnyway, DiscardedAnyway, RefusalLeaves, GroupLeaves}
use Rattle.adf_model.proofs.Following.StepTests.{step_tests}
use Rattle.adf_model.proofs.Basics.{not_true, not_there, same_Some, same_Ok, not_Err}
use Rattle.adf_model.proofs.Trees.DifferLemmas.{bytes_eq_same}

-- ---- lists with one place set

set_other : (xs : List Standing) (i j : ℕ) (x : Standing) → j ≢ i → slice_get (slice_set xs i x) j ≡ slice_get xs j
set_other [] i j x other = refl
set_other (a ∷ xs) zero zero x other = absurd (other refl)
set_other (a ∷ xs) zero (suc j) x other = refl
set_other (a ∷ xs) (suc i) zero x other = refl
set_other (a ∷ xs) (suc i) (suc j) x other = set_other xs i j x (λ e. other (ap suc e))

set_here : (files : Files) (number : ℕ) (x : Standing) → is_gone (slot_at files number) ≡ false → slice_get (slice_set (standings files) number x) number ≡ Some x
set_here [] number x there = absurd (not_true (sym there))
set_here (file ∷ files) zero x there = refl
set_here (file ∷ files) (suc number) x there = set_here files number x there

absent_edits : Standing.Absent ≡ Standing.Editing → ⊥
absent_edits e = cc

edited_there : (slot : Slot) → standing_of slot ≡ Standing.Editing → is_gone slot ≡ false
edited_there Gone e = absurd (absent_edits e)
edited_there Raw e = refl
edited_there (Saved tree) e = refl
edited_there (Live opened) e = refl
edited_there Slot.Broken e = refl

absent_closed : Standing.Absent ≡ Standing.Closed → ⊥
absent_closed e = cc

closed_slot : (slot : Slot) → standing_of slot ≡ Standing.Closed → is_gone slot ≡ false
closed_slot Gone e = absurd (absent_closed e)
closed_slot Raw e = refl
closed_slot (Saved tree) e = refl
closed_slot (Live opened) e = refl
closed_slot Slot.Broken e = refl

-- ---- openings

pub refused_stand : (opening : Opening) (number one : ℕ) (error : AdfError) (before after : Files) → OpensStanding opening number (Err error) before after → slice_get (standings after) one ≡ slice_get (standings before) one
refused_stand opening number one error before after h = ap (λ (s : List Standing). slice_get s one) h

pub others_stand : (opening : Opening) (number one : ℕ) (result : Result Unit AdfError) (before after : Files) → OpensStanding opening number result before after → one ≢ number → slice_get (standings after) one ≡ slice_get (standings before) one
others_stand opening number one (Ok done) before after h other = ap (λ (s : List Standing). slice_get s one) h ∙ set_other (standings before) number one (standing_by opening) other
others_stand opening number one (Err error) before after h other = ap (λ (s : List Standing). slice_get s one) h

pub opened_stands : (opening : Opening) (number : ℕ) (before after : Files) → OpensStanding opening number (Ok tt) before after → is_gone (slot_at before number) ≡ false → slice_get (standings after) number ≡ Some (standing_by opening)
opened_stands opening number before after h there = ap (λ (s : List Standing). slice_get s number) h ∙ set_here before number (standing_by opening) there

pub standings_with : (files : Files) (number : ℕ) (slot : Slot) → standings (with_slot files number slot) ≡ slice_set (standings files) number (standing_of slot)
standings_with [] number slot = refl
standings_with (file ∷ files) zero slot = refl
standings_with (file ∷ files) (suc number) slot = ap (λ (s : List Standing). standing_of file.slot ∷ s) (standings_with files number slot)

pub same_standings : (files : Files) (number : ℕ) (slot : Slot) → standing_of (slot_at files number) ≡ standing_of slot → standings (with_slot files number slot) ≡ standings files
same_standings [] number slot e = refl
same_standings (file ∷ files) zero slot e = ap (λ (s : Standing). s ∷ standings files) (sym e)
same_standings (file ∷ files) (suc number) slot e = ap (λ (s : List Standing). standing_of file.slot ∷ s) (same_standings files number slot e)

-- a file that an opening fails on under no test is closed
closed_there : (slot : Slot) (Otherwise : Type 0) (error : AdfError) → (error ≡ AdfError.NoSuchFile → ⊥) → (error ≡ AdfError.AlreadyOpen → ⊥)
    → IsFirstOr (first_refusal ((is_gone slot, AdfError.NoSuchFile) ∷ (is_open slot, AdfError.AlreadyOpen) ∷ [])) error Otherwise → (standing_of slot ≡ Standing.Closed) × Otherwise
closed_there Gone Otherwise error no_file no_open h = absurd (no_file h)
closed_there Raw Otherwise error no_file no_open h = (refl, h)
closed_there (Saved tree) Otherwise error no_file no_open h = (refl, h)
closed_there (Live opened) Otherwise error no_file no_open h = absurd (no_open h)
closed_there Slot.Broken Otherwise error no_file no_open h = absurd (no_open h)

standing_opened : (opening : Opening) (slot : Slot) (held : Option (List ℕ)) (opened : Open) → Opens opening slot held opened → standing_of (Live opened) ≡ standing_by opening
standing_opened (Fresh wide) slot held opened h = ap (λ b. if b then Standing.Editing else Standing.Reading) h.1
standing_opened (Stored writable) slot held opened h = ap (λ b. if b then Standing.Editing else Standing.Reading) h.1

write_no_file : WriteFault ≡ AdfError.NoSuchFile → ⊥
write_no_file e = cc

write_no_open : WriteFault ≡ AdfError.AlreadyOpen → ⊥
write_no_open e = cc

read_no_file : ReadFault ≡ AdfError.NoSuchFile → ⊥
read_no_file e = cc

read_no_open : ReadFault ≡ AdfError.AlreadyOpen → ⊥
read_no_open e = cc

pub told_stand : (files after : Files) (before now : Devices) (number limit : ℕ) (opening : Opening) (result : Result Unit AdfError) → IsOpening files before number opening limit result now after → OpensStanding opening number result files after
told_stand files after before now number limit opening (Ok done) h =
    ap standings h.4 ∙ standings_with files number (Live h.0) ∙ ap (slice_set (standings files) number) (standing_opened opening (slot_at files number) (device_at before number).held h.0 h.3)
told_stand files after before now number limit opening (Err Memory) h = ap standings h.0
told_stand files after before now number limit opening (Err WriteFault) h =
    ap standings h.1 ∙ same_standings files number Raw (closed_there (slot_at files number) (IsOpenRefusal opening (slot_at files number) (device_at before number) (device_at now number) WriteFault) WriteFault write_no_file write_no_open h.0).0
told_stand files after before now number limit opening (Err error) h = ap standings h.1

-- why an opening fails over devices that tell is why it may fail at all
open_cause : (opening : Opening) (slot : Slot) (before now : Device) (error : AdfError) → IsOpenRefusal opening slot before now error → IsOpenCause opening before now error
open_cause opening slot before now Memory h = tt
open_cause opening slot before now ReadFault h = h
open_cause (Fresh wide) slot before now NotEmpty h = tt
open_cause (Fresh wide) slot before now WriteFault h = h.0
open_cause (Fresh wide) slot before now error h = absurd h
open_cause (Stored writable) Raw before now (Layout rule place) h = h.0
open_cause (Stored writable) Raw before now error h = absurd h
open_cause (Stored writable) Gone before now error h = absurd h
open_cause (Stored writable) (Saved tree) before now error h = absurd h
open_cause (Stored writable) (Live opened) before now error h = absurd h
open_cause (Stored writable) Slot.Broken before now error h = absurd h

by_first : (first : Option AdfError) (error : AdfError) (One Other : Type 0) → (One → Other) → IsFirstOr first error One → IsFirstOr first error Other
by_first (Some first) error One Other so h = h
by_first None error One Other so h = so h

pub told_causes : (files after : Files) (before now : Devices) (number limit : ℕ) (opening : Opening) (result : Result Unit AdfError) → IsOpening files before number opening limit result now after → HasOpenCause files number opening before now result
told_causes files after before now number limit opening (Ok done) h = h.1
told_causes files after before now number limit opening (Err Memory) h = tt
told_causes files after before now number limit opening (Err error) h =
    by_first (first_refusal (open_tests files number)) error _ _ (open_cause opening (slot_at files number) (device_at before number) (device_at now number) error) h.0

told_writes : (files after : Files) (before now : Devices) (number limit : ℕ) (opening : Opening) (result : Result Unit AdfError) → IsOpening files before number opening limit result now after → OpeningWrites result opening number before now
told_writes files after before now number limit opening (Ok done) h = h.5
told_writes files after before now number limit opening (Err Memory) h = h.1
told_writes files after before now number limit opening (Err error) h = h.2

-- a file that stays there or stays gone keeps its name
pub names_with : (files : Files) (number : ℕ) (slot : Slot) → is_gone slot ≡ is_gone (slot_at files number) → names_there (with_slot files number slot) ≡ names_there files
names_with [] number slot e = refl
names_with (file ∷ files) zero slot e = ap (λ gone. (if gone then None else Some file.name) ∷ names_there files) e
names_with (file ∷ files) (suc number) slot e = ap (λ (names : List (Option (List ℕ))). name_there file ∷ names) (names_with files number slot e)

pub not_gone : (slot : Slot) → first_refusal ((is_gone slot, AdfError.NoSuchFile) ∷ (is_open slot, AdfError.AlreadyOpen) ∷ []) ≡ None → is_gone slot ≡ false
not_gone Gone e = absurd (not_there _ (sym e))
not_gone Raw e = refl
not_gone (Saved tree) e = refl
not_gone (Live opened) e = refl
not_gone Slot.Broken e = refl

told_names : (files after : Files) (before now : Devices) (number limit : ℕ) (opening : Opening) (result : Result Unit AdfError) → IsOpening files before number opening limit result now after → names_there after ≡ names_there files
told_names files after before now number limit opening (Ok done) h = ap names_there h.4 ∙ names_with files number (Live h.0) (sym (not_gone (slot_at files number) h.1))
told_names files after before now number limit opening (Err Memory) h = ap names_there h.0
told_names files after before now number limit opening (Err WriteFault) h =
    ap names_there h.1
    ∙ names_with files number Raw (sym (closed_slot (slot_at files number) (closed_there (slot_at files number) (IsOpenRefusal opening (slot_at files number) (device_at before number) (device_at now number) WriteFault) WriteFault write_no_file write_no_open h.0).0))
told_names files after before now number limit opening (Err error) h = ap names_there h.1

-- what an opening over devices that tell may answer and leave, it may in any case
pub opening_anyway : (files after : Files) (before now : Devices) (number limit : ℕ) (opening : Opening) (result : Result Unit AdfError) → IsOpening files before number opening limit result now after → OthersStayPlaced (placed_anew result number) before now
    → OpenedAnyway files before number opening result now after
opening_anyway files after before now number limit opening result h placed = record {
  standing = told_stand files after before now number limit opening result h;
  names = told_names files after before now number limit opening result h;
  cause = told_causes files after before now number limit opening result h;
  writes = told_writes files after before now number limit opening result h;
  placed = placed;
}

-- a failed read or write of an opening has its count on the file's own device
pub silent_opening : (files : Files) (number : ℕ) (opening : Opening) (before now : Devices) (result : Result Unit AdfError) → (Rose (device_at before number).faults (device_at now number).faults → ⊥) → HasOpenCause files number opening before now result
    → (result ≢ Err ReadFault) × (result ≢ Err WriteFault)
silent_opening files number opening before now result silent h =
    (λ e. silent (read (subst (HasOpenCause files number opening before now) e h)), λ e. silent (written opening (subst (HasOpenCause files number opening before now) e h)))
  where
    read : HasOpenCause files number opening before now (Err ReadFault) → Rose (device_at before number).faults (device_at now number).faults
    read h = (closed_there (slot_at files number) (Rose (device_at before number).faults (device_at now number).faults) ReadFault read_no_file read_no_open h).1

    written : (opening : Opening) → HasOpenCause files number opening before now (Err WriteFault) → Rose (device_at before number).faults (device_at now number).faults
    written (Fresh wide) h = (closed_there (slot_at files number) (WriteFailed (device_at before number) (device_at now number)) WriteFault write_no_file write_no_open h).1.faults
    written (Stored writable) h = absurd (closed_there (slot_at files number) ⊥ WriteFault write_no_file write_no_open h).1

-- an error that no opening has
abbrev pub is_of_opening : AdfError → Bool
is_of_opening Memory = true
is_of_opening ReadFault = true
is_of_opening WriteFault = true
is_of_opening NotEmpty = true
is_of_opening (Layout rule place) = true
is_of_opening AdfError.NoSuchFile = true
is_of_opening AdfError.AlreadyOpen = true
is_of_opening error = false

no_cause : (opening : Opening) (before now : Device) (error : AdfError) → is_of_opening error ≡ false → IsOpenCause opening before now error → ⊥
no_cause opening before now Memory foreign h = not_true (sym foreign)
no_cause opening before now ReadFault foreign h = not_true (sym foreign)
no_cause (Fresh wide) before now WriteFault foreign h = not_true (sym foreign)
no_cause (Fresh wide) before now NotEmpty foreign h = not_true (sym foreign)
no_cause (Fresh wide) before now error foreign h = h
no_cause (Stored writable) before now (Layout rule place) foreign h = not_true (sym foreign)
no_cause (Stored writable) before now error foreign h = h

no_first : (gone in_use : Bool) (error : AdfError) (Otherwise : Type 0) → is_of_opening error ≡ false → (Otherwise → ⊥) → IsFirstOr (first_refusal ((gone, AdfError.NoSuchFile) ∷ (in_use, AdfError.AlreadyOpen) ∷ [])) error Otherwise → ⊥
no_first true in_use error Otherwise foreign none h = not_true (sym foreign ∙ ap is_of_opening h)
no_first false true error Otherwise foreign none h = not_true (sym foreign ∙ ap is_of_opening h)
no_first false false error Otherwise foreign none h = none h

pub never_opened : (files : Files) (number : ℕ) (opening : Opening) (before now : Devices) (error : AdfError) → is_of_opening error ≡ false → HasOpenCause files number opening before now (Err error) → ⊥
never_opened files number opening before now Memory foreign h = not_true (sym foreign)
never_opened files number opening before now error foreign h =
    no_first (is_gone (slot_at files number)) (is_open (slot_at files number)) error _ foreign (no_cause opening (device_at before number) (device_at now number) error foreign) h

-- ---- closings and discardings

closed_slot_stands : (slot : Slot) → first_refusal ((is_gone slot, AdfError.NoSuchFile) ∷ (not (is_open slot), AdfError.NotOpen) ∷ []) ≡ None → (standing_of (closed slot) ≡ Standing.Closed) × (is_gone (closed slot) ≡ is_gone slot)
closed_slot_stands Gone e = absurd (not_there _ (sym e))
closed_slot_stands Raw e = absurd (not_there _ (sym e))
closed_slot_stands (Saved tree) e = absurd (not_there _ (sym e))
closed_slot_stands (Live opened) e = (refl, refl)
closed_slot_stands Slot.Broken e = (refl, refl)

pub closing_anyway : (files after : Files) (before now : Devices) (number : ℕ) (result : Result Unit AdfError) → IsClose files number result after → OthersOnlyRead None before now → OthersStayPlaced (placed_anew result number) before now
    → ClosedAnyway files before number result now after
closing_anyway files after before now number (Ok done) h devices placed = record {
  standing = (h.0, ap standings h.1 ∙ standings_with files number (closed (slot_at files number)) ∙ ap (slice_set (standings files) number) (closed_slot_stands (slot_at files number) h.0).0);
  names = ap names_there h.1 ∙ names_with files number (closed (slot_at files number)) (closed_slot_stands (slot_at files number) h.0).1;
  devices = devices;
  placed = placed;
}
closing_anyway files after before now number (Err error) h devices placed = record { standing = (h.0, ap standings h.1); names = ap names_there h.1; devices = devices; placed = placed }

names_without : (files : Files) (number : ℕ) → names_there (with_slot files number Gone) ≡ slice_set (names_there files) number None
names_without [] number = refl
names_without (file ∷ files) zero = refl
names_without (file ∷ files) (suc number) = ap (λ (names : List (Option (List ℕ))). name_there file ∷ names) (names_without files number)

pub discarding_anyway : (files after : Files) (before now : Devices) (number : ℕ) (result : Result Unit AdfError) → IsDiscard files number result after → DropsOne number result before now → OthersStayPlaced (placed_anew result number) before now
    → DiscardedAnyway files before number result now after
discarding_anyway files after before now number (Ok done) h devices placed = record {
  standing = (h.0, ap standings h.1 ∙ standings_with files number Gone);
  names = ap names_there h.1 ∙ names_without files number;
  devices = devices;
  placed = placed;
}
discarding_anyway files after before now number (Err error) h devices placed = record { standing = (h.0, ap standings h.1); names = ap names_there h.1; devices = devices; placed = placed }

-- no closing and no discarding lacks memory
pub never_lacks : (first other : Bool) (one two : AdfError) (standing : Standing) (number : ℕ) (before after : Files) → (one ≡ Memory → ⊥) → (two ≡ Memory → ⊥)
    → MovesStanding ((first, one) ∷ (other, two) ∷ []) standing number (Err Memory) before after → ⊥
never_lacks true other one two standing number before after no_one no_two h = no_one (same_Some one Memory h.0)
never_lacks false true one two standing number before after no_one no_two h = no_two (same_Some two Memory h.0)
never_lacks false false one two standing number before after no_one no_two h = not_there Memory h.0

-- ---- groups

pub failed_stands : (at : ℕ) (files after : Files) (before now : Devices) (edits : List Edit) → GroupLeaves {A = List NodeId} (Err (record { at = at; error = WriteFault })) files before edits now after
    → (number : ℕ) × Rose (device_at before number).writes (device_at now number).writes × (slice_get (standings after) number ≡ Some Standing.Failed)
    × ((one : ℕ) → one ≢ number → slice_get (standings after) one ≡ slice_get (standings files) one)
failed_stands at files after before now edits h = (
  h.number,
  h.failed.writes,
  ap (λ (s : List Standing). slice_get s h.number) h.standing ∙ set_here files h.number Standing.Failed (edited_there (slot_at files h.number) h.own.0),
  λ one other. ap (λ (s : List Standing). slice_get s one) h.standing ∙ set_other (standings files) h.number one Standing.Failed other,
)

stand_by_error : (error : AdfError) (files after : Files) (before now : Devices) (edits : List Edit) → ((number : ℕ) → WriteFailed (device_at before number) (device_at now number) → ⊥) → RefusalLeaves error files before edits now after → standings after ≡ standings files
stand_by_error WriteFault files after before now edits none h = absurd (none h.number h.failed)
stand_by_error error files after before now edits none h = h.0

pub silent_group : (result : Result (List NodeId) EditError) (files after : Files) (before now : Devices) (edits : List Edit) → ((number : ℕ) → WriteFailed (device_at before number) (device_at now number) → ⊥) → GroupLeaves result files before edits now after
    → standings after ≡ standings files
silent_group (Ok created) files after before now edits none h = h.standing
silent_group (Err refusal) files after before now edits none h = stand_by_error refusal.error files after before now edits none h

-- ---- one file

same_error : {A : Type 0} (one other : AdfError) → ◌≡◌ {A = Result A AdfError} (Err one) (Err other) → one ≡ other
same_error {A = A} one other e = ap (λ (r : Result A AdfError). elim r [ Ok a ↦ one | Err x ↦ x ]) e

refused_step : (broken dead : Bool) (rest : List Test) (after : Result Tree AdfError) (first : AdfError) → first_refusal ((broken, AdfError.Broken) ∷ (dead, NoSuchNode) ∷ []) ≡ Some first
    → checked ((broken, AdfError.Broken) ∷ []) (checked ((dead, NoSuchNode) ∷ rest) after) ≡ Err first
refused_step true dead rest after first e = ap Err (same_first AdfError.Broken e)
  where
    same_first : (x : AdfError) → ◌≡◌ {A = Option AdfError} (Some x) (Some first) → x ≡ first
    same_first x e = cc
refused_step false true rest after first e = ap Err (same_first NoSuchNode e)
  where
    same_first : (x : AdfError) → ◌≡◌ {A = Option AdfError} (Some x) (Some first) → x ≡ first
    same_first x e = cc
refused_step false false rest after first e = absurd (not_there first e)

not_passed : (broken : Bool) (after : Result Tree AdfError) (tree : Tree) (first : AdfError) → broken ≡ false → after ≡ Ok tree → checked ((broken, AdfError.Broken) ∷ []) after ≡ Err first → ⊥
not_passed true after tree first whole passed e = not_true (sym whole)
not_passed false after tree first whole passed e = not_Err (sym e ∙ passed)

pub entry_refuses : (broken writable : Bool) (limit : ℕ) (tree : Tree) (p : Placement) (edit : Edit) (first error : AdfError)
    → first_refusal (file_tests_at_entry broken tree (named_nodes edit)) ≡ Some first → IsFileRefusal broken writable limit tree p edit error → (error ≡ Memory) ⊎ (error ≡ first)
entry_refuses broken writable limit tree p edit first error e h = by_error error h
  where
    refused : checked ((broken, AdfError.Broken) ∷ []) (file_step writable tree edit) ≡ Err first
    refused = ap (checked ((broken, AdfError.Broken) ∷ [])) (step_tests writable tree edit) ∙ refused_step broken (list_any (λ (node : NodeId). not (is_live tree node.serial)) (named_nodes edit))
        ((names_link tree (followed edit), AdfError.LinkMissing) ∷ (not writable, AdfError.ReadOnly) ∷ []) (apply tree edit) first e

    by_error : (error : AdfError) → IsFileRefusal broken writable limit tree p edit error → (error ≡ Memory) ⊎ (error ≡ first)
    by_error Memory h = inl refl
    by_error ReadFault h = absurd (not_there first (sym h ∙ e))
    by_error (Full asked end) h = absurd (not_passed broken (file_step writable tree edit) h.1.0 first h.0 h.1.1 refused)
    by_error error h = inr (same_error {A = Tree} error first (sym h ∙ refused))

pub passed_refuses : (writable : Bool) (limit : ℕ) (tree after : Tree) (p : Placement) (edit : Edit) (error : AdfError)
    → file_step writable tree edit ≡ Ok after → IsFileRefusal false writable limit tree p edit error
    → (error ≡ Memory) ⊎ ((error ≡ ReadFault) ⊎ ((full : LimitReached) × (error ≡ Full full.asked full.end) × (place_edit limit tree after (placed_as edit) p ≡ Err full)))
passed_refuses writable limit tree after p edit Memory e h = inl refl
passed_refuses writable limit tree after p edit ReadFault e h = inr (inl refl)
passed_refuses writable limit tree after p edit (Full asked end) e h =
    inr (inr (record { asked = asked; end = end }, refl, ap (λ (t : Tree). place_edit limit tree t (placed_as edit) p) (same_Ok (sym e ∙ h.1.1)) ∙ h.1.2))
passed_refuses writable limit tree after p edit error e h = absurd (not_Err (sym h ∙ e))

-- ---- lines

pub line_errors : (error : AdfError) → IsLineError error → (error ≡ Memory) ⊎ ((error ≡ Syntax) ⊎ (error ≡ LineTooLong))
line_errors Memory h = inl refl
line_errors Syntax h = inr (inl refl)
line_errors LineTooLong h = inr (inr refl)
line_errors error h = absurd h

-- ---- shelves

pub shelf_count : (names : List (Option (List ℕ))) → length (entry_files names) ≡ length names
shelf_count names = length-map names entry_file

-- a number found from k on is that of a place behind k
found_from : (names : List (Option (List ℕ))) (name : List ℕ) (k number : ℕ) → number_from k (entry_files names) name ≡ Some number → (i : ℕ) × (number ≡ k + i) × (slice_get names i ≡ Some (Some name))
found_from [] name k number e = absurd (not_there number e)
found_from (None ∷ names) name k number e = later (found_from names name (suc k) number e)
  where
    later : ((i : ℕ) × (number ≡ suc k + i) × (slice_get names i ≡ Some (Some name))) → (i : ℕ) × (number ≡ k + i) × (slice_get (None ∷ names) i ≡ Some (Some name))
    later h = (suc h.0, omega (arith, h.1), h.2)
found_from (Some here ∷ names) name k number e = in_place (λ e. later (found_from names name (suc k) number e)) (bytes_eq here name) ((bytes_eq-Decides here name).0) e
  where
    later : ((i : ℕ) × (number ≡ suc k + i) × (slice_get names i ≡ Some (Some name))) → (i : ℕ) × (number ≡ k + i) × (slice_get (Some here ∷ names) i ≡ Some (Some name))
    later h = (suc h.0, omega (arith, h.1), h.2)

    in_place : (behind : number_from (suc k) (entry_files names) name ≡ Some number → (i : ℕ) × (number ≡ k + i) × (slice_get (Some here ∷ names) i ≡ Some (Some name)))
        → (b : Bool) → (b ≡ true → here ≡ name) → (if b then Some k else number_from (suc k) (entry_files names) name) ≡ Some number → (i : ℕ) × (number ≡ k + i) × (slice_get (Some here ∷ names) i ≡ Some (Some name))
    in_place behind true same e = (zero, (let at = same_Some k number e in omega (arith, at)), ap (λ (n : List ℕ). Some (Some n)) (same refl))
    in_place behind false same e = behind e

pub shelf_found : (names : List (Option (List ℕ))) (name : List ℕ) (number : ℕ) → number_from 0 (entry_files names) name ≡ Some number → slice_get names number ≡ Some (Some name)
shelf_found names name number e =
    let h = found_from names name 0 number e in
    let at : number ≡ h.0 = omega (arith, h.1) in
    ap (slice_get names) at ∙ h.2

not_missed : (names : List (Option (List ℕ))) (name : List ℕ) (k number : ℕ) → slice_get names number ≡ Some (Some name) → number_from k (entry_files names) name ≡ None → ⊥
not_missed [] name k number e missed = not_there (Some name) e
not_missed (None ∷ names) name k zero e missed = not_there name (same_Some None (Some name) e)
not_missed (None ∷ names) name k (suc number) e missed = not_missed names name (suc k) number e missed
not_missed (Some here ∷ names) name k zero e missed = missed_here (bytes_eq here name) (ap (λ (n : List ℕ). bytes_eq n name) (same_Some here name (same_Some (Some here) (Some name) e)) ∙ bytes_eq_same name) missed
  where
    missed_here : (b : Bool) → b ≡ true → (if b then Some k else number_from (suc k) (entry_files names) name) ≡ None → ⊥
    missed_here true is missed = not_there k (sym missed)
    missed_here false is missed = not_true is
not_missed (Some here ∷ names) name k (suc number) e missed = missed_later (not_missed names name (suc k) number e) (bytes_eq here name) missed
  where
    missed_later : (number_from (suc k) (entry_files names) name ≡ None → ⊥) → (b : Bool) → (if b then Some k else number_from (suc k) (entry_files names) name) ≡ None → ⊥
    missed_later behind true missed = not_there k (sym missed)
    missed_later behind false missed = behind missed

pub shelf_finds : (names : List (Option (List ℕ))) (name : List ℕ) (number : ℕ) → slice_get names number ≡ Some (Some name) → number_from 0 (entry_files names) name ≢ None
shelf_finds names name number e = not_missed names name 0 number e
