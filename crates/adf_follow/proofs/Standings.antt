-- Files that stand alike: the same tests of them, and what refusals take from them.
use Rattle.std.proofs.Common.{◌≡◌, inl, inr, ℕ, zero, suc, Bool, true, false, not, List, [], ◌∷◌, refl, sym, ◌∙◌, ap, subst}
use Rattle.std.specs.Prelude.{Option, IsSome, unwrap_or, slice_get, if◌then◌else◌, ◌||◌, Err}
use Rattle.std.specs.List.{list_any}
use Rattle.adf_model.specs.declared.error.AdfError.{AdfError}
use Rattle.adf_model.specs.declared.error.AdfError.TheVariants.{ReadFault, NotOpen, NoSuchFile, Layout}
use Rattle.adf_model.specs.declared.tree.NodeId.{NodeId}
use Rattle.adf_model.specs.Tests.{Test, first_refusal}
use Rattle.adf_model.specs.Slots.{Open, Slot, Standing, standing_of, Files, Devices, slot_at, is_gone, is_open, is_broken, open_of, device_at, standings}
use Rattle.adf_model.specs.Slots.Slot.{Gone, Raw, Saved, Live}
use Rattle.adf_model.specs.Slots.Standing.{Absent, Closed, Reading, Editing, Failed}
use Rattle.adf_model.specs.Calls.{tests_of_files}
use Rattle.adf_model.specs.Steps.{SomeOpenFault, HasCauseOf, IsRefusedBy}
use Rattle.adf_model.specs.Causes.{ComesFromFiles, EntersFiles}
use Rattle.adf_model.proofs.Basics.{not_true}
use Rattle.adf_follow.specs.Groups.{OnlyWaits}
use Rattle.adf_follow.proofs.Looks.{rose_before}

standing_at : (files : Files) (number : ℕ) → standing_of (slot_at files number) ≡ unwrap_or (slice_get (standings files) number) Absent
standing_at [] zero = refl
standing_at [] (suc number) = refl
standing_at (file ∷ files) zero = refl
standing_at (file ∷ files) (suc number) = standing_at files number

-- ---- what the standing of a file tells

abbrev gone_by : Standing → Bool
gone_by Absent = true
gone_by standing = false

abbrev open_by : Standing → Bool
open_by Absent = false
open_by Closed = false
open_by standing = true

abbrev broken_by : Standing → Bool
broken_by Failed = true
broken_by standing = false

stands_by : (Told : Slot → Bool) (By : Standing → Bool) → (Told Gone ≡ By Absent) → (Told Raw ≡ By Closed) → ((tree : _) → Told (Saved tree) ≡ By Closed) → ((opened : Open) → (Told (Live opened) ≡ By Reading) × (Told (Live opened) ≡ By Editing)) → (Told Slot.Broken ≡ By Failed)
    → (slot : Slot) → Told slot ≡ By (standing_of slot)
stands_by Told By gone raw saved live broken Gone = gone
stands_by Told By gone raw saved live broken Raw = raw
stands_by Told By gone raw saved live broken (Saved tree) = saved tree
stands_by Told By gone raw saved live broken (Live opened) = by_mode opened.writable
  where
    by_mode : (writable : Bool) → Told (Live opened) ≡ By (if writable then Editing else Reading)
    by_mode true = (live opened).1
    by_mode false = (live opened).0
stands_by Told By gone raw saved live broken Slot.Broken = broken

gone_is : (slot : Slot) → is_gone slot ≡ gone_by (standing_of slot)
gone_is = stands_by is_gone gone_by refl refl (λ tree. refl) (λ opened. (refl, refl)) refl

open_is : (slot : Slot) → is_open slot ≡ open_by (standing_of slot)
open_is = stands_by is_open open_by refl refl (λ tree. refl) (λ opened. (refl, refl)) refl

broken_is : (slot : Slot) → is_broken slot ≡ broken_by (standing_of slot)
broken_is = stands_by is_broken broken_by refl refl (λ tree. refl) (λ opened. (refl, refl)) refl

pub gone_alike : (one two : Slot) → standing_of one ≡ standing_of two → is_gone one ≡ is_gone two
gone_alike one two same = gone_is one ∙ ap gone_by same ∙ sym (gone_is two)

-- a file that is open stands for reading or for editing, or failed
pub stands_open : (P : Standing → Type 0) (slot : Slot) → is_open slot ≡ true → (standing_of slot ≡ Reading → is_broken slot ≡ false → P Reading) → (standing_of slot ≡ Editing → is_broken slot ≡ false → P Editing) → (standing_of slot ≡ Failed → is_broken slot ≡ true → P Failed) → P (standing_of slot)
stands_open P slot is_there reading editing failed = by_standing (standing_of slot) refl
  where
    by_standing : (standing : Standing) → standing_of slot ≡ standing → P standing
    by_standing Reading e = reading e (broken_is slot ∙ ap broken_by e)
    by_standing Editing e = editing e (broken_is slot ∙ ap broken_by e)
    by_standing Failed e = failed e (broken_is slot ∙ ap broken_by e)
    by_standing Absent e = absurd (not_true (sym (open_is slot ∙ ap open_by e) ∙ is_there))
    by_standing Closed e = absurd (not_true (sym (open_is slot ∙ ap open_by e) ∙ is_there))

-- and is there
pub open_there : (slot : Slot) → is_open slot ≡ true → is_gone slot ≡ false
open_there slot is_there = gone_is slot ∙ stands_open (λ standing. gone_by standing ≡ false) slot is_there (λ e whole. refl) (λ e whole. refl) (λ e broken. refl)

module _ (files other : Files) (same : standings files ≡ standings other) where
  pub same_standing : (number : ℕ) → standing_of (slot_at files number) ≡ standing_of (slot_at other number)
  same_standing number = standing_at files number ∙ ap (λ (s : List Standing). unwrap_or (slice_get s number) Absent) same ∙ sym (standing_at other number)

  told_alike : (Told : Slot → Bool) (By : Standing → Bool) → ((slot : Slot) → Told slot ≡ By (standing_of slot)) → (number : ℕ) → Told (slot_at files number) ≡ Told (slot_at other number)
  told_alike Told By is number = is (slot_at files number) ∙ ap By (same_standing number) ∙ sym (is (slot_at other number))

  pub same_gone : (number : ℕ) → is_gone (slot_at files number) ≡ is_gone (slot_at other number)
  same_gone = told_alike is_gone gone_by gone_is

  pub same_open : (number : ℕ) → is_open (slot_at files number) ≡ is_open (slot_at other number)
  same_open = told_alike is_open open_by open_is

  pub same_broken : (number : ℕ) → is_broken (slot_at files number) ≡ is_broken (slot_at other number)
  same_broken = told_alike is_broken broken_by broken_is

  -- ---- the tests of the files of nodes

  any_same : (one two : NodeId → Bool) → ((node : NodeId) → one node ≡ two node) → (nodes : List NodeId) → list_any one nodes ≡ list_any two nodes
  any_same one two is [] = refl
  any_same one two is (node ∷ nodes) = ap (λ b. b || list_any one nodes) (is node) ∙ ap (λ b. two node || b) (any_same one two is nodes)

  pub same_tests : (nodes : List NodeId) → tests_of_files files nodes ≡ tests_of_files other nodes
  same_tests nodes =
      ap (λ (b : Bool). (b, NoSuchFile) ∷ (list_any (λ (node : NodeId). not (is_open (slot_at files node.file))) nodes, NotOpen) ∷ (list_any (λ (node : NodeId). is_broken (slot_at files node.file)) nodes, AdfError.Broken) ∷ [])
      (any_same (λ (node : NodeId). is_gone (slot_at files node.file)) (λ (node : NodeId). is_gone (slot_at other node.file)) (λ (node : NodeId). same_gone node.file) nodes)
      ∙ ap (λ (b : Bool). (list_any (λ (node : NodeId). is_gone (slot_at other node.file)) nodes, NoSuchFile) ∷ (b, NotOpen) ∷ (list_any (λ (node : NodeId). is_broken (slot_at files node.file)) nodes, AdfError.Broken) ∷ [])
      (any_same (λ (node : NodeId). not (is_open (slot_at files node.file))) (λ (node : NodeId). not (is_open (slot_at other node.file))) (λ (node : NodeId). ap not (same_open node.file)) nodes)
      ∙ ap (λ (b : Bool). (list_any (λ (node : NodeId). is_gone (slot_at other node.file)) nodes, NoSuchFile) ∷ (list_any (λ (node : NodeId). not (is_open (slot_at other node.file))) nodes, NotOpen) ∷ (b, AdfError.Broken) ∷ [])
      (any_same (λ (node : NodeId). is_broken (slot_at files node.file)) (λ (node : NodeId). is_broken (slot_at other node.file)) (λ (node : NodeId). same_broken node.file) nodes)

  comes_alike : (first : Option AdfError) (linked : Bool) (error : AdfError) → ComesFromFiles files first linked error → ComesFromFiles other first linked error
  comes_alike first linked NoSuchFile h = h
  comes_alike first linked NotOpen h = h
  comes_alike first linked AdfError.Broken h = elim h [ inl is ↦ inl is | inr some ↦ inr (some.0, (some.1.0, sym (same_broken some.1.0) ∙ some.1.1)) ]
  comes_alike first linked error h = tt

  pub enters_alike : (nodes : List NodeId) (linked : Bool) (error : AdfError) → EntersFiles {A = Unit {0}} files nodes linked (Err error) → EntersFiles {A = Unit {0}} other nodes linked (Err error)
  enters_alike nodes linked error h = record {
    refused = subst (λ (tests : List Test). IsRefusedBy {A = Unit {0}} (first_refusal tests) (Err error)) (same_tests nodes) h.refused;
    comes = comes_alike (first_refusal (tests_of_files other nodes)) linked error (subst (λ (tests : List Test). ComesFromFiles files (first_refusal tests) linked error) (same_tests nodes) h.comes);
  }

-- ---- after edits that wait

pub fault_waits : (files now : Files) (before mid later : Devices) → OnlyWaits files before mid now → SomeOpenFault now mid later → SomeOpenFault files before later
fault_waits files now before mid later waits fault = (
  fault.0,
  sym (same_open now files waits.standing fault.0) ∙ fault.1,
  rose_before (device_at before fault.0).faults (device_at mid fault.0).faults (device_at later fault.0).faults (waits.devices.counts fault.0).faults fault.2,
)

pub cause_waits : (files now : Files) (before mid later : Devices) (error : AdfError) → OnlyWaits files before mid now → HasCauseOf now mid later error → HasCauseOf files before later error
cause_waits files now before mid later ReadFault waits h = fault_waits files now before mid later waits h
cause_waits files now before mid later (Layout rule place) waits h = h
cause_waits files now before mid later error waits h = h

-- a file that may be edited is open
pub editing_opens : (slot : Slot) → standing_of slot ≡ Editing → IsSome (open_of slot)
editing_opens (Live opened) e = refl
editing_opens Gone e = absurd (not_true (ap gone_by (sym e)))
editing_opens Raw e = absurd (not_true (ap open_by e))
editing_opens (Saved tree) e = absurd (not_true (ap open_by e))
editing_opens Slot.Broken e = absurd (not_true (ap broken_by (sym e)))
