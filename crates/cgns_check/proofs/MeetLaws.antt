-- A file that is open and not broken has its first node.
use Rattle.std.proofs.Common.{◌≡◌, ◌≢◌, ◌∙◌, ap, refl, ℕ, true, false, []}
use Rattle.std.specs.Prelude.{Some, Err}
use Rattle.adf_model.specs.declared.error.AdfError.{AdfError}
use Rattle.adf_model.specs.declared.error.AdfError.TheVariants.{Memory, ReadFault, Layout}
use Rattle.adf_model.specs.declared.tree.Query.{Query}
use Rattle.adf_model.specs.Slots.{Open, Slot, Files, Devices, AreTrees, slot_at, open_of, is_open, is_broken}
use Rattle.adf_model.specs.Slots.Slot.{Gone, Raw, Saved, Live}
use Rattle.adf_model.specs.Calls.{is_live_in}
use Rattle.adf_model.specs.Steps.{IsAnswer}
use Rattle.adf_model.proofs.Basics.{not_true, not_Err}
use Rattle.sids_views.specs.Asks.{IsThere, HasAskCause}
use Rattle.sids_views.proofs.Asked.{own_answer}
use Rattle.sids_rules.specs.SeenNodes.{IsSeen}
use Rattle.cgns_check.specs.Levels.{visit_at, root_stop}
use Rattle.cgns_check.specs.Checked.{IsMet}

not_false : true ≢ false
not_false e = cc

open_live : (slot : Slot) → is_open slot ≡ true → is_broken slot ≡ false → (opened : Open) × (open_of slot ≡ Some opened)
open_live Gone h k = absurd (not_true h)
open_live Raw h k = absurd (not_true h)
open_live (Saved tree) h k = absurd (not_true h)
open_live (Live opened) h k = (opened, refl)
open_live Slot.Broken h k = absurd (not_false k)

root_there : (files : Files) (file : ℕ) → AreTrees files → is_open (slot_at files file) ≡ true → is_broken (slot_at files file) ≡ false → IsThere files (record { file = file; serial = 0 })
root_there files file trees opens whole =
    let live = open_live (slot_at files file) opens whole in
    ap (λ o. is_live_in o 0) live.1 ∙ (trees file live.0 live.1).root

-- so it may be looked at
pub root_seen : (files : Files) (file : ℕ) → AreTrees files → is_open (slot_at files file) ≡ true → is_broken (slot_at files file) ≡ false → IsSeen files (visit_at files [] (root_stop file)).seen
root_seen files file trees opens whole = record { there = root_there files file trees opens whole; target = refl; parent = tt; base = tt; zone = tt }

-- and its name is answered
pub root_met : (files : Files) (file : ℕ) → AreTrees files → is_open (slot_at files file) ≡ true → is_broken (slot_at files file) ≡ false
    → (e : AdfError) → IsAnswer files (Query.Name (record { file = file; serial = 0 })) (Err e) → IsMet (Err e)
root_met files file trees opens whole Memory h = tt
root_met files file trees opens whole ReadFault h = tt
root_met files file trees opens whole e h =
    absurd (not_Err (h ∙ (own_answer files (Query.Name (record { file = file; serial = 0 })) refl refl (root_there files file trees opens whole)).2))

-- the cause of a refusal, whatever the values are of
pub same_cause : (A B : Type 0) (files : Files) (before now : Devices) (e : AdfError) → HasAskCause {A = A} files before now (Err e) → HasAskCause {A = B} files before now (Err e)
same_cause A B files before now ReadFault h = h
same_cause A B files before now (Layout rule place) h = h
same_cause A B files before now e h = h
