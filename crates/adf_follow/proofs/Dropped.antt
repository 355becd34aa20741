-- What waits in the file of a group, and what is left once it is dropped.
use Rattle.std.proofs.Common.{◌≡◌, ◌≢◌, ◌⊎◌, inl, inr, ℕ, zero, suc, ◌≤◌, [], ◌∷◌, refl, sym, ◌∙◌, ap, subst, arith}
use Rattle.std.specs.Prelude.{Option, Some, None}
use Rattle.std.proofs.lemmas.Bool.Decides.{eqb_tells}
use Rattle.adf_format.specs.Placement.{Placement}
use Rattle.adf_model.specs.declared.error.AdfError.{AdfError}
use Rattle.adf_model.specs.declared.error.AdfError.TheVariants.{ReadFault, Layout}
use Rattle.adf_model.specs.declared.tree.Edit.{Edit}
use Rattle.adf_model.specs.Counts.{Rose}
use Rattle.adf_model.specs.Slots.{Files, Devices, slot_at, with_slot, device_at}
use Rattle.adf_model.specs.Steps.{OthersOnlyRead, OthersStayPlaced, HasCauseOf}
use Rattle.adf_model.proofs.Basics.{not_there, same_Some}
use Rattle.adf_model.proofs.Following.OneFileLaws.{slot_twice}
use Rattle.adf_follow.specs.Groups.{Pending, at_rest, IsRefusedAnyway, LeavesUndone, StandBut, WaitsIn}

pub not_none : (n : ℕ) → ◌≢◌ {A = Option ℕ} (Some n) None
not_none n e = cc

pub as_it_is : (files : Files) (number : ℕ) → with_slot files number (slot_at files number) ≡ files
as_it_is [] number = refl
as_it_is (file ∷ files) zero = refl
as_it_is (file ∷ files) (suc number) = ap (λ (fs : Files). file ∷ fs) (as_it_is files number)

-- with the slot of a group's file as it was committed all are
pub put_back : (group : Option ℕ) (files kept : Files) (number : ℕ) → StandBut group files kept → (group ≡ None) ⊎ (group ≡ Some number) → with_slot files number (slot_at kept number) ≡ kept
put_back None files kept number same own = ap (λ (f : Files). with_slot f number (slot_at kept number)) same ∙ as_it_is kept number
put_back (Some n) files kept number same own = elim own [
  | inl none ↦ absurd (not_there n (sym none))
  | inr is ↦ subst (λ k. with_slot files k (slot_at kept k) ≡ kept) (same_Some n number is) same
]

-- nothing waits in a file whose parts stay
still_at_rest : (before now : Devices) (n : ℕ) → OthersStayPlaced None before now → at_rest (device_at before n) ≡ at_rest (device_at now n)
still_at_rest before now n placed = ap (λ (p : Placement). record { done = []; placement = p; cost = 0 }) (sym (placed n (not_none n)))

module _ (group : Option ℕ) (files after : Files) (before now : Devices) (was pending : Pending) (waits : WaitsIn group files before was) (placed : OthersStayPlaced None before now) (kept : pending.kept ≡ was.kept) where
  apart : (n number : ℕ) → (group ≡ None) ⊎ (group ≡ Some number) → n ≢ number → Some n ≢ group
  apart n number own other e = elim own [ inl none ↦ not_none n (e ∙ none) | inr is ↦ other (same_Some n number (e ∙ is)) ]

  -- an edit is done in the group's file
  pub waits_on : (number : ℕ) → (group ≡ None) ⊎ (group ≡ Some number) → after ≡ with_slot files number (slot_at after number) → ((n : ℕ) → n ≢ number → pending.work n ≡ was.work n) → WaitsIn (Some number) after now pending
  waits_on number own left others = record {
    others = subst (λ (k : Files). with_slot after number (slot_at k number) ≡ k) (sym kept) (
        ap (λ (f : Files). with_slot f number (slot_at was.kept number)) left
        ∙ slot_twice files number (slot_at after number) (slot_at was.kept number)
        ∙ put_back group files was.kept number waits.others own);
    rest = λ n other. let far : n ≢ number = λ e. other (ap Some e) in others n far ∙ waits.rest n (apart n number own far) ∙ still_at_rest before now n placed;
  }

  -- what waited there is dropped
  pub waits_no_more : (number : ℕ) → (group ≡ None) ⊎ (group ≡ Some number) → after ≡ with_slot files number (slot_at was.kept number) → pending.work number ≡ at_rest (device_at now number) → ((n : ℕ) → n ≢ number → pending.work n ≡ was.work n) → WaitsIn None after now pending
  waits_no_more number own left rest others = record {
    others = left ∙ put_back group files was.kept number waits.others own ∙ sym kept;
    rest = λ n any. elim (eqb_tells n number) [
      | inl is ↦ subst (λ k. pending.work k ≡ at_rest (device_at now k)) (sym is.1) rest
      | inr far ↦ others n far.1 ∙ waits.rest n (apart n number own far.1) ∙ still_at_rest before now n placed
    ];
  }

  -- nothing was changed
  waits_still : after ≡ files → pending ≡ was → WaitsIn group after now pending
  waits_still same is = record {
    others = subst (λ (f : Files). StandBut group f pending.kept) (sym same) (subst (StandBut group files) (sym kept) waits.others);
    rest = λ n other. ap (λ (p : Pending). p.work n) is ∙ waits.rest n other ∙ still_at_rest before now n placed;
  }

  any_group : (g : Option ℕ) → WaitsIn None after now pending → WaitsIn g after now pending
  any_group None h = h
  any_group (Some n) h = record {
    others = ap (λ (f : Files). with_slot f n (slot_at pending.kept n)) h.others ∙ as_it_is pending.kept n;
    rest = λ k other. h.rest k (not_none k);
  }

  pub waits_refused : LeavesUndone group files was now pending after → WaitsIn group after now pending
  waits_refused left = elim left [
    | inl same ↦ waits_still same.0 same.1
    | inr undone ↦ any_group group (waits_no_more undone.number undone.own undone.left undone.rest undone.others)
  ]

-- a group that has no file waits nowhere
pub of_none : (group : Option ℕ) (files : Files) (devices : Devices) (pending : Pending) → group ≡ None → WaitsIn group files devices pending → WaitsIn None files devices pending
of_none group files devices pending none h = subst (λ g. WaitsIn g files devices pending) none h

-- a refusal keeps its cause over later reads
pub cause_later : (files : Files) (before mid later : Devices) (edit : Edit) (error : AdfError) → OthersOnlyRead None mid later → IsRefusedAnyway files before mid edit error → IsRefusedAnyway files before later edit error
cause_later files before mid later edit error read h = record { entry = h.entry; cause = by_error error h.cause; kind = h.kind }
  where
    rose_later : (a b c : ℕ) → b ≤ c → Rose a b → Rose a c
    rose_later a b c le rose = omega (arith, le, rose)

    by_error : (x : AdfError) → HasCauseOf files before mid x → HasCauseOf files before later x
    by_error ReadFault fault = (fault.0, fault.1, rose_later (device_at before fault.0).faults (device_at mid fault.0).faults (device_at later fault.0).faults (read.counts fault.0).faults fault.2)
    by_error (Layout rule place) is = is
    by_error x is = is
