-- Questions one after another, and what a pass over a list gathers.
use Rattle.std.proofs.Common.{◌≡◌, ◌≢◌, ◌∙◌, sym, ap, arith, ℕ, zero, suc, ◌+◌, ◌<◌, ◌≤◌, List, [], ◌∷◌, ◌++◌}
use Rattle.std.specs.Prelude.{Option, Some, None, is_some, Err, filter_map}
use Rattle.std.specs.Option.{option_to_list}
use Rattle.std.specs.List.{cons_option}
use Rattle.std.proofs.lemmas.List.{append-nil}
use Rattle.std.proofs.lemmas.List.Elements.{filter_map-append}
use Rattle.adf_model.specs.declared.error.AdfError.{AdfError}
use Rattle.adf_model.specs.declared.error.AdfError.TheVariants.{ReadFault}
use Rattle.adf_model.specs.Slots.{Files, Devices, IsTold, slot_at, is_gone, is_open}
use Rattle.adf_model.specs.Counts.{Rose}
use Rattle.adf_model.specs.Steps.{SomeOpenFault}
use Rattle.adf_model.proofs.Answering.Asking.{stays-trans}
use Rattle.sids_views.specs.Asks.{HasAskCause}
use Rattle.adf_model.specs.Causes.{OnlyAsks}

-- questions and then questions are questions
pub asks-trans : (one two three : Files) (a b c : Devices) → OnlyAsks one a b two → OnlyAsks two b c three → OnlyAsks one a c three
asks-trans one two three a b c p q = record {
  files_stay = q.files_stay ∙ p.files_stay;
  devices_stay = stays-trans a b c p.devices_stay q.devices_stay;
  placed = λ n h. q.placed n h ∙ p.placed n h;
}

rose_later : (a b c : ℕ) → a ≤ b → Rose b c → Rose a c
rose_later a b c le h = omega arith

later_fault : (one two : Files) (a b c : Devices) → OnlyAsks one a b two → SomeOpenFault two b c → SomeOpenFault one a c
later_fault one two a b c only h = (
  h.0,
  ap (λ (fs : Files). is_open (slot_at fs h.0)) (sym only.files_stay) ∙ h.1,
  rose_later _ _ _ (only.devices_stay.counts h.0).faults h.2,
)

-- the cause of a later refusal is one of all questions, whatever the values are of
pub later_cause : (A B : Type 0) (one two : Files) (a b c : Devices) (e : AdfError) → OnlyAsks one a b two → HasAskCause {A = A} two b c (Err e) → HasAskCause {A = B} one a c (Err e)
later_cause A B one two a b c ReadFault only h = later_fault one two a b c only h
later_cause A B one two a b c e only h = h

not_None : (n : ℕ) → Some n ≢ None
not_None n e = cc

-- what devices tell, they tell after questions
pub told_after : (one two : Files) (a b : Devices) → OnlyAsks one a b two → IsTold one a → IsTold two b
told_after one two a b only told n h =
    ap is_some (only.devices_stay.others n (λ e. not_None n e)).held ∙ told n (ap (λ (fs : Files). is_gone (slot_at fs n)) (sym only.files_stay) ∙ h)

-- what one more item gives of a list
pub gathered_more : {X Y : Type 0} (f : X → Option Y) (xs : List X) (x : X) (ys : List Y) (o : Option Y) → ys ≡ filter_map f xs → o ≡ f x → ys ++ option_to_list o ≡ filter_map f (xs ++ x ∷ [])
gathered_more f xs x ys None sofar is = append-nil ys ∙ sofar ∙ sym (append-nil (filter_map f xs)) ∙ ap (λ o. filter_map f xs ++ cons_option o []) is ∙ sym (filter_map-append f xs (x ∷ []))
gathered_more f xs x ys (Some y) sofar is = ap (λ zs. zs ++ y ∷ []) sofar ∙ ap (λ o. filter_map f xs ++ cons_option o []) is ∙ sym (filter_map-append f xs (x ∷ []))
