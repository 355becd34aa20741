-- A refusal that names a rule names one of a layout.
use Rattle.std.proofs.Common.{◌≡◌, ℕ, Bool, true, false, not, [], ◌∷◌}
use Rattle.std.specs.Prelude.{Some, Ok, Err}
use Rattle.adf_format.specs.RuleNumbers.{IsRule}
use Rattle.adf_model.specs.declared.error.AdfError.{AdfError}
use Rattle.adf_model.specs.declared.error.AdfError.TheVariants.{NoSuchFile, NotOpen, AlreadyOpen, Layout}
use Rattle.adf_model.specs.declared.tree.Reply.{Reply}
use Rattle.adf_model.specs.declared.tree.Query.{Query}
use Rattle.adf_model.specs.Tests.{first_refusal}
use Rattle.adf_model.specs.Slots.{Files, Device, Devices, slot_at, device_at, is_gone, is_open}
use Rattle.adf_model.specs.Steps.{Opening, Fresh, Stored, IsFirstOr, HasQueryCause, HasCauseOf, IsLineError, Call, Opened, Closed, Discarded, Asked, Changed, Skipped, Misread}
use Rattle.adf_model.specs.Causes.{IsOpenCause, HasOpenCause, Anyway}
use Rattle.adf_model.specs.NamedRules.{NamesRule, NamesRules}

-- no test of a file's state names a rule
no_test : (one other : Bool) (first then : AdfError) (rule place : ℕ) → (first ≡ Layout rule place → ⊥) → (then ≡ Layout rule place → ⊥)
    → first_refusal ((one, first) ∷ (other, then) ∷ []) ≡ Some (Layout rule place) → ⊥
no_test true other first then rule place no_first no_then h = no_first cc
no_test false true first then rule place no_first no_then h = no_then cc
no_test false false first then rule place no_first no_then h = cc

first_named : (gone in_use : Bool) (rule place : ℕ) (Otherwise : Type 0) → (Otherwise → IsRule rule)
    → IsFirstOr (first_refusal ((gone, NoSuchFile) ∷ (in_use, AlreadyOpen) ∷ [])) (Layout rule place) Otherwise → IsRule rule
first_named true in_use rule place Otherwise so h = absurd cc
first_named false true rule place Otherwise so h = absurd cc
first_named false false rule place Otherwise so h = so h

cause_named : (opening : Opening) (before now : Device) (rule place : ℕ) → IsOpenCause opening before now (Layout rule place) → IsRule rule
cause_named (Fresh wide) before now rule place h = absurd h
cause_named (Stored writable) before now rule place h = h

opening_named : (files : Files) (number : ℕ) (opening : Opening) (before now : Devices) (error : AdfError) → HasOpenCause files number opening before now (Err error) → NamesRule error
opening_named files number opening before now (Layout rule place) h =
    first_named (is_gone (slot_at files number)) (is_open (slot_at files number)) rule place _ (cause_named opening (device_at before number) (device_at now number) rule place) h
opening_named files number opening before now error h = tt

close_named : (slot_gone closed : Bool) (error : AdfError) → first_refusal ((slot_gone, NoSuchFile) ∷ (closed, NotOpen) ∷ []) ≡ Some error → NamesRule error
close_named slot_gone closed (Layout rule place) h = absurd (no_test slot_gone closed NoSuchFile NotOpen rule place (λ e. cc) (λ e. cc) h)
close_named slot_gone closed error h = tt

discard_named : (slot_gone in_use : Bool) (error : AdfError) → first_refusal ((slot_gone, NoSuchFile) ∷ (in_use, AlreadyOpen) ∷ []) ≡ Some error → NamesRule error
discard_named slot_gone in_use (Layout rule place) h = absurd (no_test slot_gone in_use NoSuchFile AlreadyOpen rule place (λ e. cc) (λ e. cc) h)
discard_named slot_gone in_use error h = tt

query_named : (files : Files) (query : Query) (before now : Devices) (error : AdfError) → HasQueryCause {A = Reply} files query before now (Err error) → NamesRule error
query_named files query before now (Layout rule place) h = h
query_named files query before now error h = tt

group_named : (files : Files) (before now : Devices) (error : AdfError) → HasCauseOf files before now error → NamesRule error
group_named files before now (Layout rule place) h = h
group_named files before now error h = tt

line_named : (error : AdfError) → IsLineError error → NamesRule error
line_named (Layout rule place) h = absurd h
line_named error h = tt

pub rules_named : (files after : Files) (before now : Devices) (call : Call) → Anyway files before call now after → NamesRules call
rules_named files after before now (Opened number opening limit (Ok done)) h = tt
rules_named files after before now (Opened number opening limit (Err error)) h = opening_named files number opening before now error h.cause
rules_named files after before now (Closed number (Ok done)) h = tt
rules_named files after before now (Closed number (Err error)) h = close_named (is_gone (slot_at files number)) (not (is_open (slot_at files number))) error h.standing.0
rules_named files after before now (Discarded number (Ok done)) h = tt
rules_named files after before now (Discarded number (Err error)) h = discard_named (is_gone (slot_at files number)) (is_open (slot_at files number)) error h.standing.0
rules_named files after before now (Asked query (Ok reply)) h = tt
rules_named files after before now (Asked query (Err error)) h = query_named files query before now error h.cause
rules_named files after before now (Changed edits (Ok created)) h = tt
rules_named files after before now (Changed edits (Err refusal)) h = group_named files before now refusal.error h.cause
rules_named files after before now Skipped h = tt
rules_named files after before now (Misread error) h = line_named error h.0
