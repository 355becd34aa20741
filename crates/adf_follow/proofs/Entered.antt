-- The entry of a call: the files and the nodes that it names.
use Rattle.std.proofs.Common.{◌≡◌, ◌⊎◌, inl, inr, ℕ, Bool, true, false, not, List, [], ◌∷◌, refl, sym, ◌∙◌, ap, subst}
use Rattle.std.specs.Prelude.{Option, Some, None, IsSome, IfErr, if◌then◌else◌, Result, Ok, Err}
use Rattle.std.specs.List.{list_any}
use Rattle.adf_model.specs.declared.error.AdfError.{AdfError}
use Rattle.adf_model.specs.declared.error.AdfError.TheVariants.{Memory, NotOpen, NoSuchFile, NoSuchNode}
use Rattle.adf_model.specs.declared.tree.NodeId.{NodeId}
use Rattle.adf_model.specs.Tests.{Test, checked, first_refusal}
use Rattle.adf_model.specs.Slots.{Open, Files, slot_at, open_at, is_gone, is_open, is_broken}
use Rattle.adf_model.specs.Calls.{is_live_in, tests_of_files, tests_at_entry}
use Rattle.adf_model.specs.Steps.{IsMemoryOr, IsRefusedBy}
use Rattle.adf_model.specs.Causes.{ComesFromFiles, EntersFiles}
use Rattle.adf_model.proofs.Basics.{NoneHolds, not_true, not_false, or_none, passed}

-- ---- rows of tests

abbrev pub Passed : List Test → Type 0
Passed tests = ◌≡◌ {A = Result (Unit {0}) AdfError} (Ok tt) (checked tests (Ok tt))

abbrev pub Fails : List Test → AdfError → Type 0
Fails tests error = ◌≡◌ {A = Result (Unit {0}) AdfError} (Err error) (checked tests (Ok tt))

not_passed : (e : AdfError) → ◌≡◌ {A = Result (Unit {0}) AdfError} (Err e) (Ok tt) → ⊥
not_passed e h = cc

same_error : (one other : AdfError) → ◌≡◌ {A = Result (Unit {0}) AdfError} (Err one) (Err other) → one ≡ other
same_error one other h = cc

none_refuses : (tests : List Test) → NoneHolds tests → first_refusal tests ≡ None
none_refuses [] none = refl
none_refuses (test ∷ tests) none = ap (λ (b : Bool). if b then Some test.1 else first_refusal tests) none.0 ∙ none_refuses tests none.1

none_checked : {A : Type 0} (tests : List Test) (r : Result A AdfError) → NoneHolds tests → checked tests r ≡ r
none_checked [] r none = refl
none_checked (test ∷ tests) r none = ap (λ (b : Bool). if b then Err test.1 else checked tests r) none.0 ∙ none_checked tests r none.1

pub passes : (tests : List Test) → Passed tests → NoneHolds tests
passes tests e = (passed tests (Ok tt) tt (sym e)).0

pub passes_refused : (tests : List Test) → Passed tests → first_refusal tests ≡ None
passes_refused tests e = none_refuses tests (passes tests e)

pub passes_checked : {A : Type 0} (tests : List Test) (r : Result A AdfError) → Passed tests → checked tests r ≡ r
passes_checked tests r e = none_checked tests r (passes tests e)

pub refused_passes : (tests : List Test) → first_refusal tests ≡ None → Passed tests
refused_passes [] e = refl
refused_passes (test ∷ tests) e = by_test test.0 e (refused_passes tests)
  where
    some_none : (x : AdfError) → ◌≡◌ {A = Option AdfError} (Some x) None → ⊥
    some_none x e = cc

    by_test : (b : Bool) → (if b then Some test.1 else first_refusal tests) ≡ None → (first_refusal tests ≡ None → Passed tests) → ◌≡◌ {A = Result (Unit {0}) AdfError} (Ok tt) (if b then Err test.1 else checked tests (Ok tt))
    by_test true e later = absurd (some_none test.1 e)
    by_test false e later = later e

-- what follows a refusal does not matter
pub fails_checked : {A : Type 0} (tests : List Test) (r : Result A AdfError) (error : AdfError) → Fails tests error → checked tests r ≡ Err error
fails_checked [] r error e = absurd (not_passed error e)
fails_checked {A = A} (test ∷ tests) r error e = by_test test.0 e (fails_checked tests r error)
  where
    by_test : (b : Bool) → ◌≡◌ {A = Result (Unit {0}) AdfError} (Err error) (if b then Err test.1 else checked tests (Ok tt)) → (Fails tests error → checked tests r ≡ Err error) → ◌≡◌ {A = Result A AdfError} (if b then Err test.1 else checked tests r) (Err error)
    by_test true e later = sym (ap Err (same_error error test.1 e))
    by_test false e later = later e

-- ---- the entry of a call

abbrev pub is_entry_error : AdfError → Bool
is_entry_error NoSuchFile = true
is_entry_error NotOpen = true
is_entry_error AdfError.Broken = true
is_entry_error NoSuchNode = true
is_entry_error error = false

abbrev files_row : Bool → Bool → Bool → List Test
files_row gone shut broken = (gone, NoSuchFile) ∷ (shut, NotOpen) ∷ (broken, AdfError.Broken) ∷ []

-- a refusal is that of the files, or, where these do not refuse, of a node that is not live
by_tests : (gone shut broken dead : Bool) (error : AdfError) → Fails ((gone, NoSuchFile) ∷ (shut, NotOpen) ∷ (broken, AdfError.Broken) ∷ (dead, NoSuchNode) ∷ []) error
    → (is_entry_error error ≡ true) × ((first_refusal (files_row gone shut broken) ≡ Some error) ⊎ ((first_refusal (files_row gone shut broken) ≡ None) × (error ≡ NoSuchNode)))
by_tests true shut broken dead error e = let is = same_error error NoSuchFile e in (ap is_entry_error is, inl (ap Some (sym is)))
by_tests false true broken dead error e = let is = same_error error NotOpen e in (ap is_entry_error is, inl (ap Some (sym is)))
by_tests false false true dead error e = let is = same_error error AdfError.Broken e in (ap is_entry_error is, inl (ap Some (sym is)))
by_tests false false false true error e = let is = same_error error NoSuchNode e in (ap is_entry_error is, inr (refl, is))
by_tests false false false false error e = absurd (not_passed error e)

itself : (error : AdfError) → IsMemoryOr error error
itself Memory = tt
itself error = refl

from_first : (files : Files) (first : Option AdfError) (linked : Bool) (error : AdfError) → first ≡ Some error → ComesFromFiles files first linked error
from_first files first linked NoSuchFile e = e
from_first files first linked NotOpen e = e
from_first files first linked AdfError.Broken e = inl e
from_first files first linked error e = tt

module _ (files : Files) (nodes : List NodeId) where
  entry_fails : (error : AdfError) → Fails (tests_at_entry files nodes) error
      → (is_entry_error error ≡ true) × ((first_refusal (tests_of_files files nodes) ≡ Some error) ⊎ ((first_refusal (tests_of_files files nodes) ≡ None) × (error ≡ NoSuchNode)))
  entry_fails error e = by_tests (list_any (λ (node : NodeId). is_gone (slot_at files node.file)) nodes) (list_any (λ (node : NodeId). not (is_open (slot_at files node.file))) nodes)
      (list_any (λ (node : NodeId). is_broken (slot_at files node.file)) nodes) (list_any (λ (node : NodeId). not (is_live_in (open_at files node.file) node.serial)) nodes) error e

  pub entry_error : (error : AdfError) → Fails (tests_at_entry files nodes) error → is_entry_error error ≡ true
  entry_error error e = (entry_fails error e).0

  -- a refusal at entry enters
  pub refused_enters : {A : Type 0} (linked : Bool) (error : AdfError) → Fails (tests_at_entry files nodes) error → EntersFiles {A = A} files nodes linked (Err error)
  refused_enters {A = A} linked error e = let why = (entry_fails error e).1 in record {
    refused = elim why [
      | inl is ↦ subst (λ (o : Option AdfError). IsRefusedBy {A = A} o (Err error)) (sym is) (itself error)
      | inr none ↦ subst (λ (o : Option AdfError). IsRefusedBy {A = A} o (Err error)) (sym none.0) tt
    ];
    comes = elim why [
      | inl is ↦ from_first files (first_refusal (tests_of_files files nodes)) linked error is
      | inr none ↦ subst (ComesFromFiles files (first_refusal (tests_of_files files nodes)) linked) (sym none.1) tt
    ];
  }

  pub files_pass : Passed (tests_at_entry files nodes) → first_refusal (tests_of_files files nodes) ≡ None
  files_pass e = let none = passes (tests_at_entry files nodes) e in none_refuses (tests_of_files files nodes) (none.0, (none.1.0, (none.1.1.0, tt)))

  -- and so does what comes behind it
  pub passed_enters : {A : Type 0} (linked : Bool) (result : Result A AdfError) → Passed (tests_at_entry files nodes) → IfErr result (ComesFromFiles files None linked) → EntersFiles files nodes linked result
  passed_enters linked result e comes = let none = files_pass e in record {
    refused = subst (λ (o : Option AdfError). IsRefusedBy o result) (sym none) tt;
    comes = subst (λ (o : Option AdfError). IfErr result (ComesFromFiles files o linked)) (sym none) comes;
  }

pub live_opens : (o : Option Open) (serial : ℕ) → is_live_in o serial ≡ true → IsSome o
live_opens None serial e = absurd (not_true e)
live_opens (Some opened) serial e = refl

-- behind it the file of the node is open
pub entered_open : (files : Files) (node : NodeId) → Passed (tests_at_entry files (node ∷ [])) → IsSome (open_at files node.file)
entered_open files node e = let none = passes (tests_at_entry files (node ∷ [])) e in
    live_opens (open_at files node.file) node.serial (not_false _ (or_none (not (is_live_in (open_at files node.file) node.serial)) false none.1.1.1.0).0)
