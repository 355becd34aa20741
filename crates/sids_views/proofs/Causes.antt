-- Why questions are refused.
use Rattle.std.proofs.Common.{◌≡◌, refl, sym, subst, Bool, true, false, not, ◌||◌, List, [], ◌∷◌}
use Rattle.std.specs.Prelude.{Result, Ok, Err, IsTrue}
use Rattle.adf_model.specs.declared.error.AdfError.{AdfError}
use Rattle.adf_model.specs.declared.error.AdfError.TheVariants.{Memory, ReadFault, NoSuchFile, NotOpen, Layout}
use Rattle.adf_model.specs.declared.tree.NodeId.{NodeId}
use Rattle.adf_model.specs.declared.tree.Query.{Query}
use Rattle.adf_model.specs.declared.tree.Reply.{Reply}
use Rattle.adf_model.specs.Tests.{first_refusal, and_then}
use Rattle.adf_model.specs.Slots.{Slot, Files, Devices, slot_at, is_open}
use Rattle.adf_model.specs.Slots.Slot.{Gone, Raw, Saved, Live}
use Rattle.adf_model.specs.Calls.{tests_of_files}
use Rattle.adf_model.specs.Answers.{asked_node, goes_through_links, may_refuse}
use Rattle.adf_model.specs.Steps.{SomeOpenFault, IsRefusedBy, HasReadFault, HasQueryCause, is_query_error}
use Rattle.adf_model.proofs.Basics.{not_true}
use Rattle.sids_views.specs.Asks.{HasAskCause}

-- each error that a query may be refused with is one of queries
allowed : (query : Query) (error : AdfError) → (not (may_refuse query error) || is_query_error error) ≡ true
allowed (Query.Name node) Memory = refl
allowed (Query.Name node) error = refl
allowed (Query.LabelOf node) Memory = refl
allowed (Query.LabelOf node) error = refl
allowed (Query.ShapeOf node) Memory = refl
allowed (Query.ShapeOf node) error = refl
allowed (Query.ChildrenOf node) Memory = refl
allowed (Query.ChildrenOf node) error = refl
allowed (Query.LinkText node) Memory = refl
allowed (Query.LinkText node) error = refl
allowed (Query.ReadAll node) Memory = refl
allowed (Query.ReadAll node) error = refl
allowed (Query.ReadPart node selection) Memory = refl
allowed (Query.ReadPart node selection) error = refl
allowed (Query.Find node path) Memory = refl
allowed (Query.Find node path) error = refl
allowed (Query.Next node) Memory = refl
allowed (Query.Next node) error = refl
allowed (Query.FormatOf node) Memory = refl
allowed (Query.FormatOf node) error = refl
allowed (Query.Parent node) Memory = refl
allowed (Query.Parent node) error = refl
allowed (Query.Target node) Memory = refl
allowed (Query.Target node) error = refl

implied : (a b : Bool) → (not a || b) ≡ true → a ≡ true → b ≡ true
implied true b h e = h
implied false b h e = absurd (not_true e)

error_allowed : (query : Query) (error : AdfError) → IsTrue (may_refuse query error) → IsTrue (is_query_error error)
error_allowed query error h = implied (may_refuse query error) (is_query_error error) (allowed query error) h

not_file : ReadFault ≡ NoSuchFile → ⊥
not_file e = cc

not_open : ReadFault ≡ NotOpen → ⊥
not_open e = cc

-- a read can only fail in a file that is open
opened : (A : Type 0) (files : Files) (at : NodeId) (slot : Slot) → slot_at files at.file ≡ slot → IsRefusedBy {A = A} (first_refusal (tests_of_files files (at ∷ []))) (Err ReadFault) → is_open slot ≡ true
opened A files at Gone is h = absurd (not_file (rw is at h))
opened A files at Raw is h = absurd (not_open (rw is at h))
opened A files at (Saved tree) is h = absurd (not_open (rw is at h))
opened A files at (Live there) is h = refl
opened A files at Slot.Broken is h = refl

of_open : (linked : Bool) (files : Files) (at : NodeId) (a b : Devices) → is_open (slot_at files at.file) ≡ true → HasReadFault linked at.file files a b → SomeOpenFault files a b
of_open true files at a b there h = h
of_open false files at a b there h = (at.file, there, h)

-- the cause of a query is one of questions
pub query_cause : {A : Type 0} (files : Files) (a b : Devices) (query : Query) (r : Result A AdfError) → IsRefusedBy (first_refusal (tests_of_files files (asked_node query ∷ []))) r → HasQueryCause files query a b r → HasAskCause files a b r
query_cause {A = A} files a b query (Ok value) entry h = tt
query_cause {A = A} files a b query (Err ReadFault) entry h =
    of_open (goes_through_links query) files (asked_node query) a b (opened A files (asked_node query) (slot_at files (asked_node query).file) refl entry) h
query_cause {A = A} files a b query (Err (Layout rule place)) entry h = h
query_cause {A = A} files a b query (Err error) entry h = error_allowed query error h
