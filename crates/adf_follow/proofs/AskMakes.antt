-- A query is answered as the files answer it, where they are told; and under its cause in any case.
use Rattle.std.proofs.Common.{◌≡◌, inr, true, [], ◌∷◌, refl, sym, ◌∙◌}
use Rattle.std.specs.Prelude.{None, IsTrue, IfOk, IfErr, Result, Ok, Err}
use Rattle.adf_model.specs.declared.error.AdfError.{AdfError}
use Rattle.adf_model.specs.declared.error.AdfError.TheVariants.{Memory, ReadFault, NotOpen, NoSuchFile, NoSuchNode, Layout}
use Rattle.adf_model.specs.declared.tree.Query.{Query}
use Rattle.adf_model.specs.declared.tree.Reply.{Reply}
use Rattle.adf_model.specs.Slots.{Files, Devices}
use Rattle.adf_model.specs.Calls.{tests_at_entry}
use Rattle.adf_model.specs.Answers.{answer, asked_node, goes_through_links, searched, may_refuse, reply_to, IsReplyTo}
use Rattle.adf_model.specs.Steps.{IsAnswer, HasQueryCause, Asked}
use Rattle.adf_model.specs.Causes.{OnlyAsks, ComesFromFiles, EntersFiles}
use Rattle.adf_model.specs.Runs.{Makes}
use Rattle.adf_model.proofs.Basics.{not_true}
use Rattle.adf_model.proofs.Answering.AskLaws.{asks_keep, asks_none}
use Rattle.adf_follow.specs.Looking.{IsToldAsked, IsFound, HasAskCause, as_is}
use Rattle.adf_follow.proofs.Entered.{Passed, Fails, is_entry_error, passes_refused, passes_checked, fails_checked, entry_error, refused_enters, passed_enters}

entry_may : (query : Query) (error : AdfError) → is_entry_error error ≡ true → IsTrue (may_refuse query error)
entry_may query NoSuchFile e = refl
entry_may query NotOpen e = refl
entry_may query AdfError.Broken e = refl
entry_may query NoSuchNode e = refl
entry_may query error e = absurd (not_true e)

module _ (files : Files) (before now : Devices) (query : Query) where
  made : (after : Files) (result : Result Reply AdfError) → OnlyAsks files before now after → (IsToldAsked files before query → IsAnswer files query result) → HasQueryCause files query before now result
      → EntersFiles files (asked_node query ∷ []) (goes_through_links query) result → IfOk result (IsReplyTo query) → Makes files before (Asked query result) now after
  made after result leaves answers cause entry kind = record {
    step = λ told. (answers told, cause, leaves.files_stay, leaves.devices_stay, leaves.placed);
    layouts = asks_keep files after before now leaves;
    anyway = record { leaves = leaves; entry = entry; cause = cause; kind = kind };
  }

  entry_cause : (error : AdfError) → is_entry_error error ≡ true → HasQueryCause {A = Reply} files query before now (Err error)
  entry_cause ReadFault e = absurd (not_true e)
  entry_cause (Layout rule place) e = absurd (not_true e)
  entry_cause error e = entry_may query error e

  -- what is found behind the entry
  is_cause : (result : Result Reply AdfError) → IsFound (IsToldAsked files before query) (HasAskCause files query before now) as_is (reply_to files query (searched query)) result → HasQueryCause files query before now result
  is_cause (Ok reply) h = tt
  is_cause (Err Memory) h = may_lack query
    where
      may_lack : (query : Query) → IsTrue (may_refuse query Memory)
      may_lack query = refl
  is_cause (Err ReadFault) h = h
  is_cause (Err (Layout rule place)) h = h.0
  is_cause (Err AdfError.Broken) h = entry_may query AdfError.Broken refl
  is_cause (Err NotOpen) h = absurd h.0
  is_cause (Err NoSuchFile) h = absurd h.0
  is_cause (Err error) h = h.0

  comes : (result : Result Reply AdfError) → IsFound (IsToldAsked files before query) (HasAskCause files query before now) as_is (reply_to files query (searched query)) result
      → IfErr result (ComesFromFiles files None (goes_through_links query))
  comes (Ok reply) h = tt
  comes (Err NoSuchFile) h = absurd h.0
  comes (Err NotOpen) h = absurd h.0
  comes (Err AdfError.Broken) h = inr h.0
  comes (Err error) h = tt

  -- what the files answer behind the entry
  is_answer : (result : Result Reply AdfError) → Passed (tests_at_entry files (asked_node query ∷ [])) → IsFound (IsToldAsked files before query) (HasAskCause files query before now) as_is (reply_to files query (searched query)) result
      → IsToldAsked files before query → IsAnswer files query result
  is_answer result e h told = by_result result h
    where
      behind : answer files query ≡ reply_to files query (searched query)
      behind = passes_checked (tests_at_entry files (asked_node query ∷ [])) (reply_to files query (searched query)) e

      by_result : (result : Result Reply AdfError) → IsFound (IsToldAsked files before query) (HasAskCause files query before now) as_is (reply_to files query (searched query)) result → IsAnswer files query result
      by_result (Ok reply) h = sym (behind ∙ h told)
      by_result (Err Memory) h = tt
      by_result (Err ReadFault) h = passes_refused (tests_at_entry files (asked_node query ∷ [])) e
      by_result (Err error) h = sym (behind ∙ h.1 told)

  pub answered_makes : (after : Files) (result : Result Reply AdfError) → Passed (tests_at_entry files (asked_node query ∷ [])) → OnlyAsks files before now after → IfOk result (IsReplyTo query)
      → IsFound (IsToldAsked files before query) (HasAskCause files query before now) as_is (reply_to files query (searched query)) result → Makes files before (Asked query result) now after
  answered_makes after result e leaves kind h =
      made after result leaves (is_answer result e h) (is_cause result h) (passed_enters files (asked_node query ∷ []) (goes_through_links query) result e (comes result h)) kind

-- a query that is refused at its entry
pub refused_makes : (files : Files) (devices : Devices) (query : Query) (error : AdfError) → Fails (tests_at_entry files (asked_node query ∷ [])) error → Makes files devices (Asked query (Err error)) devices files
refused_makes files devices query error e =
    let entry = entry_error files (asked_node query ∷ []) error e in
    made files devices devices query files (Err error) (asks_none files devices) (λ told. by_error error entry (sym (fails_checked (tests_at_entry files (asked_node query ∷ [])) (reply_to files query (searched query)) error e)))
    (entry_cause files devices devices query error entry) (refused_enters files (asked_node query ∷ []) (goes_through_links query) error e) tt
  where
    by_error : (x : AdfError) → is_entry_error x ≡ true → ◌≡◌ {A = Result Reply AdfError} (Err x) (answer files query) → IsAnswer files query (Err x)
    by_error Memory entry h = absurd (not_true entry)
    by_error ReadFault entry h = absurd (not_true entry)
    by_error x entry h = h
