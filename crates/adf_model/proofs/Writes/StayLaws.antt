-- What stays where it is, and what comes first.
use Rattle.std.proofs.Common.{◌≡◌, ◌≢◌, ℕ, Bool, true, false, not, ◌||◌, ◌<◌, arith, List, [], ◌∷◌, refl, sym, ◌∙◌, ap, subst, ◌⊎◌, inl, inr}
use Rattle.std.specs.Prelude.{Option, Some, None, IsErr, IsTrue, Result, Ok, Err, if◌then◌else◌}
use Rattle.adf_format.specs.Tree.{Tree, is_live, children_at, IsAmong, IsTree}
use Rattle.adf_model.specs.declared.error.AdfError.{AdfError}
use Rattle.adf_model.specs.declared.error.AdfError.TheVariants.{Memory, ReadFault, Layout}
use Rattle.adf_model.specs.declared.tree.Query.{Query}
use Rattle.adf_model.specs.declared.tree.Reply.{Reply}
use Rattle.adf_model.specs.Tests.{Test, first_refusal, checked}
use Rattle.adf_model.specs.Edits.{file_tests_at_entry}
use Rattle.adf_model.specs.Slots.{Files, Devices, device_at}
use Rattle.adf_model.specs.Calls.{tests_at_entry}
use Rattle.adf_model.specs.Answers.{answer, asked_node, reply_to, searched, refusal_at_entry, file_answer, file_reply}
use Rattle.adf_model.specs.Steps.{OthersStayPlaced, placed_anew, IsFaultOr, IsAnswer, IsFileAnswer, is_query_error, HasReadCause}
use Rattle.adf_model.proofs.Basics.{not_true, same_Some, not_there}

pub no_root_child : (tree : Tree) (serial : ℕ) → IsTree tree → IsAmong (children_at tree serial) 0 → ⊥
no_root_child tree serial is h = absurd (not_below ((is.live serial 0 h).1))
  where
    not_below : 0 < 0 → ⊥
    not_below h = omega (arith, h)

-- ---- placements

anew_not : (result : Result Unit AdfError) (number one : ℕ) → (one ≡ number → IsErr result) → Some one ≢ placed_anew result number
anew_not (Ok done) number one refused e = absurd (not_true (refused (same_Some one number e)))
anew_not (Err error) number one refused e = absurd (not_there one (sym e))

pub stays_placed : (result : Result Unit AdfError) (number one : ℕ) (before now : Devices) → OthersStayPlaced (placed_anew result number) before now → (one ≡ number → IsErr result) → (device_at now one).placement ≡ (device_at before one).placement
stays_placed result number one before now others refused = others one (anew_not result number one refused)

not_none : (one : ℕ) → ◌≢◌ {A = Option ℕ} (Some one) None
not_none one e = cc

pub stays_placed_all : (one : ℕ) (before now : Devices) → OthersStayPlaced None before now → (device_at now one).placement ≡ (device_at before one).placement
stays_placed_all one before now others = others one (not_none one)

-- ---- the order of refusals

first_of_tests : {A : Type 0} (tests : List Test) (after : Result A AdfError) (error : AdfError) → first_refusal tests ≡ Some error → checked tests after ≡ Err error
first_of_tests [] after error e = absurd (not_there error e)
first_of_tests (test ∷ tests) after error e = by_test test.0 test.1 e (first_of_tests tests after error)
  where
    by_test : (b : Bool) (x : AdfError) → (if b then Some x else first_refusal tests) ≡ Some error → (first_refusal tests ≡ Some error → checked tests after ≡ Err error) → (if b then Err x else checked tests after) ≡ Err error
    by_test true x e later = ap Err (same_Some x error e)
    by_test false x e later = later e

entry_or : (at_entry : Option AdfError) (wanted : Result Reply AdfError) (error : AdfError) (result : Result Reply AdfError) → at_entry ≡ Some error → wanted ≡ Err error → IsFaultOr at_entry wanted result → (result ≡ Err Memory) ⊎ (result ≡ Err error)
entry_or at_entry wanted error (Err Memory) e w h = inl refl
entry_or at_entry wanted error (Err ReadFault) e w h = absurd (not_there error (sym h ∙ e))
entry_or at_entry wanted error result e w h = inr (h ∙ w)

pub entry_first : (files : Files) (query : Query) (error : AdfError) (result : Result Reply AdfError) → refusal_at_entry files query ≡ Some error → IsAnswer files query result → (result ≡ Err Memory) ⊎ (result ≡ Err error)
entry_first files query error result e h =
    entry_or (refusal_at_entry files query) (answer files query) error result e (first_of_tests (tests_at_entry files (asked_node query ∷ [])) (reply_to files query (searched query)) error e) h

-- the answer of one file is refused as its entry is
file_refused : (broken live : Bool) (error : AdfError) (reply : Result Reply AdfError) → first_refusal ((broken, AdfError.Broken) ∷ (live || false, AdfError.NoSuchNode) ∷ []) ≡ Some error
    → checked ((broken, AdfError.Broken) ∷ []) (checked ((live || false, AdfError.NoSuchNode) ∷ []) reply) ≡ Err error
file_refused true live error reply e = ap Err (same_Some AdfError.Broken error e)
file_refused false true error reply e = ap Err (same_Some AdfError.NoSuchNode error e)
file_refused false false error reply e = absurd (not_there error e)

pub file_entry_first : (broken : Bool) (tree : Tree) (query : Query) (error : AdfError) (result : Result Reply AdfError)
    → first_refusal (file_tests_at_entry broken tree (asked_node query ∷ [])) ≡ Some error → IsFileAnswer broken tree query result → (result ≡ Err Memory) ⊎ (result ≡ Err error)
file_entry_first broken tree query error result e h =
    entry_or (first_refusal (file_tests_at_entry broken tree (asked_node query ∷ []))) (checked ((broken, AdfError.Broken) ∷ []) (file_answer tree query)) error result e
    (file_refused broken (not (is_live tree (asked_node query).serial)) error (file_reply tree query (searched query)) e) h

query_error : (before now : Devices) (error : AdfError) → HasReadCause {A = Reply} before now (Err error) → IsTrue (is_query_error error)
query_error before now ReadFault h = refl
query_error before now (Layout rule place) h = refl
query_error before now error h = h

pub read_errors : (before now : Devices) (error : AdfError) (result : Result Reply AdfError) → result ≡ Err error → HasReadCause before now result → IsTrue (is_query_error error)
read_errors before now error result e h = query_error before now error (subst (HasReadCause before now) e h)
