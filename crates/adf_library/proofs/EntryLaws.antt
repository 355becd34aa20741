-- Of two nodes of which each is tested by itself the one whose test comes first refuses.
use Rattle.std.proofs.Common.{◌≡◌, Bool, true, false, not, [], ◌∷◌, refl, ◌∙◌, ap}
use Rattle.std.specs.Prelude.{◌||◌, Result}
use Rattle.adf_library.specs.Entries.{first_of}
use Rattle.adf_library.proofs.EnterLaws.{entered, four}
use Rattle.adf_model.specs.Calls.{is_live_in, tests_at_entry}
use Rattle.adf_model.specs.Slots.{Files, slot_at, open_at, is_broken, is_gone, is_open}
use Rattle.adf_model.specs.declared.error.AdfError.{AdfError}
use Rattle.adf_model.specs.declared.tree.NodeId.{NodeId}

two_enter : (a b c d a' b' c' d' : Bool) → first_of (entered (four (a || false) (b || false) (c || false) (d || false))) (entered (four (a' || false) (b' || false) (c' || false) (d' || false)))
    ≡ entered (four (a || (a' || false)) (b || (b' || false)) (c || (c' || false)) (d || (d' || false)))
two_enter true b c d true b' c' d' = refl
two_enter true b c d false true c' d' = refl
two_enter true b c d false false true d' = refl
two_enter true b c d false false false true = refl
two_enter true b c d false false false false = refl
two_enter false true c d true b' c' d' = refl
two_enter false true c d false true c' d' = refl
two_enter false true c d false false true d' = refl
two_enter false true c d false false false true = refl
two_enter false true c d false false false false = refl
two_enter false false true d true b' c' d' = refl
two_enter false false true d false true c' d' = refl
two_enter false false true d false false true d' = refl
two_enter false false true d false false false true = refl
two_enter false false true d false false false false = refl
two_enter false false false true true b' c' d' = refl
two_enter false false false true false true c' d' = refl
two_enter false false false true false false true d' = refl
two_enter false false false true false false false true = refl
two_enter false false false true false false false false = refl
two_enter false false false false true b' c' d' = refl
two_enter false false false false false true c' d' = refl
two_enter false false false false false false true d' = refl
two_enter false false false false false false false true = refl
two_enter false false false false false false false false = refl

pub both_enter : (files : Files) (node other : NodeId) (one two : Result Unit AdfError) → one ≡ entered (tests_at_entry files (node ∷ [])) → two ≡ entered (tests_at_entry files (other ∷ []))
    → first_of one two ≡ entered (tests_at_entry files (node ∷ other ∷ []))
both_enter files node other one two is too =
    ap (λ (r : Result Unit AdfError). first_of r two) is ∙ ap (first_of (entered (tests_at_entry files (node ∷ [])))) too
    ∙ two_enter (is_gone (slot_at files node.file)) (not (is_open (slot_at files node.file))) (is_broken (slot_at files node.file)) (not (is_live_in (open_at files node.file) node.serial))
    (is_gone (slot_at files other.file)) (not (is_open (slot_at files other.file))) (is_broken (slot_at files other.file)) (not (is_live_in (open_at files other.file) other.serial))
