-- What is appended for a reply, piece by piece.
use Rattle.std.proofs.Common.{◌≡◌, ℕ, List, [], ◌∷◌, ◌++◌, refl, ◌∙◌, ap, map, flat_map, decimal}
use Rattle.std.specs.Prelude.{codes}
use Rattle.std.specs.List.{join_with_byte}
use Rattle.std.proofs.lemmas.List.{append-nil}
use Rattle.call_script.specs.declared.calls.Answer.{Answer}
use Rattle.call_script.specs.declared.calls.Answer.TheVariants as answer
use Rattle.adf_model.specs.declared.error.AdfError.{AdfError}
use Rattle.adf_model.specs.declared.error.EditError.{EditError}
use Rattle.call_script.specs.Replies.{reply_line, told, number_field}
use Rattle.call_script.specs.Tokens.{dims_text}

-- dimensions one after another
joined : (first : ℕ) (others : List ℕ) → decimal first ++ flat_map (λ n. 44 ∷ decimal n) others ≡ join_with_byte 44 (map decimal (first ∷ others))
joined first [] = append-nil (decimal first)
joined first (next ∷ others) = ap (λ text. decimal first ++ (44 ∷ text)) (joined next others)

pub dims_appended : (line now : List ℕ) (first : ℕ) (others : List ℕ) → now ≡ line ++ (number_field first ++ flat_map (λ n. 44 ∷ decimal n) others) → now ≡ line ++ (32 ∷ dims_text (first ∷ others))
dims_appended line now first others h = h ∙ ap (λ text. line ++ (32 ∷ text)) (joined first others)

-- an answer that is no refusal
pub done_line : (given : Answer) → ((error : AdfError) → given ≡ answer.Refused error → ⊥) → ((error : EditError) → given ≡ answer.EditRefused error → ⊥) → reply_line given ≡ codes "ok" ++ told given
done_line (answer.Refused error) one other = absurd (one error refl)
done_line (answer.EditRefused error) one other = absurd (other error refl)
done_line answer.Done one other = refl
done_line (answer.Text text) one other = refl
done_line (answer.Shape shape) one other = refl
done_line (answer.Children children) one other = refl
done_line (answer.Link file path) one other = refl
done_line (answer.Hex bytes) one other = refl
done_line (answer.Node node) one other = refl
done_line (answer.Format format) one other = refl
done_line (answer.Created nodes) one other = refl
