use Rattle.std.proofs.Common.{refl}
use Rattle.call_script.specs.Tokens.{IsText}
use Rattle.call_script.specs.Fields.Kind.{a_text}
use Rattle.call_script.proofs.Reading.{ended_by, none_left, one_some, read_one, no_text}
use Rattle.call_script.proofs.tokens.Tokens.text.Goals as goal

pub returns-in_err-token : goal.returns-in_err-token
returns-in_err-token c = rw (ended_by _ _ c.from_residual.ensures.1) (none_left a_text _ (λ tokens value spelled. one_some _ tokens spelled) c.in_err-token.ensures.none.1 _ c.in_err-token.ensures.none.0)

pub returns : goal.returns
returns c = read_one a_text (λ value token. IsText token value) (λ tokens value spelled. spelled) (λ token value is. (token, refl, is)) _ _ _ c.in_ok-token.ensures.found _ c.read_text.ensures.found (λ is text spelled. no_text _ text (c.read_text.ensures.none is) spelled) c.read_text.ensures.why
