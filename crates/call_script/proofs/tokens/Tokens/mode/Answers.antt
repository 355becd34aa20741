use Rattle.std.proofs.Common.{◌≡◌, refl, inl}
use Rattle.call_script.specs.Tokens.{mode_word}
use Rattle.call_script.specs.Fields.Kind.{a_mode}
use Rattle.call_script.proofs.Reading.{ended_by, took, none_left, one_some, none_spelled}
use Rattle.call_script.proofs.tokens.Tokens.mode.Goals as goal

pub returns-in_err-token : goal.returns-in_err-token
returns-in_err-token c = rw (ended_by _ _ c.from_residual.ensures.1) (none_left a_mode _ (λ tokens value spelled. one_some _ tokens spelled) c.in_err-token.ensures.none.1 _ c.in_err-token.ensures.none.0)

pub returns-in-Some : goal.returns-in-Some
returns-in-Some c = took a_mode _ _ _ _ c.in_ok-token.ensures.found (_, refl, c.in-Some.ensures.found)

pub returns-in-None : goal.returns-in-None
returns-in-None c = none_spelled a_mode (λ mode token. token ≡ mode_word mode) _ _ _ (λ tokens value spelled. spelled) c.in_ok-token.ensures.found _ (inl refl) (λ _ v p. c.in-None.ensures.none refl v p)
