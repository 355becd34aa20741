use Rattle.std.proofs.Common.{◌≡◌, refl, inl, arith}
use Rattle.std.specs.Prelude.{decimal}
use Rattle.call_script.specs.Tokens.{IsFileNumber}
use Rattle.call_script.specs.Fields.Kind.{a_file}
use Rattle.call_script.proofs.Reading.{ended_by, took, none_left, one_some, none_spelled}
use Rattle.call_script.proofs.tokens.Tokens.file_number.Goals as goal

pub returns-in_err-token : goal.returns-in_err-token
returns-in_err-token c = rw (ended_by _ _ c.from_residual.ensures.1) (none_left a_file _ (λ tokens value spelled. one_some _ tokens spelled) c.in_err-token.ensures.none.1 _ c.in_err-token.ensures.none.0)

pub returns-in-Some : goal.returns-in-Some
returns-in-Some c = took a_file _ _ _ _ c.in_ok-token.ensures.found (_, refl, (c.in-Some.ensures.found, omega arith))

pub returns-in-None : goal.returns-in-None
returns-in-None c = none_spelled a_file (λ n token. (token ≡ decimal n) × IsFileNumber n) _ _ _ (λ tokens value spelled. spelled) c.in_ok-token.ensures.found _ (inl refl) (λ _ n p. c.in-None.ensures.none refl n p.1 p.0)
