use Rattle.std.proofs.Common.{refl}
use Rattle.call_script.specs.Tokens.{IsHex}
use Rattle.call_script.specs.Fields.Kind.{some_bytes}
use Rattle.call_script.proofs.Reading.{ended_by, none_left, one_some, read_one}
use Rattle.call_script.proofs.tokens.Tokens.bytes.Goals as goal

pub returns-in_err-token : goal.returns-in_err-token
returns-in_err-token c = rw (ended_by _ _ c.from_residual.ensures.1) (none_left some_bytes _ (λ tokens value spelled. one_some _ tokens spelled) c.in_err-token.ensures.none.1 _ c.in_err-token.ensures.none.0)

pub returns : goal.returns
returns c = read_one some_bytes (λ value token. IsHex token value) (λ tokens value spelled. spelled) (λ token value is. (token, refl, is)) _ _ _ c.in_ok-token.ensures.found _ c.read_hex.ensures.found c.read_hex.ensures.none c.read_hex.ensures.why
