use Rattle.std.proofs.Common.{◌≡◌, true, arith}
use Rattle.std.proofs.lemmas.Bool.Decides.{nat_tests}
use Rattle.call_script.specs.Tokens.{begins_plainly}
use Rattle.call_script.proofs.Numerals.{number_plain, number_utf8, parsed_found, parsed_none}
use Rattle.call_script.proofs.fields.read_number.Goals as goal

pub returns-then-not-begins_plainly-clause-none : goal.returns-then-not-begins_plainly-clause-none
returns-then-not-begins_plainly-clause-none c = λ _ n small e.
    let plain : begins_plainly c.args.token.now ≡ true = number_plain c.args.token.now n small e in
    grind (arith, nat_tests)

pub returns-in-Ok-clause-found : goal.returns-in-Ok-clause-found
returns-in-Ok-clause-found c =
    let plain : begins_plainly c.args.token.now ≡ true = grind (arith, nat_tests) in
    parsed_found _ c.args.token.now c.in-Ok.text.now c.parse.result c.ok.result plain c.in-Ok.ensures.cases.0 c.parse.ensures.value.0 c.ok.ensures.value

pub returns-in-Ok-clause-none : goal.returns-in-Ok-clause-none
returns-in-Ok-clause-none c =
    parsed_none _ c.args.token.now c.in-Ok.text.now c.parse.result c.ok.result c.in-Ok.ensures.cases.0 c.parse.ensures.value.0 c.ok.ensures.value

pub returns-in-Err-clause-none : goal.returns-in-Err-clause-none
returns-in-Err-clause-none c = λ _ n small e. c.in-Err.ensures.cases.0 (number_utf8 c.args.token.now n small e)
