use Rattle.std.proofs.Common.{◌≡◌, arith}
use Rattle.call_script.proofs.Numerals.{same_number}
use Rattle.call_script.proofs.fields.read_file_number.Goals as goal

pub returns-then-number-from-clause-none : goal.returns-then-number-from-clause-none
returns-then-number-from-clause-none c = λ _ n small e.
    let same : c.in_ok-number.number ≡ n = same_number c.args.token.now c.in_ok-number.number n (omega arith) (omega arith) c.in_ok-number.ensures.found e in
    omega arith
