use Rattle.std.proofs.Common.{◌≡◌, arith}
use Rattle.call_script.proofs.Numerals.{same_number}
use Rattle.call_script.proofs.fields.read_limit.Goals as goal
use Rattle.call_script.proofs.fields.read_limit.Goals.{then-limit-eq0-via-then-limit-eq0, then-limit-eq0-via-else-limit-eq0+then-limit-gt-MOST_BLOCKS}

pub returns-then-limit-eq0-clause-none : goal.returns-then-limit-eq0-clause-none
returns-then-limit-eq0-clause-none c = λ _ limit is e.
    let same : c.in_ok-limit.limit ≡ limit = same_number c.args.token.now c.in_ok-limit.limit limit (omega arith) (omega arith) c.in_ok-limit.ensures.found e in
    elim c.then-limit-eq0.branch [
      | then-limit-eq0-via-then-limit-eq0 w ↦ omega arith
      | then-limit-eq0-via-else-limit-eq0+then-limit-gt-MOST_BLOCKS w ↦ omega arith
    ]
