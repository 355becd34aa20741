use Rattle.std.proofs.Common.{◌≢◌, [], arith, rules}
use Rattle.std.proofs.lemmas.List.Elements.{All-from_get_or}
use Rattle.percent_encoding.proofs.PercentLemmas.{IsByte}
use Rattle.adf_model.proofs.SpellingLemmas.{percent_encode-spelled}
use Rattle.adf_model.proofs.spelling.append_spelling.Goals as goal

pub returns : goal.returns
returns c =
    let small = All-from_get_or IsByte c.args.text.now 0 (λ i within. omega (arith, c.type_inv.text i)) in
    let some : c.args.text.now ≢ [] = search rules in
    let e = percent_encode-spelled c.args.text.now some small in
    rw (c.percent_encode.ensures.text, e) at c.append_to.ensures.ok
