use Rattle.std.proofs.Common.{◌≡◌, ◌≢◌, true, [], ◌∷◌, sym, ◌∙◌, ap, arith, rules, is_some}
use Rattle.std.proofs.lemmas.Grind.{common_steps}
use Rattle.std.proofs.lemmas.Bool.Decides.{nat_tests}
use Rattle.percent_encoding.specs.Percent.{percent_decode}
use Rattle.adf_model.specs.Spelling.{items_text}
use Rattle.call_script.proofs.Items.{items_decoded, text_of-items, some_text}
use Rattle.call_script.proofs.fields.read_text.Goals as goal

pub returns-clause-found : goal.returns-clause-found
returns-clause-found c =
    let some : c.args.token.now ≢ [] = search rules in
    let other : c.args.token.now ≢ 37 ∷ [] = search rules in
    let items : is_some (items_text c.args.token.now) ≡ true = grind (arith, nat_tests) in
    let value : c.new-2.result ≡ percent_decode c.args.token.now = grind (arith, common_steps) in
    text_of-items c.args.token.now some other ∙ items_decoded c.args.token.now items ∙ ap some_text (sym value)
