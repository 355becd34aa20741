use Rattle.std.proofs.Common.{◌∙◌, ◌≤◌, ap, arith, length, take}
use Rattle.std.proofs.lemmas.List.{length-take}
use Rattle.adf_format.specs.Links.{is_link_text}
use Rattle.adf_format.specs.FirstFault.{payloads_in}
use Rattle.layout_lint.proofs.ContentLaws.{is_there, text_read}
use Rattle.layout_lint.proofs.contents.reads_link_text.Goals as goal

pub returns-in-Ok-clause-told : goal.returns-in-Ok-clause-told
returns-in-Ok-clause-told g c = λ image told end visits long sound are enough.
    let size : length (take c.args.size c.args.text.now) ≤ c.args.size = omega (arith, length-take c.args.size c.args.text.now) in
    c.is_some.ensures ∙ is_there c.split_link.result _ c.split_link.ensures.grammar
    ∙ ap is_link_text (text_read c.args.size c.args.text.now c.gather.new.into (payloads_in image visits) c.requires.fits c.gather.auto.into (c.in-Ok.ensures.told image told end visits long sound are (omega arith)))
