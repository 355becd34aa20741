use Rattle.std.proofs.Common.{◌∙◌, sym, ap, Some}
use Rattle.std.specs.Prelude.{option_map}
use Rattle.kept_names.specs.Lists.{renamed}
use Rattle.kept_names.proofs.Ties.{altered_tied, put_altered}
use Rattle.kept_names.proofs.names.Names.rename.Goals as goal

pub returns-then-rename-clause-tied : goal.returns-then-rename-clause-tied
returns-then-rename-clause-tied c = λ now was are.
    altered_tied (renamed c.args.name.now c.args.to) c.args.node c.args.self.now c.put.new.self now was
    (put_altered c.args.node _ c.rename.new.self c.args.self.now c.take.new.self c.put.new.self
    (ap (option_map (renamed c.args.name.now c.args.to)) (sym c.take.ensures.list ∙ c.in-Some.is) ∙ ap (λ l. Some l) (sym (c.rename.ensures.renamed c.if-rename.true)))
    c.take.ensures.group c.take.ensures.others c.put.ensures) are
