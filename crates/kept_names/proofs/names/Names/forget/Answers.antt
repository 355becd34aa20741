use Rattle.kept_names.proofs.Ties.{dropped_tied, gone_altered}
use Rattle.kept_names.proofs.names.Names.forget.Goals as goal

pub returns-clause-tied : goal.returns-clause-tied
returns-clause-tied c = λ list now was are.
    dropped_tied c.args.node list c.args.self.now c.take.new.self now was
    (gone_altered c.args.node c.args.self.now c.take.new.self c.take.ensures.group c.take.ensures.others c.take.ensures.this) are
