use Rattle.std.proofs.Common.{◌∙◌, sym}
use Rattle.indexmap.proofs.CallerLemmas.{insert_entry-new}
use Rattle.kept_names.proofs.ListLaws.{not_some}
use Rattle.kept_names.proofs.list.Listed.add.Goals as goal

pub returns-clause-added : goal.returns-clause-added
returns-clause-added c = λ yes. rw (← c.self.view_is)
    (c.in-Ok.ensures.entries ∙ insert_entry-new _ c.self.inside.names c.args.name c.args.serial (not_some _ (sym c.contains_key.ensures ∙ c.if-contains_key.false)))
