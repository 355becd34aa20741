use Rattle.sids_tables.proofs.Tables.{kind_in-never_root, kind_in-outside}
use Rattle.sids_tables.specs.Labels.{profile_labels}
use Rattle.sids_tables.proofs.labels.label_kind.Goals as goal

pub returns-clause-outside : goal.returns-clause-outside
unfolding profile_labels
returns-clause-outside c = rw c.kind_in.ensures (kind_in-outside c.args.label.now)

pub returns-clause-never_root : goal.returns-clause-never_root
unfolding profile_labels
returns-clause-never_root c = rw c.kind_in.ensures (kind_in-never_root c.args.label.now)
