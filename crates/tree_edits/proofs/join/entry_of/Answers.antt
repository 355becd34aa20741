use Rattle.std.proofs.Common.{◌∙◌, ap}
use Rattle.adf_format.specs.Records.{entry_text}
use Rattle.disk_ptr.specs.View.{view}
use Rattle.tree_edits.proofs.NameWritten.{entry_again}
use Rattle.tree_edits.proofs.join.entry_of.Goals as goal

pub returns : goal.returns
returns c =
    entry_again _ c.encode_entry.result c.args.place c.from_place.result (c.encode_entry.ensures ∙ ap (λ t. entry_text t (view c.from_place.result)) c.name_field.ensures) c.from_place.ensures
