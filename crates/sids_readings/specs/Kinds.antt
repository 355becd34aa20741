-- What a child of a zone says of its kind.
use Rattle.std.specs.Prelude.{codes, Option}
use Rattle.adf_model.specs.declared.tree.NodeId.{NodeId}
use Rattle.adf_model.specs.Slots.{Files}
use Rattle.sids_rules.specs.declared.zones.RuleKind.{RuleKind}
use Rattle.sids_rules.specs.Terms.{text_of_first, kind_of_word}

-- the kind of a zone by the first child that tells it: structured without one
abbrev pub kind_by : Files → Option NodeId → RuleKind
kind_by files first = kind_of_word (text_of_first files (codes "Structured") first)
