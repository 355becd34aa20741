-- What a header of a node breaks is a rule of a layout.
use Rattle.std.proofs.Common.{ℕ, Bool, List}
use Rattle.std.specs.Prelude.{Option, None}
use Rattle.adf_format.specs.RecordFields.{field_in}
use Rattle.adf_format.specs.RuleNumbers.{IsRule}
use Rattle.adf_format.specs.FirstFault.{is_same_name}
use Rattle.adf_format.specs.declared.fields.TheConstants.{NODE_NAME}
use Rattle.layout_laws.proofs.RuleRows.{node_rule}
use Rattle.tree_edits.specs.Causes.{HeaderBreaks}

pub header_rule : (wide : Bool) (held : Option (List ℕ)) (place rule at : ℕ) → HeaderBreaks wide held place rule at → IsRule rule
header_rule wide held place rule at b = node_rule wide (is_same_name None (field_in b.bytes NODE_NAME)) place b.bytes (record { rule = rule; place = at }) b.says
