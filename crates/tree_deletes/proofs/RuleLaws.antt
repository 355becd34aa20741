-- The rule that a table of children breaks is a rule of a layout.
use Rattle.std.proofs.Common.{◌≡◌, ℕ, refl}
use Rattle.std.specs.Prelude.{Some}
use Rattle.adf_format.specs.RuleNumbers.{IsRule}
use Rattle.adf_format.specs.Checks.{Fault, first_broken}
use Rattle.layout_laws.proofs.RuleRows.{first_is}
use Rattle.adf_records.specs.declared.NodeHeader.{NodeHeader}
use Rattle.node_reads.specs.Headers.{table_rows}

pub table_rule : (header : NodeHeader) (place : ℕ) (f : Fault) → first_broken (table_rows header place) ≡ Some f → IsRule f.rule
table_rule header place f = first_is (table_rows header place) f refl
