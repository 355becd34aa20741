-- The rules that a copy is refused by are rules of a layout.
use Rattle.std.proofs.Common.{◌≡◌, ℕ, ◌≤◌, Bool, true, false, cond, List, sym, subst, arith, inl, inr, Option, None, Some}
use Rattle.adf_format.specs.Checks.{Fault, first_broken}
use Rattle.adf_format.specs.FirstFault.{header_rows as file_rows, is_same_name}
use Rattle.adf_format.specs.Parts.{node_length}
use Rattle.adf_format.specs.RecordFields.{field_in}
use Rattle.adf_format.specs.Records.{NodeRecord}
use Rattle.adf_format.specs.RuleNumbers.{IsRule}
use Rattle.adf_format.specs.declared.fields.TheConstants.{NODE_NAME}
use Rattle.node_reads.specs.Entries.{chunk_head_rows}
use Rattle.node_reads.specs.Headers.{header_rows}
use Rattle.node_reads.specs.Reads.{Breaks}
use Rattle.layout_laws.proofs.RuleRows.{header_rule, node_rule}
use Rattle.layout_lint.specs.declared.verdict.NodePlace.{NodePlace}
use Rattle.adf_repack.specs.declared.plan.Plan.{Plan}
use Rattle.adf_repack.specs.Measures.{BreaksShape}
use Rattle.adf_repack.specs.Payloads.{BreaksHead, BreaksData, BreaksContents}
use Rattle.adf_repack.specs.Plans.{BreaksParts, BreaksNode, BreaksOne, old_place}

this_rule : (n rule : ℕ) → rule ≡ n → 1 ≤ n → n ≤ 30 → IsRule rule
this_rule n rule is low high = subst IsRule (sym is) (low, high)

pub file_named : (held : Option (List ℕ)) (rule at : ℕ) → Breaks held 0 186 file_rows rule at → IsRule rule
file_named held rule at b = header_rule b.bytes (record { rule = rule; place = at }) b.says

header_named : (held : Option (List ℕ)) (wide : Bool) (place rule at : ℕ) → Breaks held place (node_length wide) (header_rows wide place None) rule at → IsRule rule
header_named held wide place rule at b = node_rule wide (is_same_name None (field_in b.bytes NODE_NAME)) place b.bytes (record { rule = rule; place = at }) b.says

pub shape_named : (held : Option (List ℕ)) (wide : Bool) (place children rule at : ℕ) → BreaksShape held wide place children rule at → IsRule rule
shape_named held wide place children rule at (inl b) = header_named held wide place rule at b
shape_named held wide place children rule at (inr b) = this_rule 22 rule b.0 (omega arith) (omega arith)

chunk_row_named : (place : ℕ) (bytes : List ℕ) (f : Fault) → first_broken (chunk_head_rows place bytes) ≡ Some f → IsRule f.rule
chunk_row_named place bytes f e = by_tests _ _ _ _ e
  where
    by_tests : (a b : Bool) (m n : ℕ) → cond a (cond b None (Some (record { rule = 26; place = n }))) (Some (record { rule = 26; place = m })) ≡ Some f → IsRule f.rule
    by_tests true true m n e = cc
    by_tests true false m n e = let same : f.rule ≡ 26 = cc in (omega (arith, same), omega (arith, same))
    by_tests false b m n e = let same : f.rule ≡ 26 = cc in (omega (arith, same), omega (arith, same))

chunk_named : (held : Option (List ℕ)) (c rule at : ℕ) → BreaksHead held c rule at → IsRule rule
chunk_named held c rule at (inl b) = this_rule 26 rule b.0 (omega arith) (omega arith)
chunk_named held c rule at (inr b) = chunk_row_named c b.bytes (record { rule = rule; place = at }) b.says

data_named : (held : Option (List ℕ)) (wide : Bool) (r : NodeRecord) (place size rule at : ℕ) → BreaksData held wide r place size rule at → IsRule rule
data_named held wide r place size rule at (inl b) = this_rule 25 rule b.breaks.is (omega arith) (omega arith)
data_named held wide r place size rule at (inr (inl b)) = chunk_named held b.chunk rule at b.breaks
data_named held wide r place size rule at (inr (inr b)) = this_rule 27 rule b.is (omega arith) (omega arith)

contents_named : (held : Option (List ℕ)) (wide : Bool) (r : NodeRecord) (place : ℕ) (size : Option ℕ) (rule at : ℕ) → BreaksContents held wide r place size rule at → IsRule rule
contents_named held wide r place None rule at b = absurd b
contents_named held wide r place (Some size) rule at b = data_named held wide r place size rule at b

parts_named : (held : Option (List ℕ)) (wide : Bool) (nodes : List NodePlace) (plan : Plan) (k place : ℕ) (r : NodeRecord) (rule at : ℕ) → BreaksParts held wide nodes plan k place r rule at → IsRule rule
parts_named held wide nodes plan k place r rule at (inl b) = this_rule 21 rule b.0 (omega arith) (omega arith)
parts_named held wide nodes plan k place r rule at (inr (inl b)) = this_rule 24 rule b.breaks.rule_is (omega arith) (omega arith)
parts_named held wide nodes plan k place r rule at (inr (inr b)) = contents_named held wide r place _ rule at b

node_named : (held : Option (List ℕ)) (wide : Bool) (nodes : List NodePlace) (plan : Plan) (k rule at : ℕ) → BreaksNode held wide nodes plan k rule at → IsRule rule
node_named held wide nodes plan k rule at (inl b) = header_named held wide (old_place nodes k) rule at b
node_named held wide nodes plan k rule at (inr b) = parts_named held wide nodes plan k (old_place nodes k) b.header rule at b.so

pub one_named : (held : Option (List ℕ)) (wide : Bool) (nodes : List NodePlace) (plan : Plan) (rule at : ℕ) → BreaksOne held wide nodes plan rule at → IsRule rule
one_named held wide nodes plan rule at b = node_named held wide nodes plan b.number rule at b.breaks
