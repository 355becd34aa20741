-- Reading and writing undo each other.
use Rattle.std.specs.Prelude.{◌≡◌, ℕ, ◌+◌, ◌^◌, ◌<◌, Bool, true, List, length, Some, None, Result, Ok, IfOk, IfErr, option_map}
use Rattle.std.specs.List.{AllByRecursion}
use Rattle.adf_format.specs.Checks.{Fault, first_broken}
use Rattle.adf_format.specs.FirstFault.{header_rows, free_table_rows, node_rows}
use Rattle.adf_format.specs.declared.fields.TheConstants.{HEADER_WHAT, HEADER_CREATED, HEADER_MODIFIED, HEADER_SIZES, HEADER_EXTRA, HEADER_LENGTH, FREE_TABLE_LENGTH, NODE_NAME, NODE_LABEL}
use Rattle.adf_format.specs.RecordFields.{header_fields, free_table_fields, node_fields, node_length}
use Rattle.adf_format.specs.Records.{header_record, header_text, free_table_record, free_table_text, node_record, node_text}
use Rattle.disk_ptr.specs.View.{IsWritable}
use Rattle.adf_format.specs.Case.{in_upper_case, letters_in}
use Rattle.adf_records.specs.declared.BadField.{BadField}
use Rattle.adf_records.specs.declared.FileHeader.{FileHeader}
use Rattle.adf_records.specs.declared.FreeTable.{FreeTable}
use Rattle.adf_records.specs.declared.NodeHeader.{NodeHeader}
use Rattle.adf_records.specs.View.{fault, header_of, HasHeaderOffsets, pointers_of, HasFreeOffsets, record_of, HasOffsets, IsNarrow}

-- ---- what the types keep: the lengths of arrays, numbers that fit, pointers with an offset in their block

pub record FitsHeader (h : FileHeader) : Type 0 where
  pub what : length h.what ≡ HEADER_WHAT.length
  pub created : length h.created ≡ HEADER_CREATED.length
  pub modified : length h.modified ≡ HEADER_MODIFIED.length
  pub sizes : length h.sizes ≡ HEADER_SIZES.length
  pub root : IsWritable h.root
  pub end : IsWritable h.end
  pub free_table : IsWritable h.free_table
  pub extra : length h.extra ≡ HEADER_EXTRA.length

pub record FitsFree (t : FreeTable) : Type 0 where
  pub small_first : IsWritable t.small_first
  pub small_last : IsWritable t.small_last
  pub medium_first : IsWritable t.medium_first
  pub medium_last : IsWritable t.medium_last
  pub large_first : IsWritable t.large_first
  pub large_last : IsWritable t.large_last

pub record FitsNode (n : NodeHeader) : Type 0 where
  pub name : length n.name ≡ NODE_NAME.length
  pub label : length n.label ≡ NODE_LABEL.length
  pub children : n.children < 2 ^ 32
  pub entries : n.entries < 2 ^ 32
  pub table : IsWritable n.table
  pub rank : n.rank < 2 ^ 8
  pub twelve : length n.dims ≡ 12
  pub digits : AllByRecursion (λ (d : List ℕ). length d ≡ 16) n.dims
  pub chunks : n.chunks < 2 ^ 16
  pub chunk : IsWritable n.chunk

-- ---- what a reader may answer of the text of a record that breaks no rule is that record

abbrev pub HeaderIsReadAgain : Type 0
HeaderIsReadAgain = (h : FileHeader) (answer : Result FileHeader BadField) → FitsHeader h → first_broken (header_rows (header_text (header_of h))) ≡ None
    → IfOk answer (λ read. header_of read ≡ header_record (header_text (header_of h))) → IfOk answer HasHeaderOffsets
    → IfErr answer (λ b. first_broken (header_rows (header_text (header_of h))) ≡ Some (fault b)) → answer ≡ Ok h

abbrev pub FreeIsReadAgain : Type 0
FreeIsReadAgain = (t : FreeTable) (answer : Result FreeTable BadField) → FitsFree t → first_broken (free_table_rows 0 (free_table_text (pointers_of t))) ≡ None
    → IfOk answer (λ read. pointers_of read ≡ free_table_record (free_table_text (pointers_of t))) → IfOk answer HasFreeOffsets
    → IfErr answer (λ b. first_broken (free_table_rows 0 (free_table_text (pointers_of t))) ≡ Some (fault b)) → answer ≡ Ok t

-- in both forms
abbrev pub NodeIsReadAgain : Type 0
NodeIsReadAgain = (n : NodeHeader) (answer : Result NodeHeader BadField) → FitsNode n → IsNarrow n → first_broken (node_rows n.wide 0 true (node_text (record_of n))) ≡ None
    → IfOk answer (λ read. record_of read ≡ node_record n.wide (node_text (record_of n))) → IfOk answer HasOffsets → IfOk answer IsNarrow → IfOk answer (λ read. read.wide ≡ n.wide) → IfOk answer FitsNode
    → IfErr answer (λ b. first_broken (node_rows n.wide 0 true (node_text (record_of n))) ≡ Some (fault b)) → answer ≡ Ok n

-- ---- what is written of a record that was read are its bytes, with the letters of its numbers and pointers in upper case

abbrev pub HeaderIsWrittenAgain : Type 0
HeaderIsWrittenAgain = (bytes : List ℕ) → length bytes ≡ HEADER_LENGTH → first_broken (header_rows bytes) ≡ None → header_text (header_record bytes) ≡ in_upper_case (letters_in header_fields) bytes

abbrev pub FreeIsWrittenAgain : Type 0
FreeIsWrittenAgain = (bytes : List ℕ) → length bytes ≡ FREE_TABLE_LENGTH → first_broken (free_table_rows 0 bytes) ≡ None → free_table_text (free_table_record bytes) ≡ in_upper_case (letters_in free_table_fields) bytes

abbrev pub NodeIsWrittenAgain : Type 0
NodeIsWrittenAgain = (wide named : Bool) (bytes : List ℕ) → length bytes ≡ node_length wide → first_broken (node_rows wide 0 named bytes) ≡ None
    → node_text (node_record wide bytes) ≡ in_upper_case (letters_in (node_fields wide)) bytes

-- ---- a record at a place breaks the rules that its bytes break, at that place and the offset

abbrev pub placed : ℕ → Fault → Fault
placed base f = record { rule = f.rule; place = base + f.place }

abbrev pub FreeFaultIsPlaced : Type 0
FreeFaultIsPlaced = (base : ℕ) (bytes : List ℕ) → first_broken (free_table_rows base bytes) ≡ option_map (placed base) (first_broken (free_table_rows 0 bytes))

abbrev pub NodeFaultIsPlaced : Type 0
NodeFaultIsPlaced = (wide named : Bool) (base : ℕ) (bytes : List ℕ) → first_broken (node_rows wide base named bytes) ≡ option_map (placed base) (first_broken (node_rows wide 0 named bytes))
