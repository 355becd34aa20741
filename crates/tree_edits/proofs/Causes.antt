-- The causes of refusals, and how many blocks a header and a label touch.
use Rattle.std.proofs.Common.{◌≡◌, ℕ, ◌≤◌, sym, ◌∙◌, ap, subst, arith, List, length, Bool, true, false, Option, None, Some}
use Rattle.std.specs.Prelude.{IfSome, is_some, Result, Ok, Err, OnOk, IfErr}
use Rattle.std.proofs.lemmas.Result.{IfErr-weaker}
use Rattle.adf_format.specs.declared.fields.TheConstants.{NODE_TYPE}
use Rattle.adf_format.specs.Fields.{text_field}
use Rattle.adf_format.specs.Names.{is_label, is_lk}
use Rattle.adf_model.proofs.Creation.CreatedParts.{padded_long}
use Rattle.adf_model.proofs.Creation.ShortTexts.{short_label}
use Rattle.adf_format.specs.RecordFields.{field_in, node_length}
use Rattle.adf_format.specs.FirstFault.{type_or_mt}
use Rattle.adf_format.specs.Records.{NodeRecord, node_record}
use Rattle.adf_model.specs.declared.error.AdfError.{AdfError}
use Rattle.adf_model.specs.declared.error.AdfError.TheVariants as error
use Rattle.adf_model.specs.declared.tree.NodeId.{NodeId}
use Rattle.adf_records.specs.declared.NodeHeader.{NodeHeader}
use Rattle.adf_records.specs.View.{record_of}
use Rattle.cg_io.specs.Blocks.{blocks_of}
use Rattle.cg_io.specs.Answers.{IsRefusal}
use Rattle.cg_io.proofs.ReadLaws.{rose_later}
use Rattle.node_reads.specs.Reads.{ReadAt, Breaks, IsUnread}
use Rattle.node_reads.specs.Headers.{IsHeader, header_rows}
use Rattle.tree_edits.specs.declared.rows.Row.{Row}
use Rattle.tree_edits.specs.declared.memory.Core.{Core}
use Rattle.tree_edits.specs.Causes.{named_row, SaysLink, IsLabelCause}

pub header_blocks : (wide : Bool) (place : ℕ) → blocks_of place (node_length wide) ≤ 2
header_blocks false place = omega arith
header_blocks true place = omega arith

pub field_blocks : (place n : ℕ) → n ≡ 32 → blocks_of place n ≤ 2
field_blocks place n e = omega (arith, e)

pub at_row : (o : Option Row) (row : Row) (P : Row → Type 0) → o ≡ Some row → P row → IfSome o P
at_row o row P found h = subst (λ x. IfSome x P) (sym found) h

pub row_there : (o : Option Row) (row : Row) → o ≡ Some row → is_some o ≡ true
row_there o row found = ap is_some found

kind_said : (wide : Bool) (bytes : List ℕ) (header : NodeHeader) → record_of header ≡ node_record wide bytes → header.kind ≡ type_or_mt (field_in bytes NODE_TYPE)
unfolding node_record
kind_said wide bytes header says = ap (λ (r : NodeRecord). r.kind) says

-- what a header that was read says of its kind
pub link_said : (wide : Bool) (held : Option (List ℕ)) (place : ℕ) (header : NodeHeader) (link : Bool) → ReadAt held place (node_length wide) (IsHeader wide place None header) → is_lk header.kind ≡ link → SaysLink link wide held place
link_said wide held place header link r e = record { bytes = r.bytes; long = r.long; given = r.given; says = sym (ap is_lk (kind_said wide r.bytes header r.says.says)) ∙ e }

module _ (core : Core) (node : NodeId) (label : List ℕ) (held : Option (List ℕ)) (row : Row) (found : named_row core node ≡ Some row) where
  pub unread_cause : (before now : ℕ) (e : AdfError) → IsUnread (Breaks held row.place (node_length core.wide) (header_rows core.wide row.place None)) before now e → IsLabelCause core node label held before now e
  unread_cause before now error.ReadFault h = (row_there (named_row core node) row found, h)
  unread_cause before now (error.Layout rule at) h = at_row (named_row core node) row (λ r. Breaks held r.place (node_length core.wide) (header_rows core.wide r.place None) rule at) found h
  unread_cause before now other h = absurd h

  later : (before middle now : ℕ) (e : AdfError) → before ≤ middle → IsRefusal ⊥ middle now e → IsLabelCause core node label held before now e
  later before middle now error.Memory le h = tt
  later before middle now error.ReadFault le h = (row_there (named_row core node) row found, rose_later before middle now le h)
  later before middle now (error.Layout rule at) le h = absurd h.1
  later before middle now other le h = absurd h

  pub write_cause : {T : Type 0} (r : Result T AdfError) (before middle now : ℕ) → before ≤ middle → IfErr r (IsRefusal ⊥ middle now) → IfErr r (IsLabelCause core node label held before now)
  write_cause r before middle now le h = IfErr-weaker r (IsRefusal ⊥ middle now) (IsLabelCause core node label held before now) (λ e c. later before middle now e le c) h

pub where_ok : {T E : Type 0} (r : Result T E) (P : Type 0) → P → OnOk r P
where_ok (Ok x) P h = h
where_ok (Err e) P h = tt

pub label_long : (label text : List ℕ) → text ≡ text_field 32 label → is_label label ≡ true → length text ≡ 32
label_long label text same good = ap length same ∙ padded_long label (short_label label good)
