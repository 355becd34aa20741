-- The rules of a header at a place, and the fields of a node that bytes spell.
use Rattle.std.proofs.Common.{◌≡◌, ℕ, ◌+◌, List, refl, ◌∙◌, ap, length, Bool, Option, None, Some, option_map}
use Rattle.std.specs.Prelude.{unwrap_or}
use Rattle.adf_format.specs.Fields.{field}
use Rattle.adf_format.specs.declared.types.DataType.{DataType}
use Rattle.adf_format.specs.declared.types.DataType.TheVariants.{Mt}
use Rattle.adf_format.specs.RecordFields.{chunk_count_at}
use Rattle.adf_format.specs.Pointer.{Pointer, Blank, To, pointer}
use Rattle.adf_format.specs.Parts.{NodeFields, SpellsNode, HasPointer}
use Rattle.adf_format.specs.Checks.{first_broken}
use Rattle.adf_format.specs.FirstFault.{node_rows}
use Rattle.adf_format.specs.Records.{NodeRecord, node_record}
use Rattle.layout_laws.proofs.NodeRead.{number_read, type_read}
use Rattle.disk_ptr.specs.View.{view, place_of}
use Rattle.disk_ptr.specs.declared.DiskPtr.{DiskPtr}
use Rattle.disk_ptr.specs.declared.DiskPtr.TheVariants.{Blank as blank, At}
use Rattle.adf_records.specs.declared.NodeHeader.{NodeHeader}
use Rattle.adf_records.specs.declared.BadField.{BadField}
use Rattle.adf_records.specs.Laws.{placed}
use Rattle.adf_records.specs.View.{fault, record_of}
use Rattle.adf_records.proofs.Places.{node_placed}
use Rattle.node_reads.specs.Headers.{SaysFields, FieldsAreRead}

pub rows_kept : (wide named : Bool) (base : ℕ) (bytes : List ℕ) → first_broken (node_rows wide 0 named bytes) ≡ None → first_broken (node_rows wide base named bytes) ≡ None
rows_kept wide named base bytes kept = node_placed wide named base bytes ∙ ap (option_map (placed base)) kept

pub rows_broken : (wide named : Bool) (base : ℕ) (bytes : List ℕ) (b : BadField) → first_broken (node_rows wide 0 named bytes) ≡ Some (fault b)
    → first_broken (node_rows wide base named bytes) ≡ Some (record { rule = b.rule; place = base + b.offset })
rows_broken wide named base bytes b broken = node_placed wide named base bytes ∙ ap (option_map (placed base)) broken

-- ---- the fields of a node that bytes spell

abbrev named : Pointer → Option ℕ
named Blank = None
named (To place) = Some place

named_by : (d : DiskPtr) → place_of d ≡ named (view d)
named_by blank = refl
named_by (At block offset) = refl

spelled : (bytes : List ℕ) (o : ℕ) (place : Option ℕ) → HasPointer bytes o place → named (unwrap_or (pointer (field bytes o 12)) Blank) ≡ place
spelled bytes o None h = ap (λ (p : Option Pointer). named (unwrap_or p Blank)) h
spelled bytes o (Some place) h = ap (λ (p : Option Pointer). named (unwrap_or p Blank)) h

points : (d : DiskPtr) (bytes : List ℕ) (o : ℕ) (place : Option ℕ) → view d ≡ unwrap_or (pointer (field bytes o 12)) Blank → HasPointer bytes o place → place_of d ≡ place
points d bytes o place e h = named_by d ∙ ap named e ∙ spelled bytes o place h

module _ (wide : Bool) (bytes : List ℕ) (node : NodeFields) (header : NodeHeader) (s : SpellsNode wide bytes node) (says : record_of header ≡ node_record wide bytes) where
  pub fields_said : SaysFields header node
  unfolding node_record
  fields_said = record {
    name = ap (λ (r : NodeRecord). r.name) says ∙ s.name;
    label = ap (λ (r : NodeRecord). r.label) says ∙ s.label;
    children = ap (λ (r : NodeRecord). r.children) says ∙ number_read bytes 68 8 node.children s.children;
    entries = ap (λ (r : NodeRecord). r.entries) says ∙ number_read bytes 76 8 node.entries s.entries;
    table = points header.table bytes 84 node.table (ap (λ (r : NodeRecord). r.table) says) s.table;
    kind = ap (λ (r : NodeRecord). r.kind) says ∙ ap (λ (o : Option DataType). unwrap_or o Mt) (type_read (field bytes 96 32) node.kind s.kind);
    rank = ap (λ (r : NodeRecord). r.rank) says ∙ number_read bytes 128 2 (length node.dims) s.rank;
    chunks = ap (λ (r : NodeRecord). r.chunks) says ∙ number_read bytes (chunk_count_at wide) 4 node.chunks s.chunks;
    chunk = points header.chunk bytes (chunk_count_at wide + 4) node.chunk (ap (λ (r : NodeRecord). r.chunk) says) s.chunk;
  }

pub fields_read : FieldsAreRead
fields_read wide bytes node header s says = fields_said wide bytes node header s says
