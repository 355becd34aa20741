-- The header of a kept node says what the tree of the sound part has of it.
use Rattle.std.proofs.Common.{◌≡◌, ℕ, refl, sym, ◌∙◌, ap, subst, arith, List, length, map, unwrap_or, ◌+◌, ◌*◌, ◌<◌, ◌≤◌, Bool, true}
use Rattle.std.specs.Prelude.{Option, Some, None, option_map}
use Rattle.adf_format.specs.declared.types.DataType.{DataType}
use Rattle.adf_format.specs.declared.types.DataType.TheVariants.{Mt}
use Rattle.adf_format.specs.Checks.{first_broken}
use Rattle.adf_format.specs.Fields.{field, number, trimmed}
use Rattle.adf_format.specs.FirstFault.{Visit, children_in, entries_in, table_in as table_named, chunk_count, chunk_in, chunks_in, dims_in, type_or_mt, node_rows, is_named, is_wide}
use Rattle.adf_format.specs.Hex.{hex_value}
use Rattle.adf_format.specs.LaysOut.{chunk_pointer, entry_count}
use Rattle.adf_format.specs.Parts.{node_length, dimension_digits, SpellsNode}
use Rattle.adf_format.specs.Placement.{TablePart}
use Rattle.adf_format.specs.Pointer.{Pointer, Blank, pointer, place_of, place_value}
use Rattle.adf_format.specs.RecordFields.{node_chunk}
use Rattle.adf_format.specs.Records.{NodeRecord, node_record}
use Rattle.adf_format.specs.SoundPart.{node_of_visit}
use Rattle.adf_model.proofs.Walks.WalkNodes.{Kept}
use Rattle.cg_io.specs.Device.{bytes_at}
use Rattle.layout_laws.specs.FoundLayout.{table_part, chunk_part, chunk_table_part}
use Rattle.layout_laws.proofs.FoundNodes.{RowsKept}
use Rattle.layout_laws.proofs.HeaderRead.{header_says, header_read}
use Rattle.layout_laws.proofs.HeldParts.{in_header, count_in_header, chunk_in_header}
use Rattle.layout_laws.proofs.NodeRead.{type_read, number_read}
use Rattle.layout_laws.proofs.Rows.{kept_none, fits_tells}
use Rattle.node_reads.specs.Headers.{header_rows}
use Rattle.adf_repack.specs.Copies.{IsHeaderOf}
use Rattle.adf_repack.specs.Payloads.{chunk_of}
use Rattle.adf_repack.specs.Plans.{table_in, record_at}
use Rattle.adf_repack.proofs.WholeLaws.{at_field, dims_first}

-- a pointer that is none names no place, as a blank one
value_same : (o : Option Pointer) → place_value (Some (unwrap_or o Blank)) ≡ place_value o
value_same None = refl
value_same (Some p) = refl

module _ (image : List ℕ) (end : ℕ) (ends : end < length image) (v : Visit) (rows : RowsKept image (is_wide image) end v) where
  abbrev header : List ℕ
  header = field image v.place (node_length (is_wide image))

  pub fit : (266 ≤ v.place) × (v.place + node_length (is_wide image) ≤ end + 1)
  fit = fits_tells end v.place (node_length (is_wide image)) rows.inside

  read : bytes_at image v.place (node_length (is_wide image)) ≡ field image v.place (node_length (is_wide image))
  read = let high = fit.1 in at_field image v.place (node_length (is_wide image)) (omega (arith, high, ends))

  record_is : record_at image (is_wide image) v.place ≡ node_record (is_wide image) (field image v.place (node_length (is_wide image)))
  record_is = ap (node_record (is_wide image)) read

  pub header_unbroken : is_named image v ≡ true → first_broken (header_rows (is_wide image) v.place None (bytes_at image v.place (node_length (is_wide image)))) ≡ None
  header_unbroken named =
      subst (λ (b : List ℕ). first_broken (node_rows (is_wide image) v.place true b) ≡ None) (sym read)
      (kept_none _ (subst (λ (b : Bool). Kept (node_rows (is_wide image) v.place b (field image v.place (node_length (is_wide image))))) named rows.node))

  spelled : SpellsNode (is_wide image) (field image v.place (node_length (is_wide image))) (record {
    name = trimmed (field image (v.place + 4) 32);
    label = trimmed (field image (v.place + 36) 32);
    children = children_in image v.place;
    entries = entry_count (table_part (table_named image v.place) (entries_in image v.place));
    table = option_map (λ (t : TablePart). t.place) (table_part (table_named image v.place) (entries_in image v.place));
    kind = type_or_mt (field image (v.place + 96) 32);
    dims = dims_in image (is_wide image) v.place;
    chunks = length (map (chunk_part image) (chunks_in image (is_wide image) v.place));
    chunk = chunk_pointer (map (chunk_part image) (chunks_in image (is_wide image) v.place)) (chunk_table_part (chunk_in image (is_wide image) v.place) (chunk_count image (is_wide image) v.place));
  })
  spelled = header_read image (is_wide image) v.place end (header_says (is_wide image) v.place (is_named image v) (field image v.place (node_length (is_wide image))) rows.node) ends fit.1

  few_dims : length (dims_in image (is_wide image) v.place) ≤ 12
  few_dims =
      let few = (header_says (is_wide image) v.place (is_named image v) (field image v.place (node_length (is_wide image))) rows.node).few in
      let rank = number_read header 128 2 (length (dims_in image (is_wide image) v.place)) spelled.rank in
      omega (arith, few, rank)

  header_so : (kept : List Visit) → IsHeaderOf (node_record (is_wide image) (field image v.place (node_length (is_wide image)))) (node_of_visit image (is_wide image) kept v)
  unfolding node_record
  header_so kept = record {
    name = spelled.name;
    label = spelled.label;
    kind = ap (λ (o : Option DataType). unwrap_or o Mt) (type_read (field header 96 32) (type_or_mt (field image (v.place + 96) 32)) spelled.kind);
    rank = number_read header 128 2 (length (dims_in image (is_wide image) v.place)) spelled.rank;
    dims = dims_first (λ i. number header (130 + dimension_digits (is_wide image) * i) (dimension_digits (is_wide image))) (number header 128 2) (dims_in image (is_wide image) v.place)
        (number_read header 128 2 (length (dims_in image (is_wide image) v.place)) spelled.rank) few_dims
        (λ i d e. number_read header (130 + dimension_digits (is_wide image) * i) (dimension_digits (is_wide image)) d (spelled.dims i d e));
  }

  pub says_so : (kept : List Visit) → IsHeaderOf (record_at image (is_wide image) v.place) (node_of_visit image (is_wide image) kept v)
  says_so kept = subst (λ (r : NodeRecord). IsHeaderOf r (node_of_visit image (is_wide image) kept v)) (sym record_is) (header_so kept)

  count_so : (node_record (is_wide image) (field image v.place (node_length (is_wide image)))).chunks ≡ chunk_count image (is_wide image) v.place
  unfolding node_record
  count_so = ap (λ (bs : List ℕ). unwrap_or (hex_value bs) 0) (count_in_header image (is_wide image) v.place)

  pub count : (record_at image (is_wide image) v.place).chunks ≡ chunk_count image (is_wide image) v.place
  count = ap (λ (r : NodeRecord). r.chunks) record_is ∙ count_so

  table_so : table_in (node_record (is_wide image) (field image v.place (node_length (is_wide image)))) ≡ table_named image v.place
  unfolding node_record
  table_so = value_same (pointer (field header 84 12)) ∙ ap place_of (in_header image (is_wide image) v.place 84 12 (omega arith))

  pub table_at : table_in (record_at image (is_wide image) v.place) ≡ table_named image v.place
  table_at = ap table_in record_is ∙ table_so

  chunk_so : chunk_of (node_record (is_wide image) (field image v.place (node_length (is_wide image)))) ≡ chunk_in image (is_wide image) v.place
  unfolding node_record
  chunk_so = value_same (pointer (field header (node_chunk (is_wide image)).offset 12)) ∙ ap place_of (chunk_in_header image (is_wide image) v.place)

  pub chunk_at : chunk_of (record_at image (is_wide image) v.place) ≡ chunk_in image (is_wide image) v.place
  chunk_at = ap chunk_of record_is ∙ chunk_so
