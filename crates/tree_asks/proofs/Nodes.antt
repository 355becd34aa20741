-- The header of a node that has a row, and why it is not read.
use Rattle.std.proofs.Common.{◌≡◌, ℕ, ◌≤◌, List, sym, subst, Option, None, Some}
use Rattle.std.specs.Prelude.{Result, Ok, Err, IfOk, IfErr}
use Rattle.adf_format.specs.RecordFields.{node_length}
use Rattle.adf_format.specs.Tree.{Tree}
use Rattle.adf_format.specs.Placement.{Placement}
use Rattle.adf_format.specs.LaysOut.{fields_of}
use Rattle.adf_model.specs.declared.error.AdfError.{AdfError}
use Rattle.adf_model.specs.declared.error.AdfError.TheVariants as error
use Rattle.adf_records.specs.declared.NodeHeader.{NodeHeader}
use Rattle.adf_format.specs.Checks.{first_broken}
use Rattle.node_reads.specs.declared.header.ChildTable.{ChildTable}
use Rattle.node_reads.specs.Reads.{ReadAt, IsUnread, IsFault}
use Rattle.node_reads.specs.Headers.{IsHeader, table_rows}
use Rattle.node_reads.proofs.LaidOut.{header_within, table_breaks_none}
use Rattle.node_reads.proofs.ReadLaws.{read_is_field}
use Rattle.tree_edits.specs.declared.memory.Core.{Core}
use Rattle.tree_edits.specs.declared.rows.Row.{Row}
use Rattle.tree_edits.specs.Causes.{HeaderBreaks}
use Rattle.tree_edits.specs.Rows.{Means, row_of}
use Rattle.tree_edits.specs.Edits.{memory_of}
use Rattle.tree_edits.proofs.Nodes.{TheNode, the_node, header_says, no_break}
use Rattle.tree_asks.specs.Told.{OfEach, IsFree}
use Rattle.tree_asks.specs.Headers.{IsItsHeader}
use Rattle.tree_asks.proofs.Dims.{few_dims, dims_said}

module _ (core : Core) (serial : ℕ) (row : Row) (found : row_of core.rows.items serial ≡ Some row) where
  module _ (image : List ℕ) (header : NodeHeader) (r : ReadAt (Some image) row.place (node_length core.wide) (IsHeader core.wide row.place None header)) (tree : Tree) (p : Placement) (m : Means image tree p (memory_of core)) where
    abbrev n : TheNode image tree p serial row.place
    n = the_node image (memory_of core) serial row found tree p m

    moved : ReadAt (Some image) n.parts.header (node_length tree.wide) (IsHeader tree.wide n.parts.header None header)
    moved =
        subst (λ w. ReadAt (Some image) n.parts.header (node_length w) (IsHeader w n.parts.header None header)) (sym m.wide)
        (subst (λ k. ReadAt (Some image) k (node_length core.wide) (IsHeader core.wide k None header)) (sym n.at) r)

    its_header : IsItsHeader image tree p serial row.place header
    its_header =
        let read = read_is_field image n.parts.header (node_length tree.wide) (IsHeader tree.wide n.parts.header None header) moved (header_within image tree p serial n.node n.parts n.is) in
        record {
          node = n.node;
          parts = n.parts;
          is = n.is;
          at = n.at;
          fields = header_says image (memory_of core) serial row found tree p m header r;
          dims = dims_said tree.wide _ (fields_of n.node n.parts) header (m.laid_out.nodes serial n.node n.parts n.is.live n.is.stands).header read.says (few_dims core.wide row.place header r.bytes r.says);
        }

  pub its : (held : Option (List ℕ)) (o : Result NodeHeader AdfError) → IfOk o (λ h. ReadAt held row.place (node_length core.wide) (IsHeader core.wide row.place None h))
      → IfOk o (λ h. OfEach core held (λ image tree p. IsItsHeader image tree p serial row.place h))
  its None (Ok h) r = tt
  its (Some image) (Ok h) r = λ tree p m. its_header image h r tree p m
  its held (Err e) r = tt

  pub small : (held : Option (List ℕ)) (o : Result NodeHeader AdfError) → IfOk o (λ h. ReadAt held row.place (node_length core.wide) (IsHeader core.wide row.place None h)) → IfOk o (λ h. h.rank ≤ 12)
  small held (Ok h) r = few_dims core.wide row.place h r.bytes r.says
  small held (Err e) r = tt

  pub unread : (held : Option (List ℕ)) (before now : ℕ) (e : AdfError) → IsUnread (HeaderBreaks core.wide held row.place) before now e → OfEach core held (λ image tree p. IsFree e)
  unread None before now e h = tt
  unread (Some image) before now error.ReadFault h = λ tree p m. tt
  unread (Some image) before now (error.Layout rule at) h = λ tree p m. absurd (no_break image (memory_of core) serial row found tree p m rule at h)
  unread (Some image) before now other h = absurd h

  pub free : {T : Type 0} (held : Option (List ℕ)) (before now : ℕ) (o : Result T AdfError) → IfErr o (IsUnread (HeaderBreaks core.wide held row.place) before now) → IfErr o (λ e. OfEach core held (λ image tree p. IsFree e))
  free held before now (Ok h) r = tt
  free held before now (Err e) r = unread held before now e r

  -- nor is its table refused
  pub table_free : (held : Option (List ℕ)) (header : NodeHeader) (o : Result ChildTable AdfError) → ReadAt held row.place (node_length core.wide) (IsHeader core.wide row.place None header) → IfErr o (IsFault (first_broken (table_rows header row.place)))
      → IfErr o (λ e. OfEach core held (λ image tree p. IsFree e))
  table_free held header (Ok t) r broken = tt
  table_free None header (Err e) r broken = tt
  table_free (Some image) header (Err e) r broken = λ tree p m.
      let n = the_node image (memory_of core) serial row found tree p m in
      let says = header_says image (memory_of core) serial row found tree p m header r in
      let none = table_breaks_none image tree p serial n.node n.parts header n.is says in
      absurd (subst (λ o. IsFault o e) (subst (λ k. first_broken (table_rows header k) ≡ None) n.at none) broken)
