-- The parts of a node, as its header names them.
use Rattle.std.proofs.Common.{◌≡◌, inl, inr, ℕ, refl, sym, ◌∙◌, ap, subst, arith, List, [], ◌∷◌, Bool, Option, None, Some}
use Rattle.std.specs.Prelude.{nat_lt, if◌then◌else◌, unwrap_or, option_map}
use Rattle.adf_format.specs.declared.types.ExtentKind.{ExtentKind}
use Rattle.adf_format.specs.Checks.{Fault, first_broken}
use Rattle.adf_format.specs.LaysOut.{HoldsNode, HasTable, entry_count, fields_of}
use Rattle.adf_format.specs.Parts.{table_length}
use Rattle.adf_format.specs.Placement.{Placement, TablePart, extent, parts_of, table_extents}
use Rattle.adf_format.specs.RecordFields.{node_length}
use Rattle.adf_format.specs.Tree.{Tree}
use Rattle.adf_data.specs.Chunks.{AreNamed}
use Rattle.adf_model.specs.declared.error.AdfError.{AdfError}
use Rattle.adf_model.specs.declared.error.AdfError.TheVariants as error
use Rattle.adf_records.specs.declared.NodeHeader.{NodeHeader}
use Rattle.adf_format.specs.Spelled.{pointer_to}
use Rattle.disk_ptr.specs.View.{view, place_of}
use Rattle.disk_ptr.specs.declared.DiskPtr.{DiskPtr}
use Rattle.disk_ptr.specs.declared.DiskPtr.TheVariants.{Blank as blank, At}
use Rattle.cg_io.specs.Answers.{IsRefusal}
use Rattle.node_reads.specs.declared.header.ChildTable.{ChildTable}
use Rattle.node_reads.specs.Headers.{IsHeader, header_rows, table_named, table_rows, SaysFields}
use Rattle.node_reads.proofs.LaidOut.{table_breaks_none}
use Rattle.node_reads.specs.Reads.{ReadAt, Breaks, IsUnread, IsFault}
use Rattle.tree_edits.specs.declared.memory.Core.{Core}
use Rattle.tree_edits.specs.declared.rows.Row.{Row}
use Rattle.tree_edits.specs.Edits.{memory_of}
use Rattle.tree_edits.specs.Joined.{extents_of_table}
use Rattle.tree_edits.specs.Listed.{TableBreaks}
use Rattle.tree_edits.specs.Rows.{Means, row_of}
use Rattle.tree_edits.proofs.Giving.{some_entries}
use Rattle.tree_edits.proofs.Nodes.{TheNode, the_node, header_says, no_break}
use Rattle.tree_edits.proofs.Parents.{placed_at, none_some}
use Rattle.tree_asks.specs.Told.{OfEach}
use Rattle.tree_deletes.specs.declared.doomed.Doomed.{Doomed}
use Rattle.tree_deletes.specs.Doomed.{IsDoomed, MeansNone}
use Rattle.layout_laws.proofs.RuleRows.{node_rule}
use Rattle.tree_deletes.proofs.RuleLaws.{table_rule}

named_is : (d : DiskPtr) (o : Option ℕ) → place_of d ≡ o → view d ≡ pointer_to o
named_is blank o e = ap pointer_to e
named_is (At block offset) o e = ap pointer_to e

module _ (core : Core) (serial : ℕ) (row : Row) (found : row_of core.rows.items serial ≡ Some row) (d : Doomed) (header : NodeHeader) (same : d.serial ≡ serial) (place : d.place ≡ row.place) (table : d.table ≡ table_named header) (count : d.chunks.count ≡ header.chunks) (pointer : d.chunks.pointer ≡ header.chunk) where
  module _ (image : List ℕ) (r : ReadAt (Some image) row.place (node_length core.wide) (IsHeader core.wide row.place None header)) (tree : Tree) (p : Placement) (m : Means image tree p (memory_of core)) where
    abbrev n : TheNode image tree p serial row.place
    n = the_node image (memory_of core) serial row found tree p m

    says : SaysFields header (fields_of n.node n.parts)
    says = header_says image (memory_of core) serial row found tree p m header r

    node_held : HoldsNode image tree p n.node n.parts
    node_held = m.laid_out.nodes serial n.node n.parts n.is.live n.is.stands

    of_table : (o : Option TablePart) → n.parts.table ≡ o → extents_of_table d.table ≡ table_extents o
    of_table None e =
        let none : d.table.entries ≡ 0 = ap (λ (t : ChildTable). t.entries) table ∙ says.entries ∙ ap entry_count e in
        ap (λ k. if nat_lt 0 k then extent ExtentKind.SubNodes d.table.place (table_length k) ∷ [] else []) none
    of_table (Some t) e =
        let entries : d.table.entries ≡ t.entries = ap (λ (x : ChildTable). x.entries) table ∙ says.entries ∙ ap entry_count e in
        let at : d.table.place ≡ t.place = ap (λ (x : ChildTable). x.place) table ∙ placed_at header.table _ says.table ∙ ap (λ (o : Option TablePart). unwrap_or (option_map (λ (x : TablePart). x.place) o) 0) e in
        ap (λ (b : Bool). if b then extent ExtentKind.SubNodes d.table.place (table_length d.table.entries) ∷ [] else []) (some_entries d.table.entries (λ none. some t e (sym entries ∙ none)))
        ∙ ap (λ k. extent ExtentKind.SubNodes k (table_length d.table.entries) ∷ []) at ∙ ap (λ k. extent ExtentKind.SubNodes t.place (table_length k) ∷ []) entries
      where
        some : (t : TablePart) → n.parts.table ≡ Some t → t.entries ≡ 0 → ⊥
        some t e none = let h : HasTable image tree p n.node (Some t) = subst (λ (o : Option TablePart). HasTable image tree p n.node o) e node_held.table in let k = h.0 in omega (arith, k, none)

    named : AreNamed d.chunks n.parts image
    named = record {
      count = count ∙ says.chunks;
      pointer = ap view pointer ∙ named_is header.chunk _ says.chunk;
      chunk_table = node_held.chunk_table;
      chunks = node_held.chunks;
    }

    its_parts : IsDoomed image tree p d
    its_parts = record {
      parts = n.parts;
      placed = ap (parts_of p) same ∙ n.is.stands;
      stands = record { header = place ∙ sym n.at; table = of_table n.parts.table refl; chunks = named };
    }

  pub doomed : (held : Option (List ℕ)) → ReadAt held row.place (node_length core.wide) (IsHeader core.wide row.place None header) → OfEach core held (λ image tree p. IsDoomed image tree p d)
  doomed None r = tt
  doomed (Some image) r = λ tree p m. its_parts image r tree p m

-- ---- why they are not read

module _ (core : Core) (serial : ℕ) (row : Row) (found : row_of core.rows.items serial ≡ Some row) where
  unbroken : (image : List ℕ) (rule at : ℕ) → TableBreaks core.wide (Some image) row.place rule at → (tree : Tree) (p : Placement) → Means image tree p (memory_of core) → ⊥
  unbroken image rule at (inl b) tree p m = no_break image (memory_of core) serial row found tree p m rule at b
  unbroken image rule at (inr f) tree p m =
      let n = the_node image (memory_of core) serial row found tree p m in
      let says = header_says image (memory_of core) serial row found tree p m f.header f.read in
      let none = table_breaks_none image tree p serial n.node n.parts f.header n.is says in
      none_some _ _ (subst (λ k. first_broken (table_rows f.header k) ≡ None) n.at none) f.fails

  pub broken_none : (held : Option (List ℕ)) (rule at : ℕ) → TableBreaks core.wide held row.place rule at → MeansNone core held
  broken_none None rule at b = tt
  broken_none (Some image) rule at b = λ tree p m. unbroken image rule at b tree p m

  pub header_unread : (held : Option (List ℕ)) (before now : ℕ) (e : AdfError) → IsUnread (Breaks held row.place (node_length core.wide) (header_rows core.wide row.place None)) before now e → IsRefusal (MeansNone core held) before now e
  header_unread held before now error.ReadFault h = h
  header_unread held before now (error.Layout rule at) h = (node_rule core.wide _ row.place h.bytes (record { rule = rule; place = at }) h.says, broken_none held rule at (inl h))
  header_unread held before now other h = absurd h

  pub table_unread : (held : Option (List ℕ)) (before now : ℕ) (e : AdfError) (header : NodeHeader) → ReadAt held row.place (node_length core.wide) (IsHeader core.wide row.place None header) → IsFault (first_broken (table_rows header row.place)) e → IsRefusal (MeansNone core held) before now e
  table_unread held before now e header r h = by_fault (first_broken (table_rows header row.place)) refl h
    where
      by_fault : (o : Option Fault) → first_broken (table_rows header row.place) ≡ o → IsFault o e → IsRefusal (MeansNone core held) before now e
      by_fault None same h = absurd h
      by_fault (Some f) same h = subst (IsRefusal (MeansNone core held) before now) (sym h) (table_rule header row.place f same, broken_none held f.rule f.place (inr (record { header = header; read = r; fails = same })))
