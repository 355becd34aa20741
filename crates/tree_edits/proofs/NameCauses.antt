-- The causes of refused names, and how often a table is read.
use Rattle.std.proofs.Common.{◌≡◌, inl, inr, ℕ, ◌+◌, ◌*◌, ◌≤◌, refl, sym, subst, arith, List, Bool, true, false, Option, None, Some}
use Rattle.std.specs.Prelude.{Result, Ok, Err, OnOk, IfOk, IfErr}
use Rattle.std.proofs.lemmas.Result.{IfErr-weaker}
use Rattle.adf_format.specs.Fields.{text_field}
use Rattle.adf_format.specs.Names.{is_name}
use Rattle.adf_format.specs.RecordFields.{node_length}
use Rattle.adf_format.specs.Checks.{first_broken}
use Rattle.adf_model.specs.declared.error.AdfError.{AdfError}
use Rattle.adf_model.specs.declared.error.AdfError.TheVariants as error
use Rattle.adf_model.specs.declared.tree.NodeId.{NodeId}
use Rattle.adf_records.specs.declared.NodeHeader.{NodeHeader}
use Rattle.cg_io.specs.Answers.{IsRefusal}
use Rattle.cg_io.specs.Blocks.{ReadsFew}
use Rattle.cg_io.specs.Device.{DeviceState}
use Rattle.cg_io.proofs.ReadLaws.{reads_then, reads_more, rose_later}
use Rattle.node_reads.specs.declared.find.Wanted.TheVariants.{Name}
use Rattle.node_reads.specs.declared.header.ChildTable.{ChildTable}
use Rattle.node_reads.specs.Reads.{ReadAt, Breaks, IsUnread, IsFault}
use Rattle.node_reads.specs.Headers.{IsHeader, header_rows, table_rows, table_named}
use Rattle.node_reads.specs.Entries.{pieces_of}
use Rattle.tree_edits.specs.declared.listed.Listed.{Listed}
use Rattle.tree_edits.specs.declared.memory.Core.{Core}
use Rattle.tree_edits.specs.declared.rows.Row.{Row}
use Rattle.tree_edits.specs.Rows.{row_of}
use Rattle.tree_edits.specs.Causes.{named_row}
use Rattle.tree_edits.specs.Listed.{NamesTable, TableBreaks, IsTableOf, IsListed, NamesNone, IsUnlisted, FindsFirst, ReadsTable, is_another}
use Rattle.tree_edits.specs.Names.{MayLook, Looked, IsTableAbove, IsNameCause}

-- ---- the table that a header names

module _ (wide : Bool) (held : Option (List ℕ)) (place : ℕ) where
  pub header_unread : (before now : ℕ) (e : AdfError) → IsUnread (Breaks held place (node_length wide) (header_rows wide place None)) before now e → IsUnread (TableBreaks wide held place) before now e
  header_unread before now error.ReadFault h = h
  header_unread before now (error.Layout rule at) h = inl h
  header_unread before now other h = absurd h

  pub table_unread : (before now : ℕ) (header : NodeHeader) → ReadAt held place (node_length wide) (IsHeader wide place None header) → (e : AdfError) → IsFault (first_broken (table_rows header place)) e → IsUnread (TableBreaks wide held place) before now e
  table_unread before now header r e h = by_fault (first_broken (table_rows header place)) refl h
    where
      by_fault : (o : _) → first_broken (table_rows header place) ≡ o → IsFault o e → IsUnread (TableBreaks wide held place) before now e
      by_fault None is h = absurd h
      by_fault (Some f) is h = subst (IsUnread (TableBreaks wide held place) before now) (sym h) (inr (record { header = header; read = r; fails = is }))

  module _ (header : NodeHeader) (r : ReadAt held place (node_length wide) (IsHeader wide place None header)) where
    pub named_table : (result : Result ChildTable AdfError) → IfOk result (λ t. t ≡ table_named header) → OnOk result (first_broken (table_rows header place) ≡ None) → IfOk result (NamesTable wide held place)
    named_table (Ok t) is kept = record { header = header; read = r; kept = kept; is = is }
    named_table (Err e) is kept = tt

    pub table_unnamed : (before now : ℕ) (result : Result ChildTable AdfError) → IfErr result (IsFault (first_broken (table_rows header place))) → IfErr result (IsUnread (TableBreaks wide held place) before now)
    table_unnamed before now result h = IfErr-weaker result (IsFault (first_broken (table_rows header place))) (IsUnread (TableBreaks wide held place) before now) (λ e f. table_unread before now header r e f) h

-- ---- the entry of a node

module _ (core : Core) (held : Option (List ℕ)) (place parent : ℕ) where
  pub not_listed : (before now : ℕ) (e : AdfError) → e ≡ AdfError.Layout 30 place → NamesNone core held place parent → IsUnread (IsUnlisted core held place parent) before now e
  not_listed before now e is none = subst (IsUnread (IsUnlisted core held place parent) before now) (sym is) (inr (refl, refl, none))

  module _ (above : Row) (found : row_of core.rows.items parent ≡ Some above) where
    pub parent_unread : (before now : ℕ) (e : AdfError) → IsUnread (TableBreaks core.wide held above.place) before now e → IsUnread (IsUnlisted core held place parent) before now e
    parent_unread before now error.ReadFault h = h
    parent_unread before now (error.Layout rule at) h = inl (record { above = above; found = found; breaks = h })
    parent_unread before now other h = absurd h

    pub table_of_parent : (table : ChildTable) → NamesTable core.wide held above.place table → IsTableOf core held parent table
    table_of_parent table n = record { above = above; found = found; named = n }

-- ---- names

module _ (core : Core) (node : NodeId) (name : List ℕ) (held : Option (List ℕ)) where
  module _ (row : Row) (found : named_row core node ≡ Some row) (parent : ℕ) (above : row.parent ≡ Some parent) (may : core.writable ≡ true) (good : is_name name ≡ true) where
    abbrev pub may_look : MayLook core node name
    may_look = record { row = row; parent = parent; child = record { found = found; above = above }; allowed = may; good = good }

    pub unlisted_cause : (before now : ℕ) (e : AdfError) → IsUnread (IsUnlisted core held row.place parent) before now e → IsNameCause core node name held before now e
    unlisted_cause before now error.ReadFault h = (may_look, h)
    unlisted_cause before now (error.Layout rule at) h = (may_look, h)
    unlisted_cause before now other h = absurd h

    module _ (listed : Listed) (l : IsListed core held row.place parent listed) (o : Option ℕ) (first : FindsFirst held listed.table (Name (text_field 32 name)) o) where
      pub looked : (another : Bool) → is_another o listed.position ≡ another → Looked core node name held another
      looked another is = record { may = may_look; listed = listed; is = l; found = o; first = first; other = is }

      later : is_another o listed.position ≡ false → (before middle now : ℕ) (e : AdfError) → before ≤ middle → IsRefusal ⊥ middle now e → IsNameCause core node name held before now e
      later free before middle now error.Memory le h = looked false free
      later free before middle now error.ReadFault le h = (may_look, rose_later before middle now le h)
      later free before middle now (error.Layout rule at) le h = absurd h.1
      later free before middle now other le h = absurd h

      pub write_cause : {T : Type 0} (r : Result T AdfError) → is_another o listed.position ≡ false → (before middle now : ℕ) → before ≤ middle → IfErr r (IsRefusal ⊥ middle now) → IfErr r (IsNameCause core node name held before now)
      write_cause r free before middle now le h = IfErr-weaker r (IsRefusal ⊥ middle now) (IsNameCause core node name held before now) (λ e c. later free before middle now e le c) h

    -- ---- how often a table is read

    pub above_table : (table : ChildTable) → IsTableOf core held parent table → IsTableAbove core node held table
    above_table table t = record { row = row; parent = parent; child = record { found = found; above = above }; table_is = t }

    pub once_read : (a b : DeviceState) → ReadsTable (IsTableOf core held parent) 1 2 a b → ReadsTable (IsTableAbove core node held) 2 6 a b
    once_read a b (inl few) = inl (reads_more 2 6 a b few (omega arith))
    once_read a b (inr t) = inr (t.0, above_table t.0 t.1, reads_more (2 * 1 * pieces_of t.0.count + 2) (2 * 2 * pieces_of t.0.count + 6) a b t.2 (omega arith))

    pub twice_read : (table : ChildTable) → IsTableOf core held parent table → (n : ℕ) → n ≤ 4 → (a b z : DeviceState) → ReadsFew (2 * pieces_of table.count + 2) a b → ReadsFew (2 * pieces_of table.count + n) b z → ReadsTable (IsTableAbove core node held) 2 6 a z
    twice_read table t n few a b z one two =
        inr (table, above_table table t, reads_then (2 * pieces_of table.count + 2) (2 * pieces_of table.count + n) (2 * 2 * pieces_of table.count + 6) a b z one two (omega (arith, few)))

-- ---- what is found in bytes that a read left

pub first_held : (name text : List ℕ) (table : ChildTable) (o : Option ℕ) (held mid : Option (List ℕ)) → mid ≡ held → text ≡ text_field 32 name → FindsFirst mid table (Name text) o → FindsFirst held table (Name (text_field 32 name)) o
first_held name text table o held mid still same f = subst (λ h. FindsFirst h table (Name (text_field 32 name)) o) still (subst (λ t. FindsFirst mid table (Name t) o) same f)
