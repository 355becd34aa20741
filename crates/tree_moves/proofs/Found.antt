-- A node that may move, as it is found step by step, and the causes of refusals on the way.
use Rattle.std.proofs.Common.{◌≡◌, inl, inr, ℕ, refl, sym, ◌∙◌, ap, subst, List, ◌+◌, ◌^◌, ◌≤◌, Bool, true, false, Option, None, Some}
use Rattle.std.specs.Prelude.{is_some, IfSome, ◌==◌, if◌then◌else◌}
use Rattle.adf_format.specs.Names.{is_lk}
use Rattle.adf_format.specs.RecordFields.{node_length, table_length}
use Rattle.adf_model.specs.declared.error.AdfError.{AdfError}
use Rattle.adf_model.specs.declared.error.AdfError.TheVariants as error
use Rattle.adf_model.specs.declared.tree.NodeId.{NodeId}
use Rattle.adf_model.proofs.Basics.{equal, same_Some}
use Rattle.adf_records.specs.declared.NodeHeader.{NodeHeader}
use Rattle.cg_io.proofs.ReadLaws.{rose_later}
use Rattle.node_reads.specs.declared.header.ChildTable.{ChildTable}
use Rattle.node_reads.specs.Reads.{ReadAt, Breaks, IsUnread}
use Rattle.node_reads.specs.Headers.{IsHeader, header_rows}
use Rattle.tree_edits.specs.declared.memory.Core.{Core}
use Rattle.tree_edits.specs.declared.room.Parent.{Parent}
use Rattle.tree_edits.specs.declared.rows.Row.{Row}
use Rattle.tree_edits.specs.Causes.{named_row}
use Rattle.tree_edits.specs.Listed.{IsTableOf, NamesTable, TableBreaks, IsUnlisted}
use Rattle.tree_edits.specs.Room.{SaysKind}
use Rattle.tree_edits.specs.Rows.{AreNear, row_of}
use Rattle.tree_edits.proofs.Causes.{row_there}
use Rattle.tree_moves.specs.declared.place.Source.{Source}
use Rattle.tree_moves.specs.Movable.{IsTarget, IsTargetCause, LeavesParent, LacksParent, IsSource, SourceBreaks, LooksUp, own_entry, HasMoveRoom, LacksMoveRoom, MayTry, HasLooked, MayMove, IsMoveNear, IsPlaceCause}

-- ---- the new parent

module _ (core : Core) (at : NodeId) (held : Option (List ℕ)) (row : Row) (found : named_row core at ≡ Some row) where
  pub target_cause : (before now : ℕ) (e : AdfError) → IsUnread (TableBreaks core.wide held row.place) before now e → IsTargetCause core at held before now e
  target_cause before now error.ReadFault h = (row_there (named_row core at) row found, h)
  target_cause before now (error.Layout rule place) h = (row, found, h)
  target_cause before now other h = absurd h

  module _ (header : NodeHeader) (read : ReadAt held row.place (node_length core.wide) (IsHeader core.wide row.place None header)) where
    pub target_kind : (link : Bool) → is_lk header.kind ≡ link → SaysKind core at held link row
    target_kind link is = record { found = found; header = header; read = read; kind = is }

    pub is_target : is_lk header.kind ≡ false → core.writable ≡ true → (table : ChildTable) → NamesTable core.wide held row.place table → IsTarget core at held (record { row = row; table = table })
    is_target is may table named = record { node = target_kind false is; allowed = may; named_by = named }

-- ---- the old parent

-- a header ends by the last place
pub near_whole : (wide : Bool) (rows : List (Option Row)) (k : ℕ) (row : Row) → AreNear wide rows → row_of rows k ≡ Some row → row.place + node_length wide ≤ 2 ^ 44
near_whole wide rows k row near found = subst (λ (o : Option Row). IfSome o (λ (r : Row). r.place + node_length wide ≤ 2 ^ 44)) found (near k)

module _ (core : Core) (held : Option (List ℕ)) (row : Row) (parent : ℕ) where
  pub unlisted_breaks : (before now : ℕ) (e : AdfError) → IsUnread (IsUnlisted core held row.place parent) before now e → IsUnread (SourceBreaks core held row parent) before now e
  unlisted_breaks before now error.ReadFault h = h
  unlisted_breaks before now (error.Layout rule at) h = inl h
  unlisted_breaks before now other h = absurd h

  pub header_breaks : (before middle now : ℕ) (e : AdfError) → before ≤ middle → IsUnread (Breaks held row.place (node_length core.wide) (header_rows core.wide row.place None)) middle now e → IsUnread (SourceBreaks core held row parent) before now e
  header_breaks before middle now error.ReadFault le h = rose_later before middle now le h
  header_breaks before middle now (error.Layout rule at) le h = inr h
  header_breaks before middle now other le h = absurd h

-- ---- the move

module _ (core : Core) (node at : NodeId) (held : Option (List ℕ)) where
  pub target_is_cause : is_some (named_row core node) ≡ true → (before now : ℕ) (e : AdfError) → IsTargetCause core at held before now e → IsPlaceCause core node at held before now e
  target_is_cause some before now error.ReadFault h = (some, h.0, h.1)
  target_is_cause some before now (error.Layout rule place) h = inl (some, h)
  target_is_cause some before now error.NoSuchNode h = inr h
  target_is_cause some before now error.LinkMissing h = (some, h)
  target_is_cause some before now error.ReadOnly h = (some, h.0, h.1)
  target_is_cause some before now other h = absurd h

  module _ (row : Row) (target : Parent) (may : MayTry core node at held row target) where
    abbrev some : is_some (named_row core node) ≡ true
    some = row_there (named_row core node) row may.found

    abbrev some_at : is_some (named_row core at) ≡ true
    some_at = row_there (named_row core at) target.row may.target.node.found

    pub parent_is_cause : (before now : ℕ) (e : AdfError) → LacksParent core node at row e → IsPlaceCause core node at held before now e
    parent_is_cause before now error.NotAChild h = record { row = row; to = target; may = may; lacks = h }
    parent_is_cause before now error.IntoItself h = record { row = row; to = target; may = may; lacks = h }
    parent_is_cause before now other h = absurd h

    pub fault_is_cause : (before middle now : ℕ) (e : AdfError) → before ≤ middle → IsUnread (λ rule place. ⊥) middle now e → IsPlaceCause core node at held before now e
    fault_is_cause before middle now error.ReadFault le h = (some, some_at, rose_later before middle now le h)
    fault_is_cause before middle now (error.Layout rule place) le h = absurd h
    fault_is_cause before middle now other le h = absurd h

    module _ (parent : ℕ) (leaves : LeavesParent core node at row parent) where
      pub source_is_cause : (before middle now : ℕ) (e : AdfError) → before ≤ middle → IsUnread (SourceBreaks core held row parent) middle now e → IsPlaceCause core node at held before now e
      source_is_cause before middle now error.ReadFault le h = (some, some_at, rose_later before middle now le h)
      source_is_cause before middle now (error.Layout rule place) le h = inr (row, target, parent, record { may = may; leaves = leaves }, h)
      source_is_cause before middle now other le h = absurd h

      module _ (source : Source) (is : IsSource core held row parent source) (last : Bool) (last_is : last ≡ (parent == at.serial)) where
        abbrev pub joined : Parent
        joined = record { row = target.row; table = if last then source.listed.table else target.table }

        named : (b : Bool) → last ≡ b → NamesTable core.wide held target.row.place (if b then source.listed.table else target.table)
        named false e = may.target.named_by
        named true e =
            let same = equal parent at.serial (sym last_is ∙ e) in
            let row_is = same_Some is.listed.table.above target.row (sym is.listed.table.found ∙ ap (row_of core.rows.items) same ∙ may.target.node.found) in
            subst (λ (r : Row). NamesTable core.wide held r.place source.listed.table) row_is is.listed.table.named

        may_join : MayTry core node at held row joined
        may_join = record { found = may.found; target = record { node = may.target.node; allowed = may.target.allowed; named_by = named last refl } }

        same_table : (b : Bool) → b ≡ true → (if b then source.listed.table else target.table) ≡ source.listed.table
        same_table true e = refl
        same_table false e = cc

        pub looked : (clash : Bool) → LooksUp held joined.table source.name (own_entry last source.listed) clash → HasLooked core node at held row joined source parent last clash
        looked clash l = record { may = record { may = may_join; leaves = leaves }; source_is = is; last_is = last_is; same = same_table last; name = l }

        pub duplicate_is_cause : (before now : ℕ) → LooksUp held joined.table source.name (own_entry last source.listed) true → IsPlaceCause core node at held before now AdfError.Duplicate
        duplicate_is_cause before now l = record { row = row; to = joined; source = source; parent = parent; last = last; looked = looked true l }

        module _ (free : LooksUp held joined.table source.name (own_entry last source.listed) false) where
          pub room_is_cause : (before now : ℕ) (e : AdfError) → LacksMoveRoom core node row joined e → IsPlaceCause core node at held before now e
          room_is_cause before now error.TooManyChildren h = record { row = row; to = joined; source = source; parent = parent; last = last; looked = looked false free; lacks = h }
          room_is_cause before now error.TooDeep h = record { row = row; to = joined; source = source; parent = parent; last = last; looked = looked false free; lacks = h }
          room_is_cause before now other h = absurd h

          pub may_move : HasMoveRoom core node row joined → MayMove core node at held (record { row = row; source = source; to = joined; last = last })
          may_move room = record { parent = parent; looked = looked false free; room = room }

        pub near_is : target.table.count ≤ target.table.entries → target.table.place + table_length target.table.entries ≤ 2 ^ 44 → source.listed.table.place + table_length source.listed.table.entries ≤ 2 ^ 44
            → IsMoveNear (record { row = row; source = source; to = joined; last = last })
        near_is few far own = by_last last
          where
            by_last : (b : Bool) → IsMoveNear (record { row = row; source = source; to = record { row = target.row; table = if b then source.listed.table else target.table }; last = last })
            by_last false = record { few = few; to = far; from = own }
            by_last true = record { few = is.listed.few; to = own; from = own }

-- what was looked up, by other names
pub looks_again : (held mid : Option (List ℕ)) (to other : Parent) (name : List ℕ) (own its : Option ℕ) (clash found : Bool) → mid ≡ held → to ≡ other → own ≡ its → clash ≡ found → LooksUp mid to.table name own clash → LooksUp held other.table name its found
looks_again held mid to other name own its clash found a b c d l =
    subst (λ x. LooksUp held other.table name its x) d (subst (λ x. LooksUp held other.table name x clash) c (subst (λ (x : Parent). LooksUp held x.table name own clash) b (subst (λ x. LooksUp x to.table name own clash) a l)))

-- the table that a node joins is that of its new parent
pub list_is : (core : Core) (at : NodeId) (held : Option (List ℕ)) (row : Row) (target : Parent) → IsTarget core at held target → (parent : ℕ) (source : Source) → IsSource core held row parent source → (last : Bool) → last ≡ (parent == at.serial)
    → IsTableOf core held at.serial (if last then source.listed.table else target.table)
list_is core at held row target is parent source from true same = subst (λ (n : ℕ). IsTableOf core held n source.listed.table) (equal parent at.serial (sym same)) from.listed.table
list_is core at held row target is parent source from false same = record { above = target.row; found = is.node.found; named = is.named_by }
