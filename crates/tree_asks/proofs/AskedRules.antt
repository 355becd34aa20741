-- A refusal that has a cause is one of its query, and names one of the thirty rules.
use Rattle.std.proofs.Common.{◌≡◌, inl, inr, ℕ, ◌+◌, ◌*◌, ◌≤◌, refl, sym, subst, arith, Bool, true, false, List, Option, None, Some}
use Rattle.adf_format.specs.declared.fields.TheConstants.{NODE_NAME}
use Rattle.adf_format.specs.RecordFields.{field_in}
use Rattle.adf_format.specs.RuleNumbers.{IsRule}
use Rattle.adf_format.specs.FirstFault.{is_same_name}
use Rattle.adf_model.specs.declared.error.AdfError.{AdfError}
use Rattle.adf_model.specs.declared.error.AdfError.TheVariants as error
use Rattle.adf_model.specs.declared.tree.NodeId.{NodeId}
use Rattle.adf_model.specs.declared.tree.Query.{Query}
use Rattle.adf_model.specs.declared.tree.Query.TheVariants.{Name, LabelOf, ShapeOf, ChildrenOf, LinkText, ReadAll, ReadPart, Find, Next, FormatOf, Parent, Target}
use Rattle.adf_model.specs.declared.tree.Selection.{Selection}
use Rattle.layout_laws.proofs.RuleRows.{first_is, node_rule}
use Rattle.node_reads.specs.Entries.{child_said}
use Rattle.node_reads.specs.Headers.{table_rows}
use Rattle.tree_edits.specs.declared.memory.Core.{Core}
use Rattle.tree_edits.specs.declared.rows.Row.{Row as NodeRow}
use Rattle.tree_edits.specs.Causes.{HeaderBreaks}
use Rattle.tree_edits.specs.Listed.{TableBreaks}
use Rattle.tree_asks.specs.Causes.{IsHeaderCause, IsFormatCause, IsChildrenCause, IsDataCause, IsLinkCause, IsRowCause, IsAskCause}
use Rattle.tree_asks.specs.Entries.{SaysNoChild, ChildFails}
use Rattle.tree_asks.specs.Refusals.{IsAskRefusal}

-- ---- rules

header_rule : (wide : Bool) (held : Option (List ℕ)) (place rule at : ℕ) → HeaderBreaks wide held place rule at → IsRule rule
header_rule wide held place rule at b =
    node_rule wide (is_same_name None (field_in b.bytes NODE_NAME)) place b.bytes (record { rule = rule; place = at }) b.says

table_rule : (wide : Bool) (held : Option (List ℕ)) (place rule at : ℕ) → TableBreaks wide held place rule at → IsRule rule
table_rule wide held place rule at (inl b) = header_rule wide held place rule at b
table_rule wide held place rule at (inr t) = first_is (table_rows t.header place) (record { rule = rule; place = at }) refl t.fails

this_rule : (n rule : ℕ) → rule ≡ n → 1 ≤ n → n ≤ 30 → IsRule rule
this_rule n rule is low high = subst IsRule (sym is) (low, high)

child_rule : (core : Core) (held : Option (List ℕ)) (place rule at : ℕ) → ChildFails core held place (error.Layout rule at) → IsRule rule
child_rule core held place rule at f = by_said (child_said f.entry.says.bytes) f.entry.says.says
  where
    by_said : (o : Option (List ℕ × ℕ)) → SaysNoChild core (f.table.place + 16 + 44 * f.entry.position) (error.Layout rule at) o → IsRule rule
    by_said None h = this_rule 24 rule h.0 (omega arith) (omega arith)
    by_said (Some said) h = this_rule 30 rule h.0 (omega arith) (omega arith)

-- ---- queries

module _ (core : Core) (held : Option (List ℕ)) (before now : ℕ) where
  of_header : (query : Query) (takes : Bool) (place : ℕ) (e : AdfError) → IsHeaderCause takes core.wide held place before now e → IsAskRefusal query before now e
  of_header query takes place error.Memory h = tt
  of_header query takes place error.ReadFault h = h
  of_header query takes place (error.Layout rule at) h = header_rule core.wide held place rule at h
  of_header query takes place other h = absurd h

  of_format : (query : Query) (e : AdfError) → IsFormatCause held before now e → IsAskRefusal query before now e
  of_format query error.ReadFault h = h
  of_format query (error.Layout rule at) h = this_rule 4 rule h.0 (omega arith) (omega arith)
  of_format query other h = absurd h

  of_children : (query : Query) (place : ℕ) (e : AdfError) → IsChildrenCause core held place before now e → IsAskRefusal query before now e
  of_children query place error.Memory h = tt
  of_children query place error.ReadFault h = h
  of_children query place (error.Layout rule at) (inl b) = table_rule core.wide held place rule at b
  of_children query place (error.Layout rule at) (inr f) = child_rule core held place rule at f
  of_children query place other h = absurd h

  of_link : (node : NodeId) (place : ℕ) (e : AdfError) → IsLinkCause core held place before now e → IsAskRefusal (LinkText node) before now e
  of_link node place error.Memory h = tt
  of_link node place error.ReadFault h = h
  of_link node place (error.Layout rule at) (inl b) = header_rule core.wide held place rule at b
  of_link node place (error.Layout rule at) (inr f) = f.0
  of_link node place error.NotALink h = refl
  of_link node place other h = absurd h

  of_all : (node : NodeId) (place : ℕ) (e : AdfError) → IsDataCause core None held place before now e → IsAskRefusal (ReadAll node) before now e
  of_all node place error.Memory h = tt
  of_all node place error.ReadFault h = h
  of_all node place (error.Layout rule at) (inl b) = header_rule core.wide held place rule at b
  of_all node place (error.Layout rule at) (inr f) = f.0
  of_all node place error.NoData h = refl
  of_all node place error.TooLarge h = refl
  of_all node place error.BadRange h = absurd h.says.2
  of_all node place other h = absurd h

  of_part : (node : NodeId) (selection : Selection) (place : ℕ) (e : AdfError) → IsDataCause core (Some selection) held place before now e → IsAskRefusal (ReadPart node selection) before now e
  of_part node selection place error.Memory h = tt
  of_part node selection place error.ReadFault h = h
  of_part node selection place (error.Layout rule at) (inl b) = header_rule core.wide held place rule at b
  of_part node selection place (error.Layout rule at) (inr f) = f.0
  of_part node selection place error.NoData h = refl
  of_part node selection place error.TooLarge h = refl
  of_part node selection place error.BadRange h = refl
  of_part node selection place other h = absurd h

  of_row : (query : Query) (row : NodeRow) (e : AdfError) → IsRowCause core held query row before now e → IsAskRefusal query before now e
  of_row (Name node) row e h = of_header (Name node) true row.place e h
  of_row (LabelOf node) row e h = of_header (LabelOf node) true row.place e h
  of_row (ShapeOf node) row e h = of_header (ShapeOf node) false row.place e h
  of_row (ChildrenOf node) row e h = of_children (ChildrenOf node) row.place e h
  of_row (LinkText node) row e h = of_link node row.place e h
  of_row (ReadAll node) row e h = of_all node row.place e h
  of_row (ReadPart node selection) row e h = of_part node selection row.place e h
  of_row (Find node path) row e h = subst (IsAskRefusal (Find node path) before now) (sym h) refl
  of_row (Next node) row e h = absurd h
  of_row (FormatOf node) row e h = of_format (FormatOf node) e h
  of_row (Parent node) row e h = subst (IsAskRefusal (Parent node) before now) (sym h.0) refl
  of_row (Target node) row e h = absurd h

pub of_query : (core : Core) (held : Option (List ℕ)) (at : NodeId) (query : Query) (before now : ℕ) (e : AdfError) → IsAskCause core held at query before now e → IsAskRefusal query before now e
of_query core held at query before now e (inl gone) = subst (IsAskRefusal query before now) (sym gone.1) refl
of_query core held at query before now e (inr a) = of_row core held before now query a.row e a.is
