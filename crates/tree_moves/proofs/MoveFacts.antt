-- A node that may move, in bytes that are told: both lists, its entry, and what the edit makes of the tree.
use Rattle.std.proofs.Common.{◌≡◌, ◌≢◌, inl, inr, ℕ, suc, refl, sym, ◌∙◌, ap, subst, arith, List, ◌++◌, length, ◌+◌, ◌-◌, ◌*◌, ◌<◌, ◌≤◌, true, false, Option, None, Some}
use Rattle.std.proofs.lemmas.Bool.Decides.{eqb_tells}
use Rattle.std.proofs.lemmas.Option.{slice_get_within}
use Rattle.std.specs.Prelude.{slice_get}
use Rattle.adf_format.specs.declared.types.ExtentKind.{ExtentKind}
use Rattle.adf_format.specs.Fields.{field, text_field}
use Rattle.adf_format.specs.Hex.{hex_text}
use Rattle.adf_format.specs.Pointer.{To}
use Rattle.adf_format.specs.Records.{entry_text}
use Rattle.adf_format.specs.Tree.{Tree, children_at, name_of, name_at, parent_of}
use Rattle.adf_format.proofs.SpelledParts.{entry_long}
use Rattle.adf_format.specs.Placement.{Placement, TablePart}
use Rattle.adf_format.specs.LaysOut.{entry_count}
use Rattle.adf_model.specs.declared.tree.NodeId.{NodeId}
use Rattle.adf_model.specs.Edits.{moved}
use Rattle.adf_model.proofs.Basics.{not_true, equal, same_Some}
use Rattle.node_reads.specs.declared.header.ChildTable.{ChildTable}
use Rattle.tree_laws.specs.MidEdit.{Puts}
use Rattle.tree_laws.proofs.Tables.ListsChanged.{name_short}
use Rattle.tree_edits.specs.declared.memory.Core.{Core}
use Rattle.tree_edits.specs.declared.rows.Row.{Row}
use Rattle.tree_edits.specs.Rows.{Means}
use Rattle.tree_edits.specs.Edits.{memory_of}
use Rattle.tree_edits.specs.Left.{entry_place, length_behind}
use Rattle.tree_edits.specs.Listed.{IsListed}
use Rattle.tree_edits.proofs.Nodes.{TheNode, the_node}
use Rattle.tree_edits.proofs.Kids as kids
use Rattle.tree_edits.proofs.Parents as parents
use Rattle.tree_moves.specs.declared.place.Move.{Move}
use Rattle.tree_moves.specs.Movable.{MayTry, MayMove}
use Rattle.tree_moves.specs.Relisted.{moved_entry, MovesOver, MovesLast}
use Rattle.tree_moves.proofs.Tested as tested
use Rattle.tree_moves.proofs.MoveTexts.{behind_put, last_put}

module _ (image : List ℕ) (core : Core) (node at : NodeId) (its : Move) (may : MayMove core node at (Some image) its) (tree : Tree) (p : Placement) (m : Means image tree p (memory_of core)) where
  abbrev pub try : MayTry core node at (Some image) its.row its.to
  try = may.looked.may.may

  abbrev above : its.row.parent ≡ Some may.parent
  above = may.looked.may.leaves.above

  abbrev pub l : IsListed core (Some image) its.row.place may.parent its.source.listed
  l = may.looked.source_is.listed

  abbrev pub i : ℕ
  i = its.source.listed.position

  abbrev pub child : TheNode image tree p node.serial its.row.place
  child = the_node image (memory_of core) node.serial its.row try.found tree p m

  abbrev pub up : TheNode image tree p may.parent l.table.above.place
  up = the_node image (memory_of core) may.parent l.table.above l.table.found tree p m

  abbrev pub other : TheNode image tree p at.serial its.to.row.place
  other = the_node image (memory_of core) at.serial its.to.row try.target.node.found tree p m

  abbrev pub after : Tree
  after = moved tree may.parent at.serial node.serial

  -- ---- the list of the old parent

  pub from_is : l.table.above ≡ its.source.from
  from_is = same_Some l.table.above its.source.from (sym l.table.found ∙ may.looked.source_is.from)

  pub over : parent_of tree node.serial ≡ Some may.parent
  over = parents.over image core node.serial its.row try.found may.parent above tree p m

  abbrev pub tp : (t : TablePart) × (up.parts.table ≡ Some t)
  tp = parents.the_table image core node.serial its.row try.found may.parent above tree p m l.table.above l.table.found

  here : children_at tree may.parent ≡ up.node.children
  here = parents.here image core node.serial its.row try.found may.parent above tree p m l.table.above l.table.found

  pub listed_at : slice_get (children_at tree may.parent) i ≡ Some node.serial
  listed_at = subst (λ xs. slice_get xs i ≡ Some node.serial) (sym here) (tested.position_is image core tree p m node at its.row its.to its.source may.parent its.last false may.looked)

  pub count_from : its.source.listed.table.count ≡ length (children_at tree may.parent)
  count_from = parents.count_is image core node.serial its.row try.found may.parent above tree p m l.table.above l.table.found its.source.listed.table l.table.named ∙ sym (ap length here)

  place_from : its.source.listed.table.place ≡ tp.0.place
  place_from = parents.place_is image core node.serial its.row try.found may.parent above tree p m l.table.above l.table.found its.source.listed.table l.table.named

  pub in_list : i < length (children_at tree may.parent)
  in_list = slice_get_within (children_at tree may.parent) i node.serial listed_at

  far : entry_place its.source.listed + 44 + length_behind its.source.listed ≤ length image
  far =
      let e = parents.entry image core node.serial its.row try.found may.parent above tree p m l.table.above l.table.found i node.serial (subst (λ xs. slice_get xs i ≡ Some node.serial) here listed_at) in
      let w = e.within in let f = e.few in let a = place_from in let b = count_from in let c = ap length here in let lt = in_list in omega (arith, w, f, a, b, c, lt)

  -- ---- the list of the new parent

  pub count_to : its.to.table.count ≡ length (children_at tree at.serial)
  count_to = sym (tested.count_is image core tree p m node at its.row its.to try)

  pub entries_to : its.to.table.entries ≡ entry_count other.parts.table
  entries_to = kids.entries_are image core at.serial its.to.row try.target.node.found tree p m its.to.table try.target.named_by

  pub place_to : (t : TablePart) → other.parts.table ≡ Some t → its.to.table.place ≡ t.place
  place_to t e = kids.place_is image core at.serial its.to.row try.target.node.found tree p m its.to.table try.target.named_by (Some t) e

  pub table_to : its.to.table.count < its.to.table.entries → (t : TablePart) × (other.parts.table ≡ Some t)
  table_to unused = by_table other.parts.table refl
    where
      by_table : (o : Option TablePart) → other.parts.table ≡ o → (t : TablePart) × (other.parts.table ≡ Some t)
      by_table (Some t) e = (t, e)
      by_table None e = absurd (let none = entries_to ∙ ap entry_count e in omega (arith, none, unused))

  -- ---- one list, or two

  pub differ : its.last ≡ false → may.parent ≢ at.serial
  differ e = elim (eqb_tells may.parent at.serial) [ inl t ↦ absurd (not_true (sym e ∙ may.looked.last_is ∙ t.0)) | inr t ↦ t.1 ]

  pub same : its.last ≡ true → may.parent ≡ at.serial
  same e = equal may.parent at.serial (sym may.looked.last_is ∙ e)

  pub over_last : its.last ≡ true → parent_of tree node.serial ≡ Some at.serial
  over_last e = over ∙ ap (λ k. Some k) (same e)

  pub listed_last : its.last ≡ true → slice_get (children_at tree at.serial) i ≡ Some node.serial
  listed_last e = subst (λ k. slice_get (children_at tree k) i ≡ Some node.serial) (same e) listed_at

  -- ---- the entry

  abbrev pub text : List ℕ
  text = entry_text (text_field 32 (name_at tree node.serial)) (To child.parts.header)

  entry_is : moved_entry its ≡ text
  entry_is =
      ap (λ n. entry_text n (To its.row.place)) (tested.field_is image core tree p m node at its.row its.to its.source may.parent its.last false may.looked)
      ∙ ap (λ k. entry_text (text_field 32 (name_at tree node.serial)) (To k)) (sym child.at)

  pub entry_is_long : length (moved_entry its) ≡ 44
  entry_is_long = ap length entry_is ∙ entry_long (name_at tree node.serial) child.parts.header (let n = ap length (ap name_of child.is.live) in let s = name_short tree node.serial child.node m.laid_out.is_tree child.is.live in omega (arith, n, s))

  -- ---- what is written, where the new parent has an unused entry in a table

  module _ (table : ChildTable) (place : ℕ) (place_is : table.place ≡ place) (count_is : table.count ≡ length (children_at tree at.serial)) (old new : List ℕ) where
    module _ (long : length image ≤ length old) (w : MovesOver its table (moved_entry its) old new) where
      pub left_entries : Puts ExtentKind.SubNodes (tp.0.place + 16 + 44 * i) (44 * (length (children_at tree may.parent) - suc i)) (field old (tp.0.place + 16 + 44 * (i + 1)) (44 * (length (children_at tree may.parent) - suc i))) old w.1.0
      left_entries = behind_put its.source.listed tp.0.place (length (children_at tree may.parent)) old w.1.0 place_from count_from (let f = far in omega (arith, f, long)) w.1.1

      pub left_count : Puts ExtentKind.Node (up.parts.header + 68) 8 (hex_text 8 (length (children_at tree may.parent) - 1)) w.1.0 w.0
      left_count =
          subst (λ k. Puts ExtentKind.Node (k + 68) 8 (hex_text 8 (length (children_at tree may.parent) - 1)) w.1.0 w.0) (sym (up.at ∙ ap (λ (r : Row). r.place) from_is))
          (subst (λ n. Puts ExtentKind.Node (its.source.from.place + 68) 8 (hex_text 8 (n - 1)) w.1.0 w.0) count_from w.1.2)

      pub joined_entry : Puts ExtentKind.SubNodes (place + 16 + 44 * length (children_at tree at.serial)) 44 text w.0 w.2.0
      joined_entry =
          subst (λ e. Puts ExtentKind.SubNodes (place + 16 + 44 * length (children_at tree at.serial)) 44 e w.0 w.2.0) entry_is
          (subst (λ k. Puts ExtentKind.SubNodes (k + 16 + 44 * length (children_at tree at.serial)) 44 (moved_entry its) w.0 w.2.0) place_is
          (subst (λ n. Puts ExtentKind.SubNodes (table.place + 16 + 44 * n) 44 (moved_entry its) w.0 w.2.0) count_is w.2.1))

      pub joined_count : Puts ExtentKind.Node (other.parts.header + 68) 8 (hex_text 8 (suc (length (children_at tree at.serial)))) w.2.0 new
      joined_count =
          subst (λ k. Puts ExtentKind.Node (k + 68) 8 (hex_text 8 (suc (length (children_at tree at.serial)))) w.2.0 new) (sym other.at)
          (subst (λ n. Puts ExtentKind.Node (its.to.row.place + 68) 8 (hex_text 8 (suc n)) w.2.0 new) count_is w.2.2)

    -- ... or the same list
    pub last_entry : (is_last : its.last ≡ true) → place + 16 + 44 * length (children_at tree at.serial) ≤ length old → MovesLast (record { table = table; position = its.source.listed.position }) (moved_entry its) old new
        → Puts ExtentKind.SubNodes (place + 16 + 44 * i) (44 * (length (children_at tree at.serial) - i)) (field old (place + 16 + 44 * (i + 1)) (44 * (length (children_at tree at.serial) - suc i)) ++ text) old new
    last_entry is_last enough w =
        let lt = slice_get_within (children_at tree at.serial) i node.serial (listed_last is_last) in
        subst (λ e. Puts ExtentKind.SubNodes (place + 16 + 44 * i) (44 * (length (children_at tree at.serial) - i)) (field old (place + 16 + 44 * (i + 1)) (44 * (length (children_at tree at.serial) - suc i)) ++ e) old new) entry_is
        (last_put (record { table = table; position = its.source.listed.position }) place (length (children_at tree at.serial)) (moved_entry its) old new place_is count_is lt (omega (arith, place_is, count_is, lt, enough)) w)
