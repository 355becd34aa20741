-- What an edit that adds a child spares: of its parent the header and the table change, or a longer table takes the place of a full one.
use Rattle.std.proofs.Common.{◌≡◌, ◌⊎◌, inl, inr, ℕ, suc, refl, sym, ◌∙◌, ap, subst, arith, List, [], ◌∷◌, ◌++◌, length, length-append, get_or, ◌+◌, ◌*◌, ◌<◌, ◌≤◌, Bool, true, false}
use Rattle.std.proofs.lemmas.Bool.Decides.{eqb_tells}
use Rattle.std.proofs.lemmas.List.{length-set}
use Rattle.std.specs.Prelude.{Option, Some, None, slice_set}
use Rattle.std.specs.List.{Contains}
use Rattle.adf_format.specs.declared.types.Extent.{Extent}
use Rattle.adf_format.specs.declared.types.ExtentKind.{ExtentKind}
use Rattle.adf_format.specs.Tree.{Tree, Node, node_at, children_of, children_at}
use Rattle.adf_format.specs.Parts.{node_length, table_length}
use Rattle.adf_format.specs.Placement.{Placement, NodeParts, TablePart, Heap, extent, parts_of, table_extents}
use Rattle.adf_format.specs.LaysOut.{LaysOut, entry_count}
use Rattle.adf_format.specs.HeapRule.{parts_or_none}
use Rattle.adf_model.specs.declared.tree.Edit.{Edit}
use Rattle.adf_model.specs.Edits.{with_new, given_children}
use Rattle.adf_model.specs.Untouched.{list_of, most_children}
use Rattle.adf_model.proofs.Basics.{same_Some}
use Rattle.adf_model.proofs.Creation.PartExtents.{node_of, of_node}
use Rattle.adf_model.proofs.Creation.CreatedNodes.{at_set, there_inside}
use Rattle.tree_laws.specs.Parting.{KeepsParts}
use Rattle.tree_laws.specs.Spared.{AreSpared, KeepsPlaces}
use Rattle.tree_laws.specs.WholeEdits.{with_longer_table}
use Rattle.tree_laws.proofs.Edits.LabelSet.{set_here, set_there}
use Rattle.tree_laws.proofs.Leaving.PartsKept.{front_of, same_header, longer_by, table_parts, parts_go_on}
use Rattle.tree_laws.proofs.Whole.Spares.{none_spared, one_spared, header_spared, entries_spared, part_spared, header_of, list_part, table_own}

least : (wide : Bool) → 246 ≤ node_length wide
least false = omega arith
least true = omega arith

-- ---- placements

-- one node more keeps all parts
pub one_more_part : (wide : Bool) (p : Placement) (x : Option NodeParts) (heap : Heap) → KeepsParts [] wide p (record { parts = p.parts ++ x ∷ []; heap = heap })
one_more_part wide p x heap = record {
  parts = λ e live free. let n = node_of wide p.parts e live in of_node wide (p.parts ++ x ∷ []) n.0 n.1 e (front_of p.parts x None n.0 (there_inside p.parts n.0 n.1 n.2) ∙ n.2) n.3;
  headers = λ serial from to at there. same_header (parts_of p serial) from to at (sym (front_of p.parts x None serial (there_inside p.parts serial from at)) ∙ there);
  drawn = longer_by p.parts x;
  before = λ serial to lt there. (to, sym (front_of p.parts x None serial lt) ∙ there);
}

-- and another table of a node all but its old one
pub table_and_more : (wide : Bool) (p : Placement) (s : ℕ) (from : NodeParts) (t : Option TablePart) (x : Option NodeParts) (heap : Heap) → parts_of p s ≡ Some from
    → KeepsParts (table_extents from.table ++ []) wide p (record { parts = slice_set p.parts s (Some (record from { table = t })) ++ x ∷ []; heap = heap })
table_and_more wide p s from t x heap at =
    parts_go_on (table_extents from.table) [] wide p (record p { parts = slice_set p.parts s (Some (record from { table = t })) }) (record { parts = slice_set p.parts s (Some (record from { table = t })) ++ x ∷ []; heap = heap })
    (table_parts wide p s from t at) (one_more_part wide (record p { parts = slice_set p.parts s (Some (record from { table = t })) }) x heap)

-- the heap is no part
pub any_heap : (few : List Extent) (wide : Bool) (p q : Placement) (heap : Heap) → KeepsParts few wide p q → KeepsParts few wide p (record q { heap = heap })
any_heap few wide p q heap k = record { parts = k.parts; headers = k.headers; drawn = k.drawn; before = k.before }

-- what becomes of a table
abbrev pub Longer : NodeParts → NodeParts → Type 0
Longer from to = (to.table ≡ from.table) ⊎ (entry_count from.table < entry_count to.table)

abbrev pub TablesGrow : Placement → Placement → Type 0
TablesGrow p q = (k : ℕ) (a b : NodeParts) → parts_of p k ≡ Some a → parts_of q k ≡ Some b → Longer a b

pub more_places : (few more : List Extent) (wide : Bool) (p q : Placement) → ((e : Extent) → Contains few e → Contains more e) → TablesGrow p q → KeepsParts few wide p q → KeepsPlaces more wide p q
more_places few more wide p q in_more grow k = record { parts = λ e live free. k.parts e live (λ c. free (in_more e c)); headers = k.headers; drawn = k.drawn; before = k.before; tables = grow }

-- one node more leaves all tables
pub tables_more : (p : Placement) (x : Option NodeParts) (heap : Heap) → TablesGrow p (record { parts = p.parts ++ x ∷ []; heap = heap })
tables_more p x heap k a b at there = inl (ap (λ (z : NodeParts). z.table) (same_Some b a (sym there ∙ front_of p.parts x None k (there_inside p.parts k a at) ∙ at)))

-- a longer table is one node's alone
pub tables_longer : (p : Placement) (s : ℕ) (from : NodeParts) (table entries : ℕ) (heap : Heap) → parts_of p s ≡ Some from → entry_count from.table < entries
    → TablesGrow p (record { parts = slice_set p.parts s (Some (with_longer_table from table entries)); heap = heap })
tables_longer p s from table entries heap stands longer k a b at there = elim (eqb_tells k s) [
  | inl same ↦ (
      let is : a ≡ from = same_Some a from (sym at ∙ ap (parts_of p) same.1 ∙ stands) in
      let now : with_longer_table from table entries ≡ b = same_Some (with_longer_table from table entries) b
      (sym (set_here p.parts s (Some (with_longer_table from table entries)) None (there_inside p.parts s from stands)) ∙ sym (ap (λ (j : ℕ). get_or (slice_set p.parts s (Some (with_longer_table from table entries))) j None) same.1) ∙ there) in
      let was = ap (λ (z : NodeParts). entry_count z.table) is in
      let will = ap (λ (z : NodeParts). entry_count z.table) now in inr (omega (arith, longer, was, will)))
  | inr other ↦ inl (ap (λ (z : NodeParts). z.table) (same_Some b a (sym there ∙ set_there p.parts s k (Some (with_longer_table from table entries)) None other.1 ∙ at)))
]

-- and with one node more
pub tables_longer_more : (p : Placement) (s : ℕ) (from : NodeParts) (table entries : ℕ) (x : Option NodeParts) (heap : Heap) → parts_of p s ≡ Some from → entry_count from.table < entries
    → TablesGrow p (record { parts = slice_set p.parts s (Some (with_longer_table from table entries)) ++ x ∷ []; heap = heap })
tables_longer_more p s from table entries x heap stands longer k a b at there =
    tables_longer p s from table entries heap stands longer k a b at
    (sym (front_of (slice_set p.parts s (Some (with_longer_table from table entries))) x None k (let e = length-set p.parts s (Some (with_longer_table from table entries)) in let lt = there_inside p.parts k a at in omega (arith, e, lt))) ∙ there)

-- ---- ranges

module _ (tree : Tree) (p q : Placement) (old : List ℕ) (l : LaysOut old tree p) (s : ℕ) (from : NodeParts) (at : parts_of p s ≡ Some from) (edit : Edit) (after : Tree) (touched : List Extent)
    (has_header : Contains touched (header_of tree.wide from)) where
  abbrev done : List (Edit × Tree)
  done = (edit, after) ∷ []

  -- the count, the number of entries and the pointer to the table
  pub fields_spared : (n : ℕ) → n ≤ 62 → AreSpared (extent ExtentKind.Node (from.header + 68) n ∷ []) touched tree done p q
  fields_spared n few = one_spared touched tree done p q ExtentKind.Node (from.header + 68) n (λ b low high.
      header_spared touched tree done p q old l s from at 68 n b (inl (omega (arith, few))) (let m = least tree.wide in omega (arith, m, few)) has_header low high)

  -- an entry that is in use before or after
  pub entry_spared : (t : TablePart) (i m : ℕ) → from.table ≡ Some t → Contains touched (list_part t) → i + m ≤ most_children tree done s → i + m ≤ t.entries → AreSpared (extent ExtentKind.SubNodes (t.place + 16 + 44 * i) (44 * m) ∷ []) touched tree done p q
  entry_spared t i m has c most fits = one_spared touched tree done p q ExtentKind.SubNodes (t.place + 16 + 44 * i) (44 * m) (λ b low high.
      entries_spared touched tree done p q old l s from at t (i + m) b has most fits c (omega (arith, low)) (omega (arith, high)))

  -- an old table that a longer one replaced
  pub old_table_spared : (place entries : ℕ) → (to : NodeParts) → parts_of q s ≡ Some to → to.table ≡ Some (record { place = place; entries = entries }) → ((t : TablePart) → from.table ≡ Some t → t.entries < entries)
      → ((e : Extent) → Contains (table_extents from.table) e → Contains touched e) → AreSpared (table_extents from.table) touched tree done p q
  old_table_spared place entries to now is longer in_touched = by_table from.table refl
    where
      by_table : (o : Option TablePart) → from.table ≡ o → AreSpared (table_extents o) touched tree done p q
      by_table None has = none_spared touched tree done p q
      by_table (Some t) has = one_spared touched tree done p q ExtentKind.SubNodes t.place (table_length t.entries) (λ b low high.
          part_spared touched tree done p q old l s from at (list_part t) b (λ e. other e) (table_own tree.wide from t has)
          (in_touched (list_part t) (subst (λ (o : Option TablePart). Contains (table_extents o) (list_part t)) (sym has) (0, omega arith, refl)))
          (λ to' t' then has' still' same.
          let one : to ≡ to' = same_Some to to' (sym now ∙ then) in
          let tables : record { place = place; entries = entries } ≡ t' = same_Some (record { place = place; entries = entries }) t' (sym is ∙ ap (λ (x : NodeParts). x.table) one ∙ still') in
          let many = ap (λ (x : TablePart). x.entries) tables in
          let lt = longer t' has' in absurd (omega (arith, many, lt)))
          low high)
        where
          other : ExtentKind.SubNodes ≡ ExtentKind.Node → ⊥
          other e = cc

-- how many children a node has before and after one joined it
pub one_child_more : (tree : Tree) (s : ℕ) (child parent : Node) → node_at tree s ≡ Some parent → length (children_at (with_new tree s child) s) ≡ suc (length (children_at tree s))
one_child_more tree s child parent here =
    ap (λ (o : Option Node). length (children_of o)) (at_set tree.nodes s (given_children (children_at tree s ++ length tree.nodes ∷ []) (node_at tree s)) (Some child) None (there_inside tree.nodes s parent here))
    ∙ ap (λ (o : Option Node). length (children_of (given_children (children_of o ++ length tree.nodes ∷ []) o))) here
    ∙ (let e = length-append parent.children (length tree.nodes ∷ []) in e ∙ plus_one (length parent.children))
    ∙ ap (λ (o : Option Node). suc (length (children_of o))) (sym here)
  where
    plus_one : (n : ℕ) → n + 1 ≡ suc n
    plus_one n = omega arith

-- what a change of a node's list may touch
pub list_is : (wide : Bool) (p : Placement) (s : ℕ) (from : NodeParts) → parts_of p s ≡ Some from → list_of wide p s ≡ header_of wide from ∷ table_extents from.table
list_is wide p s from at = ap (λ (o : Option NodeParts). header_of wide (parts_or_none o) ∷ table_extents (parts_or_none o).table) at

pub list_has_header : (wide : Bool) (p : Placement) (s : ℕ) (from : NodeParts) → parts_of p s ≡ Some from → Contains (list_of wide p s) (header_of wide from)
list_has_header wide p s from at = subst (λ xs. Contains xs (header_of wide from)) (sym (list_is wide p s from at)) (0, omega arith, refl)

pub list_has_table : (wide : Bool) (p : Placement) (s : ℕ) (from : NodeParts) → parts_of p s ≡ Some from → (e : Extent) → Contains (table_extents from.table) e → Contains (list_of wide p s) e
list_has_table wide p s from at e c = subst (λ xs. Contains xs e) (sym (list_is wide p s from at)) (later c.0 c.1 c.2)
  where
    later : (k : ℕ) → k < length (table_extents from.table) → get_or (table_extents from.table) k e ≡ e → Contains (header_of wide from ∷ table_extents from.table) e
    later k lt is = (suc k, omega (arith, lt), is)
