-- Nodes of an image that lays out a tree, as they are read.
use Rattle.std.proofs.Common.{◌≡◌, ℕ, ◌+◌, ◌*◌, ◌^◌, ◌<◌, ◌≤◌, List, ◌∷◌, ◌++◌, length, refl, sym, ◌∙◌, ap, subst, arith, Bool, true, false, Option, None, Some, inl, inr}
use Rattle.std.proofs.lemmas.Bool.Decides.{nat_tests}
use Rattle.std.proofs.lemmas.Option.{slice_get_within}
use Rattle.std.specs.Prelude.{nat_le, cond, ◌&&◌, unwrap_or, option_map}
use Rattle.adf_format.specs.declared.types.ExtentKind.{ExtentKind}
use Rattle.adf_format.specs.Fields.{field}
use Rattle.adf_format.specs.Pointer.{place_value, pointer}
use Rattle.adf_format.specs.RecordFields.{node_length, table_length}
use Rattle.adf_format.specs.Checks.{Fault, first_broken}
use Rattle.adf_format.specs.FirstFault.{node_rows}
use Rattle.adf_format.specs.Tiles.{end_of}
use Rattle.adf_format.specs.Tree.{Tree, Node, children_of}
use Rattle.adf_format.specs.Placement.{Placement, NodeParts, TablePart, extent, node_extents, table_extents, chunk_table_extents, chunk_extents}
use Rattle.adf_format.specs.LaysOut.{HoldsNode, HasTable, fields_of, entry_count}
use Rattle.adf_format.proofs.FieldLaws.{inner_field}
use Rattle.adf_format.proofs.ClosureLaws.{IsIn}
use Rattle.adf_model.proofs.Walks.WalkCounts.{place_small}
use Rattle.layout_laws.proofs.Rows.{kept_none}
use Rattle.layout_laws.proofs.NodeRules.{header_kept}
use Rattle.layout_laws.proofs.NodesStand.{live_fits}
use Rattle.disk_ptr.specs.View.{view, place_of}
use Rattle.disk_ptr.specs.declared.DiskPtr.{DiskPtr}
use Rattle.disk_ptr.specs.declared.DiskPtr.TheVariants.{Blank as blank, At}
use Rattle.adf_records.specs.declared.NodeHeader.{NodeHeader}
use Rattle.node_reads.specs.Headers.{header_rows, IsHeader, table_of, table_rows, SaysFields}
use Rattle.node_reads.specs.LaidOut.{IsNodeOf, HeaderIsRead, HeaderBreaksNone, TableBreaksNone, EntriesAreChildren}
use Rattle.node_reads.proofs.ReadLaws.{read_is_field}
use Rattle.node_reads.proofs.HeaderLaws.{fields_read}

-- ---- the header

module _ (image : List ℕ) (tree : Tree) (p : Placement) (serial : ℕ) (node : Node) (parts : NodeParts) (n : IsNodeOf image tree p serial node parts) where
  pub fits : (e : _) → IsIn e (node_extents tree.wide parts) → 0 < e.length → (266 ≤ e.place) × (end_of e ≤ p.heap.end + 1)
  fits = live_fits image tree p n.laid_out serial parts n.stands

  held : HoldsNode image tree p node parts
  held = n.laid_out.nodes serial node parts n.live n.stands

  some : (w : Bool) → 0 < node_length w
  some false = omega arith
  some true = omega arith

  pub header_within : parts.header + node_length tree.wide ≤ length image
  header_within =
      let f = fits (extent ExtentKind.Node parts.header (node_length tree.wide)) (inl refl) (some tree.wide) in
      let high : parts.header + node_length tree.wide ≤ p.heap.end + 1 = f.1 in
      let end = n.laid_out.end in omega (arith, high, end)

  pub header_kept_none : first_broken (node_rows tree.wide parts.header true (field image parts.header (node_length tree.wide))) ≡ None
  header_kept_none = kept_none _ (header_kept image tree p node parts held (n.laid_out.is_tree.each serial node n.live) p.heap.end fits true refl)

pub header_is_read : HeaderIsRead
header_is_read image tree p serial node parts header n r =
    let says = read_is_field image parts.header (node_length tree.wide) (IsHeader tree.wide parts.header None header) r (header_within image tree p serial node parts n) in
    fields_read tree.wide (field image parts.header (node_length tree.wide)) (fields_of node parts) header (n.laid_out.nodes serial node parts n.live n.stands).header says.says

none_some : {A : Type 0} (o : Option A) (a : A) → o ≡ None → o ≡ Some a → ⊥
none_some o a e f = cc

pub header_breaks_none : HeaderBreaksNone
header_breaks_none image tree p serial node parts rule at n r =
    none_some _ _ (header_kept_none image tree p serial node parts n)
    (read_is_field image parts.header (node_length tree.wide) (λ bytes. first_broken (header_rows tree.wide parts.header None bytes) ≡ Some (record { rule = rule; place = at })) r (header_within image tree p serial node parts n))

-- ---- the table

children_within : (image : List ℕ) (tree : Tree) (p : Placement) (node : Node) (o : Option TablePart) → HasTable image tree p node o → length node.children ≤ entry_count o
children_within image tree p node None none = rw none (omega arith)
children_within image tree p node (Some t) k = k.1

placed_at : (d : DiskPtr) (o : Option ℕ) → place_of d ≡ o → place_value (Some (view d)) ≡ unwrap_or o 0
placed_at blank o e = ap (λ (x : Option ℕ). unwrap_or x 0) e
placed_at (At block offset) o e = ap (λ (x : Option ℕ). unwrap_or x 0) e

both_hold : (a b : Bool) (f g : Fault) → a ≡ true → b ≡ true → cond a (cond {A = Option Fault} b None (Some g)) (Some f) ≡ None
both_hold a b f g e h = ap (λ x. cond x (cond {A = Option Fault} b None (Some g)) (Some f)) e ∙ ap (λ x. cond {A = Option Fault} x None (Some g)) h

both_true : (a b : Bool) → a ≡ true → b ≡ true → (a && b) ≡ true
both_true a b e h = ap (λ x. x && b) e ∙ h

at_most : (a b : ℕ) → a ≤ b → nat_le a b ≡ true
at_most a b le = grind (arith, nat_tests)

module _ (image : List ℕ) (tree : Tree) (p : Placement) (serial : ℕ) (node : Node) (parts : NodeParts) (n : IsNodeOf image tree p serial node parts) where
  end_low : p.heap.end < 2 ^ 44
  end_low = subst (λ k. k < 2 ^ 44) (ap place_value n.laid_out.header.2.end_pointer) (place_small (field (field image 0 186) 146 12))

  inside : (t : TablePart) → parts.table ≡ Some t → IsIn (extent ExtentKind.SubNodes t.place (table_length t.entries)) (node_extents tree.wide parts)
  inside t has = subst (λ (o : Option TablePart). IsIn (extent ExtentKind.SubNodes t.place (table_length t.entries)) (extent ExtentKind.Node parts.header (node_length tree.wide) ∷ table_extents o ++ chunk_table_extents parts.chunk_table (length parts.chunks) ++ chunk_extents parts.chunks)) (sym has) (inr (inl refl))

  pub table_ends : (t : TablePart) → parts.table ≡ Some t → t.place + table_length t.entries ≤ p.heap.end + 1
  table_ends t has =
      let f = fits image tree p serial node parts n (extent ExtentKind.SubNodes t.place (table_length t.entries)) (inside t has) (omega arith) in f.1

  table_low : (o : Option TablePart) → parts.table ≡ o → unwrap_or (option_map (λ (t : TablePart). t.place) o) 0 + table_length (entry_count o) ≤ 2 ^ 44
  table_low None has = omega arith
  table_low (Some t) has = let e = table_ends t has in let low = end_low in omega (arith, e, low)

  few_children : length node.children ≤ 2 ^ 20
  few_children = subst (λ (o : Option Node). length (children_of o) ≤ 2 ^ 20) n.live (n.laid_out.is_tree.width serial)

  pub table_rows_kept : (header : NodeHeader) → SaysFields header (fields_of node parts) → first_broken (table_rows header parts.header) ≡ None
  table_rows_kept header says =
      both_hold _ _ _ _
      (both_true (nat_le header.children header.entries) (nat_le header.children (2 ^ 20))
      (at_most header.children header.entries (let c = says.children in let e = says.entries in let w = children_within image tree p node parts.table (n.laid_out.nodes serial node parts n.live n.stands).table in omega (arith, c, e, w)))
      (at_most header.children (2 ^ 20) (let c = says.children in let f = few_children in omega (arith, c, f))))
      (at_most (table_of header + table_length header.entries) (2 ^ 44) (let e = says.entries in let o = placed_at header.table _ says.table in let low = table_low parts.table refl in omega (arith, e, o, low)))

pub table_breaks_none : TableBreaksNone
table_breaks_none image tree p serial node parts header n says = table_rows_kept image tree p serial node parts n header says

-- ---- its entries

same_at : (image : List ℕ) (o m a b c n : ℕ) → a ≡ b → c ≡ o + b → b + n ≤ m → field image c n ≡ field (field image o m) a n
same_at image o m a b c n e f le = ap (λ k. field image k n) f ∙ sym (inner_field image o m b n le) ∙ ap (λ k. field (field image o m) k n) (sym e)

pub entries_are_children : EntriesAreChildren
entries_are_children image tree p serial node parts t i child its at n has in_list c =
    let table : HasTable image tree p node (Some t) = subst (λ (o : Option TablePart). HasTable image tree p node o) has (n.laid_out.nodes serial node parts n.live n.stands).table in
    let entry = table.3 i child its at in_list c.live c.stands in
    let few : length node.children ≤ t.entries = table.1 in
    let lt : i < length node.children = slice_get_within node.children i child in_list in
    let ends = table_ends image tree p serial node parts n t has in
    let end = n.laid_out.end in (
      same_at image t.place (table_length t.entries) _ (16 + 44 * i) _ 32 (omega arith) (omega arith) (omega (arith, few, lt)) ∙ entry.named,
      ap pointer (same_at image t.place (table_length t.entries) _ (48 + 44 * i) _ 12 (omega arith) (omega arith) (omega (arith, few, lt))) ∙ entry.points,
      omega (arith, ends, end),
      few,
    )
