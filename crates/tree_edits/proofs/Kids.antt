-- The children of a node, as its table lists them, in bytes that are told.
use Rattle.std.proofs.Common.{◌≡◌, inl, inr, ℕ, refl, sym, ◌∙◌, ap, subst, arith, List, [], ◌∷◌, length, get_or, ◌+◌, ◌*◌, ◌≤◌, Bool, true, false, ◌||◌, Option, Some, None}
use Rattle.std.proofs.lemmas.Bool.Decides.{eqb_tells}
use Rattle.std.proofs.lemmas.Option.{slice_get_within, slice_get-get_or}
use Rattle.std.proofs.lemmas.Slice.Eq.{bytes_eq-Decides}
use Rattle.std.specs.Prelude.{slice_get, is_some, option_map, unwrap_or, bytes_eq, ◌==◌, cond}
use Rattle.adf_format.specs.Fields.{text_field}
use Rattle.adf_format.specs.Names.{is_name}
use Rattle.adf_format.specs.FirstFault.{entry_name}
use Rattle.adf_format.specs.Tree.{Tree, IsAmong, is_among, node_at, children_of, children_at, name_of, name_at, first_named}
use Rattle.adf_format.specs.Placement.{Placement, TablePart, parts_of}
use Rattle.adf_format.specs.LaysOut.{HoldsNode, HasTable, entry_count, fields_of}
use Rattle.adf_format.proofs.LayoutLaws.{live_parts}
use Rattle.adf_model.specs.Edits.{has_named}
use Rattle.adf_model.proofs.Basics.{not_true, not_there, or_right, among_head}
use Rattle.adf_model.proofs.Creation.CreatedNodes.{among_get}
use Rattle.tree_laws.proofs.Holding.OwnRanges.{least}
use Rattle.node_reads.specs.declared.find.Wanted.TheVariants.{Name}
use Rattle.node_reads.specs.declared.header.ChildTable.{ChildTable}
use Rattle.node_reads.specs.Reads.{IsFirst}
use Rattle.node_reads.specs.Headers.{SaysFields}
use Rattle.node_reads.specs.Entries.{is_wanted_at}
use Rattle.node_reads.specs.LaidOut.{IsNodeOf}
use Rattle.node_reads.proofs.LaidOut.{entries_are_children, header_within, table_ends}
use Rattle.tree_edits.specs.declared.memory.Core.{Core}
use Rattle.tree_edits.specs.declared.rows.Row.{Row}
use Rattle.tree_edits.specs.Rows.{Means, row_of}
use Rattle.tree_edits.specs.Edits.{memory_of}
use Rattle.tree_edits.specs.Listed.{NamesTable, FindsFirst}
use Rattle.tree_edits.proofs.Tables.{there}
use Rattle.tree_edits.proofs.Nodes.{TheNode, the_node, header_says}
use Rattle.tree_edits.proofs.Siblings.{listed_at}
use Rattle.tree_edits.proofs.Parents.{placed_at, same_names, same_test}

-- no child has the name
pub none_has : (tree : Tree) (name : List ℕ) (xs : List ℕ) → ((c : ℕ) → IsAmong xs c → bytes_eq (name_at tree c) name ≡ false) → is_some (first_named tree xs name) ≡ false
none_has tree name [] none = refl
none_has tree name (x ∷ xs) none =
    ap (λ b. is_some (cond b (Some x) (first_named tree xs name))) (none x (among_head x xs))
    ∙ none_has tree name xs (λ c h. none c (or_right (x == c) (is_among xs c) h))

-- one of them has it
pub one_has : (tree : Tree) (name : List ℕ) (xs : List ℕ) (c : ℕ) → IsAmong xs c → bytes_eq (name_at tree c) name ≡ true → is_some (first_named tree xs name) ≡ true
one_has tree name [] c h same = absurd (not_true h)
one_has tree name (x ∷ xs) c h same = by_name (bytes_eq (name_at tree x) name) refl (λ among. one_has tree name xs c among same)
  where
    by_name : (u : Bool) → bytes_eq (name_at tree x) name ≡ u → (IsAmong xs c → is_some (first_named tree xs name) ≡ true) → is_some (cond (bytes_eq (name_at tree x) name) (Some x) (first_named tree xs name)) ≡ true
    by_name true f again = ap (λ b. is_some (cond b (Some x) (first_named tree xs name))) f
    by_name false f again =
        ap (λ b. is_some (cond b (Some x) (first_named tree xs name))) f
        ∙ again (elim (eqb_tells x c) [
          | inl t ↦ absurd (not_true (sym f ∙ ap (λ k. bytes_eq (name_at tree k) name) t.1 ∙ same))
          | inr t ↦ sym (ap (λ b. b || is_among xs c) t.0) ∙ h
        ])

module _ (image : List ℕ) (core : Core) (serial : ℕ) (row : Row) (found : row_of core.rows.items serial ≡ Some row) (tree : Tree) (p : Placement) (m : Means image tree p (memory_of core)) (table : ChildTable) (named_by : NamesTable core.wide (Some image) row.place table) where
  abbrev pub own : TheNode image tree p serial row.place
  own = the_node image (memory_of core) serial row found tree p m

  abbrev pub kids : List ℕ
  kids = own.node.children

  pub kids_are : children_at tree serial ≡ kids
  kids_are = ap children_of own.is.live

  says : SaysFields named_by.header (fields_of own.node own.parts)
  says = header_says image (memory_of core) serial row found tree p m named_by.header named_by.read

  held : HoldsNode image tree p own.node own.parts
  held = m.laid_out.nodes serial own.node own.parts own.is.live own.is.stands

  pub count_is : table.count ≡ length kids
  count_is = ap (λ (x : ChildTable). x.count) named_by.is ∙ says.children

  pub entries_are : table.entries ≡ entry_count own.parts.table
  entries_are = ap (λ (x : ChildTable). x.entries) named_by.is ∙ says.entries

  pub place_is : (o : Option TablePart) → own.parts.table ≡ o → table.place ≡ unwrap_or (option_map (λ (x : TablePart). x.place) o) 0
  place_is o e =
      ap (λ (x : ChildTable). x.place) named_by.is
      ∙ placed_at named_by.header.table _ says.table
      ∙ ap (λ (x : Option TablePart). unwrap_or (option_map (λ (y : TablePart). y.place) x) 0) e

  fits : table.place + 16 + 44 * table.count ≤ length image
  fits = by_table own.parts.table refl
    where
      by_table : (o : Option TablePart) → own.parts.table ≡ o → table.place + 16 + 44 * table.count ≤ length image
      by_table None e =
          let none : kids ≡ [] = subst (λ (o : Option TablePart). HasTable image tree p own.node o) e held.table in
          let count = count_is ∙ ap length none in
          let place = place_is None e in
          let long = header_within image tree p serial own.node own.parts own.is in
          let some = least tree.wide in
          omega (arith, count, place, long, some)
      by_table (Some t) e =
          let many : length kids ≤ t.entries = (subst (λ (o : Option TablePart). HasTable image tree p own.node o) e held.table).1 in
          let place = place_is (Some t) e in
          let ends = table_ends image tree p serial own.node own.parts own.is t e in
          let end = m.laid_out.end in
          let count = count_is in
          omega (arith, many, place, ends, end, count)

  -- the entry of a child has the field of its name
  pub entry_says : (i c : ℕ) → slice_get kids i ≡ Some c → (entry_name image table.place i ≡ text_field 32 (name_at tree c)) × (is_name (name_at tree c) ≡ true)
  entry_says i c listed = by_table own.parts.table refl
    where
      by_table : (o : Option TablePart) → own.parts.table ≡ o → (entry_name image table.place i ≡ text_field 32 (name_at tree c)) × (is_name (name_at tree c) ≡ true)
      by_table None e =
          let none : kids ≡ [] = subst (λ (o : Option TablePart). HasTable image tree p own.node o) e held.table in
          absurd (not_there c (subst (λ xs. slice_get xs i ≡ Some c) none listed))
      by_table (Some t) e =
          let among : IsAmong (children_at tree serial) c = subst (λ xs. IsAmong xs c) (sym kids_are) (among_get kids i c listed) in
          let live = (m.laid_out.is_tree.live serial c among).0 in
          let its = there (node_at tree c) live in
          let at = there (parts_of p c) (live_parts image tree p m.laid_out c ∙ live) in
          let is : IsNodeOf image tree p c its.0 at.0 = record { laid_out = m.laid_out; live = its.1; stands = at.1 } in
          let entry = entries_are_children image tree p serial own.node own.parts t i c its.0 at.0 own.is e listed is in
          let name_is : name_at tree c ≡ its.0.name = ap name_of its.1 in (
            ap (λ k. entry_name image k i) (place_is (Some t) e) ∙ entry.0 ∙ ap (text_field 32) (sym name_is),
            ap is_name name_is ∙ (m.laid_out.is_tree.each c its.0 its.1).named,
          )

  named : (name : List ℕ) → is_name name ≡ true → (i c : ℕ) → slice_get kids i ≡ Some c → bytes_eq (entry_name image table.place i) (text_field 32 name) ≡ bytes_eq (name_at tree c) name
  named name good i c listed =
      let says = entry_says i c listed in
      same_test (bytes_eq (entry_name image table.place i) (text_field 32 name)) (bytes_eq (name_at tree c) name)
      (λ h. (bytes_eq-Decides (name_at tree c) name).1 (same_names (name_at tree c) name says.1 good (sym says.0 ∙ (bytes_eq-Decides (entry_name image table.place i) (text_field 32 name)).0 h)))
      (λ h. (bytes_eq-Decides (entry_name image table.place i) (text_field 32 name)).1 (says.0 ∙ ap (text_field 32) ((bytes_eq-Decides (name_at tree c) name).0 h)))

  first_in : (name : List ℕ) (o : Option ℕ) → FindsFirst (Some image) table (Name (text_field 32 name)) o → IsFirst (is_wanted_at (Name (text_field 32 name)) image table.place) 0 (length kids) o
  first_in name o f = subst (λ k. IsFirst (is_wanted_at (Name (text_field 32 name)) image table.place) 0 k o) count_is (f fits)

  -- a child has the name where an entry with it is found
  pub taken : (name : List ℕ) → is_name name ≡ true → (o : Option ℕ) → FindsFirst (Some image) table (Name (text_field 32 name)) o → has_named tree (children_at tree serial) name ≡ is_some o
  taken name good o f = ap (λ xs. has_named tree xs name) kids_are ∙ by_entry o (first_in name o f)
    where
      by_entry : (o : Option ℕ) → IsFirst (is_wanted_at (Name (text_field 32 name)) image table.place) 0 (length kids) o → has_named tree kids name ≡ is_some o
      by_entry None first = none_has tree name kids (λ c h.
          let at = listed_at kids c h in
          sym (named name good at.0 c at.1) ∙ first at.0 (omega arith) (slice_get_within kids at.0 c at.1))
      by_entry (Some i) first =
          let listed : slice_get kids i ≡ Some (get_or kids i 0) = slice_get-get_or kids i 0 first.1 in
          one_has tree name kids (get_or kids i 0) (among_get kids i (get_or kids i 0) listed) (sym (named name good i (get_or kids i 0) listed) ∙ first.2)
