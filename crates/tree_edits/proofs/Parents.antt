-- The parent of a node, its table, and the entries of it, in bytes that are told.
use Rattle.std.proofs.Common.{◌≡◌, ◌≢◌, inl, inr, ℕ, refl, sym, ◌∙◌, ap, subst, arith, List, [], length, get_or, map, ◌+◌, ◌*◌, ◌≤◌, Bool, true, false, Option, Some, None}
use Rattle.std.proofs.lemmas.Bool.Decides.{eqb_tells}
use Rattle.std.proofs.lemmas.Option.{slice_get_within, slice_get-get_or}
use Rattle.std.proofs.lemmas.Slice.Eq.{bytes_eq-Decides}
use Rattle.std.specs.Prelude.{slice_get, is_some, option_map, unwrap_or, bytes_eq, not}
use Rattle.adf_format.specs.Fields.{text_field, trimmed}
use Rattle.adf_format.specs.Names.{is_name}
use Rattle.adf_format.specs.Pointer.{To, PointsTo, place_value}
use Rattle.adf_format.specs.RecordFields.{table_length}
use Rattle.adf_format.specs.Checks.{first_broken}
use Rattle.adf_format.specs.FirstFault.{entry_name, entry_pointer}
use Rattle.adf_format.specs.Tree.{Tree, Node, IsAmong, AllDiffer, node_at, children_of, children_at, name_of, name_at, parent_of}
use Rattle.adf_format.specs.Placement.{Placement, NodeParts, TablePart, parts_of}
use Rattle.adf_format.specs.LaysOut.{HoldsNode, HasTable, fields_of}
use Rattle.adf_format.proofs.LayoutLaws.{live_parts}
use Rattle.adf_model.specs.Edits.{has_named, other_children}
use Rattle.adf_model.proofs.Basics.{not_true, same_Some, false_of}
use Rattle.adf_model.proofs.Trees.AncestorLemmas.{parent_tells, live_with_child}
use Rattle.adf_model.proofs.Creation.CreatedNodes.{among_get}
use Rattle.layout_laws.proofs.Rows.{pointer_to_of, pointer_to_tells}
use Rattle.layout_laws.proofs.NodeRead.{name_again}
use Rattle.tree_laws.proofs.Reading.PlacesFound.{headers_differ}
use Rattle.disk_ptr.specs.View.{view, place_of}
use Rattle.disk_ptr.specs.declared.DiskPtr.{DiskPtr}
use Rattle.disk_ptr.specs.declared.DiskPtr.TheVariants.{Blank as blank, At}
use Rattle.node_reads.specs.declared.find.Wanted.{Wanted}
use Rattle.node_reads.specs.declared.find.Wanted.TheVariants.{Name, Place}
use Rattle.node_reads.specs.declared.header.ChildTable.{ChildTable}
use Rattle.node_reads.specs.Reads.{IsFirst}
use Rattle.node_reads.specs.Headers.{SaysFields, table_rows}
use Rattle.node_reads.specs.Entries.{is_wanted_at}
use Rattle.node_reads.specs.LaidOut.{IsNodeOf}
use Rattle.node_reads.proofs.LaidOut.{table_breaks_none, entries_are_children}
use Rattle.tree_edits.specs.declared.memory.Core.{Core}
use Rattle.tree_edits.specs.declared.rows.Row.{Row}
use Rattle.tree_edits.specs.Rows.{Means, row_of}
use Rattle.tree_edits.specs.Edits.{memory_of}
use Rattle.tree_edits.specs.Listed.{NamesTable, TableBreaks, FindsFirst, is_another}
use Rattle.tree_edits.proofs.Tables.{there, says_none}
use Rattle.tree_edits.proofs.Nodes.{TheNode, the_node, its_row, header_says, no_break}
use Rattle.tree_edits.proofs.Siblings.{without, listed_at, none_other, some_other, one_index}

pub placed_at : (d : DiskPtr) (o : Option ℕ) → place_of d ≡ o → place_value (Some (view d)) ≡ unwrap_or o 0
placed_at blank o e = ap (λ (x : Option ℕ). unwrap_or x 0) e
placed_at (At block offset) o e = ap (λ (x : Option ℕ). unwrap_or x 0) e

pub none_some : {A : Type 0} (o : Option A) (a : A) → o ≡ None → o ≡ Some a → ⊥
none_some o a e f = cc

-- names whose fields are the same are the same
pub same_names : (a b : List ℕ) → is_name a ≡ true → is_name b ≡ true → text_field 32 a ≡ text_field 32 b → a ≡ b
same_names a b good fine e = sym (name_again a good) ∙ ap trimmed e ∙ name_again b fine

-- tests of which each tells the other are one
pub same_test : (a b : Bool) → (a ≡ true → b ≡ true) → (b ≡ true → a ≡ true) → a ≡ b
same_test true b to from = sym (to refl)
same_test false b to from = sym (false_of b (λ t. not_true (from t)))

module _ (image : List ℕ) (core : Core) (serial : ℕ) (row : Row) (found : row_of core.rows.items serial ≡ Some row) (parent : ℕ) (above : row.parent ≡ Some parent) (tree : Tree) (p : Placement) (m : Means image tree p (memory_of core)) where
  abbrev pub the_child : TheNode image tree p serial row.place
  the_child = the_node image (memory_of core) serial row found tree p m

  pub over : parent_of tree serial ≡ Some parent
  over = let its = its_row image (memory_of core) serial row found tree p m in sym its.parent ∙ above

  pub child : IsAmong (children_at tree parent) serial
  child = parent_tells tree m.laid_out.is_tree serial parent over

  pub has_row : row_of core.rows.items parent ≡ None → ⊥
  has_row none =
      let gone = says_none tree p parent (row_of core.rows.items parent) none (m.table.each parent) in
      not_true (sym (ap is_some gone) ∙ live_with_child tree parent serial child)

  module _ (up_row : Row) (up_found : row_of core.rows.items parent ≡ Some up_row) where
    abbrev pub up : TheNode image tree p parent up_row.place
    up = the_node image (memory_of core) parent up_row up_found tree p m

    pub here : children_at tree parent ≡ up.node.children
    here = ap children_of up.is.live

    pub unbroken : (rule at : ℕ) → TableBreaks core.wide (Some image) up_row.place rule at → ⊥
    unbroken rule at (inl b) = no_break image (memory_of core) parent up_row up_found tree p m rule at b
    unbroken rule at (inr f) =
        let says = header_says image (memory_of core) parent up_row up_found tree p m f.header f.read in
        let none = table_breaks_none image tree p parent up.node up.parts f.header up.is says in
        none_some _ _ (subst (λ k. first_broken (table_rows f.header k) ≡ None) up.at none) f.fails

    held : HoldsNode image tree p up.node up.parts
    held = m.laid_out.nodes parent up.node up.parts up.is.live up.is.stands

    pub the_table : (t : TablePart) × (up.parts.table ≡ Some t)
    the_table = by_table up.parts.table refl
      where
        by_table : (o : Option TablePart) → up.parts.table ≡ o → (t : TablePart) × (up.parts.table ≡ Some t)
        by_table (Some t) e = (t, e)
        by_table None e =
            let none : up.node.children ≡ [] = subst (λ (o : Option TablePart). HasTable image tree p up.node o) e held.table in
            absurd (not_true (subst (λ xs. IsAmong xs serial) (here ∙ none) child))

    abbrev t : TablePart
    t = the_table.0

    abbrev kids : List ℕ
    kids = up.node.children

    mine : IsAmong kids serial
    mine = subst (λ xs. IsAmong xs serial) here child

    -- a child in the table
    pub record AnEntry (i c : ℕ) : Type 0 where
      pub its : Node
      pub at : NodeParts
      pub is : IsNodeOf image tree p c its at
      pub name : entry_name image t.place i ≡ text_field 32 its.name
      pub points : PointsTo (entry_pointer image t.place i) at.header
      pub within : t.place + table_length t.entries ≤ length image
      pub few : length kids ≤ t.entries

    pub entry : (i c : ℕ) → slice_get kids i ≡ Some c → AnEntry i c
    entry i c listed =
        let among : IsAmong (children_at tree parent) c = subst (λ xs. IsAmong xs c) (sym here) (among_get kids i c listed) in
        let live = (m.laid_out.is_tree.live parent c among).0 in
        let its = there (node_at tree c) live in
        let at = there (parts_of p c) (live_parts image tree p m.laid_out c ∙ live) in
        let is : IsNodeOf image tree p c its.0 at.0 = record { laid_out = m.laid_out; live = its.1; stands = at.1 } in
        let e = entries_are_children image tree p parent up.node up.parts t i c its.0 at.0 up.is the_table.1 listed is in
        record { its = its.0; at = at.0; is = is; name = e.0; points = e.1; within = e.2; few = e.3 }

    module _ (table : ChildTable) (n : NamesTable core.wide (Some image) up_row.place table) where
      says : SaysFields n.header (fields_of up.node up.parts)
      says = header_says image (memory_of core) parent up_row up_found tree p m n.header n.read

      pub place_is : table.place ≡ t.place
      place_is =
          ap (λ (x : ChildTable). x.place) n.is
          ∙ placed_at n.header.table _ says.table
          ∙ ap (λ (o : Option TablePart). unwrap_or (option_map (λ (x : TablePart). x.place) o) 0) the_table.1

      pub count_is : table.count ≡ length kids
      count_is = ap (λ (x : ChildTable). x.count) n.is ∙ says.children

      fits : table.place + 16 + 44 * table.count ≤ length image
      fits =
          let at = listed_at kids serial mine in
          let e = entry at.0 serial at.1 in
          let w = e.within in let f = e.few in let a = place_is in let b = count_is in omega (arith, w, f, a, b)

      first_in : (w : Wanted) (o : Option ℕ) → FindsFirst (Some image) table w o → IsFirst (is_wanted_at w image t.place) 0 (length kids) o
      first_in w o f =
          subst (λ k. IsFirst (is_wanted_at w image k) 0 (length kids) o) place_is
          (subst (λ k. IsFirst (is_wanted_at w image table.place) 0 k o) count_is (f fits))

      -- the place of a node's header stands in its entry alone
      pub position : (i : ℕ) → FindsFirst (Some image) table (Place row.place) (Some i) → slice_get kids i ≡ Some serial
      position i f =
          let first = first_in (Place row.place) (Some i) f in
          let listed : slice_get kids i ≡ Some (get_or kids i 0) = slice_get-get_or kids i 0 first.1 in
          let e = entry i (get_or kids i 0) listed in
          let told = pointer_to_tells (entry_pointer image t.place i) row.place first.2 in
          let same : e.at.header ≡ the_child.parts.header = ap place_value (sym e.points ∙ told) ∙ sym the_child.at in
          elim (eqb_tells (get_or kids i 0) serial) [
            | inl k ↦ listed ∙ ap (λ c. Some c) k.1
            | inr k ↦ absurd (headers_differ image tree p (get_or kids i 0) serial e.at the_child.parts m.laid_out e.is.stands the_child.is.stands k.1 same)
          ]

      pub none_listed : FindsFirst (Some image) table (Place row.place) None → ⊥
      none_listed f =
          let at = listed_at kids serial mine in
          let e = entry at.0 serial at.1 in
          let none = first_in (Place row.place) None f at.0 (omega arith) (slice_get_within kids at.0 serial at.1) in
          let same : e.at.header ≡ row.place = ap (λ (x : NodeParts). x.header) (same_Some e.at the_child.parts (sym e.is.stands ∙ the_child.is.stands)) ∙ the_child.at in
          not_true (sym none ∙ pointer_to_of (entry_pointer image t.place at.0) row.place (e.points ∙ ap (λ k. Some (To k)) same))

      module _ (name : List ℕ) (good : is_name name ≡ true) where
        named : (i c : ℕ) → slice_get kids i ≡ Some c → is_wanted_at (Name (text_field 32 name)) image t.place i ≡ bytes_eq (name_at tree c) name
        named i c listed =
            let e = entry i c listed in
            let its : name_at tree c ≡ e.its.name = ap name_of e.is.live in
            let fine = (m.laid_out.is_tree.each c e.its e.is.live).named in
            same_test (bytes_eq (entry_name image t.place i) (text_field 32 name)) (bytes_eq (name_at tree c) name)
            (λ h. (bytes_eq-Decides (name_at tree c) name).1 (its ∙ same_names e.its.name name fine good (sym e.name ∙ (bytes_eq-Decides (entry_name image t.place i) (text_field 32 name)).0 h)))
            (λ h. (bytes_eq-Decides (entry_name image t.place i) (text_field 32 name)).1 (e.name ∙ ap (text_field 32) (sym its ∙ (bytes_eq-Decides (name_at tree c) name).0 h)))

        differ : AllDiffer (map (name_at tree) kids)
        differ = subst (λ xs. AllDiffer (map (name_at tree) xs)) here (m.laid_out.is_tree.siblings parent)

        -- another child has the name where the first entry with it is another's
        others : (i : ℕ) → slice_get kids i ≡ Some serial → (o : Option ℕ) → IsFirst (is_wanted_at (Name (text_field 32 name)) image t.place) 0 (length kids) o → has_named tree (other_children tree parent serial) name ≡ is_another o i
        others i listed None first = ap (λ xs. has_named tree (without serial xs) name) here ∙ none_other tree serial name kids (λ c h d.
            let at = listed_at kids c h in
            sym (named at.0 c at.1) ∙ first at.0 (omega arith) (slice_get_within kids at.0 c at.1))
        others i listed (Some j) first = elim (eqb_tells j i) [
          | inl k ↦ ap (λ xs. has_named tree (without serial xs) name) here ∙ none_other tree serial name kids (λ c h d. own k.1 c h d) ∙ sym (ap not k.0)
          | inr k ↦ ap (λ xs. has_named tree (without serial xs) name) here ∙ some_other tree serial name kids (get_or kids j 0) (among_get kids j (get_or kids j 0) there_j) (apart k.1) is_named ∙ sym (ap not k.0)
        ]
          where
            there_j : slice_get kids j ≡ Some (get_or kids j 0)
            there_j = slice_get-get_or kids j 0 first.1

            is_named : bytes_eq (name_at tree (get_or kids j 0)) name ≡ true
            is_named = sym (named j (get_or kids j 0) there_j) ∙ first.2

            apart : j ≢ i → get_or kids j 0 ≢ serial
            apart differs same = differs (one_index (name_at tree) kids j i (get_or kids j 0) serial differ there_j listed (ap (name_at tree) same))

            own : j ≡ i → (c : ℕ) → IsAmong kids c → c ≢ serial → bytes_eq (name_at tree c) name ≡ false
            own same c h d = false_of (bytes_eq (name_at tree c) name) (λ e.
                let at = listed_at kids c h in
                let names : name_at tree c ≡ name_at tree (get_or kids j 0) = (bytes_eq-Decides (name_at tree c) name).0 e ∙ sym ((bytes_eq-Decides (name_at tree (get_or kids j 0)) name).0 is_named) in
                let at_j = one_index (name_at tree) kids at.0 j c (get_or kids j 0) differ at.1 there_j names in
                d (same_Some c serial (sym at.1 ∙ ap (slice_get kids) (at_j ∙ same) ∙ listed)))

        pub taken : (i : ℕ) (o : Option ℕ) → slice_get kids i ≡ Some serial → FindsFirst (Some image) table (Name (text_field 32 name)) o → has_named tree (other_children tree parent serial) name ≡ is_another o i
        taken i o listed f = others i listed o (first_in (Name (text_field 32 name)) o f)
