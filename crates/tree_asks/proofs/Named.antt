-- The child of a name, by the entries of its parent's table.
use Rattle.std.proofs.Common.{◌≡◌, inl, inr, ℕ, zero, suc, refl, sym, ◌∙◌, ap, subst, arith, List, [], ◌∷◌, length, get_or, ◌+◌, ◌*◌, ◌≤◌, ◌<◌, Bool, true, false, Option, None, Some}
use Rattle.std.proofs.lemmas.Bool.Decides.{eqb_tells}
use Rattle.std.proofs.lemmas.Option.{slice_get_within, slice_get-get_or}
use Rattle.std.proofs.lemmas.Slice.Eq.{bytes_eq-Decides}
use Rattle.std.specs.Prelude.{Result, Ok, Err, slice_get, is_some, option_map, unwrap_or, bytes_eq, cond, ◌&&◌}
use Rattle.adf_format.specs.declared.fields.TheConstants.{ENTRY_NAME, ENTRY_CHILD}
use Rattle.adf_format.specs.Fields.{field, text_field, trimmed}
use Rattle.adf_format.specs.Names.{is_name}
use Rattle.adf_format.specs.Pointer.{PointsTo, To, pointer, is_place, is_place_value, place_of as place_said, place_value}
use Rattle.adf_format.specs.RecordFields.{field_in, node_length}
use Rattle.adf_format.specs.FirstFault.{entry_name, entry_pointer, is_name_field}
use Rattle.adf_format.specs.Tree.{Tree, Node, node_at, children_of, children_at, name_of, name_at, child_named, first_named, IsAmong}
use Rattle.adf_format.specs.Placement.{Placement, NodeParts, TablePart, parts_of}
use Rattle.adf_format.specs.LaysOut.{HoldsNode, HasTable, fields_of}
use Rattle.adf_format.specs.HeapRule.{parts_or_none}
use Rattle.adf_format.proofs.FieldLaws.{inner_field}
use Rattle.adf_format.proofs.LayoutLaws.{live_parts}
use Rattle.adf_model.specs.declared.error.AdfError.{AdfError}
use Rattle.adf_model.specs.declared.error.AdfError.TheVariants as error
use Rattle.adf_model.proofs.Basics.{not_true, false_of, same_Some}
use Rattle.adf_model.proofs.Creation.CreatedNodes.{among_get}
use Rattle.disk_ptr.specs.View.{view, place_of}
use Rattle.disk_ptr.specs.declared.DiskPtr.{DiskPtr}
use Rattle.disk_ptr.specs.declared.DiskPtr.TheVariants.{Blank as blank, At}
use Rattle.layout_laws.proofs.NodeRead.{name_again}
use Rattle.tree_laws.proofs.Reading.PlacesFound.{headers_differ}
use Rattle.node_reads.specs.declared.entries.ListedChild.{ListedChild}
use Rattle.node_reads.specs.declared.find.Wanted.TheVariants.{Name}
use Rattle.node_reads.specs.declared.header.ChildTable.{ChildTable}
use Rattle.node_reads.specs.Reads.{ReadAt, IsUnread}
use Rattle.node_reads.specs.Entries.{is_wanted_at, child_said, child_view}
use Rattle.node_reads.specs.Headers.{SaysFields}
use Rattle.node_reads.specs.LaidOut.{IsNodeOf}
use Rattle.node_reads.proofs.LaidOut.{header_within, table_ends, entries_are_children}
use Rattle.node_reads.proofs.ReadLaws.{read_is_field}
use Rattle.tree_edits.specs.declared.memory.Core.{Core}
use Rattle.tree_edits.specs.declared.rows.Row.{Row}
use Rattle.tree_edits.specs.Rows.{Means, IsRowOf, row_of}
use Rattle.tree_edits.specs.Edits.{memory_of}
use Rattle.tree_edits.specs.Listed.{NamesTable, FindsFirst}
use Rattle.tree_edits.proofs.Tables.{there}
use Rattle.tree_edits.proofs.Nodes.{TheNode, the_node, header_says, no_node}
use Rattle.tree_asks.specs.Hints.{stands_at, is_placed}
use Rattle.tree_asks.specs.Told.{Tells}

-- ---- the first child of a name

found_none : (tree : Tree) (name : List ℕ) (xs : List ℕ) → ((i c : ℕ) → slice_get xs i ≡ Some c → bytes_eq (name_at tree c) name ≡ false) → first_named tree xs name ≡ None
found_none tree name [] none = refl
found_none tree name (x ∷ xs) none =
    ap (λ b. cond b (Some x) (first_named tree xs name)) (none 0 x refl) ∙ found_none tree name xs (λ i c e. none (suc i) c e)

found_at : (tree : Tree) (name : List ℕ) (xs : List ℕ) (i c : ℕ) → slice_get xs i ≡ Some c → bytes_eq (name_at tree c) name ≡ true → ((j d : ℕ) → j < i → slice_get xs j ≡ Some d → bytes_eq (name_at tree d) name ≡ false) → first_named tree xs name ≡ Some c
found_at tree name [] i c e is before = cc
found_at tree name (x ∷ xs) zero c e is before =
    let same : x ≡ c = same_Some x c e in
    ap (λ b. cond b (Some x) (first_named tree xs name)) (ap (λ k. bytes_eq (name_at tree k) name) same ∙ is) ∙ ap (λ k. Some k) same
found_at tree name (x ∷ xs) (suc i) c e is before =
    ap (λ b. cond b (Some x) (first_named tree xs name)) (before 0 x (omega arith) refl)
    ∙ found_at tree name xs i c e is (λ j d lt h. before (suc j) d (omega (arith, lt)) h)

-- ---- the place that an entry names

said_none : (bytes : List ℕ) → child_said bytes ≡ None → is_name_field (field_in bytes ENTRY_NAME) ≡ true → is_place (field_in bytes ENTRY_CHILD) ≡ true → ⊥
said_none bytes e name place = by_test (is_name_field (field_in bytes ENTRY_NAME)) (is_place (field_in bytes ENTRY_CHILD)) e name place
  where
    by_test : (a b : Bool) → cond {A = Option (List ℕ × ℕ)} (a && b) (Some (field_in bytes ENTRY_NAME, place_said (field_in bytes ENTRY_CHILD))) None ≡ None → a ≡ true → b ≡ true → ⊥
    by_test true true e name place = cc
    by_test true false e name place = not_true place
    by_test false b e name place = not_true name

said_place : (bytes : List ℕ) (v : List ℕ × ℕ) → child_said bytes ≡ Some v → place_said (field_in bytes ENTRY_CHILD) ≡ v.1
said_place bytes v e = by_test (is_name_field (field_in bytes ENTRY_NAME) && is_place (field_in bytes ENTRY_CHILD)) e
  where
    by_test : (b : Bool) → cond b (Some (field_in bytes ENTRY_NAME, place_said (field_in bytes ENTRY_CHILD))) None ≡ Some v → place_said (field_in bytes ENTRY_CHILD) ≡ v.1
    by_test true e = ap (λ (w : List ℕ × ℕ). w.1) (same_Some (field_in bytes ENTRY_NAME, place_said (field_in bytes ENTRY_CHILD)) v e)
    by_test false e = cc

placed_at : (d : DiskPtr) (o : Option ℕ) → place_of d ≡ o → place_value (Some (view d)) ≡ unwrap_or o 0
placed_at blank o e = ap (λ (x : Option ℕ). unwrap_or x 0) e
placed_at (At block offset) o e = ap (λ (x : Option ℕ). unwrap_or x 0) e

same_names : (a b : List ℕ) → is_name a ≡ true → is_name b ≡ true → text_field 32 a ≡ text_field 32 b → a ≡ b
same_names a b good fine e = sym (name_again a good) ∙ ap trimmed e ∙ name_again b fine

same_test : (a b : Bool) → (a ≡ true → b ≡ true) → (b ≡ true → a ≡ true) → a ≡ b
same_test true b to from = sym (to refl)
same_test false b to from = sym (false_of b (λ t. not_true (from t)))

-- ---- serials by places

module _ (image : List ℕ) (core : Core) (tree : Tree) (p : Placement) (m : Means image tree p (memory_of core)) where
  -- a row that names the place of a node's header is that node's
  pub serial_is : (c : ℕ) (at : NodeParts) (s : ℕ) → parts_of p c ≡ Some at → is_placed core.rows.items at.header s ≡ true → s ≡ c
  serial_is c at s stands placed = by_row (row_of core.rows.items s) refl placed
    where
      by_row : (o : Option Row) → row_of core.rows.items s ≡ o → stands_at at.header o ≡ true → s ≡ c
      by_row None e h = absurd (not_true h)
      by_row (Some row) e h =
          let n = the_node image (memory_of core) s row e tree p m in
          let same : row.place ≡ at.header = elim (eqb_tells row.place at.header) [ inl t ↦ t.1 | inr t ↦ absurd (not_true (sym t.0 ∙ h)) ] in
          elim (eqb_tells s c) [ inl t ↦ t.1 | inr t ↦ absurd (headers_differ image tree p s c n.parts at m.laid_out n.is.stands stands t.1 (n.at ∙ same)) ]

  -- a live node has a row that names its header
  pub has_serial : (c : ℕ) (node : Node) (at : NodeParts) → node_at tree c ≡ Some node → parts_of p c ≡ Some at → is_placed core.rows.items at.header c ≡ true
  has_serial c node at live stands = by_row (row_of core.rows.items c) (m.table.each c)
    where
      by_row : (o : Option Row) → IsRowOf tree p c o → stands_at at.header o ≡ true
      by_row None gone = absurd (not_true (ap is_some (sym gone ∙ live)))
      by_row (Some row) its =
          let same : row.place ≡ at.header = its.place ∙ ap (λ (o : Option NodeParts). (parts_or_none o).header) stands in
          elim (eqb_tells row.place at.header) [ inl t ↦ t.0 | inr t ↦ absurd (t.1 same) ]

  module _ (parent : ℕ) (row : Row) (found : row_of core.rows.items parent ≡ Some row) (table : ChildTable) (n : NamesTable core.wide (Some image) row.place table) where
    abbrev up : TheNode image tree p parent row.place
    up = the_node image (memory_of core) parent row found tree p m

    abbrev kids : List ℕ
    kids = up.node.children

    pub here : children_at tree parent ≡ kids
    here = ap children_of up.is.live

    says : SaysFields n.header (fields_of up.node up.parts)
    says = header_says image (memory_of core) parent row found tree p m n.header n.read

    held : HoldsNode image tree p up.node up.parts
    held = m.laid_out.nodes parent up.node up.parts up.is.live up.is.stands

    pub count_is : table.count ≡ length kids
    count_is = ap (λ (x : ChildTable). x.count) n.is ∙ says.children

    place_is : (o : Option TablePart) → up.parts.table ≡ o → table.place ≡ unwrap_or (option_map (λ (t : TablePart). t.place) o) 0
    place_is o e =
        ap (λ (x : ChildTable). x.place) n.is
        ∙ placed_at n.header.table _ says.table
        ∙ ap (λ (o : Option TablePart). unwrap_or (option_map (λ (x : TablePart). x.place) o) 0) e

    long_header : (wide : Bool) → 16 ≤ node_length wide
    long_header false = omega arith
    long_header true = omega arith

    pub fits : table.place + 16 + 44 * table.count ≤ length image
    fits = by_table up.parts.table refl
      where
        by_part : (t : TablePart) → HasTable image tree p up.node (Some t) → length kids ≤ t.entries
        by_part t h = h.1

        by_table : (o : Option TablePart) → up.parts.table ≡ o → table.place + 16 + 44 * table.count ≤ length image
        by_table None e =
            let none : kids ≡ [] = subst (λ (o : Option TablePart). HasTable image tree p up.node o) e held.table in
            let place = place_is None e in
            let count = count_is ∙ ap length none in
            let h = header_within image tree p parent up.node up.parts up.is in
            let l = long_header tree.wide in
            omega (arith, place, count, h, l)
        by_table (Some t) e =
            let place = place_is (Some t) e in
            let count = count_is in
            let few : length kids ≤ t.entries = (by_part t (subst (λ (o : Option TablePart). HasTable image tree p up.node o) e held.table)) in
            let ends = table_ends image tree p parent up.node up.parts up.is t e in
            let end = m.laid_out.end in
            omega (arith, place, count, few, ends, end)

    -- a child in the table
    pub record AnEntry (i c : ℕ) : Type 0 where
      pub its : Node
      pub at : NodeParts
      pub is : IsNodeOf image tree p c its at
      pub name : entry_name image table.place i ≡ text_field 32 its.name
      pub points : PointsTo (entry_pointer image table.place i) at.header

    pub entry : (i c : ℕ) → slice_get kids i ≡ Some c → AnEntry i c
    entry i c listed = by_table up.parts.table refl
      where
        by_table : (o : Option TablePart) → up.parts.table ≡ o → AnEntry i c
        by_table None e =
            let none : kids ≡ [] = subst (λ (o : Option TablePart). HasTable image tree p up.node o) e held.table in
            let lt = slice_get_within kids i c listed in
            absurd (omega (arith, lt, ap length none))
        by_table (Some t) e =
            let among : IsAmong (children_at tree parent) c = subst (λ xs. IsAmong xs c) (sym here) (among_get kids i c listed) in
            let live = (m.laid_out.is_tree.live parent c among).0 in
            let its = there (node_at tree c) live in
            let at = there (parts_of p c) (live_parts image tree p m.laid_out c ∙ live) in
            let is : IsNodeOf image tree p c its.0 at.0 = record { laid_out = m.laid_out; live = its.1; stands = at.1 } in
            let says = entries_are_children image tree p parent up.node up.parts t i c its.0 at.0 up.is e listed is in
            let place : table.place ≡ t.place = place_is (Some t) e in
            record {
              its = its.0;
              at = at.0;
              is = is;
              name = subst (λ k. entry_name image k i ≡ text_field 32 its.0.name) (sym place) says.0;
              points = subst (λ k. PointsTo (entry_pointer image k i) at.0.header) (sym place) says.1;
            }

    -- the child that an entry that was read names
    pub entry_child : (i c : ℕ) (listed : slice_get kids i ≡ Some c) (child : ListedChild) → ReadAt (Some image) (table.place + 16 + 44 * i) 44 (λ entry. child_said entry ≡ Some (child_view child)) → (entry i c listed).at.header ≡ child.place
    entry_child i c listed child r =
        let e = entry i c listed in
        let lt = slice_get_within kids i c listed in
        let count = count_is in
        let fit = fits in
        let said = read_is_field image (table.place + 16 + 44 * i) 44 (λ entry. child_said entry ≡ Some (child_view child)) r (omega (arith, lt, count, fit)) in
        let same : entry_pointer image table.place i ≡ field (field image (table.place + 16 + 44 * i) 44) 32 12 =
        sym (inner_field image (table.place + 16 + 44 * i) 44 32 12 (omega arith) ∙ ap (λ k. field image k 12) (omega arith)) in
        sym (ap place_value e.points) ∙ ap place_said same ∙ said_place (field image (table.place + 16 + 44 * i) 44) (child_view child) said

    -- an entry in use names a child
    pub entry_said : (i : ℕ) → i < table.count → ReadAt (Some image) (table.place + 16 + 44 * i) 44 (λ entry. child_said entry ≡ None) → ⊥
    entry_said i lt r =
        let count = count_is in
        let fit = fits in
        let c = get_or kids i 0 in
        let listed : slice_get kids i ≡ Some c = slice_get-get_or kids i 0 (omega (arith, lt, count)) in
        let e = entry i c listed in
        let said = read_is_field image (table.place + 16 + 44 * i) 44 (λ entry. child_said entry ≡ None) r (omega (arith, lt, fit)) in
        let bytes = field image (table.place + 16 + 44 * i) 44 in
        let name : field bytes 0 32 ≡ text_field 32 e.its.name =
        inner_field image (table.place + 16 + 44 * i) 44 0 32 (omega arith) ∙ ap (λ k. field image k 32) (omega arith) ∙ e.name in
        let points : pointer (field bytes 32 12) ≡ Some (To e.at.header) =
        ap pointer (inner_field image (table.place + 16 + 44 * i) 44 32 12 (omega arith) ∙ ap (λ k. field image k 12) (omega arith)) ∙ e.points in
        let fine = (m.laid_out.is_tree.each c e.its e.is.live).named in
        said_none bytes said (ap is_name_field name ∙ ap is_name (name_again e.its.name fine) ∙ fine) (ap is_place_value points)

    module _ (name : List ℕ) where
      name_here : (i c : ℕ) (listed : slice_get kids i ≡ Some c) → name_at tree c ≡ (entry i c listed).its.name
      name_here i c listed = ap name_of (entry i c listed).is.live

      fine_name : (i c : ℕ) (listed : slice_get kids i ≡ Some c) → is_name (entry i c listed).its.name ≡ true
      fine_name i c listed = let e = entry i c listed in (m.laid_out.is_tree.each c e.its e.is.live).named

      module _ (good : is_name name ≡ true) where
        named : (i c : ℕ) → slice_get kids i ≡ Some c → is_wanted_at (Name (text_field 32 name)) image table.place i ≡ bytes_eq (name_at tree c) name
        named i c listed =
            let e = entry i c listed in
            let its = name_here i c listed in
            same_test (bytes_eq (entry_name image table.place i) (text_field 32 name)) (bytes_eq (name_at tree c) name)
            (λ h. (bytes_eq-Decides (name_at tree c) name).1 (its ∙ same_names e.its.name name (fine_name i c listed) good (sym e.name ∙ (bytes_eq-Decides (entry_name image table.place i) (text_field 32 name)).0 h)))
            (λ h. (bytes_eq-Decides (entry_name image table.place i) (text_field 32 name)).1 (e.name ∙ ap (text_field 32) (sym its ∙ (bytes_eq-Decides (name_at tree c) name).0 h)))

        pub none_named : FindsFirst (Some image) table (Name (text_field 32 name)) None → child_named tree parent name ≡ None
        none_named f =
            let count = count_is in
            ap (λ xs. first_named tree xs name) here
            ∙ found_none tree name kids (λ i c listed. let lt = slice_get_within kids i c listed in sym (named i c listed) ∙ f fits i (omega arith) (omega (arith, lt, count)))

        pub one_named : (i : ℕ) (child : ListedChild) (s : ℕ) → FindsFirst (Some image) table (Name (text_field 32 name)) (Some i) → ReadAt (Some image) (table.place + 16 + 44 * i) 44 (λ entry. child_said entry ≡ Some (child_view child))
            → is_placed core.rows.items child.place s ≡ true → child_named tree parent name ≡ Some s
        one_named i child s f r placed =
            let first = f fits in
            let lt : i < table.count = first.1 in
            let count = count_is in
            let c = get_or kids i 0 in
            let listed : slice_get kids i ≡ Some c = slice_get-get_or kids i 0 (omega (arith, lt, count)) in
            let e = entry i c listed in
            let its : s ≡ c = serial_is c e.at s e.is.stands (subst (λ k. is_placed core.rows.items k s ≡ true) (sym (entry_child i c listed child r)) placed) in
            ap (λ xs. first_named tree xs name) here
            ∙ found_at tree name kids i c listed (sym (named i c listed) ∙ first.2) (λ j d less h. sym (named j d h) ∙ first.3 j (omega arith) less)
            ∙ ap (λ k. Some k) (sym its)

    pub one_placed : (i : ℕ) (child : ListedChild) → i < table.count → ReadAt (Some image) (table.place + 16 + 44 * i) 44 (λ entry. child_said entry ≡ Some (child_view child)) → ((s : ℕ) → is_placed core.rows.items child.place s ≡ false) → ⊥
    one_placed i child lt r none =
        let count = count_is in
        let c = get_or kids i 0 in
        let listed : slice_get kids i ≡ Some c = slice_get-get_or kids i 0 (omega (arith, lt, count)) in
        let e = entry i c listed in
        not_true (sym (none c) ∙ subst (λ k. is_placed core.rows.items k c ≡ true) (entry_child i c listed child r) (has_serial c e.its e.at e.is.live e.is.stands))

-- ---- what is told of the child of a name

module _ (core : Core) (parent : ℕ) (name : List ℕ) where
  abbrev pub wanted : Tree → Result (Option ℕ) AdfError
  wanted tree = Ok (child_named tree parent name)

  pub no_parent : (held : Option (List ℕ)) → row_of core.rows.items parent ≡ None → Tells core held wanted (Ok None)
  no_parent None none = tt
  no_parent (Some image) none = λ tree p m. ap (λ o. Ok (first_named tree (children_of o) name)) (no_node image (memory_of core) parent none tree p m)

  module _ (row : Row) (found : row_of core.rows.items parent ≡ Some row) where
    -- no child has what is no name
    pub no_name : (held : Option (List ℕ)) → is_name name ≡ false → Tells core held wanted (Ok None)
    no_name None bad = tt
    no_name (Some image) bad = λ tree p m.
        let up = the_node image (memory_of core) parent row found tree p m in
        let here : children_at tree parent ≡ up.node.children = ap children_of up.is.live in
        ap (λ o. Ok o) (ap (λ xs. first_named tree xs name) here
        ∙ found_none tree name up.node.children (λ i c listed.
        let among : IsAmong (children_at tree parent) c = subst (λ xs. IsAmong xs c) (sym here) (among_get up.node.children i c listed) in
        let its = there (node_at tree c) (m.laid_out.is_tree.live parent c among).0 in
        let fine = (m.laid_out.is_tree.each c its.0 its.1).named in
        false_of (bytes_eq (name_at tree c) name) (λ t.
        let same : name_at tree c ≡ name = (bytes_eq-Decides (name_at tree c) name).0 t in
        not_true (sym bad ∙ ap is_name (sym same ∙ ap name_of its.1) ∙ fine))))

    module _ (table : ChildTable) where
      pub none_told : (held : Option (List ℕ)) → is_name name ≡ true → NamesTable core.wide held row.place table → FindsFirst held table (Name (text_field 32 name)) None → Tells core held wanted (Ok None)
      none_told None good n f = tt
      none_told (Some image) good n f = λ tree p m. ap (λ o. Ok o) (none_named image core tree p m parent row found table n name good f)

      pub one_told : (held : Option (List ℕ)) (i : ℕ) (child : ListedChild) (s : ℕ) → is_name name ≡ true → NamesTable core.wide held row.place table → FindsFirst held table (Name (text_field 32 name)) (Some i)
          → ReadAt held (table.place + 16 + 44 * i) 44 (λ entry. child_said entry ≡ Some (child_view child)) → is_placed core.rows.items child.place s ≡ true → Tells core held wanted (Ok (Some s))
      one_told None i child s good n f r placed = tt
      one_told (Some image) i child s good n f r placed = λ tree p m. ap (λ o. Ok o) (one_named image core tree p m parent row found table n name good i child s f r placed)

      pub unplaced : (held : Option (List ℕ)) (i : ℕ) (child : ListedChild) (e : AdfError) → NamesTable core.wide held row.place table → i < table.count
          → ReadAt held (table.place + 16 + 44 * i) 44 (λ entry. child_said entry ≡ Some (child_view child)) → ((s : ℕ) → is_placed core.rows.items child.place s ≡ false) → Tells core held wanted (Err e)
      unplaced None i child e n lt r none = tt
      unplaced (Some image) i child e n lt r none = λ tree p m. absurd (one_placed image core tree p m parent row found table n i child lt r none)

      pub unsaid : (held : Option (List ℕ)) (i : ℕ) (before now : ℕ) (e : AdfError) → NamesTable core.wide held row.place table → i < table.count
          → IsUnread (λ rule at. (rule ≡ 24) × (at ≡ table.place + 16 + 44 * i) × ReadAt held (table.place + 16 + 44 * i) 44 (λ entry. child_said entry ≡ None)) before now e → Tells core held wanted (Err e)
      unsaid None i before now e n lt c = tt
      unsaid (Some image) i before now error.ReadFault n lt c = λ tree p m. tt
      unsaid (Some image) i before now (error.Layout rule at) n lt c = λ tree p m. absurd (entry_said image core tree p m parent row found table n i lt c.2)
      unsaid (Some image) i before now other n lt c = absurd c

-- ---- facts of bytes that stay

pub moved_first : (told mid : Option (List ℕ)) (table : ChildTable) (t u : List ℕ) (o : Option ℕ) → mid ≡ told → t ≡ u → FindsFirst mid table (Name t) o → FindsFirst told table (Name u) o
moved_first told mid table t u o still same f = subst (λ x. FindsFirst x table (Name u) o) still (subst (λ y. FindsFirst mid table (Name y) o) same f)

pub moved_entry : (told mid : Option (List ℕ)) (at : ℕ) (P : List ℕ → Type 0) → mid ≡ told → ReadAt mid at 44 P → ReadAt told at 44 P
moved_entry told mid at P still r = subst (λ x. ReadAt x at 44 P) still r

pub moved_fault : (told mid : Option (List ℕ)) (at k : ℕ) (before now : ℕ) (e : AdfError) → mid ≡ told → IsUnread (λ rule at'. (rule ≡ 24) × (at' ≡ k) × ReadAt mid at 44 (λ entry. child_said entry ≡ None)) before now e
    → IsUnread (λ rule at'. (rule ≡ 24) × (at' ≡ k) × ReadAt told at 44 (λ entry. child_said entry ≡ None)) before now e
moved_fault told mid at k before now e still c = subst (λ x. IsUnread (λ rule at'. (rule ≡ 24) × (at' ≡ k) × ReadAt x at 44 (λ entry. child_said entry ≡ None)) before now e) still c
