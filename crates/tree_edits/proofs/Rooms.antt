-- Whether a node may get a new child: the tests, and what is refused.
use Rattle.std.proofs.Common.{◌≡◌, inl, inr, ℕ, refl, sym, ◌∙◌, ap, subst, arith, List, [], ◌∷◌, length, ◌^◌, ◌<◌, ◌≤◌, Bool, true, false, not, ◌||◌, Option, None, Some}
use Rattle.std.proofs.lemmas.Bool.Decides.{nat_tests}
use Rattle.std.specs.Prelude.{is_some, nat_le, IfSome, Result, Ok}
use Rattle.adf_format.specs.Fields.{text_field}
use Rattle.adf_format.specs.Names.{is_name, is_label, is_lk}
use Rattle.adf_format.specs.RecordFields.{node_length}
use Rattle.adf_format.specs.Checks.{first_broken}
use Rattle.adf_format.specs.Tree.{Tree, Node, node_at, children_at, depth_of, is_link_in}
use Rattle.adf_format.specs.Placement.{Placement}
use Rattle.adf_model.specs.declared.error.AdfError.{AdfError}
use Rattle.adf_model.specs.declared.error.AdfError.TheVariants as error
use Rattle.adf_model.specs.declared.tree.Edit.{Edit}
use Rattle.adf_model.specs.declared.tree.NodeId.{NodeId}
use Rattle.adf_model.specs.Tests.{checked, first_refusal}
use Rattle.adf_model.specs.Edits.{file_step, has_named, with_new, new_node, serials_used_up}
use Rattle.adf_model.proofs.Following.StepTests.{step_tests}
use Rattle.adf_records.specs.declared.NodeHeader.{NodeHeader}
use Rattle.node_reads.specs.declared.find.Wanted.TheVariants.{Name}
use Rattle.node_reads.specs.declared.header.ChildTable.{ChildTable}
use Rattle.node_reads.specs.Reads.{ReadAt, IsUnread}
use Rattle.node_reads.specs.Headers.{IsHeader, table_rows}
use Rattle.node_reads.proofs.LaidOut.{table_breaks_none}
use Rattle.tree_edits.specs.declared.memory.Core.{Core}
use Rattle.tree_edits.specs.declared.rows.Row.{Row}
use Rattle.tree_edits.specs.Rows.{Means, row_of}
use Rattle.tree_edits.specs.Edits.{memory_of, Refuses}
use Rattle.tree_edits.specs.Listed.{NamesTable, TableBreaks, FindsFirst}
use Rattle.tree_edits.specs.Room.{HasRoom, IsRoomRefusal}
use Rattle.tree_edits.proofs.Nodes.{the_node, its_row, header_says, no_node, no_break}
use Rattle.tree_edits.proofs.Kids.{kids_are, count_is, taken}
use Rattle.tree_edits.proofs.Parents.{none_some}

-- ---- the tests

-- all tests, by what is known of the node and its children
abbrev tested : Tree → NodeId → List ℕ → List ℕ → Bool → Bool → Bool → Bool → Bool → Bool → Bool → Bool → Bool → Result Tree AdfError
tested tree at name label there link writable good fine taken many deep used =
    checked ((not there || false, AdfError.NoSuchNode) ∷ (link, AdfError.LinkMissing) ∷ (not writable, AdfError.ReadOnly) ∷ [])
    (checked ((not good, AdfError.BadName) ∷ (not fine, AdfError.BadLabel) ∷ (taken, AdfError.Duplicate) ∷ (many, AdfError.TooManyChildren) ∷ (deep, AdfError.TooDeep) ∷ (used, AdfError.TooLarge) ∷ [])
    (Ok (with_new tree at.serial (new_node name label))))

known : (tree : Tree) (at : NodeId) (name label : List ℕ) (writable : Bool) {there link w good fine taken many deep used : Bool}
    → (is_some (node_at tree at.serial)) ≡ there → (is_link_in (node_at tree at.serial)) ≡ link → writable ≡ w → (is_name name) ≡ good → (is_label label) ≡ fine → (has_named tree (children_at tree at.serial) name) ≡ taken → (nat_le (2 ^ 20) (length (children_at tree at.serial))) ≡ many → (nat_le 255 (depth_of tree at.serial)) ≡ deep → (serials_used_up tree) ≡ used
    → file_step writable tree (Edit.Create at name label) ≡ tested tree at name label there link w good fine taken many deep used
known tree at name label writable {there} {link} {w} {good} {fine} {taken} {many} {deep} {used} a b c d e f g h i =
    step_tests writable tree (Edit.Create at name label)
    ∙ ap (λ (x : Bool). tested tree at name label x (is_link_in (node_at tree at.serial)) writable (is_name name) (is_label label) (has_named tree (children_at tree at.serial) name) (nat_le (2 ^ 20) (length (children_at tree at.serial))) (nat_le 255 (depth_of tree at.serial)) (serials_used_up tree)) a
    ∙ ap (λ (x : Bool). tested tree at name label there x writable (is_name name) (is_label label) (has_named tree (children_at tree at.serial) name) (nat_le (2 ^ 20) (length (children_at tree at.serial))) (nat_le 255 (depth_of tree at.serial)) (serials_used_up tree)) b
    ∙ ap (λ (x : Bool). tested tree at name label there link x (is_name name) (is_label label) (has_named tree (children_at tree at.serial) name) (nat_le (2 ^ 20) (length (children_at tree at.serial))) (nat_le 255 (depth_of tree at.serial)) (serials_used_up tree)) c
    ∙ ap (λ (x : Bool). tested tree at name label there link w x (is_label label) (has_named tree (children_at tree at.serial) name) (nat_le (2 ^ 20) (length (children_at tree at.serial))) (nat_le 255 (depth_of tree at.serial)) (serials_used_up tree)) d
    ∙ ap (λ (x : Bool). tested tree at name label there link w good x (has_named tree (children_at tree at.serial) name) (nat_le (2 ^ 20) (length (children_at tree at.serial))) (nat_le 255 (depth_of tree at.serial)) (serials_used_up tree)) e
    ∙ ap (λ (x : Bool). tested tree at name label there link w good fine x (nat_le (2 ^ 20) (length (children_at tree at.serial))) (nat_le 255 (depth_of tree at.serial)) (serials_used_up tree)) f
    ∙ ap (λ (x : Bool). tested tree at name label there link w good fine taken x (nat_le 255 (depth_of tree at.serial)) (serials_used_up tree)) g
    ∙ ap (λ (x : Bool). tested tree at name label there link w good fine taken many x (serials_used_up tree)) h
    ∙ ap (λ (x : Bool). tested tree at name label there link w good fine taken many deep x) i

is_le : (a b : ℕ) → a ≤ b → nat_le a b ≡ true
is_le a b le = grind (arith, nat_tests)

is_more : (a b : ℕ) → b < a → nat_le a b ≡ false
is_more a b lt = grind (arith, nat_tests)

-- ---- of bytes that are told

module _ (image : List ℕ) (core : Core) (at : NodeId) (name label : List ℕ) where
  abbrev edit : Edit
  edit = Edit.Create at name label

  no_row : row_of core.rows.items at.serial ≡ None → Refuses edit core AdfError.NoSuchNode image
  no_row none tree p m = known tree at name label core.writable (ap is_some (no_node image (memory_of core) at.serial none tree p m)) refl refl refl refl refl refl refl refl

  module _ (row : Row) (found : row_of core.rows.items at.serial ≡ Some row) where
    fault : Refuses edit core AdfError.ReadFault image
    fault tree p m =
        let n = the_node image (memory_of core) at.serial row found tree p m in
        ap (λ (o : Option Node). first_refusal ((not (is_some o) || false, AdfError.NoSuchNode) ∷ [])) n.is.live

    unbroken : (rule place : ℕ) → TableBreaks core.wide (Some image) row.place rule place → (tree : Tree) (p : Placement) → Means image tree p (memory_of core) → ⊥
    unbroken rule place (inl b) tree p m = no_break image (memory_of core) at.serial row found tree p m rule place b
    unbroken rule place (inr f) tree p m =
        let n = the_node image (memory_of core) at.serial row found tree p m in
        let says = header_says image (memory_of core) at.serial row found tree p m f.header f.read in
        let none = table_breaks_none image tree p at.serial n.node n.parts f.header n.is says in
        none_some _ _ (subst (λ k. first_broken (table_rows f.header k) ≡ None) n.at none) f.fails

    module _ (header : NodeHeader) (r : ReadAt (Some image) row.place (node_length core.wide) (IsHeader core.wide row.place None header)) (link : Bool) (is : is_lk header.kind ≡ link) where
      module _ (tree : Tree) (p : Placement) (m : Means image tree p (memory_of core)) where
        live : is_some (node_at tree at.serial) ≡ true
        live = let n = the_node image (memory_of core) at.serial row found tree p m in ap is_some n.is.live

        link_is : is_link_in (node_at tree at.serial) ≡ link
        link_is =
            let n = the_node image (memory_of core) at.serial row found tree p m in
            let s = header_says image (memory_of core) at.serial row found tree p m header r in
            ap is_link_in n.is.live ∙ sym (ap is_lk s.kind) ∙ is

      is_a_link : link ≡ true → Refuses edit core AdfError.LinkMissing image
      is_a_link e tree p m = known tree at name label core.writable (live tree p m) (link_is tree p m ∙ e) refl refl refl refl refl refl refl

      module _ (none : link ≡ false) where
        is_read_only : core.writable ≡ false → Refuses edit core AdfError.ReadOnly image
        is_read_only may tree p m = known tree at name label core.writable (live tree p m) (link_is tree p m ∙ none) may refl refl refl refl refl refl

        module _ (may : core.writable ≡ true) where
          is_no_name : is_name name ≡ false → Refuses edit core AdfError.BadName image
          is_no_name bad tree p m = known tree at name label core.writable (live tree p m) (link_is tree p m ∙ none) may bad refl refl refl refl refl

          module _ (good : is_name name ≡ true) where
            is_no_label : is_label label ≡ false → Refuses edit core AdfError.BadLabel image
            is_no_label bad tree p m = known tree at name label core.writable (live tree p m) (link_is tree p m ∙ none) may good bad refl refl refl refl

            module _ (fine : is_label label ≡ true) (table : ChildTable) (named_by : NamesTable core.wide (Some image) row.place table) where
              is_taken : (i : ℕ) → FindsFirst (Some image) table (Name (text_field 32 name)) (Some i) → Refuses edit core AdfError.Duplicate image
              is_taken i first tree p m = known tree at name label core.writable (live tree p m) (link_is tree p m ∙ none) may good fine (taken image core at.serial row found tree p m table named_by name good (Some i) first) refl refl refl

              module _ (first : FindsFirst (Some image) table (Name (text_field 32 name)) None) where
                module _ (tree : Tree) (p : Placement) (m : Means image tree p (memory_of core)) where
                  count : length (children_at tree at.serial) ≡ table.count
                  count = ap length (kids_are image core at.serial row found tree p m table named_by) ∙ sym (count_is image core at.serial row found tree p m table named_by)

                  depth : depth_of tree at.serial ≡ row.depth
                  depth = let its = its_row image (memory_of core) at.serial row found tree p m in sym its.depth

                  decided : {many deep used : Bool} → nat_le (2 ^ 20) table.count ≡ many → nat_le 255 row.depth ≡ deep → nat_le (2 ^ 48) (length core.rows.items) ≡ used
                      → file_step core.writable tree edit ≡ tested tree at name label true false true true true false many deep used
                  decided a b c =
                      known tree at name label core.writable (live tree p m) (link_is tree p m ∙ none) may good fine (taken image core at.serial row found tree p m table named_by name good None first)
                      (ap (nat_le (2 ^ 20)) count ∙ a) (ap (nat_le 255) depth ∙ b) (ap (nat_le (2 ^ 48)) (sym m.table.count) ∙ c)

                pub allowed : HasRoom table.count row.depth (length core.rows.items) → (tree : Tree) (p : Placement) → Means image tree p (memory_of core) → file_step core.writable tree edit ≡ Ok (with_new tree at.serial (new_node name label))
                allowed room tree p m = decided tree p m (is_more (2 ^ 20) table.count room.few) (is_more 255 row.depth room.shallow) (is_more (2 ^ 48) (length core.rows.items) room.left)

                lacks : (e : AdfError) → IsRoomRefusal table.count row.depth (length core.rows.items) e → Refuses edit core e image
                lacks error.TooManyChildren h = λ tree p m. decided tree p m (is_le (2 ^ 20) table.count h) refl refl
                lacks error.TooDeep h = λ tree p m. decided tree p m (is_more (2 ^ 20) table.count h.0) (is_le 255 row.depth h.1) refl
                lacks error.TooLarge h = λ tree p m. decided tree p m (is_more (2 ^ 20) table.count h.0) (is_more 255 row.depth h.1) (is_le (2 ^ 48) (length core.rows.items) h.2)
                lacks other h = absurd h

-- ---- of bytes that may be told

module _ (core : Core) (at : NodeId) (name label : List ℕ) where
  abbrev RefusedIn : AdfError → Option (List ℕ) → Type 0
  RefusedIn e held = IfSome held (Refuses (Edit.Create at name label) core e)

  pub refused_none : (held : Option (List ℕ)) → row_of core.rows.items at.serial ≡ None → RefusedIn AdfError.NoSuchNode held
  refused_none None none = tt
  refused_none (Some image) none = no_row image core at name label none

  module _ (row : Row) (found : row_of core.rows.items at.serial ≡ Some row) where
    pub refused_fault : (held : Option (List ℕ)) → RefusedIn AdfError.ReadFault held
    refused_fault None = tt
    refused_fault (Some image) = fault image core at name label row found

    pub refused_unread : (held : Option (List ℕ)) (before now : ℕ) (e : AdfError) → IsUnread (TableBreaks core.wide held row.place) before now e → RefusedIn e held
    refused_unread None before now e h = tt
    refused_unread (Some image) before now error.ReadFault h = fault image core at name label row found
    refused_unread (Some image) before now (error.Layout rule place) h = λ tree p m. absurd (unbroken image core at name label row found rule place h tree p m)
    refused_unread (Some image) before now other h = absurd h

    module _ (header : NodeHeader) (link : Bool) (is : is_lk header.kind ≡ link) where
      pub refused_link : (held : Option (List ℕ)) → ReadAt held row.place (node_length core.wide) (IsHeader core.wide row.place None header) → link ≡ true → RefusedIn AdfError.LinkMissing held
      refused_link None r e = tt
      refused_link (Some image) r e = is_a_link image core at name label row found header r link is e

      pub refused_read_only : (held : Option (List ℕ)) → ReadAt held row.place (node_length core.wide) (IsHeader core.wide row.place None header) → link ≡ false → core.writable ≡ false → RefusedIn AdfError.ReadOnly held
      refused_read_only None r e f = tt
      refused_read_only (Some image) r e f = is_read_only image core at name label row found header r link is e f

      module _ (none : link ≡ false) (may : core.writable ≡ true) where
        pub refused_name : (held : Option (List ℕ)) → ReadAt held row.place (node_length core.wide) (IsHeader core.wide row.place None header) → is_name name ≡ false → RefusedIn AdfError.BadName held
        refused_name None r bad = tt
        refused_name (Some image) r bad = is_no_name image core at name label row found header r link is none may bad

        module _ (good : is_name name ≡ true) where
          pub refused_label : (held : Option (List ℕ)) → ReadAt held row.place (node_length core.wide) (IsHeader core.wide row.place None header) → is_label label ≡ false → RefusedIn AdfError.BadLabel held
          refused_label None r bad = tt
          refused_label (Some image) r bad = is_no_label image core at name label row found header r link is none may good bad

          module _ (fine : is_label label ≡ true) (table : ChildTable) where
            pub refused_taken : (held : Option (List ℕ)) → ReadAt held row.place (node_length core.wide) (IsHeader core.wide row.place None header) → NamesTable core.wide held row.place table → (i : ℕ) → FindsFirst held table (Name (text_field 32 name)) (Some i)
                → RefusedIn AdfError.Duplicate held
            refused_taken None r n i first = tt
            refused_taken (Some image) r n i first = is_taken image core at name label row found header r link is none may good fine table n i first

            pub refused_room : (held : Option (List ℕ)) → ReadAt held row.place (node_length core.wide) (IsHeader core.wide row.place None header) → NamesTable core.wide held row.place table → FindsFirst held table (Name (text_field 32 name)) None → (e : AdfError)
                → IsRoomRefusal table.count row.depth (length core.rows.items) e → RefusedIn e held
            refused_room None r n first e h = tt
            refused_room (Some image) r n first e h = lacks image core at name label row found header r link is none may good fine table n first e h
