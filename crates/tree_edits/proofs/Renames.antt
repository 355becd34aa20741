-- Names that are written, and the refusals of names.
use Rattle.std.proofs.Common.{◌≡◌, ◌⊎◌, inl, inr, ℕ, refl, sym, ◌∙◌, ap, subst, arith, List, [], ◌∷◌, ◌+◌, ◌*◌, ◌<◌, ◌≤◌, Bool, true, false, not, ◌||◌, Option, None, Some}
use Rattle.std.proofs.lemmas.Option.{slice_get_within}
use Rattle.std.proofs.lemmas.Result.{on_ok_weaker, IfErr-weaker}
use Rattle.std.specs.Prelude.{is_some, slice_get, IfSome, Result, Ok, OnOk, IfErr}
use Rattle.cg_io.specs.Blocks.{Both}
use Rattle.cg_io.specs.Answers.{IsRefusal, Then}
use Rattle.adf_format.specs.declared.types.Extent.{Extent}
use Rattle.adf_format.specs.declared.types.ExtentKind.{ExtentKind}
use Rattle.adf_format.specs.Fields.{text_field}
use Rattle.adf_format.specs.Names.{is_name}
use Rattle.adf_format.specs.Pointer.{To}
use Rattle.adf_format.specs.Records.{entry_text}
use Rattle.adf_format.specs.Tiles.{cover}
use Rattle.adf_format.specs.Tree.{Tree, Node, node_at, parent_of}
use Rattle.adf_format.specs.Placement.{Placement, TablePart, extent, live_extents}
use Rattle.adf_model.specs.declared.error.AdfError.{AdfError}
use Rattle.adf_model.specs.declared.error.AdfError.TheVariants as error
use Rattle.adf_model.specs.declared.tree.Edit.{Edit}
use Rattle.adf_model.specs.declared.tree.NodeId.{NodeId}
use Rattle.adf_model.specs.Tests.{checked, if_there, first_refusal}
use Rattle.adf_model.specs.Edits.{file_step, with_node, has_named, other_children}
use Rattle.adf_model.proofs.Basics.{same_Some}
use Rattle.adf_model.proofs.Following.StepTests.{step_tests}
use Rattle.adf_model.proofs.Writes.Reaches.{less_or}
use Rattle.node_reads.specs.Reads.{IsUnread}
use Rattle.node_reads.specs.declared.find.Wanted.TheVariants.{Name}
use Rattle.tree_laws.specs.MidEdit.{Puts}
use Rattle.tree_laws.specs.Spared.{IsEditWhole}
use Rattle.tree_laws.proofs.Whole.Texts.{rename_is_whole, puts_two}
use Rattle.tree_edits.specs.declared.listed.Listed.{Listed}
use Rattle.tree_edits.specs.declared.rows.Row.{Row}
use Rattle.tree_edits.specs.declared.memory.Core.{Core}
use Rattle.tree_edits.specs.Rows.{Means, row_of}
use Rattle.tree_edits.specs.Edits.{memory_of, Does, Refuses}
use Rattle.tree_edits.specs.Listed.{IsListed, IsUnlisted, NamesNone, FindsFirst, is_another}
use Rattle.tree_edits.proofs.Tables.{table_stays}
use Rattle.tree_edits.proofs.Nodes.{TheNode, the_node, its_row, no_node}
use Rattle.tree_edits.proofs.Stays.{threads_stay, header_own, entry_own}
use Rattle.tree_edits.proofs.Parents.{the_child, over, has_row, up, here, unbroken, the_table, entry, place_is, position, none_listed, taken}

-- ---- the tests

abbrev named : Tree → NodeId → List ℕ → Node → Tree
named tree at name node = with_node tree at.serial (record node { name = name })

-- all tests at a node that is there or is not, and a parent or none
abbrev tested : Tree → NodeId → List ℕ → Bool → Option Node → Option ℕ → Bool → Result Tree AdfError
tested tree at name writable o par good =
    checked ((not (is_some o) || false, AdfError.NoSuchNode) ∷ (false, AdfError.LinkMissing) ∷ (not writable, AdfError.ReadOnly) ∷ [])
    (if_there par AdfError.NotAChild (λ from.
    checked ((not good, AdfError.BadName) ∷ (has_named tree (other_children tree from at.serial) name, AdfError.Duplicate) ∷ [])
    (if_there o AdfError.NoSuchNode (λ n. Ok (named tree at name n)))))

step_is : (tree : Tree) (at : NodeId) (name : List ℕ) (writable w : Bool) (o : Option Node) (par : Option ℕ) (g : Bool) → node_at tree at.serial ≡ o → parent_of tree at.serial ≡ par → writable ≡ w → is_name name ≡ g
    → file_step writable tree (Edit.Rename at name) ≡ tested tree at name w o par g
step_is tree at name writable w o par g here over may test =
    step_tests writable tree (Edit.Rename at name)
    ∙ ap (λ (x : Option Node). tested tree at name writable x (parent_of tree at.serial) (is_name name)) here
    ∙ ap (λ (x : Option ℕ). tested tree at name writable o x (is_name name)) over
    ∙ ap (λ x. tested tree at name x o par (is_name name)) may ∙ ap (tested tree at name w o par) test

-- ... of a child, where the file may be written and it is a name
abbrev at_child : Tree → NodeId → List ℕ → Node → Bool → Result Tree AdfError
at_child tree at name node another = checked ((another, AdfError.Duplicate) ∷ []) (Ok (named tree at name node))

-- ---- of bytes that are told

module _ (image : List ℕ) (core : Core) (node : NodeId) (name : List ℕ) where
  abbrev edit : Edit
  edit = Edit.Rename node name

  no_row : row_of core.rows.items node.serial ≡ None → Refuses edit core AdfError.NoSuchNode image
  no_row none tree p m = step_is tree node name core.writable core.writable None (parent_of tree node.serial) (is_name name) (no_node image (memory_of core) node.serial none tree p m) refl refl refl

  module _ (row : Row) (found : row_of core.rows.items node.serial ≡ Some row) where
    fault : Refuses edit core AdfError.ReadFault image
    fault tree p m =
        let n = the_node image (memory_of core) node.serial row found tree p m in
        ap (λ (o : Option Node). first_refusal ((not (is_some o) || false, AdfError.NoSuchNode) ∷ [])) n.is.live

    is_read_only : core.writable ≡ false → Refuses edit core AdfError.ReadOnly image
    is_read_only may tree p m =
        let n = the_node image (memory_of core) node.serial row found tree p m in
        step_is tree node name core.writable false (Some n.node) (parent_of tree node.serial) (is_name name) n.is.live refl may refl

    is_root : core.writable ≡ true → row.parent ≡ None → Refuses edit core AdfError.NotAChild image
    is_root may none tree p m =
        let n = the_node image (memory_of core) node.serial row found tree p m in
        let its = its_row image (memory_of core) node.serial row found tree p m in
        step_is tree node name core.writable true (Some n.node) None (is_name name) n.is.live (sym its.parent ∙ none) may refl

    module _ (parent : ℕ) (above : row.parent ≡ Some parent) (may : core.writable ≡ true) where
      is_no_name : is_name name ≡ false → Refuses edit core AdfError.BadName image
      is_no_name bad tree p m =
          let n = the_node image (memory_of core) node.serial row found tree p m in
          step_is tree node name core.writable true (Some n.node) (Some parent) false n.is.live (over image core node.serial row found parent above tree p m) may bad

      unlisted : (rule at : ℕ) → IsUnlisted core (Some image) row.place parent rule at → (tree : Tree) (p : Placement) → Means image tree p (memory_of core) → ⊥
      unlisted rule at (inl b) tree p m = unbroken image core node.serial row found parent above tree p m b.above b.found rule at b.breaks
      unlisted rule at (inr n) tree p m = named_none n.2
        where
          named_none : NamesNone core (Some image) row.place parent → ⊥
          named_none (inl none) = has_row image core node.serial row found parent above tree p m none
          named_none (inr t) = none_listed image core node.serial row found parent above tree p m t.1.above t.1.found t.0 t.1.named t.2

      module _ (good : is_name name ≡ true) (listed : Listed) (l : IsListed core (Some image) row.place parent listed) (o : Option ℕ) (first : FindsFirst (Some image) listed.table (Name (text_field 32 name)) o) where
        module _ (tree : Tree) (p : Placement) (m : Means image tree p (memory_of core)) where
          abbrev child : TheNode image tree p node.serial row.place
          child = the_child image core node.serial row found parent above tree p m

          at : slice_get (up image core node.serial row found parent above tree p m l.table.above l.table.found).node.children listed.position ≡ Some node.serial
          at = position image core node.serial row found parent above tree p m l.table.above l.table.found listed.table l.table.named listed.position l.first

          decided : (another : Bool) → is_another o listed.position ≡ another → file_step core.writable tree edit ≡ at_child tree node name child.node another
          decided another is =
              step_is tree node name core.writable true (Some child.node) (Some parent) true child.is.live (over image core node.serial row found parent above tree p m) may good
              ∙ ap (at_child tree node name child.node)
              (taken image core node.serial row found parent above tree p m l.table.above l.table.found listed.table l.table.named name good listed.position o at first ∙ is)

          module _ (new : List ℕ) (free : is_another o listed.position ≡ false)
              (w : Then (Puts ExtentKind.Node (row.place + 4) 32 (text_field 32 name)) (Puts ExtentKind.SubNodes (listed.table.place + 16 + 44 * listed.position) 44 (entry_text (text_field 32 name) (To row.place))) image new) where
            abbrev t : TablePart
            t = (the_table image core node.serial row found parent above tree p m l.table.above l.table.found).0

            same : listed.table.place ≡ t.place
            same = place_is image core node.serial row found parent above tree p m l.table.above l.table.found listed.table l.table.named

            in_header : Puts ExtentKind.Node (child.parts.header + 4) 32 (text_field 32 name) image w.0
            in_header = subst (λ k. Puts ExtentKind.Node (k + 4) 32 (text_field 32 name) image w.0) (sym child.at) w.1

            in_entry : Puts ExtentKind.SubNodes (t.place + 16 + 44 * listed.position) 44 (entry_text (text_field 32 name) (To child.parts.header)) w.0 new
            in_entry =
                subst (λ k. Puts ExtentKind.SubNodes (t.place + 16 + 44 * listed.position) 44 (entry_text (text_field 32 name) (To k)) w.0 new) (sym child.at)
                (subst (λ k. Puts ExtentKind.SubNodes (k + 16 + 44 * listed.position) 44 (entry_text (text_field 32 name) (To row.place)) w.0 new) same w.2)

            abbrev above_is : TheNode image tree p parent l.table.above.place
            above_is = up image core node.serial row found parent above tree p m l.table.above l.table.found

            whole : IsEditWhole core.heap.limit core.writable edit tree p (named tree node name child.node) p image new
            whole =
                rename_is_whole core.heap.limit core.writable image w.0 new tree (named tree node name child.node) p node name parent listed.position child.parts above_is.parts t m.laid_out (decided false free)
                (over image core node.serial row found parent above tree p m)
                (subst (λ xs. slice_get xs listed.position ≡ Some node.serial) (sym (here image core node.serial row found parent above tree p m l.table.above l.table.found)) at)
                child.is.stands above_is.is.stands (the_table image core node.serial row found parent above tree p m l.table.above l.table.found).1 in_header in_entry

            abbrev ranges : List Extent
            ranges = extent ExtentKind.Node (child.parts.header + 4) 32 ∷ extent ExtentKind.SubNodes (t.place + 16 + 44 * listed.position) 44 ∷ []

            few : listed.position < t.entries
            few =
                let e = entry image core node.serial row found parent above tree p m l.table.above l.table.found listed.position node.serial at in
                let lt = slice_get_within above_is.node.children listed.position node.serial at in
                let k = e.few in omega (arith, lt, k)

            own : (b : ℕ) → 0 < cover ranges b → 0 < cover (live_extents tree.wide p) b
            own b some = by_range (less_or 0 (cover (extent ExtentKind.Node (child.parts.header + 4) 32 ∷ []) b))
              where
                by_range : (0 < cover (extent ExtentKind.Node (child.parts.header + 4) 32 ∷ []) b) ⊎ (cover (extent ExtentKind.Node (child.parts.header + 4) 32 ∷ []) b ≤ 0) → 0 < cover (live_extents tree.wide p) b
                by_range (inl one) = header_own image tree p node.serial child.parts m.laid_out child.is.stands child.parts.header refl 4 32 (omega arith) b one
                by_range (inr none) =
                    entry_own image tree p parent above_is.parts m.laid_out above_is.is.stands t (the_table image core node.serial row found parent above tree p m l.table.above l.table.found).1 listed.position few b (omega (arith, some, none))

        refused : is_another o listed.position ≡ true → Refuses edit core AdfError.Duplicate image
        refused is tree p m = decided tree p m true is

        does : (new : List ℕ) → is_another o listed.position ≡ false
            → Then (Puts ExtentKind.Node (row.place + 4) 32 (text_field 32 name)) (Puts ExtentKind.SubNodes (listed.table.place + 16 + 44 * listed.position) 44 (entry_text (text_field 32 name) (To row.place))) image new
            → Does edit core core image new
        does new free w tree p m =
            let is = whole tree p m new free w in
            let n = child tree p m in
            record {
              after = named tree node name n.node;
              placement = p;
              whole = is;
              means = record {
                laid_out = is.laid_out;
                wide = m.wide;
                table = table_stays tree p node.serial n.node (record n.node { name = name }) n.is.live refl core.rows.items m.table;
                heap = m.heap;
                threads = threads_stay image image new tree p m.laid_out (ranges tree p m new free w) (own tree p m new free w) core.heap.work m.heap (puts_two (in_header tree p m new free w) (in_entry tree p m new free w)) m.threads;
              };
            }

-- ---- of bytes that may be told

module _ (core : Core) (node : NodeId) (name : List ℕ) where
  for_all : (e : AdfError) → ((image : List ℕ) → Refuses (Edit.Rename node name) core e image) → (held : Option (List ℕ)) → IfSome held (Refuses (Edit.Rename node name) core e)
  for_all e all None = tt
  for_all e all (Some image) = all image

  pub refused_none : (held : Option (List ℕ)) → row_of core.rows.items node.serial ≡ None → IfSome held (Refuses (Edit.Rename node name) core AdfError.NoSuchNode)
  refused_none held none = for_all AdfError.NoSuchNode (λ image. no_row image core node name none) held

  module _ (row : Row) (found : row_of core.rows.items node.serial ≡ Some row) where
    pub refused_read_only : (held : Option (List ℕ)) → core.writable ≡ false → IfSome held (Refuses (Edit.Rename node name) core AdfError.ReadOnly)
    refused_read_only held may = for_all AdfError.ReadOnly (λ image. is_read_only image core node name row found may) held

    pub refused_root : (held : Option (List ℕ)) → core.writable ≡ true → row.parent ≡ None → IfSome held (Refuses (Edit.Rename node name) core AdfError.NotAChild)
    refused_root held may none = for_all AdfError.NotAChild (λ image. is_root image core node name row found may none) held

    pub refused_fault : (held : Option (List ℕ)) → IfSome held (Refuses (Edit.Rename node name) core AdfError.ReadFault)
    refused_fault held = for_all AdfError.ReadFault (λ image. fault image core node name row found) held

    refused_for : (held : Option (List ℕ)) (before now : ℕ) (e : AdfError) → IsRefusal ⊥ before now e → IfSome held (Refuses (Edit.Rename node name) core e)
    refused_for held before now error.Memory h = for_all AdfError.Memory (λ image tree p m. tt) held
    refused_for held before now error.ReadFault h = refused_fault held
    refused_for held before now (error.Layout rule place) h = absurd h.1
    refused_for held before now other h = absurd h

    pub refused_write : {T : Type 0} (r : Result T AdfError) (held : Option (List ℕ)) (before now : ℕ) → IfErr r (IsRefusal ⊥ before now) → IfErr r (λ e. IfSome held (Refuses (Edit.Rename node name) core e))
    refused_write r held before now h = IfErr-weaker r (IsRefusal ⊥ before now) _ (λ e c. refused_for held before now e c) h

    module _ (parent : ℕ) (above : row.parent ≡ Some parent) (may : core.writable ≡ true) where
      pub refused_name : (held : Option (List ℕ)) → is_name name ≡ false → IfSome held (Refuses (Edit.Rename node name) core AdfError.BadName)
      refused_name held bad = for_all AdfError.BadName (λ image. is_no_name image core node name row found parent above may bad) held

      pub refused_unlisted : (held : Option (List ℕ)) (before now : ℕ) (e : AdfError) → IsUnread (IsUnlisted core held row.place parent) before now e → IfSome held (Refuses (Edit.Rename node name) core e)
      refused_unlisted None before now e h = tt
      refused_unlisted (Some image) before now error.ReadFault h = fault image core node name row found
      refused_unlisted (Some image) before now (error.Layout rule at) h = λ tree p m. absurd (unlisted image core node name row found parent above may rule at h tree p m)
      refused_unlisted (Some image) before now other h = absurd h

      module _ (good : is_name name ≡ true) (listed : Listed) (o : Option ℕ) where
        pub refused_taken : (held : Option (List ℕ)) → IsListed core held row.place parent listed → FindsFirst held listed.table (Name (text_field 32 name)) o → is_another o listed.position ≡ true
            → IfSome held (Refuses (Edit.Rename node name) core AdfError.Duplicate)
        refused_taken None l first is = tt
        refused_taken (Some image) l first is = refused image core node name row found parent above may good listed l o first is

        pub done : {T E : Type 0} (r : Result T E) (held last new : Option (List ℕ)) (text : List ℕ) (at : ℕ) → IsListed core held row.place parent listed → FindsFirst held listed.table (Name (text_field 32 name)) o → is_another o listed.position ≡ false
            → text ≡ text_field 32 name → at ≡ listed.table.place + 16 + 44 * listed.position → last ≡ held
            → OnOk r (Both (Then (Puts ExtentKind.Node (row.place + 4) 32 text) (Puts ExtentKind.SubNodes at 44 (entry_text text (To row.place)))) last new)
            → OnOk r (Both (Does (Edit.Rename node name) core core) held new)
        done r held last new text at l first free same where_at still wrote = on_ok_weaker r (by_held held last new l first still) wrote
          where
            by_held : (held last new : Option (List ℕ)) → IsListed core held row.place parent listed → FindsFirst held listed.table (Name (text_field 32 name)) o → last ≡ held
                → Both (Then (Puts ExtentKind.Node (row.place + 4) 32 text) (Puts ExtentKind.SubNodes at 44 (entry_text text (To row.place)))) last new → Both (Does (Edit.Rename node name) core core) held new
            by_held None None None l first still w = tt
            by_held None None (Some new) l first still w = w
            by_held None (Some last) new l first still w = cc
            by_held (Some old) None new l first still w = cc
            by_held (Some old) (Some last) None l first still w = w
            by_held (Some old) (Some last) (Some new) l first still w =
                does old core node name row found parent above may good listed l o first new free
                (subst (λ (x : List ℕ). Then (Puts ExtentKind.Node (row.place + 4) 32 (text_field 32 name)) (Puts ExtentKind.SubNodes (listed.table.place + 16 + 44 * listed.position) 44 (entry_text (text_field 32 name) (To row.place))) x new) (same_Some last old still)
                (subst (λ t. Then (Puts ExtentKind.Node (row.place + 4) 32 t) (Puts ExtentKind.SubNodes (listed.table.place + 16 + 44 * listed.position) 44 (entry_text t (To row.place))) last new) same
                (subst (λ k. Then (Puts ExtentKind.Node (row.place + 4) 32 text) (Puts ExtentKind.SubNodes k 44 (entry_text text (To row.place))) last new) where_at w)))
