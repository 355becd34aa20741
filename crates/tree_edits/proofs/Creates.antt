-- A new child: what is written makes the edit, of each tree and placement that the bytes and the memory mean.
use Rattle.std.proofs.Common.{◌≡◌, ◌⊎◌, inl, inr, ℕ, suc, refl, sym, ◌∙◌, ap, subst, arith, List, [], ◌∷◌, ◌++◌, length, ◌+◌, ◌*◌, ◌^◌, ◌<◌, ◌≤◌, Bool, false, Option, None, Some}
use Rattle.std.specs.Prelude.{Ok}
use Rattle.adf_format.specs.declared.types.Extent.{Extent}
use Rattle.adf_format.specs.declared.types.ExtentKind.{ExtentKind}
use Rattle.adf_format.specs.Changes.{heap_fields}
use Rattle.adf_format.specs.HeapBytes.{ChangesOnly, MovesEnd, KeepsFillers}
use Rattle.adf_format.specs.Fields.{text_field}
use Rattle.adf_format.specs.Hex.{hex_text}
use Rattle.adf_format.specs.Pointer.{To}
use Rattle.adf_format.specs.Records.{node_text, entry_text}
use Rattle.adf_format.specs.RecordFields.{node_length}
use Rattle.adf_format.specs.Tiles.{Tiles, cover}
use Rattle.adf_format.specs.Tree.{Tree, next_serial, children_at, depth_of}
use Rattle.adf_format.specs.Placement.{Placement, NodeParts, TablePart, Heap, extent, parts_of, live_extents}
use Rattle.adf_format.specs.LaysOut.{entry_count}
use Rattle.adf_format.specs.HeapRule.{heap_take, parts_at, parts_or_none, no_parts, with_new_parts}
use Rattle.adf_model.specs.declared.tree.Edit.{Edit}
use Rattle.adf_model.specs.declared.tree.NodeId.{NodeId}
use Rattle.adf_model.specs.Creation.{empty_node}
use Rattle.adf_model.specs.Edits.{file_step, with_new, new_node}
use Rattle.adf_model.proofs.Creation.CreatedNodes.{there_inside}
use Rattle.adf_model.proofs.Writes.Reaches.{less_or}
use Rattle.file_heap.specs.Heap.{FreeSpace, IsThreaded}
use Rattle.file_heap.proofs.Chunks.{threads_chunks}
use Rattle.tree_laws.specs.MidEdit.{IsMidEdit, Puts}
use Rattle.tree_laws.specs.Spared.{IsEditWhole}
use Rattle.tree_laws.specs.TreeFacts.{IsJoined}
use Rattle.tree_laws.specs.WholeEdits.{entry_ranges}
use Rattle.tree_laws.proofs.Edits.EditsPlaced.{front_get, as_many}
use Rattle.tree_laws.proofs.Facts.JoinedTree.{joined_in_its_tree}
use Rattle.tree_laws.proofs.Groups.GroupsGrow.{step_reaches}
use Rattle.tree_laws.proofs.Whole.Mid.{mid_begins, mid_takes, mid_writes}
use Rattle.tree_laws.proofs.Whole.Creates.{create_is_whole}
use Rattle.tree_laws.proofs.Whole.Texts.{puts_two}
use Rattle.tree_edits.specs.declared.memory.Core.{Core}
use Rattle.tree_edits.specs.declared.room.Parent.{Parent}
use Rattle.tree_edits.specs.declared.rows.Row.{Row}
use Rattle.tree_edits.specs.Rows.{Means, IsTable}
use Rattle.tree_edits.specs.Edits.{memory_of, Follows}
use Rattle.tree_edits.specs.Room.{MayCreate}
use Rattle.tree_edits.specs.Taken.{FillsWith, TakesText}
use Rattle.tree_edits.specs.Joined.{JoinsUnused}
use Rattle.tree_edits.proofs.Nodes.{TheNode, the_node, its_row}
use Rattle.tree_edits.proofs.Kids.{kids_are, count_is, entries_are, place_is}
use Rattle.tree_edits.proofs.Rooms.{allowed}
use Rattle.tree_edits.proofs.Ready.{grows}
use Rattle.tree_edits.proofs.Stays.{threads_stay, header_own, entry_own}
use Rattle.tree_edits.proofs.JoinedRows.{table_joined}

-- ---- room is taken and a text is written in it, in the midst of an edit

pub mid_text : (ranges : List Extent) (p q : Placement) (old b c : List ℕ) (tree now : Tree) (taken : List Extent) (limit n place : ℕ) (text : List ℕ) (was is : FreeSpace) → q.heap ≡ was.heap → IsMidEdit ranges p old now q taken b
    → TakesText limit n place text was is b c → IsMidEdit ranges p old now (record q { heap = is.heap }) (extent ExtentKind.Node place n ∷ taken) c
mid_text ranges p q old b c tree now taken limit n place text was is same u t =
    mid_writes ranges p old now (record q { heap = is.heap }) (extent ExtentKind.Node place n ∷ taken) (extent ExtentKind.Node place n ∷ []) t.0 c
    (mid_takes ranges p old now q taken b t.0 is.heap ExtentKind.Node place n u
    (subst (λ (h : Heap). ChangesOnly (heap_fields ++ h.gaps) b t.0) (sym same) t.1.changes)
    (λ used tiles. t.1.tiles ExtentKind.Node used (subst (λ (h : Heap). Tiles (used ++ h.gaps) h.end) same tiles))
    t.1.order
    (subst (λ (h : Heap). MovesEnd h.end is.heap.end b t.0) (sym same) t.1.end)
    (subst (λ (h : Heap). KeepsFillers h.gaps is.heap.gaps b t.0) (sym same) t.1.fillers)
    (threads_chunks is t.0 t.1.threads)
    (subst (λ (h : Heap). h.end ≤ is.heap.end) (sym same) (grows limit n place was is b t.0 t.1)))
    t.2.only (λ k some. omega (arith, some))

-- ---- of bytes that are told

module _ (image : List ℕ) (core : Core) (at : NodeId) (name label : List ℕ) (parent : Parent) (may : MayCreate core at name label (Some image) parent) (tree : Tree) (p : Placement) (m : Means image tree p (memory_of core)) where
  abbrev pub edit : Edit
  edit = Edit.Create at name label

  abbrev pub row : Row
  row = parent.row

  abbrev pub up : TheNode image tree p at.serial row.place
  up = the_node image (memory_of core) at.serial row may.asked.may.node.found tree p m

  abbrev pub kids : List ℕ
  kids = children_at tree at.serial

  pub count : parent.table.count ≡ length kids
  count =
      count_is image core at.serial row may.asked.may.node.found tree p m parent.table may.asked.named_by
      ∙ sym (ap length (kids_are image core at.serial row may.asked.may.node.found tree p m parent.table may.asked.named_by))

  pub entries : parent.table.entries ≡ entry_count up.parts.table
  entries = entries_are image core at.serial row may.asked.may.node.found tree p m parent.table may.asked.named_by

  pub table_at : (t : TablePart) → up.parts.table ≡ Some t → parent.table.place ≡ t.place
  table_at t has = place_is image core at.serial row may.asked.may.node.found tree p m parent.table may.asked.named_by (Some t) has

  abbrev pub after : Tree
  after = with_new tree at.serial (new_node name label)

  pub made : file_step core.writable tree edit ≡ Ok after
  made =
      allowed image core at name label row may.asked.may.node.found may.asked.may.node.header may.asked.may.node.read false may.asked.may.node.kind refl may.asked.may.allowed may.asked.may.named may.asked.may.labelled parent.table may.asked.named_by may.asked.first may.room tree p m

  pub joined : IsJoined tree after at.serial (new_node name label)
  joined = let s = step_reaches core.writable tree after edit made in joined_in_its_tree tree after edit at.serial (new_node name label) m.laid_out.is_tree s.0 refl s.1

  pub depth : row.depth ≡ depth_of tree at.serial
  depth = let its = its_row image (memory_of core) at.serial row may.asked.may.node.found tree p m in its.depth

  pub drawn : length p.parts ≡ next_serial tree
  drawn = as_many tree p m.laid_out.same_nodes

  pub inside : at.serial < length p.parts
  inside = there_inside p.parts at.serial up.parts up.is.stands

  -- the header stands
  module _ (place : ℕ) (now : FreeSpace) (a : List ℕ) (t : TakesText core.heap.limit (node_length core.wide) place (node_text (empty_node core.wide name label)) core.heap.work now image a) where
    pub taken : heap_take core.heap.limit (node_length tree.wide) p.heap ≡ Ok (place, now.heap)
    taken =
        ap (λ (w : Bool). heap_take core.heap.limit (node_length w) p.heap) m.wide
        ∙ ap (λ (h : Heap). heap_take core.heap.limit (node_length core.wide) h) m.heap ∙ t.1.taken

    pub with_header : (ranges : List Extent) → IsMidEdit ranges p image tree (record p { heap = now.heap }) (extent ExtentKind.Node place (node_length tree.wide) ∷ []) a
    with_header ranges =
        subst (λ (w : Bool). IsMidEdit ranges p image tree (record p { heap = now.heap }) (extent ExtentKind.Node place (node_length w) ∷ []) a) (sym m.wide)
        (mid_text ranges p p image image a tree tree [] core.heap.limit (node_length core.wide) place (node_text (empty_node core.wide name label)) core.heap.work now m.heap (mid_begins ranges tree p image m.laid_out) t)

    -- an entry is unused
    module _ (new : List ℕ) (w : JoinsUnused parent (entry_text (text_field 32 name) (To place)) a new) (far : place < 2 ^ 44) (unused : parent.table.count < parent.table.entries) where
      the_table : (o : Option TablePart) → up.parts.table ≡ o → (t : TablePart) × (up.parts.table ≡ Some t)
      the_table (Some t) e = (t, e)
      the_table None e = absurd (let none = entries ∙ ap entry_count e in omega (arith, none, unused))

      abbrev tp : (t : TablePart) × (up.parts.table ≡ Some t)
      tp = the_table up.parts.table refl

      abbrev pub q : Placement
      q = with_new_parts (record p { heap = now.heap }) place

      room : length kids < tp.0.entries
      room = let c = count in let e = entries ∙ ap entry_count tp.1 in omega (arith, c, e, unused)

      in_entry : Puts ExtentKind.SubNodes (tp.0.place + 16 + 44 * length kids) 44 (entry_text (text_field 32 name) (To place)) a w.0
      in_entry =
          subst (λ k. Puts ExtentKind.SubNodes (k + 16 + 44 * length kids) 44 (entry_text (text_field 32 name) (To place)) a w.0) (table_at tp.0 tp.1)
          (subst (λ k. Puts ExtentKind.SubNodes (parent.table.place + 16 + 44 * k) 44 (entry_text (text_field 32 name) (To place)) a w.0) count w.1)

      in_header : Puts ExtentKind.Node (up.parts.header + 68) 8 (hex_text 8 (suc (length kids))) w.0 new
      in_header =
          subst (λ k. Puts ExtentKind.Node (k + 68) 8 (hex_text 8 (suc (length kids))) w.0 new) (sym up.at)
          (subst (λ k. Puts ExtentKind.Node (row.place + 68) 8 (hex_text 8 (suc k)) w.0 new) count w.2)

      whole : IsEditWhole core.heap.limit core.writable edit tree p after q image new
      whole =
          create_is_whole core.heap.limit core.writable image a w.0 new tree after p now.heap ExtentKind.Node at name label place up.parts tp.0 m.laid_out made taken far
          (with_header (entry_ranges up.parts tp.0 (length kids)))
          (subst (λ (v : Bool). FillsWith place (node_length v) (node_text (empty_node v name label)) t.0 a) (sym m.wide) t.2).stands
          up.is.stands tp.1 room in_entry in_header

      stands : parts_of q at.serial ≡ Some up.parts
      stands = front_get p.parts (Some (record no_parts { header = place })) at.serial inside ∙ up.is.stands

      headers : (k : ℕ) → k < next_serial tree → (parts_at q k).header ≡ (parts_at p k).header
      headers k lt = ap (λ (o : Option NodeParts). (parts_or_none o).header) (front_get p.parts (Some (record no_parts { header = place })) k (let d = drawn in omega (arith, d, lt)))

      last : (parts_at q (next_serial tree)).header ≡ place
      last = subst (λ k. (parts_at q k).header ≡ place) drawn (ap (λ (o : Option NodeParts). (parts_or_none o).header) (last_of p.parts))
        where
          last_of : (xs : List (Option NodeParts)) → parts_of (record p { parts = xs ++ Some (record no_parts { header = place }) ∷ [] }) (length xs) ≡ Some (record no_parts { header = place })
          last_of [] = refl
          last_of (x ∷ xs) = last_of xs

      abbrev ranges : List Extent
      ranges = extent ExtentKind.SubNodes (tp.0.place + 16 + 44 * length kids) 44 ∷ extent ExtentKind.Node (up.parts.header + 68) 8 ∷ []

      own : (b : ℕ) → 0 < cover ranges b → 0 < cover (live_extents after.wide q) b
      own b some = by_range (less_or 0 (cover (extent ExtentKind.SubNodes (tp.0.place + 16 + 44 * length kids) 44 ∷ []) b))
        where
          by_range : (0 < cover (extent ExtentKind.SubNodes (tp.0.place + 16 + 44 * length kids) 44 ∷ []) b) ⊎ (cover (extent ExtentKind.SubNodes (tp.0.place + 16 + 44 * length kids) 44 ∷ []) b ≤ 0) → 0 < cover (live_extents after.wide q) b
          by_range (inl one) = entry_own new after q at.serial up.parts whole.laid_out stands tp.0 tp.1 (length kids) room b one
          by_range (inr none) = header_own new after q at.serial up.parts whole.laid_out stands up.parts.header refl 68 8 (omega arith) b (omega (arith, some, none))

      threads : (threaded : IsThreaded now a) → IsThreaded now new
      threads threaded = threads_stay new a new after q whole.laid_out ranges own now refl (puts_two in_entry in_header) threaded

      pub follows_unused : (is : Core) (its : Row) → is.wide ≡ core.wide → is.heap.work ≡ now → is.rows.items ≡ core.rows.items ++ Some its ∷ []
          → its.place ≡ place → its.parent ≡ Some at.serial → its.depth ≡ suc row.depth → IsThreaded now a
          → Follows core.heap.limit core.writable edit tree p (memory_of is) image new
      follows_unused is its wide heap rows here above deep threaded = record {
        after = after;
        placement = q;
        whole = whole;
        means = record {
          laid_out = whole.laid_out;
          wide = joined.wide ∙ m.wide ∙ sym wide;
          table = subst (IsTable after q) (sym rows)
              (table_joined tree after p q at.serial (new_node name label) core.rows.items m.table joined headers its (here ∙ sym last) above (deep ∙ ap suc depth));
          heap = ap (λ (s : FreeSpace). s.heap) (sym heap);
          threads = subst (λ (s : FreeSpace). IsThreaded s new) (sym heap) (threads threaded);
        };
      }
