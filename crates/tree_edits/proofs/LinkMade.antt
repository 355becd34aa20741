-- A link that is listed in an unused entry makes the edit, of each tree and placement that the bytes and the memory mean.
use Rattle.std.proofs.Common.{◌≡◌, ◌⊎◌, inl, inr, ℕ, suc, refl, sym, ◌∙◌, ap, subst, arith, List, [], ◌∷◌, ◌++◌, length, take, ◌+◌, ◌*◌, ◌^◌, ◌<◌, ◌≤◌, Bool, Option, None, Some}
use Rattle.std.specs.Prelude.{Ok}
use Rattle.adf_format.specs.declared.types.Extent.{Extent}
use Rattle.adf_format.specs.declared.types.ExtentKind.{ExtentKind}
use Rattle.adf_format.specs.Changes.{heap_fields}
use Rattle.adf_format.specs.HeapBytes.{ChangesOnly, MovesEnd, KeepsFillers}
use Rattle.adf_format.specs.Fields.{field, text_field}
use Rattle.adf_format.specs.Hex.{hex_text}
use Rattle.adf_format.specs.Links.{link_text}
use Rattle.adf_format.specs.Pointer.{To}
use Rattle.adf_format.specs.Records.{Data, node_text, entry_text}
use Rattle.adf_format.specs.RecordFields.{node_length}
use Rattle.adf_format.specs.Spelled.{framed_text}
use Rattle.adf_format.specs.Tiles.{Tiles, cover}
use Rattle.adf_format.specs.Tree.{Tree, Node, next_serial, children_at}
use Rattle.adf_format.specs.Placement.{Placement, NodeParts, TablePart, Heap, extent, parts_of, live_extents}
use Rattle.adf_format.specs.LaysOut.{entry_count}
use Rattle.adf_format.specs.HeapRule.{heap_take, chunk_length_for, parts_at, parts_or_none}
use Rattle.adf_format.proofs.FrameLaws.{field_kept}
use Rattle.adf_model.specs.declared.tree.Edit.{Edit}
use Rattle.adf_model.specs.declared.tree.NodeId.{NodeId}
use Rattle.adf_model.specs.Edits.{file_step, with_new, new_link}
use Rattle.adf_model.proofs.Writes.Reaches.{less_or}
use Rattle.file_heap.specs.Heap.{FreeSpace, IsThreaded}
use Rattle.file_heap.proofs.Chunks.{threads_chunks}
use Rattle.tree_laws.specs.EditsPlaced.{LinkStands}
use Rattle.tree_laws.specs.MidEdit.{IsMidEdit, Puts}
use Rattle.tree_laws.specs.NodeJoin.{with_parts_of_new, link_parts, link_record}
use Rattle.tree_laws.specs.Spared.{IsEditWhole}
use Rattle.tree_laws.specs.TreeFacts.{IsJoined}
use Rattle.tree_laws.specs.WholeEdits.{entry_ranges}
use Rattle.tree_laws.proofs.Edits.EditsPlaced.{front_get}
use Rattle.tree_laws.proofs.Facts.JoinedTree.{joined_in_its_tree}
use Rattle.tree_laws.proofs.Groups.GroupsGrow.{step_reaches}
use Rattle.tree_laws.proofs.Whole.Mid.{mid_begins, mid_takes, mid_writes, in_old}
use Rattle.tree_laws.proofs.Whole.Links.{link_is_whole}
use Rattle.tree_laws.proofs.Whole.Texts.{puts_two}
use Rattle.tree_edits.specs.declared.memory.Core.{Core}
use Rattle.tree_edits.specs.declared.room.Parent.{Parent}
use Rattle.tree_edits.specs.declared.rows.Row.{Row}
use Rattle.tree_edits.specs.Rows.{Means, IsTable}
use Rattle.tree_edits.specs.Edits.{memory_of, Follows}
use Rattle.tree_edits.specs.Taken.{FillsWith, Takes}
use Rattle.tree_edits.specs.Joined.{JoinsUnused}
use Rattle.tree_edits.specs.Linkable.{MayLink}
use Rattle.tree_edits.specs.Linked.{chunk_text, filled_up}
use Rattle.tree_edits.proofs.Creates as creates
use Rattle.tree_edits.proofs.Ready.{grows}
use Rattle.tree_edits.proofs.Stays.{threads_stay, header_own, entry_own}
use Rattle.tree_edits.proofs.JoinedRows.{table_joined}
use Rattle.tree_edits.proofs.Links.{linked_there}
use Rattle.tree_edits.proofs.LinkTexts.{length-filled_up}
use Rattle.tree_edits.proofs.RoomsTaken.{IsApart}

-- ---- room is taken, or a text written in what was taken, in the midst of an edit

pub mid_taken : (ranges : List Extent) (p q : Placement) (old b c : List ℕ) (now : Tree) (taken : List Extent) (limit n place : ℕ) (was is : FreeSpace) → q.heap ≡ was.heap → IsMidEdit ranges p old now q taken b
    → Takes limit n place was is b c → IsMidEdit ranges p old now (record q { heap = is.heap }) (extent ExtentKind.Node place n ∷ taken) c
mid_taken ranges p q old b c now taken limit n place was is same u t =
    mid_takes ranges p old now q taken b c is.heap ExtentKind.Node place n u
    (subst (λ (h : Heap). ChangesOnly (heap_fields ++ h.gaps) b c) (sym same) t.changes)
    (λ used tiles. t.tiles ExtentKind.Node used (subst (λ (h : Heap). Tiles (used ++ h.gaps) h.end) same tiles))
    t.order
    (subst (λ (h : Heap). MovesEnd h.end is.heap.end b c) (sym same) t.end)
    (subst (λ (h : Heap). KeepsFillers h.gaps is.heap.gaps b c) (sym same) t.fillers)
    (threads_chunks is c t.threads)
    (subst (λ (h : Heap). h.end ≤ is.heap.end) (sym same) (grows limit n place was is b c t))

-- a text goes on standing where bytes apart from it are written
pub stays_apart : (from many place n : ℕ) (y z : List ℕ) → ChangesOnly (extent ExtentKind.Node place n ∷ []) y z → from + many ≤ length y → IsApart from many place n → field z from many ≡ field y from many
stays_apart from many place n y z only far apart =
    field_kept many from y z (λ k low high. (in_old (extent ExtentKind.Node place n ∷ []) y z only).others k (omega (arith, far, high)) (let none = apart k low high in omega (arith, none)))

take_front : (xs ys : List ℕ) → take (length xs) (xs ++ ys) ≡ xs
take_front [] ys = refl
take_front (x ∷ xs) ys = ap (λ (zs : List ℕ). x ∷ zs) (take_front xs ys)

-- a link whose header and chunk stand
pub link_stands : (image : List ℕ) (tree : Tree) (name text : List ℕ) (header place : ℕ) → header < 2 ^ 44 → place + chunk_length_for (length text) ≤ 2 ^ 44
    → field image header (node_length tree.wide) ≡ node_text (link_record tree.wide name (length text) place) → field image place (chunk_length_for (length text)) ≡ chunk_text place text → LinkStands image tree name text header place
link_stands image tree name text header place near far spelled stands = record {
  body = filled_up text;
  long = length-filled_up text;
  begins = take_front text _;
  near = (near, far);
  spelled = spelled;
  chunk = subst (λ (k : ℕ). field image place k ≡ framed_text Data place (filled_up text)) (sym (length-filled_up text)) stands;
}

-- ---- of bytes that are told

module _ (image : List ℕ) (core : Core) (at : NodeId) (name file path : List ℕ) (parent : Parent) (may : MayLink core at name file path (Some image) parent) (tree : Tree) (p : Placement) (m : Means image tree p (memory_of core)) where
  abbrev pub edit : Edit
  edit = Edit.Link at name file path

  abbrev pub text : List ℕ
  text = link_text file path

  abbrev pub node : Node
  node = new_link name text

  abbrev pub after : Tree
  after = with_new tree at.serial node

  pub made : file_step core.writable tree edit ≡ Ok after
  made = linked_there tree at name file path core.writable _ (creates.made image core at name [] parent may.room tree p m) may.linked may.short

  pub joined : IsJoined tree after at.serial node
  joined = let s = step_reaches core.writable tree after edit made in joined_in_its_tree tree after edit at.serial node m.laid_out.is_tree s.0 refl s.1

  pub taken_header : (header : ℕ) (between : FreeSpace) → heap_take core.heap.limit (node_length core.wide) core.heap.work.heap ≡ Ok (header, between.heap) → heap_take core.heap.limit (node_length tree.wide) p.heap ≡ Ok (header, between.heap)
  taken_header header between taken =
      ap (λ (w : Bool). heap_take core.heap.limit (node_length w) p.heap) m.wide
      ∙ ap (λ (h : Heap). heap_take core.heap.limit (node_length core.wide) h) m.heap ∙ taken

  -- where the header and the chunk have their room, in whatever was taken between them
  module _ (header chunk : ℕ) (between taken : FreeSpace) (one a c b : List ℕ) (th : Takes core.heap.limit (node_length core.wide) header core.heap.work between image one)
      (tc : Takes core.heap.limit (chunk_length_for (length text)) chunk between taken one a)
      (f1 : FillsWith chunk (chunk_length_for (length text)) (chunk_text chunk text) a c) (f2 : FillsWith header (node_length core.wide) (node_text (link_record core.wide name (length text) chunk)) c b)
      (near : header < 2 ^ 44) (far : chunk + chunk_length_for (length text) ≤ 2 ^ 44) (apart : IsApart chunk (chunk_length_for (length text)) header (node_length core.wide))
      (new : List ℕ) (w : JoinsUnused parent (entry_text (text_field 32 name) (To header)) b new) (unused : parent.table.count < parent.table.entries) (threaded : IsThreaded taken b) where
    abbrev up : NodeParts
    up = (creates.up image core at name [] parent may.room tree p m).parts

    stood : parts_of p at.serial ≡ Some up
    stood = (creates.up image core at name [] parent may.room tree p m).is.stands

    here_at : up.header ≡ parent.row.place
    here_at = (creates.up image core at name [] parent may.room tree p m).at

    abbrev kids : List ℕ
    kids = children_at tree at.serial

    same : parent.table.count ≡ length kids
    same = creates.count image core at name [] parent may.room tree p m

    entries : parent.table.entries ≡ entry_count up.table
    entries = creates.entries image core at name [] parent may.room tree p m

    the_table : (o : Option TablePart) → up.table ≡ o → (t : TablePart) × (up.table ≡ Some t)
    the_table (Some t) e = (t, e)
    the_table None e = absurd (let none = entries ∙ ap entry_count e in omega (arith, none, unused))

    abbrev tp : (t : TablePart) × (up.table ≡ Some t)
    tp = the_table up.table refl

    table_at : parent.table.place ≡ tp.0.place
    table_at = creates.table_at image core at name [] parent may.room tree p m tp.0 tp.1

    abbrev q : Placement
    q = with_parts_of_new (record p { heap = taken.heap }) (link_parts header chunk (chunk_length_for (length text)))

    room : length kids < tp.0.entries
    room = let c = same in let e = entries ∙ ap entry_count tp.1 in omega (arith, c, e, unused)

    in_entry : Puts ExtentKind.SubNodes (tp.0.place + 16 + 44 * length kids) 44 (entry_text (text_field 32 name) (To header)) b w.0
    in_entry =
        subst (λ k. Puts ExtentKind.SubNodes (k + 16 + 44 * length kids) 44 (entry_text (text_field 32 name) (To header)) b w.0) table_at
        (subst (λ k. Puts ExtentKind.SubNodes (parent.table.place + 16 + 44 * k) 44 (entry_text (text_field 32 name) (To header)) b w.0) same w.1)

    in_header : Puts ExtentKind.Node (up.header + 68) 8 (hex_text 8 (suc (length kids))) w.0 new
    in_header =
        subst (λ k. Puts ExtentKind.Node (k + 68) 8 (hex_text 8 (suc (length kids))) w.0 new) (sym here_at)
        (subst (λ k. Puts ExtentKind.Node (parent.row.place + 68) 8 (hex_text 8 (suc k)) w.0 new) same w.2)

    abbrev ranges : List Extent
    ranges = entry_ranges up tp.0 (length kids)

    mid : IsMidEdit ranges p image tree (record p { heap = taken.heap }) (extent ExtentKind.Node chunk (chunk_length_for (length text)) ∷ extent ExtentKind.Node header (node_length tree.wide) ∷ []) b
    mid =
        subst (λ (v : Bool). IsMidEdit ranges p image tree (record p { heap = taken.heap }) (extent ExtentKind.Node chunk (chunk_length_for (length text)) ∷ extent ExtentKind.Node header (node_length v) ∷ []) b) (sym m.wide)
        (mid_writes ranges p image tree (record p { heap = taken.heap }) (extent ExtentKind.Node chunk (chunk_length_for (length text)) ∷ extent ExtentKind.Node header (node_length core.wide) ∷ []) (extent ExtentKind.Node header (node_length core.wide) ∷ []) c b
        (mid_writes ranges p image tree (record p { heap = taken.heap }) (extent ExtentKind.Node chunk (chunk_length_for (length text)) ∷ extent ExtentKind.Node header (node_length core.wide) ∷ []) (extent ExtentKind.Node chunk (chunk_length_for (length text)) ∷ []) a c
        (mid_taken ranges p (record p { heap = between.heap }) image one a tree (extent ExtentKind.Node header (node_length core.wide) ∷ []) core.heap.limit (chunk_length_for (length text)) chunk between taken refl
        (mid_taken ranges p p image image one tree [] core.heap.limit (node_length core.wide) header core.heap.work between m.heap (mid_begins ranges tree p image m.laid_out) th) tc)
        f1.only (λ k some. omega (arith, some)))
        f2.only (λ k some. omega (arith, some)))

    stands : LinkStands b tree name text header chunk
    stands =
        link_stands b tree name text header chunk near far
        (subst (λ (v : Bool). FillsWith header (node_length v) (node_text (link_record v name (length text) chunk)) c b) (sym m.wide) f2).stands
        (stays_apart chunk (chunk_length_for (length text)) header (node_length core.wide) c b f2.only (f1.reaches (omega arith)) apart ∙ f1.stands)

    whole : IsEditWhole core.heap.limit core.writable edit tree p after q image new
    whole =
        link_is_whole core.heap.limit core.writable image b w.0 new tree after p between.heap taken.heap ExtentKind.Node ExtentKind.Node at name file path header chunk up tp.0
        m.laid_out made (taken_header header between th.taken) tc.taken mid stands stood tp.1 room in_entry in_header

    stands_after : parts_of q at.serial ≡ Some up
    stands_after = front_get p.parts (Some (link_parts header chunk (chunk_length_for (length text)))) at.serial (creates.inside image core at name [] parent may.room tree p m) ∙ stood

    headers : (k : ℕ) → k < next_serial tree → (parts_at q k).header ≡ (parts_at p k).header
    headers k lt = ap (λ (o : Option NodeParts). (parts_or_none o).header) (front_get p.parts (Some (link_parts header chunk (chunk_length_for (length text)))) k (let d = creates.drawn image core at name [] parent may.room tree p m in omega (arith, d, lt)))

    last : (parts_at q (next_serial tree)).header ≡ header
    last = subst (λ k. (parts_at q k).header ≡ header) (creates.drawn image core at name [] parent may.room tree p m) (ap (λ (o : Option NodeParts). (parts_or_none o).header) (last_of p.parts))
      where
        last_of : (xs : List (Option NodeParts)) → parts_of (record p { parts = xs ++ Some (link_parts header chunk (chunk_length_for (length text))) ∷ [] }) (length xs) ≡ Some (link_parts header chunk (chunk_length_for (length text)))
        last_of [] = refl
        last_of (x ∷ xs) = last_of xs

    abbrev written : List Extent
    written = extent ExtentKind.SubNodes (tp.0.place + 16 + 44 * length kids) 44 ∷ extent ExtentKind.Node (up.header + 68) 8 ∷ []

    own : (k : ℕ) → 0 < cover written k → 0 < cover (live_extents after.wide q) k
    own k some = by_range (less_or 0 (cover (extent ExtentKind.SubNodes (tp.0.place + 16 + 44 * length kids) 44 ∷ []) k))
      where
        by_range : (0 < cover (extent ExtentKind.SubNodes (tp.0.place + 16 + 44 * length kids) 44 ∷ []) k) ⊎ (cover (extent ExtentKind.SubNodes (tp.0.place + 16 + 44 * length kids) 44 ∷ []) k ≤ 0) → 0 < cover (live_extents after.wide q) k
        by_range (inl one) = entry_own new after q at.serial up whole.laid_out stands_after tp.0 tp.1 (length kids) room k one
        by_range (inr none) = header_own new after q at.serial up whole.laid_out stands_after up.header refl 68 8 (omega arith) k (omega (arith, some, none))

    threads : IsThreaded taken new
    threads = threads_stay new b new after q whole.laid_out written own taken refl (puts_two in_entry in_header) threaded

    pub link_follows : (is : Core) (its : Row) → is.wide ≡ core.wide → is.heap.work ≡ taken → is.rows.items ≡ core.rows.items ++ Some its ∷ []
        → its.place ≡ header → its.parent ≡ Some at.serial → its.depth ≡ suc parent.row.depth
        → Follows core.heap.limit core.writable edit tree p (memory_of is) image new
    link_follows is its wide heap rows here above deep = record {
      after = after;
      placement = q;
      whole = whole;
      means = record {
        laid_out = whole.laid_out;
        wide = joined.wide ∙ m.wide ∙ sym wide;
        table = subst (IsTable after q) (sym rows)
            (table_joined tree after p q at.serial node core.rows.items m.table joined headers its (here ∙ sym last) above (deep ∙ ap suc (creates.depth image core at name [] parent may.room tree p m)));
        heap = ap (λ (s : FreeSpace). s.heap) (sym heap);
        threads = subst (λ (s : FreeSpace). IsThreaded s new) (sym heap) threads;
      };
    }
