-- A link that is listed in a longer table makes the edit.
use Rattle.std.proofs.Common.{◌≡◌, ℕ, suc, refl, sym, ◌∙◌, ap, subst, arith, List, [], ◌∷◌, ◌++◌, length, ◌+◌, ◌-◌, ◌*◌, ◌^◌, ◌<◌, ◌≤◌, Bool, Option, None, Some}
use Rattle.std.specs.Prelude.{Ok, slice_set, nat_lt, if◌then◌else◌}
use Rattle.adf_format.specs.declared.types.ExtentKind.{ExtentKind}
use Rattle.adf_format.specs.Fields.{field, text_field}
use Rattle.adf_format.specs.Hex.{hex_text}
use Rattle.adf_format.specs.Pointer.{To, pointer_text}
use Rattle.adf_format.specs.Records.{SubNodes, node_text, entry_text}
use Rattle.adf_format.specs.RecordFields.{node_length, table_length}
use Rattle.adf_format.specs.Spelled.{framed_text}
use Rattle.adf_format.specs.Tree.{Tree, next_serial, children_at}
use Rattle.adf_format.specs.Placement.{Placement, NodeParts, TablePart, extent, table_extents}
use Rattle.adf_format.specs.LaysOut.{HasTable, entry_count}
use Rattle.adf_format.specs.HeapRule.{heap_take, chunk_length_for, grown_entries, give_all, parts_at, parts_or_none, after_gives}
use Rattle.adf_model.specs.declared.tree.NodeId.{NodeId}
use Rattle.adf_model.specs.Creation.{used_entries, unused_entries}
use Rattle.file_heap.specs.Heap.{FreeSpace, IsThreaded}
use Rattle.tree_laws.specs.EditsPlaced.{LinkStands}
use Rattle.tree_laws.specs.MidEdit.{IsMidEdit, Puts, GivesAll}
use Rattle.tree_laws.specs.NodeJoin.{with_parts_of_new, link_parts, link_record}
use Rattle.tree_laws.specs.Spared.{IsEditWhole}
use Rattle.tree_laws.specs.WholeEdits.{longer_ranges, with_longer_table}
use Rattle.tree_laws.proofs.Edits.EditsPlaced.{front_get}
use Rattle.tree_laws.proofs.Whole.Mid.{mid_begins, mid_writes}
use Rattle.tree_laws.proofs.Whole.LinksFull.{link_is_whole_full}
use Rattle.tree_edits.specs.declared.memory.Core.{Core}
use Rattle.tree_edits.specs.declared.room.Parent.{Parent}
use Rattle.tree_edits.specs.declared.rows.Row.{Row}
use Rattle.tree_edits.specs.Rows.{Means, IsTable}
use Rattle.tree_edits.specs.Edits.{memory_of, Follows}
use Rattle.tree_edits.specs.Taken.{FillsWith, Takes}
use Rattle.tree_edits.specs.Joined.{extents_of_table, entries_in, table_fields}
use Rattle.tree_edits.specs.Linkable.{MayLink}
use Rattle.tree_edits.specs.Linked.{ReplacesTable, chunk_text, longer_length}
use Rattle.tree_edits.proofs.CreateDone.{long_enough}
use Rattle.tree_edits.proofs.Creates as creates
use Rattle.tree_edits.proofs.CreatesLonger.{some_entries, same_header, length_set, last_of}
use Rattle.tree_edits.proofs.JoinedRows.{table_joined}
use Rattle.tree_edits.proofs.LinkMade.{mid_taken, stays_apart, link_stands, edit, text, node, after, made, joined, taken_header}
use Rattle.tree_edits.proofs.RoomsTaken.{IsApart}

module _ (image : List ℕ) (core : Core) (at : NodeId) (name file path : List ℕ) (parent : Parent) (may : MayLink core at name file path (Some image) parent) (tree : Tree) (p : Placement) (m : Means image tree p (memory_of core)) where
  abbrev its : List ℕ
  its = text image core at name file path parent may tree p m

  abbrev size : ℕ
  size = chunk_length_for (length its)

  abbrev kids : List ℕ
  kids = children_at tree at.serial

  abbrev many : ℕ
  many = grown_entries (length kids)

  abbrev from : NodeParts
  from = (creates.up image core at name [] parent may.room tree p m).parts

  same : parent.table.count ≡ length kids
  same = creates.count image core at name [] parent may.room tree p m

  entries : parent.table.entries ≡ entry_count from.table
  entries = creates.entries image core at name [] parent may.room tree p m

  table_at : (t : TablePart) → from.table ≡ Some t → parent.table.place ≡ t.place
  table_at t e = creates.table_at image core at name [] parent may.room tree p m t e

  -- the table as the tree has it
  has_table : HasTable image tree p (creates.up image core at name [] parent may.room tree p m).node from.table
  has_table = (m.laid_out.nodes at.serial (creates.up image core at name [] parent may.room tree p m).node from (creates.up image core at name [] parent may.room tree p m).is.live (creates.up image core at name [] parent may.room tree p m).is.stands).table

  pub old_extents : (o : Option TablePart) → from.table ≡ o → extents_of_table parent.table ≡ table_extents o
  old_extents None e =
      let none = entries ∙ ap entry_count e in
      ap (λ n. if nat_lt 0 n then extent ExtentKind.SubNodes parent.table.place (table_length n) ∷ [] else []) none
  old_extents (Some o) e =
      let has = entries ∙ ap entry_count e in
      let some : 0 < o.entries = (subst (λ (y : Option TablePart). HasTable image tree p (creates.up image core at name [] parent may.room tree p m).node y) e has_table).0 in
      ap (λ n. if nat_lt 0 n then extent ExtentKind.SubNodes parent.table.place (table_length n) ∷ [] else []) has
      ∙ ap (λ b. if b then extent ExtentKind.SubNodes parent.table.place (table_length o.entries) ∷ [] else []) (some_entries o.entries some)
      ∙ ap (λ k. extent ExtentKind.SubNodes k (table_length o.entries) ∷ []) (table_at o e)

  given : extents_of_table parent.table ≡ table_extents from.table
  given = old_extents from.table refl

  module _ (header table chunk : ℕ) (between again taken : FreeSpace) (one two a c b : List ℕ) (th : Takes core.heap.limit (node_length core.wide) header core.heap.work between image one)
      (tl : Takes core.heap.limit (longer_length parent) table between again one two) (tc : Takes core.heap.limit size chunk again taken two a)
      (f1 : FillsWith chunk size (chunk_text chunk its) a c) (f2 : FillsWith header (node_length core.wide) (node_text (link_record core.wide name (length its) chunk)) c b)
      (near : header < 2 ^ 44) (far : chunk + size ≤ 2 ^ 44) (near_table : table + longer_length parent ≤ 2 ^ 44)
      (apart : IsApart chunk size header (node_length core.wide)) (header_table : IsApart header (node_length core.wide) table (longer_length parent)) (chunk_table : IsApart chunk size table (longer_length parent))
      (now : FreeSpace) (new : List ℕ) (full : parent.table.entries ≡ parent.table.count) (r : ReplacesTable parent table (entry_text (text_field 32 name) (To header)) taken now b new) where
    full_count : entry_count from.table ≡ length kids
    full_count = sym entries ∙ full ∙ same

    old_used : (o : Option TablePart) → from.table ≡ o → entries_in r.written parent.table ≡ used_entries r.written o (length kids)
    old_used None e =
        let none : length kids ≡ 0 = sym full_count ∙ ap entry_count e in
        ap (λ n. field r.written (parent.table.place + 16) (44 * n)) (same ∙ none)
    old_used (Some o) e =
        ap (λ n. field r.written (parent.table.place + 16) (44 * n)) same
        ∙ ap (λ k. field r.written (k + 16) (44 * length kids)) (table_at o e)

    mid_core : IsMidEdit (longer_ranges from) p image tree (record p { heap = taken.heap }) (extent ExtentKind.Node chunk size ∷ extent ExtentKind.Node table (longer_length parent) ∷ extent ExtentKind.Node header (node_length core.wide) ∷ []) r.written
    mid_core =
        mid_writes (longer_ranges from) p image tree (record p { heap = taken.heap }) (extent ExtentKind.Node chunk size ∷ extent ExtentKind.Node table (longer_length parent) ∷ extent ExtentKind.Node header (node_length core.wide) ∷ []) (extent ExtentKind.Node table (longer_length parent) ∷ []) b r.written
        (mid_writes (longer_ranges from) p image tree (record p { heap = taken.heap }) (extent ExtentKind.Node chunk size ∷ extent ExtentKind.Node table (longer_length parent) ∷ extent ExtentKind.Node header (node_length core.wide) ∷ []) (extent ExtentKind.Node header (node_length core.wide) ∷ []) c b
        (mid_writes (longer_ranges from) p image tree (record p { heap = taken.heap }) (extent ExtentKind.Node chunk size ∷ extent ExtentKind.Node table (longer_length parent) ∷ extent ExtentKind.Node header (node_length core.wide) ∷ []) (extent ExtentKind.Node chunk size ∷ []) a c
        (mid_taken (longer_ranges from) p (record p { heap = again.heap }) image two a tree (extent ExtentKind.Node table (longer_length parent) ∷ extent ExtentKind.Node header (node_length core.wide) ∷ []) core.heap.limit size chunk again taken refl
        (mid_taken (longer_ranges from) p (record p { heap = between.heap }) image one two tree (extent ExtentKind.Node header (node_length core.wide) ∷ []) core.heap.limit (longer_length parent) table between again refl
        (mid_taken (longer_ranges from) p p image image one tree [] core.heap.limit (node_length core.wide) header core.heap.work between m.heap (mid_begins (longer_ranges from) tree p image m.laid_out) th) tl) tc)
        f1.only (λ k some. omega (arith, some)))
        f2.only (λ k some. omega (arith, some)))
        r.fills.only (λ k some. omega (arith, some))

    mid : IsMidEdit (longer_ranges from) p image tree (record p { heap = taken.heap }) (extent ExtentKind.Node chunk size ∷ extent ExtentKind.Node table (table_length many) ∷ extent ExtentKind.Node header (node_length tree.wide) ∷ []) r.written
    mid =
        subst (λ (v : Bool). IsMidEdit (longer_ranges from) p image tree (record p { heap = taken.heap }) (extent ExtentKind.Node chunk size ∷ extent ExtentKind.Node table (table_length many) ∷ extent ExtentKind.Node header (node_length v) ∷ []) r.written) (sym m.wide)
        (subst (λ (n : ℕ). IsMidEdit (longer_ranges from) p image tree (record p { heap = taken.heap }) (extent ExtentKind.Node chunk size ∷ extent ExtentKind.Node table (table_length (grown_entries n)) ∷ extent ExtentKind.Node header (node_length core.wide) ∷ []) r.written) same mid_core)

    stands : LinkStands r.written tree name its header chunk
    stands =
        link_stands r.written tree name its header chunk near far
        (subst (λ (v : Bool). field r.written header (node_length v) ≡ node_text (link_record v name (length its) chunk)) (sym m.wide)
        (stays_apart header (node_length core.wide) table (longer_length parent) b r.written r.fills.only (f2.reaches (long_enough core.wide)) header_table ∙ f2.stands))
        (stays_apart chunk size table (longer_length parent) b r.written r.fills.only (let reach = f1.reaches (omega arith) in let l = f2.only.longer in omega (arith, reach, l)) chunk_table
        ∙ stays_apart chunk size header (node_length core.wide) c b f2.only (f1.reaches (omega arith)) apart ∙ f1.stands)

    abbrev q : Placement
    q = after_gives (with_parts_of_new (record {
      parts = slice_set p.parts at.serial (Some (with_longer_table from table many));
      heap = taken.heap;
    }) (link_parts header chunk size)) (table_extents from.table)

    list : field r.written table (table_length many) ≡ framed_text SubNodes table (used_entries r.written from.table (length kids) ++ entry_text (text_field 32 name) (To header) ++ unused_entries (many - suc (length kids)))
    list =
        subst (λ n. field r.written table (table_length (grown_entries n)) ≡ framed_text SubNodes table (used_entries r.written from.table (length kids) ++ entry_text (text_field 32 name) (To header) ++ unused_entries (grown_entries n - suc n))) same
        (r.fills.stands ∙ ap (λ used. framed_text SubNodes table (used ++ entry_text (text_field 32 name) (To header) ++ unused_entries (grown_entries parent.table.count - suc parent.table.count))) (sym r.used ∙ old_used from.table refl))

    names : Puts ExtentKind.Node (from.header + 68) 28 (hex_text 8 (suc (length kids)) ++ hex_text 8 many ++ pointer_text (To table)) r.written r.named
    names =
        subst (λ k. Puts ExtentKind.Node (k + 68) 28 (table_fields table (length kids)) r.written r.named) (sym (creates.up image core at name [] parent may.room tree p m).at)
        (subst (λ n. Puts ExtentKind.Node (parent.row.place + 68) 28 (table_fields table n) r.written r.named) same r.names)

    whole : IsEditWhole core.heap.limit core.writable (edit image core at name file path parent may tree p m) tree p (after image core at name file path parent may tree p m) q image new
    whole =
        link_is_whole_full core.heap.limit core.writable image r.written r.named new tree (after image core at name file path parent may tree p m) p between.heap again.heap taken.heap ExtentKind.Node ExtentKind.Node ExtentKind.Node
        at name file path header table chunk many from m.laid_out (made image core at name file path parent may tree p m) full_count refl
        (taken_header image core at name file path parent may tree p m header between th.taken)
        (subst (λ n. heap_take core.heap.limit (table_length (grown_entries n)) between.heap ≡ Ok (table, again.heap)) same tl.taken) tc.taken
        (subst (λ n. table + table_length (grown_entries n) ≤ 2 ^ 44) same near_table) mid stands
        (creates.up image core at name [] parent may.room tree p m).is.stands list names (subst (λ es. GivesAll es taken.heap r.named new) given r.gives)

    headers : (k : ℕ) → k < next_serial tree → (parts_at q k).header ≡ (parts_at p k).header
    headers k lt =
        ap (λ (o : Option NodeParts). (parts_or_none o).header)
        (front_get (slice_set p.parts at.serial (Some (with_longer_table from table many))) (Some (link_parts header chunk size)) k
        (let d = creates.drawn image core at name [] parent may.room tree p m in let l = length_set p.parts at.serial (Some (with_longer_table from table many)) in omega (arith, d, l, lt)))
        ∙ same_header p.parts at.serial k from (with_longer_table from table many) (creates.up image core at name [] parent may.room tree p m).is.stands refl

    last : (parts_at q (next_serial tree)).header ≡ header
    last =
        subst (λ k. (parts_at q k).header ≡ header) (length_set p.parts at.serial (Some (with_longer_table from table many)) ∙ creates.drawn image core at name [] parent may.room tree p m)
        (ap (λ (o : Option NodeParts). (parts_or_none o).header) (last_of (slice_set p.parts at.serial (Some (with_longer_table from table many))) (Some (link_parts header chunk size))))

    pub link_follows_longer : (is : Core) (row : Row) → is.wide ≡ core.wide → is.heap.work ≡ now → is.rows.items ≡ core.rows.items ++ Some row ∷ []
        → row.place ≡ header → row.parent ≡ Some at.serial → row.depth ≡ suc parent.row.depth
        → Follows core.heap.limit core.writable (edit image core at name file path parent may tree p m) tree p (memory_of is) image new
    link_follows_longer is row wide heap rows here above deep =
        let j = joined image core at name file path parent may tree p m in record {
          after = after image core at name file path parent may tree p m;
          placement = q;
          whole = whole;
          means = record {
            laid_out = whole.laid_out;
            wide = j.wide ∙ m.wide ∙ sym wide;
            table = subst (IsTable (after image core at name file path parent may tree p m) q) (sym rows)
                (table_joined tree (after image core at name file path parent may tree p m) p q at.serial (node image core at name file path parent may tree p m) core.rows.items m.table j headers row (here ∙ sym last) above
                (deep ∙ ap suc (creates.depth image core at name [] parent may.room tree p m)));
            heap = ap (λ es. give_all es taken.heap) (sym given) ∙ sym r.heap ∙ ap (λ (s : FreeSpace). s.heap) (sym heap);
            threads = subst (λ (s : FreeSpace). IsThreaded s new) (sym heap) r.threads;
          };
        }
