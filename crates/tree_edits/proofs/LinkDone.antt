-- A link over bytes that may be told: what is required on the way, what is done, why it is refused.
use Rattle.std.proofs.Common.{◌≡◌, inl, inr, ℕ, suc, refl, sym, ◌∙◌, ap, subst, arith, List, [], ◌∷◌, ◌++◌, length, ◌^◌, ◌<◌, ◌≤◌, Bool, Option, None, Some}
use Rattle.std.specs.Prelude.{IfSome, Ok, Err}
use Rattle.adf_format.specs.Fields.{text_field}
use Rattle.adf_format.specs.Links.{link_text}
use Rattle.adf_format.specs.Pointer.{To}
use Rattle.adf_format.specs.Records.{entry_text}
use Rattle.adf_format.specs.RecordFields.{node_length, table_length}
use Rattle.adf_format.specs.Tree.{Tree, children_at, next_serial}
use Rattle.adf_format.specs.Placement.{Placement, NodeParts, Heap, parts_of}
use Rattle.adf_format.specs.LaysOut.{entry_count}
use Rattle.adf_format.specs.HeapRule.{Placed, heap_take, chunk_length_for, grown_entries, data_of_node, data_at, place_edit}
use Rattle.adf_model.specs.declared.error.AdfError.{AdfError}
use Rattle.adf_model.specs.declared.error.AdfError.TheVariants as error
use Rattle.adf_model.specs.declared.tree.Edit.{Edit}
use Rattle.adf_model.specs.declared.tree.NodeId.{NodeId}
use Rattle.cg_io.specs.Answers.{IsUntold}
use Rattle.cg_io.specs.Blocks.{Both}
use Rattle.cg_io.proofs.ReadLaws.{rose_later}
use Rattle.file_heap.specs.Heap.{FreeSpace, HeapState}
use Rattle.tree_edits.specs.declared.memory.Core.{Core}
use Rattle.tree_edits.specs.declared.room.Parent.{Parent}
use Rattle.tree_edits.specs.declared.rows.Row.{Row}
use Rattle.tree_edits.specs.Rows.{Means}
use Rattle.tree_edits.specs.Edits.{memory_of, Does, Refuses, Follows}
use Rattle.tree_edits.specs.Room.{MayCreate}
use Rattle.tree_edits.specs.Taken.{Takes, IsRoomless}
use Rattle.tree_edits.specs.Joined.{OwnsTable}
use Rattle.tree_edits.specs.Linkable.{MayLink, IsLinkRoomCause, IsLinkCause}
use Rattle.tree_edits.specs.Linked.{FitsTable, TakesTable, ListsIn, PutsLink, LacksRest, LacksRooms, longer_length}
use Rattle.tree_edits.proofs.Causes.{row_there}
use Rattle.tree_edits.proofs.CreateDone.{long_enough, owns}
use Rattle.tree_edits.proofs.Creates as creates
use Rattle.tree_edits.proofs.LinkLonger.{link_follows_longer}
use Rattle.tree_edits.proofs.LinkMade.{after, made, joined, link_follows}
use Rattle.tree_edits.proofs.LinkPut.{link_threads}
use Rattle.tree_edits.proofs.LinkRefused.{no_header, no_table, no_chunk, no_chunk_behind}
use Rattle.tree_edits.proofs.Ready.{means_ready}
use Rattle.tree_edits.proofs.Rooms.{refused_fault}
use Rattle.tree_edits.proofs.RoomsTaken.{AreRooms, IsApart, are_rooms, apart_too}

module _ (core : Core) (at : NodeId) (name file path : List ℕ) (parent : Parent) where
  abbrev edit : Edit
  edit = Edit.Link at name file path

  abbrev text : List ℕ
  text = link_text file path

  abbrev n : ℕ
  n = node_length core.wide

  abbrev m : ℕ
  m = chunk_length_for (length text)

  -- ---- done

  module _ (image new : List ℕ) (may : MayLink core at name file path (Some image) parent) (is : Core) (its : Row) (end : HeapState) (place : ℕ) (x : PutsLink core.heap.limit core.wide parent name text place core.heap.work end.work image new)
      (wide : is.wide ≡ core.wide) (heap : is.heap ≡ end) (rows : is.rows.items ≡ core.rows.items ++ Some its ∷ []) (here : its.place ≡ place) (above : its.parent ≡ Some at.serial) (deep : its.depth ≡ suc parent.row.depth)
      (tree : Tree) (p : Placement) (means : Means image tree p (memory_of core)) where
    rooms_are : AreRooms n m parent x.rooms core.heap.work x.taken image x.made
    rooms_are = are_rooms core.heap.limit n m parent x.rooms core.heap.work x.taken image x.made (means_ready image tree p (memory_of core) means) x.takes

    near : x.rooms.header < 2 ^ 44
    near = let h = x.near.header in let some = long_enough core.wide in omega (arith, h, some)

    apart : IsApart x.rooms.chunk m x.rooms.header n
    apart = apart_too x.rooms.header n x.rooms.chunk m (long_enough core.wide) (omega arith) rooms_are.chunk_header

    by_table : (o : Option ℕ) → TakesTable core.heap.limit parent o x.takes.between x.takes.again x.takes.one x.takes.two → FitsTable parent o
        → ListsIn parent (entry_text (text_field 32 name) (To x.rooms.header)) o x.taken end.work x.written new
        → IfSome o (λ table. IsApart x.rooms.header n table (longer_length parent)) → IfSome o (λ table. IsApart table (longer_length parent) x.rooms.chunk m)
        → Follows core.heap.limit core.writable edit tree p (memory_of is) image new
    by_table None t fits l header_table table_chunk =
        link_follows image core at name file path parent may tree p means x.rooms.header x.rooms.chunk x.takes.between x.taken x.takes.one x.made x.writes.0 x.written x.takes.header
        (subst (λ (s : FreeSpace). Takes core.heap.limit m x.rooms.chunk s x.taken x.takes.one x.made) t.0 (subst (λ (y : List ℕ). Takes core.heap.limit m x.rooms.chunk x.takes.again x.taken y x.made) t.1 x.takes.chunk))
        x.writes.1 x.writes.2 near x.near.chunk apart new l.1 fits
        (link_threads core.heap.limit core.wide parent name text x.rooms core.heap.work x.taken image x.made x.written rooms_are x.writes)
        is its wide (ap (λ (h : HeapState). h.work) heap ∙ l.0) rows (here ∙ x.here) above deep
    by_table (Some table) t fits l header_table table_chunk =
        link_follows_longer image core at name file path parent may tree p means x.rooms.header table x.rooms.chunk x.takes.between x.takes.again x.taken x.takes.one x.takes.two x.made x.writes.0 x.written x.takes.header t x.takes.chunk
        x.writes.1 x.writes.2 near x.near.chunk fits.1 apart header_table (apart_too table (longer_length parent) x.rooms.chunk m (omega arith) (omega arith) table_chunk)
        end.work new fits.0 l is its wide (ap (λ (h : HeapState). h.work) heap) rows (here ∙ x.here) above deep

    follows : Follows core.heap.limit core.writable edit tree p (memory_of is) image new
    follows = by_table x.rooms.table x.takes.table x.near.table x.lists rooms_are.table_header rooms_are.table_chunk

  pub done : (is : Core) (its : Row) (end : HeapState) (place : ℕ) (held new : Option (List ℕ)) → MayLink core at name file path held parent
      → Both (PutsLink core.heap.limit core.wide parent name text place core.heap.work end.work) held new
      → is.wide ≡ core.wide → is.heap ≡ end → is.rows.items ≡ core.rows.items ++ Some its ∷ []
      → its.place ≡ place → its.parent ≡ Some at.serial → its.depth ≡ suc parent.row.depth → Both (Does edit core is) held new
  done is its end place None None may x wide heap rows here above deep = tt
  done is its end place None (Some new) may x wide heap rows here above deep = absurd x
  done is its end place (Some image) None may x wide heap rows here above deep = absurd x
  done is its end place (Some image) (Some new) may x wide heap rows here above deep = λ tree p means. follows image new may is its end place x wide heap rows here above deep tree p means

  -- ---- refused

  module _ (image : List ℕ) (may : MayLink core at name file path (Some image) parent) (tree : Tree) (p : Placement) (means : Means image tree p (memory_of core)) where
    abbrev its_after : Tree
    its_after = after image core at name file path parent may tree p means

    text_is : data_at its_after (next_serial tree) ≡ Some text
    text_is = ap data_of_node (joined image core at name file path parent may tree p means).new

    abbrev up : NodeParts
    up = (creates.up image core at name [] parent may.room tree p means).parts

    stands : parts_of p at.serial ≡ Some up
    stands = (creates.up image core at name [] parent may.room tree p means).is.stands

    drawn : length p.parts ≡ next_serial tree
    drawn = creates.drawn image core at name [] parent may.room tree p means

    same : parent.table.count ≡ length (children_at tree at.serial)
    same = creates.count image core at name [] parent may.room tree p means

    entries : parent.table.entries ≡ entry_count up.table
    entries = creates.entries image core at name [] parent may.room tree p means

    same_take : heap_take core.heap.limit (node_length tree.wide) p.heap ≡ heap_take core.heap.limit n core.heap.work.heap
    same_take = ap (λ (w : Bool). heap_take core.heap.limit (node_length w) p.heap) means.wide ∙ ap (λ (h : Heap). heap_take core.heap.limit n h) means.heap

    full_is : parent.table.entries ≡ parent.table.count → entry_count up.table ≡ length (children_at tree at.serial)
    full_is full = sym entries ∙ full ∙ same

    module _ (asked last : ℕ) where
      rest : (header : ℕ) (between : Heap) → heap_take core.heap.limit (node_length tree.wide) p.heap ≡ Ok (header, between) → LacksRest core.heap.limit m parent between asked last
          → place_edit core.heap.limit tree its_after (Placed.Link at.serial) p ≡ Err (record { asked = asked; end = last })
      rest header between takes (inl h) =
          no_table core.heap.limit tree its_after p at.serial text text_is drawn up stands header between takes (full_is h.0) (record { asked = asked; end = last })
          (subst (λ k. heap_take core.heap.limit (table_length (grown_entries k)) between ≡ Err (record { asked = asked; end = last })) same h.1)
      rest header between takes (inr (None, again, t, h)) =
          no_chunk core.heap.limit tree its_after p at.serial text text_is drawn up stands header between takes (record { asked = asked; end = last }) (let few = t.0 in let c = same in let e = entries in omega (arith, few, c, e))
          (subst (λ (x : Heap). heap_take core.heap.limit m x ≡ Err (record { asked = asked; end = last })) t.1 h)
      rest header between takes (inr (Some table, again, t, h)) =
          no_chunk_behind core.heap.limit tree its_after p at.serial text text_is drawn up stands header between takes (full_is t.0) (record { asked = asked; end = last }) table again
          (subst (λ k. heap_take core.heap.limit (table_length (grown_entries k)) between ≡ Ok (table, again)) same t.1) h

      no_room : LacksRooms core.heap.limit n m parent core.heap.work.heap asked last → place_edit core.heap.limit tree its_after (Placed.Link at.serial) p ≡ Err (record { asked = asked; end = last })
      no_room (inl h) = no_header core.heap.limit tree its_after p at.serial text text_is drawn up stands (record { asked = asked; end = last }) (same_take ∙ h)
      no_room (inr (header, between, takes, h)) = rest header between (same_take ∙ takes) h

  abbrev RefusedIn : AdfError → Option (List ℕ) → Type 0
  RefusedIn e held = IfSome held (Refuses edit core e)

  fault : (image : List ℕ) → MayLink core at name file path (Some image) parent → Refuses edit core AdfError.ReadFault image
  fault image may = λ tree p means. refused_fault core at name [] parent.row may.room.asked.may.node.found (Some image) tree p means

  pub refused_put : (held : Option (List ℕ)) → MayLink core at name file path held parent → (before now : ℕ) (e : AdfError)
      → IsRoomless (LacksRooms core.heap.limit n m parent core.heap.work.heap) (IsUntold held) before now e → RefusedIn e held
  refused_put None may before now e h = tt
  refused_put (Some image) may before now error.Memory h = λ tree p means. tt
  refused_put (Some image) may before now error.ReadFault h = fault image may
  refused_put (Some image) may before now (error.Layout rule place) h = absurd h.1
  refused_put (Some image) may before now (error.Full asked last) h = λ tree p means. (refl, (after image core at name file path parent may tree p means, made image core at name file path parent may tree p means, no_room image may tree p means asked last h))
  refused_put (Some image) may before now other h = absurd h

  pub put_cause : (held : Option (List ℕ)) → MayLink core at name file path held parent → IsLinkRoomCause core at name file path held 0 0 AdfError.Memory → (before middle now : ℕ) (e : AdfError) → before ≤ middle
      → IsRoomless (LacksRooms core.heap.limit n m parent core.heap.work.heap) (IsUntold held) middle now e → IsLinkCause core at name file path held before now e
  put_cause held may memory before middle now error.Memory le h = memory
  put_cause held may memory before middle now error.ReadFault le h = (row_there _ parent.row may.room.asked.may.node.found, rose_later before middle now le h)
  put_cause held may memory before middle now (error.Layout rule place) le h = inr ((parent, may), h.0, h.1)
  put_cause held may memory before middle now (error.Full asked last) le h = (parent, may, h)
  put_cause held may memory before middle now other le h = absurd h

  pub memory_is_cause : (held : Option (List ℕ)) → MayLink core at name file path held parent → IsLinkRoomCause core at name file path held 0 0 AdfError.Memory
  memory_is_cause held may = (record { row = parent.row; table = parent.table; asked = may.room.asked; few = may.room.room.few; shallow = may.room.room.shallow }, may.linked)

pub room_is_cause : (core : Core) (at : NodeId) (name file path : List ℕ) (held : Option (List ℕ)) (before now : ℕ) (e : AdfError) → IsLinkRoomCause core at name file path held before now e → IsLinkCause core at name file path held before now e
room_is_cause core at name file path held before now error.ReadFault h = h
room_is_cause core at name file path held before now (error.Full asked end) h = absurd h
room_is_cause core at name file path held before now (error.Layout rule place) h = inl h
room_is_cause core at name file path held before now other h = h

pub owns_held : (core : Core) (at : NodeId) (name : List ℕ) (parent : Parent) (held mid : Option (List ℕ)) → mid ≡ held → MayCreate core at name [] held parent
    → IfSome held (λ bytes. (tree : Tree) × (p : Placement) × Means bytes tree p (memory_of core)) → IfSome mid (OwnsTable parent core.heap.work.heap)
owns_held core at name parent held mid same may means = subst (λ o. IfSome o (OwnsTable parent core.heap.work.heap)) (sym same) (by_held held may means)
  where
    by_held : (held : Option (List ℕ)) → MayCreate core at name [] held parent → IfSome held (λ bytes. (tree : Tree) × (p : Placement) × Means bytes tree p (memory_of core)) → IfSome held (OwnsTable parent core.heap.work.heap)
    by_held None may means = tt
    by_held (Some image) may means = owns core at name [] parent image may means.0 means.1 means.2
