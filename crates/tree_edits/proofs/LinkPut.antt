-- A link is put in its file: the parent may list it once its parts are written.
use Rattle.std.proofs.Common.{ℕ, refl, arith, List, [], ◌∷◌, length, ◌+◌, ◌≤◌, Bool, Option, None, Some}
use Rattle.std.specs.Prelude.{IfSome}
use Rattle.adf_format.specs.declared.types.ExtentKind.{ExtentKind}
use Rattle.adf_format.specs.Fields.{text_field}
use Rattle.adf_format.specs.HeapRule.{chunk_length_for}
use Rattle.adf_format.specs.Parts.{node_length, table_length}
use Rattle.adf_format.specs.Placement.{extent}
use Rattle.adf_format.specs.Pointer.{To}
use Rattle.adf_format.specs.Records.{entry_text}
use Rattle.adf_model.specs.declared.error.AdfError.{AdfError}
use Rattle.adf_model.specs.declared.error.AdfError.TheVariants as error
use Rattle.cg_io.specs.Answers.{IsRefusal}
use Rattle.cg_io.specs.Blocks.{Both}
use Rattle.cg_io.proofs.ReadLaws.{rose_later}
use Rattle.file_heap.specs.Heap.{FreeSpace, MayGive, IsThreaded}
use Rattle.file_heap.proofs.Beside.{all_lists_stay}
use Rattle.tree_edits.specs.declared.room.Parent.{Parent}
use Rattle.tree_edits.specs.declared.link_rooms.Rooms.{Rooms}
use Rattle.tree_edits.specs.Taken.{IsReady, IsRoomless}
use Rattle.tree_edits.specs.Joined.{OwnsTable}
use Rattle.tree_edits.specs.Linked.{FitsTable, TakesRooms, AreRoomsNear, WritesLink, MayList, ListsIn, PutsLink, longer_length}
use Rattle.tree_edits.proofs.LongerDone.{beside_of}
use Rattle.tree_edits.proofs.RoomsTaken.{AreRooms, IsApart, are_rooms, tables_apart}

module _ (limit : ℕ) (wide : Bool) (parent : Parent) (name text : List ℕ) (rooms : Rooms) (was taken : FreeSpace) where
  abbrev n : ℕ
  n = node_length wide

  abbrev m : ℕ
  m = chunk_length_for (length text)

  abbrev Take : List ℕ → List ℕ → Type 0
  Take = TakesRooms limit n m parent rooms was taken

  abbrev Write : List ℕ → List ℕ → Type 0
  Write = WritesLink wide name text rooms

  pub link_threads : (old a b : List ℕ) → AreRooms n m parent rooms was taken old a → Write a b → IsThreaded taken b
  link_threads old a b are w =
      all_lists_stay (extent ExtentKind.Node rooms.header n ∷ []) taken (Some w.0) (Some b) w.2.only (beside_of rooms.header n taken.heap are.header)
      (all_lists_stay (extent ExtentKind.Node rooms.chunk m ∷ []) taken (Some a) (Some w.0) w.1.only (beside_of rooms.chunk m taken.heap are.chunk) are.ready.threads)

  module _ (old a b : List ℕ) (ready : IsReady was old) (own : OwnsTable parent was.heap old) (fits : FitsTable parent rooms.table) (t : Take old a) (w : Write a b) where
    rooms_are : AreRooms n m parent rooms was taken old a
    rooms_are = are_rooms limit n m parent rooms was taken old a ready t

    owns : OwnsTable parent taken.heap b
    owns = record {
      header = rooms_are.own (parent.row.place + 68) 28 own.header;
      table = λ some. rooms_are.own parent.table.place (table_length parent.table.entries) (own.table some);
      within = λ some. let far = own.within some in let l = rooms_are.longer in let k = w.1.only.longer in let j = w.2.only.longer in omega (arith, far, l, k, j);
    }

    on_table : (o : Option ℕ) → FitsTable parent o → IfSome o (λ place. MayGive place (longer_length parent) taken.heap)
        → ((from many : ℕ) → MayGive from many was.heap → IfSome o (λ place. IsApart from many place (longer_length parent))) → MayList parent o taken b
    on_table None fit may apart = tt
    on_table (Some place) fit may apart = record {
      threads = link_threads old a b rooms_are w;
      own = owns;
      room = may;
      apart = λ some. tables_apart parent place fit.0 some (apart parent.table.place (table_length parent.table.entries) (own.table (let f = fit.0 in omega (arith, some, f))));
    }

    may_list : MayList parent rooms.table taken b
    may_list = on_table rooms.table fits rooms_are.table rooms_are.old_apart

  pub may_list_held : (old a b : Option (List ℕ)) → IfSome old (IsReady was) → IfSome old (OwnsTable parent was.heap) → FitsTable parent rooms.table → Both Take old a → Both Write a b → IfSome b (MayList parent rooms.table taken)
  may_list_held old a None ready own fits t w = tt
  may_list_held old None (Some b) ready own fits t w = absurd w
  may_list_held None (Some a) (Some b) ready own fits t w = absurd t
  may_list_held (Some old) (Some a) (Some b) ready own fits t w = may_list old a b ready own fits t w

  pub puts_held : (now : FreeSpace) (old a b new : Option (List ℕ)) → AreRoomsNear n m parent rooms → Both Take old a → Both Write a b → Both (ListsIn parent (entry_text (text_field 32 name) (To rooms.header)) rooms.table taken now) b new
      → Both (PutsLink limit wide parent name text rooms.header was now) old new
  puts_held now None None None None near t w l = tt
  puts_held now None None None (Some new) near t w l = absurd l
  puts_held now None None (Some b) new near t w l = absurd w
  puts_held now None (Some a) b new near t w l = absurd t
  puts_held now (Some old) None b new near t w l = absurd t
  puts_held now (Some old) (Some a) None new near t w l = absurd w
  puts_held now (Some old) (Some a) (Some b) None near t w l = absurd l
  puts_held now (Some old) (Some a) (Some b) (Some new) near t w l =
      record { rooms = rooms; taken = taken; made = a; written = b; takes = t; near = near; writes = w; lists = l; here = refl }

-- ---- refusals

-- a refusal behind other calls, without want of room
pub refused_behind : (Lacks : ℕ → ℕ → Type 0) (some unread : Type 0) → (some → unread) → (before middle now : ℕ) (e : AdfError) → before ≤ middle → IsRefusal some middle now e → IsRoomless Lacks unread before now e
refused_behind Lacks some unread told before middle now error.Memory le h = h
refused_behind Lacks some unread told before middle now error.ReadFault le h = rose_later before middle now le h
refused_behind Lacks some unread told before middle now (error.Layout rule place) le h = (h.0, told h.1)
refused_behind Lacks some unread told before middle now (error.Full asked end) le h = absurd h
refused_behind Lacks some unread told before middle now other le h = absurd h

-- want of room behind other calls
pub roomless_behind : (Lacks More : ℕ → ℕ → Type 0) (some unread : Type 0) → (some → unread) → ((asked end : ℕ) → Lacks asked end → More asked end) → (before middle now : ℕ) (e : AdfError) → before ≤ middle
    → IsRoomless Lacks some middle now e → IsRoomless More unread before now e
roomless_behind Lacks More some unread told more before middle now error.Memory le h = h
roomless_behind Lacks More some unread told more before middle now error.ReadFault le h = rose_later before middle now le h
roomless_behind Lacks More some unread told more before middle now (error.Layout rule place) le h = (h.0, told h.1)
roomless_behind Lacks More some unread told more before middle now (error.Full asked end) le h = more asked end h
roomless_behind Lacks More some unread told more before middle now other le h = absurd h
