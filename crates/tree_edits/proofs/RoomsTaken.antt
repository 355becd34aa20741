-- Room that is taken for a link: each part of it may be given again, and they lie apart from each other and from what was owned.
use Rattle.std.proofs.Common.{◌≡◌, ◌⊎◌, inl, inr, ℕ, refl, sym, subst, arith, List, length, ◌+◌, ◌<◌, ◌≤◌, Option, None, Some}
use Rattle.std.specs.Prelude.{IfSome}
use Rattle.adf_format.specs.Parts.{table_length}
use Rattle.adf_format.proofs.HeapLaws.{in_range}
use Rattle.adf_model.proofs.Creation.PartsApart.{range_in, range_out}
use Rattle.adf_model.proofs.Writes.Reaches.{less_or}
use Rattle.cg_io.specs.Blocks.{Both}
use Rattle.file_heap.specs.Heap.{FreeSpace, MayGive}
use Rattle.tree_edits.specs.declared.room.Parent.{Parent}
use Rattle.tree_edits.specs.declared.link_rooms.Rooms.{Rooms}
use Rattle.tree_edits.specs.Taken.{IsReady, Takes}
use Rattle.tree_edits.specs.Joined.{AreRangesApart}
use Rattle.tree_edits.specs.Linked.{TakesTable, TakesRooms, longer_length}
use Rattle.tree_edits.proofs.Ready.{grows, once_after, taken_may, may_after, own_apart}

pub ready_taken : (limit n place : ℕ) (was now : FreeSpace) (old new : List ℕ) → IsReady was old → Takes limit n place was now old new → IsReady now new
ready_taken limit n place was now old new r t = record { threads = t.threads; once = once_after limit n place was now old new t r.once }

pub ready_held : (limit n place : ℕ) (was now : FreeSpace) (old new : Option (List ℕ)) → IfSome old (IsReady was) → Both (Takes limit n place was now) old new → IfSome new (IsReady now)
ready_held limit n place was now old None r t = tt
ready_held limit n place was now None (Some new) r t = absurd t
ready_held limit n place was now (Some old) (Some new) r t = ready_taken limit n place was now old new r t

-- no byte of a range is one of another
abbrev pub IsApart : ℕ → ℕ → ℕ → ℕ → Type 0
IsApart from many place n = (b : ℕ) → from ≤ b → b < from + many → in_range place n b ≡ 0

-- what may be given before some takes may be given after them, and has no byte of a table that was taken
pub record GoesOn (parent : Parent) (table : Option ℕ) (was now : FreeSpace) (old new : List ℕ) : Type 0 where
  pub may : (from many : ℕ) → MayGive from many was.heap → MayGive from many now.heap
  pub apart : (from many : ℕ) → MayGive from many was.heap → IfSome table (λ place. IsApart from many place (longer_length parent))
  pub room : IfSome table (λ place. MayGive place (longer_length parent) now.heap)
  pub longer : length old ≤ length new
  pub grows : was.heap.end ≤ now.heap.end
  pub ready : IsReady now new

on_table : (limit : ℕ) (parent : Parent) (table : Option ℕ) (was now : FreeSpace) (old new : List ℕ) → IsReady was old → TakesTable limit parent table was now old new → GoesOn parent table was now old new
on_table limit parent None was now old new r t =
    subst (λ (s : FreeSpace). GoesOn parent None was s old new) (sym t.0)
    (subst (λ (x : List ℕ). GoesOn parent None was was old x) (sym t.1)
    (record { may = λ from many m. m; apart = λ from many m. tt; room = tt; longer = omega arith; grows = omega arith; ready = r }))
on_table limit parent (Some place) was now old new r t = record {
  may = λ from many m. may_after limit (longer_length parent) place was now old new t from many m;
  apart = λ from many m. own_apart limit (longer_length parent) place was now old new t from many m;
  room = taken_may limit (longer_length parent) place was now old new t r.once;
  longer = t.changes.longer;
  grows = grows limit (longer_length parent) place was now old new t;
  ready = ready_taken limit (longer_length parent) place was now old new r t;
}

-- two ranges of which none has a byte of the other lie one behind the other
apart_ranges : (from many place n : ℕ) → 0 < many → 0 < n → IsApart from many place n → (from + many ≤ place) ⊎ (place + n ≤ from)
apart_ranges from many place n some more apart = by_start (less_or place (from + many))
  where
    by_end : place < from + many → (place < from) ⊎ (from ≤ place) → (from + many ≤ place) ⊎ (place + n ≤ from)
    by_end lt (inr le) = absurd (let none = apart place le lt in let one = range_in place n place (omega arith) (omega (arith, more)) in omega (arith, none, one))
    by_end lt (inl before) = by_last (less_or from (place + n))
      where
        by_last : (from < place + n) ⊎ (place + n ≤ from) → (from + many ≤ place) ⊎ (place + n ≤ from)
        by_last (inr le) = inr le
        by_last (inl high) = absurd (let none = apart from (omega arith) (omega (arith, some)) in let one = range_in place n from (omega (arith, before)) high in omega (arith, none, one))

    by_start : (place < from + many) ⊎ (from + many ≤ place) → (from + many ≤ place) ⊎ (place + n ≤ from)
    by_start (inr le) = inl le
    by_start (inl lt) = by_end lt (less_or place from)

pub apart_too : (from many place n : ℕ) → 0 < many → 0 < n → IsApart from many place n → IsApart place n from many
apart_too from many place n some more apart b low high = by_order (apart_ranges from many place n some more apart)
  where
    by_order : (from + many ≤ place) ⊎ (place + n ≤ from) → in_range from many b ≡ 0
    by_order (inl le) = range_out from many b (inr (omega (arith, le, low)))
    by_order (inr le) = range_out from many b (inl (omega (arith, le, high)))

-- What is known of the rooms of a link once they are taken.
pub record AreRooms (n m : ℕ) (parent : Parent) (rooms : Rooms) (was now : FreeSpace) (old new : List ℕ) : Type 0 where
  pub ready : IsReady now new
  pub header : MayGive rooms.header n now.heap
  pub chunk : MayGive rooms.chunk m now.heap
  pub table : IfSome rooms.table (λ place. MayGive place (longer_length parent) now.heap)
  pub own : (from many : ℕ) → MayGive from many was.heap → MayGive from many now.heap
  pub old_apart : (from many : ℕ) → MayGive from many was.heap → IfSome rooms.table (λ place. IsApart from many place (longer_length parent))
  pub chunk_header : IsApart rooms.header n rooms.chunk m
  pub table_header : IfSome rooms.table (λ place. IsApart rooms.header n place (longer_length parent))
  pub table_chunk : IfSome rooms.table (λ place. IsApart place (longer_length parent) rooms.chunk m)
  pub longer : length old ≤ length new
  pub grows : was.heap.end ≤ now.heap.end

module _ (limit n m : ℕ) (parent : Parent) (rooms : Rooms) (was now : FreeSpace) (old new : List ℕ) (r : IsReady was old) (t : TakesRooms limit n m parent rooms was now old new) where
  ready_one : IsReady t.between t.one
  ready_one = ready_taken limit n rooms.header was t.between old t.one r t.header

  header_one : MayGive rooms.header n t.between.heap
  header_one = taken_may limit n rooms.header was t.between old t.one t.header r.once

  two : GoesOn parent rooms.table t.between t.again t.one t.two
  two = on_table limit parent rooms.table t.between t.again t.one t.two ready_one t.table

  later : (from many : ℕ) → MayGive from many t.again.heap → MayGive from many now.heap
  later from many may = may_after limit m rooms.chunk t.again now t.two new t.chunk from many may

  first : (from many : ℕ) → MayGive from many was.heap → MayGive from many t.between.heap
  first from many may = may_after limit n rooms.header was t.between old t.one t.header from many may

  of_table : (o : Option ℕ) → IfSome o (λ place. MayGive place (longer_length parent) t.again.heap) → IfSome o (λ place. MayGive place (longer_length parent) now.heap × IsApart place (longer_length parent) rooms.chunk m)
  of_table None may = tt
  of_table (Some place) may = (later place (longer_length parent) may, own_apart limit m rooms.chunk t.again now t.two new t.chunk place (longer_length parent) may)

  left : (o : Option ℕ) → IfSome o (λ place. MayGive place (longer_length parent) now.heap × IsApart place (longer_length parent) rooms.chunk m) → IfSome o (λ place. MayGive place (longer_length parent) now.heap)
  left None both = tt
  left (Some place) both = both.0

  right : (o : Option ℕ) → IfSome o (λ place. MayGive place (longer_length parent) now.heap × IsApart place (longer_length parent) rooms.chunk m) → IfSome o (λ place. IsApart place (longer_length parent) rooms.chunk m)
  right None both = tt
  right (Some place) both = both.1

  pub are_rooms : AreRooms n m parent rooms was now old new
  are_rooms = record {
    ready = ready_taken limit m rooms.chunk t.again now t.two new two.ready t.chunk;
    header = later rooms.header n (two.may rooms.header n header_one);
    chunk = taken_may limit m rooms.chunk t.again now t.two new t.chunk two.ready.once;
    table = left rooms.table (of_table rooms.table two.room);
    own = λ from many may. later from many (two.may from many (first from many may));
    old_apart = λ from many may. two.apart from many (first from many may);
    chunk_header = own_apart limit m rooms.chunk t.again now t.two new t.chunk rooms.header n (two.may rooms.header n header_one);
    table_header = two.apart rooms.header n header_one;
    table_chunk = right rooms.table (of_table rooms.table two.room);
    longer = let a = t.header.changes.longer in let b = two.longer in let c = t.chunk.changes.longer in omega (arith, a, b, c);
    grows = let a = grows limit n rooms.header was t.between old t.one t.header in let b = two.grows in let c = grows limit m rooms.chunk t.again now t.two new t.chunk in omega (arith, a, b, c);
  }

-- a table and the room for a longer one
pub tables_apart : (parent : Parent) (place : ℕ) → parent.table.entries ≡ parent.table.count → 0 < parent.table.count → IsApart parent.table.place (table_length parent.table.entries) place (longer_length parent) → AreRangesApart parent.table place
tables_apart parent place full some apart = by_order (apart_ranges parent.table.place (table_length parent.table.entries) place (longer_length parent) (omega arith) (omega arith) apart)
  where
    by_order : (parent.table.place + table_length parent.table.entries ≤ place) ⊎ (place + longer_length parent ≤ parent.table.place) → AreRangesApart parent.table place
    by_order (inl le) = inl (omega (arith, le, full))
    by_order (inr le) = inr (omega (arith, le))

-- ---- of bytes that may be told

pub rooms_held : (limit n m : ℕ) (parent : Parent) (rooms : Rooms) (was between again now : FreeSpace) (old one two new : Option (List ℕ)) → Both (Takes limit n rooms.header was between) old one → Both (TakesTable limit parent rooms.table between again) one two
    → Both (Takes limit m rooms.chunk again now) two new → Both (TakesRooms limit n m parent rooms was now) old new
rooms_held limit n m parent rooms was between again now None None None None h t c = tt
rooms_held limit n m parent rooms was between again now None None None (Some e) h t c = absurd c
rooms_held limit n m parent rooms was between again now None None (Some d) y h t c = absurd t
rooms_held limit n m parent rooms was between again now None (Some b) x y h t c = absurd h
rooms_held limit n m parent rooms was between again now (Some a) None x y h t c = absurd h
rooms_held limit n m parent rooms was between again now (Some a) (Some b) None y h t c = absurd t
rooms_held limit n m parent rooms was between again now (Some a) (Some b) (Some d) None h t c = absurd c
rooms_held limit n m parent rooms was between again now (Some a) (Some b) (Some d) (Some e) h t c =
    record { between = between; again = again; one = b; two = d; header = h; table = t; chunk = c }

pub table_held : (limit n place : ℕ) (parent : Parent) (was now : FreeSpace) (old new : Option (List ℕ)) → n ≡ longer_length parent → Both (Takes limit n place was now) old new → Both (TakesTable limit parent (Some place) was now) old new
table_held limit n place parent was now None None same t = tt
table_held limit n place parent was now None (Some new) same t = t
table_held limit n place parent was now (Some old) None same t = t
table_held limit n place parent was now (Some old) (Some new) same t = subst (λ j. Takes limit j place was now old new) same t

pub no_table_held : (limit : ℕ) (parent : Parent) (was : FreeSpace) (old : Option (List ℕ)) → Both (TakesTable limit parent None was was) old old
no_table_held limit parent was None = tt
no_table_held limit parent was (Some old) = (refl, refl)
