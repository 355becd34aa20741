-- Which blocks wait in the midst of an edit: step by step what its room has, and what it may write of each tree.
use Rattle.std.proofs.Common.{◌≡◌, inl, inr, ℕ, refl, sym, ◌∙◌, ap, subst, arith, List, [], ◌∷◌, ◌++◌, Bool, true, false, Option, None, Some, le_refl, ◌+◌, ◌-◌, ◌<◌, ◌≤◌}
use Rattle.std.proofs.lemmas.Bool.Decides.{nat_tests}
use Rattle.std.specs.Prelude.{Ok, nat_lt, if◌then◌else◌}
use Rattle.std.specs.List.{Contains}
use Rattle.adf_format.specs.declared.types.Extent.{Extent}
use Rattle.adf_format.specs.declared.types.ExtentKind.{ExtentKind}
use Rattle.adf_format.specs.Changes.{heap_fields}
use Rattle.adf_format.specs.Tiles.{cover}
use Rattle.adf_format.specs.Tree.{Tree}
use Rattle.adf_format.specs.Parts.{table_length}
use Rattle.adf_format.specs.Placement.{Placement, NodeParts, TablePart, Heap, extent}
use Rattle.adf_format.specs.LaysOut.{entry_count}
use Rattle.adf_format.specs.HeapRule.{heap_take, heap_give, parts_at, parts_or_none}
use Rattle.adf_format.proofs.HeapLaws.{in_range, cover-give_joined}
use Rattle.adf_format.proofs.HeapSteps.{cover-append, cover-take, take_end}
use Rattle.adf_model.specs.declared.tree.Edit.{Edit}
use Rattle.adf_model.specs.Untouched.{touched_extents, header_extent, table_of}
use Rattle.adf_model.proofs.Creation.PartsApart.{range_within}
use Rattle.cg_io.specs.Waits.{WaitsOnly}
use Rattle.field_access.specs.Fields.{IsWithin, WaitsWithin, range}
use Rattle.field_access.proofs.WaitLaws.{within_then, within_none, within_left, within_right, within_both, waits_none, waits_then, waits_wider}
use Rattle.node_reads.specs.declared.header.ChildTable.{ChildTable}
use Rattle.tree_laws.specs.MidEdit.{room}
use Rattle.tree_laws.specs.Reached.{CanReach, LieInTouched, LiesInTouched}
use Rattle.tree_laws.proofs.Edits.LabelDone.{range_holds}
use Rattle.tree_laws.proofs.Holding.OwnRanges.{least}
use Rattle.tree_laws.proofs.Whole.Reached.{room_may_be_written, both_lie, one_lies, header_live, table_live, table_among}
use Rattle.tree_laws.proofs.Whole.Spares.{list_part}
use Rattle.tree_edits.specs.declared.memory.Core.{Core}
use Rattle.tree_edits.specs.declared.rows.Row.{Row}
use Rattle.tree_edits.specs.Edits.{memory_of}
use Rattle.tree_edits.specs.Joined.{extents_of_table}
use Rattle.tree_edits.specs.Listed.{NamesTable}
use Rattle.tree_edits.specs.Rows.{Means, row_of}
use Rattle.tree_edits.specs.Waiting.{WaitsInRoom, TakesInRoom, Reaches, list_ranges}
use Rattle.tree_edits.proofs.Nodes.{TheNode, the_node}
use Rattle.tree_edits.proofs.Kids.{own, entries_are, place_is}

-- ---- the room of an edit

pub room_cover : (own : List Extent) (a b : Heap) (k : ℕ) → cover (room own a b) k ≡ cover a.gaps k + (in_range (a.end + 1) (b.end - a.end) k + cover own k)
room_cover own a b k = cover-append a.gaps (extent ExtentKind.Filler (a.end + 1) (b.end - a.end) ∷ own) k

own_in_room : (own : List Extent) (a b : Heap) → IsWithin own (room own a b)
own_in_room own a b k none = let r = room_cover own a b k in omega (arith, r, none)

room_grows : (own : List Extent) (a b c : Heap) → b.end ≤ c.end → IsWithin (room own a b) (room own a c)
room_grows own a b c le k none =
    let r = room_cover own a b k in
    let s = room_cover own a c k in
    let w = range_within (a.end + 1) (c.end - a.end) (a.end + 1) (b.end - a.end) k (omega arith) (omega (arith, le)) in omega (arith, r, s, w, none)

-- what may be written later may be written from the first on
room_later : (own ranges : List Extent) (a b c : Heap) → a.end ≤ b.end → b.end ≤ c.end → IsWithin b.gaps (room own a c) → IsWithin ranges (room own a c) → IsWithin (room ranges b c) (room own a c)
room_later own ranges a b c up on gaps mine k none =
    let r = room_cover ranges b c k in
    let s = room_cover own a c k in
    let w = range_within (a.end + 1) (c.end - a.end) (b.end + 1) (c.end - b.end) k (omega (arith, up)) (omega (arith, up, on)) in
    let g = gaps k none in
    let m = mine k none in omega (arith, r, s, w, g, m, none)

room_wider : (own more : List Extent) (a b : Heap) → IsWithin own more → IsWithin (room own a b) (room more a b)
room_wider own more a b w k none =
    let r = room_cover own a b k in
    let s = room_cover more a b k in
    let m = w k (omega (arith, s, none)) in omega (arith, r, s, m, none)

with_fields : (xs ys : List Extent) → IsWithin xs ys → IsWithin (heap_fields ++ xs) (heap_fields ++ ys)
with_fields xs ys w = within_both heap_fields xs (heap_fields ++ ys) (within_left heap_fields ys) (within_then xs ys (heap_fields ++ ys) w (within_right heap_fields ys))

-- ---- step by step

pub room_begins : (own : List Extent) (a : Heap) (x : List ℕ) → WaitsInRoom own a a x x
room_begins own a x = record {
  grows = le_refl a.end;
  gaps = within_left a.gaps (extent ExtentKind.Filler (a.end + 1) (a.end - a.end) ∷ own);
  only = waits_none (heap_fields ++ room own a a) x;
}

pub more_own : (own more : List Extent) (a b : Heap) (x y : List ℕ) → IsWithin own more → WaitsInRoom own a b x y → WaitsInRoom more a b x y
more_own own more a b x y in' w = record {
  grows = w.grows;
  gaps = within_then b.gaps (room own a b) (room more a b) w.gaps (room_wider own more a b in');
  only = waits_wider (heap_fields ++ room own a b) (heap_fields ++ room more a b) x y (with_fields (room own a b) (room more a b) (room_wider own more a b in')) w.only;
}

-- ranges are written that may be
pub then_written : (own ranges : List Extent) (a b : Heap) (x y z : List ℕ) → IsWithin ranges (room own a b) → WaitsInRoom own a b x y → WaitsWithin ranges y z → WaitsInRoom own a b x z
then_written own ranges a b x y z in' w more = record {
  grows = w.grows;
  gaps = w.gaps;
  only = waits_then (heap_fields ++ room own a b) x y z w.only
      (waits_wider ranges (heap_fields ++ room own a b) y z (within_then ranges (room own a b) (heap_fields ++ room own a b) in' (within_right heap_fields (room own a b))) more);
}

-- ... of the edit's own
pub own_written : (own ranges : List Extent) (a : Heap) (x y : List ℕ) → IsWithin ranges own → WaitsWithin ranges x y → WaitsInRoom own a a x y
own_written own ranges a x y in' more = then_written own ranges a a x x y (within_then ranges own (room own a a) in' (own_in_room own a a)) (room_begins own a x) more

pub then_own : (own ranges : List Extent) (a b : Heap) (x y z : List ℕ) → IsWithin ranges own → WaitsInRoom own a b x y → WaitsWithin ranges y z → WaitsInRoom own a b x z
then_own own ranges a b x y z in' w more = then_written own ranges a b x y z (within_then ranges own (room own a b) in' (own_in_room own a b)) w more

-- one part of an edit behind another: the later one may also write what the first has taken
rooms_then : (taken own : List Extent) (a b c : Heap) (x y z : List ℕ) → IsWithin taken (room own a b) → WaitsInRoom own a b x y → WaitsInRoom (taken ++ own) b c y z → WaitsInRoom own a c x z
rooms_then taken own a b c x y z in' v w = record {
  grows = (let one = v.grows in let two = w.grows in omega (arith, one, two));
  gaps = within_then c.gaps (room (taken ++ own) b c) (room own a c) w.gaps later;
  only = waits_then (heap_fields ++ room own a c) x y z
      (waits_wider (heap_fields ++ room own a b) (heap_fields ++ room own a c) x y (with_fields (room own a b) (room own a c) first) v.only)
      (waits_wider (heap_fields ++ room (taken ++ own) b c) (heap_fields ++ room own a c) y z (with_fields (room (taken ++ own) b c) (room own a c) later) w.only);
}
  where
    first : IsWithin (room own a b) (room own a c)
    first = room_grows own a b c w.grows

    later : IsWithin (room (taken ++ own) b c) (room own a c)
    later = room_later own (taken ++ own) a b c v.grows w.grows (within_then b.gaps (room own a b) (room own a c) v.gaps first)
        (within_both taken own (room own a c) (within_then taken (room own a b) (room own a c) in' first) (own_in_room own a c))

pub room_then : (own : List Extent) (a b c : Heap) (x y z : List ℕ) → WaitsInRoom own a b x y → WaitsInRoom own b c y z → WaitsInRoom own a c x z
room_then own a b c x y z v w = rooms_then [] own a b c x y z (within_none (room own a b)) v w

pub taken_then : (taken own : List Extent) (a b c : Heap) (x y z : List ℕ) → TakesInRoom taken a b x y → WaitsInRoom (taken ++ own) b c y z → WaitsInRoom own a c x z
taken_then taken own a b c x y z t w =
    rooms_then taken own a b c x y z (within_then taken (room [] a b) (room own a b) t.inside (room_wider [] own a b (within_none own))) (more_own [] own a b x y (within_none own) t.waits) w

-- ---- takes and gifts

pub nothing_taken : (a : Heap) (x : List ℕ) → TakesInRoom [] a a x x
nothing_taken a x = record { waits = room_begins [] a x; inside = within_none (room [] a a) }

pub one_taken : (limit n place : ℕ) (a b : Heap) (x y : List ℕ) → heap_take limit n a ≡ Ok (place, b) → WaitsWithin (heap_fields ++ [] ++ a.gaps) x y → TakesInRoom (range place n ∷ []) a b x y
one_taken limit n place a b x y taken only = record {
  waits = record {
    grows = take_end limit n a place b taken;
    gaps = λ k none. let r = room_cover [] a b k in let c = cover-take limit n a place b taken k in omega (arith, r, c, none);
    only = waits_wider (heap_fields ++ a.gaps) (heap_fields ++ room [] a b) x y (with_fields a.gaps (room [] a b) (within_left a.gaps (extent ExtentKind.Filler (a.end + 1) (b.end - a.end) ∷ []))) only;
  };
  inside = λ k none. let r = room_cover [] a b k in let c = cover-take limit n a place b taken k in omega (arith, r, c, none);
}

-- what was taken is written
pub taken_written : (taken ranges : List Extent) (a b : Heap) (x y z : List ℕ) → IsWithin ranges taken → TakesInRoom taken a b x y → WaitsWithin ranges y z → TakesInRoom taken a b x z
taken_written taken ranges a b x y z in' t more = record {
  waits = then_written [] ranges a b x y z (within_then ranges taken (room [] a b) in' t.inside) t.waits more;
  inside = t.inside;
}

pub takes_then : (xs ys : List Extent) (a b c : Heap) (x y z : List ℕ) → TakesInRoom xs a b x y → TakesInRoom ys b c y z → TakesInRoom (xs ++ ys) a c x z
takes_then xs ys a b c x y z s t = record {
  waits = taken_then xs [] a b c x y z s (more_own [] (xs ++ []) b c y z (within_none (xs ++ [])) t.waits);
  inside = within_both xs ys (room [] a c) (within_then xs (room [] a b) (room [] a c) s.inside first)
      (within_then ys (room [] b c) (room [] a c) t.inside (room_later [] [] a b c s.waits.grows t.waits.grows (within_then b.gaps (room [] a b) (room [] a c) s.waits.gaps first) (within_none (room [] a c))));
}
  where
    first : IsWithin (room [] a b) (room [] a c)
    first = room_grows [] a b c t.waits.grows

pub one_given : (place n : ℕ) (a b : Heap) (x y : List ℕ) → b ≡ heap_give place n a → WaitsWithin (heap_fields ++ range place n ∷ [] ++ a.gaps) x y → WaitsInRoom (range place n ∷ []) a b x y
one_given place n a b x y gives only = subst (λ (h : Heap). WaitsInRoom (range place n ∷ []) a h x y) (sym gives) (record {
  grows = le_refl a.end;
  gaps = λ k none. let r = room_cover (range place n ∷ []) a (heap_give place n a) k in let c = cover-give_joined place n a.gaps k in omega (arith, r, c, none);
  only = waits_wider (heap_fields ++ range place n ∷ a.gaps) (heap_fields ++ room (range place n ∷ []) a (heap_give place n a)) x y
      (with_fields (range place n ∷ a.gaps) (room (range place n ∷ []) a (heap_give place n a)) (λ k none. let r = room_cover (range place n ∷ []) a (heap_give place n a) k in omega (arith, r, none))) only;
})

-- ---- what an edit may write

-- a byte of a table's extent
of_table : (table : ChildTable) (b : ℕ) → 0 < cover (extents_of_table table) b → (table.place ≤ b) × (b < table.place + table_length table.entries) × (0 < table.entries)
of_table table b some = by_entries (nat_lt 0 table.entries) refl some
  where
    by_entries : (v : Bool) → nat_lt 0 table.entries ≡ v → 0 < cover (if v then extent ExtentKind.SubNodes table.place (table_length table.entries) ∷ [] else []) b
        → (table.place ≤ b) × (b < table.place + table_length table.entries) × (0 < table.entries)
    by_entries false e none = absurd (omega (arith, none))
    by_entries true e held = let i = range_holds table.place (table_length table.entries) b (omega (arith, held)) in (i.0, i.1, grind (arith, nat_tests, e))

module _ (image : List ℕ) (core : Core) (serial : ℕ) (row : Row) (found : row_of core.rows.items serial ≡ Some row) (tree : Tree) (p : Placement) (m : Means image tree p (memory_of core)) (touched : List Extent) where
  abbrev node : TheNode image tree p serial row.place
  node = the_node image (memory_of core) serial row found tree p m

  header_at : (parts_at p serial).header ≡ row.place
  header_at = ap (λ (o : Option NodeParts). (parts_or_none o).header) node.is.stands ∙ node.at

  -- fields of a node's header, where it is touched
  pub fields_lie : Contains touched (header_extent tree.wide p serial) → (from n : ℕ) → from + n ≤ 246 → LieInTouched (range (row.place + from) n ∷ []) touched tree.wide p
  fields_lie open' from n fits =
      let at = header_at in
      let long = least tree.wide in
      one_lies touched tree.wide p (header_extent tree.wide p serial) (header_live touched tree.wide p serial node.parts node.is.stands) open' ExtentKind.FreeChunk (row.place + from) n (omega (arith, at)) (omega (arith, at, fits, long))

  module _ (table : ChildTable) (named_by : NamesTable core.wide (Some image) row.place table) (open' : (e : Extent) → Contains (table_of p serial) e → Contains touched e) where
    entries : table.entries ≡ entry_count node.parts.table
    entries = entries_are image core serial row found tree p m table named_by

    -- bytes of its table
    pub table_lies : LieInTouched (extents_of_table table) touched tree.wide p
    table_lies b some = let at = of_table table b some in by_table node.parts.table refl at.0 at.1 at.2
      where
        by_table : (o : Option TablePart) → node.parts.table ≡ o → table.place ≤ b → b < table.place + table_length table.entries → 0 < table.entries → LiesInTouched touched tree.wide p b
        by_table None e low high more = absurd (let none = entries ∙ ap entry_count e in omega (arith, none, more))
        by_table (Some t) e low high more =
            let same = place_is image core serial row found tree p m table named_by (Some t) e in
            let many = entries ∙ ap entry_count e in record {
              part = list_part t;
              live = table_live touched tree.wide p serial node.parts node.is.stands t e;
              open' = open' (list_part t) (table_among touched tree.wide p serial node.parts node.is.stands t e);
              low = omega (arith, low, same);
              high = omega (arith, high, same, many);
            }

    pub list_lies : Contains touched (header_extent tree.wide p serial) → LieInTouched (list_ranges row.place table) touched tree.wide p
    list_lies header = both_lie touched tree.wide p (range (row.place + 68) 28 ∷ []) (extents_of_table table) (fields_lie header 68 28 (omega arith)) table_lies

-- ---- the clauses of edits

-- of one tree and placement
pub reaches_at : (edit : Edit) (was now : Core) (ranges : List Extent) (x y : List ℕ) → WaitsInRoom ranges was.heap.work.heap now.heap.work.heap x y → (image : List ℕ) (tree : Tree) (p : Placement) → Means image tree p (memory_of was)
    → LieInTouched ranges (touched_extents tree p edit) tree.wide p → WaitsOnly (CanReach (touched_extents tree p edit) tree.wide p now.heap.work.heap.end) x y
reaches_at edit was now ranges x y w image tree p m lie = λ n waits. elim (w.only.only n waits) [
  | inl is ↦ inl is
  | inr at ↦ inr (
    at.byte,
    at.block,
    room_may_be_written image tree p (touched_extents tree p edit) ranges now.heap.work.heap m.laid_out (subst (λ (h : Heap). h.end ≤ now.heap.work.heap.end) (sym m.heap) w.grows) lie at.byte
        (subst (λ (h : Heap). 0 < cover (heap_fields ++ room ranges h now.heap.work.heap) at.byte) (sym m.heap) at.own),
  )
]

-- of each
pub reaches_room : (edit : Edit) (was now : Core) (ranges : List Extent) (x y : List ℕ) → WaitsInRoom ranges was.heap.work.heap now.heap.work.heap x y → (image : List ℕ)
    → ((tree : Tree) (p : Placement) → Means image tree p (memory_of was) → LieInTouched ranges (touched_extents tree p edit) tree.wide p) → Reaches edit was now x y image
reaches_room edit was now ranges x y w image lie tree p m = reaches_at edit was now ranges x y w image tree p m (lie tree p m)
