-- Ranges that may be given: parts of them, and that the lists of free chunks stay where only their bytes change.
use Rattle.std.proofs.Common.{ℕ, arith, List, [], ◌∷◌, ◌+◌, ◌*◌, ◌<◌, ◌≤◌, Some}
use Rattle.adf_format.specs.declared.types.ExtentKind.{ExtentKind}
use Rattle.adf_format.specs.HeapBytes.{ChangesOnly}
use Rattle.adf_format.specs.Parts.{table_length}
use Rattle.adf_format.specs.Placement.{Heap, extent}
use Rattle.adf_format.proofs.ReachedLaws.{more_changes}
use Rattle.file_heap.specs.Heap.{FreeSpace, MayGive, IsThreaded}
use Rattle.file_heap.proofs.Beside.{all_lists_stay}
use Rattle.node_reads.specs.declared.header.ChildTable.{ChildTable}
use Rattle.tree_edits.specs.declared.listed.Listed.{Listed}
use Rattle.tree_edits.specs.declared.room.Parent.{Parent}
use Rattle.tree_edits.specs.Joined.{JoinsUnused}
use Rattle.tree_edits.specs.Left.{LeavesList, entry_place, length_behind}
use Rattle.tree_edits.proofs.LongerDone.{beside_of}
use Rattle.tree_moves.specs.Relisted.{MovesLast, IsListNear}

pub part_may : (from many f n : ℕ) (heap : Heap) → from ≤ f → f + n ≤ from + many → MayGive from many heap → MayGive f n heap
part_may from many f n heap low high may = record {
  low = let l = may.low in omega (arith, l, low);
  high = let h = may.high in omega (arith, h, high);
  apart = λ b here there. may.apart b (omega (arith, low, here)) (omega (arith, high, there));
}

pub stays : (kind : ExtentKind) (from many : ℕ) (free : FreeSpace) (a b : List ℕ) → MayGive from many free.heap → ChangesOnly (extent kind from many ∷ []) a b → IsThreaded free a → IsThreaded free b
stays kind from many free a b may only threads =
    all_lists_stay (extent ExtentKind.Node from many ∷ []) free (Some a) (Some b) (more_changes (extent kind from many ∷ []) (extent ExtentKind.Node from many ∷ []) a b (λ k none. none) only) (beside_of from many free.heap may) threads

-- the table of a list may be given, and its header's fields
pub record OwnsList (header : ℕ) (table : ChildTable) (heap : Heap) : Type 0 where
  pub fields : MayGive (header + 68) 28 heap
  pub own : MayGive table.place (table_length table.entries) heap

module _ (free : FreeSpace) where
  pub stays_left : (header : ℕ) (listed : Listed) (a b : List ℕ) → OwnsList header listed.table free.heap → IsListNear listed → LeavesList header listed a b → IsThreaded free a → IsThreaded free b
  stays_left header listed a b own near w threads =
      stays ExtentKind.Node (header + 68) 8 free w.0 b (part_may (header + 68) 28 (header + 68) 8 free.heap (omega arith) (omega arith) own.fields) w.2.only
      (stays ExtentKind.Node (entry_place listed) (length_behind listed) free a w.0
      (part_may listed.table.place (table_length listed.table.entries) (entry_place listed) (length_behind listed) free.heap (omega arith) (let lt = near.within in let few = near.few in omega (arith, lt, few)) own.own) w.1.only threads)

  pub stays_last : (header : ℕ) (listed : Listed) (entry a b : List ℕ) → OwnsList header listed.table free.heap → IsListNear listed → MovesLast listed entry a b → IsThreaded free a → IsThreaded free b
  stays_last header listed entry a b own near w threads =
      stays ExtentKind.SubNodes (entry_place listed + length_behind listed) 44 free w.0 b
      (part_may listed.table.place (table_length listed.table.entries) (entry_place listed + length_behind listed) 44 free.heap (omega arith) (let lt = near.within in let few = near.few in omega (arith, lt, few)) own.own) w.2.only
      (stays ExtentKind.Node (entry_place listed) (length_behind listed) free a w.0
      (part_may listed.table.place (table_length listed.table.entries) (entry_place listed) (length_behind listed) free.heap (omega arith) (let lt = near.within in let few = near.few in omega (arith, lt, few)) own.own) w.1.only threads)

  pub stays_joined : (parent : Parent) (entry a b : List ℕ) → OwnsList parent.row.place parent.table free.heap → parent.table.count < parent.table.entries → JoinsUnused parent entry a b → IsThreaded free a → IsThreaded free b
  stays_joined parent entry a b own unused w threads =
      stays ExtentKind.Node (parent.row.place + 68) 8 free w.0 b (part_may (parent.row.place + 68) 28 (parent.row.place + 68) 8 free.heap (omega arith) (omega arith) own.fields) w.2.only
      (stays ExtentKind.SubNodes (parent.table.place + 16 + 44 * parent.table.count) 44 free a w.0
      (part_may parent.table.place (table_length parent.table.entries) (parent.table.place + 16 + 44 * parent.table.count) 44 free.heap (omega arith) (omega (arith, unused)) own.own) w.1.only threads)
