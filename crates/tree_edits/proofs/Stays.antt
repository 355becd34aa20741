-- The lists of free chunks stay where only bytes of live parts change.
use Rattle.std.proofs.Common.{◌≡◌, ℕ, zero, suc, refl, ap, subst, arith, List, [], ◌∷◌, ◌+◌, ◌*◌, ◌<◌, ◌≤◌}
use Rattle.std.specs.Prelude.{Some}
use Rattle.adf_format.specs.declared.types.Extent.{Extent}
use Rattle.adf_format.specs.HeapBytes.{ChangesOnly}
use Rattle.adf_format.specs.Tree.{Tree}
use Rattle.adf_format.specs.Tiles.{cover}
use Rattle.adf_format.specs.Parts.{node_length, table_length}
use Rattle.adf_format.specs.Placement.{Placement, NodeParts, TablePart, Heap, parts_of, head_extents, live_extents, node_extents, extents_of}
use Rattle.adf_format.specs.LaysOut.{LaysOut}
use Rattle.adf_format.proofs.HeapLaws.{in_range}
use Rattle.adf_model.proofs.Creation.CreatedNodes.{there_inside}
use Rattle.adf_model.proofs.Creation.PartsApart.{range_in, cover_part}
use Rattle.tree_laws.proofs.Holding.Steps.{from_layout, once}
use Rattle.tree_laws.proofs.Holding.OwnRanges.{least, own_split, own_live}
use Rattle.tree_laws.proofs.Edits.LabelDone.{range_holds}
use Rattle.field_access.specs.Fields.{range}
use Rattle.file_heap.specs.Beside.{AreBeside}
use Rattle.file_heap.specs.Heap.{FreeSpace, IsThreaded}
use Rattle.file_heap.proofs.Beside.{all_lists_stay}
use Rattle.file_heap.proofs.Ranges.{cover_kinds}

none_of : (n : ℕ) → (0 < n → ⊥) → n ≡ 0
none_of zero h = refl
none_of (suc n) h = absurd (h (omega arith))

module _ (holder image new : List ℕ) (tree : Tree) (p : Placement) (l : LaysOut holder tree p) (ranges : List Extent) (own : (b : ℕ) → 0 < cover ranges b → 0 < cover (live_extents tree.wide p) b) where
  apart : (b : ℕ) → 0 < cover head_extents b + cover p.heap.gaps b → cover ranges b ≡ 0
  apart b some = none_of (cover ranges b) (λ mine. let live = own b mine in let one = once holder tree p [] (from_layout holder tree p l) b in omega (arith, some, live, one))

  beside : AreBeside ranges p.heap.gaps
  beside = record {
    table = λ b low high. apart b (let held = range_in 186 80 b low high in omega (arith, held));
    chunks = λ b some. apart b (let kinds = cover_kinds b p.heap.gaps in omega (arith, kinds, some));
  }

  pub threads_stay : (free : FreeSpace) → p.heap ≡ free.heap → ChangesOnly ranges image new → IsThreaded free image → IsThreaded free new
  threads_stay free same changes threads =
      all_lists_stay ranges free (Some image) (Some new) changes (subst (λ (heap : Heap). AreBeside ranges heap.gaps) same beside) threads

-- bytes of a header are bytes of a live part
module _ (image : List ℕ) (tree : Tree) (p : Placement) (k : ℕ) (at : NodeParts) (l : LaysOut image tree p) (stands : parts_of p k ≡ Some at) where
  header_live : (b : ℕ) → 0 < in_range at.header (node_length tree.wide) b → 0 < cover (live_extents tree.wide p) b
  header_live b some =
      let part = cover_part (extents_of tree.wide) p.parts k b (there_inside p.parts k at stands) in
      let mine : cover (extents_of tree.wide (parts_of p k)) b ≡ cover (node_extents tree.wide at) b = ap (λ o. cover (extents_of tree.wide o) b) stands in
      omega (arith, part, mine, some)

  pub header_own : (place : ℕ) → at.header ≡ place → (from n : ℕ) → from + n ≤ 246 → (b : ℕ) → 0 < cover (range (place + from) n ∷ []) b → 0 < cover (live_extents tree.wide p) b
  header_own place same from n fits b some =
      let i = range_holds (place + from) n b (omega (arith, some)) in
      let long = least tree.wide in
      header_live b (let held = range_in at.header (node_length tree.wide) b (omega (arith, i.0, same)) (omega (arith, i.1, same, fits, long)) in omega (arith, held))

-- ... and so are bytes of an entry in its table
module _ (image : List ℕ) (tree : Tree) (p : Placement) (k : ℕ) (at : NodeParts) (l : LaysOut image tree p) (stands : parts_of p k ≡ Some at) (t : TablePart) (has : at.table ≡ Some t) where
  pub entry_own : (i : ℕ) → i < t.entries → (b : ℕ) → 0 < cover (range (t.place + 16 + 44 * i) 44 ∷ []) b → 0 < cover (live_extents tree.wide p) b
  entry_own i lt b some =
      let r = range_holds (t.place + 16 + 44 * i) 44 b (omega (arith, some)) in
      let held = range_in t.place (table_length t.entries) b (omega (arith, r.0)) (omega (arith, r.1, lt)) in
      let mine = own_split image tree p [] k at t (from_layout image tree p l) stands has b in
      let live = own_live image tree p [] k at t (from_layout image tree p l) stands has b in
      omega (arith, held, mine, live)

  pub table_own : (b : ℕ) → t.place ≤ b → b < t.place + table_length t.entries → 0 < cover (live_extents tree.wide p) b
  table_own b low high =
      let held = range_in t.place (table_length t.entries) b low high in
      let mine = own_split image tree p [] k at t (from_layout image tree p l) stands has b in
      let live = own_live image tree p [] k at t (from_layout image tree p l) stands has b in
      omega (arith, held, mine, live)
