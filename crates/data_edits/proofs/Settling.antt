-- The data of a node became others, and its header is written: what the file then holds beside the header.
use Rattle.std.proofs.Common.{◌≡◌, inl, inr, ℕ, zero, suc, refl, sym, ap, subst, arith, List, [], ◌∷◌, ◌++◌, length, ◌+◌, ◌-◌, ◌^◌, ◌<◌, ◌≤◌, Bool, true, false, Option, None, Some}
use Rattle.std.specs.Prelude.{Result, Ok}
use Rattle.std.specs.List.{AllByRecursion}
use Rattle.adf_format.specs.declared.types.Extent.{Extent}
use Rattle.adf_format.specs.Changes.{AllApart, KeepsBut, heap_fields}
use Rattle.adf_format.specs.Fields.{field}
use Rattle.adf_format.specs.HeapBytes.{ChangesOnly}
use Rattle.adf_format.specs.HeapRule.{LimitReached, data_extents}
use Rattle.adf_format.specs.LaysOut.{LaysOut, HasChunkTable, chunk_pointer, fields_of}
use Rattle.adf_format.specs.Parts.{SpellsNode, SpellsChunk, node_length, chunk_table_length}
use Rattle.adf_format.specs.Placement.{Placement, NodeParts, ChunkPart, Heap, parts_of, chunk_table_extents, chunk_extents}
use Rattle.adf_format.specs.Pointer.{place_value}
use Rattle.adf_format.specs.Spelled.{IsInReach}
use Rattle.adf_format.specs.Tiles.{cover}
use Rattle.adf_format.specs.Tree.{Tree, Node}
use Rattle.adf_format.proofs.BehindEnd.{long_chunk_table, long_chunks}
use Rattle.adf_format.proofs.FrameLaws.{field_kept, chunk_table_kept, chunks_kept, data_kept}
use Rattle.adf_format.proofs.HeapLaws.{in_range}
use Rattle.adf_format.proofs.HeapSteps.{cover-append}
use Rattle.adf_format.proofs.ReachedLaws.{more_changes, later_changes}
use Rattle.adf_model.specs.NodeData.{HoldsData, SharesRoom, grown_range}
use Rattle.adf_model.proofs.Creation.PartsApart.{range_in, range_out, range_within, all_apart, cover_all}
use Rattle.adf_model.proofs.Walks.WalkCounts.{place_small}
use Rattle.adf_model.proofs.Writes.DataRoom.{resized_room, released_room}
use Rattle.adf_model.proofs.Writes.Reaches.{less_or}
use Rattle.adf_data.specs.declared.place.DataPlace.{DataPlace}
use Rattle.adf_data.specs.Growing.{sized_ranges}
use Rattle.file_heap.specs.Beside.{AreBeside}
use Rattle.file_heap.specs.Heap.{FreeSpace, IsThreaded}
use Rattle.file_heap.proofs.Beside.{all_lists_stay, ends_stay, all_fillers_stay}
use Rattle.file_heap.proofs.Chunks.{threads_chunks}
use Rattle.file_heap.proofs.Ranges.{cover_kinds}
use Rattle.tree_laws.specs.DataSwitch.{with_data}
use Rattle.tree_laws.specs.Holding.{ChangesIn}
use Rattle.tree_laws.specs.MidEdit.{room}
use Rattle.tree_laws.proofs.Data.DataSwitched.{data_reach}
use Rattle.tree_laws.proofs.Data.ShapeSet.{own_live, header_ends}
use Rattle.tree_laws.proofs.Holding.Steps.{from_layout, once, up_to_end}
use Rattle.tree_laws.proofs.Whole.Mid.{in_old}
use Rattle.data_edit_laws.specs.Settled.{Settles}
use Rattle.data_edit_laws.proofs.Placed.{resized_data}
use Rattle.data_edits.specs.Becomes.{Becomes, spot_after}

no_more : (n : ℕ) → (0 < n → ⊥) → n ≡ 0
no_more zero h = refl
no_more (suc n) h = absurd (h (omega arith))

-- ---- where the rule puts the data

same_place : (a b : NodeParts × Heap) → ◌≡◌ {A = Result (NodeParts × Heap) LimitReached} (Ok a) (Ok b) → a ≡ b
same_place a b e = cc

pub rises : (limit : ℕ) (wanted : Option (List ℕ)) (spot after : NodeParts × Heap) → spot_after limit wanted spot ≡ Ok after → (spot.1.end ≤ after.1.end) × SharesRoom spot after
rises limit None spot after e = subst (λ (x : NodeParts × Heap). (spot.1.end ≤ x.1.end) × SharesRoom spot x) (same_place _ after e) ((let r = (released_room spot).0 in omega (arith, r)), (released_room spot).1)
rises limit (Some bytes) spot after e = resized_room limit (length bytes) spot after e

pub only_data : (limit : ℕ) (wanted : Option (List ℕ)) (spot after : NodeParts × Heap) → spot_after limit wanted spot ≡ Ok after → after.0 ≡ with_data spot.0 after.0.chunks after.0.chunk_table
only_data limit None spot after e = subst (λ (x : NodeParts × Heap). x.0 ≡ with_data spot.0 x.0.chunks x.0.chunk_table) (same_place _ after e) refl
only_data limit (Some bytes) spot after e = resized_data limit (length bytes) spot after e

-- a pointer can name chunks that are spelled
module _ (image : List ℕ) where
  abbrev AllSpelled : List ChunkPart → Type 0
  AllSpelled chunks = AllByRecursion (λ (c : ChunkPart). SpellsChunk (field image c.place c.length) c.place c.length) chunks

  one_in_reach : (chunks : List ChunkPart) → AllSpelled chunks → IsInReach (chunk_pointer chunks None)
  one_in_reach [] all = tt
  one_in_reach (c ∷ cs) all =
      let end : c.place + c.length - 4 < 2 ^ 44 = subst (λ k. k < 2 ^ 44) (ap place_value all.0.framed.end_pointer) (place_small (field (field image c.place c.length) 4 12)) in
      let long : 21 ≤ c.length = all.0.long in omega (arith, end, long)

  all_in_reach : (chunks : List ChunkPart) (table : Option ℕ) → HasChunkTable image chunks table → AllSpelled chunks → IsInReach (chunk_pointer chunks table)
  all_in_reach chunks None t all = one_in_reach chunks all
  all_in_reach chunks (Some place) t all =
      let end : place + chunk_table_length (length chunks) - 4 < 2 ^ 44 = subst (λ k. k < 2 ^ 44) (ap place_value t.1.end_pointer) (place_small (field (field image place (chunk_table_length (length chunks))) 4 12)) in
      omega (arith, end)

  pub in_reach : (parts : NodeParts) (bytes : Option (List ℕ)) → HoldsData image parts bytes → IsInReach (chunk_pointer parts.chunks parts.chunk_table)
  in_reach parts bytes h = all_in_reach parts.chunks parts.chunk_table h.chunk_table h.chunks

-- ---- what is written in the header meets no data and no gap

module _ (image mid new : List ℕ) (tree : Tree) (p : Placement) (l : LaysOut image tree p) (s : ℕ) (from : NodeParts) (stands : parts_of p s ≡ Some from)
    (limit : ℕ) (wanted : Option (List ℕ)) (now : DataPlace) (later : FreeSpace) (b : Becomes limit wanted from now p.heap later image mid)
    (ranges : List Extent) (c : ChangesOnly ranges mid new) (in_header : (k : ℕ) → 0 < cover ranges k → 0 < in_range from.header (node_length tree.wide) k) where
  abbrev to : NodeParts
  to = b.after

  rise : p.heap.end ≤ later.heap.end
  rise = (rises limit wanted (from, p.heap) (to, later.heap) b.placed).0

  share : SharesRoom (from, p.heap) (to, later.heap)
  share = (rises limit wanted (from, p.heap) (to, later.heap) b.placed).1

  one_each : (k : ℕ) → in_range 0 186 k + in_range 186 80 k + (in_range from.header (node_length tree.wide) k + cover (data_extents from) k) + cover p.heap.gaps k ≤ 1
  one_each k =
      let one = once image tree p [] (from_layout image tree p l) k in
      let live = own_live image tree p [] s from (from_layout image tree p l) stands k in
      omega (arith, one, live)

  up : (k : ℕ) → 0 < in_range from.header (node_length tree.wide) k → k ≤ p.heap.end
  up k some = up_to_end image tree p [] (from_layout image tree p l) k (
      let live = own_live image tree p [] s from (from_layout image tree p l) stands k in
      let all = cover_all tree.wide p k in omega (arith, live, all, some))

  not_grown : (k : ℕ) → k ≤ p.heap.end → in_range (p.heap.end + 1) (later.heap.end - p.heap.end) k ≡ 0
  not_grown k le = range_out (p.heap.end + 1) (later.heap.end - p.heap.end) k (inl (omega (arith, le)))

  -- a byte of the header is none of the data and of the gaps, before and after
  pub header_free : (k : ℕ) → 0 < in_range from.header (node_length tree.wide) k → cover (data_extents to) k + cover later.heap.gaps k ≡ 0
  header_free k some =
      let one = one_each k in
      let g = not_grown k (up k some) in
      let share = share k in
      let x = cover-append (data_extents to) later.heap.gaps k in
      let y = cover-append (data_extents from) p.heap.gaps k in
      omega (arith, one, g, share, x, y, some)

  clear : (k : ℕ) → in_range from.header (node_length tree.wide) k ≡ 0 → cover ranges k ≡ 0
  clear k none = no_more (cover ranges k) (λ some. let i = in_header k some in absurd (omega (arith, i, none)))

  apart : (k : ℕ) → 0 < cover (data_extents to) k + cover later.heap.gaps k → cover ranges k ≡ 0
  apart k some = clear k (no_more (in_range from.header (node_length tree.wide) k) (λ header. let free = header_free k header in absurd (omega (arith, free, some))))

  -- ---- the header as it was

  header_end : from.header + node_length tree.wide ≤ length image
  header_end = header_ends image tree p [] s from (from_layout image tree p l) stands

  pub header_stays : field mid from.header (node_length tree.wide) ≡ field image from.header (node_length tree.wide)
  header_stays = field_kept (node_length tree.wide) from.header image mid (λ k low high.
      let held = range_in from.header (node_length tree.wide) k low high in
      let one = one_each k in
      let g = not_grown k (up k (omega (arith, held))) in
      let x = cover-append heap_fields (data_extents from ++ grown_range p.heap later.heap ∷ p.heap.gaps) k in
      let y = cover-append (data_extents from) (grown_range p.heap later.heap ∷ p.heap.gaps) k in
      let f = fields k in
      (in_old (sized_ranges from p.heap later.heap) image mid b.changes).others k (let e = header_end in omega (arith, high, e)) (omega (arith, held, one, g, x, y, f)))
    where
      fields : (k : ℕ) → cover heap_fields k ≤ in_range 0 186 k + in_range 186 80 k
      fields k = let w = range_within 0 186 146 12 k (omega arith) (omega arith) in omega (arith, w)

  pub header_reaches : from.header + node_length tree.wide ≤ length mid
  header_reaches = let e = header_end in let longer = b.changes.longer in omega (arith, e, longer)

  -- ---- what stays

  changes : ChangesIn ranges mid new
  changes = in_old ranges mid new c

  keeps : KeepsBut ranges (length mid - 1) mid new
  keeps k le none = changes.others k (let e = header_reaches in let some = least tree.wide in omega (arith, le, e, some)) none
    where
      least : (wide : Bool) → 246 ≤ node_length wide
      least false = omega arith
      least true = omega arith

  far : (xs : List Extent) → ((k : ℕ) → cover xs k ≤ cover (data_extents to) k) → (k : ℕ) → 0 < cover xs k → (k ≤ length mid - 1) × (cover ranges k ≡ 0)
  far xs among k some = elim (less_or k (length mid)) [
    | inl lt ↦ (omega (arith, lt), apart k (let a = among k in omega (arith, a, some)))
    | inr le ↦ absurd (let z = data_reach mid to wanted b.holds k le in let a = among k in omega (arith, z, a, some))
  ]

  split : (k : ℕ) → cover (data_extents to) k ≡ cover (chunk_table_extents to.chunk_table (length to.chunks)) k + cover (chunk_extents to.chunks) k
  split k = cover-append (chunk_table_extents to.chunk_table (length to.chunks)) (chunk_extents to.chunks) k

  table_apart : AllApart ranges (length mid - 1) (chunk_table_extents to.chunk_table (length to.chunks))
  table_apart = all_apart ranges (length mid - 1) (chunk_table_extents to.chunk_table (length to.chunks)) (long_chunk_table to.chunk_table (length to.chunks)) (far (chunk_table_extents to.chunk_table (length to.chunks)) (λ k. let e = split k in omega (arith, e)))

  chunks_apart : AllApart ranges (length mid - 1) (chunk_extents to.chunks)
  chunks_apart = all_apart ranges (length mid - 1) (chunk_extents to.chunks) (long_chunks mid to.chunks b.holds.chunks) (far (chunk_extents to.chunks) (λ k. let e = split k in omega (arith, e)))

  pub still_holds : HoldsData new to wanted
  still_holds = record {
    chunk_table = chunk_table_kept ranges (length mid - 1) mid new keeps to.chunks to.chunk_table table_apart b.holds.chunk_table;
    chunks = chunks_kept ranges (length mid - 1) mid new keeps to.chunks chunks_apart b.holds.chunks;
    begins = data_kept ranges (length mid - 1) mid new keeps to.chunks wanted chunks_apart b.holds.begins;
  }

  beside : AreBeside ranges later.heap.gaps
  beside = record {
    table = λ k low high. clear k (let one = one_each k in let held = range_in 186 80 k low (omega (arith, high)) in omega (arith, one, held));
    chunks = λ k some. apart k (let kinds = cover_kinds k later.heap.gaps in omega (arith, kinds, some));
  }

  pub still_threaded : IsThreaded later new
  still_threaded = all_lists_stay ranges later (Some mid) (Some new) c beside b.threads

  -- the node as it is now, with its header
  pub settles : (mine : List Extent) (wide : Bool) (after : Node) → ((k : ℕ) → cover ranges k + cover (data_extents from) k ≤ cover mine k)
      → SpellsNode wide (field new from.header (node_length wide)) (fields_of after to) → after.bytes ≡ wanted
      → Settles mine wide after from to.chunks to.chunk_table p.heap later.heap image new
  settles mine wide after all says bytes = record {
    changes = later_changes (heap_fields ++ room mine p.heap later.heap) image mid new
        (more_changes (sized_ranges from p.heap later.heap) (heap_fields ++ room mine p.heap later.heap) image mid (λ k none.
        let x = cover-append heap_fields (data_extents from ++ grown_range p.heap later.heap ∷ p.heap.gaps) k in
        let y = cover-append (data_extents from) (grown_range p.heap later.heap ∷ p.heap.gaps) k in
        let z = cover-append heap_fields (room mine p.heap later.heap) k in
        let w = cover-append p.heap.gaps (grown_range p.heap later.heap ∷ mine) k in
        let a = all k in omega (arith, x, y, z, w, a, none)) b.changes)
        (more_changes ranges (heap_fields ++ room mine p.heap later.heap) mid new (λ k none.
        let z = cover-append heap_fields (room mine p.heap later.heap) k in
        let w = cover-append p.heap.gaps (grown_range p.heap later.heap ∷ mine) k in
        let a = all k in omega (arith, z, w, a, none)) c);
    rise = rise;
    share = subst (λ (x : NodeParts). SharesRoom (from, p.heap) (x, later.heap)) same share;
    header = subst (λ (x : NodeParts). SpellsNode wide (field new from.header (node_length wide)) (fields_of after x)) same says;
    holds = subst (λ (x : NodeParts). HoldsData new x after.bytes) same (subst (HoldsData new to) (sym bytes) still_holds);
    order = b.order;
    threads = threads_chunks later new still_threaded;
    end = λ points. ends_stay ranges later later.heap.end (Some mid) (Some new) c (λ k low high. clear k (let one = one_each k in let held = range_in 0 186 k (omega arith) (omega (arith, high)) in omega (arith, one, held))) b.threads (b.end points);
    fillers = λ held. all_fillers_stay ranges later.heap.gaps (Some mid) (Some new) c (λ k some. apart k (let kinds = cover_kinds k later.heap.gaps in omega (arith, kinds, some))) (b.fillers held);
  }
    where
      same : to ≡ with_data from to.chunks to.chunk_table
      same = only_data limit wanted (from, p.heap) (to, later.heap) b.placed
