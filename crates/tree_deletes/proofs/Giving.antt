-- Parts of nodes that are given one after another, and what stands of those that are left.
use Rattle.std.proofs.Common.{◌≡◌, ◌⊎◌, inl, inr, ℕ, refl, sym, ◌∙◌, ap, subst, arith, List, [], ◌∷◌, ◌++◌, length, ◌+◌, ◌<◌, ◌≤◌, le_refl, codes, Bool, Option, None, Some}
use Rattle.std.specs.Prelude.{slice_get, slice_index, IfSome, nat_lt, if◌then◌else◌}
use Rattle.std.proofs.lemmas.List.{append_assoc}
use Rattle.std.specs.List.{AllByRecursion}
use Rattle.adf_format.specs.declared.types.Extent.{Extent}
use Rattle.adf_format.specs.declared.types.ExtentKind.{ExtentKind}
use Rattle.adf_format.specs.Changes.{heap_fields}
use Rattle.adf_format.specs.Fields.{field}
use Rattle.adf_format.specs.HeapBytes.{ChangesOnly, MovesEnd, KeepsFillers}
use Rattle.adf_format.specs.HeapRule.{heap_give, give_all, data_extents}
use Rattle.adf_format.specs.LaysOut.{HasChunkTable}
use Rattle.adf_format.specs.Parts.{node_length, table_length, chunk_table_length, SpellsChunkEntry, IsFramed}
use Rattle.adf_format.specs.Placement.{Heap, NodeParts, ChunkPart, extent, table_extents, chunk_extents, chunk_table_extents, node_extents}
use Rattle.adf_format.specs.Tiles.{cover, end_of}
use Rattle.adf_format.proofs.FrameLaws.{field_kept}
use Rattle.adf_format.proofs.HeapLaws.{in_range}
use Rattle.adf_format.proofs.HeapSteps.{cover-append}
use Rattle.adf_format.proofs.ReachedLaws.{still_changes, more_changes}
use Rattle.adf_model.proofs.Creation.PartsApart.{range_in, range_out}
use Rattle.adf_model.proofs.Writes.Reaches.{less_or}
use Rattle.adf_data.specs.declared.place.DataPlace.{DataPlace}
use Rattle.adf_data.specs.Chunks.{AreNamed, Named}
use Rattle.adf_data.specs.Sizes.{MayGiveAll}
use Rattle.adf_data.proofs.DataLaws.{spelled_in}
use Rattle.adf_data.proofs.Listing.{framed_within}
use Rattle.adf_data.proofs.ReleaseLaws.{given_both, may_second, both_bytes}
use Rattle.adf_data.proofs.StayLaws.{chunks_kept, byte_kept, frame_within, frame_covered}
use Rattle.cg_io.specs.Blocks.{Both}
use Rattle.file_heap.specs.Heap.{FreeSpace, IsThreaded}
use Rattle.file_heap.specs.Links.{range}
use Rattle.node_reads.specs.declared.header.ChildTable.{ChildTable}
use Rattle.tree_laws.proofs.Edits.LabelDone.{range_holds}
use Rattle.tree_edits.specs.Joined.{extents_of_table}
use Rattle.tree_edits.proofs.Giving.{some_entries}
use Rattle.tree_deletes.specs.declared.doomed.Doomed.{Doomed}
use Rattle.tree_deletes.specs.Doomed.{Stands}
use Rattle.tree_deletes.specs.Given.{GivesTogether, AllStand, parts_extents, GivesNode}

-- ---- one range, none, and one list after another

module _ (kind : ExtentKind) (place n : ℕ) (was now : FreeSpace) (gives : now.heap ≡ heap_give place n was.heap) where
  one_given : (old new : List ℕ) → IsThreaded now new → ChangesOnly (heap_fields ++ range place n ∷ was.heap.gaps) old new → MovesEnd was.heap.end now.heap.end old new → KeepsFillers was.heap.gaps now.heap.gaps old new
      → GivesTogether (extent kind place n ∷ []) was now old new
  one_given old new threads c end fillers = record {
    heap = gives;
    changes = more_changes (heap_fields ++ range place n ∷ was.heap.gaps) (heap_fields ++ extent kind place n ∷ was.heap.gaps) old new (λ b none. none) c;
    end = end;
    fillers = fillers;
    threads = threads;
  }

  pub range_given : (old new : Option (List ℕ)) → IfSome new (IsThreaded now) → Both (ChangesOnly (heap_fields ++ range place n ∷ was.heap.gaps)) old new → Both (MovesEnd was.heap.end now.heap.end) old new → Both (KeepsFillers was.heap.gaps now.heap.gaps) old new
      → Both (GivesTogether (extent kind place n ∷ []) was now) old new
  range_given None None threads c end fillers = tt
  range_given None (Some new) threads c end fillers = c
  range_given (Some old) None threads c end fillers = c
  range_given (Some old) (Some new) threads c end fillers = one_given old new threads c end fillers

pub none_given : (es : List Extent) (was : FreeSpace) (held : Option (List ℕ)) → es ≡ [] → IfSome held (IsThreaded was) → Both (GivesTogether es was was) held held
none_given es was None none threads = tt
none_given es was (Some image) none threads = subst (λ xs. GivesTogether xs was was image image) (sym none) (record { heap = refl; changes = still_changes (heap_fields ++ was.heap.gaps) image; end = λ h. h; fillers = λ h. h; threads = threads })

pub given_then : (es fs : List Extent) (w m n : FreeSpace) (a b c : List ℕ) → GivesTogether es w m a b → GivesTogether fs m n b c → GivesTogether (es ++ fs) w n a c
given_then es fs w m n a b c g h = record {
  heap = h.heap ∙ ap (give_all fs) g.heap ∙ sym (given_both es fs w.heap);
  changes = both_bytes es fs w.heap (Some a) (Some b) (Some c) g.changes (subst (λ (x : Heap). ChangesOnly (heap_fields ++ fs ++ x.gaps) b c) g.heap h.changes);
  end = λ x. h.end (g.end x);
  fillers = λ x. h.fillers (g.fillers x);
  threads = h.threads;
}

-- ---- the parts of a node: its header and its table, and its data

abbrev pub front : Bool → NodeParts → List Extent
front wide parts = extent ExtentKind.Node parts.header (node_length wide) ∷ table_extents parts.table

pub node_is : (wide : Bool) (parts : NodeParts) → node_extents wide parts ≡ front wide parts ++ data_extents parts
node_is wide parts =
    ap (λ (es : List Extent). extent ExtentKind.Node parts.header (node_length wide) ∷ es) (append_assoc (table_extents parts.table) (chunk_table_extents parts.chunk_table (length parts.chunks)) (chunk_extents parts.chunks))

-- ---- what stands of the others

low_of : (heap : Heap) (xs : List Extent) → AllByRecursion (λ (e : Extent). (266 ≤ e.place) × (end_of e ≤ heap.end + 1)) xs → (b : ℕ) → 0 < cover xs b → 266 ≤ b
low_of heap [] all b some = absurd (omega (arith, some))
low_of heap (x ∷ xs) all b some = by_range (less_or 0 (in_range x.place x.length b)) (λ more. low_of heap xs all.1 b more)
  where
    by_range : (0 < in_range x.place x.length b) ⊎ (in_range x.place x.length b ≤ 0) → (0 < cover xs b → 266 ≤ b) → 266 ≤ b
    by_range (inl held) rest = let r = range_holds x.place x.length b held in let l = all.0.0 in let m = r.0 in omega (arith, l, m)
    by_range (inr none) rest = rest (omega (arith, some, none))

module _ (es fs : List Extent) (heap : Heap) (may : MayGiveAll (es ++ fs) heap) (old new : List ℕ) (c : ChangesOnly (heap_fields ++ es ++ heap.gaps) old new) where
  pub other_byte : (b : ℕ) → 0 < cover fs b → slice_index new b ≡ slice_index old b
  other_byte b some = c.others b (
      let later = may_second es fs heap may in
      let low = low_of (give_all es heap) fs later.within b some in
      let o = may.once b in
      let p = cover-append (es ++ fs) heap.gaps b in
      let q = cover-append es fs b in
      let r = cover-append heap_fields (es ++ heap.gaps) b in
      let s = cover-append es heap.gaps b in
      let t = range_out 146 12 b (inr (omega (arith, low))) in
      let u = range_out 186 80 b (inr (omega (arith, low))) in
      omega (arith, some, o, p, q, r, s, t, u))

-- the bytes of some ranges are those that they were
module _ (fs : List Extent) (old new : List ℕ) (longer : length old ≤ length new) (same_byte : (b : ℕ) → 0 < cover fs b → slice_index new b ≡ slice_index old b) where
  module _ (parts : NodeParts) (own : (b : ℕ) → cover (data_extents parts) b ≤ cover fs b) where
    split : (b : ℕ) → cover (data_extents parts) b ≡ cover (chunk_table_extents parts.chunk_table (length parts.chunks)) b + cover (chunk_extents parts.chunks) b
    split b = cover-append (chunk_table_extents parts.chunk_table (length parts.chunks)) (chunk_extents parts.chunks) b

    table_stays : HasChunkTable old parts.chunks parts.chunk_table → HasChunkTable new parts.chunks parts.chunk_table
    table_stays h = by_table parts.chunk_table refl h
      where
        by_table : (o : Option ℕ) → parts.chunk_table ≡ o → HasChunkTable old parts.chunks o → HasChunkTable new parts.chunks o
        by_table None e h = h
        by_table (Some t) e h =
            let n : ℕ = chunk_table_length (length parts.chunks) in
            let within : t + n ≤ length old = framed_within old (codes "DCtb") (codes "dcTE") t n (omega arith) refl h.1 in
            let same : field new t n ≡ field old t n =
            field_kept n t old new (λ b low high. byte_kept old new b longer (omega (arith, within, high)) (same_byte b (
            let held = range_in t n b low high in
            let s : cover (data_extents parts) b ≡ cover (chunk_table_extents (Some t) (length parts.chunks)) b + cover (chunk_extents parts.chunks) b = split b ∙ ap (λ (o : Option ℕ). cover (chunk_table_extents o (length parts.chunks)) b + cover (chunk_extents parts.chunks) b) e in
            let k = own b in omega (arith, held, s, k)))) in
            subst (λ (bytes : List ℕ). (2 ≤ length parts.chunks) × IsFramed bytes t n (codes "DCtb") (codes "dcTE") × ((i : ℕ) (x : ChunkPart) → slice_get parts.chunks i ≡ Some x → SpellsChunkEntry bytes i x.place x.length)) (sym same) h

    pub named_stays : (at : DataPlace) → AreNamed at parts old → AreNamed at parts new
    named_stays at n =
        let within = spelled_in old parts.chunks n.chunks in
        record {
          count = n.count;
          pointer = n.pointer;
          chunk_table = table_stays n.chunk_table;
          chunks = chunks_kept old new parts.chunks within
              (λ b f. byte_kept old new b longer (frame_within parts.chunks b old within f) (same_byte b (let s = split b in let k = own b in let v = frame_covered parts.chunks b old within f in omega (arith, s, k, v)))) n.chunks;
        }

  pub all_stand_stay : (wide : Bool) (parts : List NodeParts) (ds : List Doomed) → ((b : ℕ) → cover (parts_extents wide parts) b ≤ cover fs b) → AllStand old parts ds → AllStand new parts ds
  all_stand_stay wide [] [] own s = tt
  all_stand_stay wide [] (d ∷ ds) own s = s
  all_stand_stay wide (p ∷ ps) [] own s = s
  all_stand_stay wide (p ∷ ps) (d ∷ ds) own s = (
    record {
      header = s.0.header;
      table = s.0.table;
      chunks = named_stays p (λ b. let k = own b in let x = cover-append (node_extents wide p) (parts_extents wide ps) b in let e = ap (λ es. cover es b) (node_is wide p) in let y = cover-append (front wide p) (data_extents p) b in omega (arith, k, x, e, y)) d.chunks s.0.chunks;
    },
    all_stand_stay wide ps ds (λ b. let k = own b in let x = cover-append (node_extents wide p) (parts_extents wide ps) b in omega (arith, k, x)) s.1,
  )

-- ---- one node

-- the data that a place names are given
abbrev pub GivesData : DataPlace → FreeSpace → FreeSpace → List ℕ → List ℕ → Type 0
GivesData at was now old new = (parts : NodeParts) → AreNamed at parts old → GivesTogether (data_extents parts) was now old new

module _ (wide : Bool) (d : Doomed) (w0 w1 w2 w3 : FreeSpace) where
  module _ (a b c z : List ℕ) (header : GivesTogether (extent ExtentKind.Node d.place (node_length wide) ∷ []) w0 w1 a b) (table : GivesTogether (extents_of_table d.table) w1 w2 b c) (parts : NodeParts) (s : Stands a parts d) where
    front_given : GivesTogether (front wide parts) w0 w2 a c
    front_given =
        given_then (extent ExtentKind.Node parts.header (node_length wide) ∷ []) (table_extents parts.table) w0 w1 w2 a b c
        (subst (λ k. GivesTogether (extent ExtentKind.Node k (node_length wide) ∷ []) w0 w1 a b) s.header header) (subst (λ es. GivesTogether es w1 w2 b c) s.table table)

    module _ (may : MayGiveAll (node_extents wide parts) w0.heap) where
      parted : MayGiveAll (front wide parts ++ data_extents parts) w0.heap
      parted = subst (λ es. MayGiveAll es w0.heap) (node_is wide parts) may

      pub named_then : AreNamed d.chunks parts c
      named_then =
          named_stays (data_extents parts) a c (let g = front_given in let k = g.changes in k.longer) (other_byte (front wide parts) (data_extents parts) w0.heap parted a c (let g = front_given in g.changes)) parts
          (λ k. le_refl (cover (data_extents parts) k)) d.chunks s.chunks

      pub may_then : MayGiveAll (data_extents parts) w2.heap
      may_then = subst (MayGiveAll (data_extents parts)) (sym (let g = front_given in g.heap)) (may_second (front wide parts) (data_extents parts) w0.heap parted)

      all_given : GivesData d.chunks w2 w3 c z → GivesTogether (node_extents wide parts) w0 w3 a z
      all_given rest = subst (λ es. GivesTogether es w0 w3 a z) (sym (node_is wide parts)) (given_then (front wide parts) (data_extents parts) w0 w2 w3 a c z front_given (rest parts named_then))

  pub node_given : (a b c z : Option (List ℕ)) → Both (GivesTogether (extent ExtentKind.Node d.place (node_length wide) ∷ []) w0 w1) a b → Both (GivesTogether (extents_of_table d.table) w1 w2) b c → Both (GivesData d.chunks w2 w3) c z → Both (GivesNode wide d w0 w3) a z
  node_given None None None None h t x = tt
  node_given None None None (Some z) h t x = x
  node_given None None (Some c) z h t x = absurd t
  node_given None (Some b) c z h t x = absurd h
  node_given (Some a) None c z h t x = absurd h
  node_given (Some a) (Some b) None z h t x = absurd t
  node_given (Some a) (Some b) (Some c) None h t x = x
  node_given (Some a) (Some b) (Some c) (Some z) h t x = λ parts s may. all_given a b c z h t parts s may x

-- what a release says of the data that a place names
pub data_given : (at : DataPlace) (was now : FreeSpace) (old new : Option (List ℕ)) → ((parts : NodeParts) → Named at parts old → now.heap ≡ give_all (data_extents parts) was.heap) → IfSome new (IsThreaded now)
    → ((parts : NodeParts) → Named at parts old → Both (ChangesOnly (heap_fields ++ data_extents parts ++ was.heap.gaps)) old new) → Both (MovesEnd was.heap.end now.heap.end) old new → Both (KeepsFillers was.heap.gaps now.heap.gaps) old new → Both (GivesData at was now) old new
data_given at was now None None gives threads changes end fillers = tt
data_given at was now None (Some new) gives threads changes end fillers = end
data_given at was now (Some old) None gives threads changes end fillers = end
data_given at was now (Some old) (Some new) gives threads changes end fillers = λ parts n. record {
  heap = gives parts n;
  changes = changes parts n;
  end = end;
  fillers = fillers;
  threads = threads;
}

-- the extent of a table that has entries
pub one_table : (table : ChildTable) (n : ℕ) → (table.entries ≡ 0 → ⊥) → n ≡ table_length table.entries → extent ExtentKind.SubNodes table.place n ∷ [] ≡ extents_of_table table
one_table table n some long =
    ap (λ k. extent ExtentKind.SubNodes table.place k ∷ []) long
    ∙ sym (ap (λ (b : Bool). if b then extent ExtentKind.SubNodes table.place (table_length table.entries) ∷ [] else []) (some_entries table.entries some))

pub no_table : (table : ChildTable) → table.entries ≡ 0 → extents_of_table table ≡ []
no_table table none = ap (λ k. if nat_lt 0 k then extent ExtentKind.SubNodes table.place (table_length k) ∷ [] else []) none
