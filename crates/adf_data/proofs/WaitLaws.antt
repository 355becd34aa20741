-- Blocks that wait anew have bytes of what may change, where the bytes are told of which that comes.
use Rattle.std.proofs.Common.{◌≡◌, ℕ, ◌+◌, ◌*◌, ◌<◌, ◌≤◌, arith, List, [], ◌∷◌, ◌++◌, length, take, sym, subst}
use Rattle.std.specs.Prelude.{Option, Some, None}
use Rattle.adf_format.specs.declared.types.Extent.{Extent}
use Rattle.adf_format.specs.Tiles.{cover}
use Rattle.adf_format.specs.Placement.{Heap, NodeParts, ChunkPart, chunk_extents, chunk_table_extents}
use Rattle.adf_format.specs.Changes.{heap_fields}
use Rattle.adf_format.specs.HeapRule.{give_all, payload_length, data_extents}
use Rattle.adf_model.specs.NodeData.{grown_range}
use Rattle.cg_io.specs.Blocks.{Both}
use Rattle.cg_io.specs.Waits.{IsTouched, WaitsOnly}
use Rattle.cg_io.proofs.WaitLaws.{waits_more}
use Rattle.field_access.specs.Fields.{AreInBlock, WaitsWithin, WaitsWhereTold, IsWithin}
use Rattle.field_access.proofs.WaitLaws.{waits_range, told_waits, told_wider, told_then}
use Rattle.file_heap.specs.Links.{range}
use Rattle.file_heap.specs.Heap.{IsHeap, ChangesOnly, IsTakenWithin, TakesCover}
use Rattle.adf_data.specs.declared.place.DataPlace.{DataPlace}
use Rattle.adf_data.specs.declared.chunks.Chunk.{Chunk}
use Rattle.adf_data.specs.Chunks.{part_of, parts_of, part_at, Named}
use Rattle.adf_data.specs.Ranges.{byte_place, HasByte}
use Rattle.adf_data.specs.Runs.{payload_extents}
use Rattle.adf_data.specs.Sizes.{extents_in}
use Rattle.adf_data.specs.Growing.{room_of, changed_ranges}
use Rattle.adf_data.proofs.KeptLaws.{covered}
use Rattle.adf_data.proofs.StayLaws.{payload_covered}
use Rattle.adf_data.proofs.RoomLaws.{gaps_inside, in_room}
use Rattle.adf_data.proofs.GiveLaws.{next_inside}
use Rattle.adf_data.proofs.ReleaseLaws.{first_inside, second_inside, named_extents, tables_of, extents_of, split}
use Rattle.adf_data.proofs.GatherLaws.{given_inside, room_inside}
use Rattle.adf_data.proofs.ExtendLaws.{first_call, second_call, third_call, last_call, two_calls, three_calls}
use Rattle.adf_data.proofs.SizeLaws.{chunks_inside}

-- ---- bytes of the data

-- blocks of bytes of the data, where all of these are in some ranges
data_waits : (parts : List ChunkPart) (ranges : List Extent) (first n : ℕ) (old new : List ℕ) → ((k : ℕ) → k < payload_length parts → 1 ≤ cover ranges (byte_place parts k)) → WaitsOnly (HasByte parts first n) old new → WaitsWithin ranges old new
data_waits parts ranges first n old new all waits = record { only = waits_more (HasByte parts first n) (AreInBlock ranges) old new inside waits }
  where
    inside : (block : ℕ) → HasByte parts first n block → AreInBlock ranges block
    inside block has = record {
      byte = byte_place parts has.byte;
      own = (let c = all has.byte has.inside in omega (arith, c));
      block = (let f = has.from in let t = has.to in omega (arith, f, t));
    }

pub chunks_wait : (parts : List ChunkPart) (first n : ℕ) (old new : List ℕ) → WaitsOnly (HasByte parts first n) old new → WaitsWithin (chunk_extents parts) old new
chunks_wait parts first n old new waits = data_waits parts (chunk_extents parts) first n old new (covered parts) waits

payloads_wait : (parts : List ChunkPart) (first n : ℕ) (old new : List ℕ) → WaitsOnly (HasByte parts first n) old new → WaitsWithin (payload_extents parts) old new
payloads_wait parts first n old new waits = data_waits parts (payload_extents parts) first n old new (payload_covered parts) waits

-- ---- one call after another

-- The bytes are told after a call that changes some as they are before it.
then_waits : (ranges changed first then : List Extent) (a b : Option (List ℕ)) (old middle new : List ℕ) → IsWithin first ranges → IsWithin then ranges → Both (ChangesOnly changed) a b → WaitsWhereTold a first old middle → WaitsWhereTold b then middle new → WaitsWhereTold a ranges old new
then_waits ranges changed first then a b old middle new f t changes v w = told_then (ChangesOnly changed) a b ranges old middle new changes (told_wider a first ranges old middle f v) (told_wider b then ranges middle new t w)

-- ---- the room of the heap

pub take_waits : (before after : Heap) (a : Option (List ℕ)) (old new : List ℕ) → WaitsWhereTold a (heap_fields ++ before.gaps) old new → WaitsWhereTold a (room_of before after) old new
take_waits before after a old new waits = told_wider a (heap_fields ++ before.gaps) (room_of before after) old new (gaps_inside before after) waits

module _ (n place : ℕ) (before after : Heap) (is : IsHeap before) (covers : TakesCover n before after place) (within : IsTakenWithin n after place) where
  -- what is taken and written
  pub put_waits : (a b : Option (List ℕ)) (old middle new : List ℕ) → Both (ChangesOnly (heap_fields ++ before.gaps)) a b → WaitsWhereTold a (heap_fields ++ before.gaps) old middle → WaitsOnly (IsTouched place n) middle new → WaitsWhereTold a (room_of before after) old new
  put_waits a b old middle new changes takes writes =
      then_waits (room_of before after) (heap_fields ++ before.gaps) (heap_fields ++ before.gaps) (range place n ∷ []) a b old middle new (gaps_inside before after) (in_room n place before after is covers within)
      changes takes (told_waits b (range place n ∷ []) middle new (waits_range place n middle new writes))

-- ---- gifts

-- one more chunk
pub next_waits : (chunks : List Chunk) (i : ℕ) (c : Chunk) (first heap : Heap) (a b : Option (List ℕ)) (old middle new : List ℕ) → i < length chunks → part_of c ≡ part_at (parts_of chunks) i
    → ((b : ℕ) → cover heap.gaps b ≡ cover (take i (chunk_extents (parts_of chunks))) b + cover first.gaps b) → Both (ChangesOnly (heap_fields ++ chunk_extents (parts_of chunks) ++ first.gaps)) a b
    → WaitsWhereTold a (heap_fields ++ chunk_extents (parts_of chunks) ++ first.gaps) old middle → WaitsWhereTold b (heap_fields ++ range c.place c.length ∷ heap.gaps) middle new → WaitsWhereTold a (heap_fields ++ chunk_extents (parts_of chunks) ++ first.gaps) old new
next_waits chunks i c first heap a b old middle new lt is covers changes before then =
    let all : List Extent = heap_fields ++ chunk_extents (parts_of chunks) ++ first.gaps in
    then_waits all all all (heap_fields ++ range c.place c.length ∷ heap.gaps) a b old middle new (λ b none. none) (next_inside chunks i c first heap lt is covers) changes before then

pub table_waits : (place count : ℕ) (gaps : List Extent) (a : Option (List ℕ)) (old new : List ℕ) → WaitsWhereTold a (heap_fields ++ range place (20 + 24 * count) ∷ gaps) old new → WaitsWhereTold a (heap_fields ++ chunk_table_extents (Some place) count ++ gaps) old new
table_waits place count gaps a old new waits = told_wider a (heap_fields ++ range place (20 + 24 * count) ∷ gaps) (heap_fields ++ chunk_table_extents (Some place) count ++ gaps) old new (λ b none. none) waits

module _ (table : Option ℕ) (chunks : List Chunk) where
  abbrev tables : List Extent
  tables = tables_of table chunks

  abbrev extents : List Extent
  extents = extents_of table chunks

  -- the table alone
  pub table_gift_waits : (gaps : List Extent) (a : Option (List ℕ)) (old new : List ℕ) → WaitsWhereTold a (heap_fields ++ tables ++ gaps) old new → WaitsWhereTold a (heap_fields ++ extents_in table (parts_of chunks) ++ gaps) old new
  table_gift_waits gaps a old new waits =
      subst (λ es. WaitsWhereTold a (heap_fields ++ es ++ gaps) old new) (sym (split table chunks))
      (told_wider a (heap_fields ++ tables ++ gaps) (heap_fields ++ (tables ++ extents) ++ gaps) old new (first_inside tables extents gaps) waits)

  -- the table and the chunks
  pub gifts_wait : (heap later : Heap) (a b : Option (List ℕ)) (old middle new : List ℕ) → later ≡ give_all tables heap → Both (ChangesOnly (heap_fields ++ tables ++ heap.gaps)) a b
      → WaitsWhereTold a (heap_fields ++ tables ++ heap.gaps) old middle → WaitsWhereTold b (heap_fields ++ extents ++ later.gaps) middle new → WaitsWhereTold a (heap_fields ++ extents_in table (parts_of chunks) ++ heap.gaps) old new
  gifts_wait heap later a b old middle new gives changes first then =
      subst (λ es. WaitsWhereTold a (heap_fields ++ es ++ heap.gaps) old new) (sym (split table chunks))
      (then_waits (heap_fields ++ (tables ++ extents) ++ heap.gaps) (heap_fields ++ tables ++ heap.gaps) (heap_fields ++ tables ++ heap.gaps) (heap_fields ++ extents ++ (give_all tables heap).gaps) a b old middle new
      (first_inside tables extents heap.gaps) (second_inside tables extents heap) changes first (subst (λ (h : Heap). WaitsWhereTold b (heap_fields ++ extents ++ h.gaps) middle new) gives then))

-- ---- data that grow

pub room_waits : (es : List Extent) (before after : Heap) (a : Option (List ℕ)) (old new : List ℕ) → WaitsWhereTold a (room_of before after) old new → WaitsWhereTold a (changed_ranges es before after) old new
room_waits es before after a old new waits = told_wider a (room_of before after) (changed_ranges es before after) old new (room_inside es before after) waits

-- gathered in one new chunk
pub gathered_waits : (es : List Extent) (n place : ℕ) (h0 h1 h2 : Heap) (a c : Option (List ℕ)) (old middle new : List ℕ) → IsHeap h0 → TakesCover n h0 h1 place → h2.end ≡ h1.end → Both (ChangesOnly (room_of h0 h1)) a c
    → WaitsWhereTold a (room_of h0 h1) old middle → WaitsWhereTold c (heap_fields ++ es ++ h1.gaps) middle new → WaitsWhereTold a (changed_ranges es h0 h2) old new
gathered_waits es n place h0 h1 h2 a c old middle new is covers same changes first then =
    then_waits (changed_ranges es h0 h2) (room_of h0 h1) (room_of h0 h2) (heap_fields ++ es ++ h1.gaps) a c old middle new (room_inside es h0 h2) (given_inside es n place h0 h1 h2 is covers same) changes
    (subst (λ k. WaitsWhereTold a (heap_fields ++ grown_range h0 (record h1 { end = k }) ∷ h0.gaps) old middle) (sym same) first) then

-- one more chunk, and a table of all
module _ (es : List Extent) (h0 h1 h2 h3 : Heap) (n place : ℕ) (covers1 : TakesCover n h0 h1 place) (grows1 : h0.end ≤ h1.end) (grows2 : h1.end ≤ h2.end) (same : h3.end ≡ h2.end) (a b c : Option (List ℕ)) (v w x : List ℕ)
    (ab : Both (ChangesOnly (room_of h0 h1)) a b) (vw : WaitsWhereTold a (room_of h0 h1) v w) (wx : WaitsWhereTold b (room_of h1 h2) w x) where
  pub two_wait : WaitsWhereTold a (changed_ranges es h0 h3) v x
  two_wait =
      then_waits (changed_ranges es h0 h3) (room_of h0 h1) (room_of h0 h1) (room_of h1 h2) a b v w x (first_call es h0 h1 h2 h3 n place covers1 grows1 grows2 same) (second_call es h0 h1 h2 h3 n place covers1 grows1 grows2 same) ab vw wx

  module _ (some rest : List Extent) (are : es ≡ some ++ rest) (m list : ℕ) (covers2 : TakesCover m h1 h2 list) (d : Option (List ℕ)) (y : List ℕ)
      (bc : Both (ChangesOnly (room_of h1 h2)) b c) (xy : WaitsWhereTold c (heap_fields ++ some ++ h2.gaps) x y) where
    two_change : Both (ChangesOnly (changed_ranges es h0 h3)) a c
    two_change = two_calls es h0 h1 h2 h3 n place covers1 grows1 grows2 same a b c ab bc

    pub three_wait : WaitsWhereTold a (changed_ranges es h0 h3) v y
    three_wait =
        then_waits (changed_ranges es h0 h3) (changed_ranges es h0 h3) (changed_ranges es h0 h3) (heap_fields ++ some ++ h2.gaps) a c v x y (λ b none. none) (third_call es h0 h1 h2 h3 n place covers1 grows1 grows2 same some rest are m list covers2) two_change two_wait xy

    pub four_wait : (z : List ℕ) → Both (ChangesOnly (heap_fields ++ some ++ h2.gaps)) c d → WaitsWithin rest y z → WaitsWhereTold a (changed_ranges es h0 h3) v z
    four_wait z cd yz =
        then_waits (changed_ranges es h0 h3) (changed_ranges es h0 h3) (changed_ranges es h0 h3) rest a d v y z (λ b none. none) (last_call es h0 h1 h2 h3 n place covers1 grows1 grows2 same some rest are)
        (three_calls es h0 h1 h2 h3 n place covers1 grows1 grows2 same some rest are m list covers2 a b c d ab bc cd) three_wait (told_waits d rest y z yz)

-- ---- what a place names

module _ (at : DataPlace) (chunks : List Chunk) where
  -- the payloads
  pub alone_waits : (image : Option (List ℕ)) → ((parts : NodeParts) → Named at parts image → parts_of chunks ≡ parts.chunks) → (limit : ℕ) (old middle new : List ℕ) → middle ≡ old → WaitsOnly (HasByte (parts_of chunks) 0 limit) middle new
      → (parts : NodeParts) → Named at parts image → WaitsWithin (payload_extents parts.chunks) old new
  alone_waits image says limit old middle new same waits parts n =
      subst (λ (cs : List ChunkPart). WaitsWithin (payload_extents cs) old new) (says parts n)
      (payloads_wait (parts_of chunks) 0 limit old new (subst (λ (blocks : List ℕ). WaitsOnly (HasByte (parts_of chunks) 0 limit) blocks new) same waits))

  told_named : (image : Option (List ℕ)) (ranges : List Extent) (old new : List ℕ) → WaitsWhereTold image ranges old new → (parts : NodeParts) → Named at parts image → WaitsWithin ranges old new
  told_named None ranges old new waits parts n = absurd n
  told_named (Some bytes) ranges old new waits parts n = waits

  -- ranges beside the chunks and their table
  pub named_waits : (table : Option ℕ) (image read : Option (List ℕ)) → read ≡ image → ((parts : NodeParts) → Named at parts image → parts_of chunks ≡ parts.chunks) → ((parts : NodeParts) → Named at parts image → table ≡ parts.chunk_table)
      → (ranges : List Extent → List Extent) (old middle new : List ℕ) → middle ≡ old → WaitsWhereTold read (ranges (extents_in table (parts_of chunks))) middle new → (parts : NodeParts) → Named at parts image → WaitsWithin (ranges (data_extents parts)) old new
  named_waits table image read e says tells ranges old middle new same waits parts n =
      subst (λ es. WaitsWithin (ranges es) old new) (named_extents at chunks table image says tells parts n)
      (subst (λ (blocks : List ℕ). WaitsWithin (ranges (extents_in table (parts_of chunks))) blocks new) same
      (told_named image (ranges (extents_in table (parts_of chunks))) middle new (subst (λ (i : Option (List ℕ)). WaitsWhereTold i (ranges (extents_in table (parts_of chunks))) middle new) e waits) parts n))

-- zeros in the chunks
pub cleared_waits : (table : Option ℕ) (parts : List ChunkPart) (heap : Heap) (first n : ℕ) (a : Option (List ℕ)) (old new : List ℕ) → WaitsOnly (HasByte parts first n) old new → WaitsWhereTold a (changed_ranges (extents_in table parts) heap heap) old new
cleared_waits table parts heap first n a old new waits =
    told_wider a (chunk_extents parts) (changed_ranges (extents_in table parts) heap heap) old new (chunks_inside table parts heap heap) (told_waits a (chunk_extents parts) old new (chunks_wait parts first n old new waits))
