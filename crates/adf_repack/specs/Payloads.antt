-- The data of a node as its chunks hold them, by what its header says.
use Rattle.std.specs.Prelude.{◌≡◌, ◌≢◌, ◌⊎◌, ℕ, ◌+◌, ◌-◌, ◌*◌, ◌^◌, ◌<◌, ◌==◌, Bool, false, cond, max, List, [], ◌++◌, length, take, replicate, Option, None, Some, IfSome}
use Rattle.std.specs.List.{flat_map}
use Rattle.adf_format.specs.declared.fields.TheConstants.{HEAD_POINTER, CHUNK_START}
use Rattle.adf_format.specs.Pointer.{is_place, place_of, place_value, To}
use Rattle.adf_format.specs.Records.{NodeRecord, Data, head_text, end_tag}
use Rattle.adf_format.specs.RecordFields.{field_in, at_place, node_chunks}
use Rattle.adf_format.specs.FirstFault.{count_up}
use Rattle.cg_io.specs.Device.{bytes_at}
use Rattle.node_reads.specs.Reads.{ReadAt, Breaks}
use Rattle.node_reads.specs.Entries.{chunk_head_rows}

-- ---- one chunk

-- where the chunk or the chunk table stands; 0 where there is none
abbrev pub chunk_of : NodeRecord → ℕ
chunk_of h = place_value (Some h.chunk)

-- where the i-th entry of its chunk table stands
abbrev pub entry_at : NodeRecord → ℕ → ℕ
entry_at h i = chunk_of h + 16 + 24 * i

-- where its i-th chunk stands: a single one is named by the header itself
abbrev pub chunk_at : List ℕ → NodeRecord → ℕ → ℕ
chunk_at image h i = cond (h.chunks == 1) (chunk_of h) (place_of (field_in (bytes_at image (entry_at h i) 24) CHUNK_START))

-- how much a chunk holds, by its own head
abbrev pub payload_length : List ℕ → ℕ → ℕ
payload_length image c = place_of (field_in (bytes_at image c 16) HEAD_POINTER) - c - 16

abbrev pub payload_at : List ℕ → ℕ → List ℕ
payload_at image c = bytes_at image (c + 16) (payload_length image c)

-- ---- all of them

-- what the first of its chunks hold, one behind the other
abbrev pub payloads_until : List ℕ → NodeRecord → ℕ → List ℕ
payloads_until image h n = flat_map (λ i. payload_at image (chunk_at image h i)) (count_up n)

abbrev pub payloads_of : List ℕ → NodeRecord → List ℕ
payloads_of image h = payloads_until image h h.chunks

-- the chunk of a copy: data of so many bytes, and zeros behind them up to 12
abbrev pub copied_chunk : List ℕ → NodeRecord → ℕ → ℕ → List ℕ
copied_chunk image h size place =
    head_text Data (To (place + 16 + max 12 size)) ++ (take size (payloads_of image h) ++ (replicate (12 - size) 0 ++ end_tag Data))

-- no bytes without data
abbrev pub copied_data : List ℕ → NodeRecord → Option ℕ → ℕ → List ℕ
copied_data image r None place = []
copied_data image r (Some size) place = copied_chunk image r size place

-- ---- broken rules

-- rule 25 of an entry: it ends by the last place, and names a chunk
pub record BreaksEntry (held : Option (List ℕ)) (h : NodeRecord) (i rule at : ℕ) : Type 0 where
  pub is : rule ≡ 25
  pub listed : h.chunks ≢ 1
  pub place : at ≡ entry_at h i
  pub why : (2 ^ 44 < entry_at h i + 24) ⊎ ReadAt held (entry_at h i) 24 (λ bytes. is_place (field_in bytes CHUNK_START) ≡ false)

-- rule 26 of a chunk, as far as its head tells
abbrev pub BreaksHead : Option (List ℕ) → ℕ → ℕ → ℕ → Type 0
BreaksHead held c rule at = ((rule ≡ 26) × (at ≡ c) × (2 ^ 44 < c + 16)) ⊎ Breaks held c 16 (chunk_head_rows c) rule at

-- rule 27 of a node whose header stands at a place: its chunks hold less than so many bytes
pub record IsShort (held : Option (List ℕ)) (wide : Bool) (h : NodeRecord) (place size rule at : ℕ) : Type 0 where
  pub is : rule ≡ 27
  pub stands : at ≡ (at_place place (node_chunks wide)).offset
  pub short : IfSome held (λ image. length (payloads_of image h) < size)

-- one of its chunks
pub record IsChunkOf (held : Option (List ℕ)) (h : NodeRecord) (c : ℕ) : Type 0 where
  pub number : ℕ
  pub within : number < h.chunks
  pub stands : IfSome held (λ image. c ≡ chunk_at image h number)

-- rule 25 of an entry of its chunk table
pub record BreaksTable (held : Option (List ℕ)) (h : NodeRecord) (rule at : ℕ) : Type 0 where
  pub number : ℕ
  pub within : number < h.chunks
  pub breaks : BreaksEntry held h number rule at

-- rule 26 of one of its chunks
pub record BreaksChunk (held : Option (List ℕ)) (h : NodeRecord) (rule at : ℕ) : Type 0 where
  pub chunk : ℕ
  pub one : IsChunkOf held h chunk
  pub breaks : BreaksHead held chunk rule at

-- what of the chunks of a node breaks a rule
abbrev pub BreaksData : Option (List ℕ) → Bool → NodeRecord → ℕ → ℕ → ℕ → ℕ → Type 0
BreaksData held wide h place size rule at = BreaksTable held h rule at ⊎ (BreaksChunk held h rule at ⊎ IsShort held wide h place size rule at)

-- the same, of a node that may have no data
abbrev pub BreaksContents : Option (List ℕ) → Bool → NodeRecord → ℕ → Option ℕ → ℕ → ℕ → Type 0
BreaksContents held wide h place None rule at = ⊥
BreaksContents held wide h place (Some size) rule at = BreaksData held wide h place size rule at
