-- The lists of free chunks in the bytes: where a pointer to a free chunk stands, and what the parts of a call write.
use Rattle.std.specs.Prelude.{codes, ◌≡◌, ℕ, ◌+◌, ◌-◌, ◌<◌, ◌≤◌, ◌^◌, nat_lt, if◌then◌else◌, get_or, slice_set, List, [], ◌∷◌, ◌++◌, length, filter, Option, Some, None, ⊤}
use Rattle.std.specs.List.{AllByRecursion}
use Rattle.adf_format.specs.declared.types.Extent.{Extent}
use Rattle.adf_format.specs.declared.types.ExtentKind.{ExtentKind}
use Rattle.adf_format.specs.declared.fields.TheConstants.{HEADER_END, FREE_TABLE_PLACE, FREE_TABLE_LENGTH, FREE_NEXT}
use Rattle.adf_format.specs.RecordFields.{list_first, list_last}
use Rattle.adf_format.specs.Pointer.{To, pointer_text}
use Rattle.adf_format.specs.Records.{free_head_text}
use Rattle.adf_format.specs.Spelled.{pointer_to}
use Rattle.adf_format.specs.Tiles.{cover, end_of, is_free, MeetsNone}
use Rattle.adf_format.specs.Parts.{HasPointer}
use Rattle.adf_format.specs.Placement.{extent}
use Rattle.adf_format.specs.LaysOut.{ThreadsFreeChunks, AreGapsInOrder, first_place, last_place}
use Rattle.adf_format.specs.Changes.{Writes}
use Rattle.adf_format.specs.HeapRule.{new_gap}
use Rattle.gap_tree.specs.declared.slot.Class.{Class}
use Rattle.gap_tree.specs.declared.slot.Class.TheVariants.{Small, Medium, Large}

-- where the pointer to the chunk behind another stands, or that to the first of list k
abbrev pub link_at : ℕ → Option ℕ → ℕ
link_at k None = (list_first FREE_TABLE_PLACE k).offset
link_at k (Some front) = front + FREE_NEXT.offset

-- a chunk at this place has its head below the greatest place
abbrev pub HasHead : Option ℕ → Type 0
HasHead None = ⊤
HasHead (Some place) = place + 32 ≤ 2 ^ 44

-- the bytes have a pointer at an offset
pub record Points (bytes : List ℕ) (at : ℕ) (there : Option ℕ) : Type 0 where
  pub within : at + 12 ≤ length bytes
  pub says : HasPointer bytes at there

-- the bytes thread no list of gaps
abbrev pub ThreadsNone : Option (List ℕ) → Type 0
ThreadsNone None = ⊤
ThreadsNone (Some bytes) = (gaps : List Extent) → ThreadsFreeChunks bytes gaps → ⊥

-- where bytes are told, a pointer that stands there is the one that was read
abbrev pub Follows : Option (List ℕ) → ℕ → Option ℕ → Type 0
Follows None at next = ⊤
Follows (Some bytes) at next = (there : Option ℕ) → Points bytes at there → next ≡ there

-- where bytes are told, no pointer stands there
abbrev pub PointsNowhere : Option (List ℕ) → ℕ → Type 0
PointsNowhere None at = ⊤
PointsNowhere (Some bytes) at = (there : Option ℕ) → Points bytes at there → ⊥

-- the gaps cover no byte twice, and none before the free table's end or from the greatest place on
pub record AreApart (gaps : List Extent) : Type 0 where
  pub once : (b : ℕ) → cover gaps b ≤ 1
  pub low : (b : ℕ) → b < 266 → cover gaps b ≡ 0
  pub high : (b : ℕ) → 2 ^ 44 ≤ b → cover gaps b ≡ 0

-- the number of a list in the free table
abbrev pub number_of : Class → ℕ
number_of Small = 0
number_of Medium = 1
number_of Large = 2

-- the list that a new free chunk of this length is put into
abbrev pub class_of : ℕ → Class
class_of n = if nat_lt n 512 then Small else if nat_lt n 4096 then Medium else Large

-- the lists that the bytes thread
abbrev pub lists_of : {bytes : List ℕ} {gaps : List Extent} → ThreadsFreeChunks bytes gaps → List (List Extent)
lists_of t = t.small ∷ t.medium ∷ t.large ∷ []

abbrev pub list_of : {bytes : List ℕ} {gaps : List Extent} → ThreadsFreeChunks bytes gaps → ℕ → List Extent
list_of t k = get_or (lists_of t) k []

-- a chunk of the list stands at the place, behind the one in front
pub record IsBehind (fs : List Extent) (place : ℕ) (front : Option ℕ) : Type 0 where
  pub before : List Extent
  pub chunk : Extent
  pub after : List Extent
  pub is : fs ≡ before ++ chunk ∷ after
  pub here : chunk.place ≡ place
  pub follows : front ≡ last_place before

-- the bytes thread these lists
pub record ThreadsThese (bytes : List ℕ) (gaps : List Extent) (lists : List (List Extent)) : Type 0 where
  pub threads : ThreadsFreeChunks bytes gaps
  pub are : (k : ℕ) → k < 3 → list_of threads k ≡ get_or lists k []

-- the gaps stand by place, behind the free table and below the greatest place
pub record AreGaps (gaps : List Extent) : Type 0 where
  pub order : AreGapsInOrder gaps
  pub within : AllByRecursion (λ (g : Extent). (266 ≤ g.place) × (end_of g ≤ 2 ^ 44)) gaps

-- ---- what is written

abbrev pub range : ℕ → ℕ → Extent
range place length = extent ExtentKind.FreeChunk place length

-- list k ends at the chunk in front from now on, where nothing is behind that
abbrev pub EndsList : ℕ → Option ℕ → Option ℕ → List ℕ → List ℕ → Type 0
EndsList k None front old new = Writes (list_last FREE_TABLE_PLACE k).offset (pointer_text (pointer_to front)) old new
EndsList k (Some next) front old new = new ≡ old

-- the pointer behind a chunk, or to the first of list k, is written over, and the last pointer of the list with it
pub record Relinks (k : ℕ) (front next : Option ℕ) (old new : List ℕ) : Type 0 where
  pub middle : List ℕ
  pub link : Writes (link_at k front) (pointer_text (pointer_to next)) old middle
  pub last : EndsList k next front middle new

-- the head and the end tag of a free chunk are written
pub record WritesChunk (place length : ℕ) (next : Option ℕ) (old new : List ℕ) : Type 0 where
  pub headed : List ℕ
  pub head : Writes place (free_head_text (To (place + length - 4)) (pointer_to next)) old headed
  pub tail : Writes (place + length - 4) (codes "EndC") headed new

-- a free chunk is written in front of the first of list k
pub record Pushes (place length k : ℕ) (first : Option ℕ) (old new : List ℕ) : Type 0 where
  pub whole : List ℕ
  pub linked : List ℕ
  pub follows : Follows (Some old) (link_at k None) first
  pub chunk : WritesChunk place length first old whole
  pub link : Writes (link_at k None) (pointer_text (To place)) whole linked
  pub last : EndsList k first (Some place) linked new

-- the lists after a gap was written: a filler is in none, and a free chunk is the first of its class
abbrev pub listed : ℕ → ℕ → List (List Extent) → List (List Extent)
listed place n lists =
    if nat_lt n 32 then lists
    else slice_set lists (number_of (class_of n)) (range place n ∷ get_or lists (number_of (class_of n)) [])

-- the bytes thread the gap too, in front of the chunk that was the first of its class
pub record ListsGap {old : List ℕ} {gaps : List Extent} (place length : ℕ) (first : Option ℕ) (t : ThreadsFreeChunks old gaps) (new : List ℕ) : Type 0 where
  pub these : ThreadsThese new (new_gap place length ∷ gaps) (listed place length (lists_of t))
  pub was_first : 32 ≤ length → first ≡ first_place (list_of t (number_of (class_of length)))

-- a gap is written: a filler's bytes, or a free chunk in front of the first of its class
pub record WritesGap (place length : ℕ) (first : Option ℕ) (old new : List ℕ) : Type 0 where
  pub threads : (gaps : List Extent) → MeetsNone place length (filter is_free gaps) → MeetsNone FREE_TABLE_PLACE FREE_TABLE_LENGTH (filter is_free gaps) → 266 ≤ place
      → (t : ThreadsFreeChunks old gaps) → ListsGap place length first t new
  pub fills : length < 32 → (b : ℕ) → place ≤ b → b < place + length → get_or new b 0 ≡ 122
  pub unlisted : length < 32 → first ≡ None

-- ---- what may change

abbrev pub free_table : Extent
free_table = extent ExtentKind.FreeTable FREE_TABLE_PLACE FREE_TABLE_LENGTH

-- the end pointer
abbrev pub end_pointer : Extent
end_pointer = range HEADER_END.offset HEADER_END.length

-- the pointer behind a chunk
abbrev pub link_range : Option ℕ → List Extent
link_range None = []
link_range (Some front) = range (front + FREE_NEXT.offset) FREE_NEXT.length ∷ []
