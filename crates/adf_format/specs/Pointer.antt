-- Pointers: twelve characters, a block in eight hexadecimal digits and an offset in four.
use Rattle.std.specs.Prelude.{◌≡◌, ℕ, ◌+◌, ◌*◌, ◌/◌, ◌%◌, nat_le, ◌≤◌, ◌==◌, Bool, true, false, ◌&&◌, if◌then◌else◌, List, ◌++◌, take, drop, Option, Some, None, codes}
use Rattle.adf_format.specs.Hex.{hex_value, hex_text}

-- What a pointer says: nothing, or a place in the file.
pub data Pointer : Type 0 where
  Blank : Pointer
  To : (place : ℕ) → Pointer

-- the pointer with this block and offset: offset 4096 of block 0 is the blank one, no other offset above 4095 is a pointer
abbrev pub pointer_at : ℕ → ℕ → Option Pointer
pointer_at block offset =
    if nat_le offset 4095 then Some (To (block * 4096 + offset))
    else if (block == 0) && (offset == 4096) then Some Blank
    else None

abbrev pub pointer_of_parts : Option ℕ → Option ℕ → Option Pointer
pointer_of_parts (Some block) (Some offset) = pointer_at block offset
pointer_of_parts (Some block) None = None
pointer_of_parts None offset = None

-- what twelve bytes say; none where they are no pointer
abbrev pub pointer : List ℕ → Option Pointer
pointer bytes = pointer_of_parts (hex_value (take 8 bytes)) (hex_value (drop 8 bytes))

-- the writer's spelling
abbrev pub pointer_text : Pointer → List ℕ
pointer_text Blank = codes "000000001000"
pointer_text (To place) = hex_text 8 (place / 4096) ++ hex_text 4 (place % 4096)

-- tests on a field
abbrev pub is_pointer_value : Option Pointer → Bool
is_pointer_value None = false
is_pointer_value (Some p) = true

abbrev pub is_blank_value : Option Pointer → Bool
is_blank_value (Some Blank) = true
is_blank_value (Some (To place)) = false
is_blank_value None = false

abbrev pub is_place_value : Option Pointer → Bool
is_place_value (Some (To place)) = true
is_place_value (Some Blank) = false
is_place_value None = false

abbrev pub is_pointer : List ℕ → Bool
is_pointer bytes = is_pointer_value (pointer bytes)

abbrev pub is_blank : List ℕ → Bool
is_blank bytes = is_blank_value (pointer bytes)

-- a pointer to some place
abbrev pub is_place : List ℕ → Bool
is_place bytes = is_place_value (pointer bytes)

abbrev pub place_value : Option Pointer → ℕ
place_value (Some (To place)) = place
place_value (Some Blank) = 0
place_value None = 0

-- the place that a pointer names; 0 where it names none
abbrev pub place_of : List ℕ → ℕ
place_of bytes = place_value (pointer bytes)

-- the bytes are a pointer to this place, or the blank one
abbrev pub PointsTo : List ℕ → ℕ → Type 0
PointsTo bytes place = pointer bytes ≡ Some (To place)

abbrev pub IsBlank : List ℕ → Type 0
IsBlank bytes = pointer bytes ≡ Some Blank

-- a block and an offset make this pointer: an offset is at most 4095, but that of the blank one
abbrev pub IsMadeOf : ℕ → ℕ → Pointer → Type 0
IsMadeOf block offset Blank = (block ≡ 0) × (offset ≡ 4096)
IsMadeOf block offset (To place) = (offset ≤ 4095) × (place ≡ block * 4096 + offset)
