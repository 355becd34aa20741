-- How whole numbers and texts are read of data.
use Rattle.std.specs.Prelude.{ℕ, Bool, ℤ, not, ◌&&◌, if◌then◌else◌, List, [], unwrap_or}
use Rattle.std.specs.Int.{Width, w32, w64, cast_signed}
use Rattle.adf_format.specs.declared.types.DataType.TheVariants.{I4}
use Rattle.adf_format.specs.declared.types.Format.{Format}
use Rattle.adf_format.specs.Tree.{Node}
use Rattle.sids_rules.specs.Values.{number_in, numbers_in, is_type, is_ints, has_rank, is_text}

-- the bits and the bytes of a number: it is wide or not
abbrev pub bits_of : Bool → Width
bits_of wide = if wide then w64 else w32

abbrev pub bytes_of : Bool → ℕ
bytes_of wide = if wide then 8 else 4

-- the number with a sign in the first bytes
abbrev pub first_number : Format → Bool → List ℕ → ℤ
first_number format wide bytes = cast_signed (bits_of wide) (number_in format (bytes_of wide) bytes)

-- so many numbers, one behind another
abbrev pub numbers_of : Format → Bool → ℕ → List ℕ → List ℤ
numbers_of format wide count bytes = numbers_in format (bits_of wide) (bytes_of wide) count bytes

-- whether the whole numbers of a node have 8 bytes each
abbrev pub is_wide : Node → Bool
is_wide node = not (is_type I4 node)

-- the bytes of a text, with their padding; none where a node is no text
abbrev pub text_bytes : Node → List ℕ
text_bytes node = if is_text node then unwrap_or node.bytes [] else []

-- whole numbers of one dimension
abbrev pub is_list : Node → Bool
is_list node = is_ints node && has_rank 1 node
