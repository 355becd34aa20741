-- How a text stands in a line: as items, each a byte for itself or an escape of `%` and two hexadecimal digits.
use Rattle.std.specs.Prelude.{ℕ, Bool, not, ◌&&◌, ◌==◌, nat_le, if◌then◌else◌, List, [], ◌∷◌, Option, Some, None, option_map, option_and_then}
use Rattle.std.specs.List.{flat_map}
use Rattle.adf_format.specs.Hex.{hex_text, hex_value}

-- a byte that may stand for itself: 0x21 to 0x7E, but neither `%` nor `;`
abbrev pub is_plain : ℕ → Bool
is_plain b = nat_le 33 b && nat_le b 126 && not (b == 37) && not (b == 59)

-- a byte as the writer spells it: escaped, in upper case, where it may not stand for itself
abbrev pub spelled_byte : ℕ → List ℕ
spelled_byte b = if is_plain b then b ∷ [] else 37 ∷ hex_text 2 b

-- a text as the writer spells it: `%` alone for the empty one
abbrev pub spelled : List ℕ → List ℕ
spelled [] = 37 ∷ []
spelled (b ∷ text) = flat_map spelled_byte (b ∷ text)

-- the text of a byte and of what follows it
abbrev pub byte_before : Option ℕ → Option (List ℕ) → Option (List ℕ)
byte_before byte rest = option_and_then (λ b. option_map (λ text. b ∷ text) rest) byte

-- the text of items: none where they are no items. Any byte may be escaped, and the digits may have either case
unfoldable pub items_text : List ℕ → Option (List ℕ)
items_text [] = Some []
items_text (b ∷ []) = if is_plain b then Some (b ∷ []) else None
items_text (b ∷ c ∷ []) = if is_plain b then byte_before (Some b) (items_text (c ∷ [])) else None
items_text (b ∷ c ∷ d ∷ items) =
    if is_plain b then byte_before (Some b) (items_text (c ∷ d ∷ items))
    else if b == 37 then byte_before (hex_value (c ∷ d ∷ [])) (items_text items)
    else None

-- the text that a piece of a line spells: none where it spells no text
abbrev pub text_of : List ℕ → Option (List ℕ)
text_of [] = None
text_of (b ∷ []) = if b == 37 then Some [] else items_text (b ∷ [])
text_of (b ∷ c ∷ items) = items_text (b ∷ c ∷ items)
