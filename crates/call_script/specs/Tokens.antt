-- The tokens of lines: what each of them spells, and how a line is made of them.
use Rattle.std.specs.Prelude.{◌≡◌, ◌≢◌, ℕ, ◌<◌, ◌≤◌, ◌^◌, ◌-◌, ◌==◌, Bool, true, not, ◌&&◌, List, [], ◌∷◌, ◌++◌, length, map, replicate, All, Option, Some, None, Ok, codes, decimal}
use Rattle.std.specs.Borrow.{Bor}
use Rattle.std.specs.List.{join_with_byte, slice_split}
use Rattle.hex.specs.Hex.{decode_of}
use Rattle.adf_model.specs.declared.tree.NodeId.{NodeId}
use Rattle.adf_model.specs.Spelling.{text_of}
use Rattle.call_script.specs.declared.calls.OpenMode.{OpenMode}
use Rattle.call_script.specs.declared.calls.OpenMode.TheVariants.{New, ReadWrite, ReadOnly}
use Rattle.call_script.specs.declared.dims.Dims.{Dims}
use Rattle.call_script.specs.declared.tokens.Tokens.{Tokens}

-- a line: tokens with exactly one space between two of them
abbrev pub line_of : List (List ℕ) → List ℕ
line_of tokens = join_with_byte 32 tokens

-- the pieces of a text that is cut at each such byte
abbrev pub pieces_of : ℕ → List ℕ → List (List ℕ)
pieces_of between text = slice_split (λ b. b == between) text

-- the pieces of a line that is cut at each space
abbrev pub cut : List ℕ → List (List ℕ)
cut line = pieces_of 32 line

-- the tokens that are still to be read
abbrev pub left_of : ℕ → Option (Bor (List ℕ)) → List (List ℕ)
left_of between None = []
left_of between (Some rest) = pieces_of between rest.now

abbrev pub tokens_left : Tokens → List (List ℕ)
tokens_left tokens = left_of tokens.between tokens.rest

-- the number of a file; numbers are written in decimal without leading zeros
abbrev pub IsFileNumber : ℕ → Type 0
IsFileNumber number = number < 2 ^ 32

-- an address limit in blocks
abbrev pub IsLimit : ℕ → Type 0
IsLimit limit = (1 ≤ limit) × (limit ≤ 2 ^ 32)

-- the numbers of a node
abbrev pub IsId : NodeId → Type 0
IsId node = (node.file < 2 ^ 32) × (node.serial < 2 ^ 64)

-- no plus in front, and no zero but where it is all there is
abbrev pub begins_plainly : List ℕ → Bool
begins_plainly [] = true
begins_plainly (b ∷ []) = not (b == 43)
begins_plainly (b ∷ c ∷ bs) = not (b == 43) && not (b == 48)

-- a node as lines name it: the number of its file, a point, and its serial
abbrev pub node_text : NodeId → List ℕ
node_text node = decimal node.file ++ (46 ∷ decimal node.serial)

-- a text, in any of its spellings
abbrev pub IsText : List ℕ → List ℕ → Type 0
IsText token text = text_of token ≡ Some text

-- bytes, as pairs of hexadecimal digits in either case; one pair or more
abbrev pub IsHex : List ℕ → List ℕ → Type 0
IsHex token bytes = (token ≢ []) × (decode_of token ≡ Ok bytes)

-- the word for how a file is opened
abbrev pub mode_word : OpenMode → List ℕ
mode_word New = codes "new"
mode_word ReadWrite = codes "rw"
mode_word ReadOnly = codes "ro"

-- dimensions: numbers with a comma between two of them, or `-` for none
abbrev pub dims_text : List ℕ → List ℕ
dims_text [] = codes "-"
dims_text (size ∷ sizes) = join_with_byte 44 (map decimal (size ∷ sizes))

-- the twelve sizes of an array with these dimensions: 0 behind them
abbrev pub filled : List ℕ → List ℕ
filled sizes = sizes ++ replicate (12 - length sizes) 0

-- as many sizes as the rank tells, with 0 behind them
pub record HoldsSizes (dims : Dims) (sizes : List ℕ) : Type 0 where
  pub count : length sizes ≤ 12
  pub small : All (λ size. size < 2 ^ 64) sizes
  pub rank_is : dims.rank ≡ length sizes
  pub sizes_are : dims.sizes ≡ filled sizes

-- at most twelve dimensions, of which each is below 2^64
abbrev pub IsDims : List ℕ → Dims → Type 0
IsDims token dims = (sizes : List ℕ) × (token ≡ dims_text sizes) × HoldsSizes dims sizes

-- each piece is a dimension
abbrev pub AreSizes : List (List ℕ) → Dims → Type 0
AreSizes pieces dims = (sizes : List ℕ) × (pieces ≡ map decimal sizes) × HoldsSizes dims sizes
