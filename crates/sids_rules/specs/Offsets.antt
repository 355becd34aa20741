-- Rules on the numbers of sections whose elements begin where a list of offsets says.
use Rattle.std.specs.Prelude.{ℕ, ◌+◌, ◌-◌, ◌<◌, ℤ, pos, ◌≡◌, ◌≢◌, ◌≤ℤ◌, ◌⊎◌, List, [], ◌∷◌, length, take, drop, unsigned_abs, slice_get, slice_index_or, Any, Option, Some}
use Rattle.sids_rules.specs.Sections.{fixed_nodes, IsOutside}

-- K36 offset-size: not one more than the elements
abbrev pub BreaksOffsetSize : List ℤ → ℕ → Type 0
BreaksOffsetSize offsets elements = length offsets ≢ elements + 1

-- the number at a place; 0 past the end
abbrev pub offset_at : List ℤ → ℕ → ℤ
offset_at offsets k = slice_index_or offsets k (pos 0)

-- no number is under the one before it
abbrev pub NeverFall : List ℤ → Type 0
NeverFall offsets = (k : ℕ) → k + 1 < length offsets → offset_at offsets k ≤ℤ offset_at offsets (k + 1)

-- offsets of a connectivity: they begin with 0, never fall, and end with its length
pub record AreOffsets (offsets : List ℤ) (entries : ℕ) : Type 0 where
  pub begin : slice_get offsets 0 ≡ Some (pos 0)
  pub rise : NeverFall offsets
  pub end : slice_get offsets (length offsets - 1) ≡ Some (pos entries)

-- K37 offset-numbers: they do not begin with 0, or fall somewhere, or do not end with the length of the connectivity
abbrev pub BreaksOffsetNumbers : List ℤ → ℕ → Type 0
BreaksOffsetNumbers offsets entries = ¬ AreOffsets offsets entries

-- the numbers of a connectivity from one position up to another, but without that
abbrev pub piece_between : List ℤ → ℤ → ℤ → List ℤ
piece_between entries start end = take (unsigned_abs end - unsigned_abs start) (drop (unsigned_abs start) entries)

-- the piece between an offset and the next one
abbrev pub piece_at : List ℤ → List ℤ → ℕ → List ℤ
piece_at entries offsets k = piece_between entries (offset_at offsets k) (offset_at offsets (k + 1))

-- some piece is so
abbrev pub SomePiece : (List ℤ → Type 0) → List ℤ → List ℤ → Type 0
SomePiece P entries offsets = (k : ℕ) × (k + 1 < length offsets) × P (piece_at entries offsets k)

-- the code of a fixed type of element, and then as many nodes as that has
abbrev pub IsMixedPiece : List ℤ → Type 0
IsMixedPiece [] = ⊥
IsMixedPiece (code ∷ nodes) = fixed_nodes code ≡ Some (length nodes)

-- K38 mixed-pieces: in a mixed section, a piece that is no element of a fixed type
abbrev pub BreaksMixedPieces : ℤ → List ℤ → List ℤ → Type 0
BreaksMixedPieces code entries offsets = (code ≡ pos 20) × SomePiece (λ piece. ¬ IsMixedPiece piece) entries offsets

-- some piece, without its first numbers, has a node that is no node of the zone
abbrev pub HasBadNode : ℕ → List ℤ → List ℤ → Option ℤ → Type 0
HasBadNode skipped entries offsets limit = SomePiece (λ piece. Any (IsOutside limit) (drop skipped piece)) entries offsets

-- K39 piece-nodes: in a mixed section, behind the code that each piece begins with, or in one of polygons, a node that is no node of the zone
abbrev pub BreaksPieceNodes : ℤ → List ℤ → List ℤ → Option ℤ → Type 0
BreaksPieceNodes code entries offsets limit = ((code ≡ pos 20) × HasBadNode 1 entries offsets limit) ⊎ ((code ≡ pos 22) × HasBadNode 0 entries offsets limit)

-- the amount of a number lies in a range
abbrev pub LiesIn : ℤ → ℤ → ℤ → Type 0
LiesIn n first last = (first ≤ℤ pos (unsigned_abs n)) × (pos (unsigned_abs n) ≤ℤ last)

-- no face: 0, or in none of the ranges, each a start and an end
abbrev pub IsNoFace : List (List ℤ) → ℤ → Type 0
IsNoFace faces n = (n ≡ pos 0) ⊎ (¬ Any (λ range. LiesIn n (slice_index_or range 0 (pos 0)) (slice_index_or range 1 (pos 0))) faces)

-- K40 face-numbers: a number that is no face
abbrev pub BreaksFaceNumbers : List ℤ → List (List ℤ) → Type 0
BreaksFaceNumbers entries faces = Any (IsNoFace faces) entries
