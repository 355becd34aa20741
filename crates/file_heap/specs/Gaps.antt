-- Places in a list of gaps.
use Rattle.std.specs.Prelude.{◌≡◌, ◌⊎◌, ℕ, ◌+◌, ◌<◌, ◌≤◌, ◌==◌, nat_lt, if◌then◌else◌, true, false, get_or, List, [], ◌∷◌, ◌++◌, length, take, drop, find, Option, Some, None}
use Rattle.adf_format.specs.declared.types.Extent.{Extent}
use Rattle.adf_format.specs.declared.types.ExtentKind.{ExtentKind}
use Rattle.adf_format.specs.Tiles.{end_of, is_free}
use Rattle.adf_format.specs.Placement.{extent}
use Rattle.adf_format.specs.HeapRule.{is_fit, new_gap, cut, rest_of}

-- what a list of gaps is read as past its end
abbrev pub no_gap : Extent
no_gap = extent ExtentKind.Header 0 0

abbrev pub gap_at : List Extent → ℕ → Extent
gap_at gaps i = get_or gaps i no_gap

-- the gap at an index is the first that is long enough, and what a cut of it leaves
pub record IsFirstFit (n : ℕ) (gaps : List Extent) (i : ℕ) : Type 0 where
  pub within : i < length gaps
  pub free : is_free (gap_at gaps i) ≡ true
  pub fits : n ≤ (gap_at gaps i).length
  pub first : find (is_fit n) gaps ≡ Some (gap_at gaps i)
  pub left : cut n gaps ≡ take i gaps ++ rest_of n (gap_at gaps i) (drop (i + 1) gaps)

abbrev pub FitsAt : ℕ → List Extent → Option ℕ → Type 0
FitsAt n gaps (Some i) = IsFirstFit n gaps i
FitsAt n gaps None = find (is_fit n) gaps ≡ None

-- none of the first k gaps is long enough
abbrev pub NoneBefore : ℕ → List Extent → ℕ → Type 0
NoneBefore n gaps k = (j : ℕ) → j < k → is_fit n (gap_at gaps j) ≡ false

-- all gaps end by a place
abbrev pub AllEndBy : ℕ → List Extent → Type 0
AllEndBy last gaps = (k : ℕ) → k < length gaps → end_of (gap_at gaps k) ≤ last

-- the first k gaps begin before a place
abbrev pub BeginBefore : ℕ → List Extent → ℕ → Type 0
BeginBefore place gaps k = (j : ℕ) → j < k → (gap_at gaps j).place < place

-- how many gaps, from the first on, begin before a place
pub record CountsBefore (place : ℕ) (gaps : List Extent) (i : ℕ) : Type 0 where
  pub within : i ≤ length gaps
  pub before : BeginBefore place gaps i
  pub behind : i < length gaps → place ≤ (gap_at gaps i).place

-- none of the first k gaps ends just before a place
abbrev pub NoneEnds : ℕ → List Extent → ℕ → Type 0
NoneEnds place gaps k = (j : ℕ) → j < k → end_of (gap_at gaps j) ≡ place → ⊥

-- none of the first k gaps begins at a place
abbrev pub NoneBegins : ℕ → List Extent → ℕ → Type 0
NoneBegins place gaps k = (j : ℕ) → j < k → (gap_at gaps j).place ≡ place → ⊥

-- the gap at an index ends just before a place, or none does
abbrev pub EndsAt : ℕ → List Extent → Option ℕ → Type 0
EndsAt place gaps (Some i) = (i < length gaps) × (end_of (gap_at gaps i) ≡ place)
EndsAt place gaps None = NoneEnds place gaps (length gaps)

-- the gap at an index begins at a place, or none does
abbrev pub BeginsAt : ℕ → List Extent → Option ℕ → Type 0
BeginsAt place gaps (Some i) = (i < length gaps) × ((gap_at gaps i).place ≡ place)
BeginsAt place gaps None = NoneBegins place gaps (length gaps)

-- a range ends before a gap or begins behind it
abbrev pub IsBesideGap : ℕ → ℕ → Extent → Type 0
IsBesideGap place n g = (end_of g ≤ place) ⊎ (place + n ≤ g.place)

-- the first k gaps are beside a range
abbrev pub AreBesideBefore : ℕ → ℕ → List Extent → ℕ → Type 0
AreBesideBefore place n gaps k = (j : ℕ) → j < k → IsBesideGap place n (gap_at gaps j)

-- the gaps and one more, in order of place
abbrev pub put_by_place : Extent → List Extent → List Extent
put_by_place x [] = x ∷ []
put_by_place x (g ∷ gs) = if nat_lt g.place x.place then g ∷ put_by_place x gs else x ∷ g ∷ gs

-- the gaps and a range that none of them ends just before, joined with the gap that begins just behind it
abbrev pub give_right : ℕ → ℕ → List Extent → List Extent
give_right place n [] = new_gap place n ∷ []
give_right place n (g ∷ gs) =
    if place + n == g.place then new_gap place (n + g.length) ∷ gs
    else if nat_lt g.place place then g ∷ give_right place n gs
    else new_gap place n ∷ g ∷ gs
