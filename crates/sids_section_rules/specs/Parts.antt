-- Parts of a list of whole numbers.
use Rattle.std.specs.Prelude.{◌≡◌, ◌≤◌, ◌+◌, ◌*◌, ℕ, Bool, true, List, [], ◌∷◌, take, drop}
use Rattle.adf_model.specs.declared.tree.Selection.{Selection}
use Rattle.adf_model.specs.Selection.{selection_fits, elements, spaced}
use Rattle.sids_readings.specs.Reading.{bytes_of}

-- the bytes of so many numbers from one on
abbrev pub part_bytes : Bool → ℕ → ℕ → List ℕ → List ℕ
part_bytes wide first count bytes = take (count * bytes_of wide) (drop (first * bytes_of wide) bytes)

-- a selection names so many elements from one on, counted from 0, of each list that has them
pub record IsPart (first : ℕ) (count : ℕ) (selection : Selection) : Type 0 where
  pub fits : (dim : ℕ) → first + count ≤ dim → selection_fits (dim ∷ []) selection ≡ true
  pub elements : (dim : ℕ) → elements (dim ∷ []) selection ≡ spaced first 1 count
