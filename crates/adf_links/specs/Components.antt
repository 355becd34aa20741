-- Where the components of a path stand in it.
use Rattle.std.specs.Prelude.{ℕ, ◌+◌, ◌-◌, ◌≤◌, if◌then◌else◌, List, [], ◌∷◌, length, take, drop}
use Rattle.adf_model.specs.declared.lists.PathRange.{PathRange}
use Rattle.adf_format.specs.Links.{is_absolute, components, between_slashes}

-- the ranges of texts of which the first stands at a place, and each further one behind the byte that ends the one before
abbrev pub ranges_from : ℕ → List (List ℕ) → List PathRange
ranges_from start [] = []
ranges_from start (text ∷ texts) = record { start = start; end = start + length text } ∷ ranges_from (start + length text + 1) texts

-- the ranges of what stands between the slashes from a place on
abbrev pub ranges_between : List ℕ → ℕ → List PathRange
ranges_between path from = ranges_from from (between_slashes (drop from path))

-- the ranges of a path's components; the slash that begins an absolute path stands before the first
abbrev pub component_ranges : List ℕ → List PathRange
component_ranges path = ranges_from (if is_absolute path then 1 else 0) (components path)

-- the bytes of a range
abbrev pub text_at : List ℕ → PathRange → List ℕ
text_at path range = take (range.end - range.start) (drop range.start path)

-- a range lies within so many bytes
pub record IsWithin (bytes : ℕ) (range : PathRange) : Type 0 where
  pub ordered : range.start ≤ range.end
  pub ended : range.end ≤ bytes
