-- The two parts of a link's text, and the refusals of what joins them.
use Rattle.std.specs.Prelude.{◌≡◌, ℕ, ◌+◌, ◌≤◌, List, length, take, drop}
use Rattle.adf_format.specs.Links.{file_part, path_part}
use Rattle.adf_model.specs.declared.error.AdfError.{AdfError}
use Rattle.adf_model.specs.declared.error.AdfError.TheVariants.{Memory, BadLink, TooLarge}

-- a link's text is cut at its first `>`: the file ends before it, and the path starts behind it
pub record CutsLink (text : List ℕ) (file_end path_start : ℕ) : Type 0 where
  pub within : path_start ≤ length text
  pub mark : path_start ≡ file_end + 1
  pub file : take file_end text ≡ file_part text
  pub path : drop path_start text ≡ path_part text

-- why a file and a path are not joined
abbrev pub IsJoinRefusal : AdfError → Type 0
IsJoinRefusal Memory = Unit {0}
IsJoinRefusal BadLink = Unit {0}
IsJoinRefusal TooLarge = Unit {0}
IsJoinRefusal error = ⊥
