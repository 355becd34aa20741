-- Entries of tables, one by one.
use Rattle.std.specs.Prelude.{ℕ, ◌+◌, ◌*◌, Bool, not, ◌&&◌, List}
use Rattle.std.specs.List.{list_any}
use Rattle.std.specs.Str.{bytes_eq}
use Rattle.adf_format.specs.Pointer.{is_place}
use Rattle.adf_format.specs.Checks.{Row, row}
use Rattle.adf_format.specs.FirstFault.{is_name_field, entry_name, entry_pointer, count_up}

-- one of the first entries of a table has this name
abbrev pub is_repeated : List ℕ → ℕ → ℕ → List ℕ → Bool
is_repeated image t i name = list_any (λ j. bytes_eq (entry_name image t j) name) (count_up i)

-- the rule of one entry
abbrev pub entry_row : List ℕ → ℕ → ℕ → Row
entry_row image t i = row 24 (t + 16 + 44 * i) (is_name_field (entry_name image t i) && not (is_repeated image t i (entry_name image t i)) && is_place (entry_pointer image t i))
