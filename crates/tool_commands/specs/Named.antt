-- The files that words name, each by its first word.
use Rattle.std.specs.Prelude.{ℕ, Bool, ◌==◌, if◌then◌else◌, List, [], ◌∷◌, ◌++◌, Option, Some, None}
use Rattle.std.specs.List.{list_any}
use Rattle.adf_library.specs.Shelf.{SlotState, number_in}
use Rattle.tool_commands.specs.declared.named_files.NamedFile.{NamedFile}

-- a file of this number is among these
abbrev pub has_number : List NamedFile → ℕ → Bool
has_number files number = list_any (λ (file : NamedFile). file.number == number) files

-- a file behind these, where none of its number is among them
abbrev pub with_file : List NamedFile → ℕ → List ℕ → List NamedFile
with_file files number word = if has_number files number then files else files ++ record { number = number; word = word } ∷ []

-- the file that a word names, where a device stands under it
abbrev pub with_named : List NamedFile → Option ℕ → List ℕ → List NamedFile
with_named files None word = files
with_named files (Some number) word = with_file files number word

-- the files that words name, behind these
abbrev pub named_behind : List NamedFile → List SlotState → List (List ℕ) → List NamedFile
named_behind files slots [] = files
named_behind files slots (word ∷ words) = named_behind (with_named files (number_in slots word) word) slots words

-- the files that words name, in the order of their first words
abbrev pub named_files : List SlotState → List (List ℕ) → List NamedFile
named_files slots words = named_behind [] slots words
