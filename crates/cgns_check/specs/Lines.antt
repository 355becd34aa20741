-- What is printed of a node.
use Rattle.std.specs.Prelude.{ℕ, Bool, List, [], ◌∷◌, ◌++◌, if◌then◌else◌, map, codes}
use Rattle.sids_rules.specs.Findings.{two_digits}
use Rattle.cgns_check.specs.Words.{word_of}

-- `PATH Knn WORD`, by a path as it is printed
abbrev pub number_line : List ℕ → ℕ → List ℕ
number_line path number = path ++ codes " K" ++ two_digits number ++ 32 ∷ word_of number

-- `PATH N01 link-inside-link`
abbrev pub link_line : List ℕ → List ℕ
link_line path = path ++ codes " N01 link-inside-link"

-- the line of a note, where there is one
abbrev pub link_lines : List ℕ → Bool → List (List ℕ)
link_lines path note = if note then link_line path ∷ [] else []

-- a note, then the rules of these numbers
abbrev pub node_lines : List ℕ → Bool → List ℕ → List (List ℕ)
node_lines path note numbers = link_lines path note ++ map (number_line path) numbers
