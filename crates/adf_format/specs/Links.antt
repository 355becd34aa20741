-- The text of a link, `file>path`, and the names on a path.
use Rattle.std.specs.Prelude.{ℕ, Bool, false, not, ◌&&◌, ◌==◌, if◌then◌else◌, List, [], ◌∷◌, ◌++◌}
use Rattle.std.specs.List.{list_any, list_all}
use Rattle.adf_format.specs.Names.{is_name}

-- a byte before the first of some texts
abbrev pub put_before : ℕ → List (List ℕ) → List (List ℕ)
put_before b [] = (b ∷ []) ∷ []
put_before b (text ∷ texts) = (b ∷ text) ∷ texts

-- the texts between the slashes, one more than there are slashes
abbrev pub between_slashes : List ℕ → List (List ℕ)
between_slashes [] = [] ∷ []
between_slashes (b ∷ path) = if b == 47 then [] ∷ between_slashes path else put_before b (between_slashes path)

-- the bytes before the first `>`, and those after it
abbrev pub file_part : List ℕ → List ℕ
file_part [] = []
file_part (b ∷ text) = if b == 62 then [] else b ∷ file_part text

abbrev pub path_part : List ℕ → List ℕ
path_part [] = []
path_part (b ∷ text) = if b == 62 then text else path_part text

-- whether a path begins at a root
abbrev pub is_absolute : List ℕ → Bool
is_absolute [] = false
is_absolute (b ∷ path) = b == 47

-- the names on a path: none on `/`
abbrev pub components : List ℕ → List (List ℕ)
components [] = [] ∷ []
components (b ∷ []) = if b == 47 then [] else (b ∷ []) ∷ []
components (b ∷ c ∷ path) = if b == 47 then between_slashes (c ∷ path) else between_slashes (b ∷ c ∷ path)

-- the names, each behind a slash
abbrev pub behind_slashes : List (List ℕ) → List ℕ
behind_slashes [] = []
behind_slashes (name ∷ names) = 47 ∷ name ++ behind_slashes names

-- the path of these names: `/` alone where there are none
abbrev pub path_text : List (List ℕ) → List ℕ
path_text [] = 47 ∷ []
path_text (name ∷ names) = behind_slashes (name ∷ names)

-- the path of a link: `/` alone, or `/` and names joined by `/`
abbrev pub is_link_path : List ℕ → Bool
is_link_path path = is_absolute path && list_all is_name (components path)

-- the file of a link: any bytes but `>`; none for the link's own file
abbrev pub is_link_file : List ℕ → Bool
is_link_file file = list_all (λ b. not (b == 62)) file

abbrev pub link_text : List ℕ → List ℕ → List ℕ
link_text file path = file ++ 62 ∷ path

-- the text of a link: a file, `>` and a path
abbrev pub is_link_text : List ℕ → Bool
is_link_text text = list_any (λ b. b == 62) text && is_link_path (path_part text)
