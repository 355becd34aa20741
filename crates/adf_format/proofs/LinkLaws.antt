-- A path is taken apart into the names that it was made of, and the text of a link into its file and its path.
use Rattle.std.proofs.Common.{◌≡◌, ℕ, refl, ◌∙◌, ap, List, [], ◌∷◌, ◌++◌, Bool, true, false, not}
use Rattle.std.proofs.lemmas.List.{append-nil}
use Rattle.std.specs.Prelude.{◌==◌, ◌&&◌, nat_le, length, if◌then◌else◌, IsTrue}
use Rattle.std.specs.List.{list_all}
use Rattle.adf_format.specs.Names.{is_name}
use Rattle.adf_format.specs.Links.{put_before, between_slashes, file_part, path_part, components, behind_slashes, path_text, is_link_file, link_text}

-- no byte of the text is a slash
abbrev pub HasNoSlash : List ℕ → Type 0
HasNoSlash text = list_all (λ b. not (b == 47)) text ≡ true

both : (a b : Bool) → (a && b) ≡ true → (a ≡ true) × (b ≡ true)
both true b e = (refl, e)
both false b e = cc

not_true : (b : Bool) → not b ≡ true → b ≡ false
not_true true e = cc
not_true false e = refl

-- the names between slashes
name_then : (name rest : List ℕ) → HasNoSlash name → between_slashes (name ++ 47 ∷ rest) ≡ name ∷ between_slashes rest
name_then [] rest h = refl
name_then (b ∷ name) rest h =
    let p = both (not (b == 47)) (list_all (λ b. not (b == 47)) name) h in
    ap (λ t. if t then [] ∷ between_slashes (name ++ 47 ∷ rest) else put_before b (between_slashes (name ++ 47 ∷ rest))) (not_true (b == 47) p.0) ∙ ap (put_before b) (name_then name rest p.1)

name_last : (name : List ℕ) → HasNoSlash name → between_slashes name ≡ name ∷ []
name_last [] h = refl
name_last (b ∷ name) h =
    let p = both (not (b == 47)) (list_all (λ b. not (b == 47)) name) h in
    ap (λ t. if t then [] ∷ between_slashes name else put_before b (between_slashes name)) (not_true (b == 47) p.0) ∙ ap (put_before b) (name_last name p.1)

abbrev pub AllNames : List (List ℕ) → Type 0
AllNames names = list_all is_name names ≡ true

named : (name : List ℕ) → is_name name ≡ true → HasNoSlash name × (nat_le 1 (length name) ≡ true)
named name h =
    let a = both _ _ h in
    let b = both _ _ a.0 in
    let c = both _ _ b.0 in
    (c.1, (both _ _ c.0).1)

parted : (name : List ℕ) (names : List (List ℕ)) → AllNames (name ∷ names) → between_slashes (name ++ behind_slashes names) ≡ name ∷ names
parted name [] h = ap between_slashes (append-nil name) ∙ name_last name (named name (both (is_name name) true h).0).0
parted name (n ∷ names) h =
    let p = both (is_name name) (list_all is_name (n ∷ names)) h in
    name_then name (n ++ behind_slashes names) (named name p.0).0 ∙ ap (λ ns. name ∷ ns) (parted n names p.1)

-- a path is taken apart into its names
pub components-path_text : (names : List (List ℕ)) → AllNames names → components (path_text names) ≡ names
components-path_text [] h = refl
components-path_text ([] ∷ names) h = cc
components-path_text ((b ∷ name) ∷ names) h = parted (b ∷ name) names h

-- the text of a link is taken apart at its first `>`
pub link_parts : (file path : List ℕ) → IsTrue (is_link_file file) → (file_part (link_text file path) ≡ file) × (path_part (link_text file path) ≡ path)
link_parts [] path h = (refl, refl)
link_parts (b ∷ file) path h =
    let p = both (not (b == 62)) (list_all (λ b. not (b == 62)) file) h in
    let rest = link_parts file path p.1 in
    let no = not_true (b == 62) p.0 in (
      ap (λ t. if t then [] else b ∷ file_part (link_text file path)) no ∙ ap (λ xs. b ∷ xs) rest.0,
      ap (λ t. if t then link_text file path else path_part (link_text file path)) no ∙ rest.1,
    )
