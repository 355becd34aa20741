-- Paths as they are printed, name by name.
use Rattle.std.proofs.Common.{◌≡◌, ◌∙◌, sym, ap, subst, ℕ, ◌+◌, ◌<◌, List, [], ◌∷◌, ◌++◌, length, take, get_or, append_assoc}
use Rattle.std.specs.Prelude.{map, reverse, Some}
use Rattle.std.proofs.lemmas.List.{append-nil, map-append, reverse-append, take_more}
use Rattle.adf_format.specs.Links.{behind_slashes, path_text}
use Rattle.adf_model.specs.declared.tree.Child.{Child}
use Rattle.adf_model.specs.Spelling.{spelled}
use Rattle.sids_rules.specs.Findings.{printed_path}
use Rattle.cgns_check.specs.declared.stack.Next.{Next}
use Rattle.cgns_check.specs.Level.{Level}
use Rattle.cgns_check.specs.Levels.{stop_of}
use Rattle.cgns_check.specs.Nexts.{IsNextIn, IsNextOf}
use Rattle.cgns_check.proofs.LevelLaws.{path_down}

behind_more : (names : List (List ℕ)) (name : List ℕ) → behind_slashes (names ++ name ∷ []) ≡ behind_slashes names ++ 47 ∷ name
behind_more [] name = ap (λ (n : List ℕ). 47 ∷ n) (append-nil name)
behind_more (first ∷ names) name =
    ap (λ (n : List ℕ). (47 ∷ first) ++ n) (behind_more names name) ∙ sym (append_assoc (47 ∷ first) (behind_slashes names) (47 ∷ name))

is_path : (names : List (List ℕ)) (name : List ℕ) → path_text (names ++ name ∷ []) ≡ behind_slashes names ++ 47 ∷ name
is_path [] name = behind_more [] name
is_path (first ∷ names) name = behind_more (first ∷ names) name

-- the names that levels gave, as they are printed
abbrev pub printed_names : List Level → List ℕ
printed_names levels = behind_slashes (map spelled (map (λ (level : Level). level.given) levels))

-- a name below levels
pub path_ends : (levels : List Level) (name : List ℕ) → printed_names levels ++ 47 ∷ spelled name ≡ printed_path (map (λ (level : Level). level.given) levels ++ name ∷ [])
path_ends levels name =
    let names = map (λ (level : Level). level.given) levels in
    sym (is_path (map spelled names) (spelled name)) ∙ sym (ap path_text (map-append spelled names (name ∷ [])))

-- the name that one more level gave
pub path_goes_on : (levels : List Level) (k : ℕ) (level : Level) → k < length levels → level ≡ get_or levels k level → printed_names (take k levels) ++ 47 ∷ spelled level.given ≡ printed_names (take (k + 1) levels)
path_goes_on levels k level h is =
    let before = take k levels in
    let given : Level → List ℕ = λ (level : Level). level.given in
    sym (behind_more (map spelled (map given before)) (spelled level.given))
    ∙ ap behind_slashes (sym (map-append spelled (map given before) (given level ∷ [])))
    ∙ ap (λ (ns : List (List ℕ)). behind_slashes (map spelled ns)) (sym (map-append given before (level ∷ [])))
    ∙ ap printed_names (ap (λ (l : Level). before ++ l ∷ []) is ∙ sym (take_more levels k level h))

-- ---- the next of the children that wait

-- it is the first that waits on the last level
pub next_is : (frames above : List Level) (level : Level) → frames ≡ above ++ level ∷ [] → (child : Child) (rest : List Child) → level.rest ≡ child ∷ rest
    → (next : Next) → next.stop ≡ stop_of level child.node → next.path ≡ printed_path (map (λ (level : Level). level.given) above ++ child.name ∷ []) → IsNextOf (reverse frames) (Some next)
next_is frames above level last child rest waits next stop path =
    let turned : reverse frames ≡ level ∷ reverse above = ap reverse last ∙ reverse-append above (level ∷ []) in
    let here : IsNextIn level (reverse above) (child ∷ rest) (Some next) = record { stop = stop; path = path ∙ ap (λ (ns : List (List ℕ)). printed_path (ns ++ child.name ∷ [])) (sym (path_down above)) } in
    subst (λ ls. IsNextOf ls (Some next)) (sym turned) (subst (λ r. IsNextIn level (reverse above) r (Some next)) (sym waits) here)
