-- Levels of which children wait: what is given up, what is given, and the path to the deepest.
use Rattle.std.proofs.Common.{◌≡◌, ◌≢◌, ◌∙◌, sym, ap, refl, arith, ℕ, zero, suc, ◌+◌, ◌-◌, ◌<◌, ◌≤◌, Bool, true, false, List, [], ◌∷◌, ◌++◌, length, drop, append_assoc, length-append, inl, inr}
use Rattle.std.specs.Prelude.{map, reverse, nat_lt, if◌then◌else◌, Option, Some, None}
use Rattle.std.specs.List.{AllByRecursion}
use Rattle.std.proofs.lemmas.Bool.{cases_lt}
use Rattle.std.proofs.lemmas.List.{append-nil, reverse-append, drop_all}
use Rattle.adf_model.specs.declared.tree.Child.{Child}
use Rattle.adf_model.specs.declared.tree.NodeId.{NodeId}
use Rattle.adf_model.specs.Slots.{Files}
use Rattle.sids_rules.specs.Walk.{Visit}
use Rattle.cgns_check.specs.Level.{Level, name_at}
use Rattle.cgns_check.specs.Levels.{visit_at, visit_of, stop_of, advanced_to, advanced, path_to, waiting_at, is_done, without_done, put_below, after_giving}
use Rattle.cgns_check.specs.Nexts.{LastWaits}

-- ---- one level

-- the child at a place, and those behind it
pub record ChildAt (entries : List Child) (k : ℕ) : Type 0 where
  pub child : Child
  pub is : drop k entries ≡ child ∷ drop (k + 1) entries
  pub name : name_at entries k ≡ child.name

later : (k : ℕ) → suc (k + 1) ≡ suc k + 1
later k = omega arith

pub child_at : (entries : List Child) (k : ℕ) → k < length entries → ChildAt entries k
child_at [] k h = absurd (omega arith)
child_at (child ∷ entries) zero h = record { child = child; is = refl; name = refl }
child_at (child ∷ entries) (suc k) h = let at = child_at entries k (omega arith) in record { child = at.child; is = at.is ∙ ap (λ n. at.child ∷ drop n (child ∷ entries)) (later k); name = at.name }

-- the level of the children from a place on
abbrev pub level_at : NodeId → Option NodeId → Option NodeId → Bool → List Child → ℕ → Level
level_at at base zone inside entries k = record { at = at; base = base; zone = zone; inside = inside; given = name_at entries (k - 1); rest = drop k entries }

advances : (at : NodeId) (base zone : Option NodeId) (inside : Bool) (entries : List Child) (k : ℕ) → k < length entries → level_at at base zone inside entries (k + 1) ≡ advanced (level_at at base zone inside entries k)
advances at base zone inside entries k h =
    let c = child_at entries k h in
    let from : List Child → Level = λ r. advanced_to (level_at at base zone inside entries k) r in
    let with_name : List ℕ → Level = λ n. record { at = at; base = base; zone = zone; inside = inside; given = n; rest = drop (k + 1) entries } in
    let before : (k + 1) - 1 ≡ k = omega arith in
    ap with_name (ap (name_at entries) before ∙ c.name) ∙ sym (ap from c.is)

stays : (at : NodeId) (base zone : Option NodeId) (inside : Bool) (entries : List Child) (k : ℕ) → length entries ≤ k → level_at at base zone inside entries k ≡ advanced (level_at at base zone inside entries k)
stays at base zone inside entries k h = sym (ap (λ r. advanced_to (level_at at base zone inside entries k) r) (drop_all k entries h))

-- a place that moves behind the child there, where one is, gives that child
pub moves : (at : NodeId) (base zone : Option NodeId) (inside : Bool) (entries : List Child) (k moved : ℕ) → (k < length entries → moved ≡ k + 1) → (length entries ≤ k → moved ≡ k)
    → level_at at base zone inside entries moved ≡ advanced (level_at at base zone inside entries k)
moves at base zone inside entries k moved on off =
    elim (cases_lt k (length entries)) [
      | inl h ↦ ap (level_at at base zone inside entries) (on h) ∙ advances at base zone inside entries k h
      | inr h ↦ ap (level_at at base zone inside entries) (off h) ∙ stays at base zone inside entries k h
    ]

-- ---- paths

path_to-append : (xs ys : List Level) → path_to (xs ++ ys) ≡ path_to ys ++ path_to xs
path_to-append [] ys = sym (append-nil (path_to ys))
path_to-append (level ∷ xs) ys =
    ap (λ (p : List (List ℕ)). p ++ level.given ∷ []) (path_to-append xs ys) ∙ append_assoc (path_to ys) (path_to xs) (level.given ∷ [])

-- the names on the path are those that the levels gave, from the first
pub path_down : (frames : List Level) → path_to (reverse frames) ≡ map (λ (level : Level). level.given) frames
path_down [] = refl
path_down (level ∷ frames) =
    ap path_to (reverse-append (level ∷ []) frames) ∙ path_to-append (reverse frames) (level ∷ []) ∙ ap (λ (p : List (List ℕ)). level.given ∷ p) (path_down frames)

pub path_length : (levels : List Level) → length (path_to levels) ≡ length levels
path_length [] = refl
path_length (level ∷ levels) = let h = path_length levels in let e = length-append (path_to levels) (level.given ∷ []) in omega arith

-- ---- levels that are given up

done_waits : (files : Files) (level : Level) (levels : List Level) (rest : List Child) → level.rest ≡ rest
    → waiting_at files (without_done levels) ≡ waiting_at files levels
    → waiting_at files (if is_done rest then without_done levels else level ∷ levels) ≡ waiting_at files (level ∷ levels)
done_waits files level levels [] e h = h ∙ sym (ap (λ (r : List Child). map (visit_of files (path_to levels) level) r ++ waiting_at files levels) e)
done_waits files level levels (child ∷ rest) e h = refl

-- none waits of them
pub same_wait : (files : Files) (levels : List Level) → waiting_at files (without_done levels) ≡ waiting_at files levels
same_wait files [] = refl
same_wait files (level ∷ levels) = done_waits files level levels level.rest refl (same_wait files levels)

not_done : (child : Child) (rest : List Child) → (child ∷ rest) ≢ []
not_done child rest e = cc

last_or : (level : Level) (levels : List Level) (rest : List Child) → level.rest ≡ rest → LastWaits (without_done levels) → LastWaits (if is_done rest then without_done levels else level ∷ levels)
last_or level levels [] e h = h
last_or level levels (child ∷ rest) e h = λ none. not_done child rest (sym e ∙ none)

pub last_waits : (levels : List Level) → LastWaits (without_done levels)
last_waits [] = tt
last_waits (level ∷ levels) = last_or level levels level.rest refl (last_waits levels)

fewer_or : (level : Level) (levels : List Level) (rest : List Child) → length (without_done levels) ≤ length levels → length (if is_done rest then without_done levels else level ∷ levels) ≤ length (level ∷ levels)
fewer_or level levels [] h = omega arith
fewer_or level levels (child ∷ rest) h = omega arith

pub no_more : (levels : List Level) → length (without_done levels) ≤ length levels
no_more [] = omega arith
no_more (level ∷ levels) = fewer_or level levels level.rest (no_more levels)

-- ---- levels that give

put_or : (level : Level) (levels : List Level) (b : Bool) → nat_lt (length levels) 510 ≡ b → length levels ≤ 510 → length (if b then level ∷ levels else levels) ≤ 510
put_or level levels true e h = grind arith
put_or level levels false e h = h

pub put_few : (below : Option Level) (levels : List Level) → length levels ≤ 510 → length (put_below below levels) ≤ 510
put_few None levels h = h
put_few (Some level) levels h = put_or level levels (nat_lt (length levels) 510) refl h

pub given_few : (below : Option Level) (levels : List Level) → length levels ≤ 510 → length (after_giving below levels) ≤ 510
given_few below [] h = put_few below [] (omega arith)
given_few below (level ∷ levels) h = put_few below (advanced level ∷ levels) h

-- the first child that waits is the next, and what is left waits when it is given
pub front : (files : Files) (level : Level) (levels : List Level) (child : Child) (rest : List Child) → level.rest ≡ child ∷ rest
    → waiting_at files (level ∷ levels) ≡ visit_at files (path_to (advanced level ∷ levels)) (stop_of level child.node) ∷ waiting_at files (advanced level ∷ levels)
front files level levels child rest e =
    let wait : List Child → List Visit = λ r. map (visit_of files (path_to levels) level) r ++ waiting_at files levels in
    let after : List Child → List Visit = λ r. visit_at files (path_to (advanced_to level r ∷ levels)) (stop_of level child.node) ∷ waiting_at files (advanced_to level r ∷ levels) in
    let same : wait (child ∷ rest) ≡ after (child ∷ rest) = refl in
    ap wait e ∙ same ∙ sym (ap after e)

-- the path of that child
pub path_given : (levels : List Level) (level : Level) (child : Child) (rest : List Child) → level.rest ≡ child ∷ rest → path_to (advanced level ∷ levels) ≡ path_to levels ++ child.name ∷ []
path_given levels level child rest e = ap (λ (r : List Child). path_to (advanced_to level r ∷ levels)) e

-- ---- what holds of all that wait

pub all_append : {A : Type 0} (P : A → Type 0) (xs ys : List A) → AllByRecursion P xs → AllByRecursion P ys → AllByRecursion P (xs ++ ys)
all_append P [] ys h k = k
all_append P (x ∷ xs) ys h k = (h.0, all_append P xs ys h.1 k)
