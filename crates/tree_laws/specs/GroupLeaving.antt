-- What a group of edits leaves of a file.
use Rattle.std.specs.Prelude.{◌≡◌, ℕ, Bool, List, [], ◌∷◌, ◌++◌, Ok}
use Rattle.adf_format.specs.Tree.{Tree}
use Rattle.adf_format.specs.Placement.{Placement}
use Rattle.adf_format.specs.HeapRule.{place_edit}
use Rattle.adf_model.specs.declared.tree.Edit.{Edit}
use Rattle.adf_model.specs.Edits.{apply}
use Rattle.adf_model.specs.Placing.{placed_as, place_group}
use Rattle.adf_model.specs.Untouched.{touched_extents, group_touched, group_shaped}
use Rattle.tree_laws.specs.Leaving.{Leaves}
use Rattle.tree_laws.specs.Groups.{tree_left, AreDone}

-- an edit keeps the version and the format of its tree
abbrev pub EditKeepsFormat : Type 0
EditKeepsFormat =
    (tree after : Tree) (edit : Edit) → apply tree edit ≡ Ok after → (after.wide ≡ tree.wide)
    × (after.format ≡ tree.format)

abbrev pub GroupKeepsFormat : Type 0
GroupKeepsFormat =
    (tree : Tree) (done : List (Edit × Tree)) → AreDone tree done → ((tree_left tree done).wide ≡ tree.wide)
    × ((tree_left tree done).format ≡ tree.format)

-- where nothing was done all is left
abbrev pub NothingLeaves : Type 0
NothingLeaves = (wide : Bool) (p : Placement) (image : List ℕ) → Leaves [] [] wide p p image image

-- what a group leaves, and then one more edit, the group with that edit leaves
abbrev pub OneMoreLeaves : Type 0
OneMoreLeaves =
    (limit : ℕ) (tree : Tree) (wide : Bool) (p q r : Placement) (done : List (Edit × Tree))
    (e : Edit × Tree) (a b c : List ℕ) → place_group limit tree p done ≡ Ok q
    → Leaves (group_touched limit tree p done) (group_shaped done) wide p q a b
    → Leaves (touched_extents (tree_left tree done) q e.0) (group_shaped (e ∷ [])) wide q r b c
    → Leaves (group_touched limit tree p (done ++ e ∷ [])) (group_shaped (done ++ e ∷ [])) wide p r a c

-- edits one after another, each placed, and each leaving what it does not touch from one image to the next
abbrev pub LeavesEach : ℕ → Bool → Tree → Placement → List (Edit × Tree) → Placement → List ℕ → List ℕ
    → Type 0
LeavesEach limit wide tree p [] q old new = (q ≡ p) × (new ≡ old)
LeavesEach limit wide tree p (e ∷ done) q old new =
    (m : Placement) × (middle : List ℕ) × (place_edit limit tree e.1 (placed_as e.0) p ≡ Ok m)
    × Leaves (touched_extents tree p e.0) (group_shaped (e ∷ [])) wide p m old middle
    × LeavesEach limit wide e.1 m done q middle new

-- they are placed, and leave what none of them touches
abbrev pub GroupLeaves : Type 0
GroupLeaves =
    (limit : ℕ) (wide : Bool) (tree : Tree) (p q : Placement) (done : List (Edit × Tree)) (old new : List ℕ)
    → LeavesEach limit wide tree p done q old new
    → (place_group limit tree p done ≡ Ok q)
    × Leaves (group_touched limit tree p done) (group_shaped done) wide p q old new
