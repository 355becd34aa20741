-- The lists that are kept, and whose they are.
use Rattle.std.specs.Prelude.{◌≡◌, ℕ, nat_lt, nat_eq, true, false, List, length, Option, Some, option_map, if◌then◌else◌}
use Rattle.std.specs.List.{sum_by}
use Rattle.std.specs.Map.{lookup, values_of}
use Rattle.kept_names.specs.declared.names.Kept.{Kept}

-- the lists by the serials of their nodes, and the group of edits that is under way
pub record NamesState : Type 0 where
  pub lists : List (ℕ × Kept)
  pub group : ℕ

-- what is kept of a node
abbrev pub kept_at : NamesState → ℕ → Option Kept
kept_at names node = lookup (nat_eq node) names.lists

-- its children
abbrev pub list_at : NamesState → ℕ → Option (List (List ℕ × ℕ))
list_at names node = option_map (λ k. k.list) (kept_at names node)

-- how many names are kept
abbrev pub total : NamesState → ℕ
total names = sum_by (λ k. length k.list) (values_of names.lists)

-- the children of each node
abbrev pub Children : Type 0
Children = ℕ → List (List ℕ × ℕ)

-- Each list that is kept is that of the children of its node; and one that no edit of the group under way has touched is also
-- that of the children as they were before the group.
pub record AreKept (names : NamesState) (now was : Children) : Type 0 where
  pub work : (node : ℕ) (kept : Kept) → kept_at names node ≡ Some kept → kept.list ≡ now node
  pub undo : (node : ℕ) (kept : Kept) → kept_at names node ≡ Some kept → nat_lt kept.group names.group ≡ true → kept.list ≡ was node

-- the lists of children, where that of one node is another
abbrev pub changed : Children → ℕ → List (List ℕ × ℕ) → Children
changed now node list q = if nat_eq node q then list else now q

-- lists stay those of the children, where these change in the tree
abbrev pub StaysTied : (Children → Children) → NamesState → NamesState → Type 0
StaysTied after old new = (now was : Children) → AreKept old now was → AreKept new (after now) was

-- all other lists stay, and that of a node is kept as what is made of it, or not
pub record Alters (node : ℕ) (made : Option (List (List ℕ × ℕ))) (old new : NamesState) : Type 0 where
  pub group : new.group ≡ old.group
  pub others : (q : ℕ) → nat_eq node q ≡ false → kept_at new q ≡ kept_at old q
  pub this : (kept : Kept) → kept_at new node ≡ Some kept → (made ≡ Some kept.list) × (kept.group ≡ old.group)
