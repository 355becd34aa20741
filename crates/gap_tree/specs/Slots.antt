-- Slots in a row: gaps, each with its spot in the lists of free chunks.
use Rattle.std.specs.Prelude.{ℕ, suc, ◌<◌, max, nat_lt, Bool, true, false, if◌then◌else◌, List, [], ◌∷◌, map, Option, Some, None, ⊤}
use Rattle.std.specs.List.{AllByRecursion}
use Rattle.adf_format.specs.declared.types.Extent.{Extent}
use Rattle.adf_format.specs.Tiles.{is_free}
use Rattle.adf_format.specs.HeapRule.{is_fit}
use Rattle.gap_tree.specs.declared.slot.Slot.{Slot}

-- the gaps alone
abbrev pub gaps_of : List Slot → List Extent
gaps_of slots = map (λ (s : Slot). s.gap) slots

-- each gap begins before all later ones
abbrev pub IsByPlace : List Slot → Type 0
IsByPlace [] = ⊤
IsByPlace (s ∷ ss) = AllByRecursion (λ (r : Slot). s.gap.place < r.gap.place) ss × IsByPlace ss

-- the length of a free chunk, and 0 for a filler
abbrev pub free_length : Extent → ℕ
free_length g = if is_free g then g.length else 0

-- the length of the longest free chunk
abbrev pub longest_of : List Slot → ℕ
longest_of [] = 0
longest_of (s ∷ ss) = max (free_length s.gap) (longest_of ss)

abbrev pub one_on : Option ℕ → Option ℕ
one_on None = None
one_on (Some i) = Some (suc i)

-- the index of the first free chunk of n bytes or more
abbrev pub fit_index : ℕ → List Slot → Option ℕ
fit_index n [] = None
fit_index n (s ∷ ss) = if is_fit n s.gap then Some 0 else one_on (fit_index n ss)

-- how many gaps, from the first on, begin before a place
abbrev pub count_before : ℕ → List Slot → ℕ
count_before place [] = 0
count_before place (s ∷ ss) = if nat_lt s.gap.place place then suc (count_before place ss) else 0

abbrev pub has_none : List Slot → Bool
has_none [] = true
has_none (s ∷ ss) = false

abbrev pub first_slot : List Slot → Option Slot
first_slot [] = None
first_slot (s ∷ ss) = Some s

-- the slots behind the first
abbrev pub rest_slots : List Slot → List Slot
rest_slots [] = []
rest_slots (s ∷ ss) = ss
