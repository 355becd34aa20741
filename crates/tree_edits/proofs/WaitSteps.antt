-- What calls of an edit make wait: writes one after another, and what is said where bytes are told.
use Rattle.std.proofs.Common.{◌≡◌, ◌≢◌, ℕ, zero, suc, refl, sym, ap, subst, arith, List, [], ◌∷◌, ◌++◌, true, Option, None, Some, ◌+◌, ◌*◌, ◌<◌, ◌≤◌}
use Rattle.std.proofs.lemmas.Bool.Decides.{nat_tests}
use Rattle.std.specs.Prelude.{nat_lt, if◌then◌else◌}
use Rattle.adf_format.specs.declared.types.Extent.{Extent}
use Rattle.adf_format.specs.declared.types.ExtentKind.{ExtentKind}
use Rattle.adf_format.specs.Changes.{heap_fields}
use Rattle.adf_format.specs.HeapRule.{heap_give}
use Rattle.adf_format.specs.Parts.{table_length}
use Rattle.adf_format.specs.Placement.{Heap, extent}
use Rattle.cg_io.specs.Blocks.{Both}
use Rattle.field_access.specs.Fields.{IsWithin, WaitsWithin, range}
use Rattle.field_access.proofs.WaitLaws.{within_then, within_left, within_right, within_range, within_later, waits_then, waits_wider, within_both}
use Rattle.node_reads.specs.declared.header.ChildTable.{ChildTable}
use Rattle.tree_edits.specs.declared.listed.Listed.{Listed}
use Rattle.tree_edits.specs.Joined.{extents_of_table}
use Rattle.tree_edits.specs.Left.{entry_place, length_behind}
use Rattle.tree_edits.specs.Waiting.{WaitsInRoom, IfTold, list_ranges}
use Rattle.tree_edits.proofs.Waiting.{more_own, one_given}

-- ---- writes one after another

-- ranges of one write, and then those of another
pub waits_both : (xs ys : List Extent) (x y z : List ℕ) → WaitsWithin xs x y → WaitsWithin ys y z → WaitsWithin (xs ++ ys) x z
waits_both xs ys x y z v w = waits_then (xs ++ ys) x y z (waits_wider xs (xs ++ ys) x y (within_left xs ys) v) (waits_wider ys (xs ++ ys) y z (within_right xs ys) w)

-- a part of a range is written
pub part_waits : (place all at n : ℕ) (x y z : List ℕ) → WaitsWithin (range place all ∷ []) x y → WaitsWithin (range at n ∷ []) y z → place ≤ at → at + n ≤ place + all → WaitsWithin (range place all ∷ []) x z
part_waits place all at n x y z v w low high =
    waits_then (range place all ∷ []) x y z v (waits_wider (range at n ∷ []) (range place all ∷ []) y z (within_range ExtentKind.FreeChunk at n (range place all) low high) w)

-- one piece behind another
pub next_waits : (at done n : ℕ) (x y z : List ℕ) → WaitsWithin (range at done ∷ []) x y → WaitsWithin (range (at + done) n ∷ []) y z → WaitsWithin (range at (done + n) ∷ []) x z
next_waits at done n x y z v w =
    part_waits at (done + n) (at + done) n x y z
    (waits_wider (range at done ∷ []) (range at (done + n) ∷ []) x y (within_range ExtentKind.FreeChunk at done (range at (done + n)) (omega arith) (omega arith)) v) w (omega arith) (omega arith)

-- what waited before a call that reads waited behind it
pub waits_again : (xs : List Extent) (x y z : List ℕ) → y ≡ x → WaitsWithin xs y z → WaitsWithin xs x z
waits_again xs x y z same w = subst (λ (blocks : List ℕ). WaitsWithin xs blocks z) same w

pub waits_long : (at n m : ℕ) (x y : List ℕ) → n ≡ m → WaitsWithin (range at n ∷ []) x y → WaitsWithin (range at m ∷ []) x y
waits_long at n m x y same w = subst (λ k. WaitsWithin (range at k ∷ []) x y) same w

pub waits_part : (at place n m : ℕ) (x y : List ℕ) → at ≡ place → n ≡ m → WaitsWithin (range at n ∷ []) x y → WaitsWithin (range place m ∷ []) x y
waits_part at place n m x y here same w = waits_long place n m x y same (subst (λ k. WaitsWithin (range k n ∷ []) x y) here w)

-- ---- tables of children

-- the extent of a table with entries
one_extent : (table : ChildTable) → 0 < table.entries → extents_of_table table ≡ extent ExtentKind.SubNodes table.place (table_length table.entries) ∷ []
one_extent table some = ap (λ b. if b then extent ExtentKind.SubNodes table.place (table_length table.entries) ∷ [] else []) tells
  where
    tells : nat_lt 0 table.entries ≡ true
    tells = grind (arith, nat_tests)

pub fields_within : (header from n : ℕ) (table : ChildTable) → 68 ≤ from → from + n ≤ 96 → IsWithin (range (header + from) n ∷ []) (list_ranges header table)
fields_within header from n table low high =
    within_then (range (header + from) n ∷ []) (range (header + 68) 28 ∷ []) (list_ranges header table)
    (within_range ExtentKind.FreeChunk (header + from) n (range (header + 68) 28) (omega (arith, low)) (omega (arith, high)))
    (within_left (range (header + 68) 28 ∷ []) (extents_of_table table))

pub part_of_table : (table : ChildTable) (at n : ℕ) → 0 < table.entries → table.place ≤ at → at + n ≤ table.place + table_length table.entries → IsWithin (range at n ∷ []) (extents_of_table table)
part_of_table table at n some low high =
    subst (IsWithin (range at n ∷ [])) (sym (one_extent table some))
    (within_range ExtentKind.FreeChunk at n (extent ExtentKind.SubNodes table.place (table_length table.entries)) low high)

pub entry_within : (table : ChildTable) (i : ℕ) → i < table.entries → IsWithin (range (table.place + 16 + 44 * i) 44 ∷ []) (extents_of_table table)
entry_within table i lt = part_of_table table (table.place + 16 + 44 * i) 44 (omega (arith, lt)) (omega arith) (omega (arith, lt))

-- the entries from a child's own on
pub behind_own : (listed : Listed) → listed.position < listed.table.count → listed.table.count ≤ listed.table.entries → IsWithin (range (entry_place listed) (length_behind listed) ∷ []) (extents_of_table listed.table)
behind_own listed lt le = part_of_table listed.table (entry_place listed) (length_behind listed) (omega (arith, lt, le)) (omega arith) (omega (arith, lt, le))

-- an entry leaves its list
pub left_waits : (header : ℕ) (listed : Listed) (x y : List ℕ) → listed.position < listed.table.count → listed.table.count ≤ listed.table.entries
    → WaitsWithin (range (entry_place listed) (length_behind listed) ∷ range (header + 68) 8 ∷ []) x y → WaitsWithin (list_ranges header listed.table) x y
left_waits header listed x y lt le w =
    waits_wider ((range (entry_place listed) (length_behind listed) ∷ []) ++ range (header + 68) 8 ∷ []) (list_ranges header listed.table) x y
    (within_both (range (entry_place listed) (length_behind listed) ∷ []) (range (header + 68) 8 ∷ []) (list_ranges header listed.table)
    (within_later (range (header + 68) 28) (range (entry_place listed) (length_behind listed) ∷ []) (extents_of_table listed.table) (behind_own listed lt le))
    (fields_within header 68 8 listed.table (omega arith) (omega arith))) w

-- its entries and then its count are written
pub entry_waits : (header : ℕ) (table : ChildTable) (i : ℕ) (x y z : List ℕ) → i < table.entries → WaitsWithin (range (table.place + 16 + 44 * i) 44 ∷ []) x y → WaitsWithin (range (header + 68) 8 ∷ []) y z → WaitsWithin (list_ranges header table) x z
entry_waits header table i x y z lt v w =
    waits_then (list_ranges header table) x y z
    (waits_wider (range (table.place + 16 + 44 * i) 44 ∷ []) (list_ranges header table) x y (within_later (range (header + 68) 28) (range (table.place + 16 + 44 * i) 44 ∷ []) (extents_of_table table) (entry_within table i lt)) v)
    (waits_wider (range (header + 68) 8 ∷ []) (list_ranges header table) y z (fields_within header 68 8 table (omega arith) (omega arith)) w)

-- ---- what is said where bytes are told

pub told_always : (held : Option (List ℕ)) (P : Type 0) → P → IfTold held P
told_always None P p = tt
told_always (Some bytes) P p = p

pub told_then : (held : Option (List ℕ)) (P Q : Type 0) → (P → Q) → IfTold held P → IfTold held Q
told_then None P Q f p = tt
told_then (Some bytes) P Q f p = f p

-- of two calls, where bytes that are told before the first are told before the second
pub told_both_then : (R : List ℕ → List ℕ → Type 0) (old mid : Option (List ℕ)) (P Q Z : Type 0) → Both R old mid → (P → Q → Z) → IfTold old P → IfTold mid Q → IfTold old Z
told_both_then R None mid P Q Z both f p q = tt
told_both_then R (Some old) None P Q Z both f p q = absurd both
told_both_then R (Some old) (Some mid) P Q Z both f p q = f p q

-- the same of the second alone
pub told_later : (R : List ℕ → List ℕ → Type 0) (old mid : Option (List ℕ)) (Q Z : Type 0) → Both R old mid → (Q → Z) → IfTold mid Q → IfTold old Z
told_later R None mid Q Z both f q = tt
told_later R (Some old) None Q Z both f q = absurd both
told_later R (Some old) (Some mid) Q Z both f q = f q

-- ... behind two others
pub told_two_behind : (R S : List ℕ → List ℕ → Type 0) (old mid new : Option (List ℕ)) (Q Z : Type 0) → Both R old mid → Both S mid new → (Q → Z) → IfTold new Q → IfTold old Z
told_two_behind R S old mid new Q Z one two f q = told_later R old mid Z Z one (λ z. z) (told_later S mid new Q Z two f q)

-- ---- a table that is given

pub some_of : (n : ℕ) → n ≢ 0 → 0 < n
some_of zero none = absurd (none refl)
some_of (suc n) none = omega arith

pub table_given : (table : ChildTable) (a b : Heap) (x y : List ℕ) → 0 < table.entries → b ≡ heap_give table.place (table_length table.entries) a
    → WaitsWithin (heap_fields ++ range table.place (table_length table.entries) ∷ [] ++ a.gaps) x y → WaitsInRoom (extents_of_table table) a b x y
table_given table a b x y some gives only =
    more_own (range table.place (table_length table.entries) ∷ []) (extents_of_table table) a b x y within (one_given table.place (table_length table.entries) a b x y gives only)
  where
    within : IsWithin (range table.place (table_length table.entries) ∷ []) (extents_of_table table)
    within = subst (IsWithin (range table.place (table_length table.entries) ∷ [])) (sym (one_extent table some)) (λ b none. none)
