-- How many names are kept.
use Rattle.std.proofs.Common.{◌≡◌, ℕ, ◌∙◌, ap, arith, List, length, ◌+◌, ◌≤◌, Option, None, Some}
use Rattle.std.proofs.lemmas.Map.Entries.{sum_by-remove_entry, sum_by_values_permutation, sum_by_puts_entry}
use Rattle.std.specs.Prelude.{nat_eq, option_map}
use Rattle.std.specs.HashMap.{HashMap, get, PutsEntry}
use Rattle.std.specs.List.{sum_by}
use Rattle.std.specs.List.Sorted.{IsPermutation}
use Rattle.std.specs.Map.{lookup, remove_entry, values_of}
use Rattle.std.specs.Option.{unwrap_or}
use Rattle.kept_names.specs.declared.names.Kept.{Kept}

abbrev pub names_of : List (ℕ × Kept) → ℕ
names_of es = sum_by (λ k. length k.list) (values_of es)

pub taken_counts : (es fs : List (ℕ × Kept)) (node : ℕ) (v : Kept) → lookup (nat_eq node) es ≡ Some v → IsPermutation (remove_entry (nat_eq node) es) fs → names_of fs + length v.list ≡ names_of es
taken_counts es fs node v at rest =
    let left = sum_by-remove_entry (λ k. length k.list) (nat_eq node) es in
    let same = sum_by_values_permutation (λ k. length k.list) (remove_entry (nat_eq node) es) fs rest in
    let gone : unwrap_or (option_map (λ k. length k.list) (lookup (nat_eq node) es)) 0 ≡ length v.list = ap (λ o. unwrap_or (option_map (λ k. length k.list) o) 0) at in
    omega (arith, left, same, gone)

pub put_counts : {S : Type 0} (m n : HashMap ℕ Kept S) (node : ℕ) (v : Kept) (old : Option Kept) → old ≡ get nat_eq m node → PutsEntry nat_eq m n node v old → get nat_eq m node ≡ None → names_of n.entries ≡ names_of m.entries + length v.list
put_counts m n node v old is put none =
    let more = sum_by_puts_entry (λ k. length k.list) nat_eq m n node v old is put in
    let was : unwrap_or (option_map (λ k. length k.list) old) 0 ≡ 0 = ap (λ o. unwrap_or (option_map (λ k. length k.list) o) 0) (is ∙ none) in
    omega (arith, more, was)

pub taken_fewer : (es fs : List (ℕ × Kept)) (node : ℕ) (v : Kept) → lookup (nat_eq node) es ≡ Some v → IsPermutation (remove_entry (nat_eq node) es) fs → names_of fs ≤ names_of es
taken_fewer es fs node v at rest = let left = taken_counts es fs node v at rest in omega (arith, left)
