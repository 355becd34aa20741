-- Tests of numbers that stand one behind another in bytes.
use Rattle.std.proofs.Common.{◌≡◌, ◌∙◌, sym, ap, arith, ℕ, zero, suc, ◌-◌, ◌≤◌, ◌<◌, ℤ, Bool, true, false, List, drop}
use Rattle.std.specs.Prelude.{◌||◌, nat_le}
use Rattle.std.specs.List.{list_any}
use Rattle.adf_format.specs.declared.types.Format.{Format}
use Rattle.adf_format.specs.Tree.{Node}
use Rattle.adf_model.specs.Edits.{size_of, size_limit}
use Rattle.sids_rules.specs.Values.{is_small}
use Rattle.sids_rules.specs.Terms.{Head, Range}
use Rattle.sids_rules.specs.Rules.{is_connected}
use Rattle.sids_readings.specs.Reading.{bytes_of, first_number, numbers_of, is_list}
use Rattle.sids_section_rules.specs.Entries.{is_fixed_list}
use Rattle.sids_readings.proofs.TextLaws.{both}

pub none_left : (p : ℤ → Bool) (format : Format) (wide : Bool) (left : ℕ) (rest : List ℕ) (all : Bool) → left ≤ 0 → list_any p (numbers_of format wide left rest) ≡ all → false ≡ all
none_left p format wide zero rest all none e = e
none_left p format wide (suc left) rest all none e = absurd (omega arith)

-- the first number and the others
pub first_or_others : (p : ℤ → Bool) (format : Format) (wide : Bool) (left : ℕ) (rest : List ℕ) → 0 < left
    → list_any p (numbers_of format wide left rest) ≡ (p (first_number format wide rest) || list_any p (numbers_of format wide (left - 1) (drop (bytes_of wide) rest)))
first_or_others p format wide zero rest some = absurd (omega arith)
first_or_others p format wide (suc left) rest some =
    let less : left ≡ suc left - 1 = omega arith in
    ap (λ n. p (first_number format wide rest) || list_any p (numbers_of format wide n (drop (bytes_of wide) rest))) less

pub found_first : (p : ℤ → Bool) (format : Format) (wide : Bool) (left : ℕ) (rest : List ℕ) (all : Bool) → 0 < left
    → list_any p (numbers_of format wide left rest) ≡ all → p (first_number format wide rest) ≡ true → true ≡ all
found_first p format wide left rest all some e found =
    sym (ap (λ b. b || list_any p (numbers_of format wide (left - 1) (drop (bytes_of wide) rest))) found) ∙ sym (first_or_others p format wide left rest some) ∙ e

pub not_first : (p : ℤ → Bool) (format : Format) (wide : Bool) (left : ℕ) (rest : List ℕ) (all : Bool) → 0 < left
    → list_any p (numbers_of format wide left rest) ≡ all → p (first_number format wide rest) ≡ false → list_any p (numbers_of format wide (left - 1) (drop (bytes_of wide) rest)) ≡ all
not_first p format wide left rest all some e passes =
    sym (ap (λ b. b || list_any p (numbers_of format wide (left - 1) (drop (bytes_of wide) rest))) passes) ∙ sym (first_or_others p format wide left rest some) ∙ e

at_most : (a b : ℕ) → nat_le a b ≡ true → a ≤ b
at_most a b h = grind arith

-- a list of numbers that are looked at
pub fixed_list : (head : Head) (range : Range) (node : Node) → is_fixed_list head range node ≡ true → is_list node ≡ true
fixed_list head range node h = (both (is_list node) _ (both (is_connected head range node) (is_small node) (both _ _ h).0).0).0

pub fixed_small : (head : Head) (range : Range) (node : Node) → is_fixed_list head range node ≡ true → size_of node ≤ size_limit
fixed_small head range node h = at_most (size_of node) size_limit (both (is_connected head range node) (is_small node) (both _ _ h).0).1
