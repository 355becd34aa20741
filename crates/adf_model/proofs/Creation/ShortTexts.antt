-- A label is short, and a name is a label.
use Rattle.std.proofs.Common.{◌≡◌, ℕ, arith, List, length, ◌≤◌, Bool, true}
use Rattle.std.proofs.lemmas.Bool.Decides.{nat_tests}
use Rattle.std.specs.Prelude.{nat_le, not, bytes_eq, codes, ◌==◌, ◌&&◌}
use Rattle.std.specs.List.{list_all}
use Rattle.adf_format.specs.Names.{is_name, is_label, is_printing, begins_with_space, ends_with_space}
use Rattle.adf_model.proofs.Basics.{and_parts}

first_true : (a b : Bool) → (a && b) ≡ true → a ≡ true
first_true a b e = (and_parts a b e).0

four_true : (a b c d : Bool) → (a && b && c && d) ≡ true → a ≡ true
four_true a b c d e = first_true a b (first_true (a && b) c (first_true (a && b && c) d e))

at_most : (m n : ℕ) → nat_le m n ≡ true → m ≤ n
at_most m n e = grind (arith, nat_tests)

pub short_label : (text : List ℕ) → is_label text ≡ true → length text ≤ 32
short_label text e = at_most (length text) 32 (four_true (nat_le (length text) 32) (list_all is_printing text) (not (begins_with_space text)) (not (ends_with_space text)) e)

pub label_of_name : (text : List ℕ) → is_name text ≡ true → is_label text ≡ true
label_of_name text e =
    four_true (is_label text) (nat_le 1 (length text)) (list_all (λ b. not (b == 47)) text) (not (bytes_eq text (codes ".")))
    (first_true (is_label text && nat_le 1 (length text) && list_all (λ b. not (b == 47)) text && not (bytes_eq text (codes "."))) (not (bytes_eq text (codes ".."))) e)
