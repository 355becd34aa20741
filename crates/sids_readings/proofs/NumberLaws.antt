-- Numbers one behind another in bytes.
use Rattle.std.proofs.Common.{◌≡◌, ◌∙◌, sym, ap, refl, arith, ℕ, zero, suc, ◌+◌, ◌-◌, ◌*◌, ◌≤◌, ◌<◌, ℤ, Bool, true, false, List, [], ◌∷◌, ◌++◌, length, drop, length-drop, append_assoc}
use Rattle.std.specs.Prelude.{◌/◌, ◌&&◌, ◌||◌, pos, slice_index_or, not, if◌then◌else◌, unwrap_or}
use Rattle.std.specs.Int.{w32, w64}
use Rattle.std.proofs.lemmas.List.{append-nil}
use Rattle.adf_format.specs.declared.types.DataType.{DataType}
use Rattle.adf_format.specs.declared.types.DataType.TheVariants.{I4, I8}
use Rattle.adf_format.specs.declared.types.Format.{Format}
use Rattle.adf_format.specs.Names.{is_same_type, product, element_size}
use Rattle.adf_format.specs.Tree.{Node}
use Rattle.adf_model.specs.Edits.{size_of}
use Rattle.adf_model.proofs.Basics.{not_true}
use Rattle.sids_rules.specs.Values.{is_type, is_ints, ints_in, numbers_in, int_at}
use Rattle.sids_readings.specs.Reading.{bytes_of, first_number, numbers_of, is_wide}

-- where numbers are left, the first is within the bytes, and so are the others behind it
pub first_fits : (wide : Bool) (left n : ℕ) → 0 < left → bytes_of wide * left ≤ n → bytes_of wide ≤ n
first_fits true left n some fits = omega arith
first_fits false left n some fits = omega arith

rest_fit : (wide : Bool) (left n : ℕ) → 0 < left → bytes_of wide * left ≤ n → bytes_of wide * (left - 1) ≤ n - bytes_of wide
rest_fit true left n some fits = omega arith
rest_fit false left n some fits = omega arith

pub others_fit : (wide : Bool) (left : ℕ) (rest : List ℕ) → 0 < left → bytes_of wide * left ≤ length rest → bytes_of wide * (left - 1) ≤ length (drop (bytes_of wide) rest)
others_fit wide left rest some fits = let e = rest_fit wide left (length rest) some fits in let l = length-drop (bytes_of wide) rest in omega arith

pub all_fit : (wide : Bool) (n : ℕ) → bytes_of wide * (n / bytes_of wide) ≤ n
all_fit true n = omega arith
all_fit false n = omega arith

-- one more number
pub one_more : (format : Format) (wide : Bool) (left : ℕ) (rest : List ℕ) (found all : List ℤ) → 0 < left → found ++ numbers_of format wide left rest ≡ all
    → (found ++ first_number format wide rest ∷ []) ++ numbers_of format wide (left - 1) (drop (bytes_of wide) rest) ≡ all
one_more format wide zero rest found all some e = absurd (omega arith)
one_more format wide (suc left) rest found all some e =
    let less : suc left - 1 ≡ left = omega arith in
    ap (λ n. (found ++ first_number format wide rest ∷ []) ++ numbers_of format wide n (drop (bytes_of wide) rest)) less
    ∙ append_assoc found (first_number format wide rest ∷ []) (numbers_of format wide left (drop (bytes_of wide) rest))
    ∙ e

pub none_left : (format : Format) (wide : Bool) (left : ℕ) (rest : List ℕ) (found all : List ℤ) → left ≤ 0 → found ++ numbers_of format wide left rest ≡ all → found ≡ all
none_left format wide zero rest found all none e = sym (append-nil found) ∙ e
none_left format wide (suc left) rest found all none e = absurd (omega arith)

-- as many numbers as the dimensions say
counted : (kind : DataType) (dims : List ℕ) (there : Bool) → ((is_same_type kind I4 || is_same_type kind I8) && there) ≡ true
    → (element_size kind * product dims) / bytes_of (not (is_same_type kind I4)) ≡ product dims
counted I4 dims there h = omega arith
counted I8 dims there h = omega arith
counted other dims there h = absurd (not_true h)

as_wide : (b : Bool) (format : Format) (count : ℕ) (bytes : List ℕ)
    → numbers_of format (not b) count bytes ≡ (if b then numbers_in format w32 4 count bytes else numbers_in format w64 8 count bytes)
as_wide true format count bytes = refl
as_wide false format count bytes = refl

-- the numbers of the data of a node
pub numbers_there : (node : Node) (format : Format) (bytes : List ℕ) → is_ints node ≡ true → length bytes ≡ size_of node
    → numbers_of format (is_wide node) (length bytes / bytes_of (is_wide node)) bytes ≡ ints_in format node bytes
numbers_there node format bytes ints sized =
    ap (λ n. numbers_of format (is_wide node) n bytes) (ap (λ n. n / bytes_of (is_wide node)) sized ∙ counted node.kind node.dims _ ints)
    ∙ as_wide (is_type I4 node) format (product node.dims) bytes

-- the number at a place
pub int_at_is : (numbers : List ℤ) (k : ℕ) → int_at numbers k ≡ slice_index_or numbers k (pos 0)
int_at_is [] k = refl
int_at_is (n ∷ numbers) zero = refl
int_at_is (n ∷ numbers) (suc k) = int_at_is numbers k
