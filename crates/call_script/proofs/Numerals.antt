-- Which tokens are numbers.
use Rattle.std.proofs.Common.{◌≡◌, ◌≢◌, ℕ, zero, suc, ◌<◌, ◌^◌, true, List, [], ◌∷◌, refl, sym, ◌∙◌, ap, arith, get_or, length, decimal, Result, Ok, Err, Option, Some, IfSome, IsNone, subst}
use Rattle.std.specs.Result.{result_ok}
use Rattle.std.specs.Str.{IsUtf8}
use Rattle.std.specs.Str.Parse.{AllDigits, digits_value, ParsesUnsigned}
use Rattle.std.proofs.lemmas.Bool.Decides.{nat_tests}
use Rattle.std.proofs.lemmas.Fmt.{decimal_digit, first_decimal, decimal-digits_value, decimal_injective, parse-decimal, IsAscii-decimal}
use Rattle.std.proofs.lemmas.Str.{IsUtf8-from_ascii}
use Rattle.std.proofs.lemmas.Str.Parse.{IsNumeralModel, numerals_by_value, tells_digits, parse_plain}
use Rattle.call_script.specs.Tokens.{begins_plainly}

own : IsNumeralModel (AllDigits 10) (digits_value 10)
own = numerals_by_value (AllDigits 10) tells_digits

high_plain : (ds : List ℕ) → 48 < get_or ds 0 0 → begins_plainly ds ≡ true
high_plain [] h = refl
high_plain (b ∷ []) h = grind (arith, nat_tests)
high_plain (b ∷ c ∷ ds) h = grind (arith, nat_tests)

pub decimal_plain : (n : ℕ) → n < 2 ^ 64 → begins_plainly (decimal n) ≡ true
decimal_plain zero small = ap begins_plainly (decimal_digit 0 (omega arith))
decimal_plain (suc n) small = high_plain (decimal (suc n)) (first_decimal (suc n) (omega arith) small)

no_plus : (bs : List ℕ) → begins_plainly bs ≡ true → get_or bs 0 0 ≢ 43
no_plus [] plain e = absurd (omega arith)
no_plus (b ∷ []) plain e = grind (arith, nat_tests)
no_plus (b ∷ c ∷ bs) plain e = grind (arith, nat_tests)

zero_alone : (bs : List ℕ) → begins_plainly bs ≡ true → get_or bs 0 0 ≡ 48 → length bs ≡ 1
zero_alone [] plain e = absurd (omega arith)
zero_alone (b ∷ []) plain e = refl
zero_alone (b ∷ c ∷ bs) plain e = absurd (grind (arith, nat_tests))

number_found : (E : Type 0) (bs : List ℕ) (v : ℕ) → begins_plainly bs ≡ true → ParsesUnsigned {E = E} 64 10 bs (Ok v) → bs ≡ decimal v
number_found E bs v plain h =
    let got = parse_plain own {E = E} 64 bs (Ok v) h (no_plus bs plain) in
    let small : digits_value 10 bs < 2 ^ 64 = got.0.2 in
    sym (ap decimal got.1 ∙ decimal-digits_value own bs got.0.0 got.0.1 (zero_alone bs plain) small)

-- what is read as a number is its decimal text
pub parsed_found : (E : Type 0) (bs text : List ℕ) (r : Result ℕ E) (o : Option ℕ) → begins_plainly bs ≡ true → text ≡ bs → ParsesUnsigned 64 10 text r → o ≡ result_ok r → IfSome o (λ v. bs ≡ decimal v)
parsed_found E bs text (Ok v) o plain same h e =
    let found : bs ≡ decimal v = number_found E bs v plain (subst (λ t. ParsesUnsigned {E = E} 64 10 t (Ok v)) same h) in
    subst (λ x. IfSome x (λ n. bs ≡ decimal n)) (sym e) found
parsed_found E bs text (Err error) o plain same h e = subst (λ x. IfSome x (λ n. bs ≡ decimal n)) (sym e) tt

-- and the decimal text of a number is read as it
pub parsed_none : (E : Type 0) (bs text : List ℕ) (r : Result ℕ E) (o : Option ℕ) → text ≡ bs → ParsesUnsigned 64 10 text r → o ≡ result_ok r → IsNone o → (n : ℕ) → n < 2 ^ 64 → bs ≡ decimal n → ⊥
parsed_none E bs text r o same h e none n small f =
    let read : r ≡ Ok n = parse-decimal 64 n text r small small (same ∙ f) h in
    let some : o ≡ Some n = e ∙ ap result_ok read in
    let no : IsNone (Some n) = subst IsNone some none in
    not_none n no
  where
    not_none : (n : ℕ) → IsNone (Some n) → ⊥
    not_none n h = cc

pub number_utf8 : (bs : List ℕ) (n : ℕ) → n < 2 ^ 64 → bs ≡ decimal n → IsUtf8 bs
number_utf8 bs n small e = subst IsUtf8 (sym e) (IsUtf8-from_ascii (decimal n) (IsAscii-decimal n small))

pub number_plain : (bs : List ℕ) (n : ℕ) → n < 2 ^ 64 → bs ≡ decimal n → begins_plainly bs ≡ true
number_plain bs n small e = ap begins_plainly e ∙ decimal_plain n small

pub same_number : (bs : List ℕ) (m n : ℕ) → m < 2 ^ 64 → n < 2 ^ 64 → bs ≡ decimal m → bs ≡ decimal n → m ≡ n
same_number bs m n one other e f = decimal_injective m n one other (sym e ∙ f)
