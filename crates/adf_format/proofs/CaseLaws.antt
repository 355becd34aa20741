-- What is read of a hexadecimal field is written as its digits in upper case.
use Rattle.std.proofs.Common.{◌≡◌, ℕ, suc, ◌+◌, ◌-◌, ◌*◌, ◌/◌, ◌%◌, ◌<◌, ◌≤◌, List, [], ◌∷◌, ◌++◌, length, take, drop, map, refl, sym, ◌∙◌, ap, subst, arith, Bool, true, false, append-nil, append_assoc, length-drop}
use Rattle.std.specs.Prelude.{Option, Some, None, nat_le, nat_lt, ◌&&◌, ◌==◌, if◌then◌else◌, option_and_then}
use Rattle.std.proofs.lemmas.Bool.Decides.{nat_tests}
use Rattle.std.proofs.lemmas.List.{map-append, take-append-drop, length-take-le}
use Rattle.adf_format.specs.Hex.{digit_value, hex_digit, hex_value, hex_value_after, hex_text}
use Rattle.adf_format.specs.Pointer.{Pointer, Blank, To, pointer, pointer_text, pointer_of_parts}
use Rattle.adf_format.specs.Case.{upper}

pub some_same : {A : Type 0} (a b : A) → ◌≡◌ (Some a) (Some b) → a ≡ b
some_same a b e = cc

-- the three ranges of digits
between : (a c b : ℕ) → nat_le a b && nat_le b c ≡ true → (a ≤ b) × (b ≤ c)
between a c b e = grind (arith, nat_tests)

apart_low : (b : ℕ) → b ≤ 70 → (nat_le 97 b && nat_le b 102) ≡ false
apart_low b h = grind (arith, nat_tests)

low_digit : (b : ℕ) → 48 ≤ b → b ≤ 57 → (b - 48 < 16) × (hex_digit (b - 48) ≡ upper b)
low_digit b h k = (omega (arith, h, k), rw (apart_low b (omega (arith, k)), small b k) (omega (arith, h)))
  where
    small : (b : ℕ) → b ≤ 57 → nat_lt (b - 48) 10 ≡ true
    small b k = grind (arith, nat_tests)

upper_digit : (b : ℕ) → 65 ≤ b → b ≤ 70 → (b - 55 < 16) × (hex_digit (b - 55) ≡ upper b)
upper_digit b h k = (omega (arith, h, k), rw (apart_low b k, large b h) (omega (arith, h)))
  where
    large : (b : ℕ) → 65 ≤ b → nat_lt (b - 55) 10 ≡ false
    large b h = grind (arith, nat_tests)

lower_digit : (b : ℕ) → 97 ≤ b → b ≤ 102 → (b - 87 < 16) × (hex_digit (b - 87) ≡ upper b)
lower_digit b h k = (omega (arith, h, k), rw (within b h k, large b h) (omega (arith, h)))
  where
    large : (b : ℕ) → 97 ≤ b → nat_lt (b - 87) 10 ≡ false
    large b h = grind (arith, nat_tests)

    within : (b : ℕ) → 97 ≤ b → b ≤ 102 → (nat_le 97 b && nat_le b 102) ≡ true
    within b h k = grind (arith, nat_tests)

digit_cases : (b d : ℕ) (s t u : Bool) → (nat_le 48 b && nat_le b 57) ≡ s → (nat_le 65 b && nat_le b 70) ≡ t → (nat_le 97 b && nat_le b 102) ≡ u
    → (if s then Some (b - 48) else if t then Some (b - 55) else if u then Some (b - 87) else None) ≡ Some d → (d < 16) × (hex_digit d ≡ upper b)
digit_cases b d true t u i j k e = let r = between 48 57 b i in subst (λ x. (x < 16) × (hex_digit x ≡ upper b)) (some_same (b - 48) d e) (low_digit b r.0 r.1)
digit_cases b d false true u i j k e = let r = between 65 70 b j in subst (λ x. (x < 16) × (hex_digit x ≡ upper b)) (some_same (b - 55) d e) (upper_digit b r.0 r.1)
digit_cases b d false false true i j k e = let r = between 97 102 b k in subst (λ x. (x < 16) × (hex_digit x ≡ upper b)) (some_same (b - 87) d e) (lower_digit b r.0 r.1)
digit_cases b d false false false i j k e = cc

pub digit_upper : (b d : ℕ) → digit_value b ≡ Some d → (d < 16) × (hex_digit d ≡ upper b)
digit_upper b d e = digit_cases b d (nat_le 48 b && nat_le b 57) (nat_le 65 b && nat_le b 70) (nat_le 97 b && nat_le b 102) refl refl refl e

div_digit : (m d : ℕ) → d < 16 → (16 * m + d) / 16 ≡ m
div_digit m d h = omega (arith, h)

mod_digit : (m d : ℕ) → d < 16 → (16 * m + d) % 16 ≡ d
mod_digit m d h = omega (arith, h)

shift : (a w : ℕ) → suc a + w ≡ a + suc w
shift a w = omega arith

zero_front : (w : ℕ) → 0 + w ≡ w
zero_front w = omega arith

at_zero : (w : ℕ) → w + 0 ≡ w
at_zero w = omega arith

-- digits behind others
pub hex_upper_after : (bs : List ℕ) (w m n : ℕ) → hex_value_after m bs ≡ Some n → hex_text (length bs + w) n ≡ hex_text w m ++ map upper bs
hex_upper_after [] w m n e = ap (λ k. hex_text k n) (zero_front w) ∙ ap (λ k. hex_text w k) (sym (some_same m n e)) ∙ sym (append-nil (hex_text w m))
hex_upper_after (b ∷ bs) w m n e = by_digit (λ k l f. hex_upper_after bs k l n f) (digit_value b) refl e
  where
    one : (d : ℕ) → (d < 16) × (hex_digit d ≡ upper b) → hex_text (suc w) (16 * m + d) ≡ hex_text w m ++ upper b ∷ []
    one d r = ap (λ k. hex_text w k ++ hex_digit ((16 * m + d) % 16) ∷ []) (div_digit m d r.0)
        ∙ ap (λ k. hex_text w m ++ hex_digit k ∷ []) (mod_digit m d r.0) ∙ ap (λ k. hex_text w m ++ k ∷ []) r.1

    by_digit : ((k l : ℕ) → hex_value_after l bs ≡ Some n → hex_text (length bs + k) n ≡ hex_text k l ++ map upper bs) → (o : Option ℕ) → digit_value b ≡ o → option_and_then (λ digit. hex_value_after (16 * m + digit) bs) o ≡ Some n
        → hex_text (suc (length bs) + w) n ≡ hex_text w m ++ upper b ∷ map upper bs
    by_digit behind None i f = cc
    by_digit behind (Some d) i f =
        ap (λ k. hex_text k n) (shift (length bs) w) ∙ behind (suc w) (16 * m + d) f
        ∙ ap (λ t. t ++ map upper bs) (one d (digit_upper b d i)) ∙ append_assoc (hex_text w m) (upper b ∷ []) (map upper bs)

pub hex_upper : (bs : List ℕ) (n : ℕ) → hex_value bs ≡ Some n → hex_text (length bs) n ≡ map upper bs
hex_upper bs n e = ap (λ k. hex_text k n) (sym (at_zero (length bs))) ∙ hex_upper_after bs 0 0 n e

-- a number in so many digits
pub number_upper : (bs : List ℕ) (w n : ℕ) → length bs ≡ w → hex_value bs ≡ Some n → hex_text w n ≡ map upper bs
number_upper bs w n h e = ap (λ k. hex_text k n) (sym h) ∙ hex_upper bs n e

-- the text of a place that is known by its parts
pub text_of_parts : (block offset : ℕ) → offset ≤ 4095 → hex_text 8 block ++ hex_text 4 offset ≡ pointer_text (To (block * 4096 + offset))
text_of_parts block offset h =
    let q : (block * 4096 + offset) / 4096 ≡ block = omega (arith, h) in
    let r : (block * 4096 + offset) % 4096 ≡ offset = omega (arith, h) in
    ap (λ n. hex_text 8 n ++ hex_text 4 offset) (sym q) ∙ ap (λ n. hex_text 8 ((block * 4096 + offset) / 4096) ++ hex_text 4 n) (sym r)

-- a pointer
place_upper : (a b : List ℕ) (block offset : ℕ) (p : Pointer) (small blank : Bool) → nat_le offset 4095 ≡ small → ((block == 0) && (offset == 4096)) ≡ blank
    → hex_text 8 block ≡ map upper a → hex_text 4 offset ≡ map upper b
    → (if small then Some (To (block * 4096 + offset)) else if blank then Some Blank else None) ≡ Some p → pointer_text p ≡ map upper a ++ map upper b
place_upper a b block offset p true blank s k f g e =
    ap pointer_text (sym (some_same (To (block * 4096 + offset)) p e)) ∙ sym (text_of_parts block offset (low offset s)) ∙ ap (λ t. t ++ hex_text 4 offset) f ∙ ap (λ t. map upper a ++ t) g
  where
    low : (n : ℕ) → nat_le n 4095 ≡ true → n ≤ 4095
    low n s = grind (arith, nat_tests)
place_upper a b block offset p false true s k f g e =
    let zeros = blank_parts block offset k in
    ap pointer_text (sym (some_same Blank p e)) ∙ ap (λ n. hex_text 8 n ++ hex_text 4 4096) (sym zeros.0) ∙ ap (λ n. hex_text 8 block ++ hex_text 4 n) (sym zeros.1)
    ∙ ap (λ t. t ++ hex_text 4 offset) f ∙ ap (λ t. map upper a ++ t) g
  where
    blank_parts : (block offset : ℕ) → ((block == 0) && (offset == 4096)) ≡ true → (block ≡ 0) × (offset ≡ 4096)
    blank_parts block offset k = grind (arith, nat_tests)
place_upper a b block offset p false false s k f g e = cc

pub pointer_upper : (bs : List ℕ) (p : Pointer) → length bs ≡ 12 → pointer bs ≡ Some p → pointer_text p ≡ map upper bs
pointer_upper bs p h e = by_parts (hex_value (take 8 bs)) (hex_value (drop 8 bs)) refl refl e
  where
    by_parts : (block offset : Option ℕ) → hex_value (take 8 bs) ≡ block → hex_value (drop 8 bs) ≡ offset → pointer_of_parts block offset ≡ Some p → pointer_text p ≡ map upper bs
    by_parts (Some block) (Some offset) i j f =
        place_upper (take 8 bs) (drop 8 bs) block offset p (nat_le offset 4095) ((block == 0) && (offset == 4096)) refl refl
        (number_upper (take 8 bs) 8 block (length-take-le 8 bs (omega (arith, h))) i) (number_upper (drop 8 bs) 4 offset (omega (arith, h, length-drop 8 bs)) j) f
        ∙ sym (map-append upper (take 8 bs) (drop 8 bs)) ∙ ap (map upper) (take-append-drop 8 bs)
    by_parts (Some block) None i j f = cc
    by_parts None offset i j f = cc
