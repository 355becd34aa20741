-- Items one by one: what they decode to, and that they have no space.
use Rattle.std.proofs.Common.{◌≡◌, ◌≢◌, ◌==◌, ℕ, zero, suc, ◌+◌, ◌*◌, ◌<◌, ◌≤◌, Bool, true, false, ◌&&◌, nat_le, nat_lt, ⊎_elim, All, List, [], ◌∷◌, refl, sym, ◌∙◌, ap, subst, arith, get_or, length, drop, Option, Some, None, is_some}
use Rattle.std.specs.Prelude.{option_and_then}
use Rattle.std.proofs.lemmas.Bool.{cond-true, cond-false, cases_Bool, eqb-true}
use Rattle.std.proofs.lemmas.Bool.Decides.{Decides-below_and, nat_tests}
use Rattle.std.proofs.lemmas.List.Elements.{All-nil, All-cons, All-head, All-tail}
use Rattle.std.specs.Char.{digit_value as value_of_digit, is_digit}
use Rattle.percent_encoding.specs.Percent.{percent_decode}
use Rattle.percent_encoding.proofs.PercentLemmas.{IsByte}
use Rattle.adf_format.specs.Hex.{digit_value}
use Rattle.adf_model.specs.Spelling.{is_plain, byte_before, items_text, text_of}
use Rattle.call_script.proofs.Pieces.{Lacks}
use Rattle.adf_model.proofs.SpellingLemmas.{items_plain}

-- ---- one item

is_some_before : (b : ℕ) (o : Option (List ℕ)) → is_some (byte_before (Some b) o) ≡ is_some o
is_some_before b None = refl
is_some_before b (Some text) = refl

pub plain_item : (b : ℕ) (after : List ℕ) → is_plain b ≡ true → is_some (items_text (b ∷ after)) ≡ is_some (items_text after)
plain_item b after plain = ap is_some (items_plain b after plain) ∙ is_some_before b (items_text after)

-- the byte of two digits
abbrev pair_of : Option ℕ → Option ℕ → Option ℕ
pair_of p q = option_and_then (λ x. option_and_then (λ y. Some (16 * (16 * 0 + x) + y)) q) p

pair_before : (p q : Option ℕ) (o : Option (List ℕ)) → is_some p ≡ true → is_some q ≡ true → is_some (byte_before (pair_of p q) o) ≡ is_some o
pair_before None q o e f = cc
pair_before (Some x) None o e f = cc
pair_before (Some x) (Some y) o e f = is_some_before _ o

no_pair_before : (p q : Option ℕ) (o : Option (List ℕ)) → (is_some p && is_some q) ≡ false → byte_before (pair_of p q) o ≡ None
no_pair_before None q o e = refl
no_pair_before (Some x) None o e = refl
no_pair_before (Some x) (Some y) o e = cc

escaped : (c d : ℕ) (items : List ℕ) → items_text (37 ∷ c ∷ d ∷ items) ≡ byte_before (pair_of (digit_value c) (digit_value d)) (items_text items)
unfolding items_text
escaped c d items = refl

pub escape_item : (c d : ℕ) (items : List ℕ) → is_some (digit_value c) ≡ true → is_some (digit_value d) ≡ true → is_some (items_text (37 ∷ c ∷ d ∷ items)) ≡ is_some (items_text items)
escape_item c d items high low = ap is_some (escaped c d items) ∙ pair_before (digit_value c) (digit_value d) (items_text items) high low

pub no_item_other : (b : ℕ) (after : List ℕ) → is_plain b ≡ false → (b == 37) ≡ false → items_text (b ∷ after) ≡ None
unfolding items_text
no_item_other b [] plain sign = cond-false _ _ _ plain
no_item_other b (c ∷ []) plain sign = cond-false _ _ _ plain
no_item_other b (c ∷ d ∷ items) plain sign = cond-false _ _ _ plain ∙ cond-false _ _ _ sign

pub no_item_short : (b : ℕ) (after : List ℕ) → is_plain b ≡ false → length after < 2 → items_text (b ∷ after) ≡ None
unfolding items_text
no_item_short b [] plain short = cond-false _ _ _ plain
no_item_short b (c ∷ []) plain short = cond-false _ _ _ plain
no_item_short b (c ∷ d ∷ items) plain short = absurd (omega arith)

pub escape_at : (b : ℕ) (after : List ℕ) → b ≡ 37 → 2 ≤ length after → is_some (digit_value (get_or after 0 0)) ≡ true → is_some (digit_value (get_or after 1 0)) ≡ true
    → is_some (items_text (b ∷ after)) ≡ is_some (items_text (drop 2 after))
escape_at b [] sign long high low = absurd (omega arith)
escape_at b (c ∷ []) sign long high low = absurd (omega arith)
escape_at b (c ∷ d ∷ items) sign long high low = ap (λ x. is_some (items_text (x ∷ c ∷ d ∷ items))) sign ∙ escape_item c d items high low

pub no_escape_at : (b : ℕ) (after : List ℕ) → b ≡ 37 → 2 ≤ length after → (is_some (digit_value (get_or after 0 0)) && is_some (digit_value (get_or after 1 0))) ≡ false → items_text (b ∷ after) ≡ None
no_escape_at b [] sign long bad = absurd (omega arith)
no_escape_at b (c ∷ []) sign long bad = absurd (omega arith)
no_escape_at b (c ∷ d ∷ items) sign long bad = ap (λ x. items_text (x ∷ c ∷ d ∷ items)) sign ∙ escaped c d items ∙ no_pair_before (digit_value c) (digit_value d) (items_text items) bad

pub items_end : (rest : List ℕ) → length rest < 1 → is_some (items_text rest) ≡ true
unfolding items_text
items_end [] h = refl
items_end (b ∷ rest) h = absurd (omega arith)

-- ---- item by item

abbrev AreItems : List ℕ → Type 0
AreItems piece = is_some (items_text piece) ≡ true

record ItemSteps (P : List ℕ → Type 0) : Type 0 where
  none : P []
  plain : (b : ℕ) (after : List ℕ) → is_plain b ≡ true → AreItems after → P after → P (b ∷ after)
  escape : (c d : ℕ) (items : List ℕ) → is_some (digit_value c) ≡ true → is_some (digit_value d) ≡ true → AreItems items → P items → P (37 ∷ c ∷ d ∷ items)

no_items : (o : Option (List ℕ)) → o ≡ None → is_some o ≡ true → ⊥
no_items o e h = let no : is_some o ≡ false = ap is_some e in cc

plain_step : (P : List ℕ → Type 0) → ItemSteps P → (b : ℕ) (after : List ℕ) → AreItems (b ∷ after) → is_plain b ≡ true → (AreItems after → P after) → P (b ∷ after)
plain_step P steps b after h plain rest =
    let items : AreItems after = sym (plain_item b after plain) ∙ h in
    steps.plain b after plain items (rest items)

escape_step : (P : List ℕ → Type 0) → ItemSteps P → (c d : ℕ) (items : List ℕ) → AreItems (37 ∷ c ∷ d ∷ items) → (AreItems items → P items) → P (37 ∷ c ∷ d ∷ items)
escape_step P steps c d items h rest =
    ⊎_elim
    (λ e. let high : is_some (digit_value c) ≡ true = both_left _ _ e in
    let low : is_some (digit_value d) ≡ true = both_right _ _ e in
    let more : AreItems items = sym (escape_item c d items high low) ∙ h in
    steps.escape c d items high low more (rest more))
    (λ e. absurd (no_items _ (escaped c d items ∙ no_pair_before (digit_value c) (digit_value d) (items_text items) e) h))
    (cases_Bool (is_some (digit_value c) && is_some (digit_value d)))
  where
    both_left : (x y : Bool) → (x && y) ≡ true → x ≡ true
    both_left true y e = refl
    both_left false y e = e

    both_right : (x y : Bool) → (x && y) ≡ true → y ≡ true
    both_right true y e = e
    both_right false y e = cc

short_step : (P : List ℕ → Type 0) → ItemSteps P → (b : ℕ) (after : List ℕ) → length after < 2 → AreItems (b ∷ after) → (AreItems after → P after) → P (b ∷ after)
short_step P steps b after short h rest =
    ⊎_elim (λ e. plain_step P steps b after h e rest) (λ e. absurd (no_items _ (no_item_short b after e short) h)) (cases_Bool (is_plain b))

long_step : (P : List ℕ → Type 0) → ItemSteps P → (b c d : ℕ) (items : List ℕ) → AreItems (b ∷ c ∷ d ∷ items) → (AreItems (c ∷ d ∷ items) → P (c ∷ d ∷ items)) → (AreItems items → P items) → P (b ∷ c ∷ d ∷ items)
long_step P steps b c d items h one three =
    ⊎_elim (λ e. plain_step P steps b (c ∷ d ∷ items) h e one)
    (λ e. ⊎_elim
    (λ f. let sign : 37 ≡ b = grind (arith, nat_tests) in
    subst (λ x. P (x ∷ c ∷ d ∷ items)) sign (escape_step P steps c d items (subst (λ x. AreItems (x ∷ c ∷ d ∷ items)) (sym sign) h) three))
    (λ f. absurd (no_items _ (no_item_other b (c ∷ d ∷ items) e f) h))
    (cases_Bool (b == 37)))
    (cases_Bool (is_plain b))

by_items : (P : List ℕ → Type 0) → ItemSteps P → (piece : List ℕ) → AreItems piece → P piece
by_items P steps [] h = steps.none
by_items P steps (b ∷ []) h = short_step P steps b [] (omega arith) h (λ k. by_items P steps [] k)
by_items P steps (b ∷ c ∷ []) h = short_step P steps b (c ∷ []) (omega arith) h (λ k. by_items P steps (c ∷ []) k)
by_items P steps (b ∷ c ∷ d ∷ items) h = long_step P steps b c d items h (λ k. by_items P steps (c ∷ d ∷ items) k) (λ k. by_items P steps items k)

-- ---- no space

plain_no_space : (b : ℕ) → is_plain b ≡ true → (b == 32) ≡ false
plain_no_space b plain = grind (arith, nat_tests)

digit_no_space : (c : ℕ) → is_some (digit_value c) ≡ true → (c == 32) ≡ false
digit_no_space c digit =
    ⊎_elim
    (λ e. let is_space : c ≡ 32 = grind (arith, nat_tests) in
    let no : is_some (digit_value c) ≡ false = ap (λ x. is_some (digit_value x)) is_space in
    absurd (let both : true ≡ false = sym digit ∙ no in cc))
    (λ e. e) (cases_Bool (c == 32))

no_space_steps : ItemSteps (Lacks 32)
no_space_steps = record {
  none = All-nil (λ b. (b == 32) ≡ false);
  plain = λ b after plain items rest. All-cons (λ b. (b == 32) ≡ false) b after (plain_no_space b plain) rest;
  escape = λ c d items high low more rest.
      All-cons (λ b. (b == 32) ≡ false) 37 (c ∷ d ∷ items) refl
      (All-cons (λ b. (b == 32) ≡ false) c (d ∷ items) (digit_no_space c high) (All-cons (λ b. (b == 32) ≡ false) d items (digit_no_space d low) rest));
}

some_items : (piece text : List ℕ) → items_text piece ≡ Some text → AreItems piece
some_items piece text e = ap is_some e

-- a spelled text has no space
pub text_lacks_space : (piece text : List ℕ) → text_of piece ≡ Some text → Lacks 32 piece
text_lacks_space [] text e = All-nil (λ b. (b == 32) ≡ false)
text_lacks_space (b ∷ []) text e =
    ⊎_elim
    (λ f. let sign : b ≡ 37 = grind (arith, nat_tests) in
    let other : (b == 32) ≡ false = ap (λ x. x == 32) sign in
    All-cons (λ b. (b == 32) ≡ false) b [] other (All-nil (λ b. (b == 32) ≡ false)))
    (λ f. by_items (Lacks 32) no_space_steps (b ∷ []) (some_items (b ∷ []) text (sym (cond-false _ _ _ f) ∙ e)))
    (cases_Bool (b == 37))
text_lacks_space (b ∷ c ∷ items) text e = by_items (Lacks 32) no_space_steps (b ∷ c ∷ items) (some_items (b ∷ c ∷ items) text e)

-- ---- decoding

-- both readings of a hexadecimal digit agree
abbrev digit_agrees : Option ℕ → ℕ → Bool
digit_agrees None b = true
digit_agrees (Some v) b = is_digit b 16 && (value_of_digit b == v)

abbrev digits_agree : ℕ → Bool
digits_agree zero = true
digits_agree (suc n) = digit_agrees (digit_value n) n && digits_agree n

digits_checked : digits_agree 256 ≡ true
digits_checked = refl

digit_checked : (b : ℕ) → b < 256 → digit_agrees (digit_value b) b ≡ true
digit_checked =
    (Decides-below_and (λ b. digit_agrees (digit_value b) b) (λ b. digit_agrees (digit_value b) b ≡ true) digits_agree (λ b. (λ e. e, λ e. e)) refl (λ _. refl) 256).0 digits_checked

both : (x y : Bool) → (x && y) ≡ true → (x ≡ true) × (y ≡ true)
both true y e = (refl, e)
both false y e = cc

digit_known : (b v : ℕ) → b < 256 → digit_value b ≡ Some v → (is_digit b 16 ≡ true) × (value_of_digit b ≡ v)
digit_known b v small e =
    let agrees : digit_agrees (Some v) b ≡ true = ap (λ o. digit_agrees o b) (sym e) ∙ digit_checked b small in
    let parts = both (is_digit b 16) (value_of_digit b == v) agrees in
    let same : (value_of_digit b == v) ≡ true = parts.1 in
    let value : value_of_digit b ≡ v = eqb-true _ _ same in
    (parts.0, value)

decode_plain : (b : ℕ) (after : List ℕ) → (b == 37) ≡ false → percent_decode (b ∷ after) ≡ b ∷ percent_decode after
unfolding percent_decode
decode_plain b [] sign = refl
decode_plain b (c ∷ []) sign = refl
decode_plain b (c ∷ d ∷ rest) sign = cond-false _ _ _ (ap (λ x. x && is_digit c 16 && is_digit d 16) sign)

decode_escape : (c d x y : ℕ) (items : List ℕ) → (is_digit c 16 ≡ true) × (value_of_digit c ≡ x) → (is_digit d 16 ≡ true) × (value_of_digit d ≡ y) → percent_decode (37 ∷ c ∷ d ∷ items) ≡ (16 * x + y) ∷ percent_decode items
unfolding percent_decode
decode_escape c d x y items high low =
    cond-true _ _ _ (ap (λ t. t && is_digit d 16) high.0 ∙ low.0) ∙ ap (λ v. (16 * v + value_of_digit d) ∷ percent_decode items) high.1 ∙ ap (λ v. (16 * x + v) ∷ percent_decode items) low.1

no_sign : (b : ℕ) → is_plain b ≡ true → (b == 37) ≡ false
no_sign b plain = grind (arith, nat_tests)

abbrev Decodes : List ℕ → Type 0
Decodes piece = All IsByte piece → items_text piece ≡ Some (percent_decode piece)

abbrev pub some_text : List ℕ → Option (List ℕ)
some_text text = Some text

decodes_plain : (b : ℕ) (after : List ℕ) → is_plain b ≡ true → Decodes after → Decodes (b ∷ after)
decodes_plain b after plain rest small =
    items_plain b after plain ∙ ap (λ o. byte_before (Some b) o) (rest (All-tail IsByte b after small)) ∙ ap some_text (sym (decode_plain b after (no_sign b plain)))

decodes_pair : (c d : ℕ) (items : List ℕ) (p q : Option ℕ) → digit_value c ≡ p → digit_value d ≡ q → is_some p ≡ true → is_some q ≡ true → c < 256 → d < 256
    → byte_before (pair_of p q) (Some (percent_decode items)) ≡ Some (percent_decode (37 ∷ c ∷ d ∷ items))
decodes_pair c d items None q e f high low one two = cc
decodes_pair c d items (Some x) None e f high low one two = cc
decodes_pair c d items (Some x) (Some y) e f high low one two =
    let whole : percent_decode (37 ∷ c ∷ d ∷ items) ≡ (16 * x + y) ∷ percent_decode items = decode_escape c d x y items (digit_known c x one e) (digit_known d y two f) in
    let value : 16 * (16 * 0 + x) + y ≡ 16 * x + y = omega arith in
    ap (λ v. some_text (v ∷ percent_decode items)) value ∙ ap some_text (sym whole)

decodes_escape : (c d : ℕ) (items : List ℕ) → is_some (digit_value c) ≡ true → is_some (digit_value d) ≡ true → Decodes items → Decodes (37 ∷ c ∷ d ∷ items)
decodes_escape c d items high low rest small =
    let tail = All-tail IsByte 37 (c ∷ d ∷ items) small in
    let behind = All-tail IsByte c (d ∷ items) tail in
    escaped c d items ∙ ap (λ o. byte_before (pair_of (digit_value c) (digit_value d)) o) (rest (All-tail IsByte d items behind))
    ∙ decodes_pair c d items (digit_value c) (digit_value d) refl refl high low (All-head IsByte c (d ∷ items) tail) (All-head IsByte d items behind)

nothing_decoded : items_text [] ≡ Some (percent_decode [])
unfolding items_text percent_decode
nothing_decoded = refl

decode_steps : ItemSteps Decodes
decode_steps = record {
  none = λ small. nothing_decoded;
  plain = λ b after plain items rest. decodes_plain b after plain rest;
  escape = λ c d items high low more rest. decodes_escape c d items high low rest;
}

digit_large : (c : ℕ) → 256 ≤ c → digit_value c ≡ None
digit_large c large =
    let decimal : (nat_le 48 c && nat_le c 57) ≡ false = grind (arith, nat_tests) in
    let upper : (nat_le 65 c && nat_le c 70) ≡ false = grind (arith, nat_tests) in
    let lower : (nat_le 97 c && nat_le c 102) ≡ false = grind (arith, nat_tests) in
    cond-false _ _ _ decimal ∙ cond-false _ _ _ upper ∙ cond-false _ _ _ lower

digit_small : (c : ℕ) → is_some (digit_value c) ≡ true → c < 256
digit_small c digit =
    ⊎_elim (λ e. grind (arith, nat_tests)) (λ e. let large : 256 ≤ c = grind (arith, nat_tests) in absurd (no_digit (digit_value c) (digit_large c large) digit))
    (cases_Bool (nat_lt c 256))
  where
    no_digit : (o : Option ℕ) → o ≡ None → is_some o ≡ true → ⊥
    no_digit o e h = let no : is_some o ≡ false = ap is_some e in cc

plain_small : (b : ℕ) → is_plain b ≡ true → b < 256
plain_small b plain = grind (arith, nat_tests)

byte_steps : ItemSteps (All IsByte)
byte_steps = record {
  none = All-nil IsByte;
  plain = λ b after plain items rest. All-cons IsByte b after (plain_small b plain) rest;
  escape = λ c d items high low more rest.
      All-cons IsByte 37 (c ∷ d ∷ items) (omega arith) (All-cons IsByte c (d ∷ items) (digit_small c high) (All-cons IsByte d items (digit_small d low) rest));
}

-- items are decoded to their text
pub items_decoded : (piece : List ℕ) → is_some (items_text piece) ≡ true → items_text piece ≡ Some (percent_decode piece)
items_decoded piece items = by_items Decodes decode_steps piece items (by_items (All IsByte) byte_steps piece items)

-- ---- texts

pub text_of-items : (piece : List ℕ) → piece ≢ [] → piece ≢ 37 ∷ [] → text_of piece ≡ items_text piece
text_of-items [] some other = absurd (some refl)
text_of-items (b ∷ []) some other =
    ⊎_elim (λ e. let sign : b ≡ 37 = grind (arith, nat_tests) in absurd (other (ap (λ x. x ∷ []) sign))) (λ e. cond-false _ _ _ e) (cases_Bool (b == 37))
text_of-items (b ∷ c ∷ items) some other = refl
