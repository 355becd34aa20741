-- The writer's spelling of a text is what the escapes of the kit give, and it is read again.
use Rattle.std.proofs.Common.{◌≡◌, ◌≢◌, ℕ, zero, suc, ◌<◌, Bool, true, false, ◌&&◌, All, List, [], ◌∷◌, ◌++◌, refl, sym, ◌∙◌, ap, arith, bytes_eq, Option, Some, if◌then◌else◌, ◌==◌}
use Rattle.std.specs.List.{flat_map}
use Rattle.std.proofs.lemmas.Bool.Decides.{Decides-below_and, nat_tests}
use Rattle.std.proofs.lemmas.Slice.Eq.{bytes_eq-Decides}
use Rattle.std.proofs.lemmas.List.Elements.{All-head, All-tail}
use Rattle.percent_encoding.specs.AsciiSet.{should_percent_encode}
use Rattle.percent_encoding.specs.Percent.{percent_encode, percent_encode_byte, encode_byte}
use Rattle.percent_encoding.proofs.PercentLemmas.{IsByte}
use Rattle.adf_model.specs.declared.spelling.TheConstants.{ESCAPED}
use Rattle.std.proofs.lemmas.Bool.{cond-true, cond-false}
use Rattle.adf_format.specs.Hex.{hex_text}
use Rattle.adf_format.proofs.HexLaws.{hex_value-hex_text}
use Rattle.adf_model.specs.Spelling.{is_plain, spelled_byte, spelled, byte_before, items_text, text_of}

abbrev bytes_match : ℕ → Bool
bytes_match zero = true
bytes_match (suc n) = bytes_eq (encode_byte ESCAPED n) (spelled_byte n) && bytes_match n

bytes_checked : bytes_match 256 ≡ true
unfolding should_percent_encode percent_encode_byte
bytes_checked = refl

-- each byte becomes what the writer spells
encode_byte-spelled : (b : ℕ) → b < 256 → encode_byte ESCAPED b ≡ spelled_byte b
encode_byte-spelled =
    (Decides-below_and (λ b. bytes_eq (encode_byte ESCAPED b) (spelled_byte b)) (λ b. encode_byte ESCAPED b ≡ spelled_byte b) bytes_match (λ b. bytes_eq-Decides _ _) refl (λ _. refl) 256).0 bytes_checked

all_encoded : (bs : List ℕ) → All IsByte bs → flat_map (encode_byte ESCAPED) bs ≡ flat_map spelled_byte bs
all_encoded [] small = refl
all_encoded (b ∷ bs) small = ap (λ x. x ++ flat_map (encode_byte ESCAPED) bs) (encode_byte-spelled b (All-head IsByte b bs small)) ∙ ap (λ x. spelled_byte b ++ x) (all_encoded bs (All-tail IsByte b bs small))

pub percent_encode-spelled : (bs : List ℕ) → bs ≢ [] → All IsByte bs → percent_encode ESCAPED bs ≡ spelled bs
unfolding percent_encode
percent_encode-spelled [] some small = absurd (some refl)
percent_encode-spelled (b ∷ bs) some small = all_encoded (b ∷ bs) small

-- ---- what is spelled is read again

pub items_plain : (b : ℕ) (items : List ℕ) → is_plain b ≡ true → items_text (b ∷ items) ≡ byte_before (Some b) (items_text items)
unfolding items_text
items_plain b [] plain = cond-true _ _ _ plain
items_plain b (c ∷ []) plain = cond-true _ _ _ plain
items_plain b (c ∷ d ∷ items) plain = cond-true _ _ _ plain

items_escape : (b : ℕ) (items : List ℕ) → b < 256 → items_text (37 ∷ hex_text 2 b ++ items) ≡ byte_before (Some b) (items_text items)
unfolding items_text
items_escape b items small = ap (λ o. byte_before o (items_text items)) (hex_value-hex_text 2 b small)

items_byte : (b : ℕ) (items : List ℕ) → b < 256 → items_text (spelled_byte b ++ items) ≡ byte_before (Some b) (items_text items)
items_byte b items small = by_kind (is_plain b) refl
  where
    by_kind : (plain : Bool) → is_plain b ≡ plain → items_text ((if plain then b ∷ [] else 37 ∷ hex_text 2 b) ++ items) ≡ byte_before (Some b) (items_text items)
    by_kind true e = items_plain b items e
    by_kind false e = items_escape b items small

items_again : (text : List ℕ) → All IsByte text → items_text (flat_map spelled_byte text) ≡ Some text
unfolding items_text
items_again [] small = refl
items_again (b ∷ text) small = items_byte b (flat_map spelled_byte text) (All-head IsByte b text small) ∙ ap (byte_before (Some b)) (items_again text (All-tail IsByte b text small))

no_escape : (b : ℕ) → is_plain b ≡ true → (b == 37) ≡ false
no_escape b plain = grind (arith, nat_tests)

text_of_plain : (b : ℕ) (items : List ℕ) → is_plain b ≡ true → text_of (b ∷ items) ≡ items_text (b ∷ items)
text_of_plain b [] plain = cond-false _ _ _ (no_escape b plain)
text_of_plain b (c ∷ items) plain = refl

text_of_byte : (b : ℕ) (items : List ℕ) → text_of (spelled_byte b ++ items) ≡ items_text (spelled_byte b ++ items)
text_of_byte b items = by_kind (is_plain b) refl
  where
    by_kind : (plain : Bool) → is_plain b ≡ plain → text_of ((if plain then b ∷ [] else 37 ∷ hex_text 2 b) ++ items) ≡ items_text ((if plain then b ∷ [] else 37 ∷ hex_text 2 b) ++ items)
    by_kind true e = text_of_plain b items e
    by_kind false e = refl

-- a text is read again from its spelling
pub text_of-spelled : (text : List ℕ) → All IsByte text → text_of (spelled text) ≡ Some text
text_of-spelled [] small = refl
text_of-spelled (b ∷ text) small = text_of_byte b (flat_map spelled_byte text) ∙ items_again (b ∷ text) small

-- two texts are spelled differently
pub spelled_apart : (text other : List ℕ) → All IsByte text → All IsByte other → spelled text ≡ spelled other → text ≡ other
spelled_apart text other small short same = same_Some text other (sym (text_of-spelled text small) ∙ ap text_of same ∙ text_of-spelled other short)
  where
    same_Some : (text other : List ℕ) → ◌≡◌ {A = Option (List ℕ)} (Some text) (Some other) → text ≡ other
    same_Some text other e = cc
