-- Different names on a shelf have different numbers.
use Rattle.std.proofs.Common.{◌≡◌, ◌≢◌, ℕ, ◌+◌, ◌≤◌, cond, List, [], ◌∷◌, Bool, true, false, Some, None, refl, sym, ◌∙◌, subst, arith}
use Rattle.std.specs.List.{position_from}
use Rattle.std.specs.Str.{bytes_eq}
use Rattle.std.proofs.lemmas.Slice.Eq.{bytes_eq-Decides}
use Rattle.adf_model.proofs.Basics.{and_parts, not_true, same_Some}
use Rattle.std.specs.Prelude.{IsSome, codes}
use Rattle.adf_repack.specs.declared.whole.Target.TheVariants as target
use Rattle.adf_library.specs.Shelf.{SlotState, device_at, has_name, is_named, number_in}
use Rattle.tool_commands.specs.Tool.{IsOnShelf, command_between, file_number, is_file_word}
use Rattle.tool_commands.specs.declared.words.Wanted.TheVariants as asks

-- a position is none before the first
position_low : {X : Type 0} (test : X → Bool) (xs : List X) (i n : ℕ) → position_from test i xs ≡ Some n → i ≤ n
position_low test [] i n e = absurd cc
position_low test (x ∷ xs) i n e = by_test (test x) e (position_low test xs (i + 1) n)
  where
    by_test : (t : Bool) → cond t (Some i) (position_from test (i + 1) xs) ≡ Some n → (position_from test (i + 1) xs ≡ Some n → i + 1 ≤ n) → i ≤ n
    by_test true e later = let same = same_Some i n e in omega (arith, same)
    by_test false e later = let low = later e in omega (arith, low)

name_is : (name : List ℕ) (slot : SlotState) → has_name name slot ≡ true → slot.name ≡ name
name_is name slot has = (bytes_eq-Decides slot.name name).0 (and_parts (is_named slot.place) (bytes_eq slot.name name) has).1

one_name : (a b : List ℕ) (slots : List SlotState) (i n : ℕ) → position_from (has_name a) i slots ≡ Some n → position_from (has_name b) i slots ≡ Some n → a ≡ b
one_name a b [] i n first second = absurd cc
one_name a b (x ∷ xs) i n first second = by_tests (has_name a x) (has_name b x) refl refl (one_name a b xs (i + 1) n) first second
  where
    beyond : (test : SlotState → Bool) → i ≡ n → position_from test (i + 1) xs ≡ Some n → a ≡ b
    beyond test same e = let low = position_low test xs (i + 1) n e in absurd (omega (arith, low, same))

    by_tests : (s t : Bool) → has_name a x ≡ s → has_name b x ≡ t
        → (position_from (has_name a) (i + 1) xs ≡ Some n → position_from (has_name b) (i + 1) xs ≡ Some n → a ≡ b)
        → cond s (Some i) (position_from (has_name a) (i + 1) xs) ≡ Some n → cond t (Some i) (position_from (has_name b) (i + 1) xs) ≡ Some n → a ≡ b
    by_tests true true is same later e f = sym (name_is a x is) ∙ name_is b x same
    by_tests true false is same later e f = beyond (has_name b) (same_Some i n e) f
    by_tests false true is same later e f = beyond (has_name a) (same_Some i n f) e
    by_tests false false is same later e f = later e f

number_of_file : (slots : List SlotState) (word : List ℕ) (n : ℕ) → file_number slots word ≡ Some n → number_in slots word ≡ Some n
number_of_file slots word n e = by_test (is_file_word word) e
  where
    by_test : (b : Bool) → cond b (number_in slots word) None ≡ Some n → number_in slots word ≡ Some n
    by_test true e = e
    by_test false e = absurd cc

pub apart_numbers : (slots : List SlotState) (a b : List ℕ) (n m : ℕ) → bytes_eq a b ≡ false → file_number slots a ≡ Some n → file_number slots b ≡ Some m → n ≢ m
apart_numbers slots a b n m apart first second same =
    not_true (sym apart ∙ (bytes_eq-Decides a b).1 (one_name a b slots 0 n (number_of_file slots a n first) (number_of_file slots b n (subst (λ (k : ℕ). file_number slots b ≡ Some k) (sym same) second))))

-- a command over the devices of two numbers that stand on a shelf
pub between_stands : (command : List ℕ) (from to : ℕ) (slots : List SlotState) → from ≢ to → IsSome (device_at slots from) → IsSome (device_at slots to) → IsOnShelf (command_between command from to) slots
between_stands command from to slots apart first second =
    by_tests (bytes_eq command (codes "repack")) (bytes_eq command (codes "widen")) (bytes_eq command (codes "narrow")) (bytes_eq command (codes "salvage"))
  where
    by_tests : (repack widen narrow salvage : Bool)
        → IsOnShelf (cond repack (asks.Copy target.Same from to) (cond widen (asks.Copy target.Wide from to) (cond narrow (asks.Copy target.Narrow from to) (cond salvage (asks.Salvage from to) asks.Nothing)))) slots
    by_tests true widen narrow salvage = (apart, first, second)
    by_tests false true narrow salvage = (apart, first, second)
    by_tests false false true salvage = (apart, first, second)
    by_tests false false false true = (apart, first, second)
    by_tests false false false false = tt
