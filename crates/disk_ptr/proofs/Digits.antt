-- Room for digits.
use Rattle.std.proofs.Common.{◌≡◌, ℕ, zero, suc, ◌^◌, ◌≤◌, ◌<◌, List, length, take, drop, ap, arith, length-drop}
use Rattle.std.proofs.lemmas.List.{take_all}
use Rattle.adf_format.specs.Hex.{hex_value}
use Rattle.adf_format.specs.Pointer.{pointer, pointer_of_parts}
use Rattle.std.proofs.Math.Nat.{pow-le-pow_right, pow-succ'}

-- fifteen digits leave room for one more
pub room_for_digit : (n i : ℕ) → n < 16 ^ i → i < 16 → n < 2 ^ 60
room_for_digit n i lt few = omega (arith, lt, pow-le-pow_right {n = 16} (omega arith) {i = i} {j = 15} (omega arith))

-- what eight digits spell is a word
pub fits_word : (n i : ℕ) → n < 16 ^ i → i ≤ 8 → n < 2 ^ 32
fits_word n i lt few = omega (arith, lt, pow-le-pow_right {n = 16} (omega arith) {i = i} {j = 8} few)

-- the last four bytes of twelve
pub last_four : (bytes : List ℕ) → length bytes ≡ 12 → pointer_of_parts (hex_value (take 8 bytes)) (hex_value (take 4 (drop 8 bytes))) ≡ pointer bytes
last_four bytes h = ap (λ rest. pointer_of_parts (hex_value (take 8 bytes)) (hex_value rest)) (take_all 4 (drop 8 bytes) (omega (arith, h, length-drop 8 bytes)))

-- nothing is below a power
pub some_power : (n : ℕ) → 0 < 16 ^ n
some_power zero = omega arith
some_power (suc n) = omega (arith, some_power n, pow-succ' 16 n)
