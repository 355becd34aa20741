-- What a pointer is: a block and an offset of at most 4095, or the blank one.
use Rattle.std.proofs.Common.{◌≡◌, ℕ, refl, sym, ap, arith, List, take, drop, ◌+◌, ◌*◌, ◌≤◌, Bool, true, false}
use Rattle.std.proofs.lemmas.Bool.Decides.{nat_tests}
use Rattle.std.specs.Prelude.{Option, Some, None, nat_le, ◌==◌, ◌&&◌, if◌then◌else◌}
use Rattle.adf_format.specs.Hex.{hex_value}
use Rattle.adf_format.specs.Pointer.{Pointer, Blank, To, pointer, pointer_at, pointer_of_parts, place_value, IsMadeOf}

not_some : {P : Type 0} (p : Pointer) → ◌≡◌ {A = Option Pointer} None (Some p) → P
not_some p e = cc

same : (p q : Pointer) → ◌≡◌ {A = Option Pointer} (Some p) (Some q) → p ≡ q
same p q e = cc

parts_tell : (block offset : ℕ) (p : Pointer) → pointer_at block offset ≡ Some p → IsMadeOf block offset p
parts_tell block offset p e = by_offset (nat_le offset 4095) refl e
  where
    near : nat_le offset 4095 ≡ true → offset ≤ 4095
    near t = grind (arith, nat_tests)

    both : (a b : Bool) → (a && b) ≡ true → (a ≡ true) × (b ≡ true)
    both true b e = (refl, e)
    both false b e = cc

    number : (a b : ℕ) → (a == b) ≡ true → a ≡ b
    number a b t = grind (arith, nat_tests)

    of_place : offset ≤ 4095 → (q : Pointer) → To (block * 4096 + offset) ≡ q → IsMadeOf block offset q
    of_place le Blank e = cc
    of_place le (To place) e = (le, sym (ap (λ q. place_value (Some q)) e))

    of_blank : (block ≡ 0) × (offset ≡ 4096) → (q : Pointer) → Blank ≡ q → IsMadeOf block offset q
    of_blank h Blank e = h
    of_blank h (To place) e = cc

    by_blank : (t : Bool) → ((block == 0) && (offset == 4096)) ≡ t → (if t then Some Blank else None) ≡ Some p → IsMadeOf block offset p
    by_blank true t e = let h = both (block == 0) (offset == 4096) t in of_blank (number block 0 h.0, number offset 4096 h.1) p (same Blank p e)
    by_blank false t e = not_some p e

    by_offset : (t : Bool) → nat_le offset 4095 ≡ t → (if t then Some (To (block * 4096 + offset)) else if (block == 0) && (offset == 4096) then Some Blank else None) ≡ Some p → IsMadeOf block offset p
    by_offset true t e = of_place (near t) p (same (To (block * 4096 + offset)) p e)
    by_offset false t e = by_blank ((block == 0) && (offset == 4096)) refl e

pub pointer_tells : (bytes : List ℕ) (p : Pointer) → pointer bytes ≡ Some p → (block : ℕ) × (offset : ℕ) × (hex_value (take 8 bytes) ≡ Some block) × (hex_value (drop 8 bytes) ≡ Some offset) × IsMadeOf block offset p
pointer_tells bytes p e = by_parts (hex_value (take 8 bytes)) (hex_value (drop 8 bytes)) refl refl e
  where
    by_parts : (a b : Option ℕ) → hex_value (take 8 bytes) ≡ a → hex_value (drop 8 bytes) ≡ b → pointer_of_parts a b ≡ Some p
        → (block : ℕ) × (offset : ℕ) × (hex_value (take 8 bytes) ≡ Some block) × (hex_value (drop 8 bytes) ≡ Some offset) × IsMadeOf block offset p
    by_parts (Some block) (Some offset) f g e = (block, offset, f, g, parts_tell block offset p e)
    by_parts (Some block) None f g e = not_some p e
    by_parts None offset f g e = not_some p e
