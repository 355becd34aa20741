-- How large the numbers of a file are: digits bound what they spell, and the room for headers bounds the nodes of a walk.
use Rattle.std.proofs.Common.{◌≡◌, ℕ, zero, suc, refl, subst, arith, List, [], ◌∷◌, length, take, drop, min, length-append, ◌+◌, ◌-◌, ◌*◌, ◌^◌, ◌<◌, ◌≤◌, Bool, true, false}
use Rattle.std.proofs.Math.Nat.{pow-succ'}
use Rattle.std.proofs.lemmas.Bool.Decides.{nat_tests}
use Rattle.std.proofs.lemmas.List.{length-map, length-take}
use Rattle.std.specs.Prelude.{Option, Some, None, Ok, Err, Result, ⊤, nat_le, ◌&&◌, if◌then◌else◌, option_and_then, unwrap_or}
use Rattle.adf_format.specs.Hex.{digit_value, hex_value, hex_value_after}
use Rattle.adf_format.specs.Pointer.{Pointer, Blank, To, pointer, place_of, place_value}
use Rattle.adf_format.specs.Fields.{field, number}
use Rattle.adf_format.specs.Tiles.{total_length}
use Rattle.adf_format.specs.Tree.{next_serial}
use Rattle.adf_format.specs.Checks.{Fault, Walk, finished, stopped, passed}
use Rattle.adf_format.specs.FirstFault.{NodeWalk, visit_rows, visit_extents, found_extents, end_in, is_wide, Visit, child_visits}
use Rattle.adf_format.specs.SoundPart.{tree_of}
use Rattle.adf_format.proofs.PointerLaws.{pointer_tells}
use Rattle.adf_format.proofs.WalkLaws.{total_length-append, roomy}
use Rattle.adf_model.proofs.Basics.{not_there, same_Some, and_parts}

-- ---- digits

at_most : (m n : ℕ) → nat_le m n ≡ true → m ≤ n
at_most m n e = grind (arith, nat_tests)

digit_small : (b d : ℕ) → digit_value b ≡ Some d → d < 16
digit_small b d e = first (nat_le 48 b && nat_le b 57) refl e
  where
    third : (t : Bool) → (nat_le 97 b && nat_le b 102) ≡ t → (if t then Some (b - 87) else None) ≡ Some d → d < 16
    third true e f = let r = at_most b 102 (and_parts (nat_le 97 b) (nat_le b 102) e).1 in let s = same_Some (b - 87) d f in omega (arith, r, s)
    third false e f = absurd (not_there d f)

    second : (t : Bool) → (nat_le 65 b && nat_le b 70) ≡ t → (if t then Some (b - 55) else if nat_le 97 b && nat_le b 102 then Some (b - 87) else None) ≡ Some d → d < 16
    second true e f = let r = at_most b 70 (and_parts (nat_le 65 b) (nat_le b 70) e).1 in let s = same_Some (b - 55) d f in omega (arith, r, s)
    second false e f = third (nat_le 97 b && nat_le b 102) refl f

    first : (t : Bool) → (nat_le 48 b && nat_le b 57) ≡ t
        → (if t then Some (b - 48) else if nat_le 65 b && nat_le b 70 then Some (b - 55) else if nat_le 97 b && nat_le b 102 then Some (b - 87) else None) ≡ Some d → d < 16
    first true e f = let r = at_most b 57 (and_parts (nat_le 48 b) (nat_le b 57) e).1 in let s = same_Some (b - 48) d f in omega (arith, r, s)
    first false e f = second (nat_le 65 b && nat_le b 70) refl f

-- digits behind a number below a power of 16
digits_small : (bs : List ℕ) (n v k : ℕ) → n < 16 ^ k → hex_value_after n bs ≡ Some v → v < 16 ^ (length bs + k)
digits_small [] n v k h e = subst (λ m. v < 16 ^ m) (front k) (subst (λ x. x < 16 ^ k) (same_Some n v e) h)
  where
    front : (k : ℕ) → k ≡ 0 + k
    front k = omega arith
digits_small (b ∷ bs) n v k h e = by_digit (digit_value b) refl e (λ d lt f. digits_small bs (16 * n + d) v (suc k) (more d lt) f)
  where
    more : (d : ℕ) → d < 16 → 16 * n + d < 16 ^ suc k
    more d lt = let p : 16 ^ suc k ≡ 16 * 16 ^ k = pow-succ' 16 k in omega (arith, lt, h, p)

    shift : (l k : ℕ) → l + suc k ≡ suc l + k
    shift l k = omega arith

    by_digit : (o : Option ℕ) → digit_value b ≡ o → option_and_then (λ digit. hex_value_after (16 * n + digit) bs) o ≡ Some v
        → ((d : ℕ) → d < 16 → hex_value_after (16 * n + d) bs ≡ Some v → v < 16 ^ (length bs + suc k)) → v < 16 ^ (suc (length bs) + k)
    by_digit None f e ih = absurd (not_there v e)
    by_digit (Some d) f e ih = subst (λ m. v < 16 ^ m) (shift (length bs) k) (ih d (digit_small b d f) e)

power_some : (k : ℕ) → 0 < 16 ^ k
power_some zero = omega arith
power_some (suc k) = let p : 16 ^ suc k ≡ 16 * 16 ^ k = pow-succ' 16 k in let h = power_some k in omega (arith, p, h)

-- at most n digits spell a number below the n-th power of 16
pub hex_small : (bs : List ℕ) (n v : ℕ) → length bs ≤ n → hex_value bs ≡ Some v → v < 16 ^ n
hex_small bs n v short e = subst (λ m. v < 16 ^ m) (filled (length bs) n short) (digits_small bs 0 v (n - length bs) (power_some (n - length bs)) e)
  where
    filled : (l n : ℕ) → l ≤ n → l + (n - l) ≡ n
    filled l n h = omega (arith, h)

pub number_small : (bytes : List ℕ) (offset n : ℕ) → number bytes offset n < 16 ^ n
number_small bytes offset n = by_value (hex_value (field bytes offset n)) refl
  where
    short : length (field bytes offset n) ≤ n
    short = let e : length (take n (drop offset bytes)) ≡ min n (length (drop offset bytes)) = length-take n (drop offset bytes) in omega (arith, e)

    by_value : (o : Option ℕ) → hex_value (field bytes offset n) ≡ o → unwrap_or o 0 < 16 ^ n
    by_value None e = power_some n
    by_value (Some v) e = hex_small (field bytes offset n) n v short e

-- a pointer names a place below 2 ^ 44
pub place_small : (bytes : List ℕ) → place_of bytes < 2 ^ 44
place_small bytes = by_pointer (pointer bytes) refl
  where
    first_short : length (take 8 bytes) ≤ 8
    first_short = let e : length (take 8 bytes) ≡ min 8 (length bytes) = length-take 8 bytes in omega (arith, e)

    placed : (block offset place : ℕ) → block < 16 ^ 8 → offset ≤ 4095 → place ≡ block * 4096 + offset → place < 2 ^ 44
    placed block offset place h k e = omega (arith, h, k, e)

    by_pointer : (o : Option Pointer) → pointer bytes ≡ o → place_value o < 2 ^ 44
    by_pointer None e = omega arith
    by_pointer (Some Blank) e = omega arith
    by_pointer (Some (To place)) e = let t = pointer_tells bytes (To place) e in placed t.0 t.1 place (hex_small (take 8 bytes) 8 t.0 first_short t.2) t.4.0 t.4.1

-- ---- how many nodes there are

long : (image : List ℕ) (wide : Bool) (v : Visit) → 1 ≤ total_length (visit_extents image wide v)
unfolding visit_extents
long image wide v = omega arith

-- and each of those is a byte long or more
each_long : (image : List ℕ) (wide : Bool) (seen : List Visit) → length seen ≤ total_length (found_extents image wide seen)
each_long image wide [] = omega arith
each_long image wide (v ∷ seen) =
    let split = total_length-append (visit_extents image wide v) (found_extents image wide seen) in
    let first = long image wide v in
    let rest = each_long image wide seen in
    omega (arith, split, first, rest)

abbrev Counted : ℕ → Result (List Visit) Fault → Type 0
Counted end (Ok all) = length all ≤ end + 1
Counted end (Err fault) = ⊤

counted : (image : List ℕ) (wide : Bool) (end : ℕ) {todo seen : List Visit} {outcome : Result (List Visit) Fault} → Walk (visit_rows image wide end) (child_visits image) todo seen outcome → length seen ≤ end + 1 → Counted end outcome
counted image wide end finished h = h
counted image wide end (stopped e) h = tt
counted image wide end (passed {item = item} {seen = seen} e w) h =
    counted image wide end w
    (let room = roomy image wide end seen item e in let many = each_long image wide seen in let more = length-append seen (item ∷ []) in omega (arith, room, many, more))

-- so serials are not used up
pub walk_drawn : (image : List ℕ) (nodes : List Visit) → NodeWalk image (Ok nodes) → next_serial (tree_of image nodes) ≤ 2 ^ 48
walk_drawn image nodes w =
    let all : length nodes ≤ end_in image + 1 = counted image (is_wide image) (end_in image) w (omega arith) in
    let small = place_small (field image 146 12) in
    let same = length-map nodes _ in
    fewer (length nodes) (end_in image) _ all small same
  where
    fewer : (n end m : ℕ) → n ≤ end + 1 → end < 2 ^ 44 → m ≡ n → m ≤ 2 ^ 48
    fewer n end m h k e = omega (arith, h, k, e)
