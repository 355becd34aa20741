-- Lists of children: one behind the others, and one that has another name.
use Rattle.std.proofs.Common.{◌≡◌, ℕ, refl, sym, ◌∙◌, ap, arith, List, [], ◌∷◌, ◌++◌, length, take, get_or, set, ◌+◌, ◌<◌, false, true, Option, None, Some, length-set}
use Rattle.std.proofs.lemmas.List.{set-append_left, get_or_append_left, length_push}
use Rattle.std.proofs.lemmas.List.Edits.{swap_is}
use Rattle.std.proofs.Math.Seq.{set-append_seam, get_or-append_seam}
use Rattle.std.proofs.lemmas.Option.{get_or_from_slice_get}
use Rattle.std.specs.Prelude.{is_some, slice_get}
use Rattle.std.specs.List.{swap}
use Rattle.std.specs.Option.{option_to_list, option_map_or}
use Rattle.kept_names.specs.Lists.{position_of, renamed}

not_true : {P : Type 0} → false ≡ true → P
not_true e = cc

pub not_some : {A : Type 0} (o : Option A) → is_some o ≡ false → o ≡ None
not_some None e = refl
not_some (Some x) e = cc

-- lists with one more each are one where they are one without
same_front : {A : Type 0} (xs ys : List A) (x y : A) → xs ++ x ∷ [] ≡ ys ++ y ∷ [] → length xs ≡ length ys → xs ≡ ys
same_front xs ys x y e long =
    sym (take-all xs x) ∙ ap (take (length xs)) e ∙ ap (λ n. take n (ys ++ y ∷ [])) long ∙ take-all ys y
  where
    take-all : {A : Type 0} (zs : List A) (z : A) → take (length zs) (zs ++ z ∷ []) ≡ zs
    take-all [] z = refl
    take-all (w ∷ zs) z = ap (λ t. w ∷ t) (take-all zs z)

-- the last of a list takes another's place, and that one the last
pub swapped_last : {A : Type 0} (xs : List A) (y d : A) (i : ℕ) → i < length xs → swap (xs ++ y ∷ []) i (length xs) ≡ set xs i y ++ get_or xs i d ∷ []
swapped_last xs y d i lt =
    let long = length_push xs y in
    sym (swap_is (xs ++ y ∷ []) i (length xs) d (omega (arith, lt, long)) (omega (arith, long)))
    ∙ ap (λ z. set (set (xs ++ y ∷ []) i z) (length xs) (get_or (xs ++ y ∷ []) i d)) (get_or-append_seam xs y [] d)
    ∙ ap (λ zs. set zs (length xs) (get_or (xs ++ y ∷ []) i d)) (set-append_left xs (y ∷ []) i y lt)
    ∙ ap (λ n. set (set xs i y ++ y ∷ []) n (get_or (xs ++ y ∷ []) i d)) (sym (length-set xs i y))
    ∙ set-append_seam (set xs i y) y [] (get_or (xs ++ y ∷ []) i d)
    ∙ ap (λ z. set xs i y ++ z ∷ []) (get_or_append_left xs (y ∷ []) d i lt)

-- a child is put behind, takes another's place, and that one is taken out
pub exchanged : {A : Type 0} (es mid swapped new : List A) (y d : A) (i last : ℕ) (r : Option A) → mid ≡ es ++ y ∷ [] → swapped ≡ swap mid i last → last ≡ length es → i < length es → swapped ≡ new ++ option_to_list r
    → (0 < length swapped → is_some r ≡ true) → new ≡ set es i y
exchanged es mid swapped new y d i last None put moved at lt popped found = not_true (found (omega (arith, long)))
  where
    whole : swapped ≡ set es i y ++ get_or es i d ∷ []
    whole = moved ∙ ap (λ m. swap m i last) put ∙ ap (λ n. swap (es ++ y ∷ []) i n) at ∙ swapped_last es y d i lt

    long : length swapped ≡ length (set es i y) + 1
    long = ap length whole ∙ length_push (set es i y) (get_or es i d)
exchanged es mid swapped new y d i last (Some z) put moved at lt popped found =
    same_front new (set es i y) z (get_or es i d) (sym popped ∙ whole) (omega (arith, one, two))
  where
    whole : swapped ≡ set es i y ++ get_or es i d ∷ []
    whole = moved ∙ ap (λ m. swap m i last) put ∙ ap (λ n. swap (es ++ y ∷ []) i n) at ∙ swapped_last es y d i lt

    one : length swapped ≡ length new + 1
    one = ap length popped ∙ length_push new z

    two : length swapped ≡ length (set es i y) + 1
    two = ap length whole ∙ length_push (set es i y) (get_or es i d)

pub renamed_is : (name to : List ℕ) (es : List (List ℕ × ℕ)) (i : ℕ) (k : List ℕ) (s : ℕ) → position_of name es ≡ Some i → slice_get es i ≡ Some (k, s) → set es i (to, s) ≡ renamed name to es
renamed_is name to es i k s at e =
    ap (λ v. set es i (to, v)) (sym (ap (λ (p : List ℕ × ℕ). p.1) (get_or_from_slice_get es i (k, s) (to, 0) e)))
    ∙ sym (ap (λ o. option_map_or (λ j. set es j (to, (get_or es j (to, 0)).1)) o es) at)
