-- Fields of a part, fields of texts in a row, and fields after a write.
use Rattle.std.proofs.Common.{◌≡◌, ◌⊎◌, inl, inr, ℕ, zero, suc, refl, sym, ◌∙◌, ap, subst, arith, List, [], ◌∷◌, ◌++◌, length, take, drop, min, length-append, length-drop, ◌+◌, ◌-◌, ◌*◌, ◌<◌, ◌≤◌}
use Rattle.std.proofs.lemmas.List.{length-take, take_all, take-append-le, drop-append-le}
use Rattle.std.proofs.Math.Seq.{drop-append-add}
use Rattle.std.specs.Prelude.{Option, Some, None, slice_get}
use Rattle.std.specs.List.{flat_map}
use Rattle.adf_format.specs.Fields.{field}
use Rattle.adf_format.specs.Changes.{Writes}
use Rattle.adf_format.specs.Spelled.{in_row, AllWide}
use Rattle.adf_format.proofs.FrameLaws.{field_step, put_first, field_kept, get_taken}

-- ---- bytes and fields

pub get_dropped : (xs : List ℕ) (o i j : ℕ) → j ≡ o + i → slice_get (drop o xs) i ≡ slice_get xs j
get_dropped xs zero i j e = ap (slice_get xs) (plain i j e)
  where
    plain : (i j : ℕ) → j ≡ 0 + i → i ≡ j
    plain i j e = omega (arith, e)
get_dropped [] (suc o) i j e = refl
get_dropped (x ∷ xs) (suc o) i zero e = absurd (none o i e)
  where
    none : (o i : ℕ) → 0 ≡ suc o + i → ⊥
    none o i e = omega (arith, e)
get_dropped (x ∷ xs) (suc o) i (suc j) e = get_dropped xs o i j (omega (arith, e))

-- a byte of a field is one of the whole
pub get_field : (xs : List ℕ) (o m i j : ℕ) → i < m → j ≡ o + i → slice_get (field xs o m) i ≡ slice_get xs j
get_field xs o m i j lt e = get_taken (drop o xs) m i lt ∙ get_dropped xs o i j e

-- fields of equal bytes are equal
pub same_field : (n k j : ℕ) (xs ys : List ℕ) → ((i a b : ℕ) → i < n → a ≡ k + i → b ≡ j + i → slice_get xs a ≡ slice_get ys b) → field xs k n ≡ field ys j n
same_field zero k j xs ys same = refl
same_field (suc n) k j xs ys same =
    let rest : field xs (suc k) n ≡ field ys (suc j) n = same_field n (suc k) (suc j) xs ys (λ i a b lt e f. same (suc i) a b (omega (arith, lt)) (omega (arith, e)) (omega (arith, f))) in
    field_step xs k n
    ∙ ap (λ o. put_first o (field xs (suc k) n)) (same 0 k j (omega arith) (omega arith) (omega arith))
    ∙ ap (put_first (slice_get ys j)) rest
    ∙ sym (field_step ys j n)

-- a field of a field is a field of the whole
pub inner_field : (xs : List ℕ) (o m k n : ℕ) → k + n ≤ m → field (field xs o m) k n ≡ field xs (o + k) n
inner_field xs o m k n le = same_field n k (o + k) (field xs o m) xs (λ i a b lt e f. get_field xs o m a b (omega (arith, e, lt, le)) (omega (arith, e, f)))

pub length-field : (xs : List ℕ) (o n : ℕ) → length (field xs o n) ≡ min n (length xs - o)
length-field xs o n = length-take n (drop o xs) ∙ ap (min n) (length-drop o xs)

pub field_whole : (xs : List ℕ) (n : ℕ) → length xs ≡ n → field xs 0 n ≡ xs
field_whole xs n e = take_all n xs (omega (arith, e))

-- ---- texts in a row

pub field_left : (xs ys : List ℕ) (o n : ℕ) → o + n ≤ length xs → field (xs ++ ys) o n ≡ field xs o n
field_left xs ys o n le =
    ap (take n) (drop-append-le o xs ys (omega (arith, le)))
    ∙ take-append-le n (drop o xs) ys (let long : length (drop o xs) ≡ length xs - o = length-drop o xs in omega (arith, long, le))

pub field_right : (xs ys : List ℕ) (o k n : ℕ) → o ≡ length xs + k → field (xs ++ ys) o n ≡ field ys k n
field_right xs ys o k n e = ap (λ j. take n (drop j (xs ++ ys))) e ∙ ap (take n) (drop-append-add xs ys k)

-- where the i-th of texts in a row begins
abbrev pub start_of : List (List ℕ) → ℕ → ℕ
start_of [] i = 0
start_of (p ∷ ps) zero = 0
start_of (p ∷ ps) (suc i) = length p + start_of ps i

none_there : {P : Type 0} (p : List ℕ) → ◌≡◌ {A = Option (List ℕ)} None (Some p) → P
none_there p e = cc

same_there : (p q : List ℕ) → ◌≡◌ {A = Option (List ℕ)} (Some p) (Some q) → p ≡ q
same_there p q e = cc

-- a field within the i-th text
pub within_row : (ps : List (List ℕ)) (i : ℕ) (p : List ℕ) (o k n : ℕ) → slice_get ps i ≡ Some p → o ≡ start_of ps i + k → k + n ≤ length p → field (in_row ps) o n ≡ field p k n
within_row [] i p o k n at e le = none_there p at
within_row (q ∷ ps) zero p o k n at e le =
    let here : q ≡ p = same_there q p at in
    ap (λ j. field (q ++ in_row ps) j n) (front o k e) ∙ field_left q (in_row ps) k n (subst (λ (t : List ℕ). k + n ≤ length t) (sym here) le) ∙ ap (λ t. field t k n) here
  where
    front : (o k : ℕ) → o ≡ 0 + k → o ≡ k
    front o k e = omega (arith, e)
within_row (q ∷ ps) (suc i) p o k n at e le =
    field_right q (in_row ps) o (start_of ps i + k) n (further (length q) (start_of ps i) o k e) ∙ within_row ps i p (start_of ps i + k) k n at refl le
  where
    further : (l s o k : ℕ) → o ≡ l + s + k → o ≡ l + (s + k)
    further l s o k e = omega (arith, e)

-- the i-th text
pub at_row : (ps : List (List ℕ)) (i : ℕ) (p : List ℕ) (o n : ℕ) → slice_get ps i ≡ Some p → length p ≡ n → o ≡ start_of ps i → field (in_row ps) o n ≡ p
at_row ps i p o n at long e = within_row ps i p o 0 n at (omega (arith, e)) (omega (arith, long)) ∙ field_whole p n long

-- ---- texts of one width

pub start_wide : (w : ℕ) (ps : List (List ℕ)) (i : ℕ) (p : List ℕ) → AllWide w ps → slice_get ps i ≡ Some p → start_of ps i ≡ w * i
start_wide w [] i p all at = none_there p at
start_wide w (q ∷ ps) zero p all at = omega arith
start_wide w (q ∷ ps) (suc i) p all at =
    let first : length q ≡ w = all 0 q refl in
    let rest : start_of ps i ≡ w * i = start_wide w ps i p (λ j t e. all (suc j) t e) at in
    plain (length q) (start_of ps i) w i first rest
  where
    plain : (l s w i : ℕ) → l ≡ w → s ≡ w * i → l + s ≡ w * suc i
    plain l s w i e f = rw (e, f, mul_suc w i) refl
      where
        mul_suc : (w i : ℕ) → w * suc i ≡ w + w * i
        mul_suc w i = omega arith

pub length-in_row : (w : ℕ) (ps : List (List ℕ)) → AllWide w ps → length (in_row ps) ≡ w * length ps
length-in_row w [] all = omega arith
length-in_row w (q ∷ ps) all =
    length-append q (in_row ps) ∙ plain (length q) (length (in_row ps)) w (length ps) (all 0 q refl) (length-in_row w ps (λ j t e. all (suc j) t e))
  where
    plain : (l s w n : ℕ) → l ≡ w → s ≡ w * n → l + s ≡ w * suc n
    plain l s w n e f = rw (e, f, mul_suc w n) refl
      where
        mul_suc : (w n : ℕ) → w * suc n ≡ w + w * n
        mul_suc w n = omega arith

pub flat_row : (ps : List (List ℕ)) → flat_map (λ (p : List ℕ). p) ps ≡ in_row ps
flat_row [] = refl
flat_row (p ∷ ps) = ap (λ xs. p ++ xs) (flat_row ps)

-- ---- after a write

module _ (place : ℕ) (text old new : List ℕ) (w : Writes place text old new) where
  -- a field inside what was written
  pub field_written : (k n : ℕ) → k + n ≤ length text → field new (place + k) n ≡ field text k n
  field_written k n le = sym (inner_field new place (length text) k n le) ∙ ap (λ t. field t k n) w.stands

  -- a field beside what was written
  pub field_beside : (at n : ℕ) → at + n ≤ length old → (at + n ≤ place) ⊎ (place + length text ≤ at) → field new at n ≡ field old at n
  field_beside at n within (inl before) = field_kept n at old new (λ b low high. w.others b (omega (arith, high, within)) (inl (omega (arith, high, before))))
  field_beside at n within (inr behind) = field_kept n at old new (λ b low high. w.others b (omega (arith, high, within)) (inr (omega (arith, low, behind))))

  whole_length : (xs : List ℕ) (at n : ℕ) → at + n ≤ length xs → length (field xs at n) ≡ n
  whole_length xs at n le = let long = length-field xs at n in omega (arith, long, le)

  -- a field around what was written has the text written in it
  pub field_around : (at k n : ℕ) → place ≡ at + k → k + length text ≤ n → at + n ≤ length old → Writes k text (field old at n) (field new at n)
  field_around at k n e fits within =
      let before : length (field old at n) ≡ n = whole_length old at n within in
      let after : length (field new at n) ≡ n = whole_length new at n (let longer = w.longer in omega (arith, within, longer)) in
      record {
        longer = omega (arith, before, after);
        stands = inner_field new at n k (length text) fits ∙ ap (λ j. field new j (length text)) (sym e) ∙ w.stands;
        others = λ b inside apart. others b (omega (arith, inside, before)) apart;
      }
    where
      others : (b : ℕ) → b < n → (b < k) ⊎ (k + length text ≤ b) → slice_get (field new at n) b ≡ slice_get (field old at n) b
      others b inside apart = get_field new at n b (at + b) inside refl ∙ w.others (at + b) (omega (arith, inside, within)) (moved apart) ∙ sym (get_field old at n b (at + b) inside refl)
        where
          moved : (b < k) ⊎ (k + length text ≤ b) → (at + b < place) ⊎ (place + length text ≤ at + b)
          moved (inl h) = inl (omega (arith, h, e))
          moved (inr h) = inr (omega (arith, h, e))

-- two writes in a row are one
pub writes_joined : (place : ℕ) (a b old middle new : List ℕ) → Writes place a old middle → Writes (place + length a) b middle new → Writes place (a ++ b) old new
writes_joined place a b old middle new v w = record {
  longer = (let one = v.longer in let two = w.longer in omega (arith, one, two));
  stands = stands;
  others = λ k inside apart. others k inside apart;
}
  where
    long : length (a ++ b) ≡ length a + length b
    long = length-append a b

    stands : field new place (length (a ++ b)) ≡ a ++ b
    stands = ap (field new place) long ∙ split (length a) (length b) ∙ ap (λ xs. xs ++ field new (place + length a) (length b)) first ∙ ap (λ xs. a ++ xs) w.stands
      where
        split : (m n : ℕ) → field new place (m + n) ≡ field new place m ++ field new (place + m) n
        split m n = split_field m place
          where
            split_field : (m place : ℕ) → field new place (m + n) ≡ field new place m ++ field new (place + m) n
            split_field zero place = ap (λ k. field new place k) (none n) ∙ ap (λ k. field new k n) (same place)
              where
                none : (n : ℕ) → 0 + n ≡ n
                none n = omega arith

                same : (p : ℕ) → p ≡ p + 0
                same p = omega arith
            split_field (suc m) place =
                ap (field new place) (more m n) ∙ field_step new place (m + n) ∙ ap (put_first (slice_get new place)) (split_field m (suc place) ∙ ap (λ k. field new (suc place) m ++ field new k n) (shift place m))
                ∙ put_append (slice_get new place) (field new (suc place) m) (field new (place + suc m) n) ∙ ap (λ xs. xs ++ field new (place + suc m) n) (sym (field_step new place m))
              where
                more : (m n : ℕ) → suc m + n ≡ suc (m + n)
                more m n = omega arith

                shift : (p m : ℕ) → suc p + m ≡ p + suc m
                shift p m = omega arith

                put_append : (o : Option ℕ) (xs ys : List ℕ) → put_first o (xs ++ ys) ≡ put_first o xs ++ ys
                put_append None xs ys = refl
                put_append (Some x) xs ys = refl

        reached : place + length a ≤ length middle → field new place (length a) ≡ a
        reached le = field_beside (place + length a) b middle new w place (length a) le (inl (omega arith)) ∙ v.stands

        first : field new place (length a) ≡ a
        first = by_length a refl
          where
            by_length : (t : List ℕ) → t ≡ a → field new place (length a) ≡ a
            by_length [] e = subst (λ (t : List ℕ). field new place (length t) ≡ t) e refl
            by_length (x ∷ xs) e = reached (let f = length-field middle place (length a) in let g : length (field middle place (length a)) ≡ length a = ap length v.stands in let h : suc (length xs) ≡ length a = ap length e in omega (arith, f, g, h))

    others : (k : ℕ) → k < length old → (k < place) ⊎ (place + length (a ++ b) ≤ k) → slice_get new k ≡ slice_get old k
    others k inside (inl h) = let one = v.longer in w.others k (omega (arith, inside, one)) (inl (omega (arith, h))) ∙ v.others k inside (inl h)
    others k inside (inr h) = let one = v.longer in w.others k (omega (arith, inside, one)) (inr (omega (arith, h, long))) ∙ v.others k inside (inr (omega (arith, h, long)))
