-- Entries looked at one after another.
use Rattle.std.proofs.Common.{◌≡◌, ℕ, zero, suc, refl, sym, ◌∙◌, ap, arith, List, map, ◌+◌, ◌-◌, ◌*◌, ◌<◌, ◌≤◌, Bool, true, false, cond}
use Rattle.std.specs.Prelude.{Option, Some, None, not, ◌&&◌, ◌||◌}
use Rattle.std.specs.List.{list_any, range_with_len}
use Rattle.std.specs.Str.{bytes_eq}
use Rattle.std.specs.Ordering.{nat_cmp}
use Rattle.std.specs.Cmp.Lexicographic.{slice_cmp}
use Rattle.layout_lint.specs.Keys.{contains}
use Rattle.std.specs.BTreeMap.{is_at}
use Rattle.std.proofs.lemmas.Map.Text.{is_eq-slice_cmp}
use Rattle.adf_format.specs.Pointer.{is_place}
use Rattle.adf_format.specs.Checks.{Row, Fault, first_broken}
use Rattle.adf_format.specs.FirstFault.{entry_name, entry_pointer, is_name_field, entry_rows}
use Rattle.adf_format.specs.Fields.{field}
use Rattle.adf_format.proofs.FieldLaws.{inner_field}
use Rattle.layout_lint.specs.Marks.{name_said}
use Rattle.layout_lint.specs.Entries.{is_repeated, entry_row}

rows_are : (image : List ℕ) (t n : ℕ) → entry_rows image t n ≡ map (entry_row image t) (range_with_len 0 n)
unfolding entry_rows
rows_are image t n = refl

pub rows_start : (image : List ℕ) (t n : ℕ) → first_broken (entry_rows image t n) ≡ first_broken (map (entry_row image t) (range_with_len 0 (n - 0)))
rows_start image t n = let count : n ≡ n - 0 = omega arith in ap first_broken (rows_are image t n) ∙ ap (λ k. first_broken (map (entry_row image t) (range_with_len 0 k))) count

-- the first of rows by a count is broken, or is kept and the others decide
kept_first : (k : Bool) (f : Fault) (o : Option Fault) → k ≡ true → cond k o (Some f) ≡ o
kept_first true f o e = refl
kept_first false f o e = cc

broken_first : (k : Bool) (f : Fault) (o : Option Fault) → k ≡ false → cond k o (Some f) ≡ Some f
broken_first true f o e = cc
broken_first false f o e = refl

pub next_row : (f : ℕ → Row) (i n : ℕ) → i < n → (f i).kept ≡ true → first_broken (map f (range_with_len i (n - i))) ≡ first_broken (map f (range_with_len (i + 1) (n - (i + 1))))
next_row f i n h k = let count : n - i ≡ suc (n - (i + 1)) = omega (arith, h) in rw count (kept_first (f i).kept (f i).fault _ k)

pub this_row : (f : ℕ → Row) (i n : ℕ) → i < n → (f i).kept ≡ false → first_broken (map f (range_with_len i (n - i))) ≡ Some (f i).fault
this_row f i n h k = let count : n - i ≡ suc (n - (i + 1)) = omega (arith, h) in rw count (broken_first (f i).kept (f i).fault _ k)

pub no_row : (f : ℕ → Row) (i n : ℕ) → n ≤ i → first_broken (map f (range_with_len i (n - i))) ≡ None
no_row f i n h = let count : n - i ≡ 0 = omega (arith, h) in rw count

more_any : (p : ℕ → Bool) (a n : ℕ) → list_any p (range_with_len a (suc n)) ≡ cond (p (a + n)) true (list_any p (range_with_len a n))
more_any p a zero = rw (zero_more a) (or_nil (p a))
  where
    zero_more : (a : ℕ) → a + 0 ≡ a
    zero_more a = omega arith

    or_nil : (b : Bool) → (b || false) ≡ cond b true false
    or_nil true = refl
    or_nil false = refl
more_any p a (suc n) = or_last (p a) (p (a + suc n)) (list_any p (range_with_len (a + 1) n)) _ (more_any p (a + 1) n ∙ ap (λ i. cond (p i) true (list_any p (range_with_len (a + 1) n))) (shift a n))
  where
    shift : (a n : ℕ) → a + 1 + n ≡ a + suc n
    shift a n = omega arith

    or_last : (a b c d : Bool) → d ≡ cond b true c → (a || d) ≡ cond b true (a || c)
    or_last true true c d e = refl
    or_last true false c d e = refl
    or_last false b c d e = e

-- the set of the names so far, and one more
pub names_more : (image : List ℕ) (t i : ℕ) (name : List ℕ) (old new : List (List ℕ)) → name ≡ entry_name image t i
    → ((q : List ℕ) → contains (slice_cmp nat_cmp) old q ≡ is_repeated image t i q)
    → ((q : List ℕ) → contains (slice_cmp nat_cmp) new q ≡ cond (is_at (slice_cmp nat_cmp name) q) true (contains (slice_cmp nat_cmp) old q))
    → (q : List ℕ) → contains (slice_cmp nat_cmp) new q ≡ is_repeated image t (i + 1) q
names_more image t i name old new e before after q =
    after q ∙ ap (λ b. cond b true (contains (slice_cmp nat_cmp) old q)) (is_eq-slice_cmp name q ∙ ap (λ n. bytes_eq n q) e) ∙ ap (λ b. cond (bytes_eq (entry_name image t i) q) true b) (before q)
    ∙ sym (rw (one_more i) (more_any (λ j. bytes_eq (entry_name image t j) q) 0 i ∙ ap (λ j. cond (bytes_eq (entry_name image t j) q) true (is_repeated image t i q)) (front i)))
  where
    front : (i : ℕ) → 0 + i ≡ i
    front i = omega arith

    one_more : (i : ℕ) → i + 1 ≡ suc i
    one_more i = omega arith

-- ---- one entry as it is read

-- its name, where it has one and points to a child
pub entry_said : (image : List ℕ) (t i at : ℕ) (bytes : List ℕ) → at ≡ t + 16 + 44 * i → bytes ≡ field image at 44
    → name_said bytes ≡ cond (is_name_field (entry_name image t i) && is_place (entry_pointer image t i)) (Some (entry_name image t i)) None
entry_said image t i at bytes place is = ap name_said is ∙ ap (λ n. cond (is_name_field n && is_place (field (field image at 44) 32 12)) (Some n) None) name ∙ ap (λ p. cond (is_name_field (entry_name image t i) && is_place p) (Some (entry_name image t i)) None) pointer
  where
    name : field (field image at 44) 0 32 ≡ entry_name image t i
    name = inner_field image at 44 0 32 (omega arith) ∙ ap (λ o. field image o 32) (omega arith)

    pointer : field (field image at 44) 32 12 ≡ entry_pointer image t i
    pointer = inner_field image at 44 32 12 (omega arith) ∙ ap (λ o. field image o 12) (omega arith)

out : (a r c : Bool) → (a && c) ≡ false → (a && not r && c) ≡ false
out true true true e = refl
out true false true e = e
out true true false e = refl
out true false false e = refl
out false r c e = refl

again : (a r c : Bool) → r ≡ true → (a && not r && c) ≡ false
again true true c e = refl
again true false c e = cc
again false r c e = refl

first_time : (a r c : Bool) → (a && c) ≡ true → r ≡ false → (a && not r && c) ≡ true
first_time true true c e k = cc
first_time true false c e k = e
first_time false r c e k = e

module _ (image : List ℕ) (t i n : ℕ) (inside : i < n) where
  abbrev pub is_entry : Bool
  is_entry = is_name_field (entry_name image t i) && is_place (entry_pointer image t i)

  pub bad_entry : (rest : Option Fault) → rest ≡ first_broken (map (entry_row image t) (range_with_len i (n - i))) → is_entry ≡ false → rest ≡ Some (record { rule = 24; place = t + 16 + 44 * i })
  bad_entry rest e bad = e ∙ this_row (entry_row image t) i n inside (out (is_name_field (entry_name image t i)) (is_repeated image t i (entry_name image t i)) (is_place (entry_pointer image t i)) bad)

  pub same_entry : (rest : Option Fault) → rest ≡ first_broken (map (entry_row image t) (range_with_len i (n - i))) → is_repeated image t i (entry_name image t i) ≡ true → rest ≡ Some (record { rule = 24; place = t + 16 + 44 * i })
  same_entry rest e repeated = e ∙ this_row (entry_row image t) i n inside (again (is_name_field (entry_name image t i)) (is_repeated image t i (entry_name image t i)) (is_place (entry_pointer image t i)) repeated)

  pub good_entry : (rest : Option Fault) → rest ≡ first_broken (map (entry_row image t) (range_with_len i (n - i))) → is_entry ≡ true → is_repeated image t i (entry_name image t i) ≡ false
      → rest ≡ first_broken (map (entry_row image t) (range_with_len (i + 1) (n - (i + 1))))
  good_entry rest e good new = e ∙ next_row (entry_row image t) i n inside (first_time (is_name_field (entry_name image t i)) (is_repeated image t i (entry_name image t i)) (is_place (entry_pointer image t i)) good new)
