-- The two parts of a link's text.
use Rattle.std.proofs.Common.{◌≡◌, ℕ, suc, ◌+◌, ◌-◌, ◌<◌, ◌≤◌, Bool, true, false, cond, not, List, [], ◌∷◌, length, take, drop, refl, sym, ◌∙◌, ap, subst, arith, ◌⊎◌, inl, inr}
use Rattle.std.specs.Prelude.{◌==◌, ◌&&◌, ◌||◌, nat_lt, Option, Some, None, MatchOption}
use Rattle.std.specs.List.{list_any, position, position_or_len}
use Rattle.std.proofs.lemmas.Bool.Decides.{nat_tests}
use Rattle.std.proofs.lemmas.List.{take_rest}
use Rattle.adf_model.proofs.Basics.{and_parts, not_true, equal}
use Rattle.adf_format.specs.Links.{file_part, path_part, is_link_file, is_link_path, is_link_text, link_text}
use Rattle.adf_links.specs.LinkParts.{CutsLink}

-- the text is cut at its first `>`, which stands at i
pub record CutAt (text : List ℕ) (i : ℕ) : Type 0 where
  pub within : i < length text
  pub mark : list_any (λ b. b == 62) text ≡ true
  pub file : take i text ≡ file_part text
  pub path : drop (suc i) text ≡ path_part text

abbrev place_in : List ℕ → ℕ
place_in text = position_or_len (λ b. b == 62) text

none_or_cut : (text : List ℕ) → ((place_in text < length text) × CutAt text (place_in text)) ⊎ ((length text ≤ place_in text) × (list_any (λ b. b == 62) text ≡ false))
none_or_cut [] = inr (omega arith, refl)
none_or_cut (b ∷ text) = by_case (b == 62) refl (none_or_cut text)
  where
    Whole : Bool → Type 0
    Whole t = let n = cond (not t) (1 + place_in text) 0 in ((n < suc (length text)) × CutAt (b ∷ text) n) ⊎ ((suc (length text) ≤ n) × ((t || list_any (λ c. c == 62) text) ≡ false))

    cut : (i : ℕ) → (b == 62) ≡ false → CutAt text i → CutAt (b ∷ text) (1 + i)
    cut i e at =
        let n : suc i ≡ 1 + i = omega arith in
        subst (λ (k : ℕ). CutAt (b ∷ text) k) n (record {
          within = omega (arith, at.within);
          mark = ap (λ t. t || list_any (λ c. c == 62) text) e ∙ at.mark;
          file = ap (λ part. b ∷ part) at.file ∙ ap (λ t. cond t [] (b ∷ file_part text)) (sym e);
          path = at.path ∙ ap (λ t. cond t text (path_part text)) (sym e);
        })

    by_case : (t : Bool) → (b == 62) ≡ t → ((place_in text < length text) × CutAt text (place_in text)) ⊎ ((length text ≤ place_in text) × (list_any (λ c. c == 62) text ≡ false)) → Whole t
    by_case true e rest = inl (omega arith, record { within = omega arith; mark = ap (λ t. t || list_any (λ c. c == 62) text) e; file = ap (λ t. cond t [] (b ∷ file_part text)) (sym e); path = ap (λ t. cond t text (path_part text)) (sym e) })
    by_case false e (inl h) = inl (omega (arith, h.0), cut (place_in text) e h.1)
    by_case false e (inr h) = inr (omega (arith, h.0), h.1)

-- the place of the first `>`, or else the text has none
pub mark_of : (text : List ℕ) → MatchOption (position (λ b. b == 62) text) (list_any (λ b. b == 62) text ≡ false) (CutAt text)
mark_of text =
    elim (none_or_cut text) [
      | inl h ↦ let e : nat_lt (place_in text) (length text) ≡ true = grind (arith, nat_tests, h.0) in
          subst (λ (t : Bool). MatchOption (cond t (Some (place_in text)) None) (list_any (λ b. b == 62) text ≡ false) (CutAt text)) (sym e) h.1
      | inr h ↦ let e : nat_lt (place_in text) (length text) ≡ false = grind (arith, nat_tests, h.0) in
          subst (λ (t : Bool). MatchOption (cond t (Some (place_in text)) None) (list_any (λ b. b == 62) text ≡ false) (CutAt text)) (sym e) h.1
    ]

pub no_mark : (text : List ℕ) → None ≡ position (λ b. b == 62) text → is_link_text text ≡ false
no_mark text e =
    let none : list_any (λ b. b == 62) text ≡ false = subst (λ (o : Option ℕ). MatchOption o (list_any (λ b. b == 62) text ≡ false) (CutAt text)) (sym e) (mark_of text) in
    ap (λ t. t && is_link_path (path_part text)) none

pub cut_at : (text : List ℕ) (i : ℕ) → Some i ≡ position (λ b. b == 62) text → CutsLink text i (i + 1)
cut_at text i e =
    let at : CutAt text i = subst (λ (o : Option ℕ). MatchOption o (list_any (λ b. b == 62) text ≡ false) (CutAt text)) (sym e) (mark_of text) in
    let n : i + 1 ≡ suc i = omega arith in
    record { within = omega (arith, at.within); mark = refl; file = at.file; path = ap (λ k. drop k text) n ∙ at.path }

-- where it is cut, the path decides
pub linked_at : (text : List ℕ) (i : ℕ) → Some i ≡ position (λ b. b == 62) text → is_link_text text ≡ is_link_path (take (length text - (i + 1)) (drop (i + 1) text))
linked_at text i e =
    let at : CutAt text i = subst (λ (o : Option ℕ). MatchOption o (list_any (λ b. b == 62) text ≡ false) (CutAt text)) (sym e) (mark_of text) in
    ap (λ t. t && is_link_path (path_part text)) at.mark ∙ ap is_link_path (sym (cut_at text i e).path ∙ sym (take_rest text (i + 1)))

-- ---- parts and whole

pub file_part-link_text : (file path : List ℕ) → is_link_file file ≡ true → file_part (link_text file path) ≡ file
file_part-link_text [] path e = refl
file_part-link_text (b ∷ file) path e =
    let parts = and_parts (not (b == 62)) (is_link_file file) e in
    let other : (b == 62) ≡ false = not_mark (b == 62) parts.0 in
    rw (other) (ap (λ part. b ∷ part) (file_part-link_text file path parts.1))
  where
    not_mark : (t : Bool) → not t ≡ true → t ≡ false
    not_mark true e = sym e
    not_mark false e = refl

-- a text with a `>` is its two parts, joined
pub link_text-parts : (text : List ℕ) → list_any (λ b. b == 62) text ≡ true → link_text (file_part text) (path_part text) ≡ text
link_text-parts [] e = absurd (not_true e)
link_text-parts (b ∷ text) e = by_case (b == 62) refl e (λ h. link_text-parts text h)
  where
    by_case : (t : Bool) → (b == 62) ≡ t → (t || list_any (λ c. c == 62) text) ≡ true → (list_any (λ c. c == 62) text ≡ true → link_text (file_part text) (path_part text) ≡ text) → link_text (cond t [] (b ∷ file_part text)) (cond t text (path_part text)) ≡ b ∷ text
    by_case true m e rest = ap (λ c. c ∷ text) (sym (equal b 62 m))
    by_case false m e rest = ap (λ t. b ∷ t) (rest e)

is_link_file-file_part : (text : List ℕ) → is_link_file (file_part text) ≡ true
is_link_file-file_part [] = refl
is_link_file-file_part (b ∷ text) = by_case (b == 62) refl (is_link_file-file_part text)
  where
    by_case : (t : Bool) → (b == 62) ≡ t → is_link_file (file_part text) ≡ true → is_link_file (cond t [] (b ∷ file_part text)) ≡ true
    by_case true m rest = refl
    by_case false m rest = ap (λ t. not t && is_link_file (file_part text)) m ∙ rest

-- the parts of a link's text are in the grammar
pub parts_linked : (text : List ℕ) → is_link_text text ≡ true → (is_link_file (file_part text) && is_link_path (path_part text)) ≡ true
parts_linked text e =
    ap (λ t. t && is_link_path (path_part text)) (is_link_file-file_part text) ∙ (and_parts (list_any (λ b. b == 62) text) (is_link_path (path_part text)) e).1
