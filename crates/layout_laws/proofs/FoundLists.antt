-- A head that breaks no rule is spelled, and the free chunks that a walk finds are three threaded lists.
use Rattle.std.proofs.Common.{◌≡◌, inl, inr, ℕ, zero, suc, refl, sym, ◌∙◌, ap, subst, arith, lit≤, List, [], ◌∷◌, ◌++◌, map, filter, get_or, append_assoc, append-nil, ◌+◌, ◌-◌, ◌*◌, ◌≤◌, Bool, true, false, cond}
use Rattle.std.proofs.lemmas.List.{map-append}
use Rattle.std.specs.Bool.{beq}
use Rattle.std.specs.Prelude.{Option, Some, None, Ok, Err, Result, IsTrue, slice_get, ◌||◌, ⊤, codes, bytes_eq}
use Rattle.adf_format.specs.Hex.{is_hex}
use Rattle.adf_format.specs.Pointer.{Pointer, Blank, To, pointer, is_pointer, is_pointer_value, is_blank, is_blank_value, is_place, is_place_value, place_of}
use Rattle.adf_format.specs.Fields.{field, holds}
use Rattle.adf_format.specs.declared.types.Extent.{Extent}
use Rattle.adf_format.specs.declared.types.Format.{Format}
use Rattle.adf_format.specs.Tiles.{is_free, total_length}
use Rattle.adf_format.specs.Parts.{SpellsHeader, IsFramed, HasPointer, version_letter, format_letter}
use Rattle.adf_format.specs.LaysOut.{IsThreaded, ThreadsFreeChunks, HasSameRanges, first_place, last_place}
use Rattle.adf_format.specs.Checks.{Fault, first_broken, Walk, finished, stopped, passed}
use Rattle.adf_format.specs.FirstFault.{Visit, FreeVisit, FreeWalk, free_rows, next_free, free_extent, first_frees, visits_through, chunk_length, is_pointer_to, last_at, head_rows, row_of_length, header_rows, free_table_rows, end_rows, is_wide, end_in, found_extents, count_up, free_rows_at}
use Rattle.adf_format.specs.SoundPart.{format_in}
use Rattle.adf_format.proofs.FieldLaws.{inner_field}
use Rattle.adf_format.proofs.FrameLaws.{field_of_first}
use Rattle.adf_format.proofs.RowLaws.{holds_tells, kept_index}
use Rattle.adf_format.proofs.WalkLaws.{all_kept}
use Rattle.adf_model.proofs.Basics.{and_parts, not_true, or_parts, same_Some, not_there}
use Rattle.adf_model.proofs.Walks.WalkNodes.{Kept}
use Rattle.layout_laws.proofs.Frames.{frame_in}
use Rattle.layout_laws.proofs.HeaderRead.{blank_here, beq_tells}
use Rattle.layout_laws.proofs.HeadRules.{size_row, last_rows, field_row, pair_row, last_some}
use Rattle.layout_laws.proofs.NodeRead.{is_nothing}
use Rattle.layout_laws.proofs.Rows.{le_of, place_tells, pointer_to_tells}
use Rattle.adf_format.proofs.NumberLaws.{left_part, right_part}

-- ---- the file header

letter_of : (bytes : List ℕ) (w : Bool) → holds bytes 25 (codes "W") ≡ w → (holds bytes 25 (codes "A") || holds bytes 25 (codes "W")) ≡ true → field bytes 25 1 ≡ version_letter w
letter_of bytes true e h = holds_tells bytes 25 (codes "W") e
letter_of bytes false e h = elim (or_parts (holds bytes 25 (codes "A")) (holds bytes 25 (codes "W")) h) [ inl k ↦ holds_tells bytes 25 (codes "A") k | inr k ↦ absurd (not_true (sym e ∙ k)) ]

format_of : (bytes : List ℕ) (b : Bool) → holds bytes 100 (66 ∷ []) ≡ b → (holds bytes 100 (codes "L") || holds bytes 100 (codes "B")) ≡ true → field bytes 100 1 ≡ format_letter (cond b Format.Big Format.Little)
format_of bytes true e h = holds_tells bytes 100 (codes "B") e
format_of bytes false e h = elim (or_parts (holds bytes 100 (codes "L")) (holds bytes 100 (codes "B")) h) [ inl k ↦ holds_tells bytes 100 (codes "L") k | inr k ↦ absurd (not_true (sym e ∙ k)) ]

-- a header that breaks none of rules 2 to 7 is spelled
pub header_spelled : (bytes : List ℕ) → Kept (header_rows bytes) → SpellsHeader bytes (holds bytes 25 (codes "W")) (format_in bytes) (place_of (field bytes 134 12)) (place_of (field bytes 146 12))
unfolding header_rows
header_spelled bytes h =
    let what = and_parts _ _ h.0 in
    let begin = and_parts _ _ what.0 in
    let rest = h.1.1.1.1.1.1.1.1 in
    let sizes = left_part (map (size_row bytes) (count_up 12)) (last_rows bytes) rest in
    let pointers = right_part (map (size_row bytes) (count_up 12)) (last_rows bytes) rest in
    record {
      what = holds_tells bytes 0 (codes "@(#)ADF Database Version ") begin.0;
      letter = letter_of bytes (holds bytes 25 (codes "W")) refl begin.1;
      what_end = holds_tells bytes 31 (codes ">") what.1;
      tag_0 = holds_tells bytes 32 (codes "AdF0") h.1.0;
      tag_1 = holds_tells bytes 64 (codes "AdF1") h.1.1.0;
      tag_2 = holds_tells bytes 96 (codes "AdF2") h.1.1.1.0;
      numbers = format_of bytes (holds bytes 100 (66 ∷ [])) refl h.1.1.1.1.1.1.1.0;
      tag_3 = holds_tells bytes 102 (codes "AdF3") h.1.1.1.1.0;
      sizes = λ k lt. subst (λ j. IsTrue (is_hex (field bytes (106 + 2 * j) 2))) (front k) (kept_index (size_row bytes) 0 12 k sizes lt);
      tag_4 = holds_tells bytes 130 (codes "AdF4") h.1.1.1.1.1.0;
      root_pointer = place_tells (field bytes 134 12) pointers.0;
      end_pointer = place_tells (field bytes 146 12) pointers.1.0;
      free_table = pointer_to_tells (field bytes 158 12) 186 pointers.1.1.1.0;
      tag_5 = holds_tells bytes 182 (codes "AdF5") h.1.1.1.1.1.1.0;
    }
  where
    front : (i : ℕ) → 0 + i ≡ i
    front i = omega arith

module _ (image : List ℕ) (head : first_broken (head_rows image) ≡ None) where
  head_parts : Kept (header_rows (field image 0 186)) × Kept (end_rows image)
  unfolding head_rows
  head_parts =
      let all = all_kept (head_rows image) head in
      let front = left_part (row_of_length image ∷ header_rows (field image 0 186)) (end_rows image) all in
      (front.1, right_part (row_of_length image ∷ header_rows (field image 0 186)) (end_rows image) all)

  pub header_found : SpellsHeader (field image 0 186) (is_wide image) (format_in image) (place_of (field image 134 12)) (end_in image)
  header_found =
      subst (λ n. SpellsHeader (field image 0 186) (is_wide image) (format_in image) (place_of (field image 134 12)) n) (ap place_of (field_of_first 12 146 186 image (lit≤ tt)))
      (subst (λ n. SpellsHeader (field image 0 186) (is_wide image) (format_in image) n (place_of (field (field image 0 186) 146 12))) (ap place_of (field_of_first 12 134 186 image (lit≤ tt)))
      (subst (λ f. SpellsHeader (field image 0 186) (is_wide image) f (place_of (field (field image 0 186) 134 12)) (place_of (field (field image 0 186) 146 12))) (ap (λ bs. cond (bytes_eq bs (66 ∷ [])) Format.Big Format.Little) (field_of_first 1 100 186 image (lit≤ tt)))
      (subst (λ b. SpellsHeader (field image 0 186) b (format_in (field image 0 186)) (place_of (field (field image 0 186) 134 12)) (place_of (field (field image 0 186) 146 12))) (ap (λ bs. bytes_eq bs (codes "W")) (field_of_first 1 25 186 image (lit≤ tt)))
      (header_spelled (field image 0 186) head_parts.0))))

  free_table_kept : Kept (free_table_rows 186 (field image 186 80))
  unfolding end_rows
  free_table_kept = head_parts.1.1

  -- what rules 9 to 11 say of one list
  pub record EndsRead (first last : ℕ) : Type 0 where
    pub first_one : is_pointer (field (field image 186 80) first 12) ≡ true
    pub last_one : is_pointer (field (field image 186 80) last 12) ≡ true
    pub both : beq (is_blank (field (field image 186 80) first 12)) (is_blank (field (field image 186 80) last 12)) ≡ true

  pub record FreeTableRead : Type 0 where
    pub opening : field (field image 186 80) 0 4 ≡ codes "fCbt"
    pub closing : field (field image 186 80) 76 4 ≡ codes "Fcte"
    pub small : EndsRead 4 16
    pub medium : EndsRead 28 40
    pub large : EndsRead 52 64

  pub free_table_read : FreeTableRead
  unfolding free_table_rows
  free_table_read =
      let h = free_table_kept in
      let fields = left_part (map (field_row 186 (field image 186 80)) (count_up 6)) (map (pair_row 186 (field image 186 80)) (count_up 3)) h.1.1 in
      let pairs = right_part (map (field_row 186 (field image 186 80)) (count_up 6)) (map (pair_row 186 (field image 186 80)) (count_up 3)) h.1.1 in
      record {
        opening = holds_tells (field image 186 80) 0 (codes "fCbt") h.0;
        closing = holds_tells (field image 186 80) 76 (codes "Fcte") h.1.0;
        small = record { first_one = fields.0; last_one = fields.1.0; both = pairs.0 };
        medium = record { first_one = fields.1.1.0; last_one = fields.1.1.1.0; both = pairs.1.0 };
        large = record { first_one = fields.1.1.1.1.0; last_one = fields.1.1.1.1.1.0; both = pairs.1.1.0 };
      }

abbrev End : Type 0
End = Option ℕ × Option ℕ

same_end : (x y : End) → ◌≡◌ {A = Option End} (Some x) (Some y) → x ≡ y
same_end x y e = cc

three_lists : (bytes : List ℕ) (a b c : End) → HasPointer bytes 4 a.0 × HasPointer bytes 16 a.1 → HasPointer bytes 28 b.0 × HasPointer bytes 40 b.1 → HasPointer bytes 52 c.0 × HasPointer bytes 64 c.1
    → (k : ℕ) (e : End) → slice_get (a ∷ b ∷ c ∷ []) k ≡ Some e → HasPointer bytes (4 + 24 * k) e.0 × HasPointer bytes (16 + 24 * k) e.1
three_lists bytes a b c x y z zero e h = subst (λ (d : End). HasPointer bytes 4 d.0 × HasPointer bytes 16 d.1) (same_end a e h) x
three_lists bytes a b c x y z (suc zero) e h = subst (λ (d : End). HasPointer bytes 28 d.0 × HasPointer bytes 40 d.1) (same_end b e h) y
three_lists bytes a b c x y z (suc (suc zero)) e h = subst (λ (d : End). HasPointer bytes 52 d.0 × HasPointer bytes 64 d.1) (same_end c e h) z
three_lists bytes a b c x y z (suc (suc (suc k))) e h = cc

-- ---- chains of free chunks

abbrev pub first_of : List FreeVisit → List FreeVisit
first_of [] = []
first_of (v ∷ vs) = v ∷ []

pub record FreeRead (image : List ℕ) (v : FreeVisit) : Type 0 where
  pub long : 32 ≤ chunk_length image v.place
  pub framed : IsFramed (field image v.place (chunk_length image v.place)) v.place (chunk_length image v.place) (codes "FreE") (codes "EndC")
  pub points : is_pointer (field image (v.place + 16) 12) ≡ true
  pub last : (is_place (field image (v.place + 16) 12) || is_pointer_to (field image (last_at v.list) 12) v.place) ≡ true

pub free_read : (image : List ℕ) (end nodes : ℕ) (seen : List FreeVisit) (v : FreeVisit) → Kept (free_rows image end nodes seen v) → FreeRead image v
unfolding free_rows_at
free_read image end nodes seen v h =
    let tag = (and_parts _ _ h.0).1 in
    let near = and_parts _ _ h.1.0 in
    let place = and_parts _ _ near.0 in
    let long = le_of (v.place + 32) (place_of (field image (v.place + 4) 12) + 4) place.1 in
    let points = place_tells (field image (v.place + 4) 12) place.0 in
    let tail = tail_at v.place (place_of (field image (v.place + 4) 12)) (chunk_length image v.place) long refl in
    record {
      long = size v.place (place_of (field image (v.place + 4) 12)) (chunk_length image v.place) long refl;
      framed = frame_in image v.place (chunk_length image v.place) (place_of (field image (v.place + 4) 12)) (codes "FreE") (codes "EndC") (over v.place (place_of (field image (v.place + 4) 12)) (chunk_length image v.place) long refl) tail (record {
        starts = holds_tells image v.place (codes "FreE") tag;
        points = points;
        ends = holds_tells image (place_of (field image (v.place + 4) 12)) (codes "EndC") h.1.1.1.0;
      });
      points = h.1.1.0;
      last = h.1.1.1.1.1.0;
    }
  where
    tail_at : (c t n : ℕ) → c + 32 ≤ t + 4 → n ≡ t + 4 - c → t ≡ c + n - 4
    tail_at c t n h e = omega (arith, h, e)

    size : (c t n : ℕ) → c + 32 ≤ t + 4 → n ≡ t + 4 - c → 32 ≤ n
    size c t n h e = omega (arith, h, e)

    over : (c t n : ℕ) → c + 32 ≤ t + 4 → n ≡ t + 4 - c → 20 ≤ n
    over c t n h e = omega (arith, h, e)

-- each names the one behind it, in one list
abbrev pub Chained : List ℕ → ℕ → List FreeVisit → Type 0
Chained image k [] = ⊤
Chained image k (v ∷ vs) = (v.list ≡ k) × FreeRead image v × (next_free image v ≡ first_of vs) × Chained image k vs

abbrev pub AreChains : List ℕ → List FreeVisit → List (List FreeVisit) → Type 0
AreChains image [] [] = ⊤
AreChains image (v ∷ vs) (c ∷ cs) = (first_of c ≡ v ∷ []) × Chained image v.list c × AreChains image vs cs
AreChains image [] (c ∷ cs) = ⊥
AreChains image (v ∷ vs) [] = ⊥

abbrev pub joined : List (List FreeVisit) → List FreeVisit
joined [] = []
joined (c ∷ cs) = c ++ joined cs

abbrev Chains : List ℕ → List FreeVisit → List FreeVisit → Result (List FreeVisit) Fault → Type 0
Chains image todo seen (Ok all) = (chains : List (List FreeVisit)) × AreChains image todo chains × (all ≡ seen ++ joined chains)
Chains image todo seen (Err fault) = ⊤

-- one more before the chains of what it leads to
chain_on : (image : List ℕ) (v : FreeVisit) (rest seen all : List FreeVisit) (bytes : List ℕ) (t : Bool) → is_place bytes ≡ t → next_free image v ≡ visits_through bytes v.list → FreeRead image v → (chains : List (List FreeVisit))
    → AreChains image (cond {A = List FreeVisit} t (record { place = place_of bytes; list = v.list } ∷ []) [] ++ rest) chains → all ≡ (seen ++ v ∷ []) ++ joined chains → Chains image (v ∷ rest) seen (Ok all)
chain_on image v rest seen all bytes false p next r chains h e =
    ((v ∷ []) ∷ chains, (refl, (refl, r, next ∙ ap (λ b. cond b (record { place = place_of bytes; list = v.list } ∷ []) []) p, tt), h), e ∙ append_assoc seen (v ∷ []) (joined chains))
chain_on image v rest seen all bytes true p next r [] h e = absurd h
chain_on image v rest seen all bytes true p next r (c ∷ cs) h e =
    ((v ∷ c) ∷ cs, (refl, (refl, r, next ∙ ap (λ b. cond b (record { place = place_of bytes; list = v.list } ∷ []) []) p ∙ sym h.0, h.1), h.2), e ∙ append_assoc seen (v ∷ []) (c ++ joined cs))

chains : (image : List ℕ) (end nodes : ℕ) {todo seen : List FreeVisit} {outcome : Result (List FreeVisit) Fault} → Walk (free_rows image end nodes) (next_free image) todo seen outcome → Chains image todo seen outcome
chains image end nodes (finished {seen = seen}) = ([], tt, sym (append-nil seen))
chains image end nodes (stopped x) = tt
chains image end nodes (passed {outcome = Err fault} x w) = tt
chains image end nodes (passed {item = item} {rest = rest} {seen = seen} {outcome = Ok all} x w) =
    let later : (cs : List (List FreeVisit)) × AreChains image (next_free image item ++ rest) cs × (all ≡ (seen ++ item ∷ []) ++ joined cs) = chains image end nodes w in
    chain_on image item rest seen all (field image (item.place + 16) 12) (is_place (field image (item.place + 16) 12)) refl refl (free_read image end nodes seen item (all_kept (free_rows image end nodes seen item) x)) later.0 later.1 later.2

-- ---- a chain is a threaded list

abbrev pub extents_in : List ℕ → List FreeVisit → List Extent
extents_in image vs = map (free_extent image) vs

blank_there : (o : Option Pointer) → is_place_value o ≡ false → is_pointer_value o ≡ true → o ≡ Some Blank
blank_there None p q = cc
blank_there (Some Blank) p q = refl
blank_there (Some (To n)) p q = cc

module _ (image : List ℕ) where
  through_tells : (bytes : List ℕ) (offset k : ℕ) (vs : List FreeVisit) → visits_through (field bytes offset 12) k ≡ first_of vs → is_pointer (field bytes offset 12) ≡ true → HasPointer bytes offset (first_place (extents_in image vs))
  through_tells bytes offset k [] e h = by_test (is_place (field bytes offset 12)) refl e
    where
      by_test : (t : Bool) → is_place (field bytes offset 12) ≡ t → cond {A = List FreeVisit} t (record { place = place_of (field bytes offset 12); list = k } ∷ []) [] ≡ [] → pointer (field bytes offset 12) ≡ Some Blank
      by_test false p e = blank_there (pointer (field bytes offset 12)) p h
      by_test true p e = cc
  through_tells bytes offset k (v ∷ vs) e h = by_test (is_place (field bytes offset 12)) refl e
    where
      by_test : (t : Bool) → is_place (field bytes offset 12) ≡ t → cond {A = List FreeVisit} t (record { place = place_of (field bytes offset 12); list = k } ∷ []) [] ≡ v ∷ [] → pointer (field bytes offset 12) ≡ Some (To v.place)
      by_test false p e = cc
      by_test true p e = place_tells (field bytes offset 12) p ∙ ap (λ n. Some (To n)) (ap (λ (xs : List FreeVisit). (get_or xs 0 v).place) e)

  in_chunk : (c l : ℕ) (o : Option ℕ) → 28 ≤ l → HasPointer image (c + 16) o → HasPointer (field image c l) 16 o
  in_chunk c l None le h = ap pointer (inner_field image c l 16 12 le) ∙ h
  in_chunk c l (Some n) le h = ap pointer (inner_field image c l 16 12 le) ∙ h

  threaded : (k : ℕ) (c : List FreeVisit) → Chained image k c → IsThreaded image (extents_in image c)
  threaded k [] h = tt
  threaded k (v ∷ vs) h =
      let r = h.1 in
      let long = r.long in (
        record {
          long = r.long;
          framed = r.framed;
          next_pointer = in_chunk v.place (chunk_length image v.place) (first_place (extents_in image vs)) (omega (arith, long)) (through_tells image (v.place + 16) v.list vs h.2 r.points);
        },
        threaded k vs h.3,
      )

  last_read : (k : ℕ) (c : List FreeVisit) (n : ℕ) → Chained image k c → last_place (extents_in image c) ≡ Some n → pointer (field image (last_at k) 12) ≡ Some (To n)
  last_read k [] n h e = absurd (not_there n e)
  last_read k (v ∷ []) n h e = by_test (is_place (field image (v.place + 16) 12)) refl h.2 h.1.last
    where
      by_test : (t : Bool) → is_place (field image (v.place + 16) 12) ≡ t → cond {A = List FreeVisit} t (record { place = place_of (field image (v.place + 16) 12); list = v.list } ∷ []) [] ≡ [] → (t || is_pointer_to (field image (last_at v.list) 12) v.place) ≡ true → pointer (field image (last_at k) 12) ≡ Some (To n)
      by_test true p f g = cc
      by_test false p f g = ap (λ i. pointer (field image (last_at i) 12)) (sym h.0) ∙ pointer_to_tells (field image (last_at v.list) 12) v.place g ∙ ap (λ m. Some (To m)) (same_Some v.place n e)
  last_read k (v ∷ w ∷ ws) n h e = last_read k (w ∷ ws) n h.3 e

  -- ---- three lists

  record Split (bytes : List ℕ) (k : ℕ) (others : List FreeVisit) (cs : List (List FreeVisit)) : Type 0 where
    chain : List FreeVisit
    rest : List (List FreeVisit)
    first : visits_through bytes k ≡ first_of chain
    chained : Chained image k chain
    more : AreChains image others rest
    whole : joined cs ≡ chain ++ joined rest

  split : (bytes : List ℕ) (k : ℕ) (others : List FreeVisit) (cs : List (List FreeVisit)) → AreChains image (visits_through bytes k ++ others) cs → Split bytes k others cs
  split bytes k others cs h = by_test (is_place bytes) refl cs h
    where
      by_test : (t : Bool) → is_place bytes ≡ t → (cs : List (List FreeVisit)) → AreChains image (cond {A = List FreeVisit} t (record { place = place_of bytes; list = k } ∷ []) [] ++ others) cs → Split bytes k others cs
      by_test false p cs h = record { chain = []; rest = cs; first = ap (λ t. cond {A = List FreeVisit} t (record { place = place_of bytes; list = k } ∷ []) []) p; chained = tt; more = h; whole = refl }
      by_test true p [] h = absurd h
      by_test true p (c ∷ cs) h = record { chain = c; rest = cs; first = ap (λ t. cond {A = List FreeVisit} t (record { place = place_of bytes; list = k } ∷ []) []) p ∙ sym h.0; chained = h.1; more = h.2; whole = refl }

  none_more : (cs : List (List FreeVisit)) → AreChains image [] cs → joined cs ≡ []
  none_more [] h = refl
  none_more (c ∷ cs) h = absurd h

  module _ (head : first_broken (head_rows image) ≡ None) where
    ends_found : (k o q : ℕ) (c : List FreeVisit) → EndsRead image head o q → o + 12 ≤ 80 → q + 12 ≤ 80 → 186 + q ≡ last_at k → visits_through (field image (186 + o) 12) k ≡ first_of c → Chained image k c
        → HasPointer (field image 186 80) o (first_place (extents_in image c)) × HasPointer (field image 186 80) q (last_place (extents_in image c))
    ends_found k o q c ends lo lq at e h = (first, last c first h)
      where
        first : HasPointer (field image 186 80) o (first_place (extents_in image c))
        first = through_tells (field image 186 80) o k c (ap (λ bs. visits_through bs k) (inner_field image 186 80 o 12 lo) ∙ e) ends.first_one

        last : (c : List FreeVisit) → HasPointer (field image 186 80) o (first_place (extents_in image c)) → Chained image k c → HasPointer (field image 186 80) q (last_place (extents_in image c))
        last [] none h = blank_here (pointer (field (field image 186 80) q 12)) ends.last_one (sym (beq_tells (is_blank (field (field image 186 80) o 12)) (is_blank (field (field image 186 80) q 12)) ends.both) ∙ ap is_blank_value none)
        last (v ∷ vs) some h = by_last (last_place (extents_in image (v ∷ vs))) refl
          where
            by_last : (x : Option ℕ) → last_place (extents_in image (v ∷ vs)) ≡ x → HasPointer (field image 186 80) q x
            by_last None f = absurd (not_true (sym (last_some (free_extent image v) (extents_in image vs)) ∙ ap is_nothing f))
            by_last (Some n) f = ap pointer (inner_field image 186 80 q 12 lq) ∙ ap (λ i. pointer (field image i 12)) at ∙ last_read k (v ∷ vs) n h f

    pub threads_found : (nodes : List Visit) (frees : List FreeVisit) (gaps : List Extent) → FreeWalk image nodes (Ok frees) → HasSameRanges (map (free_extent image) frees) (filter is_free gaps) → ThreadsFreeChunks image gaps
    threads_found nodes frees gaps w same =
        let all : (cs : List (List FreeVisit)) × AreChains image (first_frees image) cs × (frees ≡ [] ++ joined cs) = chains image (end_in image) (total_length (found_extents image (is_wide image) nodes)) w in
        let a = split (field image 190 12) 0 (visits_through (field image 214 12) 1 ++ (visits_through (field image 238 12) 2 ++ [])) all.0 all.1 in
        let b = split (field image 214 12) 1 (visits_through (field image 238 12) 2 ++ []) a.rest a.more in
        let c = split (field image 238 12) 2 [] b.rest b.more in
        let table = free_table_read image head in
        let x = ends_found 0 4 16 a.chain table.small (omega arith) (omega arith) refl a.first a.chained in
        let y = ends_found 1 28 40 b.chain table.medium (omega arith) (omega arith) refl b.first b.chained in
        let z = ends_found 2 52 64 c.chain table.large (omega arith) (omega arith) refl c.first c.chained in
        let whole : frees ≡ a.chain ++ (b.chain ++ (c.chain ++ [])) = all.2 ∙ a.whole ∙ ap (λ xs. a.chain ++ xs) (b.whole ∙ ap (λ xs. b.chain ++ xs) (c.whole ∙ ap (λ xs. c.chain ++ xs) (none_more c.rest c.more))) in
        let extents : map (free_extent image) frees ≡ extents_in image a.chain ++ extents_in image b.chain ++ extents_in image c.chain =
        ap (map (free_extent image)) whole ∙ map-append (free_extent image) a.chain (b.chain ++ (c.chain ++ []))
        ∙ ap (λ xs. extents_in image a.chain ++ xs) (map-append (free_extent image) b.chain (c.chain ++ []) ∙ ap (λ xs. extents_in image b.chain ++ map (free_extent image) xs) (append-nil c.chain))
        ∙ sym (append_assoc (extents_in image a.chain) (extents_in image b.chain) (extents_in image c.chain)) in
        record {
          small = extents_in image a.chain;
          medium = extents_in image b.chain;
          large = extents_in image c.chain;
          table = record {
            start_tag = table.opening;
            three = refl;
            lists = three_lists (field image 186 80) (first_place (extents_in image a.chain), last_place (extents_in image a.chain)) (first_place (extents_in image b.chain), last_place (extents_in image b.chain)) (first_place (extents_in image c.chain), last_place (extents_in image c.chain)) x y z;
            end_tag = table.closing;
          };
          each = (threaded 0 a.chain a.chained, threaded 1 b.chain b.chained, threaded 2 c.chain c.chained);
          all = subst (λ xs. HasSameRanges xs (filter is_free gaps)) extents same;
        }
