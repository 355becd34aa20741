-- The file header and the free table of a layout break no rule.
use Rattle.std.proofs.Common.{◌≡◌, ℕ, refl, sym, ◌∙◌, ap, subst, arith, List, [], ◌∷◌, length, map, ◌+◌, ◌*◌, ◌<◌, ◌≤◌, Bool, true, false, inl}
use Rattle.std.specs.Bool.{beq}
use Rattle.std.specs.Prelude.{Option, Some, None, nat_le, nat_lt, ◌&&◌, ◌||◌, codes}
use Rattle.adf_format.specs.Hex.{is_hex}
use Rattle.adf_format.specs.Pointer.{is_pointer, is_pointer_value, is_blank, is_blank_value, is_place}
use Rattle.adf_format.specs.Fields.{field, holds}
use Rattle.adf_format.specs.declared.types.Extent.{Extent}
use Rattle.adf_format.specs.declared.types.ExtentKind.{ExtentKind}
use Rattle.adf_format.specs.declared.types.Format.{Format}
use Rattle.adf_format.specs.Tree.{Tree}
use Rattle.adf_format.specs.Parts.{SpellsHeader, SpellsFreeTable, HasPointer, node_length, version_letter, format_letter}
use Rattle.adf_format.specs.Placement.{Placement, extent}
use Rattle.adf_format.specs.LaysOut.{LaysOut, first_place, last_place}
use Rattle.adf_format.specs.Checks.{Row, row, first_broken}
use Rattle.adf_format.specs.FirstFault.{head_rows, header_rows, free_table_rows, end_rows, is_pointer_to, is_wide, end_in, count_up}
use Rattle.adf_format.proofs.SameLayout.{end_recorded, wide_recorded}
use Rattle.adf_model.proofs.Basics.{or_right}
use Rattle.adf_model.proofs.Walks.WalkNodes.{Kept}
use Rattle.layout_laws.proofs.Rows.{kept_none, kept-append, kept_counted, both, of_le, of_lt, holds_of, points_place, pointer_to_of}
use Rattle.layout_laws.proofs.NodeRead.{is_nothing, beq_same}
use Rattle.layout_laws.proofs.NodesStand.{live_fits}

or_left : (a b : Bool) → a ≡ true → (a || b) ≡ true
or_left true b e = refl
or_left false b e = cc

versions : (wide : Bool) (bytes : List ℕ) → field bytes 25 1 ≡ version_letter wide → (holds bytes 25 (codes "A") || holds bytes 25 (codes "W")) ≡ true
versions false bytes e = or_left (holds bytes 25 (codes "A")) (holds bytes 25 (codes "W")) (holds_of bytes 25 (codes "A") e)
versions true bytes e = or_right (holds bytes 25 (codes "A")) (holds bytes 25 (codes "W")) (holds_of bytes 25 (codes "W") e)

formats : (format : Format) (bytes : List ℕ) → field bytes 100 1 ≡ format_letter format → (holds bytes 100 (codes "L") || holds bytes 100 (codes "B")) ≡ true
formats Format.Little bytes e = or_left (holds bytes 100 (codes "L")) (holds bytes 100 (codes "B")) (holds_of bytes 100 (codes "L") e)
formats Format.Big bytes e = or_right (holds bytes 100 (codes "L")) (holds bytes 100 (codes "B")) (holds_of bytes 100 (codes "B") e)

abbrev pub size_row : List ℕ → ℕ → Row
size_row bytes k = row 5 (106 + 2 * k) (is_hex (field bytes (106 + 2 * k) 2))

abbrev pub last_rows : List ℕ → List Row
last_rows bytes = row 6 134 (is_place (field bytes 134 12)) ∷ row 6 146 (is_place (field bytes 146 12)) ∷ row 6 158 (is_place (field bytes 158 12)) ∷ row 7 158 (is_pointer_to (field bytes 158 12) 186) ∷ []

abbrev pub field_row : ℕ → List ℕ → ℕ → Row
field_row base bytes k = row 10 (base + 4 + 12 * k) (is_pointer (field bytes (4 + 12 * k) 12))

abbrev pub pair_row : ℕ → List ℕ → ℕ → Row
pair_row base bytes k = row 11 (base + 4 + 24 * k) (beq (is_blank (field bytes (4 + 24 * k) 12)) (is_blank (field bytes (16 + 24 * k) 12)))

-- a header that is spelled breaks none of rules 2 to 7
pub header_unbroken : (bytes : List ℕ) (wide : Bool) (format : Format) (root end : ℕ) → SpellsHeader bytes wide format root end → Kept (header_rows bytes)
unfolding header_rows
header_unbroken bytes wide format root end s = (
  both (holds bytes 0 (codes "@(#)ADF Database Version ") && (holds bytes 25 (codes "A") || holds bytes 25 (codes "W"))) (holds bytes 31 (codes ">"))
      (both (holds bytes 0 (codes "@(#)ADF Database Version ")) (holds bytes 25 (codes "A") || holds bytes 25 (codes "W")) (holds_of bytes 0 (codes "@(#)ADF Database Version ") s.what) (versions wide bytes s.letter))
      (holds_of bytes 31 (codes ">") s.what_end),
  (
    holds_of bytes 32 (codes "AdF0") s.tag_0,
    (
      holds_of bytes 64 (codes "AdF1") s.tag_1,
      (
        holds_of bytes 96 (codes "AdF2") s.tag_2,
        (
          holds_of bytes 102 (codes "AdF3") s.tag_3,
          (
            holds_of bytes 130 (codes "AdF4") s.tag_4,
            (
              holds_of bytes 182 (codes "AdF5") s.tag_5,
              (
                formats format bytes s.numbers,
                kept-append (map (size_row bytes) (count_up 12)) (last_rows bytes) (kept_counted (size_row bytes) 0 12 (λ i lt. s.sizes (0 + i) (omega (arith, lt))))
                    (points_place (field bytes 134 12) root s.root_pointer, (points_place (field bytes 146 12) end s.end_pointer, (points_place (field bytes 158 12) 186 s.free_table, (pointer_to_of (field bytes 158 12) 186 s.free_table, tt)))),
              ),
            ),
          ),
        ),
      ),
    ),
  ),
)

-- ---- the free table

some_pointer : (bytes : List ℕ) (o : ℕ) (x : Option ℕ) → HasPointer bytes o x → is_pointer (field bytes o 12) ≡ true
some_pointer bytes o None h = ap is_pointer_value h
some_pointer bytes o (Some n) h = ap is_pointer_value h

blank_where : (bytes : List ℕ) (o : ℕ) (x : Option ℕ) → HasPointer bytes o x → is_blank (field bytes o 12) ≡ is_nothing x
blank_where bytes o None h = ap is_blank_value h
blank_where bytes o (Some n) h = ap is_blank_value h

pub last_some : (f : Extent) (fs : List Extent) → is_nothing (last_place (f ∷ fs)) ≡ false
last_some f [] = refl
last_some f (g ∷ gs) = last_some g gs

both_ends : (fs : List Extent) → is_nothing (first_place fs) ≡ is_nothing (last_place fs)
both_ends [] = refl
both_ends (f ∷ fs) = sym (last_some f fs)

abbrev End : Type 0
End = Option ℕ × Option ℕ

-- a free table that is spelled breaks none of rules 9 to 11, where each list has both ends or none
pub free_table_unbroken : (base : ℕ) (bytes : List ℕ) (a b c : End) → SpellsFreeTable bytes (a ∷ b ∷ c ∷ []) → is_nothing a.0 ≡ is_nothing a.1 → is_nothing b.0 ≡ is_nothing b.1 → is_nothing c.0 ≡ is_nothing c.1 → Kept (free_table_rows base bytes)
unfolding free_table_rows
free_table_unbroken base bytes a b c s ha hb hc =
    let x = s.lists 0 a refl in
    let y = s.lists 1 b refl in
    let z = s.lists 2 c refl in (
      holds_of bytes 0 (codes "fCbt") s.start_tag,
      (
        holds_of bytes 76 (codes "Fcte") s.end_tag,
        kept-append (map (field_row base bytes) (count_up 6)) (map (pair_row base bytes) (count_up 3))
            (some_pointer bytes 4 a.0 x.0, (some_pointer bytes 16 a.1 x.1, (some_pointer bytes 28 b.0 y.0, (some_pointer bytes 40 b.1 y.1, (some_pointer bytes 52 c.0 z.0, (some_pointer bytes 64 c.1 z.1, tt))))))
            (ends 4 16 a x.0 x.1 ha, (ends 28 40 b y.0 y.1 hb, (ends 52 64 c z.0 z.1 hc, tt))),
      ),
    )
  where
    ends : (o q : ℕ) (e : End) → HasPointer bytes o e.0 → HasPointer bytes q e.1 → is_nothing e.0 ≡ is_nothing e.1 → beq (is_blank (field bytes o 12)) (is_blank (field bytes q 12)) ≡ true
    ends o q e h k same = beq_same (is_blank (field bytes o 12)) (is_blank (field bytes q 12)) (blank_where bytes o e.0 h ∙ same ∙ sym (blank_where bytes q e.1 k))

module _ (image : List ℕ) (tree : Tree) (p : Placement) (l : LaysOut image tree p) where
  pub end_far : 265 + node_length tree.wide ≤ p.heap.end
  end_far =
      let f = live_fits image tree p l 0 l.header.0 l.header.1 (extent ExtentKind.Node l.header.0.header (node_length tree.wide)) (inl refl) (some tree.wide) in
      let low = f.0 in
      let high = f.1 in
      omega (arith, low, high)
    where
      some : (w : Bool) → 0 < node_length w
      some false = omega arith
      some true = omega arith

  ends_kept : Kept (end_rows image)
  unfolding end_rows
  ends_kept =
      let far : 265 + node_length (is_wide image) ≤ end_in image = subst (λ n. 265 + node_length (is_wide image) ≤ n) (sym (end_recorded image tree p l)) (subst (λ w. 265 + node_length w ≤ p.heap.end) (sym (wide_recorded image tree p l)) end_far) in
      let inside : end_in image < length image = subst (λ n. n < length image) (sym (end_recorded image tree p l)) l.end in (
        both (nat_lt (end_in image) (length image)) (nat_le (265 + node_length (is_wide image)) (end_in image)) (of_lt (end_in image) (length image) inside) (of_le (265 + node_length (is_wide image)) (end_in image) far),
        free_table_unbroken 186 (field image 186 80) _ _ _ l.threads.table (both_ends l.threads.small) (both_ends l.threads.medium) (both_ends l.threads.large),
      )

  -- the head of a layout breaks no rule
  pub head_unbroken : first_broken (head_rows image) ≡ None
  unfolding head_rows
  head_unbroken =
      kept_none (head_rows image) (
        of_le 266 (length image) (let far = end_far in let inside = l.end in omega (arith, far, inside)),
        kept-append (header_rows (field image 0 186)) (end_rows image) (header_unbroken (field image 0 186) tree.wide tree.format l.header.0.header p.heap.end l.header.2) ends_kept,
      )
