-- The gaps between extents that were passed stand by place and share no byte with these, whether bytes are told or not.
use Rattle.std.proofs.Common.{◌≡◌, ◌⊎◌, inl, inr, ℕ, suc, ◌+◌, ◌-◌, ◌<◌, ◌≤◌, Bool, true, false, List, [], ◌∷◌, filter, length, take, replicate, refl, sym, ◌∙◌, ap, subst, arith}
use Rattle.std.proofs.lemmas.Bool.Decides.{leb_tells}
use Rattle.std.proofs.lemmas.List.{drop-replicate, take-replicate, length-replicate}
use Rattle.std.specs.Prelude.{Some, nat_le, codes}
use Rattle.std.specs.Str.{bytes_eq}
use Rattle.adf_format.specs.declared.types.Extent.{Extent}
use Rattle.adf_format.specs.Tiles.{cover, is_free, is_filler}
use Rattle.adf_format.specs.LaysOut.{IsGap, AreGapsInOrder}
use Rattle.adf_model.proofs.Basics.{not_true}
use Rattle.layout_laws.specs.TilePass.{AreBlank, filled_up}
use Rattle.layout_laws.proofs.FoundLayoutLaws.{filler_is_not_free}
use Rattle.layout_laws.proofs.Ranges.{same_cover}
use Rattle.layout_laws.proofs.TilePassLaws as tiles
use Rattle.layout_lint.specs.Gaps.{AreTiled}
use Rattle.layout_lint.specs.Shapes.{is_used, AreSet}
use Rattle.cg_io.specs.Answers.{Told}
use Rattle.layout_lint.proofs.TilingLaws.{IsAt}

-- ---- bytes that are blank: a pass over them has no hole

unfoldable pub blanks : ℕ → List ℕ
blanks n = replicate n 122

pub blanks_length : (n : ℕ) → length (blanks n) ≡ n
unfolding blanks
blanks_length n = length-replicate n 122

all_blank : (n from to : ℕ) → to ≤ n → AreBlank (blanks n) from to
unfolding blanks
all_blank n from to le = λ b low lt. ap (λ xs. bytes_eq xs (codes "z")) (ap (take 1) (drop-replicate b n 122) ∙ take-replicate 1 (n - b) 122 (omega (arith, low, lt, le)))

pub told_blank : (n from to : ℕ) → Told (Some (blanks n)) (λ image. to ≤ length image → AreBlank image from to)
told_blank n from to = λ image told le.
    let is : blanks n ≡ image = cc in
    subst (λ (bytes : List ℕ). AreBlank bytes from to) is (all_blank n from to (let same = blanks_length n in let h = subst (λ (bytes : List ℕ). to ≤ length bytes) (sym is) le in omega (arith, same, h)))

pub long : (end : ℕ) → end < length (blanks (end + 1))
long end = let h = blanks_length (end + 1) in omega (arith, h)

-- what holds of blank bytes, where these are told
pub plainly : (n end : ℕ) (xs : List Extent) (k reach : ℕ) (gaps : List Extent) → IsAt (blanks n) xs k reach gaps → Told (Some (blanks n)) (λ image. end < length image → IsAt image xs k reach gaps)
plainly n end xs k reach gaps at = λ image told within. let is : blanks n ≡ image = cc in subst (λ (bytes : List ℕ). IsAt bytes xs k reach gaps) is at

-- ---- the gaps

-- what is no free chunk is used
split_used : (xs : List Extent) (b : ℕ) → cover xs b ≡ cover (filter is_free xs) b + cover (filter is_used xs) b
split_used [] b = refl
split_used (x ∷ xs) b = by_test (is_free x) refl (split_used xs b)
  where
    left : (a c d e : ℕ) → a ≡ c + d → e + a ≡ e + c + d
    left a c d e h = omega (arith, h)

    right : (a c d e : ℕ) → a ≡ c + d → e + a ≡ c + (e + d)
    right a c d e h = omega (arith, h)

    by_test : (t : Bool) → is_free x ≡ t → cover xs b ≡ cover (filter is_free xs) b + cover (filter is_used xs) b → cover (x ∷ xs) b ≡ cover (filter is_free (x ∷ xs)) b + cover (filter is_used (x ∷ xs)) b
    by_test true e ih = rw e (left _ _ _ _ ih)
    by_test false e ih = rw e (right _ _ _ _ ih)

-- and of gaps it is a filler
used_gaps : (gaps : List Extent) → AreGapsInOrder gaps → filter is_used gaps ≡ filter is_filler gaps
used_gaps [] o = refl
used_gaps (g ∷ gs) o = by_kind o.0 (used_gaps gs o.2)
  where
    no_filler : is_free g ≡ true → is_filler g ≡ false
    no_filler f = by_test (is_filler g) refl
      where
        by_test : (t : Bool) → is_filler g ≡ t → t ≡ false
        by_test true h = absurd (not_true (sym (filler_is_not_free g h) ∙ f))
        by_test false h = refl

    by_kind : IsGap g → filter is_used gs ≡ filter is_filler gs → filter is_used (g ∷ gs) ≡ filter is_filler (g ∷ gs)
    by_kind (some, inl f) ih = rw (f.0, no_filler f.0) ih
    by_kind (some, inr f) ih = rw (filler_is_not_free g f, f) (ap (λ es. g ∷ es) ih)

module _ (image : List ℕ) (extents : List Extent) (end : ℕ) (gaps : List Extent) (t : AreTiled image extents end gaps) where
  order : AreGapsInOrder gaps
  order = subst AreGapsInOrder (sym t.gaps_are) (tiles.filled_order image t.done t.low t.reach t.before t.passed (end + 1) t.near t.blank)

  fillers : (b n : ℕ) → cover (filter is_filler (filled_up t.before t.reach (end + 1))) b ≡ n → cover (filter is_filler gaps) b ≡ n
  fillers b n e = ap (λ gs. cover (filter is_filler gs) b) t.gaps_are ∙ e

  frees : (b : ℕ) → cover (filter is_free gaps) b ≡ cover (filter is_free t.done) b
  frees b = ap (λ gs. cover (filter is_free gs) b) t.gaps_are ∙ ap (λ es. cover es b) (tiles.filled_frees image t.done t.low t.reach t.before t.passed (end + 1) t.near t.blank)

  gaps_split : (b : ℕ) → cover gaps b ≡ cover (filter is_free gaps) b + cover (filter is_filler gaps) b
  gaps_split b = split_used gaps b ∙ ap (λ es. cover (filter is_free gaps) b + cover es b) (used_gaps gaps order)

  filled_once : (b : ℕ) → b ≤ end → cover t.done b + cover (filter is_filler gaps) b ≡ 1
  filled_once b h = by_place (leb_tells (suc b) t.reach)
    where
      by_place : ((nat_le (suc b) t.reach ≡ true) × (suc b ≤ t.reach)) ⊎ ((nat_le (suc b) t.reach ≡ false) × (t.reach < suc b)) → cover t.done b + cover (filter is_filler gaps) b ≡ 1
      by_place (inl k) = ap (λ n. cover t.done b + n) (fillers b _ (tiles.fillers_before image t.done t.low t.reach t.before t.passed (end + 1) t.near t.blank b (inl k.1))) ∙ t.passed.once b k.1
      by_place (inr k) =
          let g = k.1 in
          let none = t.passed.inside b (omega (arith, g)) in
          let one = fillers b 1 (tiles.fillers_inside image t.done t.low t.reach t.before t.passed (end + 1) t.near t.blank b (omega (arith, g)) (omega (arith, h))) in
          omega (arith, none, one)

  pub set_of : AreSet extents end gaps
  set_of = record { order = order; once = once; beyond = beyond }
    where
      once : (b : ℕ) → b ≤ end → cover (filter is_used extents) b + cover gaps b ≡ 1
      once b h =
          let one = filled_once b h in
          let all = t.same b in
          let free = same_cover (filter is_free extents) (filter is_free t.done) b t.frees in
          let left = split_used extents b in
          let right = gaps_split b in
          let same = frees b in
          omega (arith, one, all, free, left, right, same)

      beyond : (b : ℕ) → end < b → cover gaps b ≡ 0
      beyond b h =
          let near = t.near in
          let before = t.passed.before in
          let none = t.passed.inside b (omega (arith, h, near)) in
          let split = split_used t.done b in
          let gone = fillers b 0 (tiles.fillers_before image t.done t.low t.reach t.before t.passed (end + 1) t.near t.blank b (inr (omega (arith, h))) ∙ t.passed.fillers_end b (omega (arith, h, near, before))) in
          let right = gaps_split b in
          let same = frees b in
          omega (arith, none, split, gone, right, same)
