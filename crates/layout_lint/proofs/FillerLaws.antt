-- Blank bytes, seen in a block.
use Rattle.std.proofs.Common.{◌≡◌, ◌≢◌, ℕ, ◌+◌, ◌-◌, ◌*◌, ◌<◌, ◌≤◌, true, false, List, [], ◌∷◌, length, get_or, take, drop, refl, sym, ◌∙◌, ap, subst, arith, inl, inr}
use Rattle.std.proofs.lemmas.Bool.{cases_lt}
use Rattle.std.proofs.lemmas.List.{get_or-take, get_or-drop}
use Rattle.std.proofs.lemmas.Option.{slice_get-get_or}
use Rattle.std.proofs.lemmas.Slice.Eq.{bytes_eq-Decides}
use Rattle.std.specs.Prelude.{Option, Some, None, codes}
use Rattle.adf_format.specs.Fields.{field, holds}
use Rattle.adf_format.proofs.FrameLaws.{field_step, put_first}
use Rattle.adf_model.proofs.Basics.{false_of}
use Rattle.cg_io.specs.Device.{bytes_at, Gives}
use Rattle.cg_io.proofs.Places.{get_or-bytes_at}
use Rattle.layout_laws.specs.TilePass.{AreBlank}
use Rattle.cg_io.specs.Answers.{Told}
use Rattle.layout_lint.specs.Fillers.{IsHole}
use Rattle.layout_lint.specs.declared.verdict.Halt.{Halt}
use Rattle.layout_lint.specs.declared.verdict.Halt.TheVariants as halt

-- a field of one byte
one_byte : (image : List ℕ) (b : ℕ) → b < length image → field image b 1 ≡ get_or image b 0 ∷ []
one_byte image b lt = field_step image b 0 ∙ ap (λ o. put_first o (field image (b + 1) 0)) (slice_get-get_or image b 0 lt)

pub blank_of : (image : List ℕ) (b : ℕ) → b < length image → get_or image b 0 ≡ 122 → holds image b (codes "z") ≡ true
blank_of image b lt e = (bytes_eq-Decides (field image b 1) (codes "z")).1 (one_byte image b lt ∙ ap (λ x. x ∷ []) e)

pub other_of : (image : List ℕ) (b : ℕ) → b < length image → get_or image b 0 ≢ 122 → holds image b (codes "z") ≡ false
other_of image b lt differ = false_of (holds image b (codes "z")) (λ t. differ (ap (λ xs. get_or xs 0 0) (sym (one_byte image b lt) ∙ (bytes_eq-Decides (field image b 1) (codes "z")).0 t)))

-- a byte of a piece of a block
pub piece_byte : (image block : List ℕ) (n start count at k : ℕ) → block ≡ bytes_at image (n * 4096) 4096 → n * 4096 + start ≡ at → start + count ≤ 4096 → k < count → get_or (take (start + count - start) (drop start block)) k 0 ≡ get_or image (at + k) 0
piece_byte image block n start count at k is place fits lt =
    get_or-take (start + count - start) (drop start block) k 0 (omega arith) ∙ get_or-drop start block k 0 ∙ ap (λ (l : List ℕ). get_or l (start + k) 0) is
    ∙ get_or-bytes_at image (n * 4096) 4096 (start + k) (omega arith) ∙ ap (λ i. get_or image i 0) (omega arith)

gives_told : (held : Option (List ℕ)) (image : List ℕ) (n : ℕ) (block : List ℕ) → held ≡ Some image → Gives held n block → block ≡ bytes_at image (n * 4096) 4096
gives_told None image n block told gives = cc
gives_told (Some bytes) image n block told gives = let same : bytes ≡ image = cc in subst (λ b. block ≡ bytes_at b (n * 4096) 4096) same gives

module _ (held : Option (List ℕ)) (n start count at : ℕ) (block : List ℕ) (gives : Gives held n block) (place : n * 4096 + start ≡ at) (fits : start + count ≤ 4096) where
  abbrev piece : List ℕ
  piece = take (start + count - start) (drop start block)

  pub piece_blank : ((k : ℕ) → k < count → get_or piece k 0 ≡ 122) → Told held (λ image. at + count ≤ length image → AreBlank image at (at + count))
  piece_blank all = λ image told within b low high.
      blank_of image b (omega arith) (ap (λ i. get_or image i 0) (whole b low) ∙ sym (piece_byte image block n start count at (b - at) (gives_told held image n block told gives) place fits (omega arith)) ∙ all (b - at) (omega arith))
    where
      whole : (b : ℕ) → at ≤ b → b ≡ at + (b - at)
      whole b low = omega arith

  pub piece_hole : (k : ℕ) (h : Halt) → k < count → get_or piece k 0 ≢ 122 → ((j : ℕ) → j < k → get_or piece j 0 ≡ 122) → h ≡ halt.Broken (record { rule = 30; place = at + k }) → Told held (λ image. at + count ≤ length image → IsHole image at (at + count) h)
  piece_hole k h lt other before is = λ image told within. subst (IsHole image at (at + count)) (sym is) (
    refl,
    omega arith,
    omega arith,
    (λ b low high. blank_of image b (omega arith) (ap (λ i. get_or image i 0) (whole b low) ∙ sym (piece_byte image block n start count at (b - at) (gives_told held image n block told gives) place fits (omega arith)) ∙ before (b - at) (omega arith))),
    other_of image (at + k) (omega arith) (λ e. other (piece_byte image block n start count at k (gives_told held image n block told gives) place fits lt ∙ e)),
  )
    where
      whole : (b : ℕ) → at ≤ b → b ≡ at + (b - at)
      whole b low = omega arith

-- a blank range and the one behind it
pub blank_on : (held : Option (List ℕ)) (from at next to : ℕ) → next ≤ to → Told held (λ image. to ≤ length image → AreBlank image from at) → Told held (λ image. next ≤ length image → AreBlank image at next) → Told held (λ image. to ≤ length image → AreBlank image from next)
blank_on held from at next to le first then = λ image told within b low high. elim (cases_lt b at) [
  | inl before ↦ first image told within b low before
  | inr behind ↦ then image told (omega arith) b behind high
]

pub hole_on : (held : Option (List ℕ)) (from at next to : ℕ) (h : Halt) → from ≤ at → next ≤ to → Told held (λ image. to ≤ length image → AreBlank image from at) → Told held (λ image. next ≤ length image → IsHole image at next h) → Told held (λ image. to ≤ length image → IsHole image from to h)
hole_on held from at next to (halt.Broken b) low le first then = λ image told within. (let r = then image told (omega arith) in
    (r.0, omega (arith, low, r.1), omega (arith, le, r.2), (λ c a z. elim (cases_lt c at) [ inl before ↦ first image told within c a before | inr behind ↦ r.3 c behind z ]), r.4))
hole_on held from at next to halt.Memory low le first then = λ image told within. tt
hole_on held from at next to halt.Read low le first then = λ image told within. tt
