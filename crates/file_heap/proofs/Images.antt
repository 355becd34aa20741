-- A pointer that was read, where the bytes are told.
use Rattle.std.proofs.Common.{◌≡◌, ℕ, refl, ◌∙◌, ap, List}
use Rattle.std.specs.Prelude.{Option, Some, None}
use Rattle.adf_format.specs.Fields.{field}
use Rattle.adf_format.specs.Pointer.{Pointer, pointer}
use Rattle.adf_format.specs.Parts.{HasPointer}
use Rattle.adf_format.specs.Spelled.{pointer_to}
use Rattle.field_access.specs.Fields.{WhereTold}
use Rattle.file_heap.specs.Links.{Follows, PointsNowhere}

says : (bytes : List ℕ) (at : ℕ) (there : Option ℕ) → HasPointer bytes at there → pointer (field bytes at 12) ≡ Some (pointer_to there)
says bytes at None h = h
says bytes at (Some place) h = h

one_pointer : (a b : Option ℕ) → Some (pointer_to a) ≡ Some (pointer_to b) → a ≡ b
one_pointer None None e = refl
one_pointer None (Some b) e = cc
one_pointer (Some a) None e = cc
one_pointer (Some a) (Some b) e = cc

pub follows : (image : Option (List ℕ)) (at : ℕ) (read : Pointer) (next : Option ℕ) → WhereTold image at 12 (λ text. Some read ≡ pointer text) → pointer_to next ≡ read → Follows image at next
follows None at read next told is = tt
follows (Some bytes) at read next told is = λ there p. one_pointer next there (ap (λ q. Some q) is ∙ told p.within ∙ says bytes at there p.says)

pub points_nowhere : (image : Option (List ℕ)) (at : ℕ) → WhereTold image at 12 (λ text. None ≡ pointer text) → PointsNowhere image at
points_nowhere None at told = tt
points_nowhere (Some bytes) at told = λ there p. clash there (told p.within ∙ says bytes at there p.says)
  where
    clash : (there : Option ℕ) → None ≡ Some (pointer_to there) → ⊥
    clash there e = cc
