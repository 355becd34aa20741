-- Two layouts of one image agree in what the file header says.
use Rattle.std.proofs.Common.{◌≡◌, ℕ, Bool, true, false, List, refl, sym, ◌∙◌, ap, lit≤}
use Rattle.std.specs.Prelude.{Option, Some, cond, codes, bytes_eq}
use Rattle.adf_format.specs.Pointer.{Pointer, To, pointer, place_value}
use Rattle.adf_format.specs.Fields.{field}
use Rattle.adf_format.specs.declared.types.Format.{Format}
use Rattle.adf_format.specs.Tree.{Tree}
use Rattle.adf_format.specs.Parts.{version_letter, format_letter}
use Rattle.adf_format.specs.Placement.{Placement}
use Rattle.adf_format.specs.LaysOut.{LaysOut}
use Rattle.adf_format.specs.FirstFault.{end_in, is_wide}
use Rattle.adf_format.specs.SoundPart.{format_in}
use Rattle.adf_format.proofs.FrameLaws.{field_of_first}

-- ---- what the header records

named : (o : Option Pointer) (a : ℕ) → o ≡ Some (To a) → place_value o ≡ a
named o a e = ap place_value e

-- the end that the header records is that of the placement
pub end_recorded : (image : List ℕ) (tree : Tree) (p : Placement) → LaysOut image tree p → end_in image ≡ p.heap.end
end_recorded image tree p l = named (pointer (field image 146 12)) p.heap.end (ap pointer (sym (field_of_first 12 146 186 image (lit≤ tt))) ∙ l.header.2.end_pointer)

wide_of-letter : (wide : Bool) → bytes_eq (version_letter wide) (codes "W") ≡ wide
wide_of-letter false = refl
wide_of-letter true = refl

format_of-letter : (format : Format) → cond (bytes_eq (format_letter format) (codes "B")) Format.Big Format.Little ≡ format
format_of-letter Format.Little = refl
format_of-letter Format.Big = refl

-- and so are the version and the byte order
pub wide_recorded : (image : List ℕ) (tree : Tree) (p : Placement) → LaysOut image tree p → is_wide image ≡ tree.wide
wide_recorded image tree p l = ap (λ bytes. bytes_eq bytes (codes "W")) (sym (field_of_first 1 25 186 image (lit≤ tt)) ∙ l.header.2.letter) ∙ wide_of-letter tree.wide

pub format_recorded : (image : List ℕ) (tree : Tree) (p : Placement) → LaysOut image tree p → format_in image ≡ tree.format
format_recorded image tree p l = ap (λ bytes. cond (bytes_eq bytes (codes "B")) Format.Big Format.Little) (sym (field_of_first 1 100 186 image (lit≤ tt)) ∙ l.header.2.numbers) ∙ format_of-letter tree.format

-- ---- two layouts

same_place : (o : Option Pointer) (a b : ℕ) → o ≡ Some (To a) → o ≡ Some (To b) → a ≡ b
same_place o a b p q = cc

module _ (image : List ℕ) (t u : Tree) (p q : Placement) (l : LaysOut image t p) (m : LaysOut image u q) where
  pub same_root : l.header.0.header ≡ m.header.0.header
  same_root = same_place (pointer (field (field image 0 186) 134 12)) l.header.0.header m.header.0.header l.header.2.root_pointer m.header.2.root_pointer

  pub same_end : p.heap.end ≡ q.heap.end
  same_end = sym (end_recorded image t p l) ∙ end_recorded image u q m

  pub same_width : t.wide ≡ u.wide
  same_width = sym (wide_recorded image t p l) ∙ wide_recorded image u q m

  pub same_format : t.format ≡ u.format
  same_format = sym (format_recorded image t p l) ∙ format_recorded image u q m
