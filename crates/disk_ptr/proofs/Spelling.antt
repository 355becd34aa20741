-- A pointer and its characters determine each other.
use Rattle.std.proofs.Common.{◌≡◌, ℕ, ◌+◌, ◌*◌, ◌≤◌, Some, refl, sym, ◌∙◌, ap, arith}
use Rattle.adf_format.specs.Pointer.{Pointer, pointer, pointer_text, place_value}
use Rattle.adf_format.proofs.HexLaws.{pointer-pointer_text}
use Rattle.disk_ptr.specs.declared.DiskPtr.{DiskPtr}
use Rattle.disk_ptr.specs.declared.DiskPtr.TheVariants.{At}
use Rattle.disk_ptr.specs.View.{view, HasOffset, IsWritable}

-- what is written is read again
pub spelled_again : (p : DiskPtr) → IsWritable p → pointer (pointer_text (view p)) ≡ Some (view p)
spelled_again DiskPtr.Blank w = refl
spelled_again (At block offset) w = pointer-pointer_text (block * 4096 + offset) (omega (arith, w.0, w.1))

same_parts : (a b c d : ℕ) → b ≤ 4095 → d ≤ 4095 → a * 4096 + b ≡ c * 4096 + d → At a b ≡ At c d
same_parts a b c d h k is =
    let block : a ≡ c = omega (arith, h, k, is) in
    let offset : b ≡ d = omega (arith, h, k, is) in
    ap (λ n. At n b) block ∙ ap (At c) offset

-- a pointer is known by the place that it names
pub known_by_place : (p q : DiskPtr) → HasOffset p → HasOffset q → view p ≡ view q → p ≡ q
known_by_place DiskPtr.Blank DiskPtr.Blank h k is = refl
known_by_place DiskPtr.Blank (At block offset) h k is = absurd (cc)
known_by_place (At block offset) DiskPtr.Blank h k is = absurd (cc)
known_by_place (At a b) (At c d) h k is = same_parts a b c d h k (ap (λ (p : Pointer). place_value (Some p)) is)

offset_of : (p : DiskPtr) → IsWritable p → HasOffset p
offset_of DiskPtr.Blank w = tt
offset_of (At block offset) w = w.1

same_some : (p q : Pointer) → ◌≡◌ (Some p) (Some q) → p ≡ q
same_some p q is = cc

-- pointers that differ are written differently
pub apart : (p q : DiskPtr) → IsWritable p → IsWritable q → pointer_text (view p) ≡ pointer_text (view q) → p ≡ q
apart p q w v is = known_by_place p q (offset_of p w) (offset_of q v)
    (same_some (view p) (view q) (sym (spelled_again p w) ∙ ap pointer is ∙ spelled_again q v))
