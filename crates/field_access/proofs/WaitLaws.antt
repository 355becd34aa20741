-- Which blocks wait after writes one after another.
use Rattle.std.proofs.Common.{◌≡◌, ℕ, zero, suc, refl, arith, inl, inr, max, List, [], ◌∷◌, ◌++◌, true, ◌+◌, ◌*◌, ◌<◌, ◌≤◌, subst, sym, false}
use Rattle.std.proofs.lemmas.Bool.Decides.{nat_tests}
use Rattle.std.specs.Prelude.{Option, Some, None}
use Rattle.adf_format.specs.declared.types.Extent.{Extent}
use Rattle.adf_format.specs.declared.types.ExtentKind.{ExtentKind}
use Rattle.adf_format.specs.Placement.{extent}
use Rattle.adf_format.specs.Tiles.{cover, end_of, holds_byte}
use Rattle.adf_format.proofs.CountLaws.{none_holds}
use Rattle.adf_format.proofs.HeapSteps.{cover-append}
use Rattle.cg_io.specs.Blocks.{Both}
use Rattle.cg_io.specs.Waits.{IsTouched, WaitsOnly}
use Rattle.field_access.specs.Fields.{AreInBlock, WaitsWithin, WaitsWhereTold, IsWithin, range}

-- ---- ranges in ranges

pub within_self : (xs : List Extent) → IsWithin xs xs
within_self xs b none = none

pub within_then : (xs ys zs : List Extent) → IsWithin xs ys → IsWithin ys zs → IsWithin xs zs
within_then xs ys zs first then b none = first b (then b none)

pub within_none : (ys : List Extent) → IsWithin [] ys
within_none ys b none = refl

-- behind one more
pub within_later : (e : Extent) (xs ys : List Extent) → IsWithin xs ys → IsWithin xs (e ∷ ys)
within_later e xs ys within b none = within b (none_holds e ys b none).1

-- behind the same one
pub within_cons : (e : Extent) (xs ys : List Extent) → IsWithin xs ys → IsWithin (e ∷ xs) (e ∷ ys)
within_cons e xs ys within b none =
    let both = none_holds e ys b none in let off : holds_byte e b ≡ false = both.0 in let rest : cover xs b ≡ 0 = within b both.1 in rw off (omega (arith, rest))

pub within_left : (xs ys : List Extent) → IsWithin xs (xs ++ ys)
within_left xs ys b none = let both = cover-append xs ys b in omega (arith, both, none)

pub within_right : (xs ys : List Extent) → IsWithin ys (xs ++ ys)
within_right xs ys b none = let both = cover-append xs ys b in omega (arith, both, none)

-- both parts in the same
pub within_both : (xs ys zs : List Extent) → IsWithin xs zs → IsWithin ys zs → IsWithin (xs ++ ys) zs
within_both xs ys zs left right b none = let both = cover-append xs ys b in let l = left b none in let r = right b none in omega (arith, both, l, r)

-- a part of a range
pub within_range : (kind : ExtentKind) (at n : ℕ) (e : Extent) → e.place ≤ at → at + n ≤ end_of e → IsWithin (extent kind at n ∷ []) (e ∷ [])
within_range kind at n e low high b none = let off : holds_byte e b ≡ false = (none_holds e [] b none).0 in let out = outside off in rw out
  where
    outside : holds_byte e b ≡ false → holds_byte (extent kind at n) b ≡ false
    outside off = grind (arith, nat_tests)

-- ---- blocks that wait

pub waits_none : (xs : List Extent) (blocks : List ℕ) → WaitsWithin xs blocks blocks
waits_none xs blocks = record { only = λ n waits. inl waits }

pub waits_same : (xs : List Extent) (old new : List ℕ) → new ≡ old → WaitsWithin xs old new
waits_same xs old new same = subst (λ blocks. WaitsWithin xs old blocks) (sym same) (waits_none xs old)

pub waits_then : (xs : List Extent) (old middle new : List ℕ) → WaitsWithin xs old middle → WaitsWithin xs middle new → WaitsWithin xs old new
waits_then xs old middle new first then = record { only = λ n waits. elim (then.only n waits) [ inl was ↦ first.only n was | inr is ↦ inr is ] }

some_in : (ours theirs : ℕ) → (ours ≡ 0 → theirs ≡ 0) → 0 < theirs → 0 < ours
some_in zero theirs none some = let gone = none refl in absurd (omega (arith, gone, some))
some_in (suc ours) theirs none some = omega arith

in_block : (xs ys : List Extent) (n : ℕ) → IsWithin xs ys → AreInBlock xs n → AreInBlock ys n
in_block xs ys n within at = record { byte = at.byte; own = some_in (cover ys at.byte) (cover xs at.byte) (within at.byte) at.own; block = at.block }

pub waits_wider : (xs ys : List Extent) (old new : List ℕ) → IsWithin xs ys → WaitsWithin xs old new → WaitsWithin ys old new
waits_wider xs ys old new within w = record { only = λ n waits. elim (w.only n waits) [ inl was ↦ inl was | inr is ↦ inr (in_block xs ys n within is) ] }

-- a block that a range touches has a byte of it
touched_in : (kind : ExtentKind) (place len n : ℕ) → IsTouched place len n → AreInBlock (extent kind place len ∷ []) n
touched_in kind place len n is = record { byte = byte; own = (let holds = held (omega (arith, is.2)) (omega (arith, is.0, is.1)) in rw holds (omega arith)); block = omega (arith, is.2) }
  where
    byte : ℕ
    byte = max place (n * 4096)

    held : place ≤ byte → byte < place + len → holds_byte (extent kind place len) byte ≡ true
    held low high = grind (arith, nat_tests)

-- one write
pub waits_extent : (kind : ExtentKind) (place len : ℕ) (old new : List ℕ) → WaitsOnly (IsTouched place len) old new → WaitsWithin (extent kind place len ∷ []) old new
waits_extent kind place len old new w = record { only = λ n waits. elim (w n waits) [ inl was ↦ inl was | inr is ↦ inr (touched_in kind place len n is) ] }

pub waits_range : (place len : ℕ) (old new : List ℕ) → WaitsOnly (IsTouched place len) old new → WaitsWithin (range place len ∷ []) old new
waits_range place len old new w = waits_extent ExtentKind.FreeChunk place len old new w

-- ---- where the bytes are told

pub told_waits : (held : Option (List ℕ)) (xs : List Extent) (old new : List ℕ) → WaitsWithin xs old new → WaitsWhereTold held xs old new
told_waits None xs old new w = tt
told_waits (Some bytes) xs old new w = w

pub told_same : (held : Option (List ℕ)) (xs : List Extent) (old new : List ℕ) → new ≡ old → WaitsWhereTold held xs old new
told_same held xs old new same = told_waits held xs old new (waits_same xs old new same)

pub told_wider : (held : Option (List ℕ)) (xs ys : List Extent) (old new : List ℕ) → IsWithin xs ys → WaitsWhereTold held xs old new → WaitsWhereTold held ys old new
told_wider None xs ys old new within w = tt
told_wider (Some bytes) xs ys old new within w = waits_wider xs ys old new within w

pub told_next : (held : Option (List ℕ)) (xs : List Extent) (old middle new : List ℕ) → WaitsWhereTold held xs old middle → WaitsWhereTold held xs middle new → WaitsWhereTold held xs old new
told_next None xs old middle new first then = tt
told_next (Some bytes) xs old middle new first then = waits_then xs old middle new first then

-- bytes that are told before a call are told after it
pub told_before : (R : List ℕ → List ℕ → Type 0) (a b : Option (List ℕ)) (xs : List Extent) (old new : List ℕ) → Both R a b → WaitsWhereTold b xs old new → WaitsWhereTold a xs old new
told_before R None b xs old new both w = tt
told_before R (Some bytes) None xs old new both w = absurd both
told_before R (Some bytes) (Some more) xs old new both w = w

pub told_then : (R : List ℕ → List ℕ → Type 0) (a b : Option (List ℕ)) (xs : List Extent) (old middle new : List ℕ) → Both R a b → WaitsWhereTold a xs old middle → WaitsWhereTold b xs middle new → WaitsWhereTold a xs old new
told_then R a b xs old middle new both first then = told_next a xs old middle new first (told_before R a b xs middle new both then)
