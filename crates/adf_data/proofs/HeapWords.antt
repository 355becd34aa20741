-- What the calls of the heap say, in the words of this crate.
use Rattle.std.proofs.Common.{◌≡◌, ℕ, ◌≤◌, List, subst, ap, arith}
use Rattle.std.specs.Prelude.{Option, None, Some, Result, Ok, Err, IfOk, IfSome, OnErr}
use Rattle.cg_io.specs.Blocks.{Both}
use Rattle.cg_io.specs.Answers.{IsRefusal}
use Rattle.cg_io.proofs.ReadLaws.{rose_later}
use Rattle.adf_format.specs.declared.types.Extent.{Extent}
use Rattle.adf_model.specs.declared.error.AdfError.{AdfError}
use Rattle.adf_model.specs.declared.error.AdfError.TheVariants as error
use Rattle.file_heap.specs.Heap as heap
use Rattle.adf_format.specs.Placement.{Heap}
use Rattle.adf_format.specs.HeapRule.{heap_take}
use Rattle.adf_format.proofs.HeapSteps.{take_end}

-- ---- takes

pub takes_ok : (limit n : ℕ) (old new : Heap) (r : Result ℕ AdfError) → heap.TakesBy limit n old r new → IfOk r (λ place. heap_take limit n old ≡ Ok (place, new))
takes_ok limit n old new (Ok place) t = t
takes_ok limit n old new (Err e) t = tt

pub takes_full : (limit n : ℕ) (old new : Heap) (r : Result ℕ AdfError) → heap.TakesBy limit n old r new → (asked end : ℕ) → r ≡ Err (error.Full asked end) → heap_take limit n old ≡ Err (record { asked = asked; end = end })
takes_full limit n old new r t asked end e = (subst (λ (q : Result ℕ AdfError). heap.TakesBy limit n old q new) e t).0

none_taken : (limit n : ℕ) (old new : Heap) (e : AdfError) → heap.TakesBy limit n old (Err e) new → new ≡ old
none_taken limit n old new (error.Full asked end) t = t.1
none_taken limit n old new other t = t.1

pub takes_none : (limit n : ℕ) (old new : Heap) (r : Result ℕ AdfError) → heap.TakesBy limit n old r new → OnErr r (new ≡ old)
takes_none limit n old new (Ok place) t = tt
takes_none limit n old new (Err e) t = none_taken limit n old new e t

none_falls : (limit n : ℕ) (old new : Heap) (e : AdfError) → heap.TakesBy limit n old (Err e) new → old.end ≤ new.end
none_falls limit n old new e t = let s = ap (λ (h : Heap). h.end) (none_taken limit n old new e t) in omega (arith, s)

pub takes_grow : (limit n : ℕ) (old new : Heap) (r : Result ℕ AdfError) → heap.TakesBy limit n old r new → old.end ≤ new.end
takes_grow limit n old new (Ok place) t = take_end limit n old place new t
takes_grow limit n old new (Err e) t = none_falls limit n old new e t

-- ---- the end pointer and the fillers over one call after another

pub end_then : (a b c : ℕ) (old middle new : Option (List ℕ)) → Both (heap.MovesEnd a b) old middle → Both (heap.MovesEnd b c) middle new → Both (heap.MovesEnd a c) old new
end_then a b c None None None f g = tt
end_then a b c None None (Some new) f g = g
end_then a b c None (Some middle) new f g = absurd f
end_then a b c (Some old) None new f g = absurd f
end_then a b c (Some old) (Some middle) None f g = g
end_then a b c (Some old) (Some middle) (Some new) f g = λ points. g (f points)

pub end_none : (a : ℕ) (image : Option (List ℕ)) → Both (heap.MovesEnd a a) image image
end_none a None = tt
end_none a (Some bytes) = λ points. points

pub fillers_then : (a b c : List Extent) (old middle new : Option (List ℕ)) → Both (heap.KeepsFillers a b) old middle → Both (heap.KeepsFillers b c) middle new → Both (heap.KeepsFillers a c) old new
fillers_then a b c None None None f g = tt
fillers_then a b c None None (Some new) f g = g
fillers_then a b c None (Some middle) new f g = absurd f
fillers_then a b c (Some old) None new f g = absurd f
fillers_then a b c (Some old) (Some middle) None f g = g
fillers_then a b c (Some old) (Some middle) (Some new) f g = λ held. g (f held)

pub fillers_none : (a : List Extent) (image : Option (List ℕ)) → Both (heap.KeepsFillers a a) image image
fillers_none a None = tt
fillers_none a (Some bytes) = λ held. held

-- ---- causes of a call that takes

pub grow_later : (P Q : Type 0) (a b c : ℕ) (e : AdfError) → a ≤ b → (P → Q) → IsRefusal P b c e → heap.IsTakeRefusal Q a c e
grow_later P Q a b c (error.Full asked end) le f h = tt
grow_later P Q a b c error.Memory le f h = h
grow_later P Q a b c error.ReadFault le f h = rose_later a b c le h
grow_later P Q a b c (error.Layout rule place) le f h = (h.0, f h.1)
grow_later P Q a b c other le f h = h

pub grown_later : (P Q : Type 0) (a b c : ℕ) (e : AdfError) → a ≤ b → (P → Q) → heap.IsTakeRefusal P b c e → heap.IsTakeRefusal Q a c e
grown_later P Q a b c (error.Full asked end) le f h = tt
grown_later P Q a b c error.Memory le f h = h
grown_later P Q a b c error.ReadFault le f h = rose_later a b c le h
grown_later P Q a b c (error.Layout rule place) le f h = (h.0, f h.1)
grown_later P Q a b c other le f h = h

-- ---- relations of bytes beside one another

pub record PairOf (P Q : Type 0) : Type 0 where
  pub one : P
  pub two : Q

pub both_and : (R S : List ℕ → List ℕ → Type 0) (a b : Option (List ℕ)) → Both R a b → Both S a b → Both (λ old new. PairOf (R old new) (S old new)) a b
both_and R S None None r s = tt
both_and R S None (Some new) r s = r
both_and R S (Some old) None r s = r
both_and R S (Some old) (Some new) r s = record { one = r; two = s }

pub both_told : (R : List ℕ → List ℕ → Type 0) (P : List ℕ → Type 0) (a b : Option (List ℕ)) → Both R a b → IfSome b P → Both (λ old new. PairOf (R old new) (P new)) a b
both_told R P None None r p = tt
both_told R P None (Some new) r p = r
both_told R P (Some old) None r p = r
both_told R P (Some old) (Some new) r p = record { one = r; two = p }
