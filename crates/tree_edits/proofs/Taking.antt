-- What a take of the heap says, and the text that is written in what was taken.
use Rattle.std.proofs.Common.{◌≡◌, ℕ, subst, List, [], ◌++◌, Option, None, Some}
use Rattle.std.specs.Prelude.{IfSome, Ok}
use Rattle.adf_format.specs.Changes.{heap_fields}
use Rattle.adf_format.specs.HeapBytes.{ChangesOnly, MovesEnd, KeepsFillers}
use Rattle.adf_format.specs.HeapRule.{heap_take}
use Rattle.adf_format.specs.LaysOut.{AreGapsInOrder}
use Rattle.cg_io.specs.Answers.{Then}
use Rattle.cg_io.specs.Blocks.{Both}
use Rattle.file_heap.specs.Heap.{FreeSpace, IsThreaded, IsTakenWithin, TakesOfTiles, TakesCover}
use Rattle.tree_edits.specs.Taken.{Takes, FillsWith, TakesText}

pub takes_bytes : (limit n place : ℕ) (was now : FreeSpace) (old mid : Option (List ℕ)) → heap_take limit n was.heap ≡ Ok (place, now.heap) → IsTakenWithin n now.heap place
    → TakesOfTiles n was.heap now.heap place → TakesCover n was.heap now.heap place → AreGapsInOrder now.heap.gaps → IfSome mid (IsThreaded now)
    → Both (ChangesOnly (heap_fields ++ [] ++ was.heap.gaps)) old mid → Both (MovesEnd was.heap.end now.heap.end) old mid → Both (KeepsFillers was.heap.gaps now.heap.gaps) old mid
    → Both (Takes limit n place was now) old mid
takes_bytes limit n place was now None None taken within tiles covers order threads changes end fillers = tt
takes_bytes limit n place was now None (Some mid) taken within tiles covers order threads changes end fillers = absurd changes
takes_bytes limit n place was now (Some old) None taken within tiles covers order threads changes end fillers = absurd changes
takes_bytes limit n place was now (Some old) (Some mid) taken within tiles covers order threads changes end fillers =
    record { taken = taken; within = within; tiles = tiles; covers = covers; order = order; changes = changes; end = end; fillers = fillers; threads = threads }

pub then_both : (R S : List ℕ → List ℕ → Type 0) (old mid new : Option (List ℕ)) → Both R old mid → Both S mid new → Both (Then R S) old new
then_both R S None None None r s = tt
then_both R S None None (Some new) r s = absurd s
then_both R S None (Some mid) new r s = absurd r
then_both R S (Some old) None new r s = absurd r
then_both R S (Some old) (Some mid) None r s = absurd s
then_both R S (Some old) (Some mid) (Some new) r s = (mid, r, s)

pub taken_text : (limit n m place : ℕ) (was now : FreeSpace) (text : List ℕ) (old mid new : Option (List ℕ)) → n ≡ m → heap_take limit n was.heap ≡ Ok (place, now.heap) → IsTakenWithin n now.heap place
    → TakesOfTiles n was.heap now.heap place → TakesCover n was.heap now.heap place → AreGapsInOrder now.heap.gaps → IfSome mid (IsThreaded now)
    → Both (ChangesOnly (heap_fields ++ [] ++ was.heap.gaps)) old mid → Both (MovesEnd was.heap.end now.heap.end) old mid → Both (KeepsFillers was.heap.gaps now.heap.gaps) old mid
    → Both (FillsWith place m text) mid new → Both (TakesText limit m place text was now) old new
taken_text limit n m place was now text old mid new same taken within tiles covers order threads changes end fillers fills =
    then_both (Takes limit m place was now) (FillsWith place m text) old mid new (subst (λ k. Both (Takes limit k place was now) old mid) same (takes_bytes limit n place was now old mid taken within tiles covers order threads changes end fillers)) fills
