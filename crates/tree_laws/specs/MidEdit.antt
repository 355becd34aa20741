-- An edit on its way: what the file holds, and which of its bytes were written so far.
use Rattle.std.specs.Prelude.{◌≡◌, ℕ, ◌<◌, ◌≤◌, List, [], ◌∷◌, ◌++◌}
use Rattle.std.specs.List.{AllByRecursion}
use Rattle.adf_format.specs.declared.types.Extent.{Extent}
use Rattle.adf_format.specs.declared.types.ExtentKind.{ExtentKind}
use Rattle.adf_format.specs.Changes.{Writes, heap_fields}
use Rattle.adf_format.specs.HeapBytes.{ChangesOnly, MovesEnd, KeepsFillers}
use Rattle.adf_format.specs.Tree.{Tree}
use Rattle.adf_format.specs.Tiles.{Tiles, cover}
use Rattle.adf_format.specs.Placement.{Placement, Heap, extent}
use Rattle.adf_format.specs.LaysOut.{LaysOut, AreGapsInOrder, ThreadsFreeChunks}
use Rattle.adf_format.specs.HeapRule.{heap_give, after_gives}
use Rattle.adf_model.specs.NodeData.{grown_range}
use Rattle.tree_laws.specs.Holding.{Holds}

-- a text stands at a place, and all other bytes read as before
pub record Puts (kind : ExtentKind) (place n : ℕ) (text old new : List ℕ) : Type 0 where
  pub writes : Writes place text old new
  pub only : ChangesOnly (extent kind place n ∷ []) old new

-- what an edit may write beside the heap's fields: the gaps that it found, what the file grew by, and ranges of its own
abbrev pub room : List Extent → Heap → Heap → List Extent
room ranges before after = before.gaps ++ grown_range before after ∷ ranges

-- Between the file before an edit and now: the tree that is held, with some ranges taken. All that was written so far, and all that is taken or a gap, lies in what the edit may write.
pub record IsMidEdit (ranges : List Extent) (p : Placement) (old : List ℕ) (now : Tree) (q : Placement)
    (taken : List Extent) (new : List ℕ) : Type 0 where
  pub holds : Holds new now q taken
  pub changes : ChangesOnly (heap_fields ++ room ranges p.heap q.heap) old new
  pub within : (b : ℕ) → 0 < cover (taken ++ q.heap.gaps) b → 0 < cover (room ranges p.heap q.heap) b
  pub grows : p.heap.end ≤ q.heap.end

abbrev pub MidBegins : Type 0
MidBegins =
    (ranges : List Extent) (tree : Tree) (p : Placement) (image : List ℕ)
    → LaysOut image tree p → IsMidEdit ranges p image tree p [] image

-- any step that writes what is taken, gaps and ranges of the edit, and takes of these alone
abbrev pub MidGoesOn : Type 0
MidGoesOn =
    (ranges : List Extent) (p : Placement) (old : List ℕ) (now after : Tree) (q r : Placement)
    (taken kept : List Extent) (b c : List ℕ) (written : List Extent)
    → IsMidEdit ranges p old now q taken b → Holds c after r kept → q.heap.end ≤ r.heap.end
    → ChangesOnly (heap_fields ++ written) b c
    → ((k : ℕ) → 0 < cover written k → 0 < cover ((taken ++ q.heap.gaps) ++ ranges) k)
    → ((k : ℕ) → 0 < cover (kept ++ r.heap.gaps) k
    → 0 < cover ((taken ++ q.heap.gaps) ++ grown_range q.heap r.heap ∷ ranges) k)
    → IsMidEdit ranges p old after r kept c

-- the heap takes a range
abbrev pub MidTakes : Type 0
MidTakes =
    (ranges : List Extent) (p : Placement) (old : List ℕ) (now : Tree) (q : Placement) (taken : List Extent)
    (b c : List ℕ) (heap : Heap) (kind : ExtentKind) (place n : ℕ)
    → IsMidEdit ranges p old now q taken b → ChangesOnly (heap_fields ++ q.heap.gaps) b c
    → ((used : List Extent) → Tiles (used ++ q.heap.gaps) q.heap.end → Tiles (extent kind place n ∷ used ++ heap.gaps) heap.end)
    → AreGapsInOrder heap.gaps → MovesEnd q.heap.end heap.end b c
    → KeepsFillers q.heap.gaps heap.gaps b c → ThreadsFreeChunks c heap.gaps → q.heap.end ≤ heap.end
    → IsMidEdit ranges p old now (record q { heap = heap }) (extent kind place n ∷ taken) c

-- a text is written into ranges that were taken
abbrev pub MidWrites : Type 0
MidWrites =
    (ranges : List Extent) (p : Placement) (old : List ℕ) (now : Tree) (q : Placement)
    (taken written : List Extent) (b c : List ℕ)
    → IsMidEdit ranges p old now q taken b → ChangesOnly written b c
    → ((k : ℕ) → 0 < cover written k → 0 < cover taken k) → IsMidEdit ranges p old now q taken c

-- nodes change in ranges of the edit, and in what was taken
abbrev pub MidSwitches : Type 0
MidSwitches =
    (ranges : List Extent) (p : Placement) (old : List ℕ) (now after : Tree) (q r : Placement)
    (taken kept written : List Extent) (b c : List ℕ)
    → IsMidEdit ranges p old now q taken b → Holds c after r kept → r.heap ≡ q.heap → ChangesOnly written b c
    → ((k : ℕ) → 0 < cover written k → 0 < cover (taken ++ ranges) k)
    → ((k : ℕ) → 0 < cover kept k → 0 < cover (taken ++ ranges) k)
    → IsMidEdit ranges p old after r kept c

-- What a gift of a range does to the bytes, read with zeros past their end.
pub record GivesOnly (e : Extent) (heap : Heap) (old new : List ℕ) : Type 0 where
  pub changes : ChangesOnly (heap_fields ++ e ∷ heap.gaps) old new
  pub end : MovesEnd heap.end heap.end old new
  pub fillers : KeepsFillers heap.gaps (heap_give e.place e.length heap).gaps old new
  pub threads : ThreadsFreeChunks new (heap_give e.place e.length heap).gaps

-- ranges are given one after another, in their order
abbrev pub GivesAll : List Extent → Heap → List ℕ → List ℕ → Type 0
GivesAll [] heap old new = new ≡ old
GivesAll (e ∷ es) heap old new =
    (middle : List ℕ) × GivesOnly e heap old middle × GivesAll es (heap_give e.place e.length heap) middle new

-- ranges that were taken are given, in their order
abbrev pub MidGives : Type 0
MidGives =
    (ranges : List Extent) (p : Placement) (old : List ℕ) (now : Tree) (q : Placement) (given taken : List Extent)
    (b c : List ℕ)
    → AllByRecursion (λ (e : Extent). 0 < e.length) given
    → IsMidEdit ranges p old now q (given ++ taken) b → GivesAll given q.heap b c
    → IsMidEdit ranges p old now (after_gives q given) taken c
