-- Ranges that were taken: what lies beside them, and what a write there leaves.
use Rattle.std.proofs.Common.{◌≡◌, ◌⊎◌, inl, inr, ℕ, ◌+◌, ◌-◌, ◌<◌, ◌≤◌, arith, List, [], ◌∷◌, ◌++◌, refl}
use Rattle.std.proofs.lemmas.Bool.{cases_lt}
use Rattle.std.proofs.lemmas.Bool.Decides.{nat_tests}
use Rattle.std.specs.Prelude.{Option, IfSome}
use Rattle.std.specs.List.{AllByRecursion}
use Rattle.cg_io.specs.Blocks.{Both, KeepsOutside}
use Rattle.adf_format.specs.declared.types.Extent.{Extent}
use Rattle.adf_format.specs.Tiles.{cover, end_of}
use Rattle.adf_format.specs.Placement.{Heap}
use Rattle.adf_format.specs.Changes.{heap_fields}
use Rattle.adf_format.proofs.HeapLaws.{in_range}
use Rattle.adf_format.proofs.HeapSteps.{cover-append}
use Rattle.adf_model.specs.NodeData.{grown_range}
use Rattle.file_heap.specs.Links.{range}
use Rattle.file_heap.specs.Heap.{FreeSpace, IsThreaded, IsHeap, ChangesOnly, MovesEnd, KeepsFillers, IsTakenWithin, TakesCover}
use Rattle.file_heap.specs.Beside.{AreBeside}
use Rattle.file_heap.proofs.HeapFacts.{once}
use Rattle.file_heap.proofs.Ranges.{cover_kinds}
use Rattle.field_access.specs.Fields.{IsWithin}
use Rattle.field_access.proofs.WriteLaws.{all_changed}
use Rattle.file_heap.proofs.ChangeLaws.{widened, changes_then}
use Rattle.file_heap.proofs.Beside.{all_lists_stay, ends_stay, all_fillers_stay}
use Rattle.adf_data.specs.Growing.{room_of}

-- ---- where gaps and ranges stand

out_before : (g : Extent) (b : ℕ) → b < g.place → in_range g.place g.length b ≡ 0
out_before g b lt = grind (arith, nat_tests)

out_behind : (g : Extent) (b : ℕ) → end_of g ≤ b → in_range g.place g.length b ≡ 0
out_behind g b le = grind (arith, nat_tests)

pub beyond : (es : List Extent) (end b : ℕ) → AllByRecursion (λ (e : Extent). (266 ≤ e.place) × (end_of e ≤ end + 1)) es → end < b → cover es b ≡ 0
beyond [] end b all lt = refl
beyond (e ∷ es) end b all lt =
    let h = out_behind e b (let w = all.0.1 in omega (arith, w, lt)) in
    let ih = beyond es end b all.1 lt in
    let r : cover (e ∷ es) b ≡ in_range e.place e.length b + cover es b = refl in omega (arith, h, ih, r)

pub before_all : (es : List Extent) (end b : ℕ) → AllByRecursion (λ (e : Extent). (266 ≤ e.place) × (end_of e ≤ end + 1)) es → b < 266 → cover es b ≡ 0
before_all [] end b all lt = refl
before_all (e ∷ es) end b all lt =
    let h = out_before e b (let w = all.0.0 in omega (arith, w, lt)) in
    let ih = before_all es end b all.1 lt in
    let r : cover (e ∷ es) b ≡ in_range e.place e.length b + cover es b = refl in omega (arith, h, ih, r)

pub field_bytes : (b : ℕ) → 266 ≤ b → cover heap_fields b ≡ 0
field_bytes b le = grind (arith, nat_tests)

pub ends_before : (end n b : ℕ) → b ≤ end → in_range (end + 1) n b ≡ 0
ends_before end n b le = grind (arith, nat_tests)

pub at_most_one : (p n b : ℕ) → in_range p n b ≤ 1
at_most_one p n b = grind (arith, nat_tests)

pub within_range : (p n b : ℕ) → p ≤ b → b < p + n → in_range p n b ≡ 1
within_range p n b low high = grind (arith, nat_tests)

pub out_of_range : (p n b : ℕ) → in_range p n b ≡ 0 → (b < p) ⊎ (p + n ≤ b)
out_of_range p n b none = elim (cases_lt b p) [
  | inl lt ↦ inl lt
  | inr le ↦ elim (cases_lt b (p + n)) [
    | inl lt ↦ absurd (clash le lt)
    | inr past ↦ inr past
  ]
]
  where
    clash : p ≤ b → b < p + n → ⊥
    clash le lt = let h = within_range p n b le lt in omega (arith, h, none)

-- the fields of the heap and its gaps lie in the room of the heap
pub gaps_inside : (before after : Heap) → IsWithin (heap_fields ++ before.gaps) (room_of before after)
gaps_inside before after b none =
    let s = cover-append heap_fields (grown_range before after ∷ before.gaps) b in
    let g : cover (grown_range before after ∷ before.gaps) b ≡ in_range (before.end + 1) (after.end - before.end) b + cover before.gaps b = refl in
    let t = cover-append heap_fields before.gaps b in omega (arith, none, s, g, t)

pub taken_in_room : (before after : Heap) (old new : Option (List ℕ)) → Both (ChangesOnly (heap_fields ++ before.gaps)) old new → Both (ChangesOnly (room_of before after)) old new
taken_in_room before after old new c = widened (heap_fields ++ before.gaps) (room_of before after) old new (gaps_inside before after) c

-- ---- a range that was taken

module _ (n place : ℕ) (before after : Heap) (is : IsHeap before) (covers : TakesCover n before after place) (within : IsTakenWithin n after place) where
  pub taken : (b : ℕ) → in_range place n b + cover after.gaps b ≡ in_range (before.end + 1) (after.end - before.end) b + cover before.gaps b
  taken b = covers b

  gaps_once : (b : ℕ) → in_range (before.end + 1) (after.end - before.end) b + cover before.gaps b ≤ 1
  gaps_once b = elim (cases_lt b (before.end + 1)) [
    | inl low ↦ (let z = ends_before before.end (after.end - before.end) b (omega (arith, low)) in let o = once before.gaps b is.order in omega (arith, z, o))
    | inr high ↦ (let z = beyond before.gaps before.end b is.within (omega (arith, high)) in let o = at_most_one (before.end + 1) (after.end - before.end) b in omega (arith, z, o))
  ]

  pub beside_gaps : (b : ℕ) → place ≤ b → b < place + n → cover after.gaps b ≡ 0
  beside_gaps b low high = let t = taken b in let o = gaps_once b in let h = within_range place n b low high in omega (arith, t, o, h)

  pub gaps_beside : (b : ℕ) → 0 < cover after.gaps b → in_range place n b ≡ 0
  gaps_beside b some = let t = taken b in let o = gaps_once b in omega (arith, t, o, some)

  alone : (b : ℕ) → cover (range place n ∷ []) b ≡ in_range place n b + 0
  alone b = refl

  pub low_bytes : (b : ℕ) → b < 266 → cover (range place n ∷ []) b ≡ 0
  low_bytes b lt = let z = out_before (range place n) b (let w = within.0 in omega (arith, w, lt)) in let a = alone b in omega (arith, z, a)

  pub beside_chunks : (b : ℕ) → 0 < cover after.gaps b → cover (range place n ∷ []) b ≡ 0
  beside_chunks b some = let z = gaps_beside b some in let a = alone b in omega (arith, z, a)

  pub beside_lists : AreBeside (range place n ∷ []) after.gaps
  beside_lists = record {
    table = λ b low high. low_bytes b (omega (arith, high));
    chunks = λ b some. beside_chunks b (let k = cover_kinds b after.gaps in omega (arith, k, some));
  }

  pub in_room : IsWithin (range place n ∷ []) (room_of before after)
  in_room b none =
      let s = cover-append heap_fields (grown_range before after ∷ before.gaps) b in
      let g : cover (grown_range before after ∷ before.gaps) b ≡ in_range (before.end + 1) (after.end - before.end) b + cover before.gaps b = refl in
      let t = taken b in let a = alone b in omega (arith, none, s, g, t, a)

  -- what is taken and written lies in the room of the heap
  pub written_in_room : (old middle new : Option (List ℕ)) → Both (ChangesOnly (heap_fields ++ before.gaps)) old middle → Both (KeepsOutside place n) middle new → Both (ChangesOnly (room_of before after)) old new
  written_in_room old middle new takes writes =
      changes_then (room_of before after) old middle new (taken_in_room before after old middle takes)
      (widened (range place n ∷ []) (room_of before after) middle new in_room (all_changed place n middle new writes))

-- the lists, the end pointer and the fillers stay where the range alone is written
module _ (n place : ℕ) (before : Heap) (after : FreeSpace) (is : IsHeap before) (covers : TakesCover n before after.heap place) (within : IsTakenWithin n after.heap place)
    (old new : Option (List ℕ)) (writes : Both (KeepsOutside place n) old new) (threads : IfSome old (IsThreaded after)) where
  changes : Both (ChangesOnly (range place n ∷ [])) old new
  changes = all_changed place n old new writes

  pub threads_stay : IfSome new (IsThreaded after)
  threads_stay = all_lists_stay (range place n ∷ []) after old new changes (beside_lists n place before after.heap is covers within) threads

  pub end_stays : Both (MovesEnd after.heap.end after.heap.end) old new
  end_stays = ends_stay (range place n ∷ []) after after.heap.end old new changes (λ b low high. low_bytes n place before after.heap is covers within b (omega (arith, high))) threads

  pub fillers_stay : Both (KeepsFillers after.heap.gaps after.heap.gaps) old new
  fillers_stay = all_fillers_stay (range place n ∷ []) after.heap.gaps old new changes (λ b some. beside_chunks n place before after.heap is covers within b (let k = cover_kinds b after.heap.gaps in omega (arith, k, some)))
