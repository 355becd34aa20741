-- What a call leaves that takes one gap out and goes on with the range that it makes with it.
use Rattle.std.proofs.Common.{◌≡◌, ℕ, sym, subst, List, [], ◌∷◌, filter, ◌+◌, ◌≤◌}
use Rattle.std.specs.Prelude.{Option, Some, remove}
use Rattle.cg_io.specs.Blocks.{Both}
use Rattle.adf_format.specs.declared.types.Extent.{Extent}
use Rattle.adf_format.specs.Tiles.{is_free, MeetsNone}
use Rattle.adf_format.specs.HeapRule.{new_gap, give_joined}
use Rattle.gap_tree.specs.declared.slot.Slot.{Slot}
use Rattle.gap_tree.specs.Slots.{gaps_of}
use Rattle.field_access.specs.Fields.{WaitsWithin, WaitsWhereTold}
use Rattle.file_heap.specs.Gaps.{BeginsAt, EndsAt, gap_at, put_by_place, give_right}
use Rattle.file_heap.specs.Heap.{ChangesOnly}
use Rattle.file_heap.specs.Links.{AreGaps, range, free_table}
use Rattle.file_heap.specs.Slots.{BecomeSlots}
use Rattle.file_heap.proofs.HeapFacts.{gaps_apart}
use Rattle.file_heap.proofs.JoinLaws.{rest_gaps, left_join, right_join, left_apart, right_apart}
use Rattle.file_heap.proofs.SpaceLaws.{joined_left, joined_right, joined_changes, joined_waits, alone_waits, joined_become}

pub rest_are : (i : ℕ) (gaps rest : List Extent) → AreGaps gaps → rest ≡ remove gaps i → AreGaps rest
rest_are i gaps rest g left = subst AreGaps (sym left) (rest_gaps gaps i g)

-- the gaps become the same by another name
pub renamed : (becomes after : List Extent) (slots new : List Slot) (a c : Option (List ℕ)) → becomes ≡ after → BecomeSlots becomes slots new a c → BecomeSlots after slots new a c
renamed becomes after slots new a c e h = subst (λ xs. BecomeSlots xs slots new a c) e h

module _ (place n i : ℕ) (gap : Extent) (slots rest : List Slot) (g : AreGaps (gaps_of slots)) (some : 1 ≤ n) (none : MeetsNone place n (gaps_of slots)) (is : gap ≡ gap_at (gaps_of slots) i) (left : gaps_of rest ≡ remove (gaps_of slots) i) where
  -- the gap begins just behind the range
  pub right_clear : BeginsAt (place + n) (gaps_of slots) (Some i) → MeetsNone place (n + gap.length) (gaps_of rest)
  right_clear at =
      subst (λ xs. MeetsNone place (n + gap.length) xs) (sym left)
      (subst (λ (x : Extent). MeetsNone place (n + x.length) (remove (gaps_of slots) i)) (sym is) (right_apart place n i (gaps_of slots) (gaps_apart (gaps_of slots) g).once at.0 at.1 none))

  pub right_changes : (a b c : Option (List ℕ)) → BeginsAt (place + n) (gaps_of slots) (Some i) → Both (ChangesOnly (free_table ∷ filter is_free (gaps_of slots))) a b → Both (ChangesOnly (free_table ∷ range place (n + gap.length) ∷ gaps_of rest)) b c
      → Both (ChangesOnly (free_table ∷ range place n ∷ gaps_of slots)) a c
  right_changes a b c at v w =
      joined_changes place n place (n + (gap_at (gaps_of slots) i).length) i (gaps_of slots) a b c at.0 (joined_right place n (gap_at (gaps_of slots) i) at.1) v
      (subst (λ xs. Both (ChangesOnly (free_table ∷ range place (n + (gap_at (gaps_of slots) i).length) ∷ xs)) b c) left (subst (λ (x : Extent). Both (ChangesOnly (free_table ∷ range place (n + x.length) ∷ gaps_of rest)) b c) is w))

  pub right_waits : (held : Option (List ℕ)) (u v w : List ℕ) → BeginsAt (place + n) (gaps_of slots) (Some i) → WaitsWhereTold held (free_table ∷ filter is_free (gaps_of slots)) u v → WaitsWithin (free_table ∷ range place (n + gap.length) ∷ []) v w
      → WaitsWhereTold held (free_table ∷ range place n ∷ gaps_of slots) u w
  right_waits held u v w at first then =
      joined_waits held place n place (n + (gap_at (gaps_of slots) i).length) i (gaps_of slots) u v w at.0 (joined_right place n (gap_at (gaps_of slots) i) at.1) first
      (alone_waits held place (n + (gap_at (gaps_of slots) i).length) (remove (gaps_of slots) i) v w (subst (λ (x : Extent). WaitsWithin (free_table ∷ range place (n + x.length) ∷ []) v w) is then))

  pub right_given : (new : List Slot) (a b c : Option (List ℕ)) → BeginsAt (place + n) (gaps_of slots) (Some i) → Both (ChangesOnly (free_table ∷ filter is_free (gaps_of slots))) a b
      → BecomeSlots (put_by_place (new_gap place (n + gap.length)) (gaps_of rest)) rest new b c → BecomeSlots (give_right place n (gaps_of slots)) slots new a c
  right_given new a b c at v h =
      joined_become i (put_by_place (new_gap place (n + (gap_at (gaps_of slots) i).length)) (remove (gaps_of slots) i)) (give_right place n (gaps_of slots)) slots rest new a b c g left
      (right_join place n i (gaps_of slots) some g.order none at.0 at.1) v
      (subst (λ xs. BecomeSlots (put_by_place (new_gap place (n + (gap_at (gaps_of slots) i).length)) xs) rest new b c) left
      (subst (λ (x : Extent). BecomeSlots (put_by_place (new_gap place (n + x.length)) (gaps_of rest)) rest new b c) is h))

  -- the gap ends just before the range
  pub left_clear : EndsAt place (gaps_of slots) (Some i) → MeetsNone gap.place (gap.length + n) (gaps_of rest)
  left_clear at =
      subst (λ xs. MeetsNone gap.place (gap.length + n) xs) (sym left)
      (subst (λ (x : Extent). MeetsNone x.place (x.length + n) (remove (gaps_of slots) i)) (sym is) (left_apart place n i (gaps_of slots) (gaps_apart (gaps_of slots) g).once at.0 at.1 none))

  pub left_changed : (a b c : Option (List ℕ)) → EndsAt place (gaps_of slots) (Some i) → Both (ChangesOnly (free_table ∷ filter is_free (gaps_of slots))) a b → Both (ChangesOnly (free_table ∷ range gap.place (gap.length + n) ∷ gaps_of rest)) b c
      → Both (ChangesOnly (free_table ∷ range place n ∷ gaps_of slots)) a c
  left_changed a b c at v w =
      joined_changes place n (gap_at (gaps_of slots) i).place ((gap_at (gaps_of slots) i).length + n) i (gaps_of slots) a b c at.0 (joined_left place n (gap_at (gaps_of slots) i) at.1) v
      (subst (λ xs. Both (ChangesOnly (free_table ∷ range (gap_at (gaps_of slots) i).place ((gap_at (gaps_of slots) i).length + n) ∷ xs)) b c) left
      (subst (λ (x : Extent). Both (ChangesOnly (free_table ∷ range x.place (x.length + n) ∷ gaps_of rest)) b c) is w))

  pub left_waited : (held : Option (List ℕ)) (u v w : List ℕ) → EndsAt place (gaps_of slots) (Some i) → WaitsWhereTold held (free_table ∷ filter is_free (gaps_of slots)) u v
      → WaitsWhereTold held (free_table ∷ range gap.place (gap.length + n) ∷ gaps_of rest) v w → WaitsWhereTold held (free_table ∷ range place n ∷ gaps_of slots) u w
  left_waited held u v w at first then =
      joined_waits held place n (gap_at (gaps_of slots) i).place ((gap_at (gaps_of slots) i).length + n) i (gaps_of slots) u v w at.0 (joined_left place n (gap_at (gaps_of slots) i) at.1) first
      (subst (λ xs. WaitsWhereTold held (free_table ∷ range (gap_at (gaps_of slots) i).place ((gap_at (gaps_of slots) i).length + n) ∷ xs) v w) left
      (subst (λ (x : Extent). WaitsWhereTold held (free_table ∷ range x.place (x.length + n) ∷ gaps_of rest) v w) is then))

  pub left_given : (new : List Slot) (a b c : Option (List ℕ)) → EndsAt place (gaps_of slots) (Some i) → Both (ChangesOnly (free_table ∷ filter is_free (gaps_of slots))) a b
      → BecomeSlots (give_right gap.place (gap.length + n) (gaps_of rest)) rest new b c → BecomeSlots (give_joined place n (gaps_of slots)) slots new a c
  left_given new a b c at v h =
      joined_become i (give_right (gap_at (gaps_of slots) i).place ((gap_at (gaps_of slots) i).length + n) (remove (gaps_of slots) i)) (give_joined place n (gaps_of slots)) slots rest new a b c g left
      (left_join place n i (gaps_of slots) g.order at.0 at.1) v
      (subst (λ xs. BecomeSlots (give_right (gap_at (gaps_of slots) i).place ((gap_at (gaps_of slots) i).length + n) xs) rest new b c) left
      (subst (λ (x : Extent). BecomeSlots (give_right x.place (x.length + n) (gaps_of rest)) rest new b c) is h))
