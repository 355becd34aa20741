-- The free space before and after room is taken, and what stays owned.
use Rattle.std.proofs.Common.{◌≡◌, ◌⊎◌, inl, inr, ℕ, subst, arith, List, [], ◌∷◌, ◌+◌, ◌-◌, ◌<◌, ◌≤◌, Some}
use Rattle.adf_format.specs.declared.types.ExtentKind.{ExtentKind}
use Rattle.adf_format.specs.Tiles.{cover}
use Rattle.adf_format.specs.Tree.{Tree}
use Rattle.adf_format.specs.Placement.{Placement, extent}
use Rattle.adf_format.proofs.HeapLaws.{in_range}
use Rattle.adf_format.proofs.HeapSteps.{take_end}
use Rattle.adf_model.proofs.Creation.PartsApart.{range_in, range_out, cover_all}
use Rattle.adf_model.proofs.Writes.Reaches.{less_or}
use Rattle.tree_laws.proofs.Holding.Steps.{from_layout, once}
use Rattle.file_heap.specs.Beside.{AreBeside}
use Rattle.file_heap.specs.Heap.{FreeSpace, MayGive}
use Rattle.file_heap.proofs.Beside.{all_lists_stay}
use Rattle.file_heap.proofs.Ranges.{cover_kinds}
use Rattle.tree_edits.specs.Rows.{Memory, Means}
use Rattle.tree_edits.specs.Taken.{AreOnce, IsReady, Takes, TakesText}

-- ---- the memory of a file

module _ (image : List ℕ) (tree : Tree) (p : Placement) (memory : Memory) (m : Means image tree p memory) where
  means_once : AreOnce p.heap
  means_once = record {
    once = λ b. let one = once image tree p [] (from_layout image tree p m.laid_out) b in omega (arith, one);
    inside = λ b past. let none = m.laid_out.tiles.inside b past in let all = cover_all tree.wide p b in omega (arith, none, all);
  }

  pub means_ready : IsReady memory.free image
  means_ready = record { threads = m.threads; once = subst AreOnce m.heap means_once }

-- ---- room is taken

module _ (limit n place : ℕ) (was now : FreeSpace) (old new : List ℕ) (t : Takes limit n place was now old new) where
  pub grows : was.heap.end ≤ now.heap.end
  grows = take_end limit n was.heap place now.heap t.taken

  -- a byte of a gap was one of a gap, or lay behind the end
  abbrev added : ℕ → ℕ
  added b = in_range (was.heap.end + 1) (now.heap.end - was.heap.end) b

  each : (b : ℕ) → in_range place n b + cover now.heap.gaps b ≡ added b + cover was.heap.gaps b
  each b = t.covers b

  not_added : (b : ℕ) → b ≤ was.heap.end → added b ≡ 0
  not_added b le = range_out (was.heap.end + 1) (now.heap.end - was.heap.end) b (inl (omega (arith, le)))

  few_added : (b : ℕ) → added b ≤ 1
  few_added b = elim (less_or b (was.heap.end + 1)) [
    | inl lt ↦ let none = not_added b (omega (arith, lt)) in omega (arith, none)
    | inr le ↦ by_end (less_or b (was.heap.end + 1 + (now.heap.end - was.heap.end))) le
  ]
    where
      by_end : (b < was.heap.end + 1 + (now.heap.end - was.heap.end)) ⊎ (was.heap.end + 1 + (now.heap.end - was.heap.end) ≤ b) → was.heap.end + 1 ≤ b → added b ≤ 1
      by_end (inl lt) le = let one = range_in (was.heap.end + 1) (now.heap.end - was.heap.end) b le lt in omega (arith, one)
      by_end (inr past) le = let none = range_out (was.heap.end + 1) (now.heap.end - was.heap.end) b (inr past) in omega (arith, none)

  module _ (o : AreOnce was.heap) where
    one_each : (b : ℕ) → in_range place n b + cover now.heap.gaps b ≤ 1
    one_each b = elim (less_or was.heap.end b) [
      | inl past ↦ let e = each b in let none = o.inside b past in let few = few_added b in omega (arith, e, none, few)
      | inr le ↦ let e = each b in let none = not_added b le in let few = o.once b in omega (arith, e, none, few)
    ]

    none_behind : (b : ℕ) → now.heap.end < b → cover now.heap.gaps b ≡ 0
    none_behind b past =
        let g = grows in
        let e = each b in
        let none = o.inside b (omega (arith, g, past)) in
        let out = range_out (was.heap.end + 1) (now.heap.end - was.heap.end) b (inr (omega (arith, g, past))) in
        omega (arith, e, none, out)

    pub once_after : AreOnce now.heap
    once_after = record { once = λ b. let one = one_each b in omega (arith, one); inside = none_behind }

    -- what was taken lies beside the gaps and the free table
    pub taken_beside : (kind : ExtentKind) → AreBeside (extent kind place n ∷ []) now.heap.gaps
    taken_beside kind = record {
      table = λ b low high. let out = range_out place n b (inl (let w = t.within.0 in omega (arith, w, high))) in omega (arith, out);
      chunks = λ b some. let one = one_each b in let kinds = cover_kinds b now.heap.gaps in omega (arith, one, kinds, some);
    }

    -- and may be given again
    pub taken_may : MayGive place n now.heap
    taken_may = record {
      low = t.within.0;
      high = t.within.1;
      apart = λ b low high. let one = one_each b in let mine = range_in place n b low high in omega (arith, one, mine);
    }

  -- what may be given may be given afterwards, and has no byte of what was taken
  module _ (from many : ℕ) (may : MayGive from many was.heap) where
    own_each : (b : ℕ) → from ≤ b → b < from + many → in_range place n b + cover now.heap.gaps b ≡ 0
    own_each b low high =
        let e = each b in
        let none = may.apart b low high in
        let out = not_added b (let h = may.high in omega (arith, h, high)) in
        omega (arith, e, none, out)

    pub may_after : MayGive from many now.heap
    may_after = record {
      low = may.low;
      high = let g = grows in let h = may.high in omega (arith, g, h);
      apart = λ b low high. let none = own_each b low high in omega (arith, none);
    }

    pub own_apart : (b : ℕ) → from ≤ b → b < from + many → in_range place n b ≡ 0
    own_apart b low high = let none = own_each b low high in omega (arith, none)

-- and a text is written in it
pub ready_after : (limit n place : ℕ) (text : List ℕ) (was now : FreeSpace) (old new : List ℕ) → IsReady was old → TakesText limit n place text was now old new → IsReady now new
ready_after limit n place text was now old new r t =
    let o = once_after limit n place was now old t.0 t.1 r.once in
    record {
      threads = all_lists_stay (extent ExtentKind.Node place n ∷ []) now (Some t.0) (Some new) t.2.only (taken_beside limit n place was now old t.0 t.1 r.once ExtentKind.Node) t.1.threads;
      once = o;
    }
