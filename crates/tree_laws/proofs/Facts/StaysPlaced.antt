-- Takes and then gives keep the tiling and the order of gaps, and add no pair of gaps that touch.
use Rattle.std.proofs.Common.{◌≡◌, inl, inr, ℕ, sym, ◌∙◌, ap, subst, arith, List, [], ◌∷◌, ◌+◌, ◌-◌, ◌<◌, ◌≤◌, ◌⊎◌, Bool, true, false}
use Rattle.std.proofs.lemmas.Bool.Decides.{nat_tests, leb_tells}
use Rattle.adf_format.specs.declared.types.Extent.{Extent}
use Rattle.std.specs.Prelude.{nat_le, Ok}
use Rattle.adf_format.specs.Tree.{Tree}
use Rattle.adf_format.specs.Tiles.{Tiles, cover, MeetsNone}
use Rattle.adf_format.specs.Placement.{Placement, Heap, all_extents}
use Rattle.adf_format.specs.LaysOut.{AreGapsInOrder}
use Rattle.adf_format.specs.HeapRule.{heap_give, give_all, pairs}
use Rattle.adf_format.proofs.BehindEnd.{AllLong}
use Rattle.adf_format.proofs.HeapLaws.{in_range, join_range, cover-give_joined}
use Rattle.adf_format.proofs.HeapSteps.{cover-take, take_end, take_keeps_order, give_keeps_order}
use Rattle.adf_model.specs.declared.tree.Edit.{Edit}
use Rattle.adf_model.specs.Edits.{Work, file_group}
use Rattle.adf_model.specs.FileGroup.{done_by}
use Rattle.adf_model.proofs.Writes.DataRoom.{cover-give_all, end-give_all}
use Rattle.adf_model.proofs.Creation.PartsApart.{range_in, cover_all}
use Rattle.tree_laws.specs.Placed.{TakesAll, TakesThenGives, StaysPlaced, EditStaysPlaced, GroupStaysPlaced}
use Rattle.tree_laws.proofs.Groups.GroupsGrow.{step_reaches, group_is_done}
use Rattle.tree_laws.proofs.Groups.GroupLeft.{group_keeps_format}
use Rattle.tree_laws.proofs.Facts.EditsTakeThenGive.{edit_takes_then_gives}

-- ---- takes one after another

-- what takes leave of the gaps, and the bytes by which the end grew
record AfterTakes (taken : List Extent) (before after : Heap) : Type 0 where
  rise : before.end ≤ after.end
  order : AreGapsInOrder after.gaps
  fewer : pairs after.gaps ≤ pairs before.gaps
  room : (b : ℕ) → cover before.gaps b + in_range (before.end + 1) (after.end - before.end) b ≡ cover taken b + cover after.gaps b

after_takes : (limit : ℕ) (taken : List Extent) (before after : Heap) → AllLong taken → AreGapsInOrder before.gaps → TakesAll limit taken before after → AfterTakes taken before after
after_takes limit [] before after long order t = subst (λ (h : Heap). AfterTakes [] before h) (sym t) (record {
  rise = omega arith;
  order = order;
  fewer = omega arith;
  room = λ b. let none : in_range (before.end + 1) (before.end - before.end) b ≡ 0 = nothing (before.end + 1) (before.end - before.end) b (omega arith) in omega (arith, none);
})
  where
    nothing : (p n b : ℕ) → n ≡ 0 → in_range p n b ≡ 0
    nothing p n b e = grind (arith, nat_tests)
after_takes limit (e ∷ taken) before after long order t =
    let one = take_keeps_order limit e.length before e.place t.0 long.0 order t.1 in
    let up = take_end limit e.length before e.place t.0 t.1 in
    let rest = after_takes limit taken t.0 after long.1 one.0 t.2 in
    record {
      rise = (let a = rest.rise in omega (arith, up, a));
      order = rest.order;
      fewer = (let a = rest.fewer in let b = one.1 in omega (arith, a, b));
      room = λ b.
          let first = cover-take limit e.length before e.place t.0 t.1 b in
          let later = rest.room b in
          let again = rest.rise in
          let row : in_range (before.end + 1) (after.end - before.end) b ≡ in_range (before.end + 1) (t.0.end - before.end) b + in_range (t.0.end + 1) (after.end - t.0.end) b =
          ap (λ n. in_range (before.end + 1) n b) (omega (arith, up, again))
          ∙ join_range (before.end + 1) (t.0.end - before.end) (after.end - t.0.end) b
          ∙ ap (λ n. in_range (before.end + 1) (t.0.end - before.end) b + in_range n (after.end - t.0.end) b) (omega (arith, up)) in
          omega (arith, first, later, row);
    }

-- ---- gives one after another

after_gifts : (given : List Extent) (heap : Heap) → AllLong given → AreGapsInOrder heap.gaps → ((b : ℕ) → cover given b + cover heap.gaps b ≤ 1) → AreGapsInOrder (give_all given heap).gaps × (pairs (give_all given heap).gaps ≤ pairs heap.gaps)
after_gifts [] heap long order once = (order, omega arith)
after_gifts (e ∷ given) heap long order once =
    let apart : MeetsNone e.place e.length heap.gaps = λ b low high. let one = once b in let own = range_in e.place e.length b low high in omega (arith, one, own) in
    let one = give_keeps_order e.place e.length heap long.0 order apart in
    let rest = after_gifts given (heap_give e.place e.length heap) long.1 one.0 (λ b. let all = once b in let given_now = cover-give_joined e.place e.length heap.gaps b in omega (arith, all, given_now)) in
    (rest.0, let a = rest.1 in let b = one.1 in omega (arith, a, b))

-- ---- both

below_range : (p n b : ℕ) → b < p → in_range p n b ≡ 0
below_range p n b h = grind (arith, nat_tests)

in_new_range : (first last b : ℕ) → first < b → b ≤ last → in_range (first + 1) (last - first) b ≡ 1
in_new_range first last b low high = grind (arith, nat_tests)

past_range : (first last b : ℕ) → first ≤ last → last < b → in_range (first + 1) (last - first) b ≡ 0
past_range first last b le h = grind (arith, nat_tests)

most_once : (p n b : ℕ) → in_range p n b ≤ 1
most_once p n b = grind (arith, nat_tests)

module _ (limit : ℕ) (wide : Bool) (p q : Placement) (tiles : Tiles (all_extents wide p) p.heap.end) (order : AreGapsInOrder p.heap.gaps) (t : TakesThenGives limit wide p q) where
  takes : AfterTakes t.taken p.heap t.between
  takes = after_takes limit t.taken p.heap t.between t.some.0 order t.takes

  same_end : q.heap.end ≡ t.between.end
  same_end = ap (λ (h : Heap). h.end) t.gives ∙ end-give_all t.given t.between

  -- of each byte: what was there, and the bytes by which the end grew
  each_byte : (b : ℕ) → cover (all_extents wide q) b ≡ cover (all_extents wide p) b + in_range (p.heap.end + 1) (t.between.end - p.heap.end) b
  each_byte b =
      let now = cover_all wide q b in
      let was = cover_all wide p b in
      let parts = t.parts b in
      let room = takes.room b in
      let gifts = ap (λ (h : Heap). cover h.gaps b) t.gives ∙ cover-give_all t.given t.between b in
      omega (arith, now, was, parts, room, gifts)

  once : (b : ℕ) → cover t.given b + cover t.between.gaps b ≤ 1
  once b =
      let was = cover_all wide p b in
      let parts = t.parts b in
      let room = takes.room b in
      let all : cover (all_extents wide p) b + in_range (p.heap.end + 1) (t.between.end - p.heap.end) b ≤ 1 = by_end (leb_tells b p.heap.end) in
      omega (arith, was, parts, room, all)
    where
      by_end : ((nat_le b p.heap.end ≡ true) × (b ≤ p.heap.end)) ⊎ ((nat_le b p.heap.end ≡ false) × (p.heap.end < b)) → cover (all_extents wide p) b + in_range (p.heap.end + 1) (t.between.end - p.heap.end) b ≤ 1
      by_end (inl up) = let one = tiles.once b up.1 in let none = below_range (p.heap.end + 1) (t.between.end - p.heap.end) b (let u = up.1 in omega (arith, u)) in omega (arith, one, none)
      by_end (inr past) = let zero_there = tiles.inside b past.1 in let most = most_once (p.heap.end + 1) (t.between.end - p.heap.end) b in omega (arith, zero_there, most)

  gifts_left : AreGapsInOrder (give_all t.given t.between).gaps × (pairs (give_all t.given t.between).gaps ≤ pairs t.between.gaps)
  gifts_left = after_gifts t.given t.between t.some.1 takes.order once

  pub so_placed : StaysPlaced wide p q
  so_placed = record {
    tiles = record {
      once = λ b le. by_place b (let e = same_end in omega (arith, e, le)) (leb_tells b p.heap.end);
      inside = λ b past.
          let all = each_byte b in
          let up = takes.rise in
          let none = tiles.inside b (let e = same_end in omega (arith, e, past, up)) in
          let grown = past_range p.heap.end t.between.end b up (let e = same_end in omega (arith, e, past)) in
          omega (arith, all, none, grown);
    };
    order = subst (λ (h : Heap). AreGapsInOrder h.gaps) (sym t.gives) gifts_left.0;
    pairs = subst (λ (h : Heap). pairs h.gaps ≤ pairs p.heap.gaps) (sym t.gives) (let a = gifts_left.1 in let b = takes.fewer in omega (arith, a, b));
    end = (let e = same_end in let up = takes.rise in omega (arith, e, up));
  }
    where
      by_place : (b : ℕ) → b ≤ t.between.end → ((nat_le b p.heap.end ≡ true) × (b ≤ p.heap.end)) ⊎ ((nat_le b p.heap.end ≡ false) × (p.heap.end < b)) → cover (all_extents wide q) b ≡ 1
      by_place b le (inl up) =
          let all = each_byte b in
          let one = tiles.once b up.1 in
          let none = below_range (p.heap.end + 1) (t.between.end - p.heap.end) b (let u = up.1 in omega (arith, u)) in
          omega (arith, all, one, none)
      by_place b le (inr past) =
          let all = each_byte b in
          let none = tiles.inside b past.1 in
          let one = in_new_range p.heap.end t.between.end b past.1 le in
          omega (arith, all, none, one)

pub edit_stays_placed : EditStaysPlaced
edit_stays_placed limit image tree after p q edit l reached made placed = so_placed limit tree.wide p q l.tiles l.gaps (edit_takes_then_gives limit image tree after p q edit l reached made placed)

-- a group keeps the version of its tree
width : (writable : Bool) (edits : List Edit) (tree : Tree) (work : Work) → file_group writable tree edits ≡ Ok work → work.tree.wide ≡ tree.wide
width writable edits tree work made =
    let done = group_is_done writable tree edits work made in
    ap (λ (t : Tree). t.wide) (sym done.0) ∙ (group_keeps_format tree (done_by writable tree edits) done.2).0

-- after one more edit of a group
pub group_stays_placed : GroupStaysPlaced
group_stays_placed limit writable edits edit tree p work after q r a b c g first w =
    let step = step_reaches writable work.tree after edit w.made in
    let last = edit_stays_placed limit b work.tree after q r edit g.laid_out step.0 step.1 w.placed in
    let same = width writable edits tree work g.made in
    record {
      tiles = subst (λ wide. Tiles (all_extents wide r) r.heap.end) same last.tiles;
      order = last.order;
      pairs = (let x = first.pairs in let y = last.pairs in omega (arith, x, y));
      end = (let x = first.end in let y = last.end in omega (arith, x, y));
    }
