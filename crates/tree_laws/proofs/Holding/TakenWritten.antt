-- What is written into ranges that are taken changes nothing of what the file holds.
use Rattle.std.proofs.Common.{◌≡◌, ℕ, zero, suc, refl, arith, List, [], ◌<◌}
use Rattle.adf_format.specs.declared.types.Extent.{Extent}
use Rattle.adf_format.specs.Tree.{Tree}
use Rattle.adf_format.specs.Tiles.{cover}
use Rattle.adf_format.specs.Placement.{Placement, head_extents, all_extents}
use Rattle.adf_format.proofs.HeapSteps.{cover-append}
use Rattle.adf_format.proofs.LayoutLaws.{one_of}
use Rattle.adf_model.proofs.Creation.PartsApart.{cover_all}
use Rattle.tree_laws.specs.Holding.{Holds, ChangesIn}
use Rattle.tree_laws.proofs.Holding.Steps.{once, rebuilt}

pub taken_written : (ranges : List Extent) (old new : List ℕ) (tree : Tree) (p : Placement) (taken : List Extent) → Holds old tree p taken → ChangesIn ranges old new → ((b : ℕ) → 0 < cover ranges b → 0 < cover taken b) → Holds new tree p taken
taken_written ranges old new tree p taken h c inside = rebuilt ranges [] tree tree p p taken taken old new h (record {
  is_tree = h.is_tree;
  wide = refl;
  format = refl;
  same_nodes = h.same_nodes;
  heap = refl;
  root = λ from e. (from, e, refl);
  changes = c;
  apart = λ b some. clear b (let one = once old tree p taken h b in let both = cover-append head_extents p.heap.gaps b in omega (arith, one, both, some));
  owners = λ b. refl;
  beyond = λ b le.
      let none : cover (all_extents tree.wide p) b ≡ 0 = h.beyond b (let l = c.longer in omega (arith, l, le)) in
      let all = cover_all tree.wide p b in omega (arith, none, all);
  others = λ serial node parts free at placed. (
    at,
    placed,
    λ b some. clear b (let one = once old tree p taken h b in let live = one_of tree.wide p.parts serial b parts placed in omega (arith, one, live, some)),
    λ i child now its e f g. (now, its, f, g, refl, refl),
  );
  those = λ serial node parts held at placed. cc;
})
  where
    clear : (b : ℕ) → cover taken b ≡ 0 → cover ranges b ≡ 0
    clear b none = decide (cover ranges b) (inside b)
      where
        decide : (n : ℕ) → (0 < n → 0 < cover taken b) → n ≡ 0
        decide zero h = refl
        decide (suc n) h = absurd (let k = h (omega arith) in omega (arith, k, none))
