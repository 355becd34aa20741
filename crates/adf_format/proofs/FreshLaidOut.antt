-- The fresh file lays out the fresh tree.
use Rattle.std.proofs.Common.{lit≤, ◌≡◌, ℕ, zero, suc, refl, sym, ◌∙◌, ap, map, ◌^◌, subst, arith, List, [], ◌∷◌, length, ◌+◌, ◌*◌, ◌<◌, ◌≤◌, Bool, true, false}
use Rattle.std.specs.Prelude.{Option, Some, None, IsSome, slice_get, IsTrue, codes, ◌&&◌}
use Rattle.std.specs.List.{list_all, range_with_len}
use Rattle.adf_format.specs.Hex.{is_hex}
use Rattle.adf_format.specs.Pointer.{IsBlank}
use Rattle.adf_format.specs.Fields.{field}
use Rattle.adf_format.specs.declared.types.Format.{Format}
use Rattle.adf_format.specs.Tree.{Node, IsTree, IsNode, AllDiffer, IsAmong, is_among, node_at, children_at, name_at, lineage, fresh_root, fresh_tree}
use Rattle.adf_format.specs.Tiles.{Tiles}
use Rattle.adf_format.specs.Parts.{SpellsHeader, SpellsFreeTable, HasPointer, HasTag}
use Rattle.adf_format.specs.Placement.{NodeParts, parts_of, all_extents}
use Rattle.adf_format.specs.HeapRule.{no_parts}
use Rattle.adf_format.specs.LaysOut.{LaysOut, HoldsNode}
use Rattle.adf_format.specs.Records.{header_text, free_table_text, node_text}
use Rattle.adf_format.specs.Fresh.{fresh_text, fresh_end, fresh_placement}
use Rattle.adf_format.proofs.Images.{fresh, wide}
use Rattle.adf_format.proofs.TileLaws.{TilesInOrder-Tiles}

and_parts : (a b : Bool) → (a && b) ≡ true → (a ≡ true) × (b ≡ true)
and_parts true b e = (refl, e)
and_parts false b e = cc

abbrev root_parts : NodeParts
root_parts = record no_parts { header = 266 }

some_same : {A : Type 0} (x y : A) → Some x ≡ Some y → x ≡ y
some_same x y e = cc

only_root : (wide : Bool) (k : ℕ) (node : Node) → node_at (fresh_tree wide) k ≡ Some node → fresh_root ≡ node
only_root wide zero node e = some_same fresh_root node e
only_root wide (suc k) node e = cc

only_parts : (wide : Bool) (k : ℕ) (parts : NodeParts) → parts_of (fresh_placement wide) k ≡ Some parts → root_parts ≡ parts
only_parts wide zero parts e = some_same root_parts parts e
only_parts wide (suc k) parts e = cc

root_is_node : (wide : Bool) → IsNode wide fresh_root
root_is_node wide = record { named = refl; labelled = refl; shaped = refl; sized = tt; empty = λ h. refl; link = λ h. cc }

childless : (wide : Bool) (serial : ℕ) → children_at (fresh_tree wide) serial ≡ []
childless wide zero = refl
childless wide (suc k) = refl

no_child : {P : Type 0} (wide : Bool) (serial child : ℕ) → IsAmong (children_at (fresh_tree wide) serial) child → P
no_child wide serial child h = let none : is_among (children_at (fresh_tree wide) serial) child ≡ false = ap (λ xs. is_among xs child) (childless wide serial) in cc

-- the fresh tree is a tree
pub fresh_is_tree : (wide : Bool) → IsTree (fresh_tree wide)
unfolding lineage
fresh_is_tree wide = record {
  root = refl;
  drawn = lit≤ tt;
  each = λ serial node e. subst (λ (n : Node). IsNode wide n) (only_root wide serial node e) (root_is_node wide);
  live = λ serial child h. no_child wide serial child h;
  one_parent = λ one other child h k. no_child wide one child h;
  siblings = λ serial. subst (λ (xs : List ℕ). AllDiffer (map (name_at (fresh_tree wide)) xs)) (sym (childless wide serial)) tt;
  width = λ serial. subst (λ (xs : List ℕ). length xs ≤ 2 ^ 20) (sym (childless wide serial)) (lit≤ tt);
  reached = reached wide;
}
  where
    reached : (wide : Bool) (serial : ℕ) → IsSome (node_at (fresh_tree wide) serial) → IsAmong (lineage (fresh_tree wide) serial) 0
    reached wide zero h = refl
    reached wide (suc k) h = cc

-- ---- the bytes

-- each number below n passes a test that all of them pass
pub each_below : (test : ℕ → Bool) (a n k : ℕ) → list_all test (range_with_len a n) ≡ true → k < n → test (a + k) ≡ true
each_below test a zero k all lt = absurd (none k lt)
  where
    none : (k : ℕ) → k < 0 → ⊥
    none k h = omega (arith, h)
each_below test a (suc n) zero all lt = ap test (plain a) ∙ (and_parts (test a) (list_all test (range_with_len (a + 1) n)) all).0
  where
    plain : (a : ℕ) → a + 0 ≡ a
    plain a = omega arith
each_below test a (suc n) (suc k) all lt = ap test (plain a k) ∙ each_below test (a + 1) n k (and_parts (test a) (list_all test (range_with_len (a + 1) n)) all).1 (omega (arith, lt))
  where
    plain : (a k : ℕ) → a + suc k ≡ a + 1 + k
    plain a k = omega arith

abbrev has_size : List ℕ → ℕ → Bool
has_size bytes k = is_hex (field bytes (106 + 2 * k) 2)

-- the twelve sizes of a header are tested at once
pub sizes_by_test : (bytes : List ℕ) → list_all (has_size bytes) (range_with_len 0 12) ≡ true → (k : ℕ) → k < 12 → IsTrue (is_hex (field bytes (106 + 2 * k) 2))
sizes_by_test bytes all k lt = ap (has_size bytes) (plain k) ∙ each_below (has_size bytes) 0 12 k all lt
  where
    plain : (k : ℕ) → k ≡ 0 + k
    plain k = omega arith

narrow_header : SpellsHeader (field (fresh_text false) 0 186) false Format.Little 266 511
unfolding fresh_text header_text free_table_text node_text
narrow_header = record {
  what = refl;
  letter = refl;
  what_end = refl;
  tag_0 = refl;
  tag_1 = refl;
  tag_2 = refl;
  numbers = refl;
  tag_3 = refl;
  sizes = sizes_by_test (field (fresh_text false) 0 186) refl;
  tag_4 = refl;
  root_pointer = refl;
  end_pointer = refl;
  free_table = refl;
  tag_5 = refl;
}

wide_header : SpellsHeader (field (fresh_text true) 0 186) true Format.Little 266 607
unfolding fresh_text header_text free_table_text node_text
wide_header = record {
  what = refl;
  letter = refl;
  what_end = refl;
  tag_0 = refl;
  tag_1 = refl;
  tag_2 = refl;
  numbers = refl;
  tag_3 = refl;
  sizes = sizes_by_test (field (fresh_text true) 0 186) refl;
  tag_4 = refl;
  root_pointer = refl;
  end_pointer = refl;
  free_table = refl;
  tag_5 = refl;
}

narrow_root : HoldsNode (fresh_text false) (fresh_tree false) (fresh_placement false) fresh_root root_parts
unfolding fresh_text header_text free_table_text node_text
narrow_root = record {
  header = record { start_tag = refl; name = refl; label = refl; children = refl; entries = refl; table = refl; kind = refl; rank = refl; dims = λ i d e. cc; chunks = refl; chunk = refl; end_tag = refl };
  table = refl;
  chunk_table = omega arith;
  chunks = tt;
  bytes = refl;
}

wide_root : HoldsNode (fresh_text true) (fresh_tree true) (fresh_placement true) fresh_root root_parts
unfolding fresh_text header_text free_table_text node_text
wide_root = record {
  header = record { start_tag = refl; name = refl; label = refl; children = refl; entries = refl; table = refl; kind = refl; rank = refl; dims = λ i d e. cc; chunks = refl; chunk = refl; end_tag = refl };
  table = refl;
  chunk_table = omega arith;
  chunks = tt;
  bytes = refl;
}

abbrev no_lists : List (Option ℕ × Option ℕ)
no_lists = (None, None) ∷ (None, None) ∷ (None, None) ∷ []

-- a free table with six blank pointers
pub spells_no_lists : (bytes : List ℕ) → HasTag bytes 0 (codes "fCbt") → HasTag bytes 76 (codes "Fcte") → (IsBlank (field bytes 4 12) × IsBlank (field bytes 16 12)) × (IsBlank (field bytes 28 12) × IsBlank (field bytes 40 12)) × (IsBlank (field bytes 52 12) × IsBlank (field bytes 64 12))
    → SpellsFreeTable bytes no_lists
spells_no_lists bytes opening closing blanks = record { start_tag = opening; three = refl; lists = lists; end_tag = closing }
  where
    lists : (k : ℕ) (e : Option ℕ × Option ℕ) → slice_get no_lists k ≡ Some e → HasPointer bytes (4 + 24 * k) e.0 × HasPointer bytes (16 + 24 * k) e.1
    lists zero e h = subst (λ (d : Option ℕ × Option ℕ). HasPointer bytes 4 d.0 × HasPointer bytes 16 d.1) (some_same (None, None) e h) blanks.0
    lists (suc zero) e h = subst (λ (d : Option ℕ × Option ℕ). HasPointer bytes 28 d.0 × HasPointer bytes 40 d.1) (some_same (None, None) e h) blanks.1
    lists (suc (suc zero)) e h = subst (λ (d : Option ℕ × Option ℕ). HasPointer bytes 52 d.0 × HasPointer bytes 64 d.1) (some_same (None, None) e h) blanks.2
    lists (suc (suc (suc k))) e h = cc

free_table : (wide : Bool) → SpellsFreeTable (field (fresh_text wide) 186 80) no_lists
unfolding fresh_text header_text free_table_text node_text
free_table false = spells_no_lists (field (fresh_text false) 186 80) refl refl ((refl, refl), (refl, refl), (refl, refl))
free_table true = spells_no_lists (field (fresh_text true) 186 80) refl refl ((refl, refl), (refl, refl), (refl, refl))

pub fresh_length : (wide : Bool) → length (fresh_text wide) ≡ fresh_end wide + 1
unfolding fresh_text header_text free_table_text node_text
fresh_length false = refl
fresh_length true = refl

laid_out_by : (wide : Bool) → SpellsHeader (field (fresh_text wide) 0 186) wide Format.Little 266 (fresh_end wide) → HoldsNode (fresh_text wide) (fresh_tree wide) (fresh_placement wide) fresh_root root_parts
    → Tiles (all_extents wide (fresh_placement wide)) (fresh_end wide) → LaysOut (fresh_text wide) (fresh_tree wide) (fresh_placement wide)
laid_out_by wide header root tiles = record {
  is_tree = fresh_is_tree wide;
  end = (let long : length (fresh_text wide) ≡ fresh_end wide + 1 = fresh_length wide in omega (arith, long));
  header = (root_parts, refl, header);
  same_nodes = refl;
  nodes = λ k node parts e f. subst (λ (n : Node). HoldsNode (fresh_text wide) (fresh_tree wide) (fresh_placement wide) n parts) (only_root wide k node e)
      (subst (λ (q : NodeParts). HoldsNode (fresh_text wide) (fresh_tree wide) (fresh_placement wide) fresh_root q) (only_parts wide k parts f) root);
  tiles = tiles;
  gaps = tt;
  fillers = λ k g e f. cc;
  threads = record { small = []; medium = []; large = []; table = free_table wide; each = (tt, tt, tt); all = λ place length. refl };
}

-- the fresh file of each version lays out its fresh tree
pub fresh_laid_out : (wide : Bool) → LaysOut (fresh_text wide) (fresh_tree wide) (fresh_placement wide)
fresh_laid_out false = laid_out_by false narrow_header narrow_root (TilesInOrder-Tiles _ 511 (refl, lit≤ tt, (refl, lit≤ tt, (refl, lit≤ tt, refl))))
fresh_laid_out true = laid_out_by true wide_header wide_root (TilesInOrder-Tiles _ 607 (refl, lit≤ tt, (refl, lit≤ tt, (refl, lit≤ tt, refl))))

-- these are the bytes of the images
fresh_is : fresh_text false ≡ fresh
unfolding fresh_text header_text free_table_text node_text
fresh_is = refl

fresh_wide_is : fresh_text true ≡ wide
unfolding fresh_text header_text free_table_text node_text
fresh_wide_is = refl
