-- What is written in spared ranges, in gaps and behind the end leaves all else.
use Rattle.std.proofs.Common.{◌≡◌, ◌⊎◌, inl, inr, ℕ, refl, sym, ◌∙◌, ap, subst, arith, List, [], ◌∷◌, ◌++◌, length, ◌+◌, ◌-◌, ◌*◌, ◌/◌, max, ◌<◌, ◌≤◌}
use Rattle.std.proofs.lemmas.Bool.{cases_lt}
use Rattle.std.proofs.lemmas.Bool.Decides.{leb_tells, eqb_tells}
use Rattle.std.specs.Prelude.{Option, Some, slice_get}
use Rattle.std.specs.List.{Contains}
use Rattle.adf_format.specs.declared.types.Extent.{Extent}
use Rattle.adf_format.specs.declared.types.ExtentKind.{ExtentKind}
use Rattle.adf_format.specs.Fields.{field}
use Rattle.adf_format.specs.Changes.{heap_fields}
use Rattle.adf_format.specs.HeapBytes.{IsReached, ChangesOnly}
use Rattle.adf_format.specs.Tree.{Tree}
use Rattle.adf_format.specs.Tiles.{cover, end_of}
use Rattle.adf_format.specs.Parts.{node_length, table_length, dimension_digits}
use Rattle.adf_format.specs.Placement.{Placement, NodeParts, TablePart, extent, parts_of, extents_of, node_extents, live_extents, head_extents, table_extents, chunk_table_extents, chunk_extents}
use Rattle.adf_format.specs.LaysOut.{LaysOut}
use Rattle.adf_format.proofs.HeapLaws.{in_range}
use Rattle.adf_format.proofs.HeapSteps.{cover-append}
use Rattle.adf_format.proofs.FrameLaws.{field_kept}
use Rattle.adf_format.proofs.LayoutLaws.{one_of}
use Rattle.adf_model.specs.declared.tree.Edit.{Edit}
use Rattle.adf_model.specs.Untouched.{KeepsRest, group_touched, most_dims, most_children}
use Rattle.adf_model.proofs.Basics.{same_Some}
use Rattle.adf_model.proofs.Creation.CreatedNodes.{there_inside}
use Rattle.adf_model.proofs.Writes.Reaches.{less_or}
use Rattle.adf_model.proofs.Creation.PartsApart.{range_in, range_out, range_within, cover_all, cover_two}
use Rattle.tree_laws.specs.MidEdit.{room}
use Rattle.tree_laws.specs.Spared.{IsOutside, SparesRest, IsSpared, AreSpared, KeepsPlaces, RestIsLeft}
use Rattle.tree_laws.proofs.Holding.Steps.{from_layout, within, once}
use Rattle.std.proofs.lemmas.List.Elements.{Contains-append_cases}
use Rattle.adf_model.proofs.Creation.PartExtents.{none_in, node_of}
use Rattle.tree_laws.proofs.Leaving.ListsLeave.{only_one}
use Rattle.tree_laws.proofs.Leaving.LeavingLaws.{contains_cover, head_byte, header_byte}
use Rattle.tree_laws.proofs.Whole.Mid.{in_old}

-- two extents of a list that hold one byte are one, where none is covered twice
pub one_extent : (xs : List Extent) (b : ℕ) → cover xs b ≤ 1 → (x y : Extent) → Contains xs x → x.place ≤ b → b < end_of x → Contains xs y → y.place ≤ b → b < end_of y → x ≡ y
one_extent [] b once x y cx low high cy low' high' = absurd (none_in x cx)
one_extent (z ∷ zs) b once x y cx low high cy low' high' = elim (Contains-append_cases (z ∷ []) zs x cx) [
  | inl here ↦ elim (Contains-append_cases (z ∷ []) zs y cy) [
    | inl too ↦ sym (only_one z x here) ∙ only_one z y too
    | inr later ↦ absurd (twice z x y zs b once (only_one z x here) low high later low' high')
  ]
  | inr later ↦ elim (Contains-append_cases (z ∷ []) zs y cy) [
    | inl here ↦ absurd (twice z y x zs b once (only_one z y here) low' high' later low high)
    | inr too ↦ one_extent zs b (omega (arith, once)) x y later low high too low' high'
  ]
]
  where
    twice : (z x y : Extent) (zs : List Extent) (b : ℕ) → cover (z ∷ zs) b ≤ 1 → z ≡ x → x.place ≤ b → b < end_of x → Contains zs y → y.place ≤ b → b < end_of y → ⊥
    twice z x y zs b once same low high c low' high' =
        let rest = contains_cover zs y b c low' high' in
        let here = contains_cover (z ∷ []) x b (subst (Contains (z ∷ [])) same (0, omega arith, refl)) low high in
        omega (arith, once, rest, here)

-- a byte outside of a range is not in it
not_in : {P : Type 0} (place n b : ℕ) → IsOutside place n b → place ≤ b → b < place + n → P
not_in place n b (inl before) low high = absurd (omega (arith, before, low))
not_in place n b (inr behind) low high = absurd (omega (arith, behind, high))

module _ (limit : ℕ) (tree : Tree) (p q : Placement) (done : List (Edit × Tree)) (ranges : List Extent) (old new : List ℕ) (l : LaysOut old tree p) (rise : p.heap.end ≤ q.heap.end)
    (c : ChangesOnly (heap_fields ++ room ranges p.heap q.heap) old new) (own : AreSpared ranges (group_touched limit tree p done) tree done p q) (keeps : KeepsPlaces (group_touched limit tree p done) tree.wide p q) where
  abbrev touched : List Extent
  touched = group_touched limit tree p done

  alone : (b : ℕ) → cover head_extents b + cover (live_extents tree.wide p) b + cover p.heap.gaps b ≤ 1
  alone b = let one = once old tree p [] (from_layout old tree p l) b in omega (arith, one)

  there : (b : ℕ) → 0 < cover (live_extents tree.wide p) b → b < length old
  there b some = within old tree p [] (from_layout old tree p l) b (let all = cover_all tree.wide p b in omega (arith, all, some))

  up_to : (b : ℕ) → 0 < cover head_extents b + cover (live_extents tree.wide p) b → b ≤ p.heap.end
  up_to b some = elim (leb_tells b p.heap.end) [
    | inl le ↦ le.1
    | inr past ↦ absurd (let none = l.tiles.inside b past.1 in let all = cover_all tree.wide p b in omega (arith, none, all, some))
  ]

  all_of : (b : ℕ) → cover (heap_fields ++ room ranges p.heap q.heap) b ≡ cover heap_fields b + (cover p.heap.gaps b + (in_range (p.heap.end + 1) (q.heap.end - p.heap.end) b + cover ranges b))
  all_of b =
      let s = cover-append heap_fields (room ranges p.heap q.heap) b in
      let t = cover-append p.heap.gaps (extent ExtentKind.Filler (p.heap.end + 1) (q.heap.end - p.heap.end) ∷ ranges) b in omega (arith, s, t)

  fields_in_head : (b : ℕ) → cover heap_fields b ≤ cover head_extents b
  fields_in_head b = let w = range_within 0 186 146 12 b (omega arith) (omega arith) in omega (arith, w)

  -- a byte of a live part that no range holds
  kept_byte : (b : ℕ) → 0 < cover (live_extents tree.wide p) b → cover ranges b ≡ 0 → slice_get new b ≡ slice_get old b
  kept_byte b some none =
      let one = alone b in
      let f = fields_in_head b in
      let up = up_to b (omega (arith, some)) in
      let z = range_out (p.heap.end + 1) (q.heap.end - p.heap.end) b (inl (omega (arith, up))) in
      let a = all_of b in
      let x = in_old (heap_fields ++ room ranges p.heap q.heap) old new c in
      x.others b (there b some) (omega (arith, one, f, z, a, none, some))

  kept_field : (place n : ℕ) → ((b : ℕ) → place ≤ b → b < place + n → (0 < cover (live_extents tree.wide p) b) × (cover ranges b ≡ 0)) → field new place n ≡ field old place n
  kept_field place n free = field_kept n place old new (λ b low high. let f = free b low high in kept_byte b f.0 f.1)

  -- a range's byte in a node's part is spared by that very node
  mine : (j : ℕ) (from : NodeParts) → parts_of p j ≡ Some from → (b : ℕ) → 0 < cover (node_extents tree.wide from) b → 0 < cover ranges b → (s : IsSpared touched tree done p q b) × (s.serial ≡ j)
  mine j from at b inside some =
      let s = own b some in
      elim (eqb_tells s.serial j) [
        | inl same ↦ (s, same.1)
        | inr differ ↦ absurd (
            let two = cover_two (extents_of tree.wide) p.parts j s.serial b (there_inside p.parts j from at) (there_inside p.parts s.serial s.from s.stands) differ.1 in
            let ours : cover (extents_of tree.wide (parts_of p j)) b ≡ cover (node_extents tree.wide from) b = ap (λ (o : Option NodeParts). cover (extents_of tree.wide o) b) at in
            let its : cover (extents_of tree.wide (parts_of p s.serial)) b ≡ cover (node_extents tree.wide s.from) b = ap (λ (o : Option NodeParts). cover (extents_of tree.wide o) b) s.stands in
            let held = contains_cover (node_extents tree.wide s.from) s.part b s.own s.low s.high in
            let one = alone b in omega (arith, two, ours, its, held, inside, one))
      ]

  spared_here : (j : ℕ) (from to : NodeParts) → parts_of p j ≡ Some from → parts_of q j ≡ Some to → (b : ℕ) → 0 < cover (node_extents tree.wide from) b → 0 < cover ranges b → SparesRest tree done j from to b
  spared_here j from to at then b inside some =
      let m = mine j from at b inside some in
      let s = m.0 in
      let is : s.from ≡ from = same_Some s.from from (sym s.stands ∙ ap (parts_of p) m.1 ∙ at) in
      subst (λ (x : NodeParts). SparesRest tree done j x to b) is (subst (λ k. SparesRest tree done k s.from to b) m.1 (s.rest to (ap (parts_of q) m.1 ∙ then)))

  -- bytes of a node's own that the rest spares are written by nobody
  clear_of : (place n : ℕ) (j : ℕ) (from to : NodeParts) → parts_of p j ≡ Some from → parts_of q j ≡ Some to
      → ((b : ℕ) → place ≤ b → b < place + n → 0 < cover (node_extents tree.wide from) b) → ((b : ℕ) → SparesRest tree done j from to b → IsOutside place n b)
      → (b : ℕ) → place ≤ b → b < place + n → (0 < cover (live_extents tree.wide p) b) × (cover ranges b ≡ 0)
  clear_of place n j from to at then inside outside b low high =
      let some = inside b low high in
      let live = one_of tree.wide p.parts j b from at in (
        omega (arith, some, live),
        none some (less_or 0 (cover ranges b)),
      )
    where
      none : 0 < cover (node_extents tree.wide from) b → (0 < cover ranges b) ⊎ (cover ranges b ≤ 0) → cover ranges b ≡ 0
      none some (inl written) = not_in place n b (outside b (spared_here j from to at then b some written)) low high
      none some (inr le) = omega (arith, le)

  -- the table of a node is among its own
  table_byte : (from : NodeParts) (t : TablePart) → from.table ≡ Some t → (b : ℕ) → t.place ≤ b → b < t.place + table_length t.entries → 0 < cover (node_extents tree.wide from) b
  table_byte from t has b low high =
      let e = cover-append (extent ExtentKind.Node from.header (node_length tree.wide) ∷ table_extents from.table ++ chunk_table_extents from.chunk_table (length from.chunks)) (chunk_extents from.chunks) b in
      let f = cover-append (table_extents from.table) (chunk_table_extents from.chunk_table (length from.chunks)) b in
      let g : cover (table_extents from.table) b ≡ in_range t.place (table_length t.entries) b + 0 = ap (λ (o : Option TablePart). cover (table_extents o) b) has in
      let i = range_in t.place (table_length t.entries) b low high in omega (arith, e, f, g, i)

  rest_kept : KeepsRest limit tree p done q old new
  rest_kept = record {
    parts = λ e live free. (
      keeps.parts e live free,
      kept_field e.place e.length (λ b low high. (
        contains_cover (live_extents tree.wide p) e b live low high,
        untouched e live free b low high (less_or 0 (cover ranges b)),
      )),
    );
    head = λ b le none.
        let i = head_byte b le in
        let one = alone b in
        let up = up_to b (omega (arith, i)) in
        let z = range_out (p.heap.end + 1) (q.heap.end - p.heap.end) b (inl (omega (arith, up))) in
        let a = all_of b in
        let x = in_old (heap_fields ++ room ranges p.heap q.heap) old new c in
        x.others b (within old tree p [] (from_layout old tree p l) b (let all = cover_all tree.wide p b in omega (arith, i, all))) (
        let clear = beside_head b i (less_or 0 (cover ranges b)) in omega (arith, none, one, i, z, a, clear));
    dims = λ serial from to free at then.
        ap (λ h. field new (h + 130) (12 * dimension_digits tree.wide)) (keeps.headers serial from to at then)
        ∙ kept_field (from.header + 130) (12 * dimension_digits tree.wide) (clear_of (from.header + 130) (12 * dimension_digits tree.wide) serial from to at then
        (λ b low high. header_byte tree.wide from b low high) (λ b s. s.dims free));
    past_rank = λ serial from to at then.
        ap (λ h. field new (h + 130 + most_dims tree done serial * dimension_digits tree.wide) (12 * dimension_digits tree.wide - most_dims tree done serial * dimension_digits tree.wide)) (keeps.headers serial from to at then)
        ∙ kept_field (from.header + 130 + most_dims tree done serial * dimension_digits tree.wide) (12 * dimension_digits tree.wide - most_dims tree done serial * dimension_digits tree.wide)
        (clear_of (from.header + 130 + most_dims tree done serial * dimension_digits tree.wide) (12 * dimension_digits tree.wide - most_dims tree done serial * dimension_digits tree.wide) serial from to at then
        (λ b low high. header_byte tree.wide from b (omega (arith, low)) (omega (arith, low, high))) (λ b s. s.past));
    unused = λ serial from to t at then has still.
        kept_field (t.place + (16 + 44 * most_children tree done serial)) (16 + 44 * t.entries - (16 + 44 * most_children tree done serial))
        (clear_of (t.place + (16 + 44 * most_children tree done serial)) (16 + 44 * t.entries - (16 + 44 * most_children tree done serial)) serial from to at then
        (λ b low high. table_byte from t has b (omega (arith, low)) (omega (arith, low, high))) (λ b s. s.unused t has still));
  }
    where
      beside_head : (b : ℕ) → 0 < cover head_extents b → (0 < cover ranges b) ⊎ (cover ranges b ≤ 0) → cover ranges b ≡ 0
      beside_head b i (inr le) = omega (arith, le)
      beside_head b i (inl some) = absurd (
          let s = own b some in
          let held = contains_cover (node_extents tree.wide s.from) s.part b s.own s.low s.high in
          let live = one_of tree.wide p.parts s.serial b s.from s.stands in
          let one = alone b in omega (arith, held, live, one, i))

      -- two extents of one list that hold a byte are covered twice, unless they are one
      untouched : (e : Extent) → Contains (live_extents tree.wide p) e → (Contains touched e → ⊥) → (b : ℕ) → e.place ≤ b → b < e.place + e.length → (0 < cover ranges b) ⊎ (cover ranges b ≤ 0) → cover ranges b ≡ 0
      untouched e live free b low high (inr le) = omega (arith, le)
      untouched e live free b low high (inl some) = absurd (
          let n = node_of tree.wide p.parts e live in
          let m = mine n.0 n.1 n.2 b (contains_cover (node_extents tree.wide n.1) e b n.3 low high) some in
          let s = m.0 in
          let is : s.from ≡ n.1 = same_Some s.from n.1 (sym s.stands ∙ ap (parts_of p) m.1 ∙ n.2) in
          let live_once = one_of tree.wide p.parts n.0 b n.1 n.2 in
          let one = alone b in
          free (subst (Contains touched) (one_extent (node_extents tree.wide n.1) b (omega (arith, live_once, one)) s.part e (subst (λ (x : NodeParts). Contains (node_extents tree.wide x) s.part) is s.own) s.low s.high n.3 low high) s.open'))

-- nothing that is written lies behind the end, and the file does not grow past the end's block
module _ (limit : ℕ) (tree : Tree) (p q : Placement) (done : List (Edit × Tree)) (ranges : List Extent) (old new : List ℕ) (l : LaysOut old tree p) (rise : p.heap.end ≤ q.heap.end)
    (c : ChangesOnly (heap_fields ++ room ranges p.heap q.heap) old new) (own : AreSpared ranges (group_touched limit tree p done) tree done p q) (keeps : KeepsPlaces (group_touched limit tree p done) tree.wide p q) where
  behind : (b : ℕ) → cover (head_extents ++ live_extents tree.wide p ++ p.heap.gaps) b ≡ 0 → (0 < cover ranges b) ⊎ (cover ranges b ≤ 0) → cover ranges b ≡ 0
  behind b none (inr le) = omega (arith, le)
  behind b none (inl some) = absurd (
      let s = own b some in
      let held = contains_cover (node_extents tree.wide s.from) s.part b s.own s.low s.high in
      let live = one_of tree.wide p.parts s.serial b s.from s.stands in
      let all = cover_all tree.wide p b in omega (arith, held, live, none, all))

  none_behind : (b : ℕ) → q.heap.end < b → cover (heap_fields ++ room ranges p.heap q.heap) b ≡ 0
  none_behind b past =
      let a = all_of limit tree p q done ranges old new l rise c own keeps b in
      let z = range_out (p.heap.end + 1) (q.heap.end - p.heap.end) b (inr (omega (arith, past, rise))) in
      let none = l.tiles.inside b (omega (arith, past, rise)) in
      let all = cover_all tree.wide p b in
      let f = fields_in_head limit tree p q done ranges old new l rise c own keeps b in
      let clear = behind b none (less_or 0 (cover ranges b)) in omega (arith, a, z, none, all, f, clear)

  abbrev most : ℕ
  most = max (length old) ((q.heap.end / 4096 + 1) * 4096)

  at_most : (most < length new) ⊎ (length new ≤ most) → length new ≤ most
  at_most (inr le) = le
  at_most (inl lt) = absurd (by_owner (cases_lt q.heap.end at.byte))
    where
      at : IsReached (heap_fields ++ room ranges p.heap q.heap) (length new - 1)
      at = c.grows (length new - 1) (omega (arith, lt)) (omega (arith, lt))

      by_owner : (q.heap.end < at.byte) ⊎ (at.byte ≤ q.heap.end) → ⊥
      by_owner (inl past) = let none = none_behind at.byte past in let own = at.own in omega (arith, none, own)
      by_owner (inr le) = let block = at.block in omega (arith, le, block, lt)

pub rest_is_left : RestIsLeft
rest_is_left limit tree p q done ranges old new l rise c own keeps = (
  rest_kept limit tree p q done ranges old new l rise c own keeps,
  record {
    longer = c.longer;
    grown = at_most limit tree p q done ranges old new l rise c own keeps (cases_lt (max (length old) ((q.heap.end / 4096 + 1) * 4096)) (length new));
    tail = λ b past. c.others b (none_behind limit tree p q done ranges old new l rise c own keeps b past);
  },
)
