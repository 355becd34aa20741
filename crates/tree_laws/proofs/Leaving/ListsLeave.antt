-- What stays of the parts where lists of children are written: all but the headers and the tables of these nodes, and all dimensions.
use Rattle.std.proofs.Common.{◌≡◌, ◌⊎◌, inl, inr, ℕ, zero, suc, sym, ◌∙◌, ap, subst, arith, List, [], ◌∷◌, ◌++◌, length, get_or, ◌+◌, ◌*◌, ◌<◌, ◌≤◌, Bool, true, false, cond}
use Rattle.std.proofs.lemmas.Bool.Decides.{nat_tests}
use Rattle.std.proofs.lemmas.List.Elements.{Contains-append_left, Contains-append_right, Contains-append_cases}
use Rattle.std.specs.Prelude.{Some}
use Rattle.std.specs.List.{Contains}
use Rattle.adf_format.specs.declared.types.Extent.{Extent}
use Rattle.adf_format.specs.declared.types.ExtentKind.{ExtentKind}
use Rattle.adf_format.specs.Fields.{field}
use Rattle.adf_format.specs.Tree.{Tree}
use Rattle.adf_format.specs.Tiles.{cover, holds_byte}
use Rattle.adf_format.specs.Parts.{node_length, dimension_digits}
use Rattle.adf_format.specs.Placement.{Placement, NodeParts, parts_of, extent, node_extents, live_extents, table_extents, chunk_table_extents, chunk_extents}
use Rattle.adf_format.proofs.HeapSteps.{cover-append}
use Rattle.adf_format.proofs.HeapLaws.{in_range}
use Rattle.adf_format.proofs.LayoutLaws.{one_of}
use Rattle.adf_model.proofs.Basics.{same_Some}
use Rattle.adf_model.proofs.Creation.PartsApart.{range_in, cover_all}
use Rattle.tree_laws.specs.Holding.{Holds, ChangesIn, MeetsNothing}
use Rattle.tree_laws.specs.Leaving.{Leaves}
use Rattle.tree_laws.proofs.Holding.Steps.{within, once}
use Rattle.tree_laws.proofs.Holding.OwnRanges.{data_extents}
use Rattle.tree_laws.proofs.Leaving.LeavingLaws.{contains_cover, live_kept, head_byte, header_byte}
use Rattle.adf_model.proofs.Creation.PartExtents.{node_of, none_in}

-- the header and the table of a node
abbrev pub list_extents : Bool → NodeParts → List Extent
list_extents wide at = extent ExtentKind.Node at.header (node_length wide) ∷ table_extents at.table

pub only_one : (x e : Extent) → Contains (x ∷ []) e → x ≡ e
only_one x e c = same c.0 c.1 c.2
  where
    same : (k : ℕ) → k < 1 → get_or (x ∷ []) k e ≡ e → x ≡ e
    same zero lt h = h
    same (suc k) lt h = absurd (omega (arith, lt))

-- an extent of a list covers no more than the list
pub cover_contained : (xs : List Extent) (e : Extent) (b : ℕ) → Contains xs e → cover (e ∷ []) b ≤ cover xs b
cover_contained [] e b c = absurd (none_in e c)
cover_contained (x ∷ xs) e b c = elim (Contains-append_cases (x ∷ []) xs e c) [
  | inl first ↦ subst (λ (y : Extent). cover (e ∷ []) b ≤ cover (y ∷ xs) b) (sym (only_one x e first)) (omega arith)
  | inr later ↦ (let rest = cover_contained xs e b later in plain (cond (holds_byte x b) 1 0) (cover xs b) (cover (e ∷ []) b) rest)
]
  where
    plain : (a b c : ℕ) → c ≤ b → c ≤ a + b
    plain a b c h = omega (arith, h)

-- an extent of a node is its header, its table, or one of its data
pub list_or_data : (wide : Bool) (at : NodeParts) (e : Extent) → Contains (node_extents wide at) e → Contains (list_extents wide at) e ⊎ Contains (data_extents at) e
list_or_data wide at e c = elim (Contains-append_cases (list_extents wide at ++ chunk_table_extents at.chunk_table (length at.chunks)) (chunk_extents at.chunks) e c) [
  | inl first ↦ elim (Contains-append_cases (list_extents wide at) (chunk_table_extents at.chunk_table (length at.chunks)) e first) [
    | inl list ↦ inl list
    | inr table ↦ inr (Contains-append_left (chunk_table_extents at.chunk_table (length at.chunks)) (chunk_extents at.chunks) e table)
  ]
  | inr chunk ↦ inr (Contains-append_right (chunk_table_extents at.chunk_table (length at.chunks)) (chunk_extents at.chunks) e chunk)
]

-- the extents of a node are its list and its data
pub list_split : (wide : Bool) (at : NodeParts) (b : ℕ) → cover (node_extents wide at) b ≡ cover (list_extents wide at) b + cover (data_extents at) b
list_split wide at b =
    let e = cover-append (list_extents wide at ++ chunk_table_extents at.chunk_table (length at.chunks)) (chunk_extents at.chunks) b in
    let f = cover-append (list_extents wide at) (chunk_table_extents at.chunk_table (length at.chunks)) b in
    let g = cover-append (chunk_table_extents at.chunk_table (length at.chunks)) (chunk_extents at.chunks) b in
    omega (arith, e, f, g)

pub data_within : (wide : Bool) (at : NodeParts) (b : ℕ) → cover (data_extents at) b ≤ cover (node_extents wide at) b
data_within wide at b = let e = list_split wide at b in omega (arith, e)

pub data_in_node : (wide : Bool) (at : NodeParts) (e : Extent) → Contains (data_extents at) e → Contains (node_extents wide at) e
data_in_node wide at e c = elim (Contains-append_cases (chunk_table_extents at.chunk_table (length at.chunks)) (chunk_extents at.chunks) e c) [
  | inl table ↦ Contains-append_left (list_extents wide at ++ chunk_table_extents at.chunk_table (length at.chunks)) (chunk_extents at.chunks) e
      (Contains-append_right (list_extents wide at) (chunk_table_extents at.chunk_table (length at.chunks)) e table)
  | inr chunk ↦ Contains-append_right (list_extents wide at ++ chunk_table_extents at.chunk_table (length at.chunks)) (chunk_extents at.chunks) e chunk
]

-- what is written of a header from the count on and its dimensions do not meet
pub count_or_dims : (wide : Bool) (place n b : ℕ) → n ≤ 62 → in_range (place + 68) n b + in_range (place + 130) (12 * dimension_digits wide) b ≤ in_range place (node_length wide) b
count_or_dims false place n b few = grind (arith, nat_tests)
count_or_dims true place n b few = grind (arith, nat_tests)

module _ (ranges except : List Extent) (tree : Tree) (p : Placement) (taken : List Extent) (old new : List ℕ) (h : Holds old tree p taken) (c : ChangesIn ranges old new) (inside : (b : ℕ) → cover ranges b ≤ cover (live_extents tree.wide p) b)
    (its_data : (k : ℕ) (ms : NodeParts) (b : ℕ) → parts_of p k ≡ Some ms → 0 < cover (data_extents ms) b → cover ranges b ≡ 0)
    (dims : (k : ℕ) (ms : NodeParts) (b : ℕ) → parts_of p k ≡ Some ms → 0 < in_range (ms.header + 130) (12 * dimension_digits tree.wide) b → cover ranges b ≡ 0)
    (lists : (k : ℕ) (ms : NodeParts) → parts_of p k ≡ Some ms → ((e : Extent) → Contains (list_extents tree.wide ms) e → Contains except e) ⊎ MeetsNothing ranges (node_extents tree.wide ms)) where
  part_clear : (k : ℕ) (ms : NodeParts) (e : Extent) → parts_of p k ≡ Some ms → Contains (node_extents tree.wide ms) e → (Contains except e → ⊥) → (b : ℕ) → 0 < cover (e ∷ []) b → cover ranges b ≡ 0
  part_clear k ms e at own free b some = elim (lists k ms at) [
    | inr clear ↦ clear b (let l = cover_contained (node_extents tree.wide ms) e b own in omega (arith, l, some))
    | inl excepted ↦ elim (list_or_data tree.wide ms e own) [
      | inl list ↦ absurd (free (excepted e list))
      | inr datum ↦ its_data k ms b at (let l = cover_contained (data_extents ms) e b datum in omega (arith, l, some))
    ]
  ]

  pub lists_leave : Leaves except [] tree.wide p p old new
  lists_leave = record {
    parts = λ e live free.
        let n = node_of tree.wide p.parts e live in (
          live,
          live_kept ranges old new tree p taken h c e.place e.length
              (λ b low high. (contains_cover (live_extents tree.wide p) e b live low high, part_clear n.0 n.1 e n.2 n.3 free b (let held = range_in e.place e.length b low high in omega (arith, held)))),
        );
    head = λ b le none. c.others b (within old tree p taken h b (let i = head_byte b le in let all = cover_all tree.wide p b in omega (arith, i, all)))
        (let i = head_byte b le in let l = inside b in let one = once old tree p taken h b in omega (arith, i, l, one));
    dims = λ serial from to free at then.
        let same : from ≡ to = same_Some from to (sym at ∙ then) in
        ap (λ (x : NodeParts). field new (x.header + 130) (12 * dimension_digits tree.wide)) (sym same)
        ∙ live_kept ranges old new tree p taken h c (from.header + 130) (12 * dimension_digits tree.wide) (λ b low high.
        let some = header_byte tree.wide from b low high in
        let live = one_of tree.wide p.parts serial b from at in
        (omega (arith, some, live), dims serial from b at (let held = range_in (from.header + 130) (12 * dimension_digits tree.wide) b low high in omega (arith, held))));
    drawn = omega arith;
    before = λ serial to lt there. (to, there);
  }
