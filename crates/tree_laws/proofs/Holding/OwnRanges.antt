-- Where the header, the table and the data of a node lie: within the bytes, and in no range of another owner. And what a write leaves of a part that it does not meet.
use Rattle.std.proofs.Common.{◌≡◌, ◌⊎◌, inl, inr, ℕ, refl, ◌∙◌, ap, arith, List, [], ◌∷◌, ◌++◌, length, ◌+◌, ◌-◌, ◌<◌, ◌≤◌, Bool, true, false}
use Rattle.std.proofs.lemmas.Bool.Decides.{leb_tells}
use Rattle.std.specs.Prelude.{Option, Some}
use Rattle.adf_format.specs.declared.types.Extent.{Extent}
use Rattle.adf_format.specs.declared.types.ExtentKind.{ExtentKind}
use Rattle.adf_format.specs.Fields.{field}
use Rattle.adf_format.specs.Tree.{Tree}
use Rattle.adf_format.specs.Tiles.{cover}
use Rattle.adf_format.specs.Parts.{node_length, table_length}
use Rattle.adf_format.specs.Placement.{Placement, NodeParts, TablePart, parts_of, extent, extents_of, node_extents, live_extents, table_extents, chunk_table_extents, chunk_extents}
use Rattle.adf_format.specs.Changes.{Writes}
pub use Rattle.adf_format.specs.HeapRule.{data_extents}
use Rattle.adf_format.proofs.HeapSteps.{cover-append}
use Rattle.adf_format.proofs.HeapLaws.{in_range}
use Rattle.adf_format.proofs.FrameLaws.{field_kept}
use Rattle.adf_model.proofs.Creation.CreatedNodes.{there_inside}
use Rattle.adf_model.proofs.Creation.PartsApart.{range_in, cover_all, cover_part}
use Rattle.tree_laws.specs.Holding.{Holds, ChangesIn}
use Rattle.tree_laws.proofs.Holding.Steps.{within}

-- a byte that a range does not hold lies before it or behind it
pub out : (p n i long : ℕ) → long ≡ n → in_range p n i ≡ 0 → (i < p) ⊎ (p + long ≤ i)
out p n i long e none = elim (leb_tells p i) [
  | inr before ↦ inl before.1
  | inl from ↦ elim (leb_tells (p + long) i) [
    | inl behind ↦ inr behind.1
    | inr inside ↦ absurd (let held = range_in p n i from.1 (let j = inside.1 in omega (arith, j, e)) in omega (arith, held, none))
  ]
]

-- two writes are changes in their ranges
pub two_written : (k l : ExtentKind) (a m b n : ℕ) (s t old middle new : List ℕ) → Writes a s old middle → length s ≡ m → Writes b t middle new → length t ≡ n → ChangesIn (extent k a m ∷ extent l b n ∷ []) old new
two_written k l a m b n s t old middle new v e w f = record {
  longer = (let x = v.longer in let y = w.longer in omega (arith, x, y));
  others = λ i lt none.
      let x = v.longer in
      w.others i (omega (arith, x, lt)) (out b n i (length t) f (omega (arith, none))) ∙ v.others i lt (out a m i (length s) e (omega (arith, none)));
}

pub least : (wide : Bool) → 246 ≤ node_length wide
least false = omega arith
least true = omega arith

-- a write within one range leaves a field of bytes that the range does not meet
pub beside : (at : ℕ) (text old new : List ℕ) → Writes at text old new → (a m : ℕ) → a ≤ at → at + length text ≤ a + m → (b n : ℕ) → b + n ≤ length old → ((x : ℕ) → in_range a m x + in_range b n x ≤ 1) → field new b n ≡ field old b n
beside at text old new w a m low high b n fits once = field_kept n b old new (λ x from to.
    let here = range_in b n x from to in
    let one = once x in
    w.others x (omega (arith, to, fits)) (side x (out a m x m refl (omega (arith, here, one)))))
  where
    side : (x : ℕ) → (x < a) ⊎ (a + m ≤ x) → (x < at) ⊎ (at + length text ≤ x)
    side x (inl h) = inl (omega (arith, h, low))
    side x (inr h) = inr (omega (arith, h, high))

-- changes one after another
pub changes_joined : (xs ys : List Extent) (old middle new : List ℕ) → ChangesIn xs old middle → ChangesIn ys middle new → ChangesIn (xs ++ ys) old new
changes_joined xs ys old middle new c d = record {
  longer = (let x = c.longer in let y = d.longer in omega (arith, x, y));
  others = λ b lt none.
      let both = cover-append xs ys b in
      let x = c.longer in
      d.others b (omega (arith, lt, x)) (omega (arith, both, none)) ∙ c.others b lt (omega (arith, both, none));
}

module _ (old : List ℕ) (tree : Tree) (p : Placement) (taken : List Extent) (k : ℕ) (at : NodeParts) (t : TablePart) (h : Holds old tree p taken) (placed : parts_of p k ≡ Some at) (has : at.table ≡ Some t) where
  pub own_split : (b : ℕ) → cover (node_extents tree.wide at) b ≡ in_range at.header (node_length tree.wide) b + (in_range t.place (table_length t.entries) b + cover (data_extents at) b)
  own_split b =
      let e = cover-append (extent ExtentKind.Node at.header (node_length tree.wide) ∷ table_extents at.table ++ chunk_table_extents at.chunk_table (length at.chunks)) (chunk_extents at.chunks) b in
      let f = cover-append (table_extents at.table) (chunk_table_extents at.chunk_table (length at.chunks)) b in
      let i = cover-append (chunk_table_extents at.chunk_table (length at.chunks)) (chunk_extents at.chunks) b in
      let g : cover (table_extents at.table) b ≡ in_range t.place (table_length t.entries) b + 0 = ap (λ (o : Option TablePart). cover (table_extents o) b) has in
      omega (arith, e, f, i, g)

  pub own_is : (b : ℕ) → cover (extents_of tree.wide (parts_of p k)) b ≡ cover (node_extents tree.wide at) b
  own_is b = ap (λ (o : Option NodeParts). cover (extents_of tree.wide o) b) placed

  pub own_live : (b : ℕ) → cover (node_extents tree.wide at) b ≤ cover (live_extents tree.wide p) b
  own_live b = let c = cover_part (extents_of tree.wide) p.parts k b (there_inside p.parts k at placed) in let y = own_is b in omega (arith, c, y)

  pub held : (b : ℕ) → 0 < cover (live_extents tree.wide p) b → b < length old
  held b some = within old tree p taken h b (let all = cover_all tree.wide p b in omega (arith, all, some))

  pub header_ends : at.header + node_length tree.wide ≤ length old
  header_ends =
      let m = least tree.wide in
      let i = range_in at.header (node_length tree.wide) (at.header + node_length tree.wide - 1) (omega (arith, m)) (omega (arith, m)) in
      let sp = own_split (at.header + node_length tree.wide - 1) in
      let l = own_live (at.header + node_length tree.wide - 1) in
      let lt = held (at.header + node_length tree.wide - 1) (omega (arith, i, sp, l)) in
      omega (arith, lt, m)

  pub table_ends : t.place + table_length t.entries ≤ length old
  table_ends =
      let i = range_in t.place (table_length t.entries) (t.place + table_length t.entries - 1) (omega arith) (omega arith) in
      let sp = own_split (t.place + table_length t.entries - 1) in
      let l = own_live (t.place + table_length t.entries - 1) in
      let lt = held (t.place + table_length t.entries - 1) (omega (arith, i, sp, l)) in
      omega (arith, lt)
