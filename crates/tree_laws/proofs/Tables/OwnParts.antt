-- The extents of a node by its parts, and which of two nodes a serial is.
use Rattle.std.proofs.Common.{◌≡◌, ◌≢◌, ◌⊎◌, inl, inr, ℕ, sym, ap, arith, List, [], ◌∷◌, ◌++◌, length, ◌+◌, ◌≤◌, Bool, true, false}
use Rattle.std.proofs.lemmas.Bool.Decides.{eqb_tells}
use Rattle.std.specs.Prelude.{Option, Some, ◌==◌, ◌||◌}
use Rattle.adf_format.specs.declared.types.Extent.{Extent}
use Rattle.adf_format.specs.declared.types.ExtentKind.{ExtentKind}
use Rattle.adf_format.specs.Tree.{is_among}
use Rattle.adf_format.specs.Tiles.{cover}
use Rattle.adf_format.specs.Parts.{node_length}
use Rattle.adf_format.specs.Placement.{Placement, NodeParts, TablePart, extent, parts_of, extents_of, node_extents, live_extents, table_extents, chunk_table_extents, chunk_extents}
use Rattle.adf_format.proofs.HeapLaws.{in_range}
use Rattle.adf_format.proofs.HeapSteps.{cover-append}
use Rattle.adf_model.proofs.Creation.CreatedNodes.{there_inside}
use Rattle.adf_model.proofs.Creation.PartsApart.{cover_part}

pub least : (wide : Bool) → 246 ≤ node_length wide
least false = omega arith
least true = omega arith

-- the data of a node
abbrev pub data_parts : NodeParts → List Extent
data_parts from = chunk_table_extents from.chunk_table (length from.chunks) ++ chunk_extents from.chunks

-- the own extents of a node with a table, if it has one: its header, the table and its data
pub own_with : (wide : Bool) (from : NodeParts) (o : Option TablePart) (b : ℕ)
    → cover (node_extents wide (record from { table = o })) b ≡ in_range from.header (node_length wide) b + (cover (table_extents o) b + cover (data_parts from) b)
own_with wide from o b =
    let e = cover-append (extent ExtentKind.Node from.header (node_length wide) ∷ table_extents o ++ chunk_table_extents from.chunk_table (length from.chunks)) (chunk_extents from.chunks) b in
    let f = cover-append (table_extents o) (chunk_table_extents from.chunk_table (length from.chunks)) b in
    let k = cover-append (chunk_table_extents from.chunk_table (length from.chunks)) (chunk_extents from.chunks) b in
    omega (arith, e, f, k)

-- they are among those of the file
pub own_live : (wide : Bool) (p : Placement) (s : ℕ) (from : NodeParts) → parts_of p s ≡ Some from → (b : ℕ) → cover (node_extents wide from) b ≤ cover (live_extents wide p) b
own_live wide p s from stands b =
    let c = cover_part (extents_of wide) p.parts s b (there_inside p.parts s from stands) in
    let same : cover (extents_of wide (parts_of p s)) b ≡ cover (node_extents wide from) b = ap (λ (o : Option NodeParts). cover (extents_of wide o) b) stands in
    omega (arith, c, same)

-- a serial that is neither of two, or one of them
pub apart_from : (s n k : ℕ) → is_among (s ∷ n ∷ []) k ≡ false → (k ≢ s) × (k ≢ n)
apart_from s n k e = (λ same. clash_first (eqb_tells s k) same, λ same. clash_second (eqb_tells n k) same)
  where
    clash_first : (((s == k) ≡ true) × (s ≡ k)) ⊎ (((s == k) ≡ false) × (s ≢ k)) → k ≡ s → ⊥
    clash_first (inl t) same = both (s == k) (n == k) t.0 e
      where
        both : (a b : Bool) → a ≡ true → (a || (b || false)) ≡ false → ⊥
        both true b p q = cc
        both false b p q = cc
    clash_first (inr t) same = t.1 (sym same)

    clash_second : (((n == k) ≡ true) × (n ≡ k)) ⊎ (((n == k) ≡ false) × (n ≢ k)) → k ≡ n → ⊥
    clash_second (inl t) same = both (s == k) (n == k) t.0 e
      where
        both : (a b : Bool) → b ≡ true → (a || (b || false)) ≡ false → ⊥
        both true b p q = cc
        both false true p q = cc
        both false false p q = cc
    clash_second (inr t) same = t.1 (sym same)

pub one_of_two : (s n k : ℕ) → is_among (s ∷ n ∷ []) k ≡ true → (k ≡ s) ⊎ (k ≡ n)
one_of_two s n k e = elim (eqb_tells s k) [
  | inl t ↦ inl (sym t.1)
  | inr t ↦ elim (eqb_tells n k) [
    | inl u ↦ inr (sym u.1)
    | inr u ↦ absurd (neither (s == k) (n == k) t.0 u.0 e)
  ]
]
  where
    neither : (a b : Bool) → a ≡ false → b ≡ false → (a || (b || false)) ≡ true → ⊥
    neither true b p q r = cc
    neither false true p q r = cc
    neither false false p q r = cc
