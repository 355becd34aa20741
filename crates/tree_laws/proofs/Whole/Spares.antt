-- Bytes of a header, of a table and of other parts of one node, as an edit may write them.
use Rattle.std.proofs.Common.{◌≡◌, ◌⊎◌, inl, inr, ℕ, refl, sym, ◌∙◌, ap, subst, arith, List, [], ◌∷◌, ◌++◌, length, ◌+◌, ◌-◌, ◌*◌, ◌<◌, ◌≤◌, Bool, true, false}
use Rattle.std.proofs.lemmas.Bool.Decides.{leb_tells}
use Rattle.std.proofs.Math.Nat.{mul-le-mul_left}
use Rattle.std.proofs.lemmas.List.Elements.{Contains-append_left, Contains-append_right}
use Rattle.std.specs.Prelude.{Option, Some, None}
use Rattle.std.specs.List.{Contains}
use Rattle.adf_format.specs.declared.types.Extent.{Extent}
use Rattle.adf_format.specs.declared.types.ExtentKind.{ExtentKind}
use Rattle.adf_format.specs.Tree.{Tree}
use Rattle.adf_format.specs.Tiles.{cover, end_of}
use Rattle.adf_format.specs.Parts.{node_length, table_length, dimension_digits}
use Rattle.adf_format.specs.Placement.{Placement, NodeParts, TablePart, extent, parts_of, node_extents, table_extents, chunk_table_extents, chunk_extents}
use Rattle.adf_format.specs.LaysOut.{LaysOut}
use Rattle.adf_format.proofs.HeapSteps.{cover-append}
use Rattle.adf_format.proofs.LayoutLaws.{one_of}
use Rattle.adf_model.specs.declared.tree.Edit.{Edit}
use Rattle.adf_model.specs.Untouched.{group_shaped, most_dims, most_children}
use Rattle.adf_model.proofs.Basics.{not_there, same_Some}
use Rattle.adf_model.proofs.Writes.Reaches.{less_or}
use Rattle.tree_laws.specs.Spared.{IsOutside, IsSpared, AreSpared}
use Rattle.tree_laws.proofs.Holding.Steps.{from_layout, once}
use Rattle.tree_laws.proofs.Edits.LabelDone.{range_holds}
use Rattle.tree_laws.proofs.Whole.Rest.{one_extent}

-- ---- lists of ranges

module _ (touched : List Extent) (tree : Tree) (done : List (Edit × Tree)) (p q : Placement) where
  pub none_spared : AreSpared [] touched tree done p q
  none_spared b some = absurd (omega (arith, some))

  pub both_spared : (xs ys : List Extent) → AreSpared xs touched tree done p q → AreSpared ys touched tree done p q → AreSpared (xs ++ ys) touched tree done p q
  both_spared xs ys x y b some = elim (less_or 0 (cover xs b)) [
    | inl first ↦ x b first
    | inr none ↦ y b (let s = cover-append xs ys b in omega (arith, s, some, none))
  ]

  pub one_spared : (kind : _) (place n : ℕ) → ((b : ℕ) → place ≤ b → b < place + n → IsSpared touched tree done p q b) → AreSpared (extent kind place n ∷ []) touched tree done p q
  one_spared kind place n each b some = let i = range_holds place n b (omega (arith, some)) in each b i.0 i.1

  pub each_spared : (xs : List Extent) → ((x : Extent) (b : ℕ) → Contains xs x → x.place ≤ b → b < end_of x → IsSpared touched tree done p q b) → AreSpared xs touched tree done p q
  each_spared [] each = none_spared
  each_spared (x ∷ xs) each =
      both_spared (x ∷ []) xs (one_spared x.kind x.place x.length (λ b low high. each x b (0, omega arith, refl) low high))
      (each_spared xs (λ y b c low high. each y b (Contains-append_right (x ∷ []) xs y c) low high))

-- a byte that is not within a range lies outside of it
outside_or : (place n b : ℕ) → (place ≤ b → b < place + n → ⊥) → IsOutside place n b
outside_or place n b not_in = elim (leb_tells place b) [
  | inr before ↦ inl before.1
  | inl from ↦ elim (leb_tells (place + n) b) [ inl behind ↦ inr behind.1 | inr inside ↦ absurd (not_in from.1 inside.1) ]
]

pub dims_fit : (wide : Bool) → 130 + 12 * dimension_digits wide ≤ node_length wide
dims_fit false = omega arith
dims_fit true = omega arith

-- ---- the parts of one node

abbrev pub header_of : Bool → NodeParts → Extent
header_of wide from = extent ExtentKind.Node from.header (node_length wide)

abbrev pub list_part : TablePart → Extent
list_part t = extent ExtentKind.SubNodes t.place (table_length t.entries)

pub header_own : (wide : Bool) (from : NodeParts) → Contains (node_extents wide from) (header_of wide from)
header_own wide from = (0, omega arith, refl)

pub table_own : (wide : Bool) (from : NodeParts) (t : TablePart) → from.table ≡ Some t → Contains (node_extents wide from) (list_part t)
table_own wide from t has =
    Contains-append_left (header_of wide from ∷ table_extents from.table ++ chunk_table_extents from.chunk_table (length from.chunks)) (chunk_extents from.chunks) (list_part t)
    (Contains-append_right (header_of wide from ∷ []) (table_extents from.table ++ chunk_table_extents from.chunk_table (length from.chunks)) (list_part t)
    (Contains-append_left (table_extents from.table) (chunk_table_extents from.chunk_table (length from.chunks)) (list_part t)
    (subst (λ (o : Option TablePart). Contains (table_extents o) (list_part t)) (sym has) (0, omega arith, refl))))

module _ (touched : List Extent) (tree : Tree) (done : List (Edit × Tree)) (p q : Placement) (old : List ℕ) (l : LaysOut old tree p) (k : ℕ) (from : NodeParts) (at : parts_of p k ≡ Some from) where
  -- two parts of the node that hold one byte are one
  same_part : (x y : Extent) (b : ℕ) → Contains (node_extents tree.wide from) x → x.place ≤ b → b < end_of x → Contains (node_extents tree.wide from) y → y.place ≤ b → b < end_of y → x ≡ y
  same_part x y b cx low high cy low' high' =
      one_extent (node_extents tree.wide from) b (let one = once old tree p [] (from_layout old tree p l) b in let live = one_of tree.wide p.parts k b from at in omega (arith, one, live)) x y cx low high cy low' high'

  -- a part of another kind than a header has none of its bytes
  not_header : (x : Extent) (b : ℕ) → (x.kind ≡ ExtentKind.Node → ⊥) → Contains (node_extents tree.wide from) x → x.place ≤ b → b < end_of x → from.header ≤ b → b < from.header + node_length tree.wide → ⊥
  not_header x b other cx low high from_low from_high = other (ap (λ (e : Extent). e.kind) (same_part x (header_of tree.wide from) b cx low high (header_own tree.wide from) from_low from_high))

  not_table : (b : ℕ) (t : TablePart) → from.table ≡ Some t → from.header ≤ b → b < from.header + node_length tree.wide → t.place ≤ b → b < t.place + table_length t.entries → ⊥
  not_table b t has low high low' high' = other (ap (λ (e : Extent). e.kind) (same_part (header_of tree.wide from) (list_part t) b (header_own tree.wide from) low high (table_own tree.wide from t has) low' high'))
    where
      other : ExtentKind.Node ≡ ExtentKind.SubNodes → ⊥
      other e = cc

  -- a field of the header that is none of the dimensions
  pub header_spared : (o n b : ℕ) → (o + n ≤ 130) ⊎ (130 + 12 * dimension_digits tree.wide ≤ o) → o + n ≤ node_length tree.wide → Contains touched (header_of tree.wide from) → from.header + o ≤ b → b < from.header + o + n → IsSpared touched tree done p q b
  header_spared o n b aside fits c low high = record {
    serial = k;
    from = from;
    part = header_of tree.wide from;
    stands = at;
    own = header_own tree.wide from;
    open' = c;
    low = omega (arith, low);
    high = omega (arith, high, fits);
    rest = λ to then. record {
      dims = λ free. beside aside;
      past = farther aside;
      unused = λ t has still. outside_or (t.place + (16 + 44 * most_children tree done k)) (16 + 44 * t.entries - (16 + 44 * most_children tree done k)) b
          (λ first last. not_table b t has (omega (arith, low)) (omega (arith, high, fits)) (omega (arith, first)) (omega (arith, first, last)));
    };
  }
    where
      beside : (o + n ≤ 130) ⊎ (130 + 12 * dimension_digits tree.wide ≤ o) → IsOutside (from.header + 130) (12 * dimension_digits tree.wide) b
      beside (inl before) = inl (omega (arith, high, before))
      beside (inr behind) = inr (omega (arith, low, behind))

      farther : (o + n ≤ 130) ⊎ (130 + 12 * dimension_digits tree.wide ≤ o)
          → IsOutside (from.header + 130 + most_dims tree done k * dimension_digits tree.wide) (12 * dimension_digits tree.wide - most_dims tree done k * dimension_digits tree.wide) b
      farther (inl before) = inl (omega (arith, high, before))
      farther (inr behind) = elim (leb_tells (from.header + 130 + most_dims tree done k * dimension_digits tree.wide) b) [
        | inr early ↦ inl early.1
        | inl late ↦ inr (let h = late.1 in omega (arith, low, behind, h))
      ]

  -- the type, the rank and the dimensions up to it, where the shape is set
  pub shape_spared : (m b : ℕ) → m ≤ most_dims tree done k → m ≤ 12 → Contains (group_shaped done) k → Contains touched (header_of tree.wide from) → from.header ≤ b → b < from.header + 130 + m * dimension_digits tree.wide → IsSpared touched tree done p q b
  shape_spared m b most few shaped c low high = record {
    serial = k;
    from = from;
    part = header_of tree.wide from;
    stands = at;
    own = header_own tree.wide from;
    open' = c;
    low = low;
    high = last;
    rest = λ to then. record {
      dims = λ free. absurd (free shaped);
      past = inl (let p = product m (most_dims tree done k) most in omega (arith, high, p));
      unused = λ t has still. outside_or (t.place + (16 + 44 * most_children tree done k)) (16 + 44 * t.entries - (16 + 44 * most_children tree done k)) b
          (λ first final. not_table b t has low last (omega (arith, first)) (omega (arith, first, final)));
    };
  }
    where
      product : (a b : ℕ) → a ≤ b → a * dimension_digits tree.wide ≤ b * dimension_digits tree.wide
      product a b le = omega (arith, mul-le-mul_left (dimension_digits tree.wide) le)

      last : b < from.header + node_length tree.wide
      last = let f = dims_fit tree.wide in let p = product m 12 few in omega (arith, high, f, p)

  -- entries of the table, up to the most that are in use
  pub entries_spared : (t : TablePart) (m b : ℕ) → from.table ≡ Some t → m ≤ most_children tree done k → m ≤ t.entries → Contains touched (list_part t) → t.place ≤ b → b < t.place + 16 + 44 * m → IsSpared touched tree done p q b
  entries_spared t m b has most fits c low high = record {
    serial = k;
    from = from;
    part = list_part t;
    stands = at;
    own = table_own tree.wide from t has;
    open' = c;
    low = low;
    high = omega (arith, high, fits);
    rest = λ to then. record {
      dims = λ free. outside_or (from.header + 130) (12 * dimension_digits tree.wide) b
          (λ first last. let f = dims_fit tree.wide in not_table b t has (omega (arith, first)) (omega (arith, last, f)) low (omega (arith, high, fits)));
      past = outside_or (from.header + 130 + most_dims tree done k * dimension_digits tree.wide) (12 * dimension_digits tree.wide - most_dims tree done k * dimension_digits tree.wide) b
          (λ first last. let f = dims_fit tree.wide in not_table b t has (omega (arith, first)) (omega (arith, first, last, f)) low (omega (arith, high, fits)));
      unused = λ u has' still. inl (let same = ap (λ (x : TablePart). x.place) (same_Some u t (sym has' ∙ has)) in omega (arith, same, high, most));
    };
  }

  -- a part that is no header, and no table that stays
  pub part_spared : (x : Extent) (b : ℕ) → (x.kind ≡ ExtentKind.Node → ⊥) → Contains (node_extents tree.wide from) x → Contains touched x
      → ((to : NodeParts) (t : TablePart) → parts_of q k ≡ Some to → from.table ≡ Some t → to.table ≡ Some t → x ≡ list_part t → ⊥) → x.place ≤ b → b < end_of x → IsSpared touched tree done p q b
  part_spared x b other cx c moves low high = record {
    serial = k;
    from = from;
    part = x;
    stands = at;
    own = cx;
    open' = c;
    low = low;
    high = high;
    rest = λ to then. record {
      dims = λ free. outside_or (from.header + 130) (12 * dimension_digits tree.wide) b
          (λ first last. let f = dims_fit tree.wide in not_header x b other cx low high (omega (arith, first)) (omega (arith, last, f)));
      past = outside_or (from.header + 130 + most_dims tree done k * dimension_digits tree.wide) (12 * dimension_digits tree.wide - most_dims tree done k * dimension_digits tree.wide) b
          (λ first last. let f = dims_fit tree.wide in not_header x b other cx low high (omega (arith, first)) (omega (arith, first, last, f)));
      unused = λ t has still. outside_or (t.place + (16 + 44 * most_children tree done k)) (16 + 44 * t.entries - (16 + 44 * most_children tree done k)) b
          (λ first last. moves to t then has still (same_part x (list_part t) b cx low high (table_own tree.wide from t has) (omega (arith, first)) (omega (arith, first, last))));
    };
  }

  -- any part of a node that is gone
  pub gone_spared : (x : Extent) (b : ℕ) → parts_of q k ≡ None → Contains (node_extents tree.wide from) x → Contains touched x → x.place ≤ b → b < end_of x → IsSpared touched tree done p q b
  gone_spared x b gone cx c low high = record {
    serial = k;
    from = from;
    part = x;
    stands = at;
    own = cx;
    open' = c;
    low = low;
    high = high;
    rest = λ to then. absurd (not_there to (sym gone ∙ then));
  }
