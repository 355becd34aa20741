-- The elements of a selection, dimension by dimension.
use Rattle.std.proofs.Common.{◌≡◌, ℕ, zero, suc, ◌+◌, ◌*◌, ◌^◌, ◌<◌, ◌≤◌, Bool, true, false, List, [], ◌∷◌, ◌++◌, length, take, drop, get_or, refl, sym, ◌∙◌, ap, subst, arith}
use Rattle.std.specs.Prelude.{◌&&◌, ◌==◌, nat_le}
use Rattle.std.specs.List.{All, flat_map, list_all, range_with_len}
use Rattle.std.proofs.lemmas.List.{drop_more, get_or-take, length-take-le}
use Rattle.std.proofs.lemmas.List.Elements.{All-nil, All-cons}
use Rattle.std.proofs.lemmas.Bool.Decides.{nat_tests}
use Rattle.std.proofs.Math.Nat.{mul-le-mul_left, mul-le-mul_right}
use Rattle.adf_format.specs.declared.types.DataType.{DataType}
use Rattle.adf_format.specs.declared.types.DataType.TheVariants.{Mt, I4, I8, U4, U8, R4, R8, X4, X8, B1, C1, Lk}
use Rattle.adf_format.specs.Names.{product, element_size, data_size, is_dimension, is_rank_of, is_shape_of}
use Rattle.adf_model.specs.declared.lists.Run.{Run}
use Rattle.adf_model.specs.declared.tree.Shape.{Shape}
use Rattle.adf_model.specs.Shapes.{dims_of, is_shape}
use Rattle.adf_model.specs.Selection.{each_axis_fits, elements_from}
use Rattle.adf_model.proofs.Basics.{and_parts, not_true, equal}
use Rattle.adf_model.proofs.Keeping.PartKeeps.{AllBelow, elements_below}
use Rattle.strided.specs.declared.axis.Axis.{Axis}
use Rattle.strided.specs.RunLists.{elements_of, spread, EndsWithin, AreMaximal}
use Rattle.strided.specs.Axes.{axis_fits, Fits, row_of, HasRoom}

-- ---- one dimension more

-- the axis has the numbers at a place of the lists
pub record IsAxisAt (axis : Axis) (dims starts ends strides : List ℕ) (i : ℕ) : Type 0 where
  pub dim : drop i dims ≡ axis.dim ∷ drop (i + 1) dims
  pub start : drop i starts ≡ axis.start ∷ drop (i + 1) starts
  pub end : drop i ends ≡ axis.end ∷ drop (i + 1) ends
  pub stride : drop i strides ≡ axis.stride ∷ drop (i + 1) strides

module _ (axis : Axis) (dims starts ends strides : List ℕ) (i : ℕ) (at : IsAxisAt axis dims starts ends strides i) where
  pub fits_more : each_axis_fits (drop i dims) (drop i starts) (drop i ends) (drop i strides) ≡ (axis_fits axis && each_axis_fits (drop (i + 1) dims) (drop (i + 1) starts) (drop (i + 1) ends) (drop (i + 1) strides))
  fits_more = rw (at.dim, at.start, at.end, at.stride) refl

  pub elements_more : elements_from (drop i dims) (drop i starts) (drop i ends) (drop i strides) ≡ flat_map (row_of axis) (elements_from (drop (i + 1) dims) (drop (i + 1) starts) (drop (i + 1) ends) (drop (i + 1) strides))
  elements_more = rw (at.dim, at.start, at.end, at.stride) refl

  pub product_more : product (drop i dims) ≡ axis.dim * product (drop (i + 1) dims)
  product_more = rw (at.dim) refl

le_of_test : (m n : ℕ) → nat_le m n ≡ true → m ≤ n
le_of_test m n h = grind (arith, nat_tests)

pub Fits-from_test : (axis : Axis) → axis_fits axis ≡ true → Fits axis
Fits-from_test axis e =
    let a = and_parts (nat_le 1 axis.start && nat_le axis.start axis.end && nat_le axis.end axis.dim) (nat_le 1 axis.stride) e in
    let b = and_parts (nat_le 1 axis.start && nat_le axis.start axis.end) (nat_le axis.end axis.dim) a.0 in
    let c = and_parts (nat_le 1 axis.start) (nat_le axis.start axis.end) b.0 in
    record { start = le_of_test 1 axis.start c.0; ordered = le_of_test axis.start axis.end c.1; end = le_of_test axis.end axis.dim b.1; stride = le_of_test 1 axis.stride a.1 }

-- the numbers at a place make an axis
pub axis_at : (axis : Axis) (dims starts ends strides : List ℕ) (rank i : ℕ) → i < rank → rank ≤ length dims → rank ≤ length starts → rank ≤ length ends → rank ≤ length strides
    → axis.dim ≡ get_or dims i 0 → axis.start ≡ get_or starts i 0 → axis.end ≡ get_or ends i 0 → axis.stride ≡ get_or strides i 0 → IsAxisAt axis (take rank dims) starts ends strides i
axis_at axis dims starts ends strides rank i lt long_dims long_starts long_ends long_strides dim start end stride =
    let long : length (take rank dims) ≡ rank = length-take-le rank dims long_dims in
    let first : get_or (take rank dims) i 0 ≡ axis.dim = get_or-take rank dims i 0 lt ∙ sym dim in
    record {
      dim = drop_more (take rank dims) i 0 (omega (arith, long, lt)) ∙ ap (λ n. n ∷ drop (i + 1) (take rank dims)) first;
      start = drop_more starts i 0 (omega (arith, long_starts, lt)) ∙ ap (λ n. n ∷ drop (i + 1) starts) (sym start);
      end = drop_more ends i 0 (omega (arith, long_ends, lt)) ∙ ap (λ n. n ∷ drop (i + 1) ends) (sym end);
      stride = drop_more strides i 0 (omega (arith, long_strides, lt)) ∙ ap (λ n. n ∷ drop (i + 1) strides) (sym stride);
    }

pub and-false : (b : Bool) → (b && false) ≡ false
and-false true = refl
and-false false = refl

-- ---- bounds

-- what fits as a whole fits from each dimension on
pub fits_behind : (i : ℕ) (dims starts ends strides : List ℕ) → each_axis_fits dims starts ends strides ≡ true → each_axis_fits (drop i dims) (drop i starts) (drop i ends) (drop i strides) ≡ true
fits_behind zero dims starts ends strides e = e
fits_behind (suc i) [] starts ends strides e = refl
fits_behind (suc i) (dim ∷ dims) [] ends strides e = absurd (not_true e)
fits_behind (suc i) (dim ∷ dims) (start ∷ starts) [] strides e = absurd (not_true e)
fits_behind (suc i) (dim ∷ dims) (start ∷ starts) (end ∷ ends) [] e = absurd (not_true e)
fits_behind (suc i) (dim ∷ dims) (start ∷ starts) (end ∷ ends) (stride ∷ strides) e =
    fits_behind i dims starts ends strides (and_parts (nat_le 1 start && nat_le start end && nat_le end dim && nat_le 1 stride) (each_axis_fits dims starts ends strides) e).1

-- and has no more elements there
pub product_behind : (i : ℕ) (dims starts ends strides : List ℕ) → each_axis_fits dims starts ends strides ≡ true → product (drop i dims) ≤ product dims
product_behind zero dims starts ends strides e = omega arith
product_behind (suc i) [] starts ends strides e = omega arith
product_behind (suc i) (dim ∷ dims) [] ends strides e = absurd (not_true e)
product_behind (suc i) (dim ∷ dims) (start ∷ starts) [] strides e = absurd (not_true e)
product_behind (suc i) (dim ∷ dims) (start ∷ starts) (end ∷ ends) [] e = absurd (not_true e)
product_behind (suc i) (dim ∷ dims) (start ∷ starts) (end ∷ ends) (stride ∷ strides) e =
    let parts = and_parts (nat_le 1 start && nat_le start end && nat_le end dim && nat_le 1 stride) (each_axis_fits dims starts ends strides) e in
    let fits = Fits-from_test (record { dim = dim; start = start; end = end; stride = stride }) parts.0 in
    let some : 1 ≤ dim = omega (arith, fits.start, fits.ordered, fits.end) in
    let grows : 1 * product dims ≤ dim * product dims = mul-le-mul_right (product dims) some in
    let rest : product (drop i dims) ≤ product dims = product_behind i dims starts ends strides parts.1 in
    omega (arith, grows, rest)

-- the elements of runs are below a bound: so are their ends
below_parts : (n : ℕ) (xs ys : List ℕ) → AllBelow n (xs ++ ys) → AllBelow n xs × AllBelow n ys
below_parts n [] ys all = (tt, all)
below_parts n (x ∷ xs) ys all = let rest = below_parts n xs ys all.1 in ((all.0, rest.0), rest.1)

end_below : (n first count : ℕ) → 1 ≤ count → AllBelow n (range_with_len first count) → first + count ≤ n
end_below n first zero some all = absurd (omega (arith, some))
end_below n first (suc zero) some all = omega (arith, all.0)
end_below n first (suc (suc count)) some all =
    let rest : first + 1 + suc count ≤ n = end_below n (first + 1) (suc count) (omega arith) all.1 in
    omega (arith, rest)

pub ends_below : (n : ℕ) (runs : List Run) → AreMaximal runs → AllBelow n (spread runs) → All (EndsWithin n) runs
ends_below n [] m all = All-nil (EndsWithin n)
ends_below n (run ∷ runs) m all =
    let parts = below_parts n (elements_of run) (spread runs) all in
    All-cons (EndsWithin n) run runs (end_below n run.first run.count m.0 parts.0) (ends_below n runs m.2 parts.1)

pub room_of_rows : (dim n : ℕ) (runs : List Run) → dim * n ≤ 2 ^ 30 → All (EndsWithin n) runs → All (HasRoom dim) runs
room_of_rows dim n runs few all k d lt =
    let here : dim * ((get_or runs k d).first + (get_or runs k d).count) ≤ dim * n = mul-le-mul_left dim (all k d lt) in
    omega (arith, here, few)

-- a selection that fits has numbers for each dimension
pub record IsLong (dims starts ends strides : List ℕ) : Type 0 where
  pub for_starts : length dims ≤ length starts
  pub for_ends : length dims ≤ length ends
  pub for_strides : length dims ≤ length strides

pub long_enough : (dims starts ends strides : List ℕ) → each_axis_fits dims starts ends strides ≡ true → IsLong dims starts ends strides
long_enough [] starts ends strides e = record { for_starts = omega arith; for_ends = omega arith; for_strides = omega arith }
long_enough (dim ∷ dims) [] ends strides e = absurd (not_true e)
long_enough (dim ∷ dims) (start ∷ starts) [] strides e = absurd (not_true e)
long_enough (dim ∷ dims) (start ∷ starts) (end ∷ ends) [] e = absurd (not_true e)
long_enough (dim ∷ dims) (start ∷ starts) (end ∷ ends) (stride ∷ strides) e =
    let rest = long_enough dims starts ends strides (and_parts (nat_le 1 start && nat_le start end && nat_le end dim && nat_le 1 stride) (each_axis_fits dims starts ends strides) e).1 in
    record { for_starts = omega (arith, rest.for_starts); for_ends = omega (arith, rest.for_ends); for_strides = omega (arith, rest.for_strides) }

-- the axis of a selection that fits
pub fitting_axis : (axis : Axis) (dims starts ends strides : List ℕ) (rank i : ℕ) → each_axis_fits (take rank dims) starts ends strides ≡ true → i < rank → rank ≤ length dims
    → axis.dim ≡ get_or dims i 0 → axis.start ≡ get_or starts i 0 → axis.end ≡ get_or ends i 0 → axis.stride ≡ get_or strides i 0 → IsAxisAt axis (take rank dims) starts ends strides i
fitting_axis axis dims starts ends strides rank i fits lt long_dims dim start end stride =
    let long = long_enough (take rank dims) starts ends strides fits in
    let whole : length (take rank dims) ≡ rank = length-take-le rank dims long_dims in
    axis_at axis dims starts ends strides rank i lt long_dims (omega (arith, whole, long.for_starts)) (omega (arith, whole, long.for_ends)) (omega (arith, whole, long.for_strides)) dim start end stride

-- ---- a step from the elements of the later dimensions to those of one more

module _ (axis : Axis) (dims starts ends strides : List ℕ) (i : ℕ) (at : IsAxisAt axis dims starts ends strides i) (fits : each_axis_fits dims starts ends strides ≡ true) where
  pub fits_at : Fits axis
  fits_at = Fits-from_test axis (and_parts (axis_fits axis) (each_axis_fits (drop (i + 1) dims) (drop (i + 1) starts) (drop (i + 1) ends) (drop (i + 1) strides)) (sym (fits_more axis dims starts ends strides i at) ∙ fits_behind i dims starts ends strides fits)).0

  pub room_at : product dims ≤ 2 ^ 30 → (found : List Run) → AreMaximal found → spread found ≡ elements_from (drop (i + 1) dims) (drop (i + 1) starts) (drop (i + 1) ends) (drop (i + 1) strides) → All (HasRoom axis.dim) found
  room_at few found maximal e =
      let n = product (drop (i + 1) dims) in
      let here : product (drop i dims) ≡ axis.dim * n = product_more axis dims starts ends strides i at in
      let less : product (drop i dims) ≤ product dims = product_behind i dims starts ends strides fits in
      let below = elements_below (drop (i + 1) dims) (drop (i + 1) starts) (drop (i + 1) ends) (drop (i + 1) strides) (fits_behind (i + 1) dims starts ends strides fits) in
      room_of_rows axis.dim n found (omega (arith, here, less, few)) (ends_below n found maximal (subst (AllBelow n) (sym e) below))

-- the runs of all dimensions lie within the array
pub runs_within : (dims starts ends strides : List ℕ) → each_axis_fits dims starts ends strides ≡ true → (found : List Run) → AreMaximal found → spread found ≡ elements_from dims starts ends strides → All (EndsWithin (product dims)) found
runs_within dims starts ends strides fits found maximal e = ends_below (product dims) found maximal (subst (AllBelow (product dims)) (sym e) (elements_below dims starts ends strides fits))

-- a shape has at most as many elements as bytes, but for the empty type, whose one element has none
pub few_elements : (shape : Shape) → is_shape true shape ≡ true → data_size shape.kind (dims_of shape) ≤ 2 ^ 30 → product (dims_of shape) ≤ 2 ^ 30
few_elements shape e small =
    let dims = dims_of shape in
    let shaped = (and_parts (nat_le shape.rank 12) (is_shape_of true shape.kind dims) e).1 in
    by_kind shape.kind dims shaped small
  where
    by_kind : (kind : DataType) (dims : List ℕ) → is_shape_of true kind dims ≡ true → element_size kind * product dims ≤ 2 ^ 30 → product dims ≤ 2 ^ 30
    by_kind Mt [] e small = omega arith
    by_kind Mt (dim ∷ dims) e small =
        let parts = and_parts ((suc (length dims) == 0) && nat_le (suc (length dims)) 12) (list_all (is_dimension true) (dim ∷ dims)) e in
        let none : suc (length dims) ≡ 0 = equal (suc (length dims)) 0 (and_parts (suc (length dims) == 0) (nat_le (suc (length dims)) 12) parts.0).0 in
        absurd (omega (arith, none))
    by_kind I4 dims e small = omega (arith, small)
    by_kind I8 dims e small = omega (arith, small)
    by_kind U4 dims e small = omega (arith, small)
    by_kind U8 dims e small = omega (arith, small)
    by_kind R4 dims e small = omega (arith, small)
    by_kind R8 dims e small = omega (arith, small)
    by_kind X4 dims e small = omega (arith, small)
    by_kind X8 dims e small = omega (arith, small)
    by_kind B1 dims e small = omega (arith, small)
    by_kind C1 dims e small = omega (arith, small)
    by_kind Lk dims e small = omega (arith, small)

pub few_dimensions : (shape : Shape) → is_shape true shape ≡ true → shape.rank ≤ 12
few_dimensions shape e = le_of_test shape.rank 12 (and_parts (nat_le shape.rank 12) (is_shape_of true shape.kind (dims_of shape)) e).0

-- a shape of a narrow file is one of a wide file
pub wide_shape : (shape : Shape) → is_shape false shape ≡ true → is_shape true shape ≡ true
wide_shape shape e =
    let dims = dims_of shape in
    let all = and_parts (nat_le shape.rank 12) (is_shape_of false shape.kind dims) e in
    let parts = and_parts (is_rank_of shape.kind (length dims) && nat_le (length dims) 12) (list_all (is_dimension false) dims) all.1 in
    ap (λ t. t && is_shape_of true shape.kind dims) all.0 ∙ ap (λ t. t && list_all (is_dimension true) dims) parts.0 ∙ wide_dims dims parts.1
  where
    wide_dim : (dim : ℕ) → is_dimension false dim ≡ true → is_dimension true dim ≡ true
    wide_dim dim e = grind (arith, nat_tests)

    wide_dims : (dims : List ℕ) → list_all (is_dimension false) dims ≡ true → list_all (is_dimension true) dims ≡ true
    wide_dims [] e = refl
    wide_dims (dim ∷ dims) e =
        let parts = and_parts (is_dimension false dim) (list_all (is_dimension false) dims) e in
        ap (λ t. t && list_all (is_dimension true) dims) (wide_dim dim parts.0) ∙ wide_dims dims parts.1
