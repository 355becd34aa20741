-- What the runs and the length of data that are put say, of all data and of a part.
use Rattle.std.proofs.Common.{◌≡◌, ℕ, refl, sym, ◌∙◌, ap, subst, arith, List, length, replicate, ◌*◌, ◌-◌, ◌^◌, ◌≤◌, min, true, false, ◌==◌, Option, Some}
use Rattle.std.proofs.lemmas.List.FromFn.{length-range_with_len}
use Rattle.std.proofs.lemmas.Nat.{mul-le}
use Rattle.std.specs.Prelude.{IfSome, unwrap_or}
use Rattle.std.specs.List.{All}
use Rattle.adf_format.specs.Names.{is_mt, data_size, element_size, product}
use Rattle.adf_model.specs.declared.lists.Run.{Run}
use Rattle.adf_model.specs.declared.tree.NodeId.{NodeId}
use Rattle.adf_model.specs.declared.tree.Selection.{Selection}
use Rattle.adf_model.specs.declared.tree.Shape.{Shape}
use Rattle.adf_model.specs.Selection.{selection_fits, each_axis_fits, elements, with_elements}
use Rattle.adf_model.specs.Shapes.{is_shape, shape_size, dims_of as shape_dims}
use Rattle.adf_model.proofs.Basics.{and_parts}
use Rattle.adf_model.proofs.Keeping.PartKeeps.{AllBelow, elements_below, length-with_elements}
use Rattle.adf_records.specs.declared.NodeHeader.{NodeHeader}
use Rattle.adf_data.specs.Runs.{EndsIn}
use Rattle.strided.specs.RunLists.{spread, EndsWithin}
use Rattle.tree_asks.specs.Headers.{dims_of, data_shape_of}
use Rattle.tree_asks.proofs.DataReads.{runs_end}
use Rattle.tree_asks.proofs.NodeData.{whole_ends}
use Rattle.tree_edits.specs.declared.memory.Core.{Core}
use Rattle.tree_edits.specs.declared.rows.Row.{Row}
use Rattle.data_edits.specs.Puts.{Part, MayPut, Fills, KeepsLength, put_on, fits, part_length}
use Rattle.data_edits.proofs.Counts.{few_elements}
use Rattle.data_edits.proofs.PutDone.{IsChange}
use Rattle.data_edits.proofs.PutTests.{whole, whole_is, whole_keeps, whole_put}
use Rattle.data_edits.proofs.Reshaping.{some_of_shape}

module _ (h : NodeHeader) (shape : Shape) (shape_is : shape ≡ data_shape_of h) (small : data_size h.kind (dims_of h) ≤ 2 ^ 30) where
  pub size_is : (n : ℕ) → n ≡ shape_size shape → n ≡ data_size h.kind (dims_of h)
  size_is n e = e ∙ ap shape_size shape_is ∙ least (data_size h.kind (dims_of h)) small
    where
      least : (s : ℕ) → s ≤ 2 ^ 30 → min s (2 ^ 64 - 1) ≡ s
      least s le = omega (arith, le)

  pub some_is : (n : ℕ) → n ≡ shape_size shape → is_mt h.kind ≡ false → is_shape true (data_shape_of h) ≡ true → 1 ≤ n
  some_is n e filled good = let s = size_is n e in let some = some_of_shape true (data_shape_of h) good filled in omega (arith, s, some)

-- ---- all data

pub all_fills : (core : Core) (node : NodeId) (given : List ℕ) (held : Option (List ℕ)) (row : Row) (h : NodeHeader) → length given ≡ data_size h.kind (dims_of h) → MayPut core node held row h → Fills core node Part.Whole given held row h
all_fills core node given held row h long may = record { put = may; fit = refl; long = long }

pub all_change : (core : Core) (node : NodeId) (given : List ℕ) (h : NodeHeader) → IsChange core node Part.Whole given h (λ was. Some given)
all_change core node given h m kind dims was = refl

-- the one run of them
module _ (n : ℕ) (given : List ℕ) (long : length given ≡ n) (runs : List Run) (run : runs ≡ whole n) where
  pub all_ends : All (EndsIn 1 n) runs
  all_ends = subst (All (EndsIn 1 n)) (sym run) (whole_ends n n (omega arith))

  pub all_bytes : length given ≡ 1 * length (spread runs)
  all_bytes = let e = ap (λ rs. length (spread rs)) run ∙ ap length (whole_is n) ∙ length-range_with_len 0 n in omega (arith, e, long)

  pub all_keeps : KeepsLength n 1 (spread runs) given
  all_keeps = subst (λ rs. KeepsLength n 1 (spread rs) given) (sym run) (whole_keeps n given long)

  pub all_put : (bytes : Option (List ℕ)) → IfSome bytes (λ (b : List ℕ). length b ≡ n) → put_on n 1 (spread runs) given bytes ≡ Some given
  all_put bytes was = ap (λ rs. put_on n 1 (spread rs) given bytes) run ∙ sym (whole_put n given bytes long was)

-- ---- a part

module _ (core : Core) (node : NodeId) (selection : Selection) (given : List ℕ) (held : Option (List ℕ)) (row : Row) (h : NodeHeader) (shape : Shape) (shape_is : shape ≡ data_shape_of h)
    (element : ℕ) (element_is : element ≡ element_size shape.kind) (runs : List Run) (chosen : spread runs ≡ elements (shape_dims shape) selection) (fit : selection_fits (shape_dims shape) selection ≡ true) where
  width : element ≡ element_size h.kind
  width = element_is ∙ ap (λ (s : Shape). element_size s.kind) shape_is

  chosen_is : spread runs ≡ elements (dims_of h) selection
  chosen_is = chosen ∙ ap (λ (s : Shape). elements (shape_dims s) selection) shape_is

  pub fit_said : fits (Part.Chosen selection) h ≡ true
  fit_said = ap (λ (s : Shape). selection_fits (shape_dims s) selection) (sym shape_is) ∙ fit

  pub long_said : element * length (spread runs) ≡ part_length (Part.Chosen selection) h
  long_said = ap (λ w. w * length (spread runs)) width ∙ ap (λ es. element_size h.kind * length es) chosen_is

  pub part_few : data_size h.kind (dims_of h) ≤ 2 ^ 30 → element * length (spread runs) ≤ 2 ^ 30
  part_few small =
      let few = few_elements (dims_of h) selection fit_said in
      let most = mul-le (element_size h.kind) (length (elements (dims_of h) selection)) (element_size h.kind) (product (dims_of h)) (omega arith) few in
      omega (arith, long_said, most, small)

module _ (core : Core) (node : NodeId) (selection : Selection) (given : List ℕ) (held : Option (List ℕ)) (row : Row) (h : NodeHeader) (shape : Shape) (shape_is : shape ≡ data_shape_of h) (n : ℕ) (n_is : n ≡ data_size h.kind (dims_of h))
    (element : ℕ) (element_is : element ≡ element_size shape.kind) (runs : List Run) (chosen : spread runs ≡ elements (shape_dims shape) selection) (fit : selection_fits (shape_dims shape) selection ≡ true) (long : length given ≡ element * length (spread runs)) where
  pub part_fills : MayPut core node held row h → Fills core node (Part.Chosen selection) given held row h
  part_fills may = record { put = may; fit = fit_said core node selection given held row h shape shape_is element element_is runs chosen fit; long = long ∙ long_said core node selection given held row h shape shape_is element element_is runs chosen fit }

  size_by : n ≡ element * product (dims_of h)
  size_by = n_is ∙ ap (λ w. w * product (dims_of h)) (sym (width core node selection given held row h shape shape_is element element_is runs chosen fit))

  pub part_ends : All (EndsWithin (product (shape_dims shape))) runs → All (EndsIn element n) runs
  part_ends within = runs_end element (product (dims_of h)) n runs (subst (λ (s : Shape). All (EndsWithin (product (shape_dims s))) runs) shape_is within) (let e = size_by in omega (arith, e))

  pub part_keeps : KeepsLength n element (spread runs) given
  part_keeps old was =
      length-with_elements element (product (dims_of h)) (spread runs) given old
      (subst (λ es. AllBelow (product (dims_of h)) es) (sym (chosen_is core node selection given held row h shape shape_is element element_is runs chosen fit)) (elements_below (dims_of h) selection.start selection.end selection.stride (and_parts (selection.rank == length (dims_of h)) (each_axis_fits (dims_of h) selection.start selection.end selection.stride) (fit_said core node selection given held row h shape shape_is element element_is runs chosen fit)).1))
      (was ∙ size_by) ∙ was

  pub part_change : IsChange core node (Part.Chosen selection) given h (put_on n element (spread runs) given)
  part_change m kind dims was =
      ap (λ k. Some (with_elements (element_size k) (elements m.dims selection) given (unwrap_or m.bytes (replicate (data_size k m.dims) 0)))) kind
      ∙ ap (λ ds. Some (with_elements (element_size h.kind) (elements ds selection) given (unwrap_or m.bytes (replicate (data_size h.kind ds) 0)))) dims
      ∙ ap (λ w. Some (with_elements w (elements (dims_of h) selection) given (unwrap_or m.bytes (replicate (data_size h.kind (dims_of h)) 0)))) (sym (width core node selection given held row h shape shape_is element element_is runs chosen fit))
      ∙ ap (λ es. Some (with_elements element es given (unwrap_or m.bytes (replicate (data_size h.kind (dims_of h)) 0)))) (sym (chosen_is core node selection given held row h shape shape_is element element_is runs chosen fit))
      ∙ ap (λ k. Some (with_elements element (spread runs) given (unwrap_or m.bytes (replicate k 0)))) (sym n_is)
