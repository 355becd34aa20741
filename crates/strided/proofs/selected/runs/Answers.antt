use Rattle.std.proofs.Common.{◌≡◌, ◌≤◌, ◌+◌, ◌-◌, ℕ, List, drop, length, sym, ap, subst, ◌∙◌, arith}
use Rattle.std.specs.Prelude.{◌==◌}
use Rattle.std.specs.List.{All, flat_map}
use Rattle.adf_format.specs.Names.{product}
use Rattle.adf_model.specs.declared.lists.Run.{Run}
use Rattle.adf_model.specs.Shapes.{dims_of}
use Rattle.adf_model.specs.Selection.{each_axis_fits, elements_from}
use Rattle.adf_model.proofs.Basics.{and_parts}
use Rattle.strided.specs.RunLists.{spread, AreMaximal, EndsWithin}
use Rattle.strided.specs.Axes.{row_of}
use Rattle.strided.proofs.ElementLaws.{fitting_axis, elements_more, fits_at, room_at, runs_within, few_elements, few_dimensions}
use Rattle.strided.proofs.selected.runs.Goals as goal

pub runs_of_rows-requires-clause-fits : goal.runs_of_rows-requires-clause-fits
runs_of_rows-requires-clause-fits c =
    let shape = c.args.shape.now in
    let selection = c.args.selection.now in
    let i = c.loop-number.number - 1 in
    let few : shape.rank ≤ 12 = few_dimensions shape c.requires.shape in
    let fits = (and_parts (selection.rank == length (dims_of shape)) (each_axis_fits (dims_of shape) selection.start selection.end selection.stride) (sym c.if-not-selection_fits.ensures)).1 in
    let at = fitting_axis c.of.result shape.dims selection.start selection.end selection.stride shape.rank i fits (omega arith) (omega arith) c.of.ensures.dim c.of.ensures.start c.of.ensures.end c.of.ensures.stride in
    fits_at c.of.result (dims_of shape) selection.start selection.end selection.stride i at fits

pub runs_of_rows-requires-clause-room : goal.runs_of_rows-requires-clause-room
runs_of_rows-requires-clause-room c =
    let shape = c.args.shape.now in
    let selection = c.args.selection.now in
    let i = c.loop-number.number - 1 in
    let few : shape.rank ≤ 12 = few_dimensions shape c.requires.shape in
    let fits = (and_parts (selection.rank == length (dims_of shape)) (each_axis_fits (dims_of shape) selection.start selection.end selection.stride) (sym c.if-not-selection_fits.ensures)).1 in
    let at = fitting_axis c.of.result shape.dims selection.start selection.end selection.stride shape.rank i fits (omega arith) (omega arith) c.of.ensures.dim c.of.ensures.start c.of.ensures.end c.of.ensures.stride in
    let next : c.loop-number.number ≡ i + 1 = omega arith in
    let found = c.loop-number.found.items in
    let later = subst (λ (k : ℕ). spread found ≡ elements_from (drop k (dims_of shape)) (drop k selection.start) (drop k selection.end) (drop k selection.stride)) next c.loop-number.invariant.spread in
    room_at c.of.result (dims_of shape) selection.start selection.end selection.stride i at fits (few_elements shape c.requires.shape c.requires.size) c.deref.result.now (subst AreMaximal (sym c.deref.ensures.value) c.loop-number.invariant.maximal) (ap spread c.deref.ensures.value ∙ later)

pub loop-number-preserved : goal.loop-number-preserved
loop-number-preserved c =
    let shape = c.args.shape.now in
    let selection = c.args.selection.now in
    let i = c.loop-number.number - 1 in
    let few : shape.rank ≤ 12 = few_dimensions shape c.requires.shape in
    let fits = (and_parts (selection.rank == length (dims_of shape)) (each_axis_fits (dims_of shape) selection.start selection.end selection.stride) (sym c.if-not-selection_fits.ensures)).1 in
    let at = fitting_axis c.of.result shape.dims selection.start selection.end selection.stride shape.rank i fits (omega arith) (omega arith) c.of.ensures.dim c.of.ensures.start c.of.ensures.end c.of.ensures.stride in
    let next : c.loop-number.number ≡ i + 1 = omega arith in
    let found = c.loop-number.found.items in
    let later = subst (λ (k : ℕ). spread found ≡ elements_from (drop k (dims_of shape)) (drop k selection.start) (drop k selection.end) (drop k selection.stride)) next c.loop-number.invariant.spread in
    record {
      spread = c.in_ok-found.ensures.spread ∙ ap (flat_map (row_of c.of.result)) (ap spread c.deref.ensures.value ∙ later) ∙ sym (elements_more c.of.result (dims_of shape) selection.start selection.end selection.stride i at);
      maximal = c.in_ok-found.ensures.maximal;
    }

pub returns-clause-within : goal.returns-clause-within
returns-clause-within c =
    let shape = c.args.shape.now in
    let selection = c.args.selection.now in
    let fits = (and_parts (selection.rank == length (dims_of shape)) (each_axis_fits (dims_of shape) selection.start selection.end selection.stride) (sym c.if-not-selection_fits.ensures)).1 in
    let last : c.loop-number.number ≡ 0 = omega arith in
    let found = c.loop-number.found.items in
    let all = subst (λ (k : ℕ). spread found ≡ elements_from (drop k (dims_of shape)) (drop k selection.start) (drop k selection.end) (drop k selection.stride)) last c.loop-number.invariant.spread in
    subst (λ (runs : List Run). All (EndsWithin (product (dims_of shape))) runs) (sym c.new.ensures) (runs_within (dims_of shape) selection.start selection.end selection.stride fits found c.loop-number.invariant.maximal all)
