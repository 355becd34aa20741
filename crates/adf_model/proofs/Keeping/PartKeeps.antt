-- Setting a part of the data keeps a tree sound: each element of a selection that fits lies within the data.
use Rattle.std.proofs.Common.{◌≡◌, ℕ, zero, suc, ◌+◌, ◌-◌, ◌*◌, ◌/◌, ◌<◌, ◌≤◌, true, false, not, List, [], ◌∷◌, ◌++◌, length, take, drop, replicate, map, min, refl, ◌∙◌, subst, arith, length-append}
use Rattle.std.proofs.lemmas.List.{length-take, length-drop, length-replicate}
use Rattle.std.proofs.Math.Nat.{mul-div-le, mul-le-mul_left, mul-suc}
use Rattle.std.proofs.lemmas.Bool.Decides.{nat_tests}
use Rattle.std.specs.Prelude.{Option, Some, None, IfSome, ◌==◌, ◌&&◌, nat_le, unwrap_or, Ok}
use Rattle.std.specs.List.{flat_map}
use Rattle.adf_format.specs.Names.{product, element_size}
use Rattle.adf_format.specs.Tree.{Node, Tree, node_at, is_link, IsTree}
use Rattle.adf_model.specs.declared.error.AdfError.{AdfError}
use Rattle.adf_model.specs.declared.tree.Edit.{Edit}
use Rattle.adf_model.specs.declared.tree.NodeId.{NodeId}
use Rattle.adf_model.specs.declared.tree.Selection.{Selection}
use Rattle.adf_model.specs.Selection.{each_axis_fits, selection_fits, spaced, indices, elements_from, elements, written_over, with_elements}
use Rattle.adf_model.specs.Edits.{apply, with_node, with_part, data_tests, length_test, part_size, size_of}
use Rattle.adf_model.proofs.Basics.{and_parts, not_true, not_false, same_Ok, passed, found}
use Rattle.adf_model.proofs.Keeping.Keeps.{IsTree-with_node}
use Rattle.adf_model.proofs.Keeping.DataKeeps.{IsNode-with_bytes}

-- all numbers of a list are below a bound
abbrev pub AllBelow : ℕ → List ℕ → Type 0
AllBelow n [] = Unit {0}
AllBelow n (x ∷ xs) = (x < n) × AllBelow n xs

below-append : (n : ℕ) (xs ys : List ℕ) → AllBelow n xs → AllBelow n ys → AllBelow n (xs ++ ys)
below-append n [] ys a b = b
below-append n (x ∷ xs) ys a b = (a.0, below-append n xs ys a.1 b)

-- each of some numbers from 1 is at most the end
abbrev AllWithin : ℕ → List ℕ → Type 0
AllWithin end [] = Unit {0}
AllWithin end (x ∷ xs) = (1 ≤ x) × (x ≤ end) × AllWithin end xs

spaced_within : (n first step end : ℕ) → 1 ≤ first → first + step * n ≤ end → AllWithin end (spaced first step (suc n))
spaced_within zero first step end low high = (low, omega (arith, high), tt)
spaced_within (suc n) first step end low high =
    let e : step * suc n ≡ step * n + step = mul-suc step n in
    (low, omega (arith, high, e), spaced_within n (first + step) step end (omega (arith, low)) (omega (arith, high, e)))

indices_within : (start end stride : ℕ) → 1 ≤ start → start ≤ end → AllWithin end (indices start end stride)
indices_within start end stride low high =
    let few : stride * ((end - start) / stride) ≤ end - start = mul-div-le (end - start) stride in
    let count : suc ((end - start) / stride) ≡ (end - start) / stride + 1 = omega arith in
    subst (λ n. AllWithin end (spaced start stride n)) count (spaced_within ((end - start) / stride) start stride end low (omega (arith, high, few)))

-- the elements of one row
row_below : (xs : List ℕ) (end dim later p : ℕ) → AllWithin end xs → end ≤ dim → later < p → AllBelow (dim * p) (map (λ index. (index - 1) + dim * later) xs)
row_below [] end dim later p a le lt = tt
row_below (x ∷ xs) end dim later p a le lt =
    let m : dim * suc later ≤ dim * p = mul-le-mul_left dim lt in
    let e : dim * suc later ≡ dim * later + dim = mul-suc dim later in
    (omega (arith, a.0, a.1, le, m, e), row_below xs end dim later p a.2 le lt)

rows_below : (xs : List ℕ) (start end stride dim p : ℕ) → 1 ≤ start → start ≤ end → end ≤ dim → AllBelow p xs → AllBelow (dim * p) (flat_map (λ later. map (λ index. (index - 1) + dim * later) (indices start end stride)) xs)
rows_below [] start end stride dim p low high le a = tt
rows_below (x ∷ xs) start end stride dim p low high le a =
    below-append (dim * p) (map (λ index. (index - 1) + dim * x) (indices start end stride)) _ (row_below (indices start end stride) end dim x p (indices_within start end stride low high) le a.0) (rows_below xs start end stride dim p low high le a.1)

le_of : (m n : ℕ) → nat_le m n ≡ true → m ≤ n
le_of m n e = grind (arith, nat_tests)

-- where each axis fits, the elements are within the array
pub elements_below : (dims starts ends strides : List ℕ) → each_axis_fits dims starts ends strides ≡ true → AllBelow (product dims) (elements_from dims starts ends strides)
elements_below [] starts ends strides e = (omega arith, tt)
elements_below (dim ∷ dims) [] ends strides e = absurd (not_true e)
elements_below (dim ∷ dims) (start ∷ starts) [] strides e = absurd (not_true e)
elements_below (dim ∷ dims) (start ∷ starts) (end ∷ ends) [] e = absurd (not_true e)
elements_below (dim ∷ dims) (start ∷ starts) (end ∷ ends) (stride ∷ strides) e =
    let a = and_parts (nat_le 1 start && nat_le start end && nat_le end dim && nat_le 1 stride) (each_axis_fits dims starts ends strides) e in
    let b = and_parts (nat_le 1 start && nat_le start end && nat_le end dim) (nat_le 1 stride) a.0 in
    let c = and_parts (nat_le 1 start && nat_le start end) (nat_le end dim) b.0 in
    let d = and_parts (nat_le 1 start) (nat_le start end) c.0 in
    rows_below (elements_from dims starts ends strides) start end stride dim (product dims) (le_of 1 start d.0) (le_of start end d.1) (le_of end dim c.1) (elements_below dims starts ends strides a.1)

length-written_over : (bytes : List ℕ) (place : ℕ) (piece : List ℕ) → place + length piece ≤ length bytes → length (written_over bytes place piece) ≡ length bytes
length-written_over bytes place piece le =
    let a = length-append (take place bytes ++ piece) (drop (place + length piece) bytes) in
    let b = length-append (take place bytes) piece in
    let c : length (take place bytes) ≡ min place (length bytes) = length-take place bytes in
    let d : length (drop (place + length piece) bytes) ≡ length bytes - (place + length piece) = length-drop (place + length piece) bytes in
    omega (arith, a, b, c, d, le)

-- elements within the data leave its length
pub length-with_elements : (width n : ℕ) (chosen given bytes : List ℕ) → AllBelow n chosen → length bytes ≡ width * n → length (with_elements width chosen given bytes) ≡ length bytes
length-with_elements width n [] given bytes all size = refl
length-with_elements width n (x ∷ chosen) given bytes all size =
    let c : length (take width given) ≡ min width (length given) = length-take width given in
    let m : width * suc x ≤ width * n = mul-le-mul_left width all.0 in
    let e : width * suc x ≡ width * x + width = mul-suc width x in
    let swap : x * width ≡ width * x = omega arith in
    let here : length (written_over bytes (x * width) (take width given)) ≡ length bytes = length-written_over bytes (x * width) (take width given) (omega (arith, c, m, e, swap, size)) in
    length-with_elements width n chosen (drop width given) (written_over bytes (x * width) (take width given)) all.1 (here ∙ size) ∙ here

-- the data of a node, or zeros, are as long as its size
old_size : (bytes : Option (List ℕ)) (size : ℕ) → IfSome bytes (λ bs. length bs ≡ size) → length (unwrap_or bytes (replicate size 0)) ≡ size
old_size None size is = length-replicate size 0
old_size (Some bytes) size is = is

-- where the node is no link
pub put_part_keeps : (tree after : Tree) (node : NodeId) (selection : Selection) (given : List ℕ) → IsTree tree → ((old : Node) → node_at tree node.serial ≡ Some old → is_link old ≡ false) → apply tree (Edit.PutPart node selection given) ≡ Ok after → IsTree after
put_part_keeps tree after node selection given is no_link e =
    let at = found (node_at tree node.serial) AdfError.NoSuchNode _ after e in
    let old = at.0 in
    let all = passed (data_tests old ++ (not (selection_fits old.dims selection), AdfError.BadRange) ∷ length_test (part_size old selection) given ∷ []) (Ok (with_node tree node.serial (with_part old selection given))) after at.2 in
    let fit = and_parts (selection.rank == length old.dims) (each_axis_fits old.dims selection.start selection.end selection.stride) (not_false _ all.0.1.1.0) in
    let n = is.each node.serial old at.1 in
    let before = unwrap_or old.bytes (replicate (size_of old) 0) in
    let size : length before ≡ size_of old = old_size old.bytes (size_of old) n.sized in
    let kept = length-with_elements (element_size old.kind) (product old.dims) (elements old.dims selection) given before (elements_below old.dims selection.start selection.end selection.stride fit.1) size in
    subst IsTree (same_Ok all.1)
    (IsTree-with_node tree node.serial old (with_part old selection given) at.1 refl refl is (IsNode-with_bytes tree.wide old _ n (no_link old at.1) all.0.0 (kept ∙ size)))
