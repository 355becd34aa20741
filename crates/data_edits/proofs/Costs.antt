-- How many blocks an edit of the data of a node lets wait, in each tree that is meant.
use Rattle.std.proofs.Common.{◌≡◌, ◌⊎◌, inl, inr, ℕ, sym, ◌∙◌, ap, arith, List, length, min, ◌+◌, ◌-◌, ◌*◌, ◌/◌, ◌^◌, ◌<◌, ◌≤◌, Bool, true, false, not, ◌==◌, Option, None, Some}
use Rattle.std.proofs.lemmas.Bool.Decides.{nat_tests}
use Rattle.std.specs.Prelude.{IfSome, nat_le, nat_lt, if◌then◌else◌}
use Rattle.adf_format.specs.HeapRule.{parts_or_none}
use Rattle.adf_format.specs.Names.{data_size}
use Rattle.adf_format.specs.Placement.{Placement, NodeParts}
use Rattle.adf_format.specs.Tree.{Tree, Node, node_at}
use Rattle.adf_model.specs.declared.tree.Edit.{Edit}
use Rattle.adf_model.specs.declared.tree.NodeId.{NodeId}
use Rattle.adf_model.specs.declared.tree.Shape.{Shape}
use Rattle.adf_model.specs.Need.{cost, growth, size_in, kept_size as kept_in}
use Rattle.adf_model.specs.Placing.{chunk_number}
use Rattle.adf_model.proofs.Writes.Reaches.{less_or}
use Rattle.adf_records.specs.declared.NodeHeader.{NodeHeader}
use Rattle.adf_data.specs.Growing.{WaitsToGrow}
use Rattle.cg_io.specs.Waits.{how_many}
use Rattle.tree_asks.specs.Headers.{dims_of}
use Rattle.tree_edits.specs.declared.memory.Core.{Core}
use Rattle.tree_edits.specs.declared.rows.Row.{Row}
use Rattle.tree_edits.specs.Rows.{Means}
use Rattle.tree_edits.specs.Edits.{memory_of}
use Rattle.data_edits.specs.Found.{MayEdit}
use Rattle.data_edits.specs.Shaped.{MayReshape, keeps, kept_size, shape_cost, size_of_shape}
use Rattle.data_edits.specs.Puts.{Part, Fills, edit_of, put_cost}
use Rattle.data_edits.proofs.Owned.{i, keeps_is}
use Rattle.data_edits.proofs.Reshaping.{stays_some}

-- the most blocks of an edit that adds so many bytes to data in so many chunks
abbrev of_bytes : ℕ → ℕ → ℕ
of_bytes chunks more = 64 * (1 + chunks) + (more + 4095) / 4096

module _ (image : List ℕ) (core : Core) (node : NodeId) (row : Row) (h : NodeHeader) (may : MayEdit core node (Some image) row h) (tree : Tree) (p : Placement) (m : Means image tree p (memory_of core)) where
  abbrev its : Node
  its = (i image core node row h may tree p m).node

  live : node_at tree node.serial ≡ Some its
  live = (i image core node row h may tree p m).is.live

  -- its chunks and its bytes are those that the header says
  chunks_is : chunk_number p node.serial ≡ h.chunks
  chunks_is =
      ap (λ (o : Option NodeParts). length (parts_or_none o).chunks) (i image core node row h may tree p m).is.stands
      ∙ sym (i image core node row h may tree p m).fields.chunks

  bytes_is : size_in (node_at tree node.serial) ≡ data_size h.kind (dims_of h)
  bytes_is =
      ap size_in live
      ∙ ap (λ k. data_size k its.dims) (sym (i image core node row h may tree p m).fields.kind)
      ∙ ap (data_size h.kind) (sym (i image core node row h may tree p m).dims)

  kept_is : (shape : Shape) → kept_in (node_at tree node.serial) shape ≡ kept_size h shape
  kept_is shape =
      ap (λ o. kept_in o shape) live
      ∙ ap (λ (k : Bool). if k then Some (size_of_shape shape) else None) (keeps_is image core node row h may tree p m shape)

  shape_costs : (shape : Shape) → shape_cost h shape ≡ of_bytes (chunk_number p node.serial) (growth (chunk_number p node.serial) (size_in (node_at tree node.serial)) (kept_in (node_at tree node.serial) shape))
  shape_costs shape =
      ap (λ k. of_bytes k (growth k (data_size h.kind (dims_of h)) (kept_size h shape))) (sym chunks_is)
      ∙ ap (λ k. of_bytes (chunk_number p node.serial) (growth (chunk_number p node.serial) k (kept_size h shape))) (sym bytes_is)
      ∙ ap (λ o. of_bytes (chunk_number p node.serial) (growth (chunk_number p node.serial) (size_in (node_at tree node.serial)) o)) (sym (kept_is shape))

  pub shape_within : (shape : Shape) (before now : ℕ) → now ≤ before + shape_cost h shape → now ≤ before + cost tree (chunk_number p) (Edit.SetDims node shape)
  shape_within shape before now le = let e = shape_costs shape in omega (arith, e, le)

-- the same over bytes that may be told
pub shape_at_most : (core : Core) (node : NodeId) (shape : Shape) (row : Row) (h : NodeHeader) (held : Option (List ℕ)) → MayReshape core node shape held row h → (before now : ℕ) → now ≤ before + shape_cost h shape
    → IfSome held (λ image. (tree : Tree) (p : Placement) → Means image tree p (memory_of core) → now ≤ before + cost tree (chunk_number p) (Edit.SetDims node shape))
shape_at_most core node shape row h None may before now le = tt
shape_at_most core node shape row h (Some image) may before now le = λ tree p m. shape_within image core node row h may.may tree p m shape before now le

-- ---- what is counted of the calls

lt_test : (a b : ℕ) → a < b → nat_lt a b ≡ true
lt_test a b lt = grind (arith, nat_tests)

le_test : (a b : ℕ) → a ≤ b → nat_le a b ≡ true
le_test a b le = grind (arith, nat_tests)

le_fails : (a b : ℕ) → b < a → nat_le a b ≡ false
le_fails a b lt = grind (arith, nat_tests)

growth_few : (k old new : ℕ) → old < new → k < 64 → growth k old (Some new) ≡ new - old
growth_few k old new lt few =
    ap (λ t. if t then (if nat_le 64 k then new else new - old) else 0) (lt_test old new lt) ∙ ap (λ t. if t then new else new - old) (le_fails 64 k few)

growth_many : (k old new : ℕ) → old < new → 64 ≤ k → growth k old (Some new) ≡ new
growth_many k old new lt many =
    ap (λ t. if t then (if nat_le 64 k then new else new - old) else 0) (lt_test old new lt) ∙ ap (λ t. if t then new else new - old) (le_test 64 k many)

module _ (h : NodeHeader) (shape : Shape) (stay : keeps h shape ≡ true) (was size : ℕ) (was_is : was ≡ min (data_size h.kind (dims_of h)) (2 ^ 64 - 1)) (size_is : size ≡ size_of_shape shape) (small : size ≤ 2 ^ 30) (more : was < size) where
  costs : (n : ℕ) → growth h.chunks (data_size h.kind (dims_of h)) (Some (size_of_shape shape)) ≡ n → shape_cost h shape ≡ of_bytes h.chunks n
  costs n e =
      ap (λ (t : Bool). of_bytes h.chunks (growth h.chunks (data_size h.kind (dims_of h)) (if t then Some (size_of_shape shape) else None))) stay
      ∙ ap (of_bytes h.chunks) e

  pub growth_pays : (before now : List ℕ) → WaitsToGrow h.chunks was size before now → how_many now + 4 ≤ how_many before + shape_cost h shape
  growth_pays before now g = by_count (less_or h.chunks 64)
    where
      some : 1 ≤ h.chunks
      some = at_least h.chunks (stays_some h shape stay)
        where
          at_least : (n : ℕ) → not (n == 0) ≡ true → 1 ≤ n
          at_least n e = grind (arith, nat_tests)

      longer : data_size h.kind (dims_of h) < size_of_shape shape
      longer = omega (arith, was_is, size_is, small, more)

      by_count : (h.chunks < 64) ⊎ (64 ≤ h.chunks) → how_many now + 4 ≤ how_many before + shape_cost h shape
      by_count (inl few) =
          let e = costs _ (growth_few h.chunks (data_size h.kind (dims_of h)) (size_of_shape shape) longer few) in
          let w = g.0 (some, few) in omega (arith, e, w, was_is, size_is, small, more)
      by_count (inr many) =
          let e = costs _ (growth_many h.chunks (data_size h.kind (dims_of h)) (size_of_shape shape) longer many) in
          let w = g.1 in omega (arith, e, w, size_is)

-- what is not changed, or given back
pub small_pays : (h : NodeHeader) (shape : Shape) (before now : ℕ) → now ≤ before + 12 * (h.chunks + 1) → now + 4 ≤ before + shape_cost h shape
small_pays h shape before now le = omega (arith, le)

-- ---- data that are put

put_costs : (image : List ℕ) (core : Core) (node : NodeId) (row : Row) (h : NodeHeader) → MayEdit core node (Some image) row h → (tree : Tree) (p : Placement) → Means image tree p (memory_of core) → (part : Part) (given : List ℕ) (before now : ℕ) → now ≤ before + put_cost h
    → now ≤ before + cost tree (chunk_number p) (edit_of node part given)
put_costs image core node row h may tree p m Part.Whole given before now le =
    let k = chunks_is image core node row h may tree p m in let b = bytes_is image core node row h may tree p m in omega (arith, k, b, le)
put_costs image core node row h may tree p m (Part.Chosen selection) given before now le =
    let k = chunks_is image core node row h may tree p m in let b = bytes_is image core node row h may tree p m in omega (arith, k, b, le)

pub put_at_most : (core : Core) (node : NodeId) (part : Part) (given : List ℕ) (row : Row) (h : NodeHeader) (held : Option (List ℕ)) → Fills core node part given held row h → (before now : ℕ) → now ≤ before + put_cost h
    → IfSome held (λ image. (tree : Tree) (p : Placement) → Means image tree p (memory_of core) → now ≤ before + cost tree (chunk_number p) (edit_of node part given))
put_at_most core node part given row h None fill before now le = tt
put_at_most core node part given row h (Some image) fill before now le = λ tree p m. put_costs image core node row h fill.put.may tree p m part given before now le
