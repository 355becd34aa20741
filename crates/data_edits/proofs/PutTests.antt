-- The tests of data that are put, of a node of a tree that is meant.
use Rattle.std.proofs.Common.{◌≡◌, ◌≢◌, ℕ, refl, sym, ◌∙◌, ap, arith, List, [], ◌∷◌, ◌++◌, length, replicate, append-nil, ◌+◌, ◌*◌, ◌^◌, ◌<◌, ◌≤◌, Bool, true, false, not, ◌==◌, Option, None, Some}
use Rattle.std.proofs.lemmas.Bool.Decides.{nat_tests}
use Rattle.std.proofs.lemmas.List.{take_all, drop_all, length-replicate}
use Rattle.std.specs.Prelude.{Result, Ok, Err, IfSome, unwrap_or, nat_lt}
use Rattle.std.specs.List.{range_with_len}
use Rattle.adf_format.specs.Names.{is_mt, data_size, element_size}
use Rattle.adf_format.specs.Placement.{Placement}
use Rattle.adf_format.specs.Tree.{Tree, Node, node_at}
use Rattle.adf_model.specs.declared.error.AdfError.{AdfError}
use Rattle.adf_model.specs.declared.lists.Run.{Run}
use Rattle.adf_model.specs.declared.tree.Edit.{Edit}
use Rattle.adf_model.specs.declared.tree.NodeId.{NodeId}
use Rattle.adf_model.specs.declared.tree.Selection.{Selection}
use Rattle.adf_model.specs.Edits.{file_step, with_node, with_part, size_of, size_limit, part_size}
use Rattle.adf_model.specs.Selection.{selection_fits, elements, with_elements, written_over}
use Rattle.adf_model.specs.Tests.{checked, if_there}
use Rattle.adf_records.specs.declared.NodeHeader.{NodeHeader}
use Rattle.adf_data.proofs.WriteLaws.{with_run}
use Rattle.strided.specs.RunLists.{spread}
use Rattle.tree_asks.specs.Headers.{dims_of}
use Rattle.tree_edits.specs.declared.memory.Core.{Core}
use Rattle.tree_edits.specs.declared.rows.Row.{Row}
use Rattle.tree_edits.specs.Rows.{Means}
use Rattle.tree_edits.specs.Edits.{memory_of}
use Rattle.data_edits.specs.Found.{MayEdit, IsOfNode}
use Rattle.data_edits.specs.Puts.{Part, KeepsLength, edit_of, fits, part_length, put_on}
use Rattle.data_edits.proofs.Founds.{passes}
use Rattle.data_edits.proofs.Owned.{i}

-- the node afterwards
abbrev pub now_of : Part → List ℕ → Node → Node
now_of Part.Whole given node = record node { bytes = Some given }
now_of (Part.Chosen selection) given node = with_part node selection given

pub of_node : (node : NodeId) (part : Part) (given : List ℕ) → IsOfNode (edit_of node part given) node
of_node node Part.Whole given = record { named = refl; reached = refl }
of_node node (Part.Chosen selection) given = record { named = refl; reached = refl }

-- ---- tests as numbers tell them

larger : (n : ℕ) → 2 ^ 30 < n → nat_lt (2 ^ 30) n ≡ true
larger n lt = grind (arith, nat_tests)

smaller : (n : ℕ) → n ≤ 2 ^ 30 → nat_lt (2 ^ 30) n ≡ false
smaller n le = grind (arith, nat_tests)

same_true : (a b : ℕ) → a ≡ b → (a == b) ≡ true
same_true a b e = grind (arith, nat_tests)

same_false : (a b : ℕ) → a ≢ b → (a == b) ≡ false
same_false a b differs = by_test (a == b) refl
  where
    equal : (a == b) ≡ true → a ≡ b
    equal e = grind (arith, nat_tests)

    by_test : (t : Bool) → (a == b) ≡ t → t ≡ false
    by_test true e = absurd (differs (equal e))
    by_test false e = refl

-- ---- the tests

abbrev tested : Tree → NodeId → Part → List ℕ → Node → Bool → Bool → Bool → ℕ → Bool → Result Tree AdfError
tested tree at Part.Whole given node mt large fit want same =
    checked ((mt, AdfError.NoData) ∷ (large, AdfError.TooLarge) ∷ (not same, AdfError.WrongLength want (length given)) ∷ []) (Ok (with_node tree at.serial (now_of Part.Whole given node)))
tested tree at (Part.Chosen selection) given node mt large fit want same =
    checked ((mt, AdfError.NoData) ∷ (large, AdfError.TooLarge) ∷ (not fit, AdfError.BadRange) ∷ (not same, AdfError.WrongLength want (length given)) ∷ [])
    (Ok (with_node tree at.serial (now_of (Part.Chosen selection) given node)))

module _ (image : List ℕ) (core : Core) (node : NodeId) (given : List ℕ) (row : Row) (h : NodeHeader) (may : MayEdit core node (Some image) row h) (tree : Tree) (p : Placement) (m : Means image tree p (memory_of core)) where
  abbrev pub its : Node
  its = (i image core node row h may tree p m).node

  pub live : node_at tree node.serial ≡ Some its
  live = (i image core node row h may tree p m).is.live

  pub size_is : size_of its ≡ data_size h.kind (dims_of h)
  size_is =
      ap (λ k. data_size k its.dims) (sym (i image core node row h may tree p m).fields.kind)
      ∙ ap (data_size h.kind) (sym (i image core node row h may tree p m).dims)

  abbrev size : ℕ
  size = data_size h.kind (dims_of h)

  step : (part : Part) → file_step core.writable tree (edit_of node part given) ≡ tested tree node part given its (is_mt h.kind) (nat_lt size_limit size) (fits part h) (part_length part h) (length given == part_length part h)
  step Part.Whole =
      passes image core node row h may (Edit.PutAll node given) (of_node node Part.Whole given) tree p m
      ∙ ap (λ o. if_there o AdfError.NoSuchNode (λ (n : Node). tested tree node Part.Whole given n (is_mt n.kind) (nat_lt size_limit (size_of n)) true (size_of n) (length given == size_of n))) live
      ∙ ap (λ k. tested tree node Part.Whole given its (is_mt k) (nat_lt size_limit (size_of its)) true (size_of its) (length given == size_of its)) (sym (i image core node row h may tree p m).fields.kind)
      ∙ ap (λ n. tested tree node Part.Whole given its (is_mt h.kind) (nat_lt size_limit n) true n (length given == n)) size_is
  step (Part.Chosen selection) =
      passes image core node row h may (Edit.PutPart node selection given) (of_node node (Part.Chosen selection) given) tree p m
      ∙ ap (λ o. if_there o AdfError.NoSuchNode (λ (n : Node). tested tree node (Part.Chosen selection) given n (is_mt n.kind) (nat_lt size_limit (size_of n)) (selection_fits n.dims selection) (part_size n selection) (length given == part_size n selection))) live
      ∙ ap (λ n. tested tree node (Part.Chosen selection) given its (is_mt its.kind) (nat_lt size_limit n) (selection_fits its.dims selection) (part_size its selection) (length given == part_size its selection)) size_is
      ∙ ap (λ k. tested tree node (Part.Chosen selection) given its (is_mt k) (nat_lt size_limit size) (selection_fits its.dims selection) (element_size k * length (elements its.dims selection)) (length given == element_size k * length (elements its.dims selection))) (sym (i image core node row h may tree p m).fields.kind)
      ∙ ap (λ ds. tested tree node (Part.Chosen selection) given its (is_mt h.kind) (nat_lt size_limit size) (selection_fits ds selection) (element_size h.kind * length (elements ds selection)) (length given == element_size h.kind * length (elements ds selection))) (sym (i image core node row h may tree p m).dims)

  pub no_data : (part : Part) → is_mt h.kind ≡ true → file_step core.writable tree (edit_of node part given) ≡ Err AdfError.NoData
  no_data Part.Whole e = step Part.Whole ∙ ap (λ b. tested tree node Part.Whole given its b (nat_lt size_limit size) true size (length given == size)) e
  no_data (Part.Chosen s) e = step (Part.Chosen s) ∙ ap (λ b. tested tree node (Part.Chosen s) given its b (nat_lt size_limit size) (fits (Part.Chosen s) h) (part_length (Part.Chosen s) h) (length given == part_length (Part.Chosen s) h)) e

  module _ (filled : is_mt h.kind ≡ false) where
    by_size : (part : Part) (large : Bool) → nat_lt size_limit size ≡ large → file_step core.writable tree (edit_of node part given) ≡ tested tree node part given its false large (fits part h) (part_length part h) (length given == part_length part h)
    by_size part large e =
        step part
        ∙ ap (λ b. tested tree node part given its b (nat_lt size_limit size) (fits part h) (part_length part h) (length given == part_length part h)) filled
        ∙ ap (λ b. tested tree node part given its false b (fits part h) (part_length part h) (length given == part_length part h)) e

    pub too_large : (part : Part) → 2 ^ 30 < size → file_step core.writable tree (edit_of node part given) ≡ Err AdfError.TooLarge
    too_large Part.Whole lt = by_size Part.Whole true (larger size lt)
    too_large (Part.Chosen s) lt = by_size (Part.Chosen s) true (larger size lt)

    module _ (small : size ≤ 2 ^ 30) where
      by_fit : (part : Part) (fit same : Bool) → fits part h ≡ fit → (length given == part_length part h) ≡ same → file_step core.writable tree (edit_of node part given) ≡ tested tree node part given its false false fit (part_length part h) same
      by_fit part fit same e f =
          by_size part false (smaller size small)
          ∙ ap (λ b. tested tree node part given its false false b (part_length part h) (length given == part_length part h)) e
          ∙ ap (λ b. tested tree node part given its false false fit (part_length part h) b) f

      pub bad_range : (selection : Selection) → selection_fits (dims_of h) selection ≡ false → file_step core.writable tree (Edit.PutPart node selection given) ≡ Err AdfError.BadRange
      bad_range selection e = by_fit (Part.Chosen selection) false (length given == part_length (Part.Chosen selection) h) e refl

      pub wrong_length : (part : Part) → fits part h ≡ true → length given ≢ part_length part h → file_step core.writable tree (edit_of node part given) ≡ Err (AdfError.WrongLength (part_length part h) (length given))
      wrong_length Part.Whole e differs = by_fit Part.Whole true false e (same_false _ _ differs)
      wrong_length (Part.Chosen s) e differs = by_fit (Part.Chosen s) true false e (same_false _ _ differs)

      pub made : (part : Part) → fits part h ≡ true → length given ≡ part_length part h → file_step core.writable tree (edit_of node part given) ≡ Ok (with_node tree node.serial (now_of part given its))
      made Part.Whole e long = by_fit Part.Whole true true e (same_true _ _ long)
      made (Part.Chosen s) e long = by_fit (Part.Chosen s) true true e (same_true _ _ long)

-- ---- what is put

-- all elements over data of their length are those that are given
all_over : (size : ℕ) (given old : List ℕ) → length given ≡ size → length old ≡ size → with_elements 1 (range_with_len 0 size) given old ≡ given
all_over size given old long was =
    with_run 1 0 size given old (omega (arith, was)) (omega (arith, long))
    ∙ ap (written_over old 0) (take_all (size * 1) given (omega (arith, long)))
    ∙ ap (λ xs. given ++ xs) (drop_all (0 + length given) old (omega (arith, long, was)))
    ∙ append-nil given

abbrev pub whole : ℕ → List Run
whole n = record { first = 0; count = n } ∷ []

pub whole_is : (n : ℕ) → spread (whole n) ≡ range_with_len 0 n
whole_is n = append-nil (range_with_len 0 n)

pub whole_keeps : (size : ℕ) (given : List ℕ) → length given ≡ size → KeepsLength size 1 (spread (whole size)) given
whole_keeps size given long old was = ap (λ es. length (with_elements 1 es given old)) (whole_is size) ∙ ap length (all_over size given old long was) ∙ long

pub whole_put : (size : ℕ) (given : List ℕ) (bytes : Option (List ℕ)) → length given ≡ size → IfSome bytes (λ (b : List ℕ). length b ≡ size) → Some given ≡ put_on size 1 (spread (whole size)) given bytes
whole_put size given bytes long was = ap Some (sym (ap (λ es. with_elements 1 es given (unwrap_or bytes (replicate size 0))) (whole_is size) ∙ all_over size given (unwrap_or bytes (replicate size 0)) long (old_long bytes was)))
  where
    old_long : (bytes : Option (List ℕ)) → IfSome bytes (λ (b : List ℕ). length b ≡ size) → length (unwrap_or bytes (replicate size 0)) ≡ size
    old_long None was = length-replicate size 0
    old_long (Some b) was = was
