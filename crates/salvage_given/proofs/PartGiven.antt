-- The nodes that are kept of a damaged file make the tree of its sound part.
use Rattle.std.proofs.Common.{◌≡◌, ℕ, refl, sym, ◌∙◌, ap, subst, arith, List, ◌∷◌, length, map, min, ◌+◌, ◌-◌, ◌*◌, ◌^◌, ◌<◌, cond}
use Rattle.std.proofs.lemmas.List.{length-map}
use Rattle.std.specs.Prelude.{Some, None, slice_get, option_map}
use Rattle.std.specs.List.{Contains}
use Rattle.std.specs.Str.{bytes_eq}
use Rattle.adf_format.specs.declared.types.Format.{Format}
use Rattle.adf_format.specs.Checks.{Fault, first_broken}
use Rattle.adf_format.specs.Fields.{field}
use Rattle.adf_format.specs.FirstFault.{Visit, row_of_length, header_rows as file_rows, table_in as table_named, end_in, is_wide}
use Rattle.adf_format.specs.Parts.{format_letter}
use Rattle.adf_format.specs.SoundPart.{IsSoundPart, node_of_visit, tree_of, format_in, last_byte}
use Rattle.adf_format.specs.Tree.{Node, name_at}
use Rattle.adf_format.proofs.FrameLaws.{field_of_first}
use Rattle.adf_format.proofs.TreeLaws.{node_at-tree_of}
use Rattle.adf_format.proofs.WalkLaws.{all_kept}
use Rattle.adf_model.proofs.Walks.WalkCounts.{place_small}
use Rattle.cg_io.specs.Device.{bytes_at}
use Rattle.layout_laws.proofs.FoundNodes.{RowsKept, rows_kept}
use Rattle.layout_laws.proofs.Rows.{kept_none, le_of}
use Rattle.layout_lint.specs.declared.verdict.NodePlace.{NodePlace}
use Rattle.layout_lint.specs.Walks.{node_place}
use Rattle.salvage_laws.specs.Surveys.{NameVisits}
use Rattle.salvage_laws.proofs.SurveyTree.{IsSurveyed}
use Rattle.salvage_laws.proofs.SurveyNodes.{kept_surveyed, kept_tree, named_at, reach_inside}
use Rattle.adf_repack.specs.Copies.{position_in}
use Rattle.adf_repack.specs.Families.{children_of}
use Rattle.adf_repack.specs.Given.{HasName, IsGivenNode, IsGiven}
use Rattle.adf_repack.specs.Plans.{table_in, place_in, old_place, record_at}
use Rattle.adf_repack.proofs.WholeLaws.{at_field}
use Rattle.salvage_given.proofs.HeaderRead.{header_unbroken, says_so, table_at}
use Rattle.salvage_given.proofs.ChunksRead.{all_chunks, data_so}
use Rattle.salvage_given.proofs.KeptRoom.{short}
use Rattle.salvage_given.proofs.KeptKids.{count, visit_there, node_there, kids_are, child_here, name_here}

module _ (image : List ℕ) (kept : List Visit) (left : List (Visit × Fault)) (part : IsSoundPart image kept left) (some : 0 < length kept) (nodes : List NodePlace) (named : NameVisits kept (map node_place nodes)) where
  surveyed : IsSurveyed image kept
  surveyed = kept_surveyed image kept left part some

  ends : last_byte image < length image
  ends = reach_inside image kept left part some

  low : last_byte image < 2 ^ 44
  low = least (end_in image) (length image - 1) (place_small (field image 146 12))
    where
      least : (n m : ℕ) → n < 2 ^ 44 → min n m < 2 ^ 44
      least n m h = omega (arith, h)

  rows : (k : ℕ) (v : Visit) → slice_get kept k ≡ Some v → RowsKept image (is_wide image) (last_byte image) v
  rows k v e = rows_kept image (is_wide image) (last_byte image) v (surveyed.passed k v e)

  -- ---- one node

  name_so : (k : ℕ) (v : Visit) → slice_get kept k ≡ Some v → (c : ℕ) → Contains (children_of nodes k) c
      → HasName image (table_in (record_at image (is_wide image) v.place) + 16 + 44 * position_in (slice_get nodes c)) (name_at (tree_of image kept) c)
  name_so k v e c has = child_here image kept surveyed nodes named k c v e has (λ i inside at position.
      subst (λ (t : ℕ). HasName image (t + 16 + 44 * position_in (slice_get nodes c)) (name_at (tree_of image kept) c)) (sym (table_at image (last_byte image) ends v (rows k v e)))
      (subst (λ (j : ℕ). HasName image (table_named image v.place + 16 + 44 * j) (name_at (tree_of image kept) c)) (sym position) (name_here image kept left part some ends low k v e (rows k v e) i c inside at)))

  given_node : (k : ℕ) (v : Visit) → slice_get kept k ≡ Some v → IsGivenNode image nodes (tree_of image kept) k v.place (node_of_visit image (is_wide image) kept v)
  given_node k v e = record {
    live = node_at-tree_of image kept k ∙ ap (option_map (node_of_visit image (is_wide image) kept)) e;
    kept = header_unbroken image (last_byte image) ends v (rows k v e) (named_at image kept left part some k v e);
    says = says_so image (last_byte image) ends v (rows k v e) kept;
    children = kids_are image kept surveyed nodes named k v e;
    names = name_so k v e;
    chunks = all_chunks image (last_byte image) ends low v (rows k v e);
    holds = data_so image (last_byte image) ends low v (rows k v e) _;
  }

  each_given : (k : ℕ) → k < length nodes → (node : Node) × IsGivenNode image nodes (tree_of image kept) k (old_place nodes k) node
  each_given k lt =
      let v = visit_there image kept surveyed nodes named k lt in
      let n = node_there image kept surveyed nodes named k v.0 v.1 in
      (node_of_visit image (is_wide image) kept v.0, subst (λ (place : ℕ). IsGivenNode image nodes (tree_of image kept) k place (node_of_visit image (is_wide image) kept v.0)) (sym (ap place_in n.1 ∙ n.2.place)) (given_node k v.0 v.1))

  -- ---- the file header

  head_read : bytes_at image 0 186 ≡ field image 0 186
  head_read =
      let long = le_of 266 (length image) (all_kept (row_of_length image ∷ file_rows (field image 0 186)) part.header).0 in
      at_field image 0 186 (omega (arith, long))

  head_kept : first_broken (file_rows (bytes_at image 0 186)) ≡ None
  head_kept =
      subst (λ (b : List ℕ). first_broken (file_rows b) ≡ None) (sym head_read)
      (kept_none (file_rows (field image 0 186)) (all_kept (row_of_length image ∷ file_rows (field image 0 186)) part.header).1)

  format_so : format_in image ≡ format_in (bytes_at image 0 186)
  format_so =
      ap (λ (b : List ℕ). cond (bytes_eq b (format_letter Format.Big)) Format.Big Format.Little) (sym (field_of_first 1 100 186 image (omega arith)))
      ∙ ap format_in (sym head_read)

  pub part_given : IsGiven image nodes (tree_of image kept)
  part_given = record {
    is_tree = kept_tree image kept left part some;
    head = head_kept;
    width = refl;
    format = format_so;
    count = length-map kept (λ v. Some (node_of_visit image (is_wide image) kept v)) ∙ sym (count image kept surveyed nodes named);
    each = each_given;
    short = short image kept left part.survey low rows;
  }
