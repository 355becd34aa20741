-- A copy that was planned lays out the tree that the given nodes make.
use Rattle.std.proofs.Common.{◌≡◌, ℕ, ◌+◌, ◌-◌, ◌*◌, ◌^◌, ◌<◌, ◌≤◌, List, ◌++◌, length, replicate, get_or, append_assoc, refl, sym, ◌∙◌, ap, subst, arith, Option, Some}
use Rattle.std.specs.List.{Contains, range_with_len, flat_map}
use Rattle.std.proofs.lemmas.List.{get_or_default}
use Rattle.adf_format.specs.declared.types.Format.{Format}
use Rattle.adf_format.specs.HeapRule.{parts_at}
use Rattle.adf_format.specs.LaysOut.{LaysOut}
use Rattle.adf_format.specs.Packed.{packed_length}
use Rattle.adf_format.specs.Pointer.{Blank}
use Rattle.adf_format.specs.Records.{header_text, free_table_text}
use Rattle.adf_format.specs.Tree.{Tree, IsTree}
use Rattle.cg_io.specs.Device.{padded}
use Rattle.layout_lint.specs.declared.verdict.NodePlace.{NodePlace}
use Rattle.packed_laws.specs.PackedForm.{packed_placement, packed_room, packed_header_of, packed_node_text, packed_nodes_text, packed_text}
use Rattle.packed_laws.proofs.PackedFile.{is_laid_out}
use Rattle.packed_laws.proofs.PackedTexts.{names_short}
use Rattle.adf_repack.specs.declared.places.NodeShape.{NodeShape}
use Rattle.adf_repack.specs.declared.planning.Planned.{Planned}
use Rattle.adf_repack.specs.Families.{children_of}
use Rattle.adf_repack.specs.Given.{in_version, IsGiven}
use Rattle.adf_repack.specs.Places.{shape_of, room_of, length_of}
use Rattle.adf_repack.specs.Planning.{IsPlanned, copied_file}
use Rattle.adf_repack.specs.Plans.{no_shape, shape_at, header_at, record_at, old_place, copied_at, copied_until}
use Rattle.adf_repack.specs.Repacks.{HasLongDimension, IsPackedFile, IsCopied}
use Rattle.adf_repack.specs.Writers.{in_blocks, blocks_for}
use Rattle.adf_repack.proofs.EntryLaws.{child_within}
use Rattle.adf_repack.proofs.GivenLaws.{none_long, shape_is, shapes_are}
use Rattle.adf_repack.proofs.PlaceLaws.{place_more, room_is, length_is}
use Rattle.adf_repack.proofs.TextLaws.{node_so, IsNext, nodes_so, StandsNext, stands_so}
use Rattle.adf_repack.proofs.VersionLaws.{tree_so}

zero_more : (i : ℕ) → i ≡ 0 + i
zero_more i = omega arith

padded_is : (text : List ℕ) (n : ℕ) → padded text n ≡ text ++ replicate (n - length text) 0
unfolding padded
padded_is text n = refl

module _ (image : List ℕ) (nodes : List NodePlace) (tree : Tree) (given : IsGiven image nodes tree) (p : Planned) (planned : IsPlanned (Some image) tree.wide p.plan.wide nodes p) where
  -- the version has digits for it
  pub fits : HasLongDimension p.plan.wide tree → ⊥
  fits = none_long image nodes tree given p.plan.wide planned.fit

  copy_is_tree : IsTree (in_version p.plan.wide tree)
  copy_is_tree = tree_so p.plan.wide tree given.is_tree fits

  within : (k : ℕ) → k < length tree.nodes → k < length nodes
  within k lt = subst (λ (n : ℕ). k < n) given.count lt

  -- where each node stands
  shape_here : (k : ℕ) (lt : k < length nodes) → shape_at p.plan k ≡ shape_of (given.each k lt).0
  shape_here k lt = shape_is image nodes tree given p.plan.shapes.items k lt planned.measured

  behind : (k : ℕ) (lt : k < length nodes) → header_at p.plan (k + 1) ≡ header_at p.plan k + packed_room p.plan.wide (given.each k lt).0
  behind k lt =
      place_more p.plan.wide p.plan.shapes.items k no_shape (subst (λ (n : ℕ). k < n) (sym planned.measured.count) lt)
      ∙ ap (λ (s : NodeShape). header_at p.plan k + room_of p.plan.wide s) (shape_here k lt)
      ∙ ap (λ (n : ℕ). header_at p.plan k + n) (room_is p.plan.wide (given.each k lt).0)

  one_stands : (k : ℕ) → k < length tree.nodes → StandsNext p.plan.wide (header_at p.plan) tree.nodes k k
  one_stands k lt = record { node = (given.each k (within k lt)).0; live = (given.each k (within k lt)).1.live; next = behind k (within k lt) }

  placed : (k : ℕ) → k < length tree.nodes → get_or p.plan.headers.items k 0 ≡ (parts_at (packed_placement (in_version p.plan.wide tree)) k).header
  placed k lt =
      planned.plan.places k (within k lt)
      ∙ ap (header_at p.plan) (zero_more k)
      ∙ sym (stands_so p.plan.wide (header_at p.plan) tree.nodes 0 (λ i inside. subst (λ (j : ℕ). StandsNext p.plan.wide (header_at p.plan) tree.nodes i j) (zero_more i) (one_stands i inside)) k lt)

  -- a child is one of the nodes
  child_inside : (k child : ℕ) → k < length nodes → Contains (children_of nodes k) child → child < length tree.nodes
  child_inside k child lt has =
      let low = child_within nodes k has.0 (omega (arith, lt)) has.1 in
      let same = get_or_default (children_of nodes k) has.0 0 child has.1 ∙ has.2 in
      let count = given.count in
      omega (arith, low, same, count)

  -- what is written of each node
  one_text : (k : ℕ) (lt : k < length nodes) → copied_at image tree.wide nodes p.plan k
      ≡ packed_node_text (in_version p.plan.wide tree) (packed_placement (in_version p.plan.wide tree)) (header_at p.plan k) (given.each k lt).0
  one_text k lt =
      let h = (given.each k lt).1 in
      node_so (in_version p.plan.wide tree) (packed_placement (in_version p.plan.wide tree)) image nodes p.plan k (record_at image tree.wide (old_place nodes k)) (given.each k lt).0
      (names_short (in_version p.plan.wide tree) copy_is_tree) refl (shape_here k lt) h.says h.children
      (λ child has. record { name = (h.names child has).says; stands = placed child (child_inside k child lt has) }) h.holds

  one_next : (k : ℕ) → k < length tree.nodes → IsNext (in_version p.plan.wide tree) (packed_placement (in_version p.plan.wide tree)) (header_at p.plan) (λ i. copied_at image tree.wide nodes p.plan i) tree.nodes k k
  one_next k lt = record {
    node = (given.each k (within k lt)).0;
    live = (given.each k (within k lt)).1.live;
    so = one_text k (within k lt);
    next = behind k (within k lt);
  }

  all_text : copied_until image tree.wide nodes p.plan (length nodes) ≡ packed_nodes_text (in_version p.plan.wide tree) (packed_placement (in_version p.plan.wide tree)) 266 tree.nodes
  all_text =
      ap (λ (n : ℕ). flat_map (λ i. copied_at image tree.wide nodes p.plan i) (range_with_len 0 n)) (sym given.count)
      ∙ nodes_so (in_version p.plan.wide tree) (packed_placement (in_version p.plan.wide tree)) (header_at p.plan) (λ i. copied_at image tree.wide nodes p.plan i) tree.nodes 0
      (λ i lt. subst (λ (j : ℕ). IsNext (in_version p.plan.wide tree) (packed_placement (in_version p.plan.wide tree)) (header_at p.plan) (λ k. copied_at image tree.wide nodes p.plan k) tree.nodes i j) (zero_more i) (one_next i lt))

  -- its length is that of the packed file
  pub long : p.length ≡ packed_length (in_version p.plan.wide tree)
  long = planned.long ∙ ap (length_of p.plan.wide) (shapes_are image nodes tree given p.plan.shapes.items planned.measured) ∙ length_is (in_version p.plan.wide tree)

  pub near : packed_length (in_version p.plan.wide tree) ≤ 2 ^ 44
  near = let l = long in let same = planned.long in let low = planned.plan.near in omega (arith, l, same, low)

  text_is : copied_file image tree.wide nodes p ≡ packed_text (in_version p.plan.wide tree)
  unfolding packed_text
  text_is =
      ap (λ (f : Format). (header_text (packed_header_of p.plan.wide f (p.length - 1)) ++ free_table_text (replicate 6 Blank)) ++ copied_until image tree.wide nodes p.plan (length nodes)) (planned.format image refl ∙ sym given.format)
      ∙ ap (λ (n : ℕ). (header_text (packed_header_of p.plan.wide tree.format (n - 1)) ++ free_table_text (replicate 6 Blank)) ++ copied_until image tree.wide nodes p.plan (length nodes)) long
      ∙ ap (λ (l : List ℕ). (header_text (packed_header_of p.plan.wide tree.format (packed_length (in_version p.plan.wide tree) - 1)) ++ free_table_text (replicate 6 Blank)) ++ l) all_text
      ∙ append_assoc (header_text (packed_header_of p.plan.wide tree.format (packed_length (in_version p.plan.wide tree) - 1))) (free_table_text (replicate 6 Blank))
      (packed_nodes_text (in_version p.plan.wide tree) (packed_placement (in_version p.plan.wide tree)) 266 tree.nodes)

  -- the file
  file_is : (bytes : List ℕ) (end : ℕ) → end + 1 ≡ p.length → bytes ≡ in_blocks (copied_file image tree.wide nodes p) → IsPackedFile (in_version p.plan.wide tree) bytes end
  file_is bytes end ends is =
      let text = packed_text (in_version p.plan.wide tree) in
      let size : ℕ = blocks_for (length text) * 4096 in
      let all : bytes ≡ text ++ replicate (size - length text) 0 = is ∙ ap in_blocks text_is ∙ padded_is text size in
      let l = long in
      record {
        placement = packed_placement (in_version p.plan.wide tree);
        laid_out = subst (λ (b : List ℕ). LaysOut b (in_version p.plan.wide tree) (packed_placement (in_version p.plan.wide tree))) (sym all)
            (is_laid_out (in_version p.plan.wide tree) (replicate (size - length text) 0) copy_is_tree near);
        packed = record { no_gaps = refl; long = omega arith };
        last = omega (arith, l, ends);
      }

  pub copied_so : (held : Option (List ℕ)) (end : ℕ) → end + 1 ≡ p.length → ((bytes : List ℕ) → held ≡ Some bytes → bytes ≡ in_blocks (copied_file image tree.wide nodes p)) → IsCopied p.plan.wide tree held end
  copied_so held end ends is = record { fits = fits; near = near; long = ends ∙ long; file = λ bytes e. file_is bytes end ends (is bytes e) }
