-- A node is read again from its header, its table and its chunks.
use Rattle.std.proofs.Common.{◌≡◌, inl, inr, ℕ, suc, refl, sym, ◌∙◌, ap, subst, arith, List, [], ◌∷◌, length, map, take, ◌+◌, ◌≤◌, Bool, false, cond}
use Rattle.std.proofs.lemmas.Bool.Decides.{eqb_tells}
use Rattle.std.proofs.lemmas.List.{length-map}
use Rattle.std.proofs.lemmas.Option.{slice_get_within}
use Rattle.std.specs.Prelude.{Option, Some, None, IfSome, slice_get, ◌==◌}
use Rattle.std.specs.List.{range_with_len}
use Rattle.adf_format.specs.Fields.{field, trimmed, text_at}
use Rattle.adf_format.specs.Names.{data_size}
use Rattle.adf_format.specs.Pointer.{place_of}
use Rattle.adf_format.specs.Tree.{Tree, Node, IsNode, node_at}
use Rattle.adf_format.specs.Placement.{Placement, NodeParts, parts_of}
use Rattle.adf_format.specs.LaysOut.{LaysOut, HoldsNode, HasData, payloads}
use Rattle.adf_format.specs.FirstFault.{children_in, table_in, entry_pointer, chunks_in, dims_in, type_or_mt, payloads_in, count_up}
use Rattle.adf_format.specs.SoundPart.{data_when}
use Rattle.adf_model.proofs.Basics.{and_parts, same_Some}
use Rattle.layout_laws.specs.FoundLayout.{chunk_part}
use Rattle.layout_laws.proofs.HeldParts.{children_held, name_held, label_held, kind_held, dims_held, parts_held}
use Rattle.layout_laws.proofs.NodeRead.{name_again, label_again}
use Rattle.layout_laws.proofs.NodeRules.{payloads_again}
use Rattle.layout_laws.proofs.NodesStand.{entry_read}
use Rattle.layout_laws.proofs.Rows.{le_of, of_equal, points_to}
use Rattle.tree_laws.specs.Reading.{serial_from, node_in, ArePlaces}
use Rattle.tree_laws.proofs.Reading.PlacesFound.{places_find}
use Rattle.layout_laws.proofs.OneLayout.{few_dims_of}

-- what a function gives on the numbers of a list's places is the list
listed : (f : ℕ → ℕ) (a : ℕ) (cs : List ℕ) → ((i c : ℕ) → slice_get cs i ≡ Some c → f (a + i) ≡ c) → map f (range_with_len a (length cs)) ≡ cs
listed f a [] h = refl
listed f a (c ∷ cs) h = ap (λ d. d ∷ map f (range_with_len (a + 1) (length cs))) (ap f (plain a) ∙ h 0 c refl) ∙ ap (λ ds. c ∷ ds) (listed f (a + 1) cs (λ i d e. ap f (shift a i) ∙ h (suc i) d e))
  where
    plain : (a : ℕ) → a ≡ a + 0
    plain a = omega arith

    shift : (a i : ℕ) → a + 1 + i ≡ a + suc i
    shift a i = omega arith

module _ (image : List ℕ) (tree : Tree) (p : Placement) (l : LaysOut image tree p) (places : List (Option ℕ)) (are : ArePlaces p places) where
  -- the data of the node at a place, as the image has them
  abbrev data_at : ℕ → Option (List ℕ)
  data_at n = data_when (length (chunks_in image tree.wide n)) (take (data_size (type_or_mt (field image (n + 96) 32)) (dims_in image tree.wide n)) (payloads_in image (chunks_in image tree.wide n)))

  data_again : (node : Node) (parts : NodeParts) → HoldsNode image tree p node parts → IsNode tree.wide node → data_at parts.header ≡ node.bytes
  data_again node parts h is = by_bytes node.bytes refl
    where
      chunks : parts.chunks ≡ map (chunk_part image) (chunks_in image tree.wide parts.header)
      chunks = ap (λ (q : NodeParts). q.chunks) (parts_held image tree p node parts h)

      many : length (chunks_in image tree.wide parts.header) ≡ length parts.chunks
      many = sym (ap length chunks ∙ length-map (chunks_in image tree.wide parts.header) (chunk_part image))

      few : length node.dims ≤ 12
      few = few_dims_of tree.wide node is

      size : data_size (type_or_mt (field image (parts.header + 96) 32)) (dims_in image tree.wide parts.header) ≡ data_size node.kind node.dims
      size = ap (λ k. data_size k (dims_in image tree.wide parts.header)) (kind_held image tree p node parts h) ∙ ap (data_size node.kind) (dims_held image tree p node parts h few)

      same_payloads : payloads image parts.chunks ≡ payloads_in image (chunks_in image tree.wide parts.header)
      same_payloads = ap (payloads image) chunks ∙ payloads_again image (chunks_in image tree.wide parts.header)

      some : (n : ℕ) → (n ≡ 0 → ⊥) → (n == 0) ≡ false
      some n differ = elim (eqb_tells n 0) [ inl t ↦ absurd (differ t.1) | inr t ↦ t.0 ]

      no_length : {A : Type 0} (xs : List A) → length xs ≡ 0 → xs ≡ []
      no_length [] e = refl
      no_length (x ∷ xs) e = absurd (omega (arith, e))

      by_bytes : (o : Option (List ℕ)) → node.bytes ≡ o → data_at parts.header ≡ o
      by_bytes None e =
          let none : length (chunks_in image tree.wide parts.header) ≡ 0 = many ∙ ap length (subst (λ o. HasData image parts.chunks o) e h.bytes) in
          ap (λ b. cond b None (Some (take (data_size (type_or_mt (field image (parts.header + 96) 32)) (dims_in image tree.wide parts.header)) (payloads_in image (chunks_in image tree.wide parts.header))))) (of_equal (length (chunks_in image tree.wide parts.header)) 0 none)
      by_bytes (Some bs) e =
          let kept = subst (λ o. HasData image parts.chunks o) e h.bytes in
          let sized : length bs ≡ data_size node.kind node.dims = subst (λ (o : Option (List ℕ)). IfSome o (λ (bytes : List ℕ). length bytes ≡ data_size node.kind node.dims)) e is.sized in
          ap (λ b. cond b None (Some (take (data_size (type_or_mt (field image (parts.header + 96) 32)) (dims_in image tree.wide parts.header)) (payloads_in image (chunks_in image tree.wide parts.header)))))
          (some (length (chunks_in image tree.wide parts.header)) (λ none. kept.0 (no_length parts.chunks (sym many ∙ none))))
          ∙ ap Some (ap (λ n. take n (payloads_in image (chunks_in image tree.wide parts.header))) (size ∙ sym sized) ∙ ap (take (length bs)) (sym same_payloads) ∙ kept.1)

  -- the serial that an entry of the table of a node names
  abbrev child_in : ℕ → ℕ → ℕ
  child_in n i = serial_from 0 places (place_of (entry_pointer image (table_in image n) i))

  children_again : (s : ℕ) (node : Node) (parts : NodeParts) → node_at tree s ≡ Some node → parts_of p s ≡ Some parts → map (child_in parts.header) (count_up (children_in image parts.header)) ≡ node.children
  children_again s node parts at has =
      ap (λ n. map (child_in parts.header) (count_up n)) (children_held image tree p node parts (l.nodes s node parts at has))
      ∙ listed (child_in parts.header) 0 node.children (λ i c e.
      let r = entry_read image tree p l s node parts at has i (slice_get_within node.children i c e) in
      ap (child_in parts.header) (front i)
      ∙ ap (serial_from 0 places) (points_to (entry_pointer image (table_in image parts.header) i) r.below.header r.points)
      ∙ places_find image tree p places r.child r.below l are r.has ∙ same_Some r.child c (sym r.listed ∙ e))
    where
      front : (i : ℕ) → 0 + i ≡ i
      front i = omega arith

  -- a node is what is read at its header
  pub node_is_read : (s : ℕ) (node : Node) (parts : NodeParts) → node_at tree s ≡ Some node → parts_of p s ≡ Some parts → node ≡ node_in image tree.wide places parts.header
  node_is_read s node parts at has =
      let h = l.nodes s node parts at has in
      let is = l.is_tree.each s node at in
      let few : length node.dims ≤ 12 = few_dims_of tree.wide node is in
      let name : text_at image (parts.header + 4) 32 ≡ node.name = ap trimmed (name_held image tree p node parts h) ∙ name_again node.name is.named in
      let label : text_at image (parts.header + 36) 32 ≡ node.label = ap trimmed (label_held image tree p node parts h) ∙ label_again node.label is.labelled in
      let kind : type_or_mt (field image (parts.header + 96) 32) ≡ node.kind = kind_held image tree p node parts h in
      let dims : dims_in image tree.wide parts.header ≡ node.dims = dims_held image tree p node parts h few in
      let bytes : data_at parts.header ≡ node.bytes = data_again node parts h is in
      let children = children_again s node parts at has in
      ap (λ n. record { name = n; label = node.label; kind = node.kind; dims = node.dims; bytes = node.bytes; children = node.children }) (sym name)
      ∙ ap (λ n. record { name = text_at image (parts.header + 4) 32; label = n; kind = node.kind; dims = node.dims; bytes = node.bytes; children = node.children }) (sym label)
      ∙ ap (λ n. record { name = text_at image (parts.header + 4) 32; label = text_at image (parts.header + 36) 32; kind = n; dims = node.dims; bytes = node.bytes; children = node.children }) (sym kind)
      ∙ ap (λ n. record { name = text_at image (parts.header + 4) 32; label = text_at image (parts.header + 36) 32; kind = type_or_mt (field image (parts.header + 96) 32); dims = n; bytes = node.bytes; children = node.children }) (sym dims)
      ∙ ap (λ n. record { name = text_at image (parts.header + 4) 32; label = text_at image (parts.header + 36) 32; kind = type_or_mt (field image (parts.header + 96) 32); dims = dims_in image tree.wide parts.header; bytes = n; children = node.children }) (sym bytes)
      ∙ ap (λ n. record { name = text_at image (parts.header + 4) 32; label = text_at image (parts.header + 36) 32; kind = type_or_mt (field image (parts.header + 96) 32); dims = dims_in image tree.wide parts.header; bytes = data_at parts.header; children = n }) (sym children)
