-- Two layouts of one image are one: the same tree up to its numbering, in tree order the same parts, and the same heap.
use Rattle.std.proofs.Common.{◌≡◌, inl, inr, ℕ, zero, suc, refl, sym, ◌∙◌, ap, subst, arith, List, [], ◌∷◌, ◌++◌, length, map, take, ◌+◌, ◌<◌, ◌≤◌, Bool, true, false, cond}
use Rattle.std.proofs.lemmas.Bool.Decides.{eqb_tells}
use Rattle.std.proofs.lemmas.List.{length-map}
use Rattle.std.proofs.lemmas.Option.{slice_get_within}
use Rattle.std.specs.Prelude.{Option, Some, None, Ok, IfSome, slice_get, ◌==◌, if◌then◌else◌}
use Rattle.std.specs.List.{range_with_len, filter_map}
use Rattle.adf_format.specs.Fields.{field, trimmed, text_at}
use Rattle.adf_format.specs.Names.{data_size}
use Rattle.adf_format.specs.Pointer.{place_of}
use Rattle.adf_format.specs.Tree.{Tree, Node, IsNode, is_live, node_at, tree_order, numbered, renumbered_node, position_of}
use Rattle.adf_format.specs.Placement.{Placement, NodeParts, parts_of}
use Rattle.adf_format.specs.LaysOut.{LaysOut, HoldsNode, HasData, payloads}
use Rattle.adf_format.specs.FirstFault.{Visit, NodeWalk, children_in, table_in, entry_pointer, chunks_in, dims_in, type_or_mt, payloads_in, is_wide, count_up}
use Rattle.adf_format.specs.SoundPart.{tree_of, format_in, node_of_visit, children_among, visit_number, data_when}
use Rattle.adf_format.proofs.ClosureLaws.{IsIn}
use Rattle.adf_format.proofs.PathLaws.{IsWalked, is_walked, child_of}
use Rattle.adf_format.proofs.SameLayout.{wide_recorded, format_recorded}
use Rattle.adf_format.proofs.TreeLaws.{number_of-path, number_in}
use Rattle.adf_model.proofs.Basics.{and_parts, same_Some, not_there}
use Rattle.adf_model.proofs.Trees.TreeOrder.{times, listed_times}
use Rattle.adf_model.proofs.Walks.WalkTree.{child_in}
use Rattle.layout_laws.specs.FoundLayout.{parts_at, chunk_part}
use Rattle.layout_laws.proofs.HeldParts.{children_held, name_held, label_held, kind_held, dims_held, parts_held}
use Rattle.layout_laws.proofs.NodeRead.{name_again, label_again}
use Rattle.layout_laws.proofs.NodeRules.{payloads_again}
use Rattle.layout_laws.proofs.NodesStand.{Stands, AreStanding, entry_read, places_differ, same_parts}
use Rattle.layout_laws.proofs.Rows.{le_of, of_equal, points_to}

-- ---- the number of a serial

position_at : (xs : List ℕ) (k s : ℕ) → slice_get xs k ≡ Some s → times s xs ≤ 1 → position_of xs s ≡ k
position_at [] k s e once = absurd (not_there s e)
position_at (x ∷ xs) zero s e once = elim (eqb_tells x s) [ inl t ↦ rw (t.0) refl | inr t ↦ absurd (t.1 (same_Some x s e)) ]
position_at (x ∷ xs) (suc k) s e once = elim (eqb_tells x s) [
  | inl t ↦ absurd (let more = some_times xs k s e in let two : 1 + times s xs ≤ 1 = subst (λ b. cond b 1 0 + times s xs ≤ 1) (t.0) once in omega (arith, more, two))
  | inr t ↦ (let less : times s xs ≤ 1 = (let c : 0 + times s xs ≤ 1 = subst (λ b. cond b 1 0 + times s xs ≤ 1) (t.0) once in omega (arith, c)) in rw (t.0) (ap suc (position_at xs k s e less)))
]
  where
    some_times : (ys : List ℕ) (k s : ℕ) → slice_get ys k ≡ Some s → 1 ≤ times s ys
    some_times [] k s e = absurd (not_there s e)
    some_times (y ∷ ys) zero s e = elim (eqb_tells y s) [ inl t ↦ rw (t.0) (omega arith) | inr t ↦ absurd (t.1 (same_Some y s e)) ]
    some_times (y ∷ ys) (suc k) s e = let r = some_times ys k s e in omega (arith, r)

-- what a function gives on the numbers of a list's places
given_list : (g : ℕ → Option ℕ) (f : ℕ → ℕ) (a : ℕ) (cs : List ℕ) → ((i c : ℕ) → slice_get cs i ≡ Some c → g (a + i) ≡ Some (f c)) → filter_map g (range_with_len a (length cs)) ≡ map f cs
given_list g f a [] h = refl
given_list g f a (c ∷ cs) h =
    let first : g a ≡ Some (f c) = ap g (plain a) ∙ h 0 c refl in
    rw first (ap (λ xs. f c ∷ xs) (given_list g f (a + 1) cs (λ i d e. ap g (shift a i) ∙ h (suc i) d e)))
  where
    plain : (a : ℕ) → a ≡ a + 0
    plain a = omega arith

    shift : (a i : ℕ) → a + 1 + i ≡ a + suc i
    shift a i = omega arith

pub few_dims_of : (wide : Bool) (node : Node) → IsNode wide node → length node.dims ≤ 12
few_dims_of wide node is = le_of (length node.dims) 12 (and_parts _ _ (and_parts _ _ is.shaped).0).1

module _ (image : List ℕ) (tree : Tree) (p : Placement) (l : LaysOut image tree p) where
  -- the data of the node at a place, as the image has them
  abbrev data_at : ℕ → Option (List ℕ)
  data_at n = data_when (length (chunks_in image tree.wide n)) (take (data_size (type_or_mt (field image (n + 96) 32)) (dims_in image tree.wide n)) (payloads_in image (chunks_in image tree.wide n)))

  -- ---- one node

  pub data_again : (node : Node) (parts : NodeParts) → HoldsNode image tree p node parts → IsNode tree.wide node
      → data_at parts.header ≡ node.bytes
  data_again node parts h is = by_bytes node.bytes refl
    where
      chunks : parts.chunks ≡ map (chunk_part image) (chunks_in image tree.wide parts.header)
      chunks = ap (λ (q : NodeParts). q.chunks) (parts_held image tree p node parts h)

      many : length (chunks_in image tree.wide parts.header) ≡ length parts.chunks
      many = sym (ap length chunks ∙ length-map (chunks_in image tree.wide parts.header) (chunk_part image))

      few : length node.dims ≤ 12
      few = few_dims_of tree.wide node is

      size : data_size (type_or_mt (field image (parts.header + 96) 32)) (dims_in image tree.wide parts.header) ≡ data_size node.kind node.dims
      size = ap (λ k. data_size k (dims_in image tree.wide parts.header)) (kind_held image tree p node parts h) ∙ ap (data_size node.kind) (dims_held image tree p node parts h few)

      same_payloads : payloads image parts.chunks ≡ payloads_in image (chunks_in image tree.wide parts.header)
      same_payloads = ap (payloads image) chunks ∙ payloads_again image (chunks_in image tree.wide parts.header)

      some : (n : ℕ) → (n ≡ 0 → ⊥) → (n == 0) ≡ false
      some n differ = elim (eqb_tells n 0) [ inl t ↦ absurd (differ t.1) | inr t ↦ t.0 ]

      no_length : {A : Type 0} (xs : List A) → length xs ≡ 0 → xs ≡ []
      no_length [] e = refl
      no_length (x ∷ xs) e = absurd (omega (arith, e))

      by_bytes : (o : Option (List ℕ)) → node.bytes ≡ o
          → data_at parts.header ≡ o
      by_bytes None e =
          let none : length (chunks_in image tree.wide parts.header) ≡ 0 = many ∙ ap length (subst (λ o. HasData image parts.chunks o) e h.bytes) in
          ap (λ b. cond b None (Some (take (data_size (type_or_mt (field image (parts.header + 96) 32)) (dims_in image tree.wide parts.header)) (payloads_in image (chunks_in image tree.wide parts.header))))) (of_equal (length (chunks_in image tree.wide parts.header)) 0 none)
      by_bytes (Some bs) e =
          let kept = subst (λ o. HasData image parts.chunks o) e h.bytes in
          let sized : length bs ≡ data_size node.kind node.dims = subst (λ (o : Option (List ℕ)). IfSome o (λ (bytes : List ℕ). length bytes ≡ data_size node.kind node.dims)) e is.sized in
          ap (λ b. cond b None (Some (take (data_size (type_or_mt (field image (parts.header + 96) 32)) (dims_in image tree.wide parts.header)) (payloads_in image (chunks_in image tree.wide parts.header)))))
          (some (length (chunks_in image tree.wide parts.header)) (λ none. kept.0 (no_length parts.chunks (sym many ∙ none))))
          ∙ ap Some (ap (λ n. take n (payloads_in image (chunks_in image tree.wide parts.header))) (size ∙ sym sized) ∙ ap (take (length bs)) (sym same_payloads) ∙ kept.1)

  -- ---- the nodes of the walk

  module _ (nodes : List Visit) (w : NodeWalk image (Ok nodes)) (stand : AreStanding image tree p l nodes (tree_order tree)) where
    walked : IsWalked image nodes
    walked = is_walked image nodes w

    standing_at : (vs : List Visit) (ss : List ℕ) (k : ℕ) (v : Visit) → AreStanding image tree p l vs ss → slice_get vs k ≡ Some v → (s : ℕ) × (slice_get ss k ≡ Some s) × Stands image tree p l v s
    standing_at [] [] k v h e = cc
    standing_at [] (s ∷ ss) k v h e = absurd h
    standing_at (u ∷ us) [] k v h e = absurd h
    standing_at (u ∷ us) (s ∷ ss) zero v h e = (s, refl, subst (λ x. Stands image tree p l x s) (same_Some u v e) h.0)
    standing_at (u ∷ us) (s ∷ ss) (suc k) v h e = standing_at us ss k v h.1 e

    -- the number of a child among the visits is that in tree order
    child_number : (v : Visit) (s : ℕ) (t : Stands image tree p l v s) → IsIn v nodes → (i c : ℕ) → slice_get t.node.children i ≡ Some c → visit_number nodes (v.path ++ i ∷ []) ≡ Some (position_of (tree_order tree) c)
    child_number v s t here i c e =
        let inside : i < length t.node.children = slice_get_within t.node.children i c e in
        let count : children_in image v.place ≡ length t.node.children = ap (children_in image) t.place ∙ children_held image tree p t.node t.parts (l.nodes s t.node t.parts t.at t.has) in
        let k = number_in nodes (child_of image v i) (walked.closed v here (child_of image v i) (child_in image v 0 (children_in image v.place) i (omega arith) (omega (arith, inside, count)))) in
        let number : visit_number nodes (v.path ++ i ∷ []) ≡ Some k.0 = number_of-path nodes k.0 (child_of image v i) walked.ordered k.1 in
        let that = standing_at nodes (tree_order tree) k.0 (child_of image v i) stand k.1 in
        let r = entry_read image tree p l s t.node t.parts t.at t.has i inside in
        let same : r.child ≡ c = same_Some r.child c (sym r.listed ∙ e) in
        let place : r.below.header ≡ that.2.parts.header = sym (ap (λ n. place_of (entry_pointer image (table_in image n) i)) t.place ∙ points_to (entry_pointer image (table_in image t.parts.header) i) r.below.header r.points) ∙ that.2.place in
        let one : r.child ≡ that.0 = one_place r.child that.0 r.below that.2.parts r.has that.2.has place in
        let at : slice_get (tree_order tree) k.0 ≡ Some c = that.1 ∙ ap Some (sym one ∙ same) in
        number ∙ ap Some (sym (position_at (tree_order tree) k.0 c at (once c)))
      where
        one_place : (i j : ℕ) (a b : NodeParts) → parts_of p i ≡ Some a → parts_of p j ≡ Some b → a.header ≡ b.header → i ≡ j
        one_place i j a b e f same = elim (eqb_tells i j) [ inl t ↦ t.1 | inr t ↦ absurd (places_differ image tree p l i j a b t.1 e f same) ]

        once : (c : ℕ) → times c (tree_order tree) ≤ 1
        once c = few (is_live tree c) (times c (tree_order tree)) (listed_times tree l.is_tree c)
          where
            few : (t : Bool) (n : ℕ) → n ≡ (if t then 1 else 0) → n ≤ 1
            few true n e = omega (arith, e)
            few false n e = omega (arith, e)

    children_again : (v : Visit) (s : ℕ) (t : Stands image tree p l v s) → IsIn v nodes → children_among image nodes v ≡ map (position_of (tree_order tree)) t.node.children
    children_again v s t here =
        ap (λ n. filter_map (λ i. visit_number nodes (v.path ++ i ∷ [])) (count_up n)) (ap (children_in image) t.place ∙ children_held image tree p t.node t.parts (l.nodes s t.node t.parts t.at t.has))
        ∙ given_list (λ i. visit_number nodes (v.path ++ i ∷ [])) (position_of (tree_order tree)) 0 t.node.children (λ i c e. ap (λ j. visit_number nodes (v.path ++ j ∷ [])) (front i) ∙ child_number v s t here i c e)
      where
        front : (i : ℕ) → 0 + i ≡ i
        front i = omega arith

    node_again : (v : Visit) (s : ℕ) → Stands image tree p l v s → IsIn v nodes → renumbered_node (tree_order tree) (node_at tree s) ≡ Some (node_of_visit image tree.wide nodes v)
    node_again v s t here =
        let h = l.nodes s t.node t.parts t.at t.has in
        let is = l.is_tree.each s t.node t.at in
        let few : length t.node.dims ≤ 12 = few_dims_of tree.wide t.node is in
        let name : text_at image (v.place + 4) 32 ≡ t.node.name = ap (λ n. trimmed (field image (n + 4) 32)) t.place ∙ ap trimmed (name_held image tree p t.node t.parts h) ∙ name_again t.node.name is.named in
        let label : text_at image (v.place + 36) 32 ≡ t.node.label = ap (λ n. trimmed (field image (n + 36) 32)) t.place ∙ ap trimmed (label_held image tree p t.node t.parts h) ∙ label_again t.node.label is.labelled in
        let kind : type_or_mt (field image (v.place + 96) 32) ≡ t.node.kind = ap (λ n. type_or_mt (field image (n + 96) 32)) t.place ∙ kind_held image tree p t.node t.parts h in
        let dims : dims_in image tree.wide v.place ≡ t.node.dims = ap (dims_in image tree.wide) t.place ∙ dims_held image tree p t.node t.parts h few in
        let bytes : data_at v.place ≡ t.node.bytes = ap data_at t.place ∙ data_again t.node t.parts h is in
        ap (renumbered_node (tree_order tree)) t.at
        ∙ ap (λ n. Some (record { name = n; label = t.node.label; kind = t.node.kind; dims = t.node.dims; bytes = t.node.bytes; children = map (position_of (tree_order tree)) t.node.children })) (sym name)
        ∙ ap (λ n. Some (record { name = text_at image (v.place + 4) 32; label = n; kind = t.node.kind; dims = t.node.dims; bytes = t.node.bytes; children = map (position_of (tree_order tree)) t.node.children })) (sym label)
        ∙ ap (λ n. Some (record { name = text_at image (v.place + 4) 32; label = text_at image (v.place + 36) 32; kind = n; dims = t.node.dims; bytes = t.node.bytes; children = map (position_of (tree_order tree)) t.node.children })) (sym kind)
        ∙ ap (λ n. Some (record { name = text_at image (v.place + 4) 32; label = text_at image (v.place + 36) 32; kind = type_or_mt (field image (v.place + 96) 32); dims = n; bytes = t.node.bytes; children = map (position_of (tree_order tree)) t.node.children })) (sym dims)
        ∙ ap (λ n. Some (record { name = text_at image (v.place + 4) 32; label = text_at image (v.place + 36) 32; kind = type_or_mt (field image (v.place + 96) 32); dims = dims_in image tree.wide v.place; bytes = n; children = map (position_of (tree_order tree)) t.node.children })) (sym bytes)
        ∙ ap (λ n. Some (record { name = text_at image (v.place + 4) 32; label = text_at image (v.place + 36) 32; kind = type_or_mt (field image (v.place + 96) 32); dims = dims_in image tree.wide v.place; bytes = data_at v.place; children = n })) (sym (children_again v s t here))

    nodes_again : (vs : List Visit) (ss : List ℕ) → ((v : Visit) → IsIn v vs → IsIn v nodes) → AreStanding image tree p l vs ss → map (λ s. renumbered_node (tree_order tree) (node_at tree s)) ss ≡ map (λ v. Some (node_of_visit image tree.wide nodes v)) vs
    nodes_again [] [] within h = refl
    nodes_again [] (s ∷ ss) within h = absurd h
    nodes_again (v ∷ vs) [] within h = absurd h
    nodes_again (v ∷ vs) (s ∷ ss) within h =
        ap (λ x. x ∷ map (λ s. renumbered_node (tree_order tree) (node_at tree s)) ss) (node_again v s h.0 (within v (inl refl))) ∙ ap (λ xs. Some (node_of_visit image tree.wide nodes v) ∷ xs) (nodes_again vs ss (λ u k. within u (inr k)) h.1)

    -- the tree, numbered in tree order, is the tree of the visits
    pub tree_again : numbered tree ≡ tree_of image nodes
    tree_again =
        ap (λ (xs : List (Option Node)). record { wide = tree.wide; format = tree.format; nodes = xs }) (nodes_again nodes (tree_order tree) (λ v k. k) stand)
        ∙ ap (λ f. record { wide = tree.wide; format = f; nodes = map (λ v. Some (node_of_visit image tree.wide nodes v)) nodes }) (sym (format_recorded image tree p l))
        ∙ ap (λ b. record { wide = b; format = format_in image; nodes = map (λ v. Some (node_of_visit image b nodes v)) nodes }) (sym (wide_recorded image tree p l))

    parts_again : (vs : List Visit) (ss : List ℕ) → AreStanding image tree p l vs ss → map (parts_of p) ss ≡ map (λ v. Some (parts_at image tree.wide v.place)) vs
    parts_again [] [] h = refl
    parts_again [] (s ∷ ss) h = absurd h
    parts_again (v ∷ vs) [] h = absurd h
    parts_again (v ∷ vs) (s ∷ ss) h =
        ap (λ x. x ∷ map (parts_of p) ss) (h.0.has ∙ ap Some (sym (same_parts image tree p l v s h.0))) ∙ ap (λ xs. Some (parts_at image tree.wide v.place) ∷ xs) (parts_again vs ss h.1)

    -- and its parts in tree order are those that the visits name
    pub parts_named : map (parts_of p) (tree_order tree) ≡ map (λ v. Some (parts_at image (is_wide image) v.place)) nodes
    parts_named = parts_again nodes (tree_order tree) stand ∙ ap (λ b. map (λ v. Some (parts_at image b v.place)) nodes) (sym (wide_recorded image tree p l))
