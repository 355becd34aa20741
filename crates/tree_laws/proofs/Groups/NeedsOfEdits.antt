-- An edit that is placed makes a file grow by its need at most.
use Rattle.std.proofs.Common.{◌≡◌, ℕ, refl, sym, ◌∙◌, ap, subst, arith, Bool, true, false, not, List, [], ◌∷◌, ◌++◌, length, get_or, ◌+◌}
use Rattle.std.specs.Prelude.{Option, Some, None, Result, Ok, Err, if◌then◌else◌, IfSome}
use Rattle.std.specs.Option.{option_map}
use Rattle.std.specs.List.{flat_map}
use Rattle.adf_format.specs.Names.{data_size}
use Rattle.adf_format.specs.Tree.{Tree, Node, IsTree, node_at, children_at, next_serial, is_live, erased_from}
use Rattle.adf_format.specs.Parts.{node_length}
use Rattle.adf_format.specs.Links.{link_text}
use Rattle.adf_format.specs.Placement.{Placement, NodeParts, Heap, extents_of}
use Rattle.adf_format.specs.HeapRule.{LimitReached, Taken, GrownTable, heap_take, no_parts, parts_or_none, parts_at, with_new_parts, take_bytes, grow_table, after_gives, place_data, data_of_node, data_at, place_new, place_deleted, place_edit, chunk_length_for, ◌>>=◌}
use Rattle.adf_model.specs.declared.error.AdfError.{AdfError}
use Rattle.adf_model.specs.declared.tree.Edit.{Edit}
use Rattle.adf_model.specs.declared.tree.Edit.TheVariants.{Create, Delete, Rename, Move, SetLabel, SetDims, PutAll, PutPart, Link}
use Rattle.adf_model.specs.declared.tree.NodeId.{NodeId}
use Rattle.adf_model.specs.declared.tree.Shape.{Shape}
use Rattle.adf_model.specs.Shapes.{dims_of}
use Rattle.adf_model.specs.Edits.{apply, create_tests, link_tests, shape_tests, data_tests, length_test, part_size, given_children, new_node, new_link, with_new, with_node, with_shape, with_part, keeps_data, resized, size_of}
use Rattle.adf_model.specs.Selection.{selection_fits}
use Rattle.adf_model.specs.Need.{need, grown_table_length, kept_size, size_in, data_need}
use Rattle.adf_model.specs.Placing.{placed_as}
use Rattle.adf_model.proofs.Basics.{passed, found, same_Ok, not_Err}
use Rattle.adf_model.proofs.Creation.CreatedNodes.{last_of, at_new, there_inside}
use Rattle.adf_model.proofs.Keeping.EditsKeep.{apply_keeps}
use Rattle.std.proofs.lemmas.List.{get_or-set_same}
use Rattle.tree_laws.specs.Needs.{NeedsBound, Grows}
use Rattle.tree_laws.proofs.Groups.TakesGrow.{Within, more, chain, then_same, stays, take_grows, given_end, table_last, table_grows, data_grow, first_data_grow, table_leaves_chunks}

abbrev ends_at : Placement → ℕ
ends_at p = p.heap.end

grows_as : (limit end most : ℕ) (r : Result Placement LimitReached) → Within ends_at limit end most r → Grows limit end most r
grows_as limit end most (Ok q) h = h
grows_as limit end most (Err full) h = h

-- ---- a new node

abbrev with_heap : Placement → Result (ℕ × Heap) LimitReached → Result Taken LimitReached
with_heap p r = r >>= λ (t : ℕ × Heap). Ok (t.0, record p { heap = t.1 })

take_parts : (p : Placement) (r : Result (ℕ × Heap) LimitReached) (h : Taken) → with_heap p r ≡ Ok h → h.1.parts ≡ p.parts
take_parts p (Ok t) h e = sym (ap (λ (t : Taken). t.1.parts) (same_Ok e))
take_parts p (Err full) h e = absurd (not_Err e)

module _ (limit : ℕ) (tree after : Tree) (s : ℕ) (p : Placement) (d : ℕ) (as_many : length p.parts ≡ length tree.nodes)
    (its_data : (q : Placement) → (parts_at q (next_serial tree)).chunks ≡ [] → Within ends_at limit q.heap.end d (place_data limit q (next_serial tree) (data_at after (next_serial tree)))) where
  bare : (h : Taken) → h.1.parts ≡ p.parts → (parts_at (with_new_parts h.1 h.0) (next_serial tree)).chunks ≡ []
  bare h same =
      ap (λ (o : Option NodeParts). (parts_or_none o).chunks)
      (ap (λ (k : ℕ). get_or (h.1.parts ++ Some (record no_parts { header = h.0 }) ∷ []) k None) (sym as_many ∙ sym (ap (λ (xs : List (Option NodeParts)). length xs) same))
      ∙ last_of h.1.parts (Some (record no_parts { header = h.0 })) None)

  abbrev rest_of : Taken → Result Placement LimitReached
  rest_of h =
      grow_table limit tree s (with_new_parts h.1 h.0) >>= λ (g : GrownTable).
      (place_data limit g.placed (next_serial tree) (data_at after (next_serial tree)) >>= λ (q : Placement). Ok (after_gives q g.given))

  rest_grows : (h : Taken) → h.1.parts ≡ p.parts → Within ends_at limit h.1.heap.end (grown_table_length (length (children_at tree s)) + d) (rest_of h)
  rest_grows h same =
      chain table_last ends_at limit h.1.heap.end (grown_table_length (length (children_at tree s))) d (grow_table limit tree s (with_new_parts h.1 h.0)) _ (table_grows limit tree s (with_new_parts h.1 h.0))
      (λ g grown. then_same ends_at ends_at limit g.placed.heap.end d (place_data limit g.placed (next_serial tree) (data_at after (next_serial tree))) (λ (q : Placement). after_gives q g.given) (λ q. given_end g.given q.heap)
      (its_data g.placed (table_leaves_chunks limit tree s (next_serial tree) (with_new_parts h.1 h.0) g grown ∙ bare h same)))

  pub new_grows : Within ends_at limit p.heap.end (node_length tree.wide + (grown_table_length (length (children_at tree s)) + d)) (place_new limit tree after s p)
  new_grows =
      chain (λ (t : Taken). t.1.heap.end) ends_at limit p.heap.end (node_length tree.wide) (grown_table_length (length (children_at tree s)) + d) (take_bytes limit (node_length tree.wide) p) rest_of (take_grows limit (node_length tree.wide) p)
      (λ h at. rest_grows h (take_parts p (heap_take limit (node_length tree.wide) p.heap) h at))

-- the data of a new node
new_data : (tree : Tree) (s : ℕ) (node : Node) → data_at (with_new tree s node) (next_serial tree) ≡ node.bytes
new_data tree s node =
    ap data_of_node (at_new tree.nodes s (next_serial tree) (given_children (children_at tree s ++ length tree.nodes ∷ []) (get_or tree.nodes s None)) (Some node) None refl)

-- ---- data of a node that stands

data_set : (tree : Tree) (s : ℕ) (old node : Node) → node_at tree s ≡ Some old → node_at (with_node tree s node) s ≡ Some node
data_set tree s old node at = get_or-set_same tree.nodes s (Some node) None (there_inside tree.nodes s old at)

sized_data : (limit : ℕ) (p : Placement) (s : ℕ) (after : Tree) (node : Node) → IsTree after → node_at after s ≡ Some node
    → Within ends_at limit p.heap.end (data_need (Some (data_size node.kind node.dims))) (place_data limit p s (data_at after s))
sized_data limit p s after node is at =
    subst (λ (o : Option (List ℕ)). Within ends_at limit p.heap.end (data_need (Some (data_size node.kind node.dims))) (place_data limit p s o)) (sym (ap data_of_node at)) (by_bytes node.bytes (is.each s node at).sized)
  where
    by_bytes : (o : Option (List ℕ)) → IfSome o (λ bytes. length bytes ≡ data_size node.kind node.dims) → Within ends_at limit p.heap.end (data_need (Some (data_size node.kind node.dims))) (place_data limit p s o)
    by_bytes None fit = more ends_at limit p.heap.end 0 (data_need (Some (data_size node.kind node.dims))) (place_data limit p s None) (omega arith) (data_grow limit p s None)
    by_bytes (Some bytes) fit = subst (λ (n : ℕ). Within ends_at limit p.heap.end (data_need (Some n)) (place_data limit p s (Some bytes))) fit (data_grow limit p s (Some bytes))

no_data : (limit : ℕ) (p : Placement) (s : ℕ) (o : Option (List ℕ)) → o ≡ None → Within ends_at limit p.heap.end 0 (place_data limit p s o)
no_data limit p s o e = subst (λ (o : Option (List ℕ)). Within ends_at limit p.heap.end 0 (place_data limit p s o)) (sym e) (data_grow limit p s None)

-- the data of a node that stands at a serial, in the tree after
stands_data : (limit : ℕ) (tree after : Tree) (p : Placement) (s : ℕ) (old node : Node) → IsTree after → node_at tree s ≡ Some old → with_node tree s node ≡ after → data_size node.kind node.dims ≡ size_of old
    → Within ends_at limit p.heap.end (data_need (Some (size_in (node_at tree s)))) (place_data limit p s (data_at after s))
stands_data limit tree after p s old node is at made same =
    subst (λ (n : ℕ). Within ends_at limit p.heap.end (data_need (Some n)) (place_data limit p s (data_at after s))) (same ∙ sym (ap size_in at))
    (sized_data limit p s after node is (ap (λ (t : Tree). node_at t s) (sym made) ∙ data_set tree s old node at))

shaped_data : (limit : ℕ) (tree after : Tree) (p : Placement) (s : ℕ) (old : Node) (shape : Shape) → IsTree after → node_at tree s ≡ Some old → with_node tree s (with_shape old shape) ≡ after
    → Within ends_at limit p.heap.end (data_need (kept_size (node_at tree s) shape)) (place_data limit p s (data_at after s))
shaped_data limit tree after p s old shape is at made =
    subst (λ (o : Option Node). Within ends_at limit p.heap.end (data_need (kept_size o shape)) (place_data limit p s (data_at after s))) (sym at) (by_kept (keeps_data old shape) refl)
  where
    here : node_at after s ≡ Some (with_shape old shape)
    here = ap (λ (t : Tree). node_at t s) (sym made) ∙ data_set tree s old (with_shape old shape) at

    by_kept : (b : Bool) → keeps_data old shape ≡ b → Within ends_at limit p.heap.end (data_need (if b then Some (data_size shape.kind (dims_of shape)) else None)) (place_data limit p s (data_at after s))
    by_kept true e = sized_data limit p s after (with_shape old shape) is here
    by_kept false e = no_data limit p s (data_at after s) (ap data_of_node here ∙ ap (λ (b : Bool). if b then option_map (λ bytes. resized bytes (data_size shape.kind (dims_of shape))) old.bytes else None) e)

-- ---- each edit

create_grows : (limit : ℕ) (tree after : Tree) (p : Placement) (at : NodeId) (name label : List ℕ) → length p.parts ≡ length tree.nodes → apply tree (Create at name label) ≡ Ok after
    → Within ends_at limit p.heap.end (need tree (Create at name label)) (place_new limit tree after at.serial p)
create_grows limit tree after p at name label as_many made =
    more ends_at limit p.heap.end _ (need tree (Create at name label)) (place_new limit tree after at.serial p) (omega arith)
    (new_grows limit tree after at.serial p 0 as_many (λ q none. no_data limit q (next_serial tree) (data_at after (next_serial tree)) bare_after))
  where
    is_made : with_new tree at.serial (new_node name label) ≡ after
    is_made = same_Ok (passed (create_tests tree at.serial name label) (Ok (with_new tree at.serial (new_node name label))) after made).1

    bare_after : data_at after (next_serial tree) ≡ None
    bare_after = ap (λ (t : Tree). data_at t (next_serial tree)) (sym is_made) ∙ new_data tree at.serial (new_node name label)

link_grows : (limit : ℕ) (tree after : Tree) (p : Placement) (at : NodeId) (name file path : List ℕ) → length p.parts ≡ length tree.nodes → apply tree (Link at name file path) ≡ Ok after
    → Within ends_at limit p.heap.end (need tree (Link at name file path)) (place_new limit tree after at.serial p)
link_grows limit tree after p at name file path as_many made =
    more ends_at limit p.heap.end _ (need tree (Link at name file path)) (place_new limit tree after at.serial p) (omega arith)
    (new_grows limit tree after at.serial p (chunk_length_for (length (link_text file path))) as_many (λ q none.
    subst (λ (o : Option (List ℕ)). Within ends_at limit q.heap.end (chunk_length_for (length (link_text file path))) (place_data limit q (next_serial tree) o)) (sym text_after)
    (first_data_grow limit q (next_serial tree) (link_text file path) none)))
  where
    is_made : with_new tree at.serial (new_link name (link_text file path)) ≡ after
    is_made = same_Ok (passed (link_tests tree at.serial name file path) (Ok (with_new tree at.serial (new_link name (link_text file path)))) after made).1

    text_after : data_at after (next_serial tree) ≡ Some (link_text file path)
    text_after = ap (λ (t : Tree). data_at t (next_serial tree)) (sym is_made) ∙ new_data tree at.serial (new_link name (link_text file path))

edit_grows : (limit : ℕ) (tree after : Tree) (p : Placement) (edit : Edit) → IsTree after → length p.parts ≡ length tree.nodes → apply tree edit ≡ Ok after
    → Within ends_at limit p.heap.end (need tree edit) (place_edit limit tree after (placed_as edit) p)
edit_grows limit tree after p (Create at name label) is as_many made = create_grows limit tree after p at name label as_many made
edit_grows limit tree after p (Link at name file path) is as_many made = link_grows limit tree after p at name file path as_many made
edit_grows limit tree after p (Delete node) is as_many made = stays limit p.heap.end (place_deleted after p) (given_end (flat_map (extents_of after.wide) (erased_from 0 (is_live after) p.parts)) p.heap)
edit_grows limit tree after p (Rename node wanted) is as_many made = stays limit p.heap.end p refl
edit_grows limit tree after p (SetLabel node label) is as_many made = stays limit p.heap.end p refl
edit_grows limit tree after p (Move node to) is as_many made =
    then_same table_last ends_at limit p.heap.end (grown_table_length (length (children_at tree to.serial))) (grow_table limit tree to.serial p) (λ (g : GrownTable). after_gives g.placed g.given) (λ g. given_end g.given g.placed.heap)
    (table_grows limit tree to.serial p)
edit_grows limit tree after p (SetDims node shape) is as_many made =
    let at = found (node_at tree node.serial) AdfError.NoSuchNode _ after made in
    let all = passed (shape_tests tree.wide at.0 shape) (Ok (with_node tree node.serial (with_shape at.0 shape))) after at.2 in
    shaped_data limit tree after p node.serial at.0 shape is at.1 (same_Ok all.1)
edit_grows limit tree after p (PutAll node given) is as_many made =
    let at = found (node_at tree node.serial) AdfError.NoSuchNode _ after made in
    let all = passed (data_tests at.0 ++ length_test (size_of at.0) given ∷ []) (Ok (with_node tree node.serial (record at.0 { bytes = Some given }))) after at.2 in
    stands_data limit tree after p node.serial at.0 (record at.0 { bytes = Some given }) is at.1 (same_Ok all.1) refl
edit_grows limit tree after p (PutPart node selection given) is as_many made =
    let at = found (node_at tree node.serial) AdfError.NoSuchNode _ after made in
    let all = passed (data_tests at.0 ++ (not (selection_fits at.0.dims selection), AdfError.BadRange) ∷ length_test (part_size at.0 selection) given ∷ []) (Ok (with_node tree node.serial (with_part at.0 selection given))) after at.2 in
    stands_data limit tree after p node.serial at.0 (with_part at.0 selection given) is at.1 (same_Ok all.1) refl

pub needs_bound : NeedsBound
needs_bound limit tree after p edit is reached as_many made =
    grows_as limit p.heap.end (need tree edit) (place_edit limit tree after (placed_as edit) p) (edit_grows limit tree after p edit (apply_keeps tree after edit is reached made) as_many made)
