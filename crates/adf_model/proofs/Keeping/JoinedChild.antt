-- What a child that joined is: the node of the next serial, the last child of its parent and one step below it.
use Rattle.std.proofs.Common.{◌≡◌, ◌≢◌, ℕ, suc, ◌-◌, ◌^◌, ◌<◌, true, false, List, [], ◌∷◌, ◌++◌, length, refl, sym, ◌∙◌, ap, subst, arith, length-append}
use Rattle.std.proofs.lemmas.List.{length-set, length-map}
use Rattle.std.specs.Prelude.{Option, Some, None, is_some, slice_set}
use Rattle.adf_format.specs.Tree.{Node, Tree, IsTree, IsNode, node_at, children_at, children_of, depth_of, lineage, first_named, is_link, next_serial}
use Rattle.adf_model.specs.Edits.{given_children, with_new}
use Rattle.adf_model.proofs.Keeping.Created.{lineage_old, lineage_new, IsTree-created}
use Rattle.adf_model.proofs.Creation.CreatedNodes.{at_new, at_set, at_other, there_inside}

-- what a node needs to join a parent
pub record MayJoin (tree : Tree) (s : ℕ) (parent node : Node) : Type 0 where
  pub is : IsTree tree
  pub at : node_at tree s ≡ Some parent
  pub childless : node.children ≡ []
  pub sound : IsNode tree.wide node
  pub no_link : is_link parent ≡ false
  pub named : is_some (first_named tree parent.children node.name) ≡ false
  pub room : length parent.children < 2 ^ 20
  pub high : depth_of tree s < 255
  pub left : length tree.nodes < 2 ^ 48

module _ (tree after : Tree) (s : ℕ) (parent node : Node) (m : MayJoin tree s parent node) (made : with_new tree s node ≡ after) where
  abbrev parent_then : Option Node
  parent_then = Some (record parent { children = parent.children ++ length tree.nodes ∷ [] })

  abbrev grown_tree : Tree
  grown_tree = record tree { nodes = slice_set tree.nodes s parent_then ++ Some node ∷ [] }

  is_grown : grown_tree ≡ after
  is_grown = ap (λ (o : Option Node). record tree { nodes = slice_set tree.nodes s (given_children (children_of o ++ length tree.nodes ∷ []) o) ++ Some node ∷ [] }) (sym m.at) ∙ made

  pub joined_sound : IsTree after
  joined_sound = subst IsTree is_grown (IsTree-created tree s parent node m.is m.at m.childless m.sound m.no_link m.named m.room m.high m.left)

  pub joined_kind : (after.wide ≡ tree.wide) × (after.format ≡ tree.format)
  joined_kind = (ap (λ (t : Tree). t.wide) (sym is_grown), ap (λ (t : Tree). t.format) (sym is_grown))

  pub serial_drawn : next_serial after ≡ suc (next_serial tree)
  serial_drawn =
      ap next_serial (sym is_grown) ∙ length-append (slice_set tree.nodes s parent_then) (Some node ∷ [])
      ∙ (let e = length-set tree.nodes s parent_then in omega (arith, e))

  pub child_there : node_at after (next_serial tree) ≡ Some node
  child_there = ap (λ (t : Tree). node_at t (next_serial tree)) (sym is_grown) ∙ at_new tree.nodes s (next_serial tree) parent_then (Some node) None refl

  pub parent_there : node_at after s ≡ Some (record parent { children = parent.children ++ next_serial tree ∷ [] })
  parent_there = ap (λ (t : Tree). node_at t s) (sym is_grown) ∙ at_set tree.nodes s parent_then (Some node) None (there_inside tree.nodes s parent m.at)

  pub last_child : children_at after s ≡ children_at tree s ++ next_serial tree ∷ []
  last_child = ap children_of parent_there ∙ ap (λ xs. xs ++ next_serial tree ∷ []) (sym (ap children_of m.at))

  pub others_stay : (k : ℕ) → k ≢ s → k ≢ next_serial tree → node_at after k ≡ node_at tree k
  others_stay k differ new = ap (λ (t : Tree). node_at t k) (sym is_grown) ∙ at_other tree.nodes s k parent_then (Some node) None new differ

  -- an old node has those above it that it had
  pub above_stay : (k : ℕ) → is_some (node_at tree k) ≡ true → lineage after k ≡ lineage tree k
  above_stay k live = ap (λ (t : Tree). lineage t k) (sym is_grown) ∙ lineage_old tree s parent node m.is m.at m.childless m.sound m.no_link m.named m.room m.high m.left k live

  pub above_child : lineage after (next_serial tree) ≡ next_serial tree ∷ lineage tree s
  above_child =
      ap (λ (t : Tree). lineage t (next_serial tree)) (sym is_grown) ∙ lineage_new tree s parent node m.is m.at m.childless m.sound m.no_link m.named m.room m.high m.left
      ∙ ap (λ k. k ∷ lineage tree s) (length-map tree.nodes children_of)

  not_alone : 0 < length (lineage tree s)
  unfolding lineage
  not_alone = omega arith

  pub child_depth : depth_of after (next_serial tree) ≡ suc (depth_of tree s)
  child_depth = ap (λ (xs : List ℕ). length xs - 1) above_child ∙ (let some = not_alone in omega (arith, some))
