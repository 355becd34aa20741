-- A tree is read again from its image by the places of its headers.
use Rattle.std.proofs.Common.{◌≡◌, ℕ, zero, suc, refl, sym, ◌∙◌, ap, List, [], ◌∷◌, length, map, get_or, Bool, false}
use Rattle.std.proofs.lemmas.List.{length-map}
use Rattle.std.specs.Prelude.{Option, Some, None, is_some}
use Rattle.std.specs.Option.{option_map}
use Rattle.adf_format.specs.Tree.{Tree, Node, node_at}
use Rattle.adf_format.specs.Placement.{Placement, NodeParts, Heap, parts_of}
use Rattle.adf_format.specs.LaysOut.{LaysOut}
use Rattle.adf_format.specs.SoundPart.{format_in}
use Rattle.adf_format.specs.HeapRule.{parts_or_none}
use Rattle.adf_format.proofs.SameLayout.{wide_recorded, format_recorded}
use Rattle.adf_model.proofs.Basics.{not_true}
use Rattle.layout_laws.specs.FoundLayout.{parts_at}
use Rattle.layout_laws.proofs.HeldParts.{parts_held}
use Rattle.layout_laws.proofs.SameLayouts.{one_layout}
use Rattle.tree_laws.specs.Reading.{node_in, tree_in, placement_in, ArePlaces, SaysPlace, TableIsPlaces, TreeIsRead, OneTree}
use Rattle.tree_laws.proofs.Reading.PlacesFound.{same_list, get_mapped}
use Rattle.tree_laws.proofs.Reading.NodeIsRead.{node_is_read}

there_at : {A : Type 0} (xs : List (Option A)) (k : ℕ) → get_or (map is_some xs) k false ≡ is_some (get_or xs k None)
there_at [] k = refl
there_at (x ∷ xs) zero = refl
there_at (x ∷ xs) (suc k) = there_at xs k

module _ (image : List ℕ) (tree : Tree) (p : Placement) (l : LaysOut image tree p) (places : List (Option ℕ)) (are : ArePlaces p places) where
  both_there : (k : ℕ) → is_some (parts_of p k) ≡ is_some (node_at tree k)
  both_there k = sym (there_at p.parts k) ∙ ap (λ (bs : List Bool). get_or bs k false) l.same_nodes ∙ there_at tree.nodes k

  many : length p.parts ≡ length tree.nodes
  many = sym (length-map p.parts is_some) ∙ ap (λ (bs : List Bool). length bs) l.same_nodes ∙ length-map tree.nodes is_some

  node_read : (k : ℕ) (n : Option Node) (ms : Option NodeParts) → node_at tree k ≡ n → parts_of p k ≡ ms → is_some ms ≡ is_some n → n ≡ option_map (λ place. node_in image tree.wide places place) (option_map (λ (parts : NodeParts). parts.header) ms)
  node_read k None None at has e = refl
  node_read k None (Some parts) at has e = absurd (not_true (sym e))
  node_read k (Some node) None at has e = absurd (not_true e)
  node_read k (Some node) (Some parts) at has e = ap Some (node_is_read image tree p l places are k node parts at has)

  parts_read : (k : ℕ) (n : Option Node) (ms : Option NodeParts) → node_at tree k ≡ n → parts_of p k ≡ ms → is_some ms ≡ is_some n → ms ≡ option_map (λ place. parts_at image tree.wide place) (option_map (λ (parts : NodeParts). parts.header) ms)
  parts_read k n None at has e = refl
  parts_read k None (Some parts) at has e = absurd (not_true (sym e))
  parts_read k (Some node) (Some parts) at has e = ap Some (parts_held image tree p node parts (l.nodes k node parts at has))

  nodes_read : tree.nodes ≡ map (option_map (λ place. node_in image tree.wide places place)) places
  nodes_read =
      same_list tree.nodes (map (option_map (λ place. node_in image tree.wide places place)) places) (sym many ∙ sym are.count ∙ sym (length-map places (option_map (λ place. node_in image tree.wide places place))))
      (λ k. node_read k (node_at tree k) (parts_of p k) refl refl (both_there k) ∙ ap (option_map (λ place. node_in image tree.wide places place)) (sym (are.each k)) ∙ sym (get_mapped (λ place. node_in image tree.wide places place) places k))

  all_parts_read : p.parts ≡ map (option_map (λ place. parts_at image tree.wide place)) places
  all_parts_read =
      same_list p.parts (map (option_map (λ place. parts_at image tree.wide place)) places) (sym are.count ∙ sym (length-map places (option_map (λ place. parts_at image tree.wide place))))
      (λ k. parts_read k (node_at tree k) (parts_of p k) refl refl (both_there k) ∙ ap (option_map (λ place. parts_at image tree.wide place)) (sym (are.each k)) ∙ sym (get_mapped (λ place. parts_at image tree.wide place) places k))

  tree_read : tree ≡ tree_in image places
  tree_read =
      ap (λ (ns : List (Option Node)). record { wide = tree.wide; format = tree.format; nodes = ns }) nodes_read
      ∙ ap (λ f. record { wide = tree.wide; format = f; nodes = map (option_map (λ place. node_in image tree.wide places place)) places }) (sym (format_recorded image tree p l))
      ∙ ap (λ b. record { wide = b; format = format_in image; nodes = map (option_map (λ place. node_in image b places place)) places }) (sym (wide_recorded image tree p l))

  placement_read : p ≡ placement_in image places p.heap
  placement_read =
      ap (λ (ms : List (Option NodeParts)). record { parts = ms; heap = p.heap }) all_parts_read
      ∙ ap (λ b. record { parts = map (option_map (λ place. parts_at image b place)) places; heap = p.heap }) (sym (wide_recorded image tree p l))

pub tree_is_read : TreeIsRead
tree_is_read image tree p places l are = (tree_read image tree p l places are, placement_read image tree p l places are)

pub one_tree : OneTree
one_tree image t u p q places l m one other =
    let first = tree_is_read image t p places l one in
    let second = tree_is_read image u q places m other in
    (first.0 ∙ sym second.0, first.1 ∙ ap (λ (heap : Heap). placement_in image places heap) (one_layout image t u p q l m).heap ∙ sym second.1)

-- ---- a table of the nodes

module _ (image : List ℕ) (tree : Tree) (p : Placement) (l : LaysOut image tree p) where
  live_alike : (k : ℕ) → is_some (parts_of p k) ≡ is_some (node_at tree k)
  live_alike k = sym (there_at p.parts k) ∙ ap (λ (bs : List Bool). get_or bs k false) l.same_nodes ∙ there_at tree.nodes k

  place_told : (k : ℕ) (o : Option ℕ) (ms : Option NodeParts) → parts_of p k ≡ ms → SaysPlace tree p k o → o ≡ option_map (λ (parts : NodeParts). parts.header) ms
  place_told k None None has says = refl
  place_told k None (Some parts) has says = absurd (not_true (sym (ap is_some says) ∙ sym (live_alike k) ∙ ap is_some has))
  place_told k (Some place) None has says = absurd (not_true (sym (ap is_some has) ∙ live_alike k ∙ says.0))
  place_told k (Some place) (Some parts) has says = ap Some (says.1 ∙ ap (λ (o : Option NodeParts). (parts_or_none o).header) has)

  as_many : length p.parts ≡ length tree.nodes
  as_many = sym (length-map p.parts is_some) ∙ ap (λ (bs : List Bool). length bs) l.same_nodes ∙ length-map tree.nodes is_some

pub table_is_places : TableIsPlaces
table_is_places image tree p places l count says = record {
  count = count ∙ sym (as_many image tree p l);
  each = λ k. place_told image tree p l k (get_or places k None) (parts_of p k) refl (says k);
}
