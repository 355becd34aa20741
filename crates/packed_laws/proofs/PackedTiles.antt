-- The parts of a packed file tile it.
use Rattle.std.proofs.Common.{◌≡◌, ℕ, refl, sym, ◌∙◌, ap, subst, arith, List, [], ◌∷◌, ◌++◌, map, append_assoc, ◌+◌, ◌-◌, ◌<◌, Bool, true, false}
use Rattle.std.specs.Prelude.{Option, Some, None, is_some}
use Rattle.std.specs.List.{flat_map}
use Rattle.std.proofs.lemmas.List.{append-nil}
use Rattle.adf_format.specs.declared.types.Extent.{Extent}
use Rattle.adf_format.specs.Tree.{Tree, Node}
use Rattle.adf_format.specs.Tiles.{TilesFrom, Tiles}
use Rattle.adf_format.specs.Parts.{node_length}
use Rattle.adf_format.specs.Placement.{table_extents, chunk_extents, node_extents, extents_of, all_extents}
use Rattle.adf_format.specs.Packed.{packed_table, packed_data, packed_nodes, packed_length}
use Rattle.adf_format.proofs.TileLaws.{TilesInOrder-Tiles}
use Rattle.packed_laws.specs.PackedForm.{table_at, chunks_at, table_place, chunk_place, packed_parts, packed_room, packed_from, packed_placement}

plain : (n : ℕ) → n + 0 ≡ n
plain n = omega arith

table_tiles : (place : ℕ) (children : List ℕ) (rest : List Extent) (end : ℕ) → TilesFrom (place + packed_table children) rest end → TilesFrom place (table_extents (table_at place children) ++ rest) end
table_tiles place [] rest end t = subst (λ n. TilesFrom n rest end) (plain place) t
table_tiles place (c ∷ cs) rest end t = (refl, omega arith, t)

chunk_tiles : (place : ℕ) (bytes : Option (List ℕ)) (rest : List Extent) (end : ℕ) → TilesFrom (place + packed_data bytes) rest end → TilesFrom place (chunk_extents (chunks_at place bytes) ++ rest) end
chunk_tiles place None rest end t = subst (λ n. TilesFrom n rest end) (plain place) t
chunk_tiles place (Some bytes) rest end t = (refl, omega arith, t)

some_length : (wide : Bool) → 0 < node_length wide
some_length wide = omega arith

node_tiles : (wide : Bool) (place : ℕ) (node : Node) (rest : List Extent) (end : ℕ) → TilesFrom (place + packed_room wide node) rest end
    → TilesFrom place (node_extents wide (packed_parts wide place node) ++ rest) end
node_tiles wide place node rest end t =
    let T = table_extents (table_at (table_place wide place) node.children) in
    let C = chunk_extents (chunks_at (chunk_place wide place node) node.bytes) in
    let behind : TilesFrom (table_place wide place) (T ++ (C ++ rest)) end =
    table_tiles (table_place wide place) node.children (C ++ rest) end
    (chunk_tiles (chunk_place wide place node) node.bytes rest end (subst (λ n. TilesFrom n rest end) (sums place (node_length wide) (packed_table node.children) (packed_data node.bytes)) t)) in
    (refl, some_length wide, subst (λ (es : List Extent). TilesFrom (table_place wide place) es end) (joined T C) behind)
  where
    sums : (a b c d : ℕ) → a + (b + c + d) ≡ a + b + c + d
    sums a b c d = omega arith

    joined : (T C : List Extent) → T ++ (C ++ rest) ≡ (T ++ [] ++ C) ++ rest
    joined T C = sym (append_assoc (T ++ []) C rest ∙ ap (λ (l : List Extent). l ++ (C ++ rest)) (append-nil T))

nodes_tile : (wide : Bool) (place : ℕ) (nodes : List (Option Node)) (rest : List Extent) (end : ℕ) → TilesFrom (place + packed_nodes wide nodes) rest end
    → TilesFrom place (flat_map (extents_of wide) (packed_from wide place nodes) ++ rest) end
nodes_tile wide place [] rest end t = subst (λ n. TilesFrom n rest end) (plain place) t
nodes_tile wide place (None ∷ nodes) rest end t = nodes_tile wide place nodes rest end t
nodes_tile wide place (Some node ∷ nodes) rest end t =
    subst (λ (es : List Extent). TilesFrom place es end)
    (sym (append_assoc (node_extents wide (packed_parts wide place node)) (flat_map (extents_of wide) (packed_from wide (place + packed_room wide node) nodes)) rest))
    (node_tiles wide place node (flat_map (extents_of wide) (packed_from wide (place + packed_room wide node) nodes) ++ rest) end
    (nodes_tile wide (place + packed_room wide node) nodes rest end (subst (λ n. TilesFrom n rest end) (sums place (packed_room wide node) (packed_nodes wide nodes)) t)))
  where
    sums : (a b c : ℕ) → a + (b + c) ≡ a + b + c
    sums a b c = omega arith

pub packed_tiles : (tree : Tree) → Tiles (all_extents tree.wide (packed_placement tree)) (packed_length tree - 1)
packed_tiles tree = TilesInOrder-Tiles (all_extents tree.wide (packed_placement tree)) (packed_length tree - 1)
    (refl, omega arith, (refl, omega arith, nodes_tile tree.wide 266 tree.nodes [] (packed_length tree - 1) (omega arith)))

-- there are parts for each live node, and for no other
pub same_live : (wide : Bool) (place : ℕ) (nodes : List (Option Node)) → map is_some (packed_from wide place nodes) ≡ map is_some nodes
same_live wide place [] = refl
same_live wide place (None ∷ nodes) = ap (λ bs. false ∷ bs) (same_live wide place nodes)
same_live wide place (Some node ∷ nodes) = ap (λ bs. true ∷ bs) (same_live wide (place + packed_room wide node) nodes)
