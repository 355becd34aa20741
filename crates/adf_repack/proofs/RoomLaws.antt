-- The packed file of a tree that a file lays out is not much longer than that file.
use Rattle.std.proofs.Common.{◌≡◌, ◌≢◌, ℕ, suc, ◌+◌, ◌-◌, ◌*◌, ◌^◌, ◌<◌, ◌≤◌, List, [], ◌∷◌, ◌++◌, length, map, length-append, length-take, refl, sym, ap, arith, Bool, true, false}
use Rattle.std.specs.Prelude.{Option, Some, None, is_some, slice_index_or, drop}
use Rattle.std.specs.List.{AllByRecursion, flat_map}
use Rattle.adf_format.specs.Fields.{field}
use Rattle.adf_format.specs.LaysOut.{LaysOut, HoldsNode, HasTable, HasData, payloads}
use Rattle.adf_format.specs.Packed.{packed_table, packed_data, packed_nodes, packed_length}
use Rattle.adf_format.specs.Parts.{node_length, payload, SpellsChunk}
use Rattle.adf_format.specs.Placement.{Placement, NodeParts, TablePart, ChunkPart, extents_of, node_extents, table_extents, chunk_table_extents, chunk_extents, live_extents, head_extents, all_extents}
use Rattle.adf_format.specs.Tiles.{total_length}
use Rattle.adf_format.specs.Tree.{Tree, Node}
use Rattle.adf_format.proofs.CountLaws.{tiles_add_up}
use Rattle.adf_format.proofs.WalkLaws.{total_length-append}
use Rattle.packed_laws.specs.PackedForm.{packed_room}
use Rattle.adf_repack.specs.Given.{in_version}

header_twice : (wide : Bool) → 342 ≤ 2 * node_length wide
header_twice false = omega arith
header_twice true = omega arith

table_room : (image : List ℕ) (tree : Tree) (p : Placement) (node : Node) (o : Option TablePart) → HasTable image tree p node o → packed_table node.children ≤ total_length (table_extents o)
table_room image tree p node None none = let none_is = ap packed_table none in omega (arith, none_is)
table_room image tree p node (Some t) h = by_children node.children h.1
  where
    by_children : (kids : List ℕ) → length kids ≤ t.entries → packed_table kids ≤ total_length (table_extents (Some t))
    by_children [] few = omega arith
    by_children (c ∷ cs) few = omega (arith, few)

-- what the chunks hold, and as much as their frames
chunks_room : (image : List ℕ) (cs : List ChunkPart) → AllByRecursion (λ (c : ChunkPart). SpellsChunk (field image c.place c.length) c.place c.length) cs
    → length (payloads image cs) + 20 * length cs ≤ total_length (chunk_extents cs)
chunks_room image [] h = omega arith
chunks_room image (c ∷ cs) h =
    let long = h.0.long in
    let rest = chunks_room image cs h.1 in
    let both = length-append (payload image c.place c.length) (payloads image cs) in
    let one = length-take (c.length - 20) (drop (c.place + 16) image) in
    omega (arith, long, rest, both, one)

some_chunk : (cs : List ChunkPart) → cs ≢ [] → 1 ≤ length cs
some_chunk [] differs = absurd (differs refl)
some_chunk (c ∷ cs) differs = omega arith

each_long : (image : List ℕ) (cs : List ChunkPart) → AllByRecursion (λ (c : ChunkPart). SpellsChunk (field image c.place c.length) c.place c.length) cs → 21 * length cs ≤ total_length (chunk_extents cs)
each_long image [] h = omega arith
each_long image (c ∷ cs) h = let long = h.0.long in let rest = each_long image cs h.1 in omega (arith, long, rest)

data_room : (image : List ℕ) (cs : List ChunkPart) (o : Option (List ℕ)) → AllByRecursion (λ (c : ChunkPart). SpellsChunk (field image c.place c.length) c.place c.length) cs → HasData image cs o
    → packed_data o ≤ 2 * total_length (chunk_extents cs)
data_room image cs None h none = omega arith
data_room image cs (Some bytes) h holds =
    let some = some_chunk cs holds.0 in
    let all = chunks_room image cs h in
    let long = each_long image cs h in
    let first = length-take (length bytes) (payloads image cs) in
    let same = ap length holds.1 in
    omega (arith, some, all, long, first, same)

node_room : (image : List ℕ) (tree : Tree) (p : Placement) (node : Node) (parts : NodeParts) → HoldsNode image tree p node parts → packed_room true node ≤ 2 * total_length (node_extents tree.wide parts)
node_room image tree p node parts held =
    let h = header_twice tree.wide in
    let table = table_room image tree p node parts.table held.table in
    let chunks = data_room image parts.chunks node.bytes held.chunks held.bytes in
    let first = total_length-append (table_extents parts.table ++ chunk_table_extents parts.chunk_table (length parts.chunks)) (chunk_extents parts.chunks) in
    let second = total_length-append (table_extents parts.table) (chunk_table_extents parts.chunk_table (length parts.chunks)) in
    omega (arith, h, table, chunks, first, second)

first_same : (a b : Bool) (xs ys : List Bool) → a ∷ xs ≡ b ∷ ys → a ≡ b
first_same a b xs ys e = cc

rest_same : (a b : Bool) (xs ys : List Bool) → a ∷ xs ≡ b ∷ ys → xs ≡ ys
rest_same a b xs ys e = cc

true_not_false : {P : Type 0} → true ≡ false → P
true_not_false e = cc

nodes_room : (wide : Bool) (ns : List (Option Node)) (ps : List (Option NodeParts)) → map is_some ps ≡ map is_some ns
    → ((k : ℕ) (node : Node) (parts : NodeParts) → slice_index_or ns k None ≡ Some node → slice_index_or ps k None ≡ Some parts → packed_room true node ≤ 2 * total_length (node_extents wide parts))
    → packed_nodes true ns ≤ 2 * total_length (flat_map (extents_of wide) ps)
nodes_room wide [] ps same each = omega arith
nodes_room wide (None ∷ ns) [] same each = cc
nodes_room wide (Some node ∷ ns) [] same each = cc
nodes_room wide (None ∷ ns) (None ∷ ps) same each = nodes_room wide ns ps (rest_same false false (map is_some ps) (map is_some ns) same) (λ k node parts e f. each (suc k) node parts e f)
nodes_room wide (None ∷ ns) (Some parts ∷ ps) same each = true_not_false (first_same true false (map is_some ps) (map is_some ns) same)
nodes_room wide (Some node ∷ ns) (None ∷ ps) same each = true_not_false (sym (first_same false true (map is_some ps) (map is_some ns) same))
nodes_room wide (Some node ∷ ns) (Some parts ∷ ps) same each =
    let rest = nodes_room wide ns ps (rest_same true true (map is_some ps) (map is_some ns) same) (λ k m q e f. each (suc k) m q e f) in
    let here = each 0 node parts refl refl in
    let both = total_length-append (node_extents wide parts) (flat_map (extents_of wide) ps) in
    omega (arith, rest, here, both)

-- its length is one of 64 bits
pub short : (image : List ℕ) (tree : Tree) (p : Placement) → LaysOut image tree p → p.heap.end < 2 ^ 44 → packed_length (in_version true tree) < 2 ^ 64 - 1
short image tree p l low =
    let nodes = nodes_room tree.wide tree.nodes p.parts l.same_nodes (λ k node parts e f. node_room image tree p node parts (l.nodes k node parts e f)) in
    let all = tiles_add_up (all_extents tree.wide p) p.heap.end l.tiles in
    let first = total_length-append (head_extents ++ live_extents tree.wide p) p.heap.gaps in
    let second = total_length-append head_extents (live_extents tree.wide p) in
    omega (arith, nodes, all, first, second, low)
